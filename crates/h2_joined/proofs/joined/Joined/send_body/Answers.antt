-- By the lemmas on octets that are sent.
use Rattle.h2_joined.proofs.Names
use Names.{◌≡◌, ◌==◌, ℕ, length, take, ap, ◌∙◌, refl, arith, all_octets, IsTypedAct}
use Names.{kept_of, length-take}
use Rattle.std.specs.Prelude.{◌&&◌}
use Rattle.std.proofs.lemmas.List.{take_min}
use Rattle.h2_joined.specs.Joints.{SendsBody, no_copy_of_octets}
use Rattle.h2_joined.specs.Parts.{HasRoomInBody}
use Rattle.h2_joined.proofs.KeptActs.{acts_without_copy}
use Rattle.h2_joined.proofs.CodeParts.{changes_shown, room_for_fewer, body_refused_acts, body_acts}
use Rattle.h2_joined.proofs.joined.Joined.send_body.Goals.{then-end, else-end}
use Rattle.h2_joined.proofs.joined.Joined.send_body.Goals as goal

pub returns-then-not-make_room_in_body : goal.returns-then-not-make_room_in_body
returns-then-not-make_room_in_body c =
    let room = c.make_room_in_body.new.self in
    acts_without_copy c.args.side c.args.self.now room
    (SendsBody c.args.id c.args.octets.now c.args.end)
    (λ one other. no_copy_of_octets c.args.id c.args.octets.now c.args.end)
    c.make_room_in_body.ensures.same.one_end
    (changes_shown c.args.side c.args.self.now room c.make_room_in_body.ensures.same)

pub returns-after-end : goal.returns-after-end
unfolding IsTypedAct
returns-after-end c =
    let side = c.args.side in
    let room = c.make_room_in_body.new.self in
    let sent = c.end_sends_body.new.self in
    let octets = c.args.octets.now in
    let count = c.in-Ok.count in
    let ended : c.if-end.keep_octets ≡ (c.args.end && count == length octets) =
    elim c.if-end.branch [
      | then-end w ↦ w.keep_octets-is ∙ rw w.if-end.true refl
      | else-end w ↦ w.keep_octets-is ∙ rw w.if-end.false refl
    ] in
    let fewer = length-take c.min.result octets in
    let fits : HasRoomInBody (kept_of side sent).accepted.items c.args.id
    (length (take c.min.result octets)) =
    rw c.end_sends_body.ensures.only.kept
    (room_for_fewer (kept_of side room).accepted.items c.args.id (length octets)
    (length (take c.min.result octets)) (omega (arith, fewer))
    (c.make_room_in_body.ensures.room c.if-not-make_room_in_body.false)) in
    body_acts side c.args.self.now room sent c.make_room_in_body.ensures.same
    c.end_sends_body.ensures.only c.keep_octets.new.self _ (c.keep_octets.ensures fits) c.args.id
    octets (take c.min.result octets) c.args.end c.if-end.keep_octets count
    (ap (λ (n : ℕ). take n octets) c.min.ensures ∙ take_min count octets) ended refl
    (omega arith, all_octets octets c.type_inv.octets) c.in-Ok.ensures.sends

pub returns-in-Err : goal.returns-in-Err
unfolding IsTypedAct
returns-in-Err c =
    body_refused_acts c.args.side c.args.self.now c.make_room_in_body.new.self
    c.end_sends_body.new.self c.make_room_in_body.ensures.same c.end_sends_body.ensures.only
    c.args.id c.args.octets.now c.args.end c.in-Err.refusal
    (omega arith, all_octets c.args.octets.now c.type_inv.octets) c.in-Err.ensures.sends
