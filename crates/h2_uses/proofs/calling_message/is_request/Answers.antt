-- The reading has followed both parts, so they begin a message.
use Rattle.std.proofs.Common.{true, false, [], ◌∷◌, refl}
use Rattle.h2_message.specs.declared.reading.Reads.TheVariants.{Requests}
use Rattle.h2_message.specs.Reading.{FieldsPart, OctetsPart}
use Rattle.h2_message.specs.Phases.{Follows, FollowsFields, FollowsData}
use Rattle.h2_uses.proofs.calling_message.is_request.Goals as goal

pub returns-in-Some-Head : goal.returns-in-Some-Head
unfolding FollowsFields FollowsData
returns-in-Some-Head c = λ yes.
    let head : Follows Requests ((FieldsPart c.args.head.now, false) ∷ []) c.fields.new.self =
    (rw c.in-Some-Head.is at (c.fields.ensures Requests [] c.new-reading.ensures)).0 in
    let body : Follows Requests
    ((FieldsPart c.args.head.now, false) ∷ ((OctetsPart c.args.body.now, true) ∷ []))
    c.data.new.self =
    rw yes at (c.data.ensures Requests ((FieldsPart c.args.head.now, false) ∷ [])
    c.args.body.now refl head) in
    body.readable
