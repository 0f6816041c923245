-- One more frame of a stream ends at one octet, whatever the piece in which it came.
use Rattle.h2_laws_end.proofs.Names
use Names.{◌≡◌, ℕ, ◌+◌, List, [], ◌∷◌, ◌++◌, refl, sym, ap, ◌∙◌, subst, inl, inr, Frame}
use Names.{Bool, length, arith, head_of, WireFault, Limits, Frames, IsFrame, AreFrames, same_prefix}
use Names.{append_assoc, append-nil, length-append, expected_preface, EndsWithFault, same_following}
use Rattle.h2_wire.specs.Streams.{IsSound}
use Rattle.h2_wire.proofs.ReadingLemmas.{same_head, nine_in_frame, partial_stops, wrong_head_stops}
use Rattle.h2_wire.proofs.ReadingLemmas.{wrong_payload_stops}
use Rattle.h2_wire.proofs.FaultLemmas.{sound_no_wrong}
use Rattle.h2_wire.specs.declared.fault.WireFault.TheVariants as faults

-- Two sound frames at one place of a line have the same octets.
same_frame : (limit : ℕ) (frame other : Frame) (first second tail end : List ℕ)
    → IsFrame limit frame first → IsFrame limit other second → first ++ tail ≡ second ++ end
    → first ≡ second
same_frame limit frame other first second tail end sound complete line =
    let same : head_of first ≡ head_of second = same_head first second tail end
    (nine_in_frame _ _ _ sound) (nine_in_frame _ other second complete) line in
    let long : length first ≡ length second = sound.encodes.complete ∙ ap (λ head. 9 + head.length)
    same ∙ sym complete.encodes.complete in
    same_prefix first second tail end long line

-- What follows the octets of a frame, after what follows them in another list.
longer_body : (first following second beyond others body another : List ℕ)
    → body ≡ first ++ following → another ≡ second ++ beyond → first ≡ second
    → beyond ≡ following ++ others → another ≡ body ++ others
longer_body first following second beyond others body another split parted same more =
    parted ∙ ap (λ (octets : List ℕ). octets ++ beyond) (sym same) ∙ ap
    (λ (octets : List ℕ). first ++ octets) more ∙ sym (append_assoc _ _ others) ∙ ap
    (λ (octets : List ℕ). octets ++ others) (sym split)

-- Where one line begins with frames, and with the same frames and more, the same octets are those
-- that both begin with.
same_begin : (limits : Limits) (preceding : ℕ) (frames more : List Frame)
    (body another tail end : List ℕ) → AreFrames limits preceding frames body
    → AreFrames limits preceding (frames ++ more) another → body ++ tail ≡ another ++ end
    → (others : List ℕ) × (another ≡ body ++ others)
    × AreFrames limits (preceding + length body) more others
same_begin limits preceding [] more body another tail end none framed joined =
    let at : preceding ≡ preceding + length body = rw none (omega arith) in
    (another, rw none refl, subst (λ (n : ℕ). AreFrames limits n more another) at framed)
same_begin limits preceding (frame ∷ frames) more body another tail end
    (first, following, split, sound, framed) (second, beyond, parted, complete, sequel) joined =
    let line : first ++ (following ++ tail) ≡ second ++ (beyond ++ end) = sym
    (append_assoc first following tail) ∙ ap (λ (octets : List ℕ). octets ++ tail) (sym split)
    ∙ joined ∙ ap (λ (octets : List ℕ). octets ++ end) parted ∙ append_assoc second beyond end in
    let one = same_frame _ _ _ first second _ _ sound complete line in
    let sequel_now : AreFrames limits (preceding + length first) (frames ++ more) beyond =
    subst (λ (octets : List ℕ). AreFrames limits (preceding + length octets) (frames ++ more)
    beyond) (sym one) sequel in
    let follows = same_following first second _ _ (ap length one) line in
    let others = same_begin limits (preceding + length first) frames more following beyond tail end
    framed sequel_now follows in
    let at : preceding + length first + length following ≡ preceding + length body =
    rw (split, length-append) (omega arith) in (
      others.0,
      longer_body first following second beyond others.0 body another split parted one others.1,
      subst (λ (n : ℕ). AreFrames limits n more others.0) at others.2,
    )

-- Frames begin with some of them.
frames_begin : (limits : Limits) (preceding : ℕ) (frames more : List Frame) (body : List ℕ)
    → AreFrames limits preceding (frames ++ more) body
    → (first others : List ℕ) × (body ≡ first ++ others) × AreFrames limits preceding frames first
frames_begin limits preceding [] more body framed = ([], body, refl, refl)
frames_begin limits preceding (frame ∷ frames) more body (first, following, split, sound, framed) =
    let begin = frames_begin limits (preceding + length first) frames more following framed in (
      first ++ begin.0,
      begin.1,
      split ∙ ap (λ (octets : List ℕ). first ++ octets) begin.2
          ∙ sym (append_assoc first begin.0 begin.1),
      (first, begin.0, refl, sound, begin.3),
    )

-- A line begins with a sound part, and with one frame more.
pub record OneMore (limits : Limits) (part longer tail end : List ℕ) (frame : Frame) : Type 0 where
  pub last : List ℕ
  pub longer_is : longer ≡ part ++ last
  pub framed : IsFrame (limits (length part + 9)) frame last
  pub tail_is : tail ≡ last ++ end

-- The frame that the octets after the part are stands right after it.
one_more_of : (limits : Limits) (preface body part longer tail end : List ℕ) (frame : Frame)
    (others : List ℕ) → part ≡ preface ++ body → longer ≡ preface ++ (body ++ others)
    → part ++ tail ≡ longer ++ end
    → length preface + length body + 9 ≡ length part + 9
    → AreFrames limits (length preface + length body) (frame ∷ []) others
    → OneMore limits part longer tail end frame
one_more_of limits preface body part longer tail end frame others opened opens joined at
    (first, none, split, sound, nothing) =
    let others_is : others ≡ first = split ∙ ap (λ (octets : List ℕ). first ++ octets) nothing
    ∙ append-nil first in
    let longer_is : longer ≡ part ++ first = opens ∙ sym (append_assoc preface body others) ∙ ap
    (λ (octets : List ℕ). octets ++ others) (sym opened) ∙ ap (λ (octets : List ℕ). part ++ octets)
    others_is in
    record {
      last = first;
      longer_is = longer_is;
      framed = subst (λ (n : ℕ). IsFrame (limits n) frame first) at sound;
      tail_is = same_following part part tail (first ++ end) refl
          (joined ∙ ap (λ (octets : List ℕ). octets ++ end) longer_is ∙ append_assoc _ first _);
    }

module _ (expects : Bool) (limits : Limits) (frames : List Frame) where
  -- The frame stands right after the part.
  one_more : (frame : Frame) (part longer tail end : List ℕ) → IsSound expects limits frames part
      → IsSound expects limits (frames ++ frame ∷ []) longer → part ++ tail ≡ longer ++ end
      → OneMore limits part longer tail end frame
  one_more frame part longer tail end sound again joined =
      let preface = expected_preface expects in
      let line : preface ++ (sound.body ++ tail) ≡ preface ++ (again.body ++ end) =
      sym (append_assoc preface sound.body tail) ∙ ap (λ (octets : List ℕ). octets ++ tail)
      (sym sound.opened) ∙ joined ∙ ap (λ (octets : List ℕ). octets ++ end) again.opened
      ∙ append_assoc preface again.body end in
      let following : sound.body ++ tail ≡ again.body ++ end =
      same_following preface preface _ _ refl line in
      let begin = same_begin limits (length preface) frames (frame ∷ []) sound.body again.body tail
      end sound.framed again.framed following in
      let at : length preface + length sound.body + 9 ≡ length part + 9 =
      sym (ap (λ (octets : List ℕ). length octets + 9) sound.opened ∙ rw length-append refl) in
      one_more_of limits preface sound.body part longer tail end frame begin.0 sound.opened
      (again.opened ∙ ap (λ (octets : List ℕ). preface ++ octets) begin.1) joined at begin.2

  -- A stream that ends with a frame is a sound part.
  all_sound : (frame : Frame) (stream : List ℕ)
      → Frames expects limits stream (frames ++ frame ∷ []) []
      → IsSound expects limits (frames ++ frame ∷ []) stream
  all_sound frame stream (inl short) =
      let counted = simp length-append at (ap length short.none) in absurd (omega (arith, counted))
  all_sound frame stream (inr past) =
      subst (λ (octets : List ℕ). IsSound expects limits (frames ++ frame ∷ []) octets)
      (sym (past.joined ∙ append-nil past.part)) past.sound

  -- Two pieces that end with a frame after the same frames, of one line, are one.
  pub same_piece : (frame other : Frame) (stream another tail end : List ℕ)
      → Frames expects limits stream (frames ++ frame ∷ []) []
      → Frames expects limits another (frames ++ other ∷ []) [] → stream ++ tail ≡ another ++ end
      → stream ≡ another
  same_piece frame other stream another tail end read again joined =
      let sound = all_sound frame stream read in
      let complete = all_sound other another again in
      let begin = frames_begin limits _ frames (frame ∷ []) sound.body sound.framed in
      let preface = expected_preface expects in
      let part : IsSound expects limits frames (preface ++ begin.0) =
      record { body = begin.0; opened = refl; framed = begin.3 } in
      let line : (preface ++ begin.0) ++ (begin.1 ++ tail) ≡ stream ++ tail =
      sym (append_assoc (preface ++ begin.0) begin.1 tail)
      ∙ ap (λ (octets : List ℕ). octets ++ tail) (append_assoc preface begin.0 begin.1
      ∙ ap (λ (octets : List ℕ). preface ++ octets) (sym begin.2) ∙ sym sound.opened) in
      let ours = one_more frame _ stream _ tail part sound line in
      let theirs = one_more other _ another _ end part complete (line ∙ joined) in
      let one = same_frame _ frame other ours.last theirs.last tail end ours.framed theirs.framed
      (sym ours.tail_is ∙ theirs.tail_is) in
      ours.longer_is ∙ ap (λ (octets : List ℕ). (preface ++ begin.0) ++ octets) one
      ∙ sym theirs.longer_is

  -- A piece in which no frame ends begins with none in which one does.
  pub no_frame_in : (frame : Frame) (stream another unparsed end : List ℕ)
      → Frames expects limits stream frames unparsed
      → Frames expects limits another (frames ++ frame ∷ []) [] → stream ≡ another ++ end → ⊥
  no_frame_in frame stream another unparsed end (inl short) again joined =
      let complete = all_sound frame another again in
      let counted = simp length-append at (ap length (joined
      ∙ ap (λ (octets : List ℕ). octets ++ end) complete.opened)) in
      let few = short.short in
      omega (arith, counted, few)
  no_frame_in frame stream another unparsed end (inr past) again joined =
      let complete = all_sound frame another again in
      let more = one_more frame past.part another unparsed end past.sound
      complete (sym past.joined ∙ joined) in
      partial_stops _ unparsed past.partial frame more.last end more.tail_is more.framed

  -- A line in which a fault is made after frames has no frame after them.
  pub no_frame_at_fault : (frame : Frame) (octets another beyond end : List ℕ) (fault : WireFault)
      → EndsWithFault expects limits frames octets fault
      → Frames expects limits another (frames ++ frame ∷ []) [] → octets ++ beyond ≡ another ++ end
      → ⊥
  no_frame_at_fault frame octets another beyond end faults.BadPreface made again joined =
      let complete = all_sound frame another again in
      sound_no_wrong expects limits _ frames another end octets beyond complete made (sym joined)
  no_frame_at_fault frame octets another beyond end (faults.HeadFault head) made again joined =
      let complete = all_sound frame another again in
      let line : made.part ++ (made.last ++ beyond) ≡ another ++ end =
      sym (append_assoc made.part made.last beyond)
      ∙ ap (λ (line : List ℕ). line ++ beyond) (sym made.joined) ∙ joined in
      let more = one_more frame made.part another _ end made.sound complete line in
      wrong_head_stops _ made.last beyond head made.nine made.faulty frame more.last end
      more.tail_is more.framed
  no_frame_at_fault frame octets another beyond end (faults.PayloadFault code) made again joined =
      let complete = all_sound frame another again in
      let line : made.part ++ (made.last ++ beyond) ≡ another ++ end =
      sym (append_assoc made.part made.last beyond)
      ∙ ap (λ (line : List ℕ). line ++ beyond) (sym made.joined) ∙ joined in
      let more = one_more frame made.part another _ end made.sound complete line in
      wrong_payload_stops _ made.last beyond code made.complete made.faulty frame more.last end
      more.tail_is more.framed
  no_frame_at_fault frame octets another beyond end faults.Memory made again
      joined = made
