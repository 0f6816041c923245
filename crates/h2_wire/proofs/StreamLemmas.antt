-- Streams that continue: by octets that complete no frame, and by those that do.
use Rattle.h2_wire.proofs.Names.{◌≡◌, ℕ, ◌+◌, nat_lt, ◌&&◌, Bool, true, false, List, [], ◌∷◌, ◌++◌}
use Rattle.h2_wire.proofs.Names.{length, refl, ap, sym, ◌∙◌, arith, append_assoc, length-append}
use Rattle.h2_wire.proofs.Names.{append-nil, Frame, Limits, IsFrame, AreFrames, IsSound, IsPartial}
use Rattle.h2_wire.proofs.Names.{IsAfterPreface}
use Rattle.h2_wire.specs.Streams.{preface, expected_preface}
use Rattle.std.proofs.lemmas.Bool.{le-ltb}

-- one more frame after frames
pub AreFrames-push : (limits : Limits) (preceding : ℕ) (frames : List Frame) (body : List ℕ)
    (frame : Frame) (last : List ℕ)
    → AreFrames limits preceding frames body
    → IsFrame (limits (preceding + length body + 9)) frame last
    → AreFrames limits preceding (frames ++ frame ∷ []) (body ++ last)
AreFrames-push limits preceding [] body frame last none complete =
    let nothing : preceding + length body + 9 ≡ preceding + 9 = rw none (omega arith) in
    (last, [], rw none (sym (append-nil last)), (rw nothing at complete), refl)
AreFrames-push limits preceding (other ∷ frames) body frame last
    (first, others, joined, other_whole, unparsed) complete =
    let counted : preceding + length body + 9 ≡ preceding + length first + length others + 9 =
    rw (joined, length-append) (omega arith) in (
      first,
      others ++ last,
      rw joined (append_assoc first others last),
      other_whole,
      AreFrames-push limits (preceding + length first) frames others frame last unparsed
          (rw counted at complete),
    )

-- one more frame after a sound part
pub IsSound-push : (expects : Bool) (limits : Limits) (frames : List Frame) (part : List ℕ)
    (frame : Frame) (last : List ℕ)
    → IsSound expects limits frames part → IsFrame (limits (length part + 9)) frame last
    → IsSound expects limits (frames ++ frame ∷ []) (part ++ last)
IsSound-push expects limits frames part frame last sound complete =
    let counted : length part + 9 ≡ length (expected_preface expects) + length sound.body + 9 =
    ap (λ (octets : List ℕ). length octets + 9) sound.opened ∙ rw length-append refl in
    record {
      body = sound.body ++ last;
      opened = ap (λ (octets : List ℕ). octets ++ last) sound.opened
          ∙ append_assoc (expected_preface expects) sound.body last;
      framed =
          AreFrames-push limits (length (expected_preface expects)) frames sound.body frame last
          sound.framed (rw counted at complete);
    }

-- nothing is a partial frame
pub IsPartial-empty : (limit : ℕ) → IsPartial limit []
IsPartial-empty limit nine = absurd (omega arith)

-- the stream continues, and no frame is complete
pub past_more : (expects : Bool) (limits : Limits) (stream : List ℕ) (frames : List Frame)
    (unparsed more : List ℕ)
    → (past : IsAfterPreface expects limits stream frames unparsed)
    → IsPartial (limits (length past.part + 9)) (unparsed ++ more)
    → IsAfterPreface expects limits (stream ++ more) frames (unparsed ++ more)
past_more expects limits stream frames unparsed more past partial = record {
  part = past.part;
  joined = ap (λ (octets : List ℕ). octets ++ more) past.joined
      ∙ append_assoc past.part unparsed more;
  sound = past.sound;
  partial = partial;
}

-- the stream continues, and completes a frame
pub past_frame : (expects : Bool) (limits : Limits) (stream : List ℕ) (frames : List Frame)
    (unparsed more : List ℕ) (frame : Frame)
    → (past : IsAfterPreface expects limits stream frames unparsed)
    → IsFrame (limits (length past.part + 9)) frame (unparsed ++ more)
    → IsAfterPreface expects limits (stream ++ more) (frames ++ frame ∷ []) []
past_frame expects limits stream frames unparsed more frame past complete = record {
  part = past.part ++ (unparsed ++ more);
  joined = ap (λ (octets : List ℕ). octets ++ more) past.joined
      ∙ append_assoc past.part unparsed more ∙ sym (append-nil _);
  sound = IsSound-push expects limits frames past.part frame (unparsed ++ more) past.sound complete;
  partial = IsPartial-empty _;
}

-- after the preface none is awaited
pub past_not_in_preface : (expects : Bool) (limits : Limits) (stream : List ℕ) (frames : List Frame)
    (unparsed : List ℕ)
    → IsAfterPreface expects limits stream frames unparsed
    → expects && nat_lt (length stream) 24 ≡ false
unfolding expected_preface preface
past_not_in_preface false limits stream frames unparsed past = refl
past_not_in_preface true limits stream frames unparsed past =
    let counted =
    simp length-append at (ap length (past.joined
    ∙ ap (λ (octets : List ℕ). octets ++ unparsed) past.sound.opened)) in
    le-ltb (length stream) 24 (omega (arith, counted))
