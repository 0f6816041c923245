-- What a call leaves, from what it makes of the stream.
use Rattle.h2_wire.proofs.Names.{◌≡◌, ℕ, ◌+◌, ◌≤◌, Bool, false, List, [], ◌++◌, length, take, None}
use Rattle.h2_wire.proofs.Names.{Some, ap, sym, ◌∙◌, inr, arith, length-append, Frame, WireFault}
use Rattle.h2_wire.proofs.Names.{Limits, IsAfterPreface, EndsWithFault, CutterState, saturated}
use Rattle.h2_wire.proofs.Names.{CutterRepresents, CutterContinues, CutterFaults}
use Rattle.h2_wire.specs.Streams.{preface}
use Rattle.h2_wire.specs.Faults.{is_bad_preface}
use Rattle.std.proofs.Math.Seq.{take-append-add}
use Rattle.h2_wire.proofs.StreamLemmas.{past_not_in_preface}

-- counts are added one after another
pub saturated-add : (count more : ℕ) → saturated (saturated count + more) ≡ saturated (count + more)
saturated-add count more = omega arith

-- A call continues where it leaves a state without fault after the preface, with the count of what
-- it used.
pub continues_after : (old new : CutterState) (used : List ℕ) (frames : List Frame)
    → new.fault ≡ None → new.in_preface ≡ false → new.limit ≡ old.limit
    → new.greatest ≡ old.greatest
    → new.place ≡ saturated (old.place + length used)
    → ((expects : Bool) (limits : Limits) (stream : List ℕ) (so_far : List Frame)
    → CutterRepresents old expects limits stream so_far
    → IsAfterPreface expects limits (stream ++ used) (so_far ++ frames) new.unparsed)
    → CutterContinues old used frames new
unfolding preface
continues_after old new used frames sound in_preface limit greatest place past = record {
  sound = sound;
  same_limit = limit;
  same_greatest = greatest;
  represents = λ expects limits stream so_far represented. record {
    sound = sound;
    split = inr (past expects limits stream so_far represented);
    in_preface = in_preface
        ∙ sym (past_not_in_preface expects limits (stream ++ used) (so_far ++ frames) new.unparsed
        (past expects limits stream so_far represented));
    place = place ∙ ap (λ (n : ℕ). saturated (n + length used)) represented.place
        ∙ saturated-add (length stream) (length used)
        ∙ ap saturated (sym (length-append stream used));
    ahead = λ at later. represented.ahead at (omega (arith, length-append stream used)) ∙ sym limit;
  };
}

-- A call fails where some octets of the piece make the fault.
pub fails_at : (old new : CutterState) (piece : List ℕ) (fault : WireFault) (used : ℕ)
    → new.fault ≡ Some fault → new.unparsed ≡ [] → new.in_preface ≡ is_bad_preface fault
    → new.limit ≡ old.limit → new.greatest ≡ old.greatest
    → used ≤ length piece → new.place ≡ saturated (old.place + used)
    → ((expects : Bool) (limits : Limits) (stream : List ℕ) (so_far : List Frame)
    → CutterRepresents old expects limits stream so_far
    → EndsWithFault expects limits so_far (stream ++ take used piece) fault)
    → CutterFaults old piece fault new
fails_at old new piece fault used known nothing inside limit greatest within place made = record {
  known = known;
  none_unparsed = nothing;
  in_preface = inside;
  same_limit = limit;
  same_greatest = greatest;
  at = λ expects limits stream so_far represented. (
    length stream + used,
    record {
      within = simp length-append (omega arith);
      made = rw (take-append-add stream piece used) (made expects limits stream so_far represented);
    },
    place ∙ ap (λ (n : ℕ). saturated (n + used)) represented.place
        ∙ saturated-add (length stream) used,
  );
}
