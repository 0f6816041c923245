-- A stream is forgotten if it is over.
use Rattle.h2_ends.proofs.Names.{◌≡◌, ℕ, false, Option, None, refl, inl, inr, both_ways, cases_eq}
use Rattle.h2_ends.proofs.Names.{Values, active, End, Stream, Spans, EndLog, KeepsOne}
use Rattle.h2_ends.proofs.Names.{EndRepresents, RepresentsBut, IsInStep, kept_at}
use Rattle.h2_ends.proofs.EndSteps.{forgotten}

-- Of a stream that isn't active nothing need be kept.
none_in_step : (spans : Spans) (stream : Option Stream) (happened : EndLog) (id : ℕ)
    → active happened.log id ≡ false → IsInStep spans stream happened id
    → IsInStep spans None happened id
none_in_step spans stream happened id still is =
    record {
      all = λ up alive. absurd (both_ways _ still alive);
      handed = is.handed;
      within = λ waiting waits. cc;
      owes = is.owes;
      turn = is.turn;
      malformed = is.malformed;
    }

-- So it may be forgotten.
pub forgets : (values : Values) (end new : End) (happened : EndLog) (id : ℕ)
    → RepresentsBut values end happened id → active happened.log id ≡ false
    → new.conn ≡ end.conn → new.role ≡ end.role → new.spans ≡ end.spans
    → KeepsOne end new id None → EndRepresents values new happened
forgets values end new happened id is still conn role spans keeps =
    record {
      streams = forgotten values end new happened id is.streams still conn role keeps;
      in_step = λ i. elim (cases_eq i id) [
        | inl here ↦ rw (here, spans, keeps.one)
            (none_in_step end.spans (kept_at id end.streams.entries) happened id still
            (is.in_step id))
        | inr other ↦ rw (spans, keeps.others i other) (is.in_step i)
      ];
      active = λ i. elim (cases_eq i id) [
        | inl here ↦ rw (here, keeps.one) (λ some. absurd (some refl))
        | inr other ↦ rw (keeps.others i other) (is.active i other)
      ];
    }
