-- The lines of what is handed out, in the two parts in which they are written.
use Rattle.std.proofs.Common.{◌≡◌, ◌⊎◌, ℕ, true, List, [], ◌++◌, Option, Some, None, refl}
use Rattle.std.proofs.Common.{arith, sym, ap, subst, append-nil, inl, inr}
use Rattle.h2_frame.specs.declared.code.Code.TheVariants.{InternalError}
use Rattle.h2_spec_log.specs.Events.{FieldsEvent, DataEvent, ResetEvent, GoAwayEvent}
use Rattle.h2_spec_log.specs.Events.{UnprocessedEvent, AckedEvent, PongEvent}
use Rattle.h2_ends.specs.Ends.{EndLog, Handed, InterimHanded, HeadHanded, BodyHanded}
use Rattle.h2_ends.specs.Ends.{TrailersHanded, Passed, EndTook, EndFailed}
use Rattle.h2_ends.specs.EndTakes.{EndMayTake, fails, hands_nothing, passes, hands_out, refuses}
use Rattle.h2_ends.specs.EndTakes.{refusal_fails, runs_out_of_memory}
use Rattle.h2_events.specs.EventLines.{event_lines}
use Rattle.h2_messages.specs.Rules.{RefusedPart, refused_in}
use Rattle.h2_messages.specs.PartLines.{handed_lines, lent_lines, unwritten_of, unwritten_lines}
use Rattle.h2_messages.specs.Taking.{hands_in}

-- both parts are the lines
pub both_lines : (flow : ℕ) (handed : Option Handed)
    → lent_lines handed ++ unwritten_lines flow (unwritten_of handed) ≡ handed_lines flow handed
unfolding event_lines
both_lines flow None = refl
both_lines flow (Some (InterimHanded id list)) = append-nil _
both_lines flow (Some (HeadHanded id list end)) = append-nil _
both_lines flow (Some (BodyHanded id octets end)) = refl
both_lines flow (Some (TrailersHanded id list)) = append-nil _
both_lines flow (Some (Passed (FieldsEvent id list end))) = append-nil _
both_lines flow (Some (Passed (DataEvent id octets count end))) = append-nil _
both_lines flow (Some (Passed (ResetEvent id code ours))) = refl
both_lines flow (Some (Passed (GoAwayEvent last code))) = append-nil _
both_lines flow (Some (Passed (UnprocessedEvent id))) = append-nil _
both_lines flow (Some (Passed AckedEvent)) = append-nil _
both_lines flow (Some (Passed (PongEvent octets))) = append-nil _

-- Where something is handed out, that is said.
pub says_some : (handed : Handed) → hands_in (unwritten_of (Some handed)) ≡ true
says_some (InterimHanded id list) = refl
says_some (HeadHanded id list end) = refl
says_some (BodyHanded id octets end) = refl
says_some (TrailersHanded id list) = refl
says_some (Passed (FieldsEvent id list end)) = refl
says_some (Passed (DataEvent id octets count end)) = refl
says_some (Passed (ResetEvent id code ours)) = refl
says_some (Passed (GoAwayEvent last code)) = refl
says_some (Passed (UnprocessedEvent id)) = refl
says_some (Passed AckedEvent) = refl
says_some (Passed (PongEvent octets)) = refl

-- Nothing is refused anew where the last refused part is the same.
pub none_refused : (before after : Option RefusedPart) → after ≡ before
    → refused_in before after ≡ None
none_refused before after same =
    subst (λ (last : Option RefusedPart). refused_in before last ≡ None) (sym same) (again before)
  where
    again : (last : Option RefusedPart) → refused_in last last ≡ None
    again None = refl
    again (Some part) = grind arith

-- Where a part was refused nothing was written while it was lent.
pub refused_or_not : (end next : EndLog) (piece : List ℕ) (count : ℕ) (handed : Option Handed)
    → EndMayTake end piece (EndTook count handed) next
    → (next.malformed ≡ end.malformed) ⊎ (lent_lines handed ≡ [])
refused_or_not end next piece count handed (fails code log may is after_is) = absurd (took_not is)
  where
    took_not : EndTook count handed ≡ EndFailed code → ⊥
    took_not is = cc
refused_or_not end next piece count handed (hands_nothing used log may is after_is) =
    inl (ap (λ (one : EndLog). one.malformed) after_is)
refused_or_not end next piece count handed (passes used event log may none is after_is) =
    inl (ap (λ (one : EndLog). one.malformed) after_is)
refused_or_not end next piece count handed
    (hands_out used event log may id part some readable is after_is) =
    inl (ap (λ (one : EndLog). one.malformed) after_is)
refused_or_not end next piece count handed
    (refuses used event log may id part some not answer refused up is after_is) =
    inr (ap lent_lines (handed_is is))
  where
    handed_is : EndTook count handed ≡ EndTook used (Some (Passed (ResetEvent id 1 true)))
        → handed ≡ Some (Passed (ResetEvent id 1 true))
    handed_is same = cc
refused_or_not end next piece count handed
    (refusal_fails used event log may id part some not answer refused code failed is after_is) =
    absurd (took_not is)
  where
    took_not : EndTook count handed ≡ EndFailed code → ⊥
    took_not is = cc
refused_or_not end next piece count handed
    (runs_out_of_memory used id list ends log may server first readable refused answers is _) =
    absurd (took_not is)
  where
    took_not : EndTook count handed ≡ EndFailed InternalError → ⊥
    took_not is = cc
