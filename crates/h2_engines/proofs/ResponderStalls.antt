-- Why what waits is not written: the link has stalled, or memory was refused.
use Rattle.h2_engines.proofs.Names.{◌≡◌, ℕ, ◌∷◌, None, Result, Ok, Err, refl, ap, ◌∙◌, inl, Refusal}
use Rattle.h2_engines.proofs.Names.{PutOut, Refused, Log, MayAnswer, accepts, lacks, LinkError}
use Rattle.h2_engines.proofs.Names.{StallsAtNoProgress, EndRefusal, EndLog, call_calls}
use Rattle.h2_engines.proofs.Names.{end_with_log, with_call, error_after, Traffic, StallsWriting}
use Rattle.h2_engines.proofs.Names.{conditions, first_of, MayPump, ◌≢◌, refuses, fails}
use Rattle.h2_spec_log.specs.declared.refusal.Refusal.TheVariants as reasons
use Rattle.h2_link.specs.declared.error.LinkError.TheVariants as errors
use Rattle.h2_ends.specs.declared.refusal.EndRefusal.TheVariants as refusals

-- The link has stalled where a write says so, and wants no memory.
pub stalls_by_link : (now : Traffic) (end : EndLog) (error : LinkError) → error ≢ errors.Memory
    → StallsAtNoProgress {A = Unit {0}} (Err error) now.stalled
    → StallsWriting {A = Unit {0}} now end (Err error)
stalls_by_link now end errors.NoProgress other stalled = inl stalled
stalls_by_link now end errors.Memory other stalled = absurd (other refl)
stalls_by_link now end error other stalled = tt

-- A call that puts output out is refused only when out of memory.
put_out_lacks : {log : Log} {count : ℕ} {refusal : Refusal}
    → MayAnswer log (PutOut count) (Refused refusal) → refusal ≡ reasons.Memory
unfolding conditions first_of
put_out_lacks (accepts none is) = absurd (cc)
put_out_lacks (refuses other some is) = absurd (cc)
put_out_lacks (lacks none may is) = cc
put_out_lacks (fails none may is) = absurd (cc)

-- That ends a connection as such:
pub put_out_ends : {log : Log} {count : ℕ} {refusal : Refusal} {error : LinkError}
    → MayAnswer log (PutOut count) (Refused refusal) → error ≡ error_after (refusals.Conn refusal)
    → error ≡ errors.Memory
put_out_ends may is =
    is ∙ ap (λ (one : Refusal). error_after (refusals.Conn one)) (put_out_lacks may)

-- output can't be put out.
pub stalls_no_more : (now : Traffic) (end : EndLog) (count : ℕ) (refusal : Refusal)
    {error : LinkError} → MayAnswer end.log (PutOut count) (Refused refusal)
    → error ≡ error_after (refusals.Conn refusal)
    → StallsWriting {A = Unit {0}} now
    (end_with_log end (with_call end.log (PutOut count) (Refused refusal))) (Err error)
stalls_no_more now end count refusal may is =
    rw (put_out_ends may is) (record {
      count = count;
      before = end.log.calls;
      last = call_calls _ _ (Refused refusal) ∙ ap
          (λ (one : Refusal). (PutOut count, Refused one) ∷ end.log.calls) (put_out_lacks may);
    })

-- A pump is refused only so where the connection is up.
pub pump_refused : (end after : EndLog) (refusal : EndRefusal) → end.log.failed ≡ None
    → MayPump end (Err refusal) after → refusal ≡ refusals.Conn reasons.Memory
unfolding MayPump
pump_refused end after (refusals.Conn reasons.Closed) up may = absurd (may.0 up)
pump_refused end after (refusals.Conn reasons.Memory) up may = refl
pump_refused end after other up may = absurd may
