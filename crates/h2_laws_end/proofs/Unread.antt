-- What a log keeps where nothing is read: calls, failures, and streams that are reported as
-- unprocessed change nothing of what was read.
use Rattle.h2_laws_end.proofs.Names.{◌≡◌, ℕ, List, [], ◌∷◌, ◌++◌, None, refl, sym, ◌∙◌, Code, Item}
use Rattle.h2_laws_end.proofs.Names.{Event, Act, Answer, Log, with_unreturned, with_failure}
use Rattle.h2_laws_end.proofs.Names.{took_none, called, with_call, none_some, holds_unreturned}
use Rattle.h2_laws_end.proofs.Names.{holds_failure, with_sent, with_reported, holds_call}
use Rattle.h2_laws_log.proofs.GrowthBySteps.{HoldsOfCalls}

-- The second log has read what the first has, and is up only where the first is.
pub record ReadsNothing (old new : Log) : Type 0 where
  pub frames : new.frames ≡ old.frames
  pub begun : new.begun ≡ old.begun
  pub received : new.received ≡ old.received
  pub up : new.failed ≡ None → old.failed ≡ None

-- one change after another
pub reads_twice : (one two three : Log) → ReadsNothing one two → ReadsNothing two three
    → ReadsNothing one three
reads_twice one two three a b = record {
  frames = b.frames ∙ a.frames;
  begun = b.begun ∙ a.begun;
  received = b.received ∙ a.received;
  up = λ up. a.up (b.up up);
}

-- A change of none of these reads nothing.
reads_none : (old new : Log) → new.frames ≡ old.frames → new.begun ≡ old.begun
    → new.received ≡ old.received → new.failed ≡ old.failed → ReadsNothing old new
reads_none old new frames begun received failed = record {
  frames = frames;
  begun = begun;
  received = received;
  up = λ up. sym failed ∙ up;
}

-- Each change of a log by a call reads nothing.
reads_by_calls : HoldsOfCalls ReadsNothing
reads_by_calls = record {
  failures = record {
    writes = record {
      none = λ log. reads_none log log refl refl refl refl;
      twice = reads_twice;
      sent = λ log item items. reads_none log _ refl refl refl refl;
      unreturned = λ log count. reads_none log _ refl refl refl refl;
    };
    failed = λ log code. record {
      frames = refl;
      begun = refl;
      received = refl;
      up = λ up. none_some code (sym up);
    };
  };
  given = λ log more. reads_none log _ refl refl refl refl;
}

-- Events are reported.
pub reads_reported : (log : Log) (events : List Event) → ReadsNothing log (with_reported log events)
unfolding with_reported
reads_reported log [] = reads_none log log refl refl refl refl
reads_reported log (event ∷ events) = reads_none log _ refl refl refl refl

-- What is written changes nothing that was read, and stands before what was written.
pub wrote_reads : (log : Log) (items : List Item)
    → ((with_sent log items).frames ≡ log.frames) × ((with_sent log items).begun ≡ log.begun)
    × ((with_sent log items).received ≡ log.received)
    × ((with_sent log items).sent ≡ items ++ log.sent)
unfolding with_sent
wrote_reads log [] = (refl, refl, refl, refl)
wrote_reads log (item ∷ items) = (refl, refl, refl, refl)

-- What is due is settled.
pub reads_unreturned : (more : ℕ) (log : Log) → ReadsNothing log (with_unreturned more log)
reads_unreturned = holds_unreturned ReadsNothing reads_by_calls.failures.writes

-- The connection fails.
pub reads_fails : (code : Code) (last : ℕ) (log : Log)
    → ReadsNothing log (with_failure code last log)
reads_fails = holds_failure ReadsNothing reads_by_calls.failures

-- A call reads nothing.
pub reads_call : (log : Log) (act : Act) (answer : Answer)
    → ReadsNothing log (with_call log act answer)
reads_call log act answer =
    reads_twice log (called log act answer) _ (reads_none log _ refl refl refl refl)
    (holds_call ReadsNothing reads_by_calls log act answer)

-- Nor does a stream that is reported as unprocessed.
pub reads_unprocessed : (log : Log) → ReadsNothing log (took_none log)
reads_unprocessed log = reads_twice log _ _ (reads_unreturned _ log) (reads_reported _ _)
