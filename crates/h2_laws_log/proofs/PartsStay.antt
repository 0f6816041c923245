-- A part of a log that neither what is sent nor credit changes stays the same after both. The calls
-- stay the same after all but a call, which is one more.
use Rattle.std.proofs.Common.{◌≡◌, ℕ, List, ◌∷◌, refl}
use Rattle.h2_laws_log.proofs.Names.{Item, Act, Answer, Turn, Log, with_sent, with_call, rules}
use Rattle.h2_laws_log.proofs.GrowthBySteps.{HoldsOfWrites, HoldsOfFailures, HoldsOfReads}
use Rattle.h2_laws_log.proofs.GrowthBySteps.{holds_call, holds_sent}

-- The part of the second log is that of the first.
abbrev pub SamePart : {A : Type 0} (part : Log → A) → Log → Log → Type 0
SamePart part old new = part new ≡ part old

-- It stays where items are sent and credit becomes due and is returned.
pub stays_written : {A : Type 0} (part : Log → A)
    → ((log : Log) (sent : List Item) (written payloads : List ℕ) (turns : List Turn)
    → SamePart part log (record log {
      sent = sent;
      written = written;
      payloads = payloads;
      turns = turns;
    }))
    → ((log : Log) (count : ℕ) → SamePart part log (record log { unreturned = count }))
    → HoldsOfWrites (SamePart part)
stays_written part sent unreturned = search rules

-- The second log has the calls of the first.
abbrev pub SameCalls : Log → Log → Type 0
SameCalls = SamePart (λ log. log.calls)

-- They stay where the connection fails, too,
pub calls_written : HoldsOfFailures SameCalls
calls_written = search rules

-- and where octets are used.
pub calls_read : HoldsOfReads SameCalls
calls_read = assumption calls_written

-- What is sent is no call.
pub sent_calls : (log : Log) (items : List Item) → (with_sent log items).calls ≡ log.calls
sent_calls = holds_sent SameCalls calls_written.writes

-- A call is one more.
pub call_calls : (log : Log) (act : Act) (answer : Answer)
    → (with_call log act answer).calls ≡ (act, answer) ∷ log.calls
call_calls log act answer =
    holds_call SameCalls (record { failures = calls_written; given = λ log more. refl }) _ _ answer
