-- A relation of two logs holds between the log before a step and the log after it, where it holds
-- of a log and itself, of each small change, and of one change after another.
use Rattle.std.proofs.Common.{map as each}
use Rattle.h2_laws_log.proofs.Names
use Names.{Code, InternalError, Frame, Item, Begun, encoding_of_items, Event, Act, Answer, Refuse}
use Names.{Fail, PutOut, Number, Count, Done, OutOfMemory, Refused, In, Out, Happened, Log}
use Names.{max_payload_sent, log_view, Verdict, ConnectionFault, StreamFault, NoEvent, Reported}
use Names.{Decoded, FrameStep, fails_with, begins_block, completes, frame_step, replies_to}
use Names.{events_of, items_of, read, used, limits_from, with_sent, with_reported, with_unreturned}
use Names.{with_credit_returned, with_failure, with_verdict, with_step, with_frame, took_none}
use Names.{called, with_items, refused_with, before_put_out, with_call, ◌≢◌, ℕ, ◌+◌, List, [], ◌∷◌}
use Names.{◌++◌, Option, Some, None, refl}
use Rattle.h2_laws_log.proofs.CreditCases.{credit_cases, put_out_cases}

-- R holds where more is sent, and credit becomes due and is returned.
pub record HoldsOfWrites (R : Log → Log → Type 0) : Type 0 where
  -- of a log and itself
  pub none : (log : Log) → R log log
  -- of one change after another
  pub twice : (one two three : Log) → R one two → R two three → R one three
  -- where items are sent
  pub sent : (log : Log) (item : Item) (items : List Item)
      → R log (record log {
        sent = item ∷ items ++ log.sent;
        written = log.written ++ encoding_of_items (max_payload_sent log) (item ∷ items);
        payloads = each (λ one. max_payload_sent log) (item ∷ items) ++ log.payloads;
        turns = Out (encoding_of_items (max_payload_sent log) (item ∷ items)) ∷ log.turns;
      })
  -- where so much of the connection's window is unreturned
  pub unreturned : (log : Log) (count : ℕ) → R log (record log { unreturned = count })

-- R also holds where the connection fails.
pub record HoldsOfFailures (R : Log → Log → Type 0) : Type 0 where
  pub writes : HoldsOfWrites R
  -- where the connection fails with a code
  pub failed : (log : Log) (code : Code) → R log (record log { failed = Some code })

-- R also holds where output is put out.
pub record HoldsOfCalls (R : Log → Log → Type 0) : Type 0 where
  pub failures : HoldsOfFailures R
  -- where more octets of the output are put out
  pub given : (log : Log) (more : ℕ) → R log (record log { given = log.given + more })

-- R also holds where octets are used.
pub record HoldsOfReads (R : Log → Log → Type 0) : Type 0 where
  pub failures : HoldsOfFailures R
  -- where octets are used
  pub used : (log : Log) (octets unparsed : List ℕ)
      → R log (record log {
        input = log.input ++ octets;
        limits = limits_from log;
        unparsed = unparsed;
        turns = In octets ∷ log.turns;
      })
  -- where a frame ends
  pub framed : (log : Log) (frames : List Frame) → R log (record log { frames = frames })
  -- where a field block begins, goes on or is complete
  pub begun : (log : Log) (begun : Option Begun) → R log (record log { begun = begun })
  -- where an item is read
  pub read : (log : Log) (decoded : Option Decoded) (item : Item) → R log (read log decoded item)
  -- where an event is reported
  pub reported : (log : Log) (event : Event) (events : List Event)
      → R log (record log {
        reported = event ∷ events ++ log.reported;
        turns = each Happened (event ∷ events) ++ log.turns;
      })

module _ (R : Log → Log → Type 0) (holds : HoldsOfWrites R) where
  -- Items are sent.
  pub holds_sent : (log : Log) (items : List Item) → R log (with_sent log items)
  unfolding with_sent
  holds_sent log [] = holds.none log
  holds_sent log (item ∷ items) = holds.sent log item items

  -- All that is unreturned is returned.
  holds_returned : (log : Log) → R log (with_credit_returned log)
  holds_returned log =
      holds.twice log (record log { unreturned = 0 }) _ (holds.unreturned log 0) (holds_sent _ _)

  -- More is unreturned.
  pub holds_unreturned : (more : ℕ) (log : Log) → R log (with_unreturned more log)
  holds_unreturned more log =
      credit_cases (R log) more log
      (λ returns. holds.twice log (record log { unreturned = log.unreturned + more }) _
      (holds.unreturned log _) (holds_returned _)) (λ keeps. holds.unreturned log _)

  -- Items are sent, and more is unreturned.
  pub holds_sent_unreturned : (log : Log) (items : List Item) (more : ℕ)
      → R log (with_unreturned more (with_sent log items))
  holds_sent_unreturned log items more =
      holds.twice log (with_sent log items) _ (holds_sent log items) (holds_unreturned more _)

  -- A call that was made writes its items.
  pub holds_items : (log : Log) (act : Act) (answer : Answer)
      → R (called log act answer) (with_items log act answer)
  unfolding with_items
  holds_items log act answer =
      holds_sent_unreturned (called log act answer) (items_of (log_view log) act answer) _

  -- Before output is put out.
  pub holds_ready : (log : Log) → R log (before_put_out log)
  holds_ready log =
      put_out_cases (R log) log (λ returns. holds_returned log) (λ keeps. holds.none log)

module _ (R : Log → Log → Type 0) (holds : HoldsOfFailures R) where
  -- The connection fails, and GOAWAY is sent.
  pub holds_failure : (code : Code) (last : ℕ) (log : Log) → R log (with_failure code last log)
  holds_failure code last log =
      holds.writes.twice log (with_sent log _) _ (holds_sent R holds.writes log _)
      (holds.failed _ code)

  -- A call that was made refuses a stream, by the fault that this makes.
  pub holds_refused : (log : Log) (act : Act) (answer : Answer) (fault : Option Code)
      → R (called log act answer) (refused_with log act answer fault)
  unfolding refused_with
  holds_refused log act answer (Some code) = holds_failure code _ _
  holds_refused log act answer None = holds_items R holds.writes log act answer

  -- A call that was made and doesn't put output out.
  pub holds_other_call : (log : Log) (act : Act) (answer : Answer)
      → ((count : ℕ) → act ≢ PutOut count) → R (called log act answer) (with_call log act answer)
  unfolding with_call
  holds_other_call log act (Refused refusal) other =
      holds.writes.none (called log act (Refused refusal))
  holds_other_call log act OutOfMemory other = holds_failure InternalError _ _
  holds_other_call log (Refuse id code) (Number n) other = holds_refused log _ _ _
  holds_other_call log (Refuse id code) (Count n) other = holds_refused log _ _ _
  holds_other_call log (Refuse id code) Done other = holds_refused log _ _ _
  holds_other_call log (Fail code) answer other = holds_failure code _ _
  holds_other_call log (PutOut count) (Count n) other = absurd (other count refl)
  holds_other_call log act answer other = holds_items R holds.writes log act answer

module _ (R : Log → Log → Type 0) (holds : HoldsOfCalls R) where
  -- Output is put out.
  holds_put_out : (log : Log) (given : ℕ)
      → R log (record (before_put_out log) { given = log.given + given })
  unfolding with_sent
  holds_put_out log given =
      put_out_cases (λ next. R log (record next { given = log.given + given })) log
      (λ returns. holds.failures.writes.twice log (with_credit_returned log) _
      (holds_returned R holds.failures.writes log) (holds.given (with_credit_returned log) given))
      (λ keeps. holds.given log given)

  -- A call that was made.
  pub holds_call : (log : Log) (act : Act) (answer : Answer)
      → R (called log act answer) (with_call log act answer)
  unfolding with_call
  holds_call log act (Refused refusal) =
      holds.failures.writes.none (called log act (Refused refusal))
  holds_call log act OutOfMemory = holds_failure R holds.failures InternalError _ _
  holds_call log (Refuse id code) (Number n) = holds_refused R holds.failures log _ _ _
  holds_call log (Refuse id code) (Count n) = holds_refused R holds.failures log _ _ _
  holds_call log (Refuse id code) Done = holds_refused R holds.failures log _ _ _
  holds_call log (Fail code) answer = holds_failure R holds.failures code _ _
  holds_call log (PutOut count) (Count given) =
      holds_put_out (called log (PutOut count) (Count given)) given
  holds_call log act answer = holds_items R holds.failures.writes log act answer

module _ (R : Log → Log → Type 0) (holds : HoldsOfReads R) where
  -- Events are reported.
  holds_reported : (log : Log) (events : List Event) → R log (with_reported log events)
  unfolding with_reported
  holds_reported log [] = holds.failures.writes.none log
  holds_reported log (event ∷ events) = holds.reported log event events

  -- An item that is no fault of the connection.
  holds_item : (log : Log) (decoded : Option Decoded) (item : Item) (verdict : Verdict) (more : ℕ)
      → R log (with_reported (with_unreturned more
      (with_sent (read log decoded item) (replies_to verdict item)))
      (events_of (log_view log) decoded verdict item))
  holds_item log decoded item verdict more =
      let writes = holds.failures.writes in
      let base = read log decoded item in
      let after = with_unreturned more (with_sent base (replies_to verdict item)) in
      writes.twice log base _ (holds.read log decoded item)
      (writes.twice base after _ (holds_sent_unreturned R writes base _ more)
      (holds_reported after _))

  -- An item, by its verdict.
  holds_verdict : (log : Log) (decoded : Option Decoded) (item : Item) (verdict : Verdict)
      → R log (with_verdict log decoded item verdict)
  unfolding with_verdict
  holds_verdict log decoded item (ConnectionFault code) = holds_failure R holds.failures code _ log
  holds_verdict log decoded item (StreamFault code) =
      holds_item log decoded item (StreamFault code) _
  holds_verdict log decoded item NoEvent = holds_item log decoded item NoEvent _
  holds_verdict log decoded item Reported = holds_item log decoded item Reported _

  -- What a frame makes of the block that has begun.
  holds_step : (log : Log) (decoded : Option Decoded) (step : FrameStep)
      → R log (with_step log decoded step)
  unfolding with_step
  holds_step log decoded (fails_with code) = holds_failure R holds.failures code _ log
  holds_step log decoded (begins_block begun) = holds.begun log (Some begun)
  holds_step log decoded (completes item) =
      holds.failures.writes.twice log (record log { begun = None }) _ (holds.begun log None)
      (holds_verdict (record log { begun = None }) decoded item _)

  -- A frame.
  pub holds_frame : (log : Log) (decoded : Option Decoded) (frame : Frame)
      → R log (with_frame log decoded frame)
  unfolding with_frame
  holds_frame log decoded frame =
      holds.failures.writes.twice log (record log { frames = log.frames ++ frame ∷ [] }) _
      (holds.framed log _) (holds_step _ decoded (frame_step (log_view log) frame))

  -- Octets are used.
  pub holds_used : (log : Log) (octets unparsed : List ℕ) → R log (used log octets unparsed)
  unfolding used
  holds_used log octets unparsed = holds.used log octets unparsed

  -- The next stream that the peer doesn't process is reported.
  pub holds_none : (log : Log) → R log (took_none log)
  holds_none log =
      holds.failures.writes.twice log (with_unreturned _ log) _
      (holds_unreturned R holds.failures.writes _ log) (holds_reported _ _)
