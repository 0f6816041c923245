-- What a log keeps of its stream: items, calls and faults leave the octets, their limits, their
-- frames and the rest as they are; so the frames of a log that comes about are those of its octets.
use Rattle.std.proofs.Common.{◌≡◌, ℕ, ◌+◌, true, false, if◌then◌else◌, List, [], ◌∷◌, ◌++◌, Some}
use Rattle.std.proofs.Common.{None, refl}
use Rattle.h2_spec_log.specs.ItemRules.{FrameStep}
use Rattle.h2_spec_log.specs.Histories.{took_some}
use Rattle.h2_spec_log.specs.LogSteps.{read, with_credit_returned, with_failure}
use Rattle.h2_spec_log.specs.Limits.{full_output}
use Rattle.h2_spec_log.proofs.Names
use Names.{nat_lt, ◌&&◌, Bool, Option, sym, ◌∙◌, arith, InternalError, Frame, Item, Role, Client}
use Names.{Server, Event, Values, Act, Refuse, Fail, PutOut, Count, OutOfMemory, Refused, Log}
use Names.{ConnectionFault, log_view, Decoded, replies_to, fails_with, completes, frame_step}
use Names.{begins, IsLog, called_one, took_none, items_of, inl, inr, Code, preface}
use Names.{expected_preface, Frames, Answer, is_server, last_processed, Verdict, begins_block}
use Names.{took_one, met_fault, ran_out_of_memory, reported_one, with_sent, with_reported}
use Names.{with_unreturned, with_verdict, used, with_step, with_frame, called, with_items}
use Names.{refused_with, before_put_out, with_call, opened, waiting, Some}

-- The second log has the stream of the first, and is up only where that is.
pub record Keeps (old new : Log) : Type 0 where
  pub role : new.role ≡ old.role
  pub input : new.input ≡ old.input
  pub limits : new.limits ≡ old.limits
  pub frames : new.frames ≡ old.frames
  pub unparsed : new.unparsed ≡ old.unparsed
  pub up : new.failed ≡ None → old.failed ≡ None

-- a log with the same stream
Keeps-same : (log next : Log) → next.role ≡ log.role → next.input ≡ log.input
    → next.limits ≡ log.limits → next.frames ≡ log.frames → next.unparsed ≡ log.unparsed
    → next.failed ≡ log.failed → Keeps log next
Keeps-same log next role input limits frames unparsed failed = record {
  role = role;
  input = input;
  limits = limits;
  frames = frames;
  unparsed = unparsed;
  up = λ up. sym failed ∙ up;
}

-- a log that is left as it is
Keeps-refl : (log : Log) → Keeps log log
Keeps-refl log = Keeps-same log _ refl refl refl refl refl refl

-- one step after another
Keeps-trans : (one two three : Log) → Keeps one two → Keeps two three → Keeps one three
Keeps-trans one two three a b = record {
  role = b.role ∙ a.role;
  input = b.input ∙ a.input;
  limits = b.limits ∙ a.limits;
  frames = b.frames ∙ a.frames;
  unparsed = b.unparsed ∙ a.unparsed;
  up = λ h. a.up (b.up h);
}

-- one of two logs
Keeps-if : (test : Bool) (log one two : Log) → Keeps log one → Keeps log two
    → Keeps log (if test then one else two)
Keeps-if true log one two a b = a
Keeps-if false log one two a b = b

-- writing
Keeps-with_sent : (log : Log) (items : List Item) → Keeps log (with_sent log items)
unfolding with_sent
Keeps-with_sent log [] = Keeps-refl log
Keeps-with_sent log (item ∷ items) = Keeps-same log _ refl refl refl refl refl refl

-- reporting
Keeps-with_reported : (log : Log) (events : List Event) → Keeps log (with_reported log events)
unfolding with_reported
Keeps-with_reported log [] = Keeps-refl log
Keeps-with_reported log (event ∷ events) = Keeps-same log _ refl refl refl refl refl refl

-- octets that are due
Keeps-unreturned : (log : Log) (count : ℕ) → Keeps log (record log { unreturned = count })
Keeps-unreturned log count = Keeps-same log _ refl refl refl refl refl refl

-- returning what is due
Keeps-with_credit_returned : (log : Log) → Keeps log (with_credit_returned log)
Keeps-with_credit_returned log = Keeps-trans log (record log { unreturned = 0 })
    (with_credit_returned log) (Keeps-unreturned log 0) (Keeps-with_sent _ _)

-- and settling it
Keeps-with_unreturned : (more : ℕ) (log : Log) → Keeps log (with_unreturned more log)
unfolding with_unreturned
Keeps-with_unreturned more log =
    Keeps-if (nat_lt 0 more && nat_lt (waiting log) full_output) log _ _
    (Keeps-trans log (record log { unreturned = log.unreturned + more }) _
    (Keeps-unreturned log _) (Keeps-with_credit_returned _)) (Keeps-unreturned log _)

-- a connection that fails
Keeps-with_failure : (code : Code) (last : ℕ) (log : Log) → Keeps log (with_failure code last log)
Keeps-with_failure code last log =
    let k = Keeps-with_sent log _ in
    record {
      role = k.role;
      input = k.input;
      limits = k.limits;
      frames = k.frames;
      unparsed = k.unparsed;
      up = λ h. cc;
    }

-- reading an item
Keeps-read : (log : Log) (decoded : Option Decoded) (item : Item)
    → Keeps log (read log decoded item)
Keeps-read log decoded item = Keeps-same log _ refl refl refl refl refl refl

-- and all that it makes
Keeps-verdict : (log : Log) (decoded : Option Decoded) (item : Item) (verdict : Verdict)
    → Keeps log (with_verdict log decoded item verdict)
unfolding with_verdict
Keeps-verdict log decoded item (ConnectionFault code) = Keeps-with_failure code _ log
Keeps-verdict log decoded item verdict =
    Keeps-trans log (with_sent (read log decoded item) (replies_to verdict item)) _
    (Keeps-trans log (read log decoded item) _ (Keeps-read log decoded item) (Keeps-with_sent _ _))
    (Keeps-trans _ (with_unreturned _ (with_sent (read log decoded item)
    (replies_to verdict item))) _ (Keeps-with_unreturned _ _) (Keeps-with_reported _ _))

-- what a frame makes of a block that has begun
Keeps-step : (log : Log) (decoded : Option Decoded) (step : FrameStep)
    → Keeps log (with_step log decoded step)
unfolding with_step
Keeps-step log decoded (fails_with code) = Keeps-with_failure _ _ log
Keeps-step log decoded (begins_block begun) = Keeps-same log _ refl refl refl refl refl refl
Keeps-step log decoded (completes item) =
    Keeps-trans log (record log { begun = None }) _ (Keeps-same log _ refl refl refl refl refl refl)
    (Keeps-verdict _ _ _ _)

-- a frame stands after those before it
pub Keeps-frame : (log : Log) (decoded : Option Decoded) (frame : Frame) → Keeps (record log {
  frames = log.frames
      ++ frame ∷ [];
}) (with_frame log decoded frame)
unfolding with_frame
Keeps-frame log decoded frame = Keeps-step _ decoded (frame_step (log_view log) frame)

-- a call
Keeps-called : (log : Log) (act : Act) (answer : Answer) → Keeps log (called log act answer)
Keeps-called log act answer = Keeps-same log _ refl refl refl refl refl refl

-- and what it writes
Keeps-items : (log : Log) (act : Act) (answer : Answer) → Keeps log (with_items log act answer)
unfolding with_items
Keeps-items log act answer =
    Keeps-trans log (with_sent (called log act answer) (items_of (log_view log) act answer)) _
    (Keeps-trans log (called log act answer) _ (Keeps-called _ _ _) (Keeps-with_sent _ _))
    (Keeps-with_unreturned _ _)

-- a stream that the layer above refuses
Keeps-refused : (log : Log) (act : Act) (answer : Answer) (fault : Option Code)
    → Keeps log (refused_with log act answer fault)
unfolding refused_with
Keeps-refused log act answer (Some code) = Keeps-trans log (called log act answer) _
    (Keeps-called _ _ _) (Keeps-with_failure _ _ _)
Keeps-refused log act answer None = Keeps-items log act answer

-- output that is given out
Keeps-before_put_out : (log : Log) → Keeps log (before_put_out log)
unfolding before_put_out
Keeps-before_put_out log = Keeps-if _ log _ _ (Keeps-with_credit_returned log) (Keeps-refl log)

-- output that is given out
Keeps-given : (log : Log) (act : Act) (answer : Answer) (count : ℕ)
    → Keeps log (record (before_put_out (called log act answer)) { given = count })
Keeps-given log act answer count =
    Keeps-trans log (before_put_out (called log act answer)) _
    (Keeps-trans log (called log act answer) (before_put_out (called log act answer))
    (Keeps-called log act answer) (Keeps-before_put_out _))
    (Keeps-same _ _ refl refl refl refl refl refl)

-- all calls
pub Keeps-call : (log : Log) (act : Act) (answer : Answer) → Keeps log (with_call log act answer)
unfolding with_call refused_with
Keeps-call log act (Refused refusal) = Keeps-called log act _
Keeps-call log act OutOfMemory = Keeps-trans log (called log act OutOfMemory) _
    (Keeps-called _ _ _) (Keeps-with_failure _ _ _)
Keeps-call log (Refuse id code) answer = Keeps-refused log _ _ _
Keeps-call log (Fail code) answer = Keeps-refused log (Fail code) answer (Some code)
Keeps-call log (PutOut count) (Count given) = Keeps-given log _ _ _
Keeps-call log act answer = Keeps-items log act answer

-- a stream that isn't processed
pub Keeps-none : (log : Log) → Keeps log (took_none log)
Keeps-none log = Keeps-trans log (with_unreturned _ log) _ (Keeps-with_unreturned _ log)
    (Keeps-with_reported _ _)

-- What is true of a log's stream as long as it hasn't failed.
pub record HasStream (of_role : Role) (log : Log) : Type 0 where
  pub role : log.role ≡ of_role
  pub framed : log.failed ≡ None → Frames
      (is_server of_role) log.limits log.input log.frames log.unparsed

-- what is kept of it
HasStream-keeps : (role : Role) (old new : Log) → HasStream role old → Keeps old new
    → HasStream role new
HasStream-keeps role old new has keeps = record {
  role = keeps.role ∙ has.role;
  framed = λ h. rw (keeps.limits, keeps.input, keeps.frames, keeps.unparsed) (has.framed
      (keeps.up h));
}

-- a new end
opened_stream : (role : Role) (values : Values) → HasStream role (opened role values)
unfolding opened with_sent expected_preface preface
opened_stream Client values = record {
  role = refl;
  framed = λ h. inr (record {
    part = [];
    joined = refl;
    sound = record { body = []; opened = refl; framed = refl };
    partial = λ nine. absurd (omega arith);
  });
}
opened_stream Server values = record {
  role = refl;
  framed = λ h. inl (record {
    missing = preface;
    opens = refl;
    short = omega arith;
    none = refl;
    all = refl;
  });
}

-- The frames of a log that comes about are those of its octets, and after them stands the rest.
pub stream_of_log : (role : Role) (values : Values) (log : Log) → IsLog role values log
    → HasStream role log
unfolding used
stream_of_log role values _ (begins in_range) = opened_stream role values
stream_of_log role values _ (took_some {log} is takes octets unparsed frames) = record {
  role = (stream_of_log role values log is).role;
  framed = λ h. frames;
}
stream_of_log role values _ (took_one {log} is takes octets frame decoded frames says) =
    let k = Keeps-frame (used log octets []) decoded frame in
    record {
      role = k.role ∙ (stream_of_log role values log is).role;
      framed = λ h. rw (k.limits, k.input, k.frames, k.unparsed) frames;
    }
stream_of_log role values _ (met_fault {log} is takes octets fault at) =
    let k = Keeps-with_failure _ _ (used log octets []) in
    record { role = k.role ∙ (stream_of_log role values log is).role; framed = λ h. absurd (cc) }
stream_of_log role values _ (ran_out_of_memory {log} is up octets may) =
    let k = Keeps-with_failure InternalError (last_processed log) (used log octets []) in
    record { role = k.role ∙ (stream_of_log role values log is).role; framed = λ h. absurd (cc) }
stream_of_log role values _ (reported_one {log} is up some) = HasStream-keeps role log _
    (stream_of_log role values log is) (Keeps-none log)
stream_of_log role values _ (called_one {log} is act answer typed may) = HasStream-keeps role log _
    (stream_of_log role values log is) (Keeps-call log act answer)
