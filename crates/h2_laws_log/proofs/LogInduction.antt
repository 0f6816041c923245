-- What a new end's log has, and each small change of a log keeps, every log has that comes about:
-- of a log alone, or of a log with the events that are still to be reported of it. Of each change
-- its record says where what is read, sent and reported comes from.
use Rattle.std.proofs.Common.{map as each, is_some}
use Rattle.h2_spec_log.specs.Histories.{TakesOctets, IsDecodedFor}
use Rattle.h2_laws_log.proofs.Names.{and_parts, Code, InternalError, Frame, Item, Begun, Role}
use Rattle.h2_laws_log.proofs.Names.{Refusal, Event, UnprocessedEvent, Values, AreInRange, Act}
use Rattle.h2_laws_log.proofs.Names.{Answer, IsTypedAct, Refuse, Fail, PutOut, Count, Done}
use Rattle.h2_laws_log.proofs.Names.{OutOfMemory, Refused, In, Happened, Log, last_processed}
use Rattle.h2_laws_log.proofs.Names.{output, waiting}
use Rattle.h2_laws_log.proofs.Names.{next_unprocessed, log_view, full_output, Verdict}
use Rattle.h2_laws_log.proofs.Names.{ConnectionFault, StreamFault, NoEvent, Reported, Decoded}
use Rattle.h2_laws_log.proofs.Names.{FrameStep, fails_with, begins_block, completes, frame_step}
use Rattle.h2_laws_log.proofs.Names.{replies_to, verdict_of, opened_by, events_of, refusal_of}
use Rattle.h2_laws_log.proofs.Names.{answer_of, items_of, returns_credit, read, used, limits_from}
use Rattle.h2_laws_log.proofs.Names.{with_sent, with_reported, with_unreturned}
use Rattle.h2_laws_log.proofs.Names.{with_credit_returned, with_failure, with_verdict, with_step}
use Rattle.h2_laws_log.proofs.Names.{with_frame, opened, called, with_items, refused_with}
use Rattle.h2_laws_log.proofs.Names.{with_call, MayAnswer, accepts, refuses, lacks, fails, IsLog}
use Rattle.h2_laws_log.proofs.Names.{◌≡◌, ◌≢◌, ◌<◌, ◌≤◌, ℕ, ◌+◌, not, max, true, List, [], ◌∷◌}
use Rattle.h2_laws_log.proofs.Names.{◌++◌, Option, Some, None, refl, arith, wire_fault_code}
use Rattle.h2_laws_log.proofs.Names.{refuse_fault, begins, took_some, took_one, met_fault}
use Rattle.h2_laws_log.proofs.Names.{ran_out_of_memory, reported_one, called_one, TakesFrame, rules}
use Rattle.h2_laws_log.proofs.CreditCases.{credit_cases, put_out_cases}
use Rattle.h2_laws_log.proofs.LogGrowth.{Grows, grows_twice, grows_wrote, grows_with_unreturned}

-- An item comes at this log: the octets of its last frame were used, and no field block is open.
pub record Comes (role : Role) (values : Values) (decoded : Option Decoded) (item : Item)
    (log : Log) : Type 0 where
  -- the log before these octets, and why they may be taken
  pub before : Log
  pub is : IsLog role values before
  pub takes : TakesOctets before
  -- the octets, the frame that ends with them, and what its block decodes to
  pub octets : List ℕ
  pub frame : Frame
  pub framed : TakesFrame role before octets frame
  pub sees : IsDecodedFor before decoded frame
  -- the frame completes the item
  pub step : frame_step (log_view (used before octets [])) frame ≡ completes item
  -- the log as the item is read
  pub now : log ≡ record (used before octets []) {
    frames = (used before octets []).frames ++ frame ∷ [];
    begun = None;
  }

-- A frame ends at this log, which begins a field block or goes on with it: this is what has come
-- of the block then.
pub record BeginsBlock (role : Role) (values : Values) (begun : Begun) (log : Log) : Type 0 where
  -- the log before its octets
  pub before : Log
  pub is : IsLog role values before
  -- the octets, and the frame that ends with them
  pub octets : List ℕ
  pub frame : Frame
  pub framed : TakesFrame role before octets frame
  pub step : frame_step (log_view (used before octets [])) frame ≡ begins_block begun
  -- the block that had begun before is the log's
  pub same : log.begun ≡ before.begun

-- An item comes that is no fault of the connection, and has this verdict.
pub record Replies (role : Role) (values : Values) (log : Log) (decoded : Option Decoded)
    (item : Item) (verdict : Verdict) : Type 0 where
  pub comes : Comes role values decoded item log
  pub is : verdict_of (log_view log) decoded item ≡ verdict
  pub up : (code : Code) → verdict ≡ ConnectionFault code → ⊥

-- What may be reported next: the event of the item that was read last, by its verdict; or the next
-- stream that the peer doesn't process.
pub data MayReport (role : Role) (values : Values) (log : Log) : List Event → Type 0 where
  of_item : (before : Log) (decoded : Option Decoded) (item : Item) (verdict : Verdict)
      → Replies role values before decoded item verdict → Grows (read before decoded item) log
      → MayReport role values log (events_of (log_view before) decoded verdict item)
  of_unprocessed : (before : Log) → IsLog role values before → before.failed ≡ None
      → next_unprocessed before ≢ 0 → Grows before log
      → MayReport role values log (UnprocessedEvent (next_unprocessed before) ∷ [])

-- What the GOAWAY of a failure names: the last stream that was processed, or, where an item is the
-- fault, also the one that it opens.
pub data NamesLast (role : Role) (values : Values) (log : Log) : ℕ → Type 0 where
  processed : NamesLast role values log (last_processed log)
  of_fault : (decoded : Option Decoded) (item : Item) (code : Code)
      → Comes role values decoded item log
      → verdict_of (log_view log) decoded item ≡ ConnectionFault code
      → NamesLast role values log (max (last_processed log) (opened_by (log_view log) decoded item))

-- Credit is returned: some is unreturned, and less than the full output waits.
pub record ReturnsCredit (log : Log) : Type 0 where
  pub some : 0 < log.unreturned
  pub space : waiting log < full_output

-- What P needs to hold where credit becomes due and is returned.
pub record IsKeptByCredit (P : Log → Type 0) : Type 0 where
  -- so much of the connection's window is unreturned
  pub unreturned : (log : Log) (count : ℕ) → P log → P (record log { unreturned = count })
  -- all that is unreturned is returned, by WINDOW_UPDATE of the connection
  pub returned : (log : Log) → ReturnsCredit log → P log → P (with_credit_returned log)

-- A call with this answer writes no items of its own: it is refused; memory runs out in it, it
-- refuses a stream, or it asks for it, and the connection fails; or it puts output out.
pub data WritesNone : Act → Answer → Type 0 where
  refused : (act : Act) (refusal : Refusal) → WritesNone act (Refused refusal)
  no_memory : (act : Act) → WritesNone act OutOfMemory
  fails_instead : (id code : ℕ) → WritesNone (Refuse id code) Done
  ends_connection : (code : Code) → WritesNone (Fail code) Done
  puts_out : (count given : ℕ) → WritesNone (PutOut count) (Count given)

-- The connection fails with this code in a call with this answer: memory runs out in the call, the
-- stream that it refuses makes a fault of the connection, or the call asks for it.
pub data FailsWith (log : Log) : Act → Answer → Code → Type 0 where
  out_of_memory : (act : Act) (answer : Answer) → answer ≡ OutOfMemory
      → FailsWith log act answer InternalError
  refusal_fails : (id code : ℕ) (answer : Answer) (fault : Code) → answer ≡ Done
      → refusal_of (log_view log) (Refuse id code) ≡ None
      → refuse_fault (log_view log) code ≡ Some fault
      → FailsWith log (Refuse id code) answer fault
  caller_fails : (code : Code) (answer : Answer) → answer ≡ Done
      → refusal_of (log_view log) (Fail code) ≡ None → FailsWith log (Fail code) answer code

-- What P needs to hold after this call with this answer, where it holds before. The log need not be
-- known to come about.
pub record IsKeptByCall (P : Log → Type 0) (log : Log) (act : Act) (answer : Answer) : Type 0 where
  -- credit becomes due, and is returned
  pub credit : IsKeptByCredit P
  -- any number of octets more of the output is put out
  pub given : (next : Log) (more : ℕ) → P next → P (record next { given = next.given + more })
  -- the connection fails, and GOAWAY is sent. The answer is any one, `other`: that of the call is
  -- tied to the code alone.
  pub failed : (other : Answer) (code : Code) → FailsWith log act answer code
      → P (called log act other)
      → P (with_failure code (last_processed log) (called log act other))
  -- the call is accepted, the connection stays up, and the call's items are sent
  pub sent : refusal_of (log_view log) act ≡ None
      → ((id code : ℕ) → act ≡ Refuse id code → refuse_fault (log_view log) code ≡ None) → P log
      → P (with_sent (called log act (answer_of (log_view log) act))
      (items_of (log_view log) act (answer_of (log_view log) act)))
  -- the call writes no items of its own, with any answer, `other`, with which calls write none
  pub called : (other : Answer) → WritesNone act other → P log → P (called log act other)

-- A call is accepted and the connection stays up.
pub record Accepts (role : Role) (values : Values) (log : Log) (act : Act) : Type 0 where
  pub is : IsLog role values log
  pub typed : IsTypedAct act
  pub none : refusal_of (log_view log) act ≡ None
  pub up : (id code : ℕ) → act ≡ Refuse id code → refuse_fault (log_view log) code ≡ None

-- What P needs to hold of every log, together with the events that are still to be reported of it:
-- of an item those that it makes, from when it is read to when they are reported, and of a stream
-- that the peer doesn't process the event that names it, while credit is returned for it. Otherwise
-- there are none.
pub record IsPendingInvariant (role : Role) (values : Values) (P : List Event → Log → Type 0)
    : Type 0 where
  -- a new end's log has it: SETTINGS were sent
  pub opening : AreInRange values → P [] (opened role values)
  -- octets are used
  pub used : (log : Log) (octets unparsed : List ℕ) → P [] log
      → P [] (record log {
        input = log.input ++ octets;
        limits = limits_from log;
        unparsed = unparsed;
        turns = In octets ∷ log.turns;
      })
  -- a frame ends. The frames may be any then: P can't know more of them here.
  pub framed : (log : Log) (frames : List Frame) → P [] log → P [] (record log { frames = frames })
  -- a field block begins or goes on
  pub begun : (log : Log) (begun : Begun) → BeginsBlock role values begun log → P [] log
      → P [] (record log { begun = Some begun })
  -- an item is complete, so no field block is open
  pub complete : (log : Log) → P [] log → P [] (record log { begun = None })
  -- the item is read and is no fault of the connection, and is replied to: its events are pending
  pub replied : (log : Log) (decoded : Option Decoded) (item : Item) (verdict : Verdict)
      → Replies role values log decoded item verdict → P [] log
      → P (events_of (log_view log) decoded verdict item)
      (with_sent (read log decoded item) (replies_to verdict item))
  -- a stream is to be reported that the peer doesn't process: its event is pending
  pub named : (log : Log) → IsLog role values log → log.failed ≡ None → next_unprocessed log ≢ 0
      → P [] log → P (UnprocessedEvent (next_unprocessed log) ∷ []) log
  -- the events are reported, if there are any
  pub reported : (log : Log) (event : Event) (events : List Event)
      → MayReport role values log (event ∷ events) → P (event ∷ events) log
      → P [] (record log {
        reported = event ∷ events ++ log.reported;
        turns = each Happened (event ∷ events) ++ log.turns;
      })
  -- any number of octets of the connection's window is unreturned
  pub unreturned : (events : List Event) (log : Log) (count : ℕ) → P events log
      → P events (record log { unreturned = count })
  -- all that is unreturned is returned, by WINDOW_UPDATE of the connection
  pub returned : (events : List Event) (log : Log) → ReturnsCredit log → P events log
      → P events (with_credit_returned log)
  -- the connection fails, and GOAWAY is sent
  pub failed : (log : Log) (code : Code) (last : ℕ) → NamesLast role values log last → P [] log
      → P [] (with_failure code last log)
  -- a call is accepted, and its items are sent
  pub sent : (log : Log) (act : Act) → Accepts role values log act → P [] log
      → P [] (with_sent (called log act (answer_of (log_view log) act))
      (items_of (log_view log) act (answer_of (log_view log) act)))
  -- a call is made that writes no items of its own
  pub called : (log : Log) (act : Act) (answer : Answer) → IsLog role values log
      → WritesNone act answer → P [] log → P [] (called log act answer)
  -- any number of octets more of the output is put out
  pub given : (log : Log) (more : ℕ) → P [] log → P [] (record log { given = log.given + more })

-- What P needs to hold of every log, whatever is still to be reported of it. Where P says nothing
-- of what a field changes, `is` proves it.
pub record IsLogInvariant (role : Role) (values : Values) (P : Log → Type 0) : Type 0 where
  -- a new end's log has it: SETTINGS were sent
  pub opening : AreInRange values → P (opened role values)
  -- octets are used
  pub used : (log : Log) (octets unparsed : List ℕ) → P log
      → P (record log {
        input = log.input ++ octets;
        limits = limits_from log;
        unparsed = unparsed;
        turns = In octets ∷ log.turns;
      })
  -- a frame ends. The frames may be any then: P can't know more of them here.
  pub framed : (log : Log) (frames : List Frame) → P log → P (record log { frames = frames })
  -- a field block begins, goes on or is complete, with any octets
  pub begun : (log : Log) (begun : Option Begun) → P log → P (record log { begun = begun })
  -- an item is read that is no fault of the connection, and replied to
  pub replied : (log : Log) (decoded : Option Decoded) (item : Item) (verdict : Verdict)
      → Replies role values log decoded item verdict → P log
      → P (with_sent (read log decoded item) (replies_to verdict item))
  -- an event is reported
  pub reported : (log : Log) (event : Event) (events : List Event)
      → MayReport role values log (event ∷ events) → P log
      → P (record log {
        reported = event ∷ events ++ log.reported;
        turns = each Happened (event ∷ events) ++ log.turns;
      })
  -- any number of octets of the connection's window is unreturned
  pub unreturned : (log : Log) (count : ℕ) → P log → P (record log { unreturned = count })
  -- all that is unreturned is returned, by WINDOW_UPDATE of the connection
  pub returned : (log : Log) → ReturnsCredit log → P log → P (with_credit_returned log)
  -- the connection fails, and GOAWAY is sent
  pub failed : (log : Log) (code : Code) (last : ℕ) → NamesLast role values log last → P log
      → P (with_failure code last log)
  -- a call is accepted, and its items are sent
  pub sent : (log : Log) (act : Act) → Accepts role values log act → P log
      → P (with_sent (called log act (answer_of (log_view log) act))
      (items_of (log_view log) act (answer_of (log_view log) act)))
  -- a call is made that writes no items of its own
  pub called : (log : Log) (act : Act) (answer : Answer) → IsLog role values log
      → WritesNone act answer → P log → P (called log act answer)
  -- any number of octets more of the output is put out
  pub given : (log : Log) (more : ℕ) → P log → P (record log { given = log.given + more })

-- Credit is returned where more becomes due than none, and less than the full output waits.
returning : (more : ℕ) (log : Log) → more ≤ log.unreturned
    → returns_credit more (waiting log) ≡ true → ReturnsCredit log
returning more log least test = search rules

-- What is unreturned.
pub kept_by_credit : (P : Log → Type 0) → IsKeptByCredit P → (more : ℕ) (log : Log) → P log
    → P (with_unreturned more log)
unfolding waiting output
kept_by_credit P kept more log is =
    credit_cases P more log
    (λ returns. kept.returned (record log { unreturned = log.unreturned + more })
    (returning more (record log { unreturned = log.unreturned + more }) (omega arith) returns)
    (kept.unreturned log _ is)) (λ keeps. kept.unreturned log _ is)

module _ (P : Log → Type 0) (log : Log) where
  -- A call that is accepted, and writes its items.
  items_kept : {answer : Answer} (act : Act) → IsKeptByCall P log act answer
      → refusal_of (log_view log) act ≡ None
      → ((id code : ℕ) → act ≡ Refuse id code → refuse_fault (log_view log) code ≡ None) → P log
      → P (with_items log act (answer_of (log_view log) act))
  unfolding with_items
  items_kept act kept none up is = kept_by_credit P kept.credit _ _ (kept.sent none up is)

  -- A stream that the layer above refuses, by the fault that this makes.
  refused_kept : {answer : Answer} (id code : ℕ) (fault : Option Code)
      → IsKeptByCall P log (Refuse id code) answer → answer ≡ Done
      → refusal_of (log_view log) (Refuse id code) ≡ None
      → refuse_fault (log_view log) code ≡ fault → P log
      → P (refused_with log (Refuse id code) Done fault)
  unfolding refused_with
  refused_kept id code (Some fault) kept done none same is =
      kept.failed Done fault (refusal_fails id code _ fault done none same)
      (kept.called Done (fails_instead id code) is)
  refused_kept id code None kept done none same is =
      items_kept (Refuse id code) kept none (λ other number is_refuse.
      let equal : code ≡ number = cc in
      rw (← equal) same) is

  -- A call that puts output out.
  put_out_kept : {answer : Answer} (count given : ℕ) → IsKeptByCall P log (PutOut count) answer
      → P log → P (with_call log (PutOut count) (Count given))
  unfolding with_call with_sent
  put_out_kept count given kept is =
      let next = called log (PutOut count) (Count given) in
      let now = kept.called (Count given) (puts_out count given) is in
      put_out_cases (λ ready. P (record ready { given = log.given + given })) next
      (λ returns. kept.given (with_credit_returned next) given
      (kept.credit.returned next (returning next.unreturned next (omega arith)
      (and_parts (not (is_some log.failed)) _ returns).1) now)) (λ keeps. kept.given next given now)

  -- A call that is accepted.
  accepted_kept : {answer : Answer} (act : Act) → IsKeptByCall P log act answer
      → answer ≡ answer_of (log_view log) act → refusal_of (log_view log) act ≡ None → P log
      → P (with_call log act (answer_of (log_view log) act))
  unfolding with_call
  accepted_kept (Refuse id code) kept same none is =
      refused_kept id code (refuse_fault (log_view log) code) kept same none refl is
  accepted_kept (Fail code) kept same none is =
      kept.failed Done code (caller_fails code _ same none)
      (kept.called Done (ends_connection code) is)
  accepted_kept (PutOut count) kept same none is = put_out_kept count _ kept is
  accepted_kept act kept same none is = items_kept act kept none (λ id code wrong. cc) is

  -- A call.
  pub kept_by_call : (act : Act) (answer : Answer) → IsKeptByCall P log act answer
      → MayAnswer log act answer → P log → P (with_call log act answer)
  unfolding with_call
  kept_by_call act answer kept (accepts none same) is =
      rw same (accepted_kept act kept same none is)
  kept_by_call act answer kept (refuses refusal condition same) is =
      rw same (kept.called _ (refused act refusal) is)
  kept_by_call act answer kept (lacks none may same) is = rw same (kept.called _ (refused act _) is)
  kept_by_call act answer kept (fails none may same) is =
      rw same (kept.failed OutOfMemory InternalError (out_of_memory act answer same)
      (kept.called OutOfMemory (no_memory act) is))

module _ (role : Role) (values : Values) (P : List Event → Log → Type 0)
    (kept : IsPendingInvariant role values P) where
  -- Credit.
  credit : (events : List Event) → IsKeptByCredit (P events)
  credit events = record { unreturned = kept.unreturned events; returned = kept.returned events }

  -- What is reported.
  reported_kept : (log : Log) (events : List Event) → MayReport role values log events
      → P events log → P [] (with_reported log events)
  unfolding with_reported
  reported_kept log [] may is = is
  reported_kept log (event ∷ events) may is = kept.reported log event events may is

  -- An item that is no fault of the connection.
  item_kept : (log : Log) (decoded : Option Decoded) (item : Item) (verdict : Verdict) (more : ℕ)
      → Replies role values log decoded item verdict → P [] log
      → P [] (with_reported (with_unreturned more
      (with_sent (read log decoded item) (replies_to verdict item)))
      (events_of (log_view log) decoded verdict item))
  item_kept log decoded item verdict more replies is =
      let base = read log decoded item in
      let replied = with_sent base (replies_to verdict item) in
      reported_kept (with_unreturned more replied) _ (of_item log decoded item verdict replies
      (grows_twice base replied (with_unreturned more replied)
      (grows_wrote base (replies_to verdict item)) (grows_with_unreturned more replied)))
      (kept_by_credit (P _) (credit _) more replied
      (kept.replied log decoded item verdict replies is))

  -- An item, by its verdict.
  verdict_kept : (log : Log) (decoded : Option Decoded) (item : Item) (verdict : Verdict)
      → Comes role values decoded item log → verdict_of (log_view log) decoded item ≡ verdict
      → P [] log → P [] (with_verdict log decoded item verdict)
  unfolding with_verdict
  verdict_kept log decoded item (ConnectionFault code) comes verdict_is is =
      kept.failed log code _ (of_fault decoded item code comes verdict_is) is
  verdict_kept log decoded item (StreamFault code) comes verdict_is is =
      item_kept log decoded item (StreamFault code) _
      (record { comes = comes; is = verdict_is; up = λ other same. cc }) is
  verdict_kept log decoded item NoEvent comes verdict_is is =
      item_kept log decoded item NoEvent _
      (record { comes = comes; is = verdict_is; up = λ other same. cc }) is
  verdict_kept log decoded item Reported comes verdict_is is =
      item_kept log decoded item Reported _
      (record { comes = comes; is = verdict_is; up = λ other same. cc }) is

  -- What a frame makes of the block that has begun.
  step_kept : (log : Log) (decoded : Option Decoded) (step : FrameStep)
      → ((begun : Begun) → step ≡ begins_block begun → BeginsBlock role values begun log)
      → ((item : Item) → step ≡ completes item
      → Comes role values decoded item (record log { begun = None }))
      → P [] log → P [] (with_step log decoded step)
  unfolding with_step
  step_kept log decoded (fails_with code) started comes is = kept.failed log code _ processed is
  step_kept log decoded (begins_block begun) started comes is =
      kept.begun log begun (started begun refl) is
  step_kept log decoded (completes item) started comes is =
      verdict_kept (record log { begun = None }) decoded item _ (comes item refl) refl
      (kept.complete log is)

  -- Octets that are used.
  used_kept : (log : Log) (octets unparsed : List ℕ) → P [] log → P [] (used log octets unparsed)
  unfolding used
  used_kept log octets unparsed is = kept.used log octets unparsed is

  -- A frame that ends.
  frame_kept : (log : Log) (octets : List ℕ) (frame : Frame) (decoded : Option Decoded)
      → IsLog role values log → TakesOctets log → TakesFrame role log octets frame
      → IsDecodedFor log decoded frame → P [] log
      → P [] (with_frame (used log octets []) decoded frame)
  unfolding with_frame used
  frame_kept log octets frame decoded is_log takes framed sees is =
      let here = used log octets [] in
      step_kept (record here { frames = here.frames ++ frame ∷ [] }) decoded
      (frame_step (log_view here) frame) (λ begun same. record {
        before = log;
        is = is_log;
        octets = octets;
        frame = frame;
        framed = framed;
        step = same;
        same = refl;
      }) (λ item same. record {
        before = log;
        is = is_log;
        takes = takes;
        octets = octets;
        frame = frame;
        framed = framed;
        sees = sees;
        step = same;
        now = refl;
      }) (kept.framed here (here.frames ++ frame ∷ []) (used_kept log octets [] is))

  -- A call.
  call_kept : (log : Log) (act : Act) (answer : Answer) → IsLog role values log → IsTypedAct act
      → MayAnswer log act answer → P [] log → P [] (with_call log act answer)
  unfolding last_processed
  call_kept log act answer is_log typed =
      kept_by_call (P []) log act answer (record {
        credit = credit [];
        given = kept.given;
        failed = λ other code fails. kept.failed (called log act other) code _ processed;
        sent = λ none up. kept.sent log act
            (record { is = is_log; typed = typed; none = none; up = up });
        called = λ other. kept.called log act other is_log;
      })

  -- Every log has it, with nothing to be reported.
  pub pending_by_logs : (log : Log) → IsLog role values log → P [] log
  unfolding used last_processed
  pending_by_logs _ (begins in_range) = kept.opening in_range
  pending_by_logs _ (took_some {log = log} is takes octets unparsed read) =
      used_kept log octets unparsed (pending_by_logs log is)
  pending_by_logs _ (took_one {log = log} is takes octets frame decoded read sees) =
      frame_kept log octets frame decoded is takes read sees (pending_by_logs log is)
  pending_by_logs _ (met_fault {log = log} is takes octets fault at) =
      kept.failed (used log octets []) (wire_fault_code fault) _ processed
      (used_kept log octets [] (pending_by_logs log is))
  pending_by_logs _ (ran_out_of_memory {log = log} is up octets may) =
      kept.failed (used log octets []) InternalError _ processed
      (used_kept log octets [] (pending_by_logs log is))
  pending_by_logs _ (reported_one {log = log} is up some) =
      reported_kept _ _ (of_unprocessed log is up some (grows_with_unreturned _ log))
      (kept_by_credit (P _) (credit _) _ log (kept.named log is up some (pending_by_logs log is)))
  pending_by_logs _ (called_one {log = log} is act answer typed may) =
      call_kept log act answer is typed may (pending_by_logs log is)

-- Every log has what says nothing of what is still to be reported.
pub kept_by_logs : (role : Role) (values : Values) (P : Log → Type 0)
    → IsLogInvariant role values P → (log : Log) → IsLog role values log → P log
kept_by_logs role values P kept =
    pending_by_logs role values (λ events. P) (assumption (
      λ (log : Log) (begun : Begun) (begins : BeginsBlock role values begun log).
          kept.begun log (Some begun),
      λ (log : Log). kept.begun log None,
      kept,
    ))
