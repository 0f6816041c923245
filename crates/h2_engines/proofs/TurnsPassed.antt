-- How many turns have passed at an end after each act: a call or a take is one at least.
use Rattle.h2_engines.proofs.Names
use Names.{◌≤◌, ◌<◌, ℕ, ◌+◌, Bool, List, [], length, Option, Result, ap, arith, Act, Answer, Refuse}
use Names.{Event, Log, SentMessage, EndRefusal, EndLog, Handed, EndAnswer, EndTook, EndMayTake}
use Names.{subst, is_head_alone, SendFields, Done, with_call, MayPump, MayReleaseAll, used}
use Names.{MayReply, MayRespond, length-append, Turn, MayTake, Took, ends_no_frame, ends_frame}
use Names.{TakeAnswer, meets_fault, reports_unprocessed}
use Rattle.h2_laws_end.specs.Takes.{has_failed, runs_out_of_memory as lacks_memory}
use Rattle.h2_laws_end.proofs.TurnsAdded.{Adds, adds_call, adds_take}
use Rattle.h2_engines.proofs.LinkInvariants.{CallsKeep, AnswersKeep, pumped_keeps, released_keeps}
use Rattle.h2_engines.proofs.LinkInvariants.{responded_keeps}
use Rattle.h2_engines.proofs.TakeMessages.{taken_says, holds_called}
use Rattle.h2_engines.proofs.TurnsOfFrames.{turns_of_event, turns_of_due, turns_of_frame}

-- A log to which turns are added has no fewer.
turns_added : {p : Turn → Bool} {log next : Log} → Adds p log next
    → length log.turns ≤ length next.turns
turns_added {log} adds =
    omega (
      arith,
      ap (λ (turns : List Turn). length turns) adds.turns,
      length-append adds.news log.turns,
    )

-- A call is a turn at least.
pub turns_of_call : (log : Log) (act : Act) (answer : Answer)
    → length log.turns < length (with_call log act answer).turns
turns_of_call log act answer =
    let more = turns_added (adds_call log act answer) in
    omega (arith, more)

-- The octets that are used are a turn.
turns_of_used : (log : Log) (octets unparsed : List ℕ)
    → length log.turns < length (used log octets unparsed).turns
unfolding used
turns_of_used log octets unparsed = omega arith

-- A take of the connection that doesn't end it is a turn at least.
took_turn : {log after : Log} {piece : List ℕ} {count : ℕ} {event : Option Event}
    → MayTake log piece (Took count event) after → length log.turns < length after.turns
took_turn (has_failed code failed answers same) = absurd (cc)
took_turn {log} (reports_unprocessed up some answers same) =
    rw same (turns_of_event (length log.turns) _ _ (turns_of_due _ _ _ (omega arith)))
took_turn {log} {piece} (ends_no_frame takes unparsed part answers same) =
    rw same (turns_of_used log piece unparsed)
took_turn {log} (ends_frame takes octets unused joined frame decoded framed sees same answers) =
    rw same (omega (
      arith,
      turns_of_frame (length log.turns + 1) (used log octets []) decoded frame
          (omega (arith, turns_of_used log octets [])),
    ))
took_turn (meets_fault takes octets unused joined fault at answers same) = absurd (cc)
took_turn (lacks_memory up octets unused joined may answers same) = absurd (cc)

-- A take that doesn't end the connection is a turn at least.
pub turns_of_take : {end after : EndLog} {piece : List ℕ} {count : ℕ} {handed : Option Handed}
    → EndMayTake end piece (EndTook count handed) after
    → length end.log.turns < length after.log.turns
turns_of_take {end} {piece} may =
    let is = taken_says may in
    let took = subst (λ (one : TakeAnswer). MayTake end.log piece one is.log) is.says.1 is.takes in
    holds_called (λ (log : Log). length end.log.turns < length log.turns) is (took_turn took)
    (λ log id code said so. omega (arith, so, turns_of_call log (Refuse id code) said))

-- No take undoes a turn.
pub turns_of_answer : {end after : EndLog} {piece : List ℕ} {answer : EndAnswer}
    → EndMayTake end piece answer after → length end.log.turns ≤ length after.log.turns
turns_of_answer {end} {piece} may =
    let is = taken_says may in
    holds_called (λ (log : Log). length end.log.turns ≤ length log.turns) is
    (turns_added (adds_take end.log is.log piece is.took is.takes))
    (λ log id code said so. omega (arith, so, turns_of_call log (Refuse id code) said))

-- Nor does a call,
turns_kept : (n : ℕ) → CallsKeep (λ one. n ≤ length one.log.turns)
turns_kept n end act answer sends so = omega (arith, so, turns_of_call end.log act answer)

answer_turns : (n : ℕ) → AnswersKeep (λ one. n ≤ length one.log.turns)
unfolding MayReply
answer_turns n before id message done after may so =
    rw may.5 (omega (
      arith,
      so,
      turns_of_call before.log
          (SendFields id message.head (is_head_alone message)) Done,
    ))

pub turns_of_response : (end after : EndLog) (id : ℕ) (message : SentMessage)
    (result : Result (Unit {0}) EndRefusal) → MayRespond end id message result after
    → length end.log.turns ≤ length after.log.turns
turns_of_response end after id message result may =
    responded_keeps (λ one. length end.log.turns ≤ length one.log.turns) (turns_kept _)
    (answer_turns _) end id message result after may (omega arith)

-- a pump or a release.
pub turns_of_pump : (end after : EndLog) (result : Result ℕ EndRefusal)
    → MayPump end result after → length end.log.turns ≤ length after.log.turns
turns_of_pump end after result may =
    pumped_keeps (λ one. length end.log.turns ≤ length one.log.turns) (turns_kept _) end result
    after may (omega arith)

pub turns_of_release : (end after : EndLog) (result : Result (Unit {0}) EndRefusal)
    → MayReleaseAll end result after → length end.log.turns ≤ length after.log.turns
turns_of_release end after result may =
    released_keeps (λ one. length end.log.turns ≤ length one.log.turns) (turns_kept _) end result
    after may (omega arith)
