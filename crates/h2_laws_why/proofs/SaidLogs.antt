-- Logs whose script is what their turns and calls say: those of connections that go on, and those
-- that have just failed, but for memory. Such logs with the same turns and calls are the same but
-- for their turns.
use Rattle.h2_laws_why.proofs.Names
use Names.{◌≡◌, ◌∙◌, ℕ, Bool, true, false, List, [], ◌∷◌, ◌++◌, Option, Some, None, refl, sym, ap}
use Names.{ap₂, none_some, Code, InternalError, Frame, WireFault, wire_fault_code, Role, Values}
use Names.{Turn, Act, Answer, Log, Decoded, IsLog, begins, took_some, took_one, met_fault}
use Names.{ran_out_of_memory, reported_one, called_one, TakesFault, took_frame, took_fault}
use Names.{last_processed, Keeps-call, Mark, Octet, Call, Unprocessed, AreSameButTurns, opened}
use Names.{used, with_sent, with_call}
use Rattle.std.proofs.Common.{drop, if◌then◌else◌, map as each, ◌≢◌}
use Rattle.h2_frame.specs.Frames.{pads_too_much, payload_fault}
use Rattle.h2_frame.specs.Heads.{head_fault_code, head_of}
use Rattle.h2_frame.specs.declared.code.Code.TheVariants.{ProtocolError}
use Rattle.h2_frame.specs.declared.head_faults.HeadFault.{HeadFault}
use Rattle.h2_frame.specs.declared.head_faults.HeadFault.TheVariants as heads
use Rattle.h2_frame.specs.declared.heads.Head.{Head}
use Rattle.h2_wire.specs.Streams.{EndsWithFault, Limits}
use Rattle.h2_wire.specs.declared.fault.WireFault.TheVariants as wire
use Rattle.h2_spec_log.specs.Acts.{IsTypedAct}
use Rattle.h2_spec_log.specs.Histories.{IsDecodedFor, TakesFrame, TakesOctets}
use Rattle.h2_spec_log.specs.LogCalls.{MayAnswer}
use Rattle.h2_laws_end.proofs.RunsOfLogs.{same_but_turns}
use Rattle.h2_laws_end.specs.Scripts.{script_of}
use Rattle.h2_laws_why.proofs.TurnMarks.{call_marks, failure_marks, frame_marks, none_marks, said}

-- The log has a history whose script is what its turns and calls say.
pub record IsSaid (role : Role) (values : Values) (log : Log) : Type 0 where
  pub history : IsLog role values log
  pub script : script_of history ≡ said log

-- After octets more is said, by their marks.
octets_more : (script before after : List Mark) (octets : List ℕ) → script ≡ before
    → after ≡ before ++ each Octet octets → script ++ each Octet octets ≡ after
octets_more script before after octets same more =
    ap (λ (marks : List Mark). marks ++ each Octet octets) same ∙ sym more

-- After a frame of a log that is said.
pub frame_said : (role : Role) (values : Values) (log : Log) → IsSaid role values log
    → TakesOctets log → (octets : List ℕ) (frame : Frame) (decoded : Option Decoded)
    → TakesFrame role log octets frame → IsDecodedFor log decoded frame
    → IsSaid role values (took_frame log octets decoded frame)
unfolding script_of
frame_said role values log is takes octets frame decoded ends sees = record {
  history = took_one is.history takes octets frame decoded ends sees;
  script = octets_more _ (said log) _ octets is.script (frame_marks log octets decoded frame);
}

-- After a fault of its octets.
pub fault_said : (role : Role) (values : Values) (log : Log) → IsSaid role values log
    → TakesOctets log → (octets : List ℕ) (fault : WireFault) → TakesFault role log octets fault
    → IsSaid role values (took_fault log octets fault)
unfolding script_of
fault_said role values log is takes octets fault at = record {
  history = met_fault is.history takes octets fault at;
  script = octets_more _ (said log) _ octets is.script
      (failure_marks log octets (wire_fault_code fault) (last_processed log));
}

-- After a call.
pub call_said : (role : Role) (values : Values) (log : Log) → IsSaid role values log
    → (act : Act) (answer : Answer) → IsTypedAct act → MayAnswer log act answer
    → IsSaid role values (with_call log act answer)
unfolding script_of
call_said role values log is act answer typed may = record {
  history = called_one is.history act answer typed may;
  script = ap (λ (marks : List Mark). marks ++ Call act answer ∷ []) is.script
      ∙ sym (call_marks log act answer);
}

-- The log of a connection that goes on is said.
pub up_said : (role : Role) (values : Values) (log : Log) → IsLog role values log
    → log.failed ≡ None → IsSaid role values log
unfolding script_of opened used with_sent
up_said role values _ (begins in_range) up = record { history = begins in_range; script = refl }
up_said role values _ (took_some {log} is takes octets unparsed part) up =
    let before = up_said role values log is takes.up in record {
      history = took_some before.history takes octets unparsed part;
      script = ap (λ (marks : List Mark). marks ++ each Octet octets) before.script;
    }
up_said role values _ (took_one {log} is takes octets frame decoded ends sees) up =
    frame_said role values log (up_said role values log is takes.up) takes octets frame decoded
    ends sees
up_said role values _ (met_fault {log} is takes octets fault at) up =
    fault_said role values log (up_said role values log is takes.up) takes octets fault at
up_said role values _ (ran_out_of_memory {log} is was octets may) up =
    none_some InternalError (sym up)
up_said role values _ (reported_one {log} is was some) up =
    let before = up_said role values log is was in record {
      history = reported_one before.history was some;
      script = ap (λ (marks : List Mark). marks ++ Unprocessed ∷ []) before.script
          ∙ sym (none_marks log);
    }
up_said role values _ (called_one {log} is act answer typed may) up =
    call_said role values log (up_said role values log is ((Keeps-call log act answer).up up)) act
    answer typed may

-- Logs that are said, with the same turns and calls, are the same but for their turns.
pub said_same : (role : Role) (values : Values) (log other : Log) → IsSaid role values log
    → IsSaid role values other → log.turns ≡ other.turns → log.calls ≡ other.calls
    → AreSameButTurns log other
said_same role values log other is also turns calls =
    same_but_turns role values log other is.history also.history
    (is.script ∙ ap₂ (λ (line : List Turn) (made : List (Act × Answer)). said (record log {
      turns = line;
      calls = made;
    })) turns calls ∙ sym also.script)

-- So are logs of connections that go on.
pub up_same : (role : Role) (values : Values) (log other : Log) → IsLog role values log
    → IsLog role values other → log.failed ≡ None → other.failed ≡ None
    → log.turns ≡ other.turns → log.calls ≡ other.calls → AreSameButTurns log other
up_same role values log other is also up going =
    said_same role values log other (up_said role values log is up)
    (up_said role values other also going)

-- What is said isn't of a log that has failed and of one that goes on.
pub said_failed : (role : Role) (values : Values) (log other : Log) (code : Code)
    → IsSaid role values log → IsLog role values other → log.failed ≡ Some code
    → other.failed ≡ None → log.turns ≡ other.turns → log.calls ≡ other.calls → ⊥
said_failed role values log other code is also fails going turns calls =
    let same = said_same role values log other is (up_said role values other also going) turns
    calls in
    none_some code (sym going ∙ sym (ap (λ (one : Log). one.failed) same) ∙ fails)

-- A fault of the octets has another code than refused memory.
padding_not : (test : Bool) (code : Code)
    → (if test then Some ProtocolError else None) ≡ Some code → code ≢ InternalError
padding_not true code is = λ same. cc
padding_not false code is = λ same. cc

payload_not : (head : Head) (payload : List ℕ) (code : Code)
    → payload_fault head payload ≡ Some code → code ≢ InternalError
unfolding payload_fault
payload_not head payload code is =
    padding_not (pads_too_much head.kind head.flags payload) code is

head_not : (fault : HeadFault) → head_fault_code fault ≢ InternalError
head_not heads.TooLong same = cc
head_not heads.IsPushPromise same = cc
head_not heads.WrongStream same = cc
head_not heads.WrongLength same = cc

pub fault_not_internal : (expects : Bool) (limits : Limits) (frames : List Frame)
    (octets : List ℕ) (fault : WireFault) → EndsWithFault expects limits frames octets fault
    → wire_fault_code fault ≢ InternalError
fault_not_internal expects limits frames octets wire.BadPreface made same = cc
fault_not_internal expects limits frames octets (wire.HeadFault fault) made same =
    head_not fault same
fault_not_internal expects limits frames octets (wire.PayloadFault code) made same =
    payload_not (head_of made.last) (drop 9 made.last) code made.faulty same
fault_not_internal expects limits frames octets wire.Memory made same = absurd made
