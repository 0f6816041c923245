-- A call of `take` of an end is one of its connection, after which a stream may have been refused:
-- what it says of its octets, its messages and its calls.
use Rattle.h2_message.specs.declared.malformed.Malformed.{Malformed}
use Rattle.h2_engines.proofs.Names
use Names.{◌≡◌, ℕ, Bool, true, List, ◌∷◌, Option, Some, None, refl, sym, subst, inl, inr, Contains}
use Names.{log_after_take, EndMayTake, EndLog, Handed, EndAnswer, EndTook, EndFailed, Passed, Code}
use Names.{Act, Answer, Refuse, Event, ResetEvent, Log, Part, later_in, call_calls, ◌∙◌, with_call}
use Names.{handed_as, parts_on, reads_on, take_calls, grows_call, ◌⊎◌, memory_fails, TakeAnswer}
use Names.{MayTake, Took, Failed}
use Rattle.h2_ends.specs.EndTakes.{refusal_fails, runs_out_of_memory, hands_nothing, passes}
use Rattle.h2_ends.specs.EndTakes.{hands_out, IsReadableWith, fails, refuses}
use Rattle.h2_laws_pair.proofs.StepUnprocessed.{role_by_take as take_role}

-- What was called stays called.
abbrev pub KeepsCalls : (before after : Log) → Type 0
KeepsCalls before after =
    (act : Act) (answer : Answer) → Contains before.calls (act, answer)
    → Contains after.calls (act, answer)

pub keeps_by_call : (log : Log) (act : Act) (answer : Answer)
    → KeepsCalls log (with_call log act answer)
keeps_by_call log act answer one said was = rw ((call_calls _ _ _)) (later_in _ _ (one, said) was)

-- What is handed out is an event that is no part of a message, or a part as it was read.
pub data HandsAsRead (end : EndLog) : Handed → Type 0 where
  hands_event : (event : Event) → HandsAsRead end (Passed event)
  hands_part : (id : ℕ) (part : Part × Bool) → IsReadableWith end id part
      → HandsAsRead end (handed_as (reads_on end id) (parts_on id end.handed) id part)

-- what was handed out once a call of `take` has this answer
abbrev pub handed_after : EndAnswer → List Handed → List Handed
handed_after (EndTook count (Some one)) handed = one ∷ handed
handed_after (EndTook count None) handed = handed
handed_after (EndFailed code) handed = handed

abbrev pub HandsSo : EndLog → Option Handed → Type 0
HandsSo end None = Unit {0}
HandsSo end (Some one) = HandsAsRead end one

-- What the answer says: that the connection is up, and what is handed out; or the code with which
-- it has failed.
abbrev pub SaysOf : EndLog → TakeAnswer → EndAnswer → Log → Type 0
SaysOf end took (EndTook count handed) after =
    (event : Option Event) × (took ≡ Took count event) × (after.failed ≡ None) × HandsSo end handed
SaysOf end took (EndFailed code) after = after.failed ≡ Some code

-- Nothing was accepted, and the connection has taken the octets; then it may have refused a stream.
pub record SaysTaken (before : EndLog) (piece : List ℕ) (answer : EndAnswer) (after : EndLog)
    : Type 0 where
  pub took : TakeAnswer
  pub log : Log
  pub takes : MayTake before.log piece took log
  pub called : (after.log ≡ log)
      ⊎ ((id code : ℕ) × (said : Answer) × (after.log ≡ with_call log (Refuse id code) said))
  pub accepted : after.accepted ≡ before.accepted
  pub handed : after.handed ≡ handed_after answer before.handed
  pub says : SaysOf before took answer after.log

up_after : {before log : Log} {piece : List ℕ} {count : ℕ} {event : Option Event}
    → MayTake before piece (Took count event) log → log.failed ≡ None
up_after {before} {log} {piece} {count} {event} may = (log_after_take _ _ _ _ may).6

-- The connection has refused a stream.
refused_says : (before : EndLog) {piece : List ℕ} {count : ℕ} {event : Option Event} {log : Log}
    {answer is : EndAnswer} {after : EndLog} → MayTake before.log piece (Took count event) log
    → (id code : ℕ) (said : Answer) (last : Option (ℕ × Malformed)) → answer ≡ is
    → after ≡ record before {
      log = with_call log (Refuse id code) said;
      handed = handed_after is before.handed;
      malformed = last;
    } → SaysOf before (Took count event) is (with_call log (Refuse id code) said)
    → SaysTaken before piece answer after
refused_says before {count} {event} {log} takes id code said last same now says =
    rw same (rw now (record {
      took = Took count event;
      log = log;
      takes = takes;
      called = inr (id, code, said, refl);
      accepted = refl;
      handed = refl;
      says = says;
    }))

-- It has refused none.
plain_says : (before : EndLog) {piece : List ℕ} {answer is : EndAnswer} {after : EndLog}
    (took : TakeAnswer) (log : Log) → MayTake before.log piece took log → answer ≡ is
    → after ≡ record before { log = log; handed = handed_after is before.handed }
    → SaysOf before took is log → SaysTaken before piece answer after
plain_says before took log takes same now says =
    rw same (rw now (record {
      took = took;
      log = log;
      takes = takes;
      called = inl refl;
      accepted = refl;
      handed = refl;
      says = says;
    }))

pub taken_says : {before : EndLog} {piece : List ℕ} {answer : EndAnswer} {after : EndLog}
    → EndMayTake before piece answer after → SaysTaken before piece answer after
taken_says {before} {piece} (fails code log takes same now) =
    plain_says before _ log takes same now ((log_after_take _ log _ (Failed code) takes).5)
taken_says {before} (hands_nothing count log takes same now) =
    plain_says before _ log takes same now (None, refl, up_after takes, tt)
taken_says {before} (passes count event log takes none same now) =
    plain_says before _ log takes same now (Some event, refl, up_after takes, hands_event event)
taken_says {before} (hands_out count event log takes id part is readable same now) =
    plain_says before _ log takes same now
    (Some event, refl, up_after takes, hands_part id part readable)
taken_says {before}
    (refuses count event log takes id part is broken refused may up same now) =
    refused_says before takes id 1 refused _ same now
    (Some event, refl, up, hands_event (ResetEvent id 1 true))
taken_says {before}
    (refusal_fails count event log takes id part is broken refused may code down same now) =
    refused_says before takes id 1 refused _ same now down
taken_says {before}
    (runs_out_of_memory count id list ends log takes role none readable refused may same now) =
    refused_says before takes id 2 refused _ same now
    (memory_fails log id refused (up_after takes) may)

-- What holds of the log after octets were taken of the connection, and still does once a stream
-- was refused, holds after a call of `take`.
pub holds_called : (P : Log → Type 0) {before : EndLog} {piece : List ℕ} {answer : EndAnswer}
    {after : EndLog} (is : SaysTaken before piece answer after) → P is.log
    → ((log : Log) (id code : ℕ) (said : Answer) → P log → P (with_call log (Refuse id code) said))
    → P after.log
holds_called P is holds call = elim is.called [
  | inl same ↦ subst P (sym same) holds
  | inr one ↦ subst P (sym one.3) (call is.log one.0 one.1 one.2 holds)
]

pub take_keeps_calls : {before : EndLog} {piece : List ℕ} {answer : EndAnswer} {after : EndLog}
    → EndMayTake before piece answer after → KeepsCalls before.log after.log
take_keeps_calls {before} {piece} may one said was =
    let is = taken_says may in
    holds_called (λ (log : Log). Contains log.calls (one, said)) is
    (subst (λ (calls : List (Act × Answer)). Contains calls (one, said))
    (sym (take_calls before.log is.log piece is.took is.takes)) was)
    (λ log id code answered held. keeps_by_call log (Refuse id code) answered one said held)

-- A call keeps the role, and so does a call of `take`.
pub role_by_call : (log : Log) (act : Act) (answer : Answer)
    → (with_call log act answer).role ≡ log.role
role_by_call log act answer = (grows_call log act answer).role

pub taken_role : {before : EndLog} {piece : List ℕ} {answer : EndAnswer} {after : EndLog}
    → EndMayTake before piece answer after → after.log.role ≡ before.log.role
taken_role {before} {piece} may =
    let is = taken_says may in
    holds_called (λ (log : Log). log.role ≡ before.log.role) is
    (take_role _ is.log _ is.took is.takes) (λ log id code said same. role_by_call log _ _ ∙ same)

-- The connection has failed with the code that is answered.
pub kept_failed : {end : EndLog} {piece : List ℕ} {code : Code} {after : EndLog}
    → EndMayTake end piece (EndFailed code) after → after.log.failed ≡ Some code
kept_failed may = (taken_says may).says
