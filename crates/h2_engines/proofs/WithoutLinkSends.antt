-- What is given back and sent before output is put out, and what that leaves.
use Rattle.h2_engines.proofs.Names
use Names.{EndRepresents, ◌≡◌, ◌≢◌, ◌⊎◌, ◌≤◌, ℕ, true, false, length, Option, Some, None, Result}
use Names.{Ok, Err, refl, sym, ap, ◌∙◌, arith, Code, error_after, Values, Log, given_out, End}
use Names.{EndRefusal, EndLog, LinkError, ConnRepresents, MayPump, Happens, IsSameOfMessages}
use Names.{SendsWaiting, HasSentWaiting, ReturnsCredit, EndsAfter, PumpsSome, MessageState, Course}
use Rattle.std.proofs.Common.{IfOk, is_some, IfErr}
use Rattle.h2_conn.specs.declared.conn.Conn.{Conn}
use Rattle.h2_conn.proofs.AskMemory.{none_of as none_failed}
use Rattle.h2_engines.specs.Sending.{MayReturnCredit, pumps_no_more, returns_none, sends_more}
use Rattle.h2_engines.specs.Sending.{sends_nothing}
use Rattle.h2_engines.specs.declared.sending.Credit.{Credit}
use Rattle.h2_engines.specs.declared.sending.Credit.TheVariants.{All}
use Rattle.h2_engines.proofs.MachineLaws.{pumps_at, releases_at}
use Rattle.h2_engines.proofs.ResponderStalls.{pump_refused}
use Rattle.h2_engines.proofs.ReturningCredit.{returned_memory, returned_stays, returned_turns}
use Rattle.h2_engines.proofs.ServeLinkLogs.{writes_given, StaysOn, pumped_stays, stays_same}
use Rattle.h2_engines.proofs.ServeLinkLogs.{stays_none, stays_twice}
use Rattle.h2_engines.proofs.TurnsPassed.{turns_of_pump}
use Rattle.h2_spec_log.specs.declared.refusal.Refusal.TheVariants as reasons
use Rattle.h2_ends.specs.declared.refusal.EndRefusal.TheVariants as refusals
use Rattle.h2_link.specs.declared.error.LinkError.TheVariants as errors

-- What `failed` answers of any log that the connection represents.
abbrev pub ReadsFailed : Conn → Option Code → Type 0
ReadsFailed conn failed =
    (values : Values) (log : Log) → ConnRepresents values conn log → failed ≡ log.failed

-- Once the connection has failed, nothing is sent.
some_failed : (failed : Option Code) → is_some failed ≡ true → failed ≢ None
some_failed None some none = cc
some_failed (Some code) some none = cc

pub failed_sends : (credit : Credit) (old : End) (failed : Option Code) (done : Unit {0})
    → ReadsFailed old.conn failed → is_some failed ≡ true → SendsWaiting credit old old (Ok done)
failed_sends credit old failed done reads some values end represents = (
  end,
  represents,
  sends_nothing (λ none. some_failed failed some
      (reads values end.log represents.streams.conn ∙ none)) refl,
)

is_up : (conn : Conn) (failed : Option Code) (values : Values) (log : Log)
    → ReadsFailed conn failed → is_some failed ≡ false → ConnRepresents values conn log
    → log.failed ≡ None
is_up conn failed values log reads up represents =
    sym (reads values log represents) ∙ none_failed failed up

pub end_up : (old : End) (failed : Option Code) → ReadsFailed old.conn failed
    → is_some failed ≡ false → (course : Course) (end : EndLog)
    → EndRepresents course.values old end → end.log.failed ≡ None
end_up old failed reads none course end represents =
    is_up old.conn failed course.values end.log reads none represents.streams.conn

pub end_down : (old : End) (failed : Option Code) → ReadsFailed old.conn failed
    → is_some failed ≡ true → (course : Course) (end : EndLog)
    → EndRepresents course.values old end → end.log.failed ≢ None
end_down old failed reads some course end represents none =
    some_failed failed some (reads course.values end.log represents.streams.conn ∙ none)

-- While it is up, what waits is sent after credit was returned, as far as it goes.
pumps_then : (credit : Credit) (before middle after : EndLog)
    (released : Result (Unit {0}) EndRefusal) (answer : Result ℕ EndRefusal)
    (result : Result (Unit {0}) LinkError) → before.log.failed ≡ None
    → MayReturnCredit credit before released middle
    → (released ≡ Ok tt) ⊎ (released ≡ Err (refusals.Conn reasons.OutputFull))
    → MayPump middle answer after → EndsAfter answer result
    → HasSentWaiting credit before after result
unfolding EndsAfter
pumps_then credit before middle after released (Ok sent) (Ok done) up may all pumped ends =
    sends_more middle released sent up may all pumped
pumps_then credit before middle after released (Err refusal) (Ok done) up may all pumped ends =
    absurd ends
pumps_then credit before middle after released (Ok sent) (Err error) up may all pumped ends =
    absurd ends
pumps_then credit before middle after released (Err refusal) (Err error) up may all pumped ends =
    let stays = returned_stays credit before released middle may in
    let memory = pump_refused middle after refusal (stays.goes.failed ∙ up) pumped in
    pumps_no_more middle released error (ends ∙ ap error_after memory) up may all
    (rw memory at pumped)

module _ (credit : Credit) (old : End) (failed : Option Code) (reads : ReadsFailed old.conn failed)
    (none : is_some failed ≡ false) where
  pub sends_so : (middle new : End) (answer : Result (Unit {0}) EndRefusal)
      (result : Result (Unit {0}) LinkError) → ReturnsCredit credit old middle answer
      → (answer ≡ Ok tt) ⊎ (answer ≡ Err (refusals.Conn reasons.OutputFull))
      → PumpsSome middle new result → SendsWaiting credit old new result
  sends_so middle new answer result returns all pumped values end represents =
      let up = is_up old.conn failed values end.log reads none represents.streams.conn in
      let (first, may, now) = returns values end represents up in
      let second = pumped.1 values first now in (
        second.0,
        second.2,
        pumps_then credit end first second.0 answer pumped.0 result up may all second.1 pumped.2,
      )

  -- Where it was refused otherwise, there was no memory for it.
  pub not_returned : (new : End) (answer : Result (Unit {0}) EndRefusal)
      (result : Result (Unit {0}) LinkError) → answer ≢ Ok tt
      → answer ≢ Err (refusals.Conn reasons.OutputFull)
      → IfOk result (λ value. answer ≡ Ok value)
      → IfErr result (λ error. (refused : EndRefusal) × (refusal : EndRefusal)
      × (answer ≡ Err refused) × (refusal ≡ refused) × (error ≡ error_after refusal))
      → ReturnsCredit credit old new answer → SendsWaiting credit old new result
  not_returned new answer (Ok done) some other ok err returns values end represents =
      absurd (some ok)
  not_returned new answer (Err error) some other ok (refused, refusal, same, made, ends) returns
      values end represents =
      let up = is_up old.conn failed values end.log reads none represents.streams.conn in
      let (after, may, now) = returns values end represents up in
      let why = returned_memory credit end refused after up (rw same at may)
      (λ is. other (same ∙ ap Err is)) in
      let said : answer ≡ Err (refusals.Conn reasons.Memory) = same ∙ ap Err why in
      (after, now, returns_none error (ends ∙ ap error_after (made ∙ why)) up (rw said at may))

-- What holds of an end, and still does once credit was returned and after a pump, holds after
-- both.
pub sent_holds : (P : EndLog → Type 0) (credit : Credit)
    → ((before after : EndLog) (result : Result (Unit {0}) EndRefusal) → P before
    → MayReturnCredit credit before result after → P after)
    → ((before after : EndLog) (result : Result ℕ EndRefusal) → P before
    → MayPump before result after → P after)
    → {before after : EndLog} {result : Result (Unit {0}) LinkError} → P before
    → HasSentWaiting credit before after result → P after
sent_holds P credit returning pump was (sends_nothing failed same) = rw same was
sent_holds P credit returning pump {before} {after} was
    (sends_more middle released sent up may all pumped) =
    pump middle after (Ok sent) (returning before middle released was may) pumped
sent_holds P credit returning pump {before} {after} was (returns_none error is up may) =
    returning before after (Err (refusals.Conn reasons.Memory)) was may
sent_holds P credit returning pump {before} {after} was
    (pumps_no_more middle released error is up may all pumped) =
    pump middle after (Err (refusals.Conn reasons.Memory))
    (returning before middle released was may) pumped

module _ {credit : Credit} {before after : EndLog} where
  -- The connection goes on, and nothing of a message has happened;
  pub sent_stays : {result : Result (Unit {0}) LinkError}
      → HasSentWaiting credit before after result → StaysOn before after
  sent_stays sent =
      sent_holds (StaysOn before) credit
      (λ one two said was may. stays_twice was (returned_stays credit one said two may))
      (λ one two said was may. stays_twice was (pumped_stays one said two may))
      (stays_none before) sent

  pub sent_same : {result : Result (Unit {0}) LinkError}
      → HasSentWaiting credit before after result → IsSameOfMessages before after
  sent_same sent = stays_same (sent_stays sent)

  -- nothing is given out;
  pub sent_given : {result : Result (Unit {0}) LinkError}
      → before.log.given ≤ length before.log.written → HasSentWaiting credit before after result
      → given_out after.log ≡ given_out before.log
  sent_given within sent = writes_given within (sent_stays sent).goes.writes

  -- no turn is undone;
  pub sent_turns : {result : Result (Unit {0}) LinkError}
      → HasSentWaiting credit before after result
      → length before.log.turns ≤ length after.log.turns
  sent_turns sent =
      sent_holds (λ one. length before.log.turns ≤ length one.log.turns) credit
      (λ one two said was may. omega (arith, was, returned_turns credit one said two may))
      (λ one two said was may. omega (arith, was, turns_of_pump one two said may)) (omega arith)
      sent

  -- and it ends only when out of memory.
  pub sent_error : {error : LinkError} → HasSentWaiting credit before after (Err error)
      → error ≡ errors.Memory
  sent_error (returns_none error is up may) = is
  sent_error (pumps_no_more middle released error is up may all pumped) = is

-- It may have happened at a machine.
pub sends_at : (course : Course) (kept : MessageState) {before after : EndLog}
    {result : Result (Unit {0}) LinkError} → Happens course kept before
    → HasSentWaiting All before after result → Happens course kept after
sends_at course kept was sent =
    sent_holds (Happens course kept) All (releases_at course kept) (pumps_at course kept) was sent
