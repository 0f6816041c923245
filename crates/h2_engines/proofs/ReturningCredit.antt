-- What returning credit leaves, on all streams or on one, and when it is refused.
use Rattle.h2_engines.proofs.Names
use Names.{◌≡◌, ◌≢◌, ◌≤◌, ◌<◌, ◌^◌, ℕ, length, None, Result, Ok, Err, refl, sym, ap, ◌∙◌, subst}
use Names.{inl, inr, arith, cases_Bool, if◌then◌else◌, Bool, Values, Answer, Release, Log, log_view}
use Names.{active, owed_inactive, with_call, IsTypedAct, End, EndLog, EndRefusal, end_with_log}
use Names.{EndRepresents, EndAnswers, MayReleaseAll, MayAnswer, ConnRepresents}
use Names.{owed, ReturnsCredit}
use Rattle.std.proofs.Common.{is_some}
use Rattle.h2_spec_log.specs.CallRules.{reader_owed}
use Rattle.h2_spec_log.specs.LogView.{stream_of_log}
use Rattle.h2_spec_log.specs.States.{when}
use Rattle.h2_spec_log.specs.View.{owed_on}
use Rattle.h2_laws_end.proofs.OverRoom.{owed_active}
use Rattle.h2_engines.specs.Sending.{MayReturnCredit, owes_none, released_by, releases_owed}
use Rattle.h2_engines.specs.declared.sending.Credit.{Credit}
use Rattle.h2_engines.specs.declared.sending.Credit.TheVariants.{All, Kept, On}
use Rattle.h2_engines.proofs.LinkInvariants.{IsQuiet}
use Rattle.h2_engines.proofs.OwedCredit.{release_refused}
use Rattle.h2_engines.proofs.ServeLinkLogs.{StaysOn, call_goes, released_stays, stays_none}
use Rattle.h2_engines.proofs.TakeMessages.{keeps_by_call}
use Rattle.h2_engines.proofs.TurnsPassed.{turns_of_call, turns_of_release}
use Rattle.h2_ends.specs.declared.refusal.EndRefusal.TheVariants as refusals
use Rattle.h2_spec_log.specs.declared.refusal.Refusal.TheVariants as reasons

-- What `owed` answers of any log that the connection of an end represents.
abbrev pub ReadsOwed : End → ℕ → ℕ → Type 0
ReadsOwed end id count =
    (values : Values) (log : Log) → ConnRepresents values end.conn log
    → count ≡ reader_owed (log_view log) id

-- While the connection is up, that is what is owed on the stream.
owes_as : (old : End) (id count : ℕ) → ReadsOwed old id count → (values : Values) (end : EndLog)
    → EndRepresents values old end → end.log.failed ≡ None → count ≡ owed end.log id
owes_as old id count reads values end represents up =
    let log = end.log in
    let on = λ (alive : Bool). owed_on (when alive (stream_of_log log id)) in
    reads values log represents.streams.conn
    ∙ ap (λ (down : Bool). if down then 0 else on (active log id)) (ap is_some up)
    ∙ elim (cases_Bool (active log id)) [
      | inl alive ↦ ap on alive ∙ sym (owed_active log id alive)
      | inr over ↦ ap on over ∙ sym (owed_inactive log id over)
    ]

-- Where nothing is, no call is made;
pub returns_nothing : (old : End) (id count : ℕ) → ReadsOwed old id count → count ≡ 0
    → ReturnsCredit (On id) old old (Ok tt)
returns_nothing old id count reads none values end represents up =
    let owes = owes_as old id count reads values end represents up in
    (end, owes_none (sym owes ∙ none) refl refl, represents)

-- else all of it is released by one call.
pub returns_some : (old new : End) (id count : ℕ) (result : Result (Unit {0}) EndRefusal)
    (answer : Answer) → ReadsOwed old id count → count ≢ 0 → id < 2 ^ 32 → count < 2 ^ 32
    → EndAnswers old (Release id count) answer new → released_by result answer
    → ReturnsCredit (On id) old new result
unfolding IsTypedAct
returns_some old new id count result answer reads some small few answers by values end represents
    up =
    let owes = owes_as old id count reads values end represents up in
    let typed = subst (λ (n : ℕ). IsTypedAct (Release id n)) owes (small, few) in
    let both = subst (λ (n : ℕ). EndAnswers old (Release id n) answer new) owes answers values end
    represents in (
      end_with_log end (with_call end.log (Release id (owed end.log id)) answer),
      releases_owed answer (λ none. some (owes ∙ none)) typed both.0 by refl,
      both.1,
    )

-- A release is quiet, whether it is refused or not.
quiet_by : (id count : ℕ) (result : Result (Unit {0}) EndRefusal) (answer : Answer)
    → released_by result answer → IsQuiet (Release id count) answer
quiet_by id count (Ok done) answer by = rw by tt
quiet_by id count (Err (refusals.Conn refusal)) answer by = rw by tt
quiet_by id count (Err other) answer by = absurd by

-- Where credit is returned, nothing is accepted or handed out, and the connection goes on;
pub returned_stays : (credit : Credit) (before : EndLog) (result : Result (Unit {0}) EndRefusal)
    (after : EndLog) → MayReturnCredit credit before result after → StaysOn before after
returned_stays All before result after may = released_stays before result after may
returned_stays Kept before result after may = rw may.1 (stays_none before)
returned_stays (On id) before result after (owes_none none done same) = rw same (stays_none before)
returned_stays (On id) before result after (releases_owed answer some typed may by same) =
    let act = Release id (owed before.log id) in
    rw same (record {
      goes = call_goes before.log act answer (quiet_by id (owed before.log id) result answer by);
      accepted = refl;
      handed = refl;
      calls = keeps_by_call before.log act answer;
    })

-- and no turn is undone.
pub returned_turns : (credit : Credit) (before : EndLog) (result : Result (Unit {0}) EndRefusal)
    (after : EndLog) → MayReturnCredit credit before result after
    → length before.log.turns ≤ length after.log.turns
returned_turns All before result after may = turns_of_release before after result may
returned_turns Kept before result after may = rw may.1 (omega arith)
returned_turns (On id) before result after (owes_none none done same) = rw same (omega arith)
returned_turns (On id) before result after (releases_owed answer some typed may by same) =
    let more = turns_of_call before.log (Release id (owed before.log id)) answer in
    rw same (omega (arith, more))

-- While the connection is up, credit is refused otherwise than for a full output only when out of
-- memory.
all_memory : (end : EndLog) (refusal : EndRefusal) (after : EndLog) → end.log.failed ≡ None
    → MayReleaseAll end (Err refusal) after → refusal ≢ refusals.Conn reasons.OutputFull
    → refusal ≡ refusals.Conn reasons.Memory
unfolding MayReleaseAll
all_memory end (refusals.Conn reasons.Closed) after up may other = absurd (may.0 up)
all_memory end (refusals.Conn reasons.OutputFull) after up may other = absurd (other refl)
all_memory end (refusals.Conn reasons.Memory) after up may other = refl
all_memory end refusal after up may other = absurd may

one_memory : (end : EndLog) (id : ℕ) (refusal : EndRefusal) (answer : Answer)
    → end.log.failed ≡ None → owed end.log id ≢ 0
    → MayAnswer end.log (Release id (owed end.log id)) answer
    → released_by (Err refusal) answer → refusal ≢ refusals.Conn reasons.OutputFull
    → refusal ≡ refusals.Conn reasons.Memory
one_memory end id (refusals.Conn refusal) answer up some may by other =
    elim (release_refused end.log id refusal up some (rw by at may)) [
      | inl full ↦ absurd (other (ap refusals.Conn full))
      | inr memory ↦ ap refusals.Conn memory
    ]
one_memory end id refusal answer up some may by other = absurd by

pub returned_memory : (credit : Credit) (end : EndLog) (refusal : EndRefusal) (after : EndLog)
    → end.log.failed ≡ None → MayReturnCredit credit end (Err refusal) after
    → refusal ≢ refusals.Conn reasons.OutputFull → refusal ≡ refusals.Conn reasons.Memory
returned_memory Kept end refusal after up may other = absurd (cc)
returned_memory All end refusal after up may other = all_memory end refusal after up may other
returned_memory (On id) end refusal after up (owes_none none done same) other = absurd (cc)
returned_memory (On id) end refusal after up (releases_owed answer some typed may by same) other =
    one_memory end id refusal answer up some may by other
