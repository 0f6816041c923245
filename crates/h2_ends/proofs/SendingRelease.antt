-- The loop that releases all that is owed, whatever had happened when it began.
use Rattle.h2_ends.proofs.Names
use Names.{◌≡◌, ◌≢◌, ◌<◌, ℕ, ◌+◌, ◌-◌, ◌^◌, Bool, true, false, Option, if◌then◌else◌, Some, None}
use Names.{refl, sym, ap, ◌∙◌, subst, Code, Refusal, Closed, Values, Release, Done, Refused}
use Names.{reader_owed, Log, active, log_view, stream_of_log, when, owed_on, Conn, ConnRepresents}
use Names.{ConnAnswers, End, EndLog, Span, EndRepresents, IsNextIn, IsTypedAct, owed}
use Names.{MayReleaseAll, is_some, Ok, Err, EndReleases}
use Rattle.h2_ends.proofs.PumpSteps.{next_kept, none_active}
use Rattle.h2_ends.proofs.ReleaseSteps.{IsReleasing, release_begins, release_comes, release_passes}
use Rattle.h2_ends.proofs.ReleaseSteps.{release_goes_on, release_ends, release_is_refused}
use Rattle.h2_ends.proofs.ReleaseSteps.{refusal_represents, after_release, after_refusal}
use Rattle.h2_ends.proofs.ReleaseSteps.{none_is_owed, none_owing}
use Rattle.h2_ends.specs.declared.refusal.EndRefusal.TheVariants as refusals

-- The connection has not failed, by its answer.
pub up_by : (failed : Option Code) → false ≡ is_some failed → failed ≡ None
up_by None up = refl
up_by (Some code) up = cc

pub down_by : (failed : Option Code) → true ≡ is_some failed → failed ≢ None
down_by None down = λ none. cc
down_by (Some code) down = λ none. cc

-- What `failed` answers of any log that the connection represents,
abbrev pub ReadsFailed : Conn → Option Code → Type 0
ReadsFailed conn failed =
    (values : Values) (log : Log) → ConnRepresents values conn log → failed ≡ log.failed

-- and what `owed` does.
abbrev pub ReadsOwed : Conn → ℕ → ℕ → Type 0
ReadsOwed conn id count =
    (values : Values) (log : Log) → ConnRepresents values conn log
    → count ≡ reader_owed (log_view log) id

-- As long as the connection is up, what it answers is what is owed.
owed_by : (log : Log) (id : ℕ) (alive : Bool) → active log id ≡ alive
    → owed_on (when alive (stream_of_log log id)) ≡ owed log id
unfolding owed
owed_by log id true is = rw is refl
owed_by log id false is = rw is refl

pub owed_read : (log : Log) (id count : ℕ) → log.failed ≡ None
    → count ≡ reader_owed (log_view log) id → count ≡ owed log id
owed_read log id count up is =
    is
    ∙ ap (λ (b : Bool). if b then 0 else owed_on (when (active log id) (stream_of_log log id)))
    (ap is_some up)
    ∙ owed_by log id (active log id) refl

-- What is released has the types of a call.
typed_release : (id count : ℕ) → id < 2 ^ 32 → count < 2 ^ 32 → IsTypedAct (Release id count)
unfolding IsTypedAct
typed_release id count small few = (small, few)

-- The end has released all that is owed on streams below a number.
abbrev pub ReleasesTo : (old now : End) (id : ℕ) → Type 0
ReleasesTo old now id =
    (values : Values) (start : EndLog) → EndRepresents values old start
    → (start.log.failed ≡ None) × ((happened : EndLog) × IsReleasing values start now happened id)

-- It was closed from the start,
pub closed_from_start : (old : End) (failed : Option Code) → ReadsFailed old.conn failed
    → true ≡ is_some failed → EndReleases old (Err (refusals.Conn Closed)) old
unfolding MayReleaseAll
closed_from_start old failed reads down = λ values start is. (
  start,
  (λ none. down_by failed down (reads values start.log is.streams.conn ∙ none), refl),
  is,
)

-- or it begins,
pub begins_release : (old : End) (failed : Option Code) → ReadsFailed old.conn failed
    → false ≡ is_some failed → (last : ℕ) → last ≡ old.spans.owing.first - 1
    → ReleasesTo old old (last + 1)
begins_release old failed reads up last first = λ values start is.
    let none = sym (reads values start.log is.streams.conn) ∙ up_by failed up in (
      none,
      (
        start,
        subst (λ (n : ℕ). IsReleasing values start old start (n + 1)) (sym first)
            (release_begins values start old is none),
      ),
    )

-- comes to a stream,
pub comes_to : (old now : End) (last id : ℕ) → ReleasesTo old now (last + 1)
    → IsNextIn now now.spans.owing last (Some id) → ReleasesTo old now id
comes_to old now last id goes next = λ values start is.
    let (up, (happened, so)) = goes values start is in
    let is = so.represents in (
      up,
      (
        happened,
        release_comes values start now happened last id so
            (next_kept now.spans now now.spans.owing happened last id is.in_step is.active so.up
            next.0),
      ),
    )

-- on which nothing is owed,
pub passes_stream : (old now : End) (id count : ℕ) → ReleasesTo old now id
    → ReadsOwed now.conn id count → count ≡ 0 → ReleasesTo old now (id + 1)
passes_stream old now id count goes reads none = λ values start is.
    let (up, (happened, so)) = goes values start is in
    let owes = owed_read happened.log id count so.up (reads values happened.log
    so.represents.streams.conn) in
    (up, (happened, release_passes values start now happened id so (sym owes ∙ none)))

-- or all that is owed is released,
pub releases_stream : (old now new : End) (id count : ℕ) → ReleasesTo old now id
    → ReadsOwed now.conn id count → count ≢ 0 → id < 2 ^ 32 → count < 2 ^ 32
    → ConnAnswers now.conn (Release id count) Done new.conn → new.role ≡ now.role
    → new.streams ≡ now.streams → new.spans ≡ now.spans → ReleasesTo old new (id + 1)
releases_stream old now new id count goes reads some small few answers role streams spans =
    λ values start is.
    let (up, (happened, so)) = goes values start is in
    let owes = owed_read happened.log id count so.up (reads values happened.log
    so.represents.streams.conn) in
    let typed = subst (λ (n : ℕ). IsTypedAct (Release id n)) owes
    (typed_release id count small few) in
    let both = subst (λ (n : ℕ). ConnAnswers now.conn (Release id n) Done new.conn) owes answers
    values happened.log so.represents.streams.conn in (
      up,
      (
        after_release happened id,
        release_goes_on values start now new happened id so (λ none. some (owes ∙ none)) typed
            both.0 both.1 role streams spans,
      ),
    )

-- or the call is refused.
pub refuses_stream : (old now new : End) (id count : ℕ) (refusal : Refusal)
    → ReleasesTo old now id → ReadsOwed now.conn id count → count ≢ 0 → id < 2 ^ 32
    → count < 2 ^ 32 → ConnAnswers now.conn (Release id count) (Refused refusal) new.conn
    → new.role ≡ now.role → new.streams ≡ now.streams → new.spans ≡ now.spans
    → EndReleases old (Err (refusals.Conn refusal)) new
refuses_stream old now new id count refusal goes reads some small few answers role streams spans =
    λ values start is.
    let (up, (happened, so)) = goes values start is in
    let owes = owed_read happened.log id count so.up (reads values happened.log
    so.represents.streams.conn) in
    let typed = subst (λ (n : ℕ). IsTypedAct (Release id n)) owes
    (typed_release id count small few) in
    let both = subst (λ (n : ℕ). ConnAnswers now.conn (Release id n) (Refused refusal) new.conn)
    owes answers values happened.log so.represents.streams.conn in (
      after_refusal happened id refusal,
      release_is_refused values start now happened id refusal up so
          (λ none. some (owes ∙ none)) typed both.0,
      refusal_represents values start now new happened id refusal so both.0 both.1 role streams
          spans,
    )

-- It ends where none of the span is left.
pub ends_release : (old now : End) (last : ℕ) (span : Span) → ReleasesTo old now (last + 1)
    → IsNextIn now now.spans.owing last None
    → EndReleases old (Ok (record {})) (record now { spans = record now.spans { owing = span } })
ends_release old now last span goes next = λ values start is.
    let (up, (happened, so)) = goes values start is in
    let none = none_active now.spans now happened last now.spans.owing so.represents.in_step so.up
    next.1 in (
      happened,
      release_ends values start now happened last up so none,
      none_owing values now happened span so.represents
          (none_is_owed values start now happened last so none),
    )
