-- How a client ends its fetch, over a link and without one, by how it was driven.
use Rattle.h2_engines.proofs.Names
use Names.{◌≡◌, ℕ, Bool, true, false, List, [], Option, Some, None, Result, Ok, Err, refl, sym}
use Names.{ConnRepresents, ap, ◌∙◌, subst, inl, inr, Appends-nil, Field, Code, InternalError}
use Names.{Client}
use Names.{Values, AreInRange, Log, Keeps-call, SentMessage, Part, call_given, is_head_alone}
use Names.{EndLog, new_end_log, LinkError, Open, Number, Coming, Fetched, Fetcher, CutsOffAtEnd}
use Names.{HasRequested, Traffic, IsLinked, HasTakenAll, AreHeadsSoFar, HasCome, IsWhole}
use Names.{interims_alone, interim_parts, error_with, items_failed, opened, with_call, with_sent}
use Names.{said_for, parts_on, MayAsk, IfErr, OnErr, IsNotAccepted, Course}
use Names.{IsDriven, EndsFor, lacks_memory, link_fails, has_stalled, stops_itself, HasEnded}
use Names.{MachineTakesPiece, Drives, HasSentFor, Keeps, TakenSo, DrivenSo, has_failed, IsFetchedOf}
use Rattle.h2_engines.specs.WithoutLink.{FetchesInSo, StopsFetchAlone, IsFetchingAlone}
use Rattle.h2_engines.specs.WithoutLink.{ClientTakesIn}
use Rattle.h2_conn.specs.declared.why.Why.{Why}
use Rattle.h2_conn.specs.Why.{IsWhy}
use Rattle.h2_engines.specs.Fetches.{EndsFetchSo, FetchesWhy}
use Rattle.std.proofs.Common.{IfOk, ◌⊎◌, map as each}
use Rattle.h2_engines.specs.ClientHistories.{IsFetched, begins, requests}
use Rattle.h2_engines.proofs.MachineLaws.{holds_again}
use Rattle.h2_engines.proofs.MachineViews.{client_held, begun, carried, links_alone, uses_alone}
use Rattle.h2_engines.proofs.MachineViews.{all_in_part, goes_for, not_cut}
use Rattle.h2_ends.proofs.RequestSent.{accepted_here}
use Rattle.h2_link.specs.declared.error.LinkError.TheVariants as errors
use Rattle.h2_engines.specs.declared.request.Next.TheVariants as nexts

-- Nothing has gone over the link.
nothing_linked : (start : Traffic) (log : Log) → log.input ≡ [] → log.given ≡ 0
    → IsLinked start start log []
nothing_linked start log input given =
    record {
      given = rw input (Appends-nil start.given);
      taken = rw given (Appends-nil start.taken);
    }

new_log : (values : Values)
    → ((opened Client values).input ≡ []) × ((opened Client values).given ≡ 0)
    × ((opened Client values).failed ≡ None)
unfolding opened with_sent
new_log values = (refl, refl, refl)

-- The message was not accepted.
pub ends_at_once : {values : Values} (message : SentMessage) (start : Traffic) (error : LinkError)
    → AreInRange values → IsNotAccepted values message (Err error)
    → FetchesWhy values message start start (Err error) None
ends_at_once {values} message start error range refused = (
  record {
    end = new_end_log Client values;
    fetching = begins range;
    linked = all_in_part (nothing_linked _ _ (new_log values).0 (new_log values).1);
    so = inr (record { refused = refused; new = refl; same = refl });
  },
  (new_log values).2,
)

open_failed : (log : Log) (list : List Field) (end : Bool) (id : ℕ)
    → (with_call log (Open list end) (Number id)).failed ≡ log.failed
unfolding with_call
open_failed log list end id = items_failed log (Open list end) (Number id)

-- Nothing has come.
no_heads : (coming : Coming) → coming.head ≡ None → coming.interims.items ≡ []
    → AreHeadsSoFar coming
no_heads coming head interims =
    record {
      interims = rw interims tt;
      head = λ list is. let wrong = rw head at is in absurd (cc);
    }

come_none : (coming : Coming) → coming.head ≡ None → coming.body.items ≡ []
    → coming.interims.items ≡ [] → coming.trailers ≡ None → HasCome coming []
come_none coming head body interims trailers =
    let none : interim_parts (each (λ list. list.items) coming.interims.items) ≡ [] =
    rw interims refl in
    subst (HasCome coming) none
    (interims_alone (no_heads coming head interims) head body trailers)

no_parts : (id : ℕ) → parts_on id [] ≡ []
unfolding parts_on
no_parts id = refl

-- The message was accepted: no octets were used yet,
none_used : {values : Values} {message : SentMessage} {fetcher : Fetcher}
    → (has : HasRequested values message fetcher) → has.end.log.input ≡ []
unfolding MayAsk
none_used {values} {message} {fetcher} has =
    let new = opened Client values in
    let act = Open message.head (is_head_alone message) in
    ap (λ (end : EndLog). end.log.input) has.requested.3
    ∙ (Keeps-call new act (Number fetcher.id)).input ∙ (new_log values).0

-- and the client is driven.
new_driven : {values : Values} {message : SentMessage} (start : Traffic) {fetcher : Fetcher}
    → AreInRange values → fetcher.whole ≡ false → (has : HasRequested values message fetcher)
    → IsDriven (record { values = values; message = message; start = start }) start
    (client_held fetcher) has.end [] nexts.Again
unfolding MayAsk Keeps
new_driven {values} {message} start {fetcher} range not has =
    let new = opened Client values in
    let act = Open message.head (is_head_alone message) in
    let now = has.requested.3 in
    let log : has.end.log ≡ with_call new act (Number fetcher.id) = ap (λ (end : EndLog). end.log)
    now in
    let parts : parts_on fetcher.id has.end.handed ≡ [] = ap
    (λ (end : EndLog). parts_on fetcher.id end.handed) now ∙ no_parts fetcher.id in
    record {
      happened = requests range (Ok fetcher.id) has.requested;
      represents = has.represents;
      linked = nothing_linked start has.end.log (none_used has) (ap
          (λ (one : Log). one.given) log ∙ call_given new act (Number fetcher.id)
          (λ count same. cc) ∙ (new_log values).1);
      up = ap (λ (one : Log). one.failed) log ∙ open_failed new message.head (is_head_alone message)
          fetcher.id ∙ (new_log values).2;
      keeps = (
        ap (λ (end : EndLog). said_for fetcher.id end.accepted) now ∙ accepted_here _ _ _,
        subst (HasCome fetcher.coming) (sym parts)
            (come_none fetcher.coming has.none_come has.no_body has.no_interims has.no_trailers),
        not,
      );
    }

-- Its body need not have been sent before it has used some.
first_sent : {values : Values} {message : SentMessage} {fetcher : Fetcher}
    → (has : HasRequested values message fetcher)
    → HasSentFor (client_held fetcher).kept has.end
first_sent has = λ some. absurd (some (none_used has))

-- A connection has failed, and all is written.
fails_so : (start now : Traffic) (end : EndLog) (id : ℕ) (code : Code)
    → end.log.failed ≡ Some code → HasTakenAll start now end.log
    → EndsFetchSo start now end id (Err (error_with code))
fails_so start now end id InternalError failed taken = inl (inr failed)
fails_so start now end id code failed taken =
    record { code = code; failed = failed; other = λ same. cc; number_is = refl; taken = taken }

ends_so : {start now : Traffic} (fetcher : Fetcher) {end : EndLog} {error : LinkError}
    → EndsFor true start now (client_held fetcher).kept end error
    → EndsFetchSo start now end fetcher.id (Err error)
ends_so fetcher (lacks_memory is (inl up)) = rw is (inl (inl up))
ends_so fetcher (lacks_memory is (inr (said, cannot))) = rw is (inr cannot)
ends_so fetcher (link_fails is said) = rw is tt
ends_so {start} {now} fetcher {end} (has_failed code failed is taken) =
    rw is (fails_so start now end fetcher.id code failed (taken refl))
ends_so fetcher (has_stalled is stalled) = rw is stalled
ends_so fetcher (stops_itself (number, is, dropped)) = rw is dropped

-- Why the connection of a client has failed, whatever has happened there.
abbrev pub SaysWhy : Fetcher → Option Why → Type 0
SaysWhy fetcher why =
    (values : Values) (log : Log) → ConnRepresents values fetcher.client.end.conn log
    → IsWhy values log why

-- A fetch ends so.
ended_fetches : {course : Course} {now : Traffic} (fetcher : Fetcher) {end : EndLog}
    {error : LinkError} (why : Option Why)
    → HasEnded true course now (client_held fetcher) end error → SaysWhy fetcher why
    → FetchesWhy course.values course.message course.start now (Err error) why
ended_fetches {course} fetcher {end} why ended said = (
  record {
    end = end;
    fetching = ended.happened;
    linked = record { unused = ended.unused; given = ended.given; taken = ended.taken };
    so = inl (record {
      id = fetcher.id;
      accepted = ended.holds.0;
      sends = ended.represents.streams.sent;
      unfinished = ended.holds.1;
      so = ends_so fetcher ended.why;
    });
  },
  said course.values end.log ended.represents.streams.conn,
)

-- What is read of a whole response is what was fetched.
abbrev content_of : {A : Type 0} → A → Option A → A
content_of other None = other
content_of other (Some one) = one

fetched_as : {coming : Coming} (parts : List (Part × Bool)) {fetched : Fetched}
    → IsWhole coming parts → IsFetchedOf coming fetched → IsFetched parts fetched
fetched_as parts whole of =
    let is = whole.5 in
    let interims = sym whole.2 ∙ of.interims in
    let head = ap (content_of whole.0.head) (sym whole.1 ∙ of.head) in
    let body = sym whole.3 ∙ of.body in
    let trailers = sym whole.4 ∙ of.trailers in
    record {
      data_parts = is.data_parts;
      whole = rw (← interims, ← head, ← trailers) is.whole;
      body = rw (← body) is.body;
    }

-- A whole response is there.
not_missing : (fetcher : Fetcher) (parts : List (Part × Bool)) → IsWhole fetcher.coming parts
    → fetcher.whole ≡ true → (fetcher.whole ≡ false) ⊎ (fetcher.coming.head ≡ None) → ⊥
not_missing fetcher parts is whole (inl none) = cc
not_missing fetcher parts is whole (inr none) = let head = is.1 in cc

module _ {values : Values} {message : SentMessage} (before now : Traffic) {old : Fetcher}
    (new : Fetcher) (range : AreInRange values) (not : old.whole ≡ false)
    (has : HasRequested values message old) where
  -- So a fetch ends early,
  pub drive_fetches : (error : LinkError) (why : Option Why) → SaysWhy new why
      → Drives before now (client_held old) (client_held new) (Err error)
      → FetchesWhy values message before now (Err error) why
  unfolding DrivenSo
  drive_fetches error why said drives =
      let so = drives _ has.end (new_driven before range not has) (first_sent has) in
      ended_fetches new why so.1 said

  -- never where its input has ended then;
  pub drive_not_cut : (error : LinkError) (ended : Bool)
      → Drives before now (client_held old) (client_held new) (Err error)
      → CutsOffAtEnd {A = Fetched} (Err error) ended
  unfolding DrivenSo
  drive_not_cut error ended drives =
      let so = drives _ has.end (new_driven before range not has) (first_sent has) in
      not_cut Fetched error ended (goes_for (client_held new).kept so.1.why)

  -- or where that has ended before the response was whole;
  pub drive_cut_off : (whole : Bool) (why : Option Why) → SaysWhy new why → whole ≡ false
      → Drives before now (client_held old) (client_held new) (Ok whole)
      → FetchesWhy values message before now (Err errors.CutOff) why
  unfolding DrivenSo Keeps
  drive_cut_off true why said ends drives = absurd (cc)
  drive_cut_off false why said ends drives =
      let so = drives _ has.end (new_driven before range not has) (first_sent has) in
      let driven = so.1.0 in
      let holds = holds_again message (client_held new).kept so.0 errors.CutOff driven.keeps in (
        record {
          end = so.0;
          fetching = driven.happened;
          linked = all_in_part driven.linked;
          so = inl (record {
            id = new.id;
            accepted = holds.0;
            sends = driven.represents.streams.sent;
            unfinished = holds.1;
            so = (driven.up, driven.linked.given, so.1.1, so.1.2, so.1.3);
          });
        },
        said values so.0.log driven.represents.streams.conn,
      )

  -- or the response is whole.
  pub drive_whole : (whole : Bool) (result : Result Fetched LinkError) (why : Option Why)
      → SaysWhy new why → whole ≡ true
      → Drives before now (client_held old) (client_held new) (Ok whole)
      → IfOk result (λ fetched. IsFetchedOf new.coming fetched)
      → OnErr result ((new.whole ≡ false) ⊎ (new.coming.head ≡ None))
      → FetchesWhy values message before now result why
  unfolding DrivenSo Keeps
  drive_whole false result why said ends drives of none = absurd (cc)
  drive_whole true (Ok fetched) why said ends drives of none =
      let so = drives _ has.end (new_driven before range not has) (first_sent has) in
      let driven = so.1.1 in (
        record {
          end = so.0;
          fetching = driven.happened;
          linked = all_in_part driven.linked;
          so = inl (record {
            id = new.id;
            accepted = driven.keeps.0;
            sends = driven.represents.streams.sent;
            unfinished = tt;
            so = fetched_as (parts_on new.id so.0.handed) driven.keeps.1 of;
          });
        },
        said values so.0.log driven.represents.streams.conn,
      )
  drive_whole true (Err error) why said ends drives of none =
      let so = drives _ has.end (new_driven before range not has) (first_sent has) in
      let keeps = so.1.1.keeps in
      absurd (not_missing new (parts_on new.id so.0.handed) keeps.1 keeps.2 none)

-- The input hasn't ended then.
pub fetched_not_cut : (result : Result Fetched LinkError) (ended : Bool)
    → IfErr result (λ error. error ≡ errors.NoProgress) → CutsOffAtEnd result ended
fetched_not_cut (Ok fetched) ended is = tt
fetched_not_cut (Err error) ended is =
    rw is tt

-- A client without a link is driven too,
alone_driven : {values : Values} {message : SentMessage} {fetcher : Fetcher} {end : EndLog}
    (piece : List ℕ) → IsFetchingAlone values message fetcher end
    → IsDriven (record { values = values; message = message; start = begun }) (carried end piece)
    (client_held fetcher) end piece nexts.Again
unfolding Keeps
alone_driven {end} piece is =
    record {
      happened = is.fetching;
      represents = is.represents;
      linked = links_alone end piece;
      up = is.up;
      keeps = (is.accepted, is.come, is.unfinished);
    }

-- and ends so.
code_stops : (end : EndLog) (id : ℕ) (code : Code) → end.log.failed ≡ Some code
    → StopsFetchAlone end id (error_with code)
unfolding StopsFetchAlone
code_stops end id InternalError failed = inr failed
code_stops end id code failed =
    record { code = code; failed = failed; other = λ same. cc; number_is = refl }

ends_alone : {start now : Traffic} (fetcher : Fetcher) {end : EndLog} {error : LinkError}
    → now.stalled ≡ false → EndsFor false start now (client_held fetcher).kept end error
    → StopsFetchAlone end fetcher.id error
unfolding StopsFetchAlone
ends_alone fetcher none (lacks_memory is (inl up)) = rw is (inl up)
ends_alone fetcher none (lacks_memory is (inr (said, cannot))) = absurd (cc)
ends_alone fetcher none (link_fails is said) = absurd (cc)
ends_alone fetcher {end} none (has_failed code failed is taken) =
    rw is (code_stops end fetcher.id code failed)
ends_alone fetcher none (has_stalled is (inl stalled)) = absurd (cc)
ends_alone fetcher none (has_stalled is (inr out)) = rw is out
ends_alone fetcher none (stops_itself (number, is, dropped)) = rw is dropped

-- So it takes octets in.
pub takes_in : (real now : Traffic) (old new : Fetcher) (piece : List ℕ)
    (result : Result Bool LinkError)
    → MachineTakesPiece false real now (client_held old) (client_held new) piece result
    → ClientTakesIn old new piece result
unfolding TakenSo FetchesInSo Keeps
takes_in real now old new piece (Ok true) takes values message end is =
    let so = takes _ (carried end piece) end (alone_driven piece is) in
    let driven = so.2.1 in (
      so.0,
      (
        record {
          fetching = driven.happened;
          represents = driven.represents;
          accepted = driven.keeps.0;
          response = driven.keeps.1;
          noted = driven.keeps.2;
        },
        (so.2.0, uses_alone end piece driven.linked),
      ),
    )
takes_in real now old new piece (Ok false) takes values message end is =
    let so = takes _ (carried end piece) end (alone_driven piece is) in
    let driven = so.2 in (
      so.0,
      (
        record {
          fetching = driven.happened;
          represents = driven.represents;
          accepted = driven.keeps.0;
          up = driven.up;
          come = driven.keeps.1;
          unfinished = driven.keeps.2;
        },
        uses_alone end piece driven.linked,
      ),
    )
takes_in real now old new piece (Err error) takes values message end is =
    let so = takes _ (carried end piece) end (alone_driven piece is) in
    let ended = so.2 in (
      so.0,
      (
        ended.happened,
        ended.represents,
        ended.holds.0,
        (ended.unused, uses_alone end piece (ended.alone refl)),
        ends_alone new refl ended.why,
      ),
    )

-- A response that is whole isn't fetched any more.
pub takes_none : (fetcher : Fetcher) (piece : List ℕ) → fetcher.whole ≡ true
    → ClientTakesIn fetcher fetcher piece (Ok true)
takes_none fetcher piece whole values message end is =
    let not = is.unfinished in absurd (cc)
