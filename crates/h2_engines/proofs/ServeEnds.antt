-- How a server ends, over a link and without one, by how it was driven.
use Rattle.h2_engines.proofs.Names
use Names.{◌≡◌, ℕ, Bool, true, false, List, [], ◌++◌, Some, None, Result, Ok, Err, refl, sym, ap}
use Names.{◌∙◌, inl, inr, Appends-nil, Code, InternalError, Server, Values, AreInRange, EndLog}
use Names.{new_end_log, LinkError, both_ways, Token, tokens_sent, Responder, CutsOffAtEnd, Traffic}
use Names.{IsLinked, HasTakenAll, HasReturnedAll, HasSentAll, error_with, opened, with_sent}
use Names.{tokens_given, KeepsNext, FinishedSo, IfErr, OnOk, EndsServing, begins, SendsAll, Option}
use Names.{ConnRepresents, Log}
use Rattle.h2_conn.specs.declared.why.Why.{Why}
use Rattle.h2_conn.specs.Why.{IsWhy}
use Rattle.h2_engines.specs.Serves.{ServesWhy}
use Names.{EndsServingSo, owed_inactive, Course, IsDriven, EndsFor, lacks_memory, link_fails}
use Names.{has_stalled, stops_itself, reset_refused, MachineTakesPiece, Drives, Keeps, TakenSo}
use Names.{DrivenSo, has_failed, ServerFinishes, MayEnd, IsServingAlone}
use Rattle.h2_engines.specs.Machines.{cannot_reset, answer_refused, counts_no_more, ServerStops}
use Rattle.h2_engines.specs.WithoutLink.{StopsAlone, TakesInSo, ServerTakesIn}
use Rattle.h2_ends.proofs.ControlStart.{none_sent, none_given as none_accepted}
use Rattle.h2_engines.proofs.AnswerRequests.{kept_all}
use Rattle.h2_engines.proofs.AnswersSent.{sent_whole}
use Rattle.h2_engines.proofs.MachineViews.{server_held, no_message, begun, carried, links_alone}
use Rattle.h2_engines.proofs.MachineViews.{uses_alone, all_in_part, goes_for, not_cut}
use Rattle.h2_laws_machine.proofs.NewEnd.{new_is_active}
use Rattle.h2_link.specs.declared.error.LinkError.TheVariants as errors
use Rattle.h2_engines.specs.declared.request.Next.TheVariants as nexts
use Rattle.h2_engines.specs.Serves as stops
use Rattle.h2_engines.specs.WithoutLink as alone

-- A server that goes on is one that is driven.
serving_driven : {values : Values} {start now : Traffic} {responder : Responder} {end : EndLog}
    {unused : List ℕ} → IsServingAlone values responder end → IsLinked start now end.log unused
    → IsDriven (record { values = values; message = no_message; start = start }) now
    (server_held responder) end unused nexts.Again
unfolding Keeps KeepsNext
serving_driven is linked =
    record {
      happened = is.responding;
      represents = is.represents;
      linked = linked;
      up = is.up;
      keeps = (is.keeps, is.count);
    }

driven_serving : {course : Course} {now : Traffic} (responder : Responder) {end : EndLog}
    {unused : List ℕ} → IsDriven course now (server_held responder) end unused nexts.Again
    → IsServingAlone course.values responder end
unfolding Keeps KeepsNext
driven_serving responder is =
    record {
      responding = is.happened;
      represents = is.represents;
      up = is.up;
      keeps = is.keeps.0;
      count = is.keeps.1;
    }

-- No response of it is whole.
never_whole : {course : Course} {now : Traffic} (responder : Responder) {end : EndLog}
    {unused : List ℕ} → IsDriven course now (server_held responder) end unused nexts.Whole → ⊥
unfolding Keeps KeepsNext
never_whole responder is = is.keeps.0

-- A new one, over a link of which nothing has gone.
new_links : (values : Values) (start : Traffic)
    → IsLinked start start (new_end_log Server values).log []
unfolding opened with_sent
new_links values start =
    record { given = Appends-nil start.given; taken = Appends-nil start.taken }

-- There is no memory for one.
new_calls : (values : Values) → (opened Server values).calls ≡ []
unfolding opened with_sent
new_calls values = refl

pub new_up : (values : Values) → (opened Server values).failed ≡ None
unfolding opened with_sent
new_up values = refl

new_sends : (values : Values) → SendsAll (new_end_log Server values)
unfolding tokens_given
new_sends values i =
    let none = ap (tokens_sent i) (new_calls values) ∙ none_sent i in
    record {
      waiting = [];
      prefix = ap tokens_given (none_accepted i)
          ∙ ap (λ (tokens : List Token). tokens ++ []) (sym none);
      begun = λ given. absurd (given (none_accepted i));
    }

-- Nothing is owed by it, and nothing waits.
new_sent_all : (values : Values) → HasSentAll (new_end_log Server values)
new_sent_all values =
    record {
      none_owed = λ i. owed_inactive (opened Server values) i (new_is_active Server values i);
      stuck = λ i alive. absurd (both_ways _ (new_is_active Server values i) alive);
    }

pub none_serves : {values : Values} (start : Traffic) {error : LinkError} → AreInRange values
    → error ≡ errors.Memory → ServesWhy values start start (Err error) None
none_serves {values} start range memory = (
  record {
    end = new_end_log Server values;
    responding = begins range;
    sends = new_sends values;
    linked = all_in_part (new_links values start);
    so = rw memory (inl (inl (new_up values)));
  },
  new_up values,
)

-- It has failed with a code, and all is written.
ends_with : (start now : Traffic) (end : EndLog) (code : Code) → end.log.failed ≡ Some code
    → HasTakenAll start now end.log → EndsServingSo start now end (Err (error_with code))
ends_with start now end InternalError failed taken = inl (inr failed)
ends_with start now end code failed taken =
    inl (record {
      code = code;
      failed = failed;
      other = λ same. cc;
      number_is = refl;
      taken = taken;
    })

stops_so : (start now : Traffic) {end : EndLog} {error : LinkError} → ServerStops true end error
    → EndsServingSo start now end (Err error)
stops_so start now (cannot_reset number is cannot) = rw is (inr cannot)
stops_so start now (counts_no_more is most) = rw is (stops.counts_no_more most)
stops_so start now (answer_refused is before id message refusal whole asked may other after) =
    rw is (stops.answer_refused before id message refusal whole asked may (other refl) after)
stops_so start now (reset_refused is id refusal large refused other after) =
    rw is (stops.reset_refused id refusal large refused other after)

ends_so : {start now : Traffic} (responder : Responder) {end : EndLog} {error : LinkError}
    → EndsFor true start now (server_held responder).kept end error
    → EndsServingSo start now end (Err error)
ends_so responder (lacks_memory is (inl up)) = rw is (inl (inl up))
ends_so responder (lacks_memory is (inr (said, cannot))) = rw is (inr cannot)
ends_so responder (link_fails is said) = rw is tt
ends_so {start} {now} responder {end} (has_failed code failed is taken) =
    rw is (ends_with start now end code failed (taken refl))
ends_so responder (has_stalled is stalled) = rw is (stops.stalls stalled)
ends_so {start} {now} responder (stops_itself why) = stops_so start now why

-- the course of a connection that is served
abbrev course_of : Values → Traffic → Course
course_of values start = record { values = values; message = no_message; start = start }

-- One whose input has ended ends so.
finished_so : {start now : Traffic} {responder : Responder} {values : Values} {end : EndLog}
    (result : Result ℕ LinkError) → IsServingAlone values responder end
    → IsLinked start now end.log [] → HasTakenAll start now end.log → HasReturnedAll end.log
    → HasSentAll end → FinishedSo end responder.answered result → EndsServingSo start now end result
unfolding FinishedSo
finished_so {responder} (Ok count) is linked taken returned all so =
    let rests = so.1 is.up in
    let answers = kept_all responder.requests is.responding is.keeps in
    record {
      rests = rests;
      given = linked.given;
      taken = taken;
      returned = returned;
      answers = answers;
      sent = sent_whole is.responding is.represents is.up rests.none_active answers;
      counted = so.0 ∙ is.count;
    }
finished_so {responder} (Err error) is linked taken returned all so =
    rw so.0 (
      so.1 is.up,
      linked.given,
      taken,
      returned,
      kept_all responder.requests is.responding is.keeps,
      all,
    )

-- Why the connection of a server has failed, whatever has happened there.
abbrev pub SaysWhy : Responder → Option Why → Type 0
SaysWhy responder why =
    (values : Values) (log : Log) → ConnRepresents values responder.server.end.conn log
    → IsWhy values log why

module _ {values : Values} (before now : Traffic) {old : Responder} (new : Responder)
    (is : IsServingAlone values old (new_end_log Server values)) where
  -- So a connection is served: it is driven,
  drives_new : (result : Result Bool LinkError)
      → Drives before now (server_held old) (server_held new) result
      → (after : EndLog) × DrivenSo (course_of values before) now (server_held new) after result
  drives_new result drives =
      drives (course_of values before) (new_end_log Server values)
      (serving_driven is (new_links values before)) (new_sent_all values)

  -- and ends early,
  pub drive_serves : (error : LinkError) (why : Option Why) → SaysWhy new why
      → Drives before now (server_held old) (server_held new) (Err error)
      → ServesWhy values before now (Err error) why
  unfolding DrivenSo
  drive_serves error why said drives =
      let so = drives_new (Err error) drives in (
        record {
          end = so.0;
          responding = so.1.happened;
          sends = so.1.represents.streams.sent;
          linked = record { unused = so.1.unused; given = so.1.given; taken = so.1.taken };
          so = ends_so new so.1.why;
        },
        said values so.0.log so.1.represents.streams.conn,
      )

  -- never where its input has ended then,
  pub drive_not_cut : (error : LinkError) (ended : Bool)
      → Drives before now (server_held old) (server_held new) (Err error)
      → CutsOffAtEnd {A = ℕ} (Err error) ended
  unfolding DrivenSo
  drive_not_cut error ended drives =
      let so = drives_new (Err error) drives in
      not_cut ℕ error ended (goes_for (server_held new).kept so.1.why)

  -- and one whose input has ended.
  pub finish_serves : (whole : Bool) (result : Result ℕ LinkError) (why : Option Why)
      → SaysWhy new why → Drives before now (server_held old) (server_held new) (Ok whole)
      → ServerFinishes new.server.end new.answered result
      → ServesWhy values before now result why
  unfolding DrivenSo
  finish_serves true result why said drives finishes =
      let so = drives_new (Ok true) drives in
      absurd (never_whole new so.1.1)
  finish_serves false result why said drives finishes =
      let so = drives_new (Ok false) drives in
      let driven = so.1.0 in (
        record {
          end = so.0;
          responding = driven.happened;
          sends = driven.represents.streams.sent;
          linked = all_in_part driven.linked;
          so = finished_so result (driven_serving new driven) driven.linked so.1.1 so.1.2
              so.1.3 (finishes values so.0 driven.represents);
        },
        said values so.0.log driven.represents.streams.conn,
      )

  -- The input has ended then, and no call of the link has failed.
  pub finish_ended : (whole : Bool)
      → Drives before now (server_held old) (server_held new) (Ok whole) → whole ≡ false
  unfolding DrivenSo
  finish_ended true drives =
      let so = drives_new (Ok true) drives in
      absurd (never_whole new so.1.1)
  finish_ended false drives = refl

-- A server without a link ends so.
code_stops : (end : EndLog) (code : Code) → end.log.failed ≡ Some code
    → StopsAlone end (error_with code)
unfolding StopsAlone
code_stops end InternalError failed = inr failed
code_stops end code failed =
    inl (record { code = code; failed = failed; other = λ same. cc; number_is = refl })

stops_alone : {end : EndLog} {error : LinkError} → ServerStops false end error
    → StopsAlone end error
unfolding StopsAlone
stops_alone (cannot_reset number is cannot) = rw is (inr cannot)
stops_alone (counts_no_more is most) = rw is (alone.counts_no_more most)
stops_alone (answer_refused is before id message refusal whole asked may other after) =
    rw is (alone.answer_refused before id message refusal whole asked may after)
stops_alone (reset_refused is id refusal large refused other after) =
    rw is (alone.reset_refused id refusal large refused other after)

ends_alone : {start now : Traffic} (responder : Responder) {end : EndLog} {error : LinkError}
    → now.stalled ≡ false → EndsFor false start now (server_held responder).kept end error
    → StopsAlone end error
unfolding StopsAlone
ends_alone responder none (lacks_memory is (inl up)) = rw is (inl up)
ends_alone responder none (lacks_memory is (inr (said, cannot))) = absurd (cc)
ends_alone responder none (link_fails is said) = absurd (cc)
ends_alone responder {end} none (has_failed code failed is taken) =
    rw is (code_stops end code failed)
ends_alone responder none (has_stalled is (inl stalled)) = absurd (cc)
ends_alone responder none (has_stalled is (inr out)) = rw is (alone.out_of_rounds out)
ends_alone responder none (stops_itself why) = stops_alone why

-- So it takes octets in: all of them, or until it stops.
pub takes_in : (real now : Traffic) (old new : Responder) (piece : List ℕ) (whole : Bool)
    → MachineTakesPiece false real now (server_held old) (server_held new) piece (Ok whole)
    → ServerTakesIn old new piece (Ok tt)
unfolding TakenSo TakesInSo
takes_in real now old new piece true takes values end is =
    let so = takes (course_of values begun) (carried end piece) end
    (serving_driven is (links_alone end piece)) in
    absurd (never_whole new so.2.1)
takes_in real now old new piece false takes values end is =
    let so = takes (course_of values begun) (carried end piece) end
    (serving_driven is (links_alone end piece)) in (
      so.0,
      (
        driven_serving new so.2,
        uses_alone end piece so.2.linked,
      ),
    )

pub takes_in_part : (real now : Traffic) (old new : Responder) (piece : List ℕ)
    (error : LinkError)
    → MachineTakesPiece false real now (server_held old) (server_held new) piece (Err error)
    → ServerTakesIn old new piece (Err error)
unfolding TakenSo TakesInSo
takes_in_part real now old new piece error takes values end is =
    let so = takes (course_of values begun) (carried end piece) end
    (serving_driven is (links_alone end piece)) in
    let ended = so.2 in (
      so.0,
      (
        ended.happened,
        ended.represents,
        (ended.unused, uses_alone end piece (ended.alone refl)),
        ends_alone new refl ended.why,
      ),
    )

-- What ends a server by itself, or its link, ends a connection that is served.
pub may_serve : (error : LinkError) → MayEnd true true error → EndsServing error
may_serve (errors.Reset number) is = is
may_serve errors.Refused is = is
may_serve error is = tt

-- Where the input has ended, its end is met, and no call of the link has failed.
pub ends_at_end : (result : Result ℕ LinkError) {ended : Bool} → ended ≡ true
    → OnOk result (ended ≡ true)
ends_at_end (Ok count) is = is
ends_at_end (Err error) is = tt

pub cuts_at_end : (result : Result ℕ LinkError) {ended : Bool} → ended ≡ true
    → CutsOffAtEnd result ended
cuts_at_end (Ok count) is = tt
cuts_at_end (Err errors.CutOff) is = is
cuts_at_end (Err error) is = tt

pub errs_cut : (result : Result ℕ LinkError) → IfErr result (λ error. error ≡ errors.CutOff)
    → IfErr result EndsServing
errs_cut (Ok count) is = tt
errs_cut (Err error) is = rw is tt
