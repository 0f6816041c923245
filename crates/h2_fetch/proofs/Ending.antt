-- How a fetch ends that can't go on.
use Rattle.h2_engines.proofs.Names
use Names.{◌≡◌, ◌≢◌, ℕ, List, [], Option, None, Some, Ok, Err, refl, sym, ap, ◌∙◌, inl, inr, Values}
use Names.{Code, InternalError, End, EndLog, EndRepresents, EndsWriting, Handed, HasTakenAll}
use Names.{LinkError, StallsWriting, Traffic, error_with, said_for, WritesOver}
use Rattle.h2_engines.proofs.MachineViews.{all_in_part}
use Rattle.h2_engines.proofs.MachineWrites.{written_links}
use Rattle.h2_engines.proofs.ResponderEnds.{same_itself}
use Rattle.h2_fetch.specs.Comings.{EndsSo, StopsFor, TakesNoMore, fails, lacks_memory}
use Rattle.h2_fetch.specs.Comings.{out_of_rounds, was_dropped}
use Rattle.h2_fetch.specs.Parts.{handed_on}
use Rattle.h2_fetch.specs.Reads.{EndedSo, EndsOver, ends_at_once, ends_failed}
use Rattle.h2_fetch.specs.Sends.{AsksOne}
use Rattle.h2_fetch.specs.Several.{StopsAllFor}
use Rattle.h2_fetch.specs.declared.fetch.PartFetch.{PartFetch}
use Rattle.h2_fetch.proofs.Refilling.{stops_for}
use Rattle.h2_fetch.proofs.Writing.{asked_written}
use Rattle.h2_link.specs.declared.error.LinkError.TheVariants as errors

-- While the connection is up it ends at once;
pub ends_up : (now : Traffic) (end : End) (error : LinkError)
    → ((values : Values) (happened : EndLog) → EndRepresents values end happened
    → happened.log.failed ≡ None) → EndsOver now now end end error error
ends_up now end error up values asking start happened unused is was linked why =
    record {
      after = happened;
      asks = was;
      represents = is;
      same = same_itself happened;
      linked = all_in_part linked;
      so = ends_at_once (up values happened is) refl refl;
    }

-- once it has failed, when all was written,
code_so : (start now : Traffic) (end : EndLog) (code : Code) → end.log.failed ≡ Some code
    → HasTakenAll start now end.log → StopsAllFor start now end (error_with code)
code_so start now end InternalError failed taken = inl (inr failed)
code_so start now end code failed taken =
    record {
      code = code;
      failed = failed;
      other = λ same. cc;
      number_is = refl;
      taken = taken;
    }

failed_so : (start now : Traffic) (end : EndLog) (error : LinkError) (failed : Option Code)
    → end.log.failed ≡ failed → failed ≢ None → HasTakenAll start now end.log
    → ((code : Code) → failed ≡ Some code → error ≡ error_with code)
    → StopsAllFor start now end error
failed_so start now end error None is down taken why = absurd (down refl)
failed_so start now end error (Some code) is down taken why =
    rw (why code refl) (code_so start now end code is taken)

-- or that could not be.
writing_so : (start now : Traffic) (end : EndLog) (error : LinkError)
    → EndsWriting error → StallsWriting {A = Unit {0}} now end (Err error)
    → StopsAllFor start now end error
writing_so start now end errors.Device writing stalls = tt
writing_so start now end errors.Memory writing stalls = inr stalls
writing_so start now end errors.NoProgress writing stalls = stalls
writing_so start now end error writing stalls = absurd writing

module _ (before now : Traffic) (old new : End) (error : LinkError)
    (down : (values : Values) (end : EndLog) → EndRepresents values old end
    → end.log.failed ≢ None) where
  pub ends_written : (done : Unit {0}) → WritesOver before now old new (Ok done)
      → EndsOver before now old new error error
  ends_written done writes values asking start end unused is was linked why =
      let wrote = asked_written writes values asking start end unused is was linked in
      let fell = down values end is in
      record {
        after = wrote.after;
        asks = wrote.happened;
        represents = wrote.represents;
        same = wrote.same;
        linked = all_in_part (written_links unused wrote.given wrote.taken);
        so = ends_failed fell (failed_so start now wrote.after error end.log.failed
            wrote.same.failed fell wrote.taken.taken why);
      }

  pub ends_unwritten : (unwritten : LinkError) → EndsWriting unwritten
      → WritesOver before now old new (Err unwritten) → EndsOver before now old new error unwritten
  ends_unwritten unwritten writing writes values asking start end unused is was linked why =
      let wrote = asked_written writes values asking start end unused is was linked in
      record {
        after = wrote.after;
        asks = wrote.happened;
        represents = wrote.represents;
        same = wrote.same;
        linked = record { unused = unused; given = wrote.given; taken = wrote.taken };
        so = ends_failed (down values end is)
            (writing_so start now wrote.after unwritten writing wrote.stalls);
      }

-- The error is that of the connection where that has failed.
why_failed : {end : EndLog} {id : ℕ} {lost : List Handed} {error : LinkError}
    → TakesNoMore end id lost error → (code : Code) → end.log.failed ≡ Some code
    → error ≡ error_with code
why_failed (fails code failed is none) other also =
    let same : code ≡ other = let both = sym failed ∙ also in cc in
    is ∙ ap error_with same
why_failed (lacks_memory up is) code failed = let wrong = sym up ∙ failed in absurd (cc)
why_failed (was_dropped number up is dropped none) code failed =
    let wrong = sym up ∙ failed in absurd (cc)
why_failed (out_of_rounds up is out none) code failed = let wrong = sym up ∙ failed in absurd (cc)

-- Parts are lost only where memory was refused.
all_lost : {end : EndLog} {id : ℕ} {lost : List Handed} {error : LinkError}
    → TakesNoMore end id lost error → error ≢ errors.Memory → lost ≡ []
all_lost (fails code failed is none) other = none
all_lost (lacks_memory up is) other = absurd (other is)
all_lost (was_dropped number up is dropped none) other = none
all_lost (out_of_rounds up is out none) other = none

none_lost : {end : EndLog} {id : ℕ} {lost : List Handed} {error : LinkError}
    → end.log.failed ≢ None → TakesNoMore end id lost error → lost ≡ []
none_lost down (fails code failed is none) = none
none_lost down (lacks_memory up is) = absurd (down up)
none_lost down (was_dropped number up is dropped none) = none
none_lost down (out_of_rounds up is out none) = none

lost_none : {start now : Traffic} {end after : EndLog} {id : ℕ} {lost : List Handed}
    {error result : LinkError} → TakesNoMore end id lost error
    → EndedSo start now end after error result → result ≢ errors.Memory → lost ≡ []
lost_none why (ends_at_once up same is) other = all_lost why (λ memory. other (is ∙ memory))
lost_none why (ends_failed down stops) other = none_lost down why

-- While the connection is up, a client of one request ends for its own reason.
up_so : (start now : Traffic) {end : EndLog} {id : ℕ} {lost : List Handed} {error : LinkError}
    → TakesNoMore end id lost error → end.log.failed ≡ None → StopsFor start now end id error
up_so start now (fails code failed is none) up = let wrong = sym up ∙ failed in absurd (cc)
up_so start now (lacks_memory up is) also = rw is (inl (inl up))
up_so start now (was_dropped number up is dropped none) also = rw is dropped
up_so start now (out_of_rounds up is out none) also = rw is (inr out)

part_so : (start now : Traffic) {end after : EndLog} (id : ℕ) {lost : List Handed}
    {error result : LinkError} → TakesNoMore end id lost error
    → EndedSo start now end after error result → StopsFor start now after id result
part_so start now id why (ends_at_once up same is) = rw (same, is) (up_so start now why up)
part_so start now {after = after} id {result = result} why (ends_failed down stops) =
    stops_for start now after id result stops

pub part_ends : (before now : Traffic) (old new : PartFetch) (error result : LinkError)
    → new.id ≡ old.id → EndsOver before now old.client.end new.client.end error result
    → EndsSo before now old new error result
part_ends before now old new error result stream ends values message wide start first end last =
    let ended = ends values (AsksOne message wide) start end last.unused last.represents
    last.fetching last.linked (why_failed last.why) in (
      ended.after,
      record {
        fetching = ended.asks;
        represents = ended.represents;
        accepted = ap (λ (i : ℕ). said_for i ended.after.accepted) stream
            ∙ ap (said_for old.id) ended.same.accepted ∙ last.accepted;
        linked = ended.linked;
        so = rw stream (part_so start now old.id last.why ended.so);
      },
      record {
        lost = last.lost;
        handed = ap (handed_on new.id) ended.same.handed ∙ rw stream last.handed;
        all = lost_none last.why ended.so;
      },
    )
