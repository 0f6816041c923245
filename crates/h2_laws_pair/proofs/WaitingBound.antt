-- How much output waits at an end of a pair.
use Rattle.h2_laws_log.proofs.ItemLists.{settings_after, total_after}
use Rattle.h2_laws_machine.proofs.BoundedLogs.{few_resets}
use Rattle.h2_laws_pair.proofs.Names
use Names.{◌≡◌, inl, inr, ℕ, ◌+◌, ◌≤◌, List, [], ◌∷◌, ◌++◌, None, refl, sym, ap, ◌∙◌, arith, subst}
use Names.{AllByRecursion, Item, Role, total, one_ping, one_answer, one_reset, max_frame_size_sent}
use Names.{settings_count, one_ack, output, waiting, stream_of_log, IsSendable, log_represents}
use Names.{written_is_allowed, total-append, written_sendable, Half, AreUnderWay}
use Rattle.h2_laws_pair.proofs.Lists.{all_newer}
use Rattle.h2_laws_pair.proofs.BothWays.{AreEnds, IsDirection, ends_of, back_of}
use Rattle.h2_laws_pair.proofs.CarriedItems.{before, items_carried, way_of}
use Rattle.h2_laws_pair.proofs.WaitingReplies.{replies_left}
use Rattle.h2_laws_pair.proofs.WaitingSteps.{Fits}
use Rattle.h2_laws_pair.proofs.WaitingFrames.{fits_log}
use Rattle.h2_laws_pair.proofs.WaitingCarried.{LieIn, ReceivedLie}
use Rattle.h2_laws_pair.proofs.WaitingWay.{left_of_both, none_left, settings_wait, pings_wait}
use Rattle.h2_laws_pair.proofs.WaitingWay.{octets_by_kind}

-- Nothing is left of no items.
left_of_none : (preceding given : ℕ) (payloads : List ℕ)
    → replies_left preceding given payloads [] ≡ 0
left_of_none preceding given [] = refl
left_of_none preceding given (most ∷ payloads) = refl

-- Nothing of what lies in what was given out is left.
nothing_left : (preceding given : ℕ) (payloads : List ℕ) (items : List Item)
    → LieIn preceding given payloads items → replies_left preceding given payloads items ≡ 0
nothing_left preceding given payloads items (inl none) =
    rw none (left_of_none preceding given payloads)
nothing_left preceding given payloads items (inr fits) =
    none_left preceding given payloads items fits

-- Few of the replies are under way.
record FewWait (way : List Item) : Type 0 where
  pub acks : total one_ack way ≤ 1
  pub answers : total one_answer way ≤ 1
  pub resets : total one_reset way ≤ 1000

few_wait : (writer reader : Half) (way back : List Item) → AreEnds writer reader
    → writer.log.failed ≡ None → AreUnderWay writer.log reader.log way
    → AreUnderWay reader.log writer.log back → FewWait way
few_wait writer reader way back ends up under_way returns =
    let good = (log_represents ends.writer_role ends.writer_values writer.log ends.writer_log).good
    up in
    let other = written_is_allowed ends.reader_role ends.reader_values reader.log ends.reader_log in
    let settings = settings_wait ends.reader_role reader.log.received reader.log.sent other in
    let pings = pings_wait ends.reader_role reader.log.received reader.log.sent other in
    let resets = few_resets ends.writer_role ends.writer_values writer.log ends.writer_log in
    let came : settings_count writer.log.received ≤ settings_count reader.log.sent =
    rw returns (settings_after back writer.log.received) in
    let asked : total one_ping writer.log.received ≤ total one_ping reader.log.sent =
    rw returns (total_after one_ping back writer.log.received) in
    let sum = λ (f : Item → ℕ). ap (total f) under_way ∙ total-append f way reader.log.received in
    record {
      acks = omega (arith, good.returned, settings, came, sum one_ack);
      answers = omega (arith, good.answered, pings, asked, sum one_answer);
      resets = omega (arith, resets, sum one_reset);
    }

-- What is left of all that was sent is in what is under way, or in what was received.
left_of_sent : (preceding given : ℕ) (payloads : List ℕ) (way received sent : List Item)
    → (are : ReceivedLie preceding given payloads way received) → sent ≡ way ++ received
    → AllByRecursion (IsSendable max_frame_size_sent) sent
    → replies_left preceding given payloads sent
    ≤ octets_by_kind (total one_ack way) (total one_answer way) (total one_reset way)
    + replies_left preceding given are.olds received
left_of_sent preceding given payloads way received sent are same can =
    rw (same, are.paid) (left_of_both preceding given are.news are.olds way received are.each_one
    (all_newer (IsSendable max_frame_size_sent) way received (rw same at can)))

-- How much waits at an end of a pair that is up.
pub waiting_is_bounded : (writer reader : Half) → IsDirection writer reader
    → writer.log.failed ≡ None → waiting writer.log ≤ 210000
unfolding waiting output
waiting_is_bounded writer reader is up =
    let ends = ends_of writer reader is in
    let carries = items_carried writer reader is in
    let way = carries.way in
    let back = way_of reader writer (back_of writer reader is) in
    let fits : Fits (before writer.log.role) writer.log =
    subst (λ (r : Role). Fits (before r) writer.log)
    (sym (stream_of_log _ _ writer.log ends.writer_log).role)
    (fits_log _ _ writer.log ends.writer_log up) in
    let left = left_of_sent (before writer.log.role) writer.log.given writer.log.payloads way
    reader.log.received writer.log.sent carries.lie carries.under_way
    (written_sendable _ _ writer.log ends.writer_log) in
    let few = few_wait writer reader way back.0 ends up carries.under_way back.1 in
    let nothing = nothing_left (before writer.log.role) writer.log.given carries.lie.olds
    reader.log.received carries.lie.within in
    omega (arith, fits.written, fits.waits, few.acks, few.answers, few.resets)
