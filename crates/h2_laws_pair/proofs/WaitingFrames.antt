-- After what an end reads no more output waits than calls and replies make.
use Rattle.h2_wire.specs.Streams.{preface}
use Rattle.h2_spec_log.specs.LogCalls.{before_opening}
use Rattle.h2_laws_log.proofs.ItemSizes.{size_by, size-opening}
use Rattle.h2_laws_pair.proofs.Names
use Names.{◌≡◌, ◌≤◌, ℕ, false, not, [], ◌∷◌, None, refl, length, arith, Settings, Ping}
use Names.{expected_preface, Item, alone, Role, Client, Server, Values, is_server}
use Names.{encoding_of_items, Log, max_payload_sent, log_view, Verdict, StreamFault, NoEvent}
use Names.{replies_to, opening_pairs, conditions, answer_of, read, with_sent, opened, called, IsLog}
use Names.{fails_down, grows_wrote, IsLogInvariant, kept_by_logs, none_holds}
use Rattle.h2_laws_pair.proofs.WaitingReplies.{is_reply}
use Rattle.h2_laws_pair.proofs.WaitingSteps.{Fits, fits_same, fits_reply, fits_small, fits_returned}
use Rattle.h2_laws_pair.proofs.WaitingSteps.{fits_given}
use Rattle.h2_laws_pair.proofs.WaitingCalls.{fits_accepted}

-- What is replied to an item.
fits_replies : (before : ℕ) (log : Log) (verdict : Verdict) (item : Item) → Fits before log
    → Fits before (with_sent log (replies_to verdict item))
unfolding replies_to with_sent is_reply
fits_replies before log (StreamFault code) item fits = fits_reply _ _ _ refl fits
fits_replies before log NoEvent (alone (Settings false pairs)) fits = fits_reply _ _ _ refl fits
fits_replies before log NoEvent (alone (Ping false octets)) fits = fits_reply _ _ _ refl fits
fits_replies before log verdict item fits = fits

-- Before the opening, after so many octets.
fits_before : (role : Role) → length (expected_preface (not (is_server role))) ≤ 24
    → Fits (length (expected_preface (not (is_server role)))) (before_opening role)
unfolding encoding_of_items
fits_before role short =
    let none : size_by (before_opening role).payloads (before_opening role).sent ≡ 0 = refl in
    let same : length (before_opening role).written
    ≡ length (expected_preface (not (is_server role))) = refl in
    record { written = omega (arith, none, same); waits = omega (arith, none, short) }

-- After it.
fits_opened : (role : Role) (values : Values)
    → length (expected_preface (not (is_server role))) ≤ 24
    → Fits (length (expected_preface (not (is_server role)))) (opened role values)
unfolding opened
fits_opened role values short =
    fits_same _ _ _ refl refl refl refl
    (fits_small _ (before_opening role) (alone (Settings false (opening_pairs role values)) ∷ [])
    (omega (arith, short))
    (omega (arith, size-opening (max_payload_sent (before_opening role)) role values))
    (fits_before role short))

-- At a new end.
fits_new : (role : Role) (values : Values)
    → Fits (length (expected_preface (not (is_server role)))) (opened role values)
unfolding expected_preface preface
fits_new Client values = fits_opened Client values (omega arith)
fits_new Server values = fits_opened Server values (omega arith)

-- Each change of a log keeps it, as long as the connection hasn't failed.
fits_kept : (role : Role) (values : Values) → IsLogInvariant role values (λ log. log.failed ≡ None
    → Fits (length (expected_preface (not (is_server role)))) log)
fits_kept role values = record {
  opening = λ in_range up. fits_new role values;
  used = λ log octets unparsed is up. fits_same _ log _ refl refl refl refl (is up);
  framed = λ log frames is up. fits_same _ log _ refl refl refl refl (is up);
  begun = λ log begun is up. fits_same _ log _ refl refl refl refl (is up);
  replied = λ log decoded item verdict replies is up.
      fits_replies _ (read log decoded item) verdict item (fits_same _ log _ refl refl refl refl
      (is ((grows_wrote (read log decoded item) _).up up)));
  reported = λ log event events may is up. fits_same _ log _ refl refl refl refl (is up);
  unreturned = λ log count is up. fits_same _ log _ refl refl refl refl (is up);
  returned = λ log returns is up. fits_returned _ log returns.space
      (is ((grows_wrote (record log { unreturned = 0 }) _).up up));
  failed = λ log code last names is up. absurd (fails_down code last log up);
  sent = λ log act accepted is up. fits_accepted _ log act accepted.typed
      (none_holds (conditions (log_view log) act) accepted.none)
      (is ((grows_wrote (called log act (answer_of (log_view log) act)) _).up up));
  called = λ log act answer is_log none is up. fits_same _ log _ refl refl refl refl (is up);
  given = λ log more is up. fits_given _ log more (is up);
}

-- In each log that comes about, as long as the connection hasn't failed.
pub fits_log : (role : Role) (values : Values) (log : Log) → IsLog role values log
    → log.failed ≡ None → Fits (length (expected_preface (not (is_server role)))) log
fits_log role values = kept_by_logs role values _ (fits_kept role values)
