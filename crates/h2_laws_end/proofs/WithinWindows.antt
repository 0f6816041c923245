-- No DATA that an end writes passes its windows, the newest by all that was read; and calls of
-- `data` alone write any.
use Rattle.h2_laws_end.proofs.Names
use Names.{◌≡◌, ◌≢◌, ◌⊎◌, ℕ, ◌+◌, ◌≤◌, ◌<◌, ◌==◌, Bool, true, false, if◌then◌else◌, List, [], ◌∷◌}
use Names.{◌++◌, length, Option, None, refl, sym, ap, ◌∙◌, inl, inr, arith, subst, eqb-true, eq-eqb}
use Names.{Data, Settings, Ping, WindowUpdate, payload_of, Code, Item, alone, block, Role, Refusal}
use Names.{increment_on, Values, Act, Answer, SendData, Release, PutOut, Refused, OutOfMemory}
use Names.{first_window, Log, max_payload_sent, log_view, ended_in, Verdict, ConnectionFault}
use Names.{StreamFault, NoEvent, Reported, answer_of, refusal_of, read, called, IsLog, most_between}
use Names.{written_is_allowed, total_none, IsLogInvariant, kept_by_logs, total-append, data_on}
use Names.{data_of, total, given_on, given_on_connection, replies_to, items_of, with_sent, opened}
use Names.{WritesNone, refused, no_memory, fails_instead, puts_out, count_by_sums, chosen_low}
use Names.{ends_connection, Fail}
use Rattle.h2_spec_log.specs.Settings.{one_settings}
use Rattle.h2_spec_log.specs.CallRules.{data_count}
use Rattle.h2_spec_log.specs.Allowed.{Origin, IsOpening}
use Rattle.h2_laws_log.proofs.AllowedHistories.{origin_lem}
use Rattle.h2_laws_log.proofs.InvariantReads.{Fits, Resets, Reports, verdict_fits}
use Rattle.h2_laws_log.proofs.ItemLists.{total_one}
use Rattle.h2_laws_log.proofs.SettingsLists.{value_kept}
use Rattle.h2_laws_end.specs.WithinWindows.{IsWithinWindows, NoDataPassesWindows, octets_by_calls}
use Rattle.h2_laws_end.specs.WithinWindows.{NewestFits, KeepsWindows}
use Rattle.h2_laws_end.proofs.DataWindows.{count_fits, data_active, not_negative, taken_of_stream}
use Rattle.h2_laws_end.proofs.DataWindows.{taken_of_all}

-- DATA takes its payload of its stream, and of the connection.
takes_payload : (i : ℕ) (end : Bool) (octets : List ℕ) (pad : Option ℕ)
    → (data_on i (alone (Data i end octets pad)) ≡ length (payload_of (Data i end octets pad)))
    × (data_of (alone (Data i end octets pad)) ≡ length (payload_of (Data i end octets pad)))
unfolding data_on data_of
takes_payload i end octets pad = (rw (eq-eqb i i refl) refl, refl)

-- DATA with octets is within both windows.
within : (role : Role) (received before : List Item) (i : ℕ) (end : Bool) (octets : List ℕ)
    (pad : Option ℕ) → length (payload_of (Data i end octets pad)) ≢ 0
    → (Origin role received before (alone (Data i end octets pad))
    ⊎ IsOpening role before (alone (Data i end octets pad)))
    → IsWithinWindows received before i (alone (Data i end octets pad))
within role received before i end octets pad some (inr opens) = absurd (cc)
within role received before i end octets pad some (inl from) =
    let item = alone (Data i end octets pad) in
    let takes = takes_payload i end octets pad in
    let may = from.allowed.1 in
    record {
      unread = from.unread;
      read = from.read;
      front = from.front;
      acknowledged = from.allowed.0;
      stream = not_negative (given_on i from.read) (total (data_on i) (item ∷ before))
          (omega (arith, takes.0, total_one (data_on i) item before, may.fits some));
      connection = not_negative (given_on_connection from.read) (total data_of (item ∷ before))
          (omega (arith, takes.1, total_one data_of item before, may.fits_connection some));
    }

-- No DATA of a log passes the windows.
no_data_passes : (role : Role) (values : Values) (log : Log) → IsLog role values log
    → NoDataPassesWindows log
no_data_passes role values log is after before i end octets pad line some =
    within _ _ before i end octets pad some (origin_lem role log.received log.sent after before _
    (written_is_allowed role values log is) line)

-- No reply is DATA.
replies_take : (i : ℕ) (verdict : Verdict) (item : Item)
    → total (data_on i) (replies_to verdict item) ≡ 0
unfolding replies_to total data_on
replies_take i NoEvent (block stream end octets) = refl
replies_take i NoEvent (alone (Settings false pairs)) = refl
replies_take i NoEvent (alone (Ping false octets)) = refl
replies_take i NoEvent (alone frame) = refl
replies_take i other item = refl

-- Nor is what a release writes, whether or not the peer has ended the stream.
release_takes : (i id count : ℕ) (ended : Bool) → total (data_on i) (alone (WindowUpdate 0 count)
    ∷ (if ended then [] else alone (WindowUpdate id count) ∷ [])) ≡ 0
unfolding total data_on
release_takes i id count true = refl
release_takes i id count false = refl

-- A call that is accepted takes what it has written.
call_takes : (i : ℕ) (log : Log) (act : Act) → refusal_of (log_view log) act ≡ None
    → octets_by_calls i ((act, answer_of (log_view log) act) ∷ log.calls)
    ≡ total (data_on i) (items_of (log_view log) act (answer_of (log_view log) act))
    + octets_by_calls i log.calls
unfolding items_of total data_on octets_by_calls
call_takes i log (SendData id octets end) none =
    let most = most_between log.received in
    let count = count_by_sums log id (length octets) (data_active log id octets end none) in
    omega (
      arith,
      taken_of_stream i (max_payload_sent log) id octets end
          (data_count (log_view log) ((log_view log).stream id) (length octets))
          (omega (arith, most.0)) (omega (arith, count)),
    )
call_takes i log (Release id count) none =
    omega (arith, release_takes i id count (ended_in ((log_view log).stream id)))
call_takes i log act none = omega arith

-- A call that is refused, or lacks memory, writes none.
refused_writes : (i : ℕ) (act : Act) (refusal : Refusal) (calls : List (Act × Answer))
    → octets_by_calls i ((act, Refused refusal) ∷ calls) ≡ octets_by_calls i calls
unfolding octets_by_calls
refused_writes i (SendData id octets end) refusal calls = refl
refused_writes i act refusal calls = refl

out_of_memory_writes : (i : ℕ) (act : Act) (calls : List (Act × Answer))
    → octets_by_calls i ((act, OutOfMemory) ∷ calls) ≡ octets_by_calls i calls
unfolding octets_by_calls
out_of_memory_writes i (SendData id octets end) calls = refl
out_of_memory_writes i act calls = refl

-- Nor does any that writes no items of its own.
none_writes : (i : ℕ) (act : Act) (answer : Answer) (calls : List (Act × Answer))
    → WritesNone act answer → octets_by_calls i ((act, answer) ∷ calls) ≡ octets_by_calls i calls
unfolding octets_by_calls
none_writes i _ _ calls (refused act refusal) = refused_writes i act refusal calls
none_writes i _ _ calls (no_memory act) = out_of_memory_writes i act calls
none_writes i _ _ calls (fails_instead id code) = refl
none_writes i _ _ calls (ends_connection code) = refl
none_writes i _ _ calls (puts_out count given) = refl

-- What a log has written of a stream's DATA is what its calls have written.
abbrev IsOfCalls : ℕ → Log → Type 0
IsOfCalls i log = total (data_on i) log.sent ≡ octets_by_calls i log.calls

-- Items are written that take so much.
sent_takes : (i : ℕ) (log : Log) (items : List Item)
    → total (data_on i) items + total (data_on i) log.sent ≡ octets_by_calls i log.calls
    → IsOfCalls i (with_sent log items)
unfolding with_sent
sent_takes i log [] is = omega (arith, is, total_none (data_on i))
sent_takes i log (item ∷ items) is = total-append (data_on i) (item ∷ items) log.sent ∙ is

-- Each change of a log keeps it so.
takes_by_calls : (role : Role) (values : Values) (i : ℕ)
    → IsLogInvariant role values (IsOfCalls i)
unfolding opened with_sent total data_on octets_by_calls
takes_by_calls role values i = record {
  opening = λ in_range. refl;
  used = λ log octets unparsed is. is;
  framed = λ log frames is. is;
  begun = λ log begun is. is;
  replied = λ log decoded item verdict replies is.
      sent_takes i (read log decoded item) (replies_to verdict item)
      (omega (arith, is, replies_take i verdict item));
  reported = λ log event events may is. is;
  unreturned = λ log count is. is;
  returned = λ log returns is. omega (arith, is);
  failed = λ log code last names is. omega (arith, is);
  sent = λ log act accepted is. sent_takes i (called log act (answer_of (log_view log) act)) _
      (omega (arith, is, call_takes i log act accepted.none));
  called = λ log act answer is_log none is. is ∙ sym (none_writes i act answer log.calls none);
  given = λ log more is. is;
}

-- No more is taken than was given, of a stream and of the connection.
abbrev TakesNoMore : ℕ → List Item → List Item → Type 0
TakesNoMore i received sent = (total (data_on i) sent ≤ given_on i received)
    × (total data_of sent ≤ given_on_connection received)

-- So it is of the stream of DATA with octets that was written last.
abbrev NewestTakesNoMore : List Item → List Item → Type 0
NewestTakesNoMore received sent = (before : List Item) (i : ℕ) (end : Bool) (octets : List ℕ)
    (pad : Option ℕ) → sent ≡ alone (Data i end octets pad) ∷ before
    → length (payload_of (Data i end octets pad)) ≢ 0 → TakesNoMore i received sent

-- What takes nothing is no such DATA.
quiet_newest : (received sent : List Item) (item : Item) → data_of item ≡ 0
    → NewestTakesNoMore received (item ∷ sent)
quiet_newest received sent item none =
    λ before i end octets pad line some.
    let newest : item ≡ alone (Data i end octets pad) = cc in
    absurd (some (sym (takes_payload i end octets pad).1 ∙ ap data_of (sym newest) ∙ none))

-- No item but SETTINGS that are no acknowledgment makes less given.
given_more : (i : ℕ) (item : Item) (received : List Item) → one_settings item ≡ 0
    → given_on i received ≤ given_on i (item ∷ received)
unfolding given_on
given_more i item received none =
    omega (
      arith,
      value_kept 4 first_window item received none,
      total_one (increment_on i) item received,
    )

-- No item makes less given of the connection.
given_more_of_all : (item : Item) (received : List Item)
    → given_on_connection received ≤ given_on_connection (item ∷ received)
unfolding given_on_connection
given_more_of_all item received = omega (arith, total_one (increment_on 0) item received)

-- What is read without a reply keeps it.
read_newest : (received sent : List Item) (item : Item) → one_settings item ≡ 0
    → NewestTakesNoMore received sent → NewestTakesNoMore (item ∷ received) sent
read_newest received sent item none is =
    λ before i end octets pad line some.
    let was = is before i end octets pad line some in (
      omega (arith, was.0, given_more i item received none),
      omega (arith, was.1, given_more_of_all item received),
    )

-- Reading an item that is no fault of the connection, and replying to it, keeps it.
reply_newest : (log : Log) (verdict : Verdict) (item : Item)
    → ((code : Code) → verdict ≡ ConnectionFault code → ⊥)
    → Fits (Resets log item) (Reports log item) verdict → NewestTakesNoMore log.received log.sent
    → NewestTakesNoMore (item ∷ log.received) (replies_to verdict item ++ log.sent)
unfolding replies_to data_of one_settings
reply_newest log (ConnectionFault code) item up fits is = absurd (up code refl)
reply_newest log (StreamFault code) item up fits is = quiet_newest _ log.sent _ refl
reply_newest log NoEvent (alone (Settings false pairs)) up fits is = quiet_newest _ log.sent _ refl
reply_newest log NoEvent (alone (Ping false octets)) up fits is = quiet_newest _ log.sent _ refl
reply_newest log Reported (alone (Settings false pairs)) up fits is = absurd (cc)
reply_newest log verdict item up fits is = read_newest log.received log.sent item refl is

-- Where there is a share of a number, it is all of it.
share_some : (b : Bool) (n : ℕ) → (if b then n else 0) ≢ 0 → (b ≡ true) × (0 < n)
share_some true n some = (refl, omega arith)
share_some false n some = absurd (some refl)

-- All DATA of a call fit together, so the newest does.
together_newest : (received sent items : List Item) (id count : ℕ)
    → ((i : ℕ) → total (data_on i) items ≡ (if id == i then count else 0))
    → total data_of items ≤ count
    → (0 < count → (total (data_on id) sent + count ≤ given_on id received)
    × (total data_of sent + count ≤ given_on_connection received))
    → NewestTakesNoMore received sent → NewestTakesNoMore received (items ++ sent)
together_newest received sent [] id count on all fits is = is
together_newest received sent (item ∷ items) id count on all fits is =
    λ before i end octets pad line some.
    let newest : item ≡ alone (Data i end octets pad) = cc in
    let takes = ap (data_on i) newest ∙ (takes_payload i end octets pad).0 in
    let share = share_some (id == i) count
    (λ none. some (omega (arith, takes, total_one (data_on i) item items, on i ∙ none))) in
    let same = eqb-true id i share.0 in
    let room = fits share.1 in
    rw (← same) (
      omega (
        arith,
        room.0,
        total-append (data_on id) (item ∷ items) sent,
        on id,
        chosen_low (id == id) count,
      ),
      omega (arith, room.1, total-append data_of (item ∷ items) sent, all),
    )

-- A call that is accepted keeps it.
call_newest : (log : Log) (act : Act) → refusal_of (log_view log) act ≡ None
    → NewestTakesNoMore log.received log.sent
    → NewestTakesNoMore log.received
    (items_of (log_view log) act (answer_of (log_view log) act) ++ log.sent)
unfolding items_of data_of
call_newest log (SendData id octets end) none is =
    let most = max_payload_sent log in
    let some = most_between log.received in
    let count = data_count (log_view log) ((log_view log).stream id) (length octets) in
    let by_sums = count_by_sums log id (length octets) (data_active log id octets end none) in
    let all = taken_of_all most id octets end count (omega (arith, some.0)) (omega (arith, by_sums))
    in
    together_newest log.received log.sent _ id count
    (λ i. taken_of_stream i most id octets end count (omega (arith, some.0))
    (omega (arith, by_sums))) (omega (arith, all)) (λ goes.
    let fits = count_fits _ _ _ _ _ (total data_of log.sent) goes (sym by_sums) in
    (fits.1, fits.2)) is
call_newest log (Release id count) none is = quiet_newest log.received _ _ refl
call_newest log (Fail code) none is = is
call_newest log (PutOut count) none is = is
call_newest log act none is = quiet_newest log.received log.sent _ refl

-- the same of a log
abbrev NewestOfLogFits : Log → Type 0
NewestOfLogFits log = NewestTakesNoMore log.received log.sent

-- It is kept where it is of the items that are written, and those before.
sent_newest : (log : Log) (items : List Item)
    → NewestTakesNoMore log.received (items ++ log.sent) → NewestOfLogFits (with_sent log items)
unfolding with_sent
sent_newest log [] is = is
sent_newest log (item ∷ items) is = is

-- Each change of a log keeps it.
newest_takes_no_more : (role : Role) (values : Values)
    → IsLogInvariant role values NewestOfLogFits
unfolding opened with_sent data_of
newest_takes_no_more role values = record {
  opening = λ in_range. quiet_newest [] [] _ refl;
  used = λ log octets unparsed is. is;
  framed = λ log frames is. is;
  begun = λ log begun is. is;
  replied = λ log decoded item verdict replies is.
      sent_newest (read log decoded item) (replies_to verdict item)
      (reply_newest log verdict item replies.up
      (subst (Fits (Resets log item) (Reports log item)) replies.is
      (verdict_fits log decoded item)) is);
  reported = λ log event events may is. is;
  unreturned = λ log count is. is;
  returned = λ log returns is. quiet_newest log.received log.sent _ refl;
  failed = λ log code last names is. quiet_newest log.received log.sent _ refl;
  sent = λ log act accepted is. sent_newest (called log act (answer_of (log_view log) act)) _
      (call_newest log act accepted.none is);
  called = λ log act answer is_log none is. is;
  given = λ log more is. is;
}

-- In every log the newest DATA fits, by all that was read.
newest_fits : (role : Role) (values : Values) (log : Log) → IsLog role values log → NewestFits log
newest_fits role values log is before i end octets pad line some =
    let fits = kept_by_logs role values NewestOfLogFits (newest_takes_no_more role values) log is
    before i end octets pad line some in
    (not_negative _ _ fits.0, not_negative _ _ fits.1)

-- Every log keeps its windows.
pub keeps_windows : (role : Role) (values : Values) (log : Log) → IsLog role values log
    → KeepsWindows log
keeps_windows role values log is = record {
  within = no_data_passes role values log is;
  newest = newest_fits role values log is;
  by_calls = λ i. kept_by_logs role values (IsOfCalls i) (takes_by_calls role values i) log is;
}
