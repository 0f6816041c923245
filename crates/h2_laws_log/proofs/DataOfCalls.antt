-- The DATA of one call: one after another, each within what was given.
use Rattle.std.proofs.Common.{append_assoc}
use Rattle.std.proofs.lemmas.List.{length-take-le}
use Rattle.h2_laws_log.proofs.Names
use Names.{length-drop, list_any, or_from, and_right, leb-true, leb-false, eq-eqb, Data, payload_of}
use Names.{Item, alone, Role, Client, Server, is_block_on, ends, resets, is_goaway_below, total}
use Names.{data_on, data_of, one_ack, openings, is_above, Log, active, max_payload_sent}
use Names.{max_payload_sent_by, log_view, max_data, data_count, data_frames, data_items}
use Names.{HasAcknowledged, MayContinue, AllowedHistory, writes, ◌≡◌, ◌≢◌, ℕ, zero, suc, ◌+◌, ◌-◌}
use Names.{min, ◌≤◌, ◌<◌, ◌==◌, ◌&&◌, not, nat_le, Bool, true, false, if◌then◌else◌, List, [], ◌∷◌}
use Names.{◌++◌, length, take, drop, Option, None, refl, ◌∙◌, arith, given_on, given_on_connection}
use Names.{rules}
use Rattle.h2_laws_log.proofs.ItemLists.{total_one}
use Rattle.h2_laws_log.proofs.WindowsOfTwoEnds.{total-append}
use Rattle.h2_laws_log.proofs.LogViewLemmas.{count_by_sums}
use Rattle.h2_laws_log.proofs.ReaderStates.{active_parts, active_by_parts, lasts_parts}

-- the payload of DATA without padding
plain_payload : (id : ℕ) (end : Bool) (octets : List ℕ)
    → length (payload_of (Data id end octets None)) ≡ length octets
unfolding payload_of
plain_payload id end octets = refl

-- DATA opens nothing
data_opens : (role : Role) (i id : ℕ) (end : Bool) (octets : List ℕ) (pad : Option ℕ)
    (received sent : List Item)
    → list_any (is_block_on i) (openings role received sent) ≡ true
    → list_any (is_block_on i) (openings role received (alone (Data id end octets pad) ∷ sent))
    ≡ true
unfolding is_block_on
data_opens Client i id end octets pad received sent here = here
data_opens Server i id end octets pad received sent here = here

-- DATA says no last stream
data_above : (role : Role) (i id : ℕ) (end : Bool) (octets : List ℕ) (pad : Option ℕ)
    (sent : List Item)
    → is_above role i sent ≡ false → is_above role i (alone (Data id end octets pad) ∷ sent) ≡ false
unfolding is_above is_goaway_below
data_above Client i id end octets pad sent none = refl
data_above Server i id end octets pad sent none = none

-- DATA resets nothing
data_resets : (i id : ℕ) (end : Bool) (octets : List ℕ) (pad : Option ℕ)
    → resets i (alone (Data id end octets pad)) ≡ false
unfolding resets
data_resets i id end octets pad = refl

-- DATA without END_STREAM ends nothing
data_ends : (i id : ℕ) (octets : List ℕ) (pad : Option ℕ)
    → ends i (alone (Data id false octets pad)) ≡ false
unfolding ends
data_ends i id octets pad = and_right (id == i) false refl

-- This end goes on after DATA without END_STREAM.
goes_on_data : (role : Role) (i : ℕ) (received sent : List Item) (octets : List ℕ)
    (pad : Option ℕ) → MayContinue role i received sent
    → MayContinue role i received (alone (Data i false octets pad) ∷ sent)
goes_on_data role i received sent octets pad goes =
    let parts = active_parts role i received sent [] goes.active in
    let lasts = lasts_parts i received sent parts.lasts in
    let stays : list_any (ends i) (alone (Data i false octets pad) ∷ sent) ≡ false = or_from _ _
    (data_ends i i octets pad) goes.goes in
    record {
      active = active_by_parts role i received (alone (Data i false octets pad) ∷ sent) [] parts.odd
          (data_opens role i i false octets pad received sent parts.opened)
          (data_above role i i false octets pad sent parts.below) (and_right _ _ stays)
          lasts.unreset (or_from _ _ (data_resets i i false octets pad) lasts.kept) refl;
      goes = stays;
    }

-- what DATA takes of its stream
pub takes_on : (i : ℕ) (end : Bool) (octets : List ℕ) → data_on i (alone (Data i end octets None))
    ≡ length octets
unfolding data_on payload_of
takes_on i end octets = rw (eq-eqb i i refl) refl

-- what DATA takes of the connection
pub takes_of : (i : ℕ) (end : Bool) (octets : List ℕ) → data_of (alone (Data i end octets None))
    ≡ length octets
unfolding data_of payload_of
takes_of i end octets = refl

-- DATA acknowledges nothing.
pub data_ack : (i : ℕ) (end : Bool) (octets : List ℕ) → one_ack (alone (Data i end octets None)) ≡ 0
unfolding one_ack
data_ack i end octets = refl

-- what one DATA takes, and what is left for those after it
pub record SendWindow (id : ℕ) (role : Role) (octets : List ℕ)
    (received sent : List Item) : Type 0 where
  pub with_sent : AllowedHistory role received sent
  pub returned : HasAcknowledged received sent
  pub goes : MayContinue role id received sent
  pub fits : length octets ≢ 0 → total (data_on id) sent + length octets ≤ given_on id received
  pub fits_connection : length octets ≢ 0
      → total data_of sent + length octets ≤ given_on_connection received

-- a front of octets that are longer
front_length : (most : ℕ) (octets : List ℕ) → most < length octets → length (take most octets)
    ≡ most
front_length most octets more = length-take-le most octets (omega arith)

-- DATA with a front of the octets leaves room for those after it.
send_window_after : (most id : ℕ) (role : Role) (octets : List ℕ) (received sent : List Item)
    → most < length octets → most ≡ max_payload_sent_by received
    → SendWindow id role octets received sent
    → SendWindow id role (drop most octets) received (alone (Data id false
    (take most octets) None) ∷ sent)
send_window_after most id role octets received sent more is send_window =
    let size = front_length most octets more in
    let unparsed = length-drop most octets in
    let payload = plain_payload id false (take most octets) in
    let on = takes_on id false (take most octets) in
    let of = takes_of id false (take most octets) in
    let fits = send_window.fits (λ none. omega arith) in
    let fits_connection = send_window.fits_connection (λ none. omega arith) in
    record {
      with_sent = writes (alone (Data id false (take most octets) None)) send_window.with_sent (
        send_window.returned,
        record {
          goes_on = send_window.goes;
          short = omega arith;
          fits = λ some. omega arith;
          fits_connection = λ some. omega arith;
        },
      );
      returned = omega (arith, total_one, data_ack);
      goes = goes_on_data role id received sent (take most octets) None send_window.goes;
      fits = λ some. omega (arith, total_one);
      fits_connection = λ some. omega (arith, total_one);
    }

-- the last DATA
last_written : (most id : ℕ) (role : Role) (octets : List ℕ) (end : Bool)
    (received sent : List Item) → length octets ≤ most → most ≡ max_payload_sent_by received
    → SendWindow id role octets received sent
    → AllowedHistory role received (alone (Data id end octets None) ∷ sent)
last_written most id role octets end received sent few is send_window =
    let payload = plain_payload id end octets in
    writes (alone (Data id end octets None)) send_window.with_sent (
      send_window.returned,
      record {
        goes_on = send_window.goes;
        short = omega arith;
        fits = λ some. omega (arith, send_window.fits (λ none. some (omega arith)));
        fits_connection = λ some. omega (
          arith,
          send_window.fits_connection (λ none. some (omega arith)),
        );
      },
    )

-- the last DATA, or one and those after it, by the test
data_by : (most id : ℕ) (role : Role) (octets : List ℕ) (end : Bool)
    (received sent after : List Item) (b : Bool) → nat_le (length octets) most ≡ b
    → most ≡ max_payload_sent_by received → SendWindow id role octets received sent
    → (SendWindow id role (drop most octets) received (alone (Data id false
    (take most octets) None) ∷ sent)
    → AllowedHistory role received (after ++ alone (Data id false (take most octets) None) ∷ sent))
    → AllowedHistory role received ((if b then alone (Data id end octets None) ∷ [] else after
    ++ alone (Data id false (take most octets) None) ∷ []) ++ sent)
data_by most id role octets end received sent after true test is send_window goes =
    search (rules, last_written, leb-true)
data_by most id role octets end received sent after false test is send_window goes =
    rw append_assoc (goes (send_window_after most id role octets received sent (leb-false
    (length octets) most test) is send_window))

-- The DATA of octets may be written.
data_written : (count most id : ℕ) (role : Role) (octets : List ℕ) (end : Bool)
    (received sent : List Item) → most ≡ max_payload_sent_by received
    → SendWindow id role octets received sent
    → AllowedHistory role received (data_frames count most id octets end ++ sent)
unfolding data_frames
data_written zero most id role octets end received sent is send_window = send_window.with_sent
data_written (suc count) most id role octets end received sent is send_window =
    data_by most id role octets end received sent (data_frames count most id
    (drop most octets) end) (nat_le (length octets) most) refl is send_window
    (data_written count most id role (drop most octets) end received (alone (Data id false
    (take most octets) None) ∷ sent) is)

-- A number that is nothing of each DATA is nothing of them all, by the test whether it is the last.
none_by : (f : Item → ℕ) (last one : Item) (after : List Item) (b : Bool) → f last ≡ 0 → f one
    ≡ 0 → total f after ≡ 0
    → total f (if b then last ∷ [] else after ++ one ∷ []) ≡ 0
unfolding total
none_by f last one after true here there unparsed = omega (arith, here)
none_by f last one after false here there unparsed = omega
    (arith, there, unparsed, total-append f after (one ∷ []))

-- A number that is nothing of each DATA is nothing of them all.
none_of_frames : (f : Item → ℕ) → ((id : ℕ) (end : Bool) (octets : List ℕ)
    → f (alone (Data id end octets None)) ≡ 0)
    → (count most id : ℕ) (octets : List ℕ) (end : Bool)
    → total f (data_frames count most id octets end) ≡ 0
unfolding data_frames total
none_of_frames f none zero most id octets end = refl
none_of_frames f none (suc count) most id octets end =
    none_by f (alone (Data id end octets None)) (alone (Data id false (take most octets) None))
    (data_frames count most id (drop most octets) end)
    (nat_le (length octets) most) (none id end octets) (none id false (take most octets))
    (none_of_frames f none count most id (drop most octets) end)

-- the same of a call's, by the test whether there are any
none_items_by : (f : Item → ℕ) (items : List Item) (b : Bool) → total f items ≡ 0
    → total f (if b then [] else items) ≡ 0
unfolding total
none_items_by f items true none = refl
none_items_by f items false none = none

-- A number that is nothing of each DATA is nothing of a call's.
pub none_of_items : (f : Item → ℕ) → ((id : ℕ) (end : Bool) (octets : List ℕ)
    → f (alone (Data id end octets None)) ≡ 0)
    → (most id : ℕ) (octets : List ℕ) (end : Bool) (count : ℕ)
    → total f (data_items most id octets end count) ≡ 0
unfolding data_items
none_of_items f none most id octets end count =
    none_items_by f _ (count == 0 && not (length octets == 0 && end))
    (none_of_frames f none (suc count) most id (take count octets) (end && count == length octets))

-- what is written of a call's DATA, by the test whether there is any
items_by : (role : Role) (received sent items : List Item) (b : Bool)
    → AllowedHistory role received sent → AllowedHistory role received (items ++ sent)
    → AllowedHistory role received ((if b then [] else items) ++ sent)
items_by role received sent items true none some = none
items_by role received sent items false none some = some

-- how many octets of a body go
abbrev pub count_of : Log → ℕ → ℕ → ℕ
count_of log id count = data_count (log_view log) ((log_view log).stream id) count

-- so many are within what was given
fits_by : (n count given sent_on all sent_of : ℕ) → n
    ≡ min count (min (min (given - sent_on) (all - sent_of)) max_data) → n ≢ 0
    → (n ≤ count) × (sent_on + n ≤ given) × (sent_of + n ≤ all)
fits_by n count given sent_on all sent_of is some = (omega arith, omega arith, omega arith)

-- how much goes
count_fits : (log : Log) (id count : ℕ) → active log id ≡ true → count_of log id count ≢ 0
    → (count_of log id count ≤ count) × (total
    (data_on id) log.sent + count_of log id count ≤ given_on id log.received)
    × (total data_of log.sent + count_of log id count ≤ given_on_connection log.received)
count_fits log id count active some =
    fits_by (count_of log id count) count (given_on id log.received) (total (data_on id) log.sent)
    (given_on_connection log.received)
    (total data_of log.sent) (count_by_sums log id count active) some

-- no more goes than there is
count_within : (log : Log) (id count : ℕ) → active log id ≡ true → count_of log id count ≤ count
count_within log id count active = omega (arith, count_by_sums log id count active)

-- The DATA of a call may be written.
pub data_items_written : (log : Log) (id : ℕ) (octets : List ℕ) (end : Bool) → active log id
    ≡ true → AllowedHistory log.role log.received log.sent → HasAcknowledged log.received log.sent
    → MayContinue log.role id log.received log.sent
    → AllowedHistory log.role log.received (data_items (max_payload_sent log) id octets end
    (count_of log id (length octets)) ++ log.sent)
unfolding data_items
data_items_written log id octets end active with_sent returned goes =
    let count = count_of log id (length octets) in
    let size : length (take (count_of log id (length octets)) octets)
    ≡ count_of log id (length octets) =
    length-take-le (count_of log id (length octets)) octets (count_within log id
    (length octets) active) in
    items_by log.role log.received log.sent _ (count == 0 && not (length octets == 0
    && end)) with_sent
    (data_written (suc count) (max_payload_sent log) id log.role (take count octets) (end
    && count == length octets) log.received log.sent refl (record {
      with_sent = with_sent;
      returned = returned;
      goes = goes;
      fits = λ some. rw size (count_fits log id (length octets) active (λ none. some (size
          ∙ none))).1;
      fits_connection = λ some. rw size (count_fits log id (length octets) active (λ none. some
          (size ∙ none))).2;
    }))
