-- The send windows after DATA: none is negative.
use Rattle.h2_laws_end.proofs.Names
use Names.{◌≡◌, ℕ, zero, suc, ◌+◌, ◌-◌, ◌≤◌, ◌<◌, ◌==◌, ◌&&◌, Bool, true, false, if◌then◌else◌}
use Names.{List, [], ◌∷◌, ◌++◌, length, take, drop, None, pos, ◌-ℤ◌, refl, sym, ◌∙◌, inl, inr}
use Names.{arith, ap, ap₂, ints, leb-false, cond_both, eqb-true, and_parts, nat_tests, Data}
use Names.{WindowUpdate, Item, alone, SendData, Count, Log, active, max_payload_sent, log_view}
use Names.{answer_of, refusal_of, none_holds, stream_is_active, total-append, total_none, IsCredit}
use Names.{most_between, min, int_lt, length-take-le, payload_of, data_on, data_of, total, given_on}
use Names.{given_on_connection, send_window, data_frames, data_items, items_of, conditions}
use Names.{with_items, with_call, count_by_sums, chosen_low}
use Rattle.std.proofs.Common.{length-drop}
use Rattle.h2_spec_log.specs.Windows.{connection_send_window}
use Rattle.h2_spec_log.specs.Limits.{max_data}
use Rattle.h2_laws_end.proofs.ReceiveWindows.{total_one}
use Rattle.h2_laws_end.proofs.WrittenSteps.{Puts, puts_items}

-- A total of one item is its number.
pub total_single : (f : Item → ℕ) (item : Item) → total f (item ∷ []) ≡ f item
unfolding total
total_single f item = omega arith

-- What DATA takes is a share of its octets, and the share of a sum is the sum of the shares.
module _ (f : Item → ℕ) (share : ℕ → ℕ) (id : ℕ)
    (takes : (end : Bool) (octets : List ℕ)
    → f (alone (Data id end octets None)) ≡ share (length octets))
    (sums : (m n : ℕ) → share m + share n ≡ share (m + n)) (nothing : share 0 ≡ 0) where
  -- The DATA of octets takes their share, where as many frames as octets may go, and one.
  frames_take : (count most : ℕ) (octets : List ℕ) (end : Bool) → 0 < most
      → length octets < count
      → total f (data_frames count most id octets end) ≡ share (length octets)
  unfolding data_frames
  frames_take zero most octets end some enough = absurd (omega arith)
  frames_take (suc count) most octets end some enough =
      cond_both _ _ _ (λ items. total f items ≡ share (length octets))
      (λ short. total_single f (alone (Data id end octets None)) ∙ takes end octets)
      (λ long.
      let more = leb-false (length octets) most long in
      let front = length-take-le most octets (omega (arith, more)) in
      let rest = length-drop most octets in
      let first = alone (Data id false (take most octets) None) in
      let sum : length (drop most octets) + length (take most octets) ≡ length octets =
      omega (arith, more, front, rest) in
      total-append f (data_frames count most id (drop most octets) end) (first ∷ [])
      ∙ ap₂ (λ (m n : ℕ). m + n)
      (frames_take count most (drop most octets) end some (omega (arith, more, rest)))
      (total_single f first ∙ takes false (take most octets))
      ∙ sums (length (drop most octets)) (length (take most octets)) ∙ ap share sum)

  -- The DATA of a call takes the share of the octets that are sent.
  items_take : (most : ℕ) (octets : List ℕ) (end : Bool) (count : ℕ) → 0 < most
      → count ≤ length octets → total f (data_items most id octets end count) ≡ share count
  unfolding data_items
  items_take most octets end count some within =
      let front = length-take-le count octets within in
      cond_both _ _ _ (λ items. total f items ≡ share count)
      (λ quiet. total_none f ∙ sym nothing
      ∙ ap share (sym (eqb-true count 0 (and_parts _ _ quiet).0)))
      (λ goes. frames_take (suc count) most (take count octets) (end && count == length octets)
      some (omega (arith, front)) ∙ ap share front)

-- A share of a sum is the sum of the shares, by the test whether it is all or nothing.
share_sum : (b : Bool) (m n : ℕ)
    → (if b then m else 0) + (if b then n else 0) ≡ (if b then m + n else 0)
share_sum true m n = refl
share_sum false m n = refl

-- All of a call's DATA is taken of its stream,
pub taken_of_stream : (i most id : ℕ) (octets : List ℕ) (end : Bool) (count : ℕ) → 0 < most
    → count ≤ length octets
    → total (data_on i) (data_items most id octets end count) ≡ (if id == i then count else 0)
unfolding data_on payload_of
taken_of_stream i most id octets end count some within =
    items_take (data_on i) (λ n. if id == i then n else 0) id (λ last octets. refl)
    (share_sum (id == i))
    (cond_both (id == i) 0 0 (λ (n : ℕ). n ≡ 0) (λ here. refl) (λ there. refl))
    most octets end count some within

-- and of the connection.
pub taken_of_all : (most id : ℕ) (octets : List ℕ) (end : Bool) (count : ℕ) → 0 < most
    → count ≤ length octets → total data_of (data_items most id octets end count) ≡ count
unfolding data_of payload_of
taken_of_all most id octets end count some within =
    items_take data_of (λ n. n) id (λ last octets. refl) (λ m n. refl) refl most octets end count
    some within

module _ (f : Item → ℕ) where
  -- Credit takes nothing.
  credit_takes : ((n : ℕ) → f (alone (WindowUpdate 0 n)) ≡ 0) → (items : List Item)
      → IsCredit items → total f items ≡ 0
  credit_takes none items (inl is) = rw is (total_none f)
  credit_takes none items (inr (n, is)) = rw is (total_one f (alone (WindowUpdate 0 n)) (none n))

  -- What a call's DATA takes fits, with what was taken before.
  fits_after : ((n : ℕ) → f (alone (WindowUpdate 0 n)) ≡ 0) → (credit items sent : List Item)
      (count given : ℕ) → IsCredit credit → total f items ≤ count → total f sent + count ≤ given
      → total f ((credit ++ items) ++ sent) ≤ given
  fits_after none credit items sent count given is few fits =
      omega (
        arith,
        fits,
        few,
        total-append f (credit ++ items) sent,
        total-append f credit items,
        credit_takes none credit is,
      )

-- A window of which no more was taken than given isn't negative.
pub not_negative : (given consumed : ℕ) → consumed ≤ given
    → int_lt (pos given -ℤ pos consumed) (pos 0) ≡ false
not_negative given consumed fits = grind (arith, nat_tests, ints)

-- WINDOW_UPDATE takes nothing of a stream, and nothing of the connection.
update_on : (i n : ℕ) → data_on i (alone (WindowUpdate 0 n)) ≡ 0
unfolding data_on
update_on i n = refl

update_of : (n : ℕ) → data_of (alone (WindowUpdate 0 n)) ≡ 0
unfolding data_of
update_of n = refl

-- As many octets as go are within both windows.
pub count_fits : (n count given sent_on all sent_of : ℕ) → 0 < n
    → min count (min (min (given - sent_on) (all - sent_of)) max_data) ≡ n
    → (n ≤ count) × (sent_on + n ≤ given) × (sent_of + n ≤ all)
count_fits n count given sent_on all sent_of some is = (omega arith, omega arith, omega arith)

-- What a call that sends DATA has written, and credit.
data_puts : (log : Log) (id count : ℕ) (octets : List ℕ) (end : Bool)
    → (credit : List Item) × IsCredit credit
    × Puts log (with_call log (SendData id octets end) (Count count))
    (credit ++ data_items (max_payload_sent log) id octets end count)
unfolding with_call with_items items_of
data_puts log id count octets end =
    let puts = puts_items _ _ _ _ refl refl refl in
    (puts.0.items, puts.0.is_credit, puts.1)

-- the answer's number
one_count : (n m : ℕ) → Count n ≡ Count m → n ≡ m
one_count n m is = cc

-- the stream that sends DATA is active
pub data_active : (log : Log) (id : ℕ) (octets : List ℕ) (end : Bool)
    → refusal_of (log_view log) (SendData id octets end) ≡ None → active log id ≡ true
unfolding conditions
data_active log id octets end none = stream_is_active log id (none_holds _ none).1.0

-- After DATA with octets neither send window is negative.
pub windows_hold : (log : Log) (id count : ℕ) (octets : List ℕ) (end : Bool)
    → refusal_of (log_view log) (SendData id octets end) ≡ None
    → answer_of (log_view log) (SendData id octets end) ≡ Count count → 0 < count
    → (int_lt (send_window (with_call log (SendData id octets end) (Count count)) id) (pos 0)
    ≡ false)
    × (int_lt (connection_send_window log.received
    (with_call log (SendData id octets end) (Count count)).sent) (pos 0) ≡ false)
windows_hold log id count octets end none answer some =
    let alive = data_active log id octets end none in
    let fits = count_fits count (length octets) (given_on id log.received)
    (total (data_on id) log.sent) (given_on_connection log.received) (total data_of log.sent) some
    (sym (count_by_sums log id (length octets) alive) ∙ one_count _ count answer) in
    let puts = data_puts log id count octets end in
    let most = max_payload_sent log in
    let some_payload : 0 < most = omega (arith, (most_between log.received).0) in
    let on = taken_of_stream id most id octets end count some_payload fits.0 in
    let all = taken_of_all most id octets end count some_payload fits.0 in
    let low = chosen_low (id == id) count in
    rw (puts.2.sent, puts.2.received) (
      not_negative _ _ (fits_after (data_on id) (update_on id) puts.0 _ log.sent count
          (given_on id log.received) puts.1 (omega (arith, on, low)) fits.1),
      not_negative (given_on_connection log.received) _
          (fits_after data_of update_of puts.0 _ log.sent count
          (given_on_connection log.received) puts.1 (omega (arith, all)) fits.2),
    )
