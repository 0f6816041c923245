-- What of a log matters to what it may write, and what more at the front of its lists changes.
use Rattle.std.proofs.Common.{suc-add}
use Rattle.h2_laws_log.proofs.Names
use Names.{list_any, or_cases, or_left, or_right, cases_eq, or_from, or_parts, Code, GoAway}
use Names.{WindowUpdate, Item, alone, Role, settings_count, Event, flow_on, reported_total}
use Names.{greatest_processed, Act, Answer, is_active, Log, released, unreleased, waiting}
use Names.{code_number, with_sent, with_reported, with_unreturned, with_failure, owed_at_close}
use Names.{used, full_output, returns_credit, sum_below, ◌≡◌, ◌⊎◌, ◌≢◌, ℕ, zero, suc, zero-add, ◌+◌}
use Names.{◌-◌, ◌≤◌, ◌<◌, ◌&&◌, not, nat_lt, Bool, true, if◌then◌else◌, List, [], ◌∷◌, ◌++◌, Option}
use Names.{Some, refl, inl, inr, arith, false}
use Rattle.h2_laws_log.proofs.CreditCases.{both_by}

-- what of a log matters to what it may write
pub record History : Type 0 where
  pub role : Role
  pub received : List Item
  pub sent : List Item
  pub reported : List Event
  pub calls : List (Act × Answer)
  pub unreturned : ℕ
  pub failed : Option Code

-- the view of a log
abbrev pub history_of : Log → History
history_of log = record {
  role = log.role;
  received = log.received;
  sent = log.sent;
  reported = log.reported;
  calls = log.calls;
  unreturned = log.unreturned;
  failed = log.failed;
}

-- the flow of a stream that was reported and wasn't released
unfoldable pub left : History → ℕ → ℕ
left v i = reported_total (flow_on i) v.reported - released i v.calls

-- whether a stream is active
abbrev pub active_in_view : History → ℕ → Bool
active_in_view v i = is_active v.role i v.received v.sent v.reported

-- what is owed on a stream
unfoldable pub owes : History → ℕ → ℕ
owes v i = if active_in_view v i then left v i else 0

-- what a stream still owes where it was active in the first view and isn't in the second
unfoldable pub owing : History → History → ℕ → ℕ
owing before after i = if active_in_view before i && not
    (active_in_view after i) then left after i else 0

-- the view with more that was read, written and reported, and with other calls and dues
abbrev pub moved : History → (reads items : List Item) → List Event → List (Act × Answer) → ℕ
    → History
moved v reads items events calls unreturned = record {
  role = v.role;
  received = reads ++ v.received;
  sent = items ++ v.sent;
  reported = events ++ v.reported;
  calls = calls;
  unreturned = unreturned;
  failed = v.failed;
}

-- all that is due is returned
abbrev pub give : History → History
give v = record v { sent = alone (WindowUpdate 0 v.unreturned) ∷ v.sent; unreturned = 0 }

-- what is due by the test whether it is returned
abbrev pub given_by : Bool → History → History
given_by b v = if b then give v else v

-- What was written stands at the front.
pub wrote_view : (log : Log) (items : List Item) → history_of (with_sent log items)
    ≡ moved (history_of log) [] items [] log.calls log.unreturned
unfolding with_sent
wrote_view log [] = refl
wrote_view log (item ∷ items) = refl

-- What was reported stands at the front.
pub reports_view : (log : Log) (events : List Event) → history_of (with_reported log events)
    ≡ moved (history_of log) [] [] events log.calls log.unreturned
unfolding with_reported
reports_view log [] = refl
reports_view log (event ∷ events) = refl

-- More is due, or all is returned.
pub with_unreturned_view : (more : ℕ) (log : Log)
    → history_of (with_unreturned more log) ≡ given_by (nat_lt 0 more && nat_lt
    (waiting log) full_output) (moved (history_of log) [] [] [] log.calls (log.unreturned + more))
unfolding with_unreturned with_sent
with_unreturned_view more log =
    both_by (λ (next : Log) (v : History). history_of next ≡ v)
    (returns_credit more (waiting log)) refl refl

-- What a stream leaves owing is seen in the views.
pub owing_view : (before after : Log) (i : ℕ) → owed_at_close before after i
    ≡ owing (history_of before) (history_of after) i
unfolding owed_at_close owing unreleased left
owing_view before after i = refl

-- A failure writes GOAWAY.
pub fails_view : (code : Code) (last : ℕ) (log : Log)
    → history_of (with_failure code last log)
    ≡ record (history_of log) {
      sent = alone (GoAway last (code_number code) []) ∷ log.sent;
      failed = Some code;
    }
unfolding with_sent
fails_view code last log = refl

-- Octets that were used change nothing of a view.
pub used_view : (log : Log) (octets unparsed : List ℕ) → history_of (used log octets unparsed)
    ≡ history_of log
unfolding used
used_view log octets unparsed = refl

-- A count over more events.
pub reported_append : (f : Event → ℕ) (more events : List Event)
    → reported_total f (more ++ events) ≡ reported_total f more + reported_total f events
unfolding reported_total
reported_append f [] events = omega arith
reported_append f (event ∷ more) events = omega (arith, reported_append f more events)

-- A count of SETTINGS over more items.
pub settings_append : (more items : List Item) → settings_count (more ++ items)
    ≡ settings_count more + settings_count items
unfolding settings_count
settings_append [] items = omega arith
settings_append (item ∷ more) items = omega (arith, settings_append more items)

-- What some item of two lists passes, some item of one of them passes.
pub any_either : {X : Type 0} (p : X → Bool) → (more xs : List X) → list_any p (more ++ xs) ≡ true
    → (list_any p more ≡ true) ⊎ (list_any p xs ≡ true)
any_either p [] xs some = inr some
any_either p (x ∷ more) xs some = elim (or_cases (p x) (list_any p (more ++ xs)) some) [
  | inl here ↦ inl (or_left (p x) (list_any p more) here)
  | inr after ↦ elim (any_either p more xs after) [
    | inl front ↦ inl (or_right (p x) (list_any p more) front)
    | inr back ↦ inr back
  ]
]

-- A sum of numbers that are no greater is no greater.
pub sum_less : (n : ℕ) (f g : ℕ → ℕ) → ((j : ℕ) → j < n → g j ≤ f j) → sum_below n g ≤ sum_below n f
unfolding sum_below
sum_less zero f g less = omega arith
sum_less (suc n) f g less = omega (arith, less, sum_less n f g (λ j below. less j (omega arith)))

-- A sum over more numbers is no less.
pub sum_longer : (n more : ℕ) (f : ℕ → ℕ) → sum_below n f ≤ sum_below (more + n) f
unfolding sum_below
sum_longer n zero f = rw (zero-add n) (omega arith)
sum_longer n (suc more) f = rw (suc-add more n) (omega (arith, sum_longer n more f))

-- Where a number changes at one place, and is no greater at any other, its sum changes by no more.
pub sum_moves : (n i down up : ℕ) (f g : ℕ → ℕ) → i < n → ((j : ℕ) → j ≢ i → g j ≤ f j)
    → g i + down ≤ f i + up
    → sum_below n g + down ≤ sum_below n f + up
unfolding sum_below
sum_moves zero i down up f g below less here = absurd (omega arith)
sum_moves (suc n) i down up f g below less here = elim (cases_eq i n) [
  | inl same ↦
      let at : g n + down ≤ f n + up = rw (← same) here in
      omega (arith, sum_less n f g (λ j lower. less j (λ equal. omega arith)))
  | inr other ↦ omega (arith, less, sum_moves n i down up f g (omega arith) less here)
]

-- What no event of two lists passes.
pub none_both : {X : Type 0} (p : X → Bool) (xs ys : List X) → list_any p xs ≡ false
    → list_any p ys ≡ false → list_any p (xs ++ ys) ≡ false
none_both p [] ys here there = there
none_both p (x ∷ xs) ys here there =
    let parts = or_parts (p x) (list_any p xs) here in or_from _ _ parts.0
    (none_both p xs ys parts.1 there)

-- More events have no lesser greatest number.
pub processed_after : (events reported : List Event)
    → greatest_processed reported ≤ greatest_processed (events ++ reported)
unfolding greatest_processed
processed_after [] reported = omega arith
processed_after (event ∷ events) reported = omega (arith, processed_after events reported)

-- The greatest stream of two lists that was processed.
pub processed_append : (events reported : List Event) (n : ℕ) → greatest_processed events ≤ n
    → greatest_processed reported ≤ n → greatest_processed (events ++ reported) ≤ n
unfolding greatest_processed
processed_append [] reported n here there = there
processed_append (event ∷ events) reported n here there =
    let after = processed_append events reported n (omega (arith, here)) there in
    omega (arith, here, after)
