-- The least number of a block that passes a test.
use Rattle.std.proofs.Common.{◌≡◌, ◌≢◌, ◌⊎◌, ℕ, zero, suc, ◌≤◌, ◌<◌, ◌==◌, nat_lt, ◌&&◌, Bool, true}
use Rattle.std.proofs.Common.{false, if◌then◌else◌, List, [], ◌∷◌, refl, arith, inl, inr}
use Rattle.h2_spec_log.specs.States.{lesser_number}
use Rattle.h2_laws_log.proofs.Names.{list_any, both_ways, eqb-true, ltb-true, lt-ltb, and_parts}
use Rattle.h2_laws_log.proofs.Names.{and_from, or_cases, cases_lt, Item, alone, block, is_block_on}
use Rattle.h2_laws_log.proofs.Names.{greatest_block, least_block, openings, Log, active}
use Rattle.h2_laws_log.proofs.Names.{next_active, next_unprocessed, rules}
use Rattle.h2_laws_log.proofs.StreamNumbers.{block_below}
use Rattle.h2_laws_log.proofs.ReaderStates.{active_parts}

-- The lesser of two numbers of streams is no greater than the first one.
pub lesser_low : (stream least : ℕ) → lesser_number stream least ≤ stream
unfolding lesser_number
lesser_low stream zero = omega arith
lesser_low stream (suc least) = omega arith

-- It is one of them.
lesser_is : (stream least : ℕ) → (lesser_number stream least ≡ stream)
    ⊎ ((least ≢ 0) × (lesser_number stream least ≡ least))
unfolding lesser_number
lesser_is stream zero = inl refl
lesser_is stream (suc least) = elim (cases_lt (suc least) stream) [
  | inr le ↦ inl (omega (arith, le))
  | inl lt ↦ inr (λ none. absurd (omega arith), omega (arith, lt))
]

-- Of a number and the least of others, by the test of the number: what is chosen passes.
chosen_passes : (test : ℕ → Bool) (stream least : ℕ) (b : Bool) → (b ≡ true → test stream ≡ true)
    → (least ≢ 0 → test least ≡ true)
    → (if b then lesser_number stream least else least) ≢ 0
    → test (if b then lesser_number stream least else least) ≡ true
chosen_passes test stream least true here after some = search (rules, lesser_is)
chosen_passes test stream least false here after some = after some

-- The least number that passes, passes.
pub least_passes : (test : ℕ → Bool) (items : List Item) → least_block test items ≢ 0
    → test (least_block test items) ≡ true
unfolding least_block
least_passes test [] some = absurd (some refl)
least_passes test (alone frame ∷ items) some = least_passes test items some
least_passes test (block stream end octets ∷ items) some =
    chosen_passes test stream (least_block test items) (test stream) (λ here. here)
    (least_passes test items) some

-- Where neither is 0 the lesser one is not 0, and no greater than the second one.
lesser_second : (stream least : ℕ) → stream ≢ 0 → least ≢ 0 → (lesser_number stream least ≢ 0)
    × (lesser_number stream least ≤ least)
unfolding lesser_number
lesser_second stream zero some other = absurd (other refl)
lesser_second stream (suc least) some other = (omega (arith, some), omega arith)

-- A number that passes is chosen, or a lesser one is.
passing_chosen : (stream least : ℕ) → stream ≢ 0 → (lesser_number stream least ≢ 0)
    × (lesser_number stream least ≤ stream)
passing_chosen stream least some = search (rules, lesser_is, lesser_low)

-- What is chosen is no greater than the least of others.
lesser_chosen : (stream least bound : ℕ) (passes : Bool) → (passes ≡ true → stream ≢ 0)
    → least ≢ 0 → least ≤ bound
    → ((if passes then lesser_number stream least else least) ≢ 0)
    × ((if passes then lesser_number stream least else least) ≤ bound)
lesser_chosen stream least bound true nonzero some le =
    let both = lesser_second stream least (nonzero refl) some in (both.0, omega (arith, both.1, le))
lesser_chosen stream least bound false nonzero some le = (some, le)

-- A number of a block that passes is found, or a lesser one is.
pub least_found : (test : ℕ → Bool) (i : ℕ) (items : List Item) → ((j : ℕ) → test j ≡ true
    → j ≢ 0) → test i ≡ true
    → list_any (is_block_on i) items ≡ true → (least_block test items ≢ 0)
    × (least_block test items ≤ i)
unfolding least_block is_block_on
least_found test i [] nonzero passes here = absurd (both_ways false refl here)
least_found test i
    (alone frame ∷ items) nonzero passes here = least_found test i items nonzero passes here
least_found test i (block stream end octets ∷ items) nonzero passes here =
    elim (or_cases (stream == i) (list_any (is_block_on i) items) here) [
      | inl same ↦
          let equal : stream ≡ i = eqb-true stream i same in
          rw (equal, passes) (passing_chosen i (least_block test items) (nonzero i passes))
      | inr after ↦
          let others = least_found test i items nonzero passes after in
          lesser_chosen _ _ _ _ (nonzero stream) others.0 others.1
    ]

-- An active stream's number isn't 0, and a block has it.
active_nonzero : (log : Log) (id j : ℕ) → (active log j && nat_lt id j) ≡ true → j ≢ 0
active_nonzero log id j both = λ none. let above = ltb-true id j
    (and_parts _ _ both).1 in omega arith

-- The next active stream is active and above the number.
pub next_passes : (log : Log) (id : ℕ) → next_active log id ≢ 0
    → (active log (next_active log id) && nat_lt id (next_active log id)) ≡ true
unfolding next_active
next_passes log id some = search (rules, least_passes)

-- The next active stream is found, and is no greater than any that is active and above the number.
pub next_found : (log : Log) (id i : ℕ) → active log i ≡ true → id < i → (next_active log id ≢ 0)
    × (next_active log id ≤ i)
unfolding next_active
next_found log id i alive above =
    least_found (λ j. active log j && nat_lt id j) i (openings log.role log.received log.sent)
    (active_nonzero log id) (and_from (active log i) (nat_lt id i) alive (lt-ltb id i above))
    (active_parts log.role i log.received log.sent log.reported alive).opened

-- An active stream is among those that are counted.
pub active_counted : (log : Log) (i : ℕ) → active log i ≡ true
    → i ≤ greatest_block (openings log.role log.received log.sent)
active_counted log i alive = block_below i (openings log.role log.received log.sent)
    (active_parts log.role i log.received log.sent log.reported alive).opened

-- the next stream that is reported is active, by the role
next_is_active_by : (b : Bool) (least_last : ℕ) (test : ℕ → Bool) → (if b then 0 else least_last) ≢
    0 → (least_last ≢ 0 → test least_last ≡ true) → test (if b then 0 else least_last) ≡ true
next_is_active_by true least_last test some passes = absurd (some refl)
next_is_active_by false least_last test some passes = passes some

-- The next stream that is reported is active.
pub next_is_active : (log : Log) → next_unprocessed log ≢ 0
    → active log (next_unprocessed log) ≡ true
unfolding next_unprocessed
next_is_active log some = search (rules, and_parts, next_is_active_by, least_passes)
