-- The numbers of streams that were written, and what a stream that is reported as unprocessed says
-- of what was read.
use Rattle.std.proofs.Common.{leb-true}
use Rattle.h2_laws_log.proofs.Names
use Names.{list_any, both_ways, eqb-true, or_cases, eq-eqb, le-ltb, and_right, true_from_ne_false}
use Names.{and_from, and_parts, or_left, or_parts, ltb-false, GoAway, Item, alone, block, Role}
use Names.{Client, Server, is_block_on, greatest_block, is_goaway, is_goaway_below, opens_from}
use Names.{is_server, least_block, greatest_number, is_used, Log, active, next_number}
use Names.{next_unprocessed, least_goaway, AllowedHistory, starts, reads, writes, Allowed, MayOpen}
use Names.{MayContinue, ◌≡◌, ◌⊎◌, ◌≢◌, ℕ, ◌+◌, ◌≤◌, ◌<◌, ◌==◌, ◌%◌, ◌&&◌, nat_lt, max, Bool, true}
use Names.{false, if◌then◌else◌, List, [], ◌∷◌, refl, inl, inr, ◌^◌, ◌++◌, arith, nat_le, rules}
use Rattle.h2_laws_log.proofs.ReaderStates.{active_parts, opens_here}

-- A stream's number, or 0, by a test.
pub number_or_none : (test : Bool) (id : ℕ) → id < 2 ^ 31 → (if test then id else 0) < 2 ^ 31
number_or_none true id small = small
number_or_none false id small = omega arith

-- the greater of two numbers is one of them
max_is : (a b : ℕ) → (max a b ≡ a) ⊎ (max a b ≡ b)
max_is a b = search rules

-- A block's number is no greater than the greatest.
pub block_below : (i : ℕ) (items : List Item) → list_any (is_block_on i) items ≡ true
    → i ≤ greatest_block items
unfolding is_block_on greatest_block
block_below i [] here = absurd (both_ways false refl here)
block_below i (alone frame ∷ items) here = block_below i items here
block_below i (block stream end octets ∷ items) here = elim (or_cases (stream == i) (list_any
    (is_block_on i) items) here) [
      | inl same ↦ omega (arith, eqb-true stream i same)
      | inr after ↦ omega (arith, block_below i items after)
    ]

-- what a client may write keeps to the greatest number
low_by : (received sent : List Item) (item : Item) → Allowed Client received sent item
    → greatest_block sent ≤ greatest_number
    → greatest_block (item ∷ sent) ≤ greatest_number
unfolding greatest_block
low_by received sent (alone frame) allowed low = low
low_by received sent (block i end octets) allowed low = elim allowed.1 [
  | inl may ↦ omega (arith, may.low)
  | inr goes ↦
      let less = block_below i sent (active_parts Client i received sent [] goes.active).opened in
      omega arith
]

-- A client writes blocks on no greater numbers than the greatest.
pub client_low : (received sent : List Item) → AllowedHistory Client received sent
    → greatest_block sent ≤ greatest_number
unfolding greatest_block
client_low _ _ (starts values ok) = omega arith
client_low _ sent (reads {received = received} item with_sent) = client_low received sent with_sent
client_low received _
    (writes {sent = sent} item with_sent allowed) = low_by received sent item allowed
    (client_low received sent with_sent)

-- the number of a block that may be written is odd
odd_allowed : (role : Role) (i : ℕ) (received sent : List Item)
    → MayOpen role i received sent ⊎ MayContinue role i received sent → i % 2 ≡ 1
odd_allowed role i received sent (inl may) = may.odd
odd_allowed role i received sent (inr goes) = eqb-true (i % 2) 1
    (active_parts role i received sent [] goes.active).odd

-- The greater of two numbers is odd, of which one is odd, and the other odd or nothing.
odd_max : (i n : ℕ) → i % 2 ≡ 1 → (n ≡ 0) ⊎ (n % 2 ≡ 1) → max i n % 2 ≡ 1
odd_max i n odd (inl none) = let is : max i n ≡ i = omega arith in rw is odd
odd_max i n odd (inr also) = elim (max_is i n) [
  | inl one ↦ rw one odd
  | inr other ↦ rw other also
]

-- what may be written keeps the greatest number odd
odd_by : (role : Role) (received sent : List Item) (item : Item)
    → Allowed role received sent item → (greatest_block sent ≡ 0) ⊎ (greatest_block sent % 2 ≡ 1)
    → (greatest_block (item ∷ sent) ≡ 0) ⊎ (greatest_block (item ∷ sent) % 2 ≡ 1)
unfolding greatest_block
odd_by role received sent (alone frame) allowed odd = odd
odd_by role received sent (block i end octets) allowed odd = inr (odd_max i (greatest_block sent)
    (odd_allowed role i received sent allowed.1) odd)

-- The greatest number of a block that was written is odd, if there is one.
odd_blocks : (role : Role) (received sent : List Item) → AllowedHistory role received sent
    → (greatest_block sent ≡ 0) ⊎ (greatest_block sent % 2 ≡ 1)
unfolding greatest_block
odd_blocks role _ _ (starts values ok) = inl refl
odd_blocks role _ sent
    (reads {received = received} item with_sent) = odd_blocks role received sent with_sent
odd_blocks role received _
    (writes {sent = sent} item with_sent allowed) = odd_by role received sent item allowed
    (odd_blocks role received sent with_sent)

-- two more than an odd number
odd_next : (n : ℕ) → n % 2 ≡ 1 → (n + 2) % 2 ≡ 1
odd_next n odd = omega arith

-- the next number by the test whether it is the first
next_by : (n : ℕ) (b : Bool) → n == 0 ≡ b → (n ≡ 0) ⊎ (n % 2 ≡ 1) → ((if b then 1 else n + 2) % 2
    ≡ 1) × (n < (if b then 1 else n + 2))
next_by n true is odd = (refl, omega (arith, eqb-true n 0 is))
next_by n false is (inl none) = absurd (both_ways _ is (eq-eqb n 0 none))
next_by n false is (inr odd) = (odd_next n odd, omega arith)

-- The next number is odd, and above all before it.
pub next_odd : (log : Log) → AllowedHistory log.role log.received log.sent → (next_number log % 2
    ≡ 1) × (greatest_block log.sent < next_number log)
unfolding next_number
next_odd log with_sent = next_by (greatest_block log.sent) (greatest_block log.sent == 0) refl
    (odd_blocks log.role log.received log.sent with_sent)

-- Where no GOAWAY was read, no stream is above the last one.
pub last_none : (items : List Item) → list_any is_goaway items ≡ false → least_goaway items
    ≡ greatest_number
unfolding is_goaway least_goaway
last_none [] none = refl
last_none (alone (GoAway last code debug) ∷ items) none = absurd (both_ways _ none refl)
last_none (item ∷ items) none = last_none items none

-- Items without GOAWAY leave the least last stream.
pub least_kept : (items sent : List Item) → list_any is_goaway items ≡ false
    → least_goaway (items ++ sent) ≡ least_goaway sent
unfolding is_goaway least_goaway
least_kept [] sent none = refl
least_kept (block stream end octets ∷ items) sent none = least_kept items sent none
least_kept (alone (GoAway last code debug) ∷ items) sent none = absurd (both_ways _ none refl)
least_kept (alone frame ∷ items) sent none = least_kept items sent none

-- A number above no GOAWAY's last stream is no greater than the least of these.
pub least_above : (i : ℕ) (items : List Item) → i ≤ greatest_number
    → list_any (is_goaway_below i) items ≡ false → i ≤ least_goaway items
unfolding is_goaway_below least_goaway
least_above i [] small none = small
least_above i (block stream end octets ∷ items) small none = least_above i items small none
least_above i (alone (GoAway last code debug) ∷ items) small none =
    let parts = or_parts (nat_lt last i) (list_any (is_goaway_below i) items) none in
    omega (arith, ltb-false last i parts.0, least_above i items small parts.1)
least_above i (alone frame ∷ items) small none = least_above i items small none

-- Where no number passes, there is no least one.
pub least_none : (test : ℕ → Bool) (items : List Item) → ((j : ℕ) → j ≤ greatest_block items
    → test j ≡ false) → least_block test items ≡ 0
unfolding least_block greatest_block
least_none test [] none = refl
least_none test (alone frame ∷ items) none = least_none test items none
least_none test (block stream end octets ∷ items) none =
    rw (none stream (omega arith)) (least_none test items (λ j below. none j (omega arith)))

-- a server names no stream
pub next_of : (role : Role) (n : ℕ) → (if is_server role then 0 else n) ≢ 0
    → (role ≡ Client) × (n ≢ 0)
next_of Client n some = (refl, some)
next_of Server n some = absurd (some refl)

-- A stream is reported as unprocessed only where a GOAWAY was read.
pub next_left : (log : Log) → AllowedHistory log.role log.received log.sent
    → next_unprocessed log ≢ 0 → list_any is_goaway log.received ≡ true
unfolding next_unprocessed
next_left log with_sent some =
    let both = next_of log.role _ some in
    let client : AllowedHistory Client log.received log.sent = rw (both.0) at with_sent in
    true_from_ne_false (list_any is_goaway log.received) (λ none.
    both.1 (least_none (λ j. active log j && nat_lt (least_goaway log.received) j) log.sent
    (λ j below. and_right (active log j) (nat_lt (least_goaway log.received) j) (le-ltb _ j (omega
    (arith, last_none log.received none, client_low log.received log.sent client))))))

-- A number from which a block opens is no greater than the greatest.
pub opens_low : (i : ℕ) (items : List Item) → list_any (opens_from i) items ≡ true
    → i ≤ greatest_block items
unfolding opens_from greatest_block
opens_low i [] some = absurd (both_ways false refl some)
opens_low i (alone frame ∷ items) some = opens_low i items some
opens_low i (block stream end octets ∷ items) some =
    elim (or_cases (stream % 2 == 1 && nat_le i stream) (list_any (opens_from i) items) some) [
      | inl here ↦ omega (arith, leb-true i stream (and_parts _ _ here).1)
      | inr after ↦ omega (arith, opens_low i items after)
    ]

-- a client's block uses its number
pub opening_uses : (role : Role) (i : ℕ) (end : Bool) (octets : List ℕ) (received sent : List Item)
    → role ≡ Client → i % 2 ≡ 1
    → is_used role i received (block i end octets ∷ sent) ≡ true
unfolding is_used is_block_on
opening_uses Client i end octets received sent is odd =
    and_from _ _ (eq-eqb (i % 2) 1 odd)
    (opens_here i (block i end octets ∷ sent) (eq-eqb (i % 2) 1 odd)
    (or_left _ _ (eq-eqb i i refl)))
opening_uses Server i end octets received sent is odd = cc
