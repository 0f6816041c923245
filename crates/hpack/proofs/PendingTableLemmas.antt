-- Pending tables.
use Rattle.hpack.proofs.Names.{if◌then◌else◌, ◌≡◌, ℕ, zero, suc, ◌+◌, ◌-◌, ◌*◌, ◌^◌, ◌<◌, ◌≤◌, min}
use Rattle.hpack.proofs.Names.{true, false, Bool, List, [], ◌∷◌, ◌++◌, length, get_or, take, drop}
use Rattle.hpack.proofs.Names.{sym, ap, ◌∙◌, arith, take_more, length-take-le, Entry, PendingTable}
use Rattle.hpack.proofs.Names.{entry_size, table_size, fit, Entries, newest_first, IsPendingTable}
use Rattle.hpack.proofs.Names.{capacity_of, first_index}
use Rattle.std.proofs.lemmas.List.{get_or-take}
use Rattle.hpack.proofs.SizeLemmas.{entries_are_large, popped, table_size-push}
use Rattle.hpack.proofs.SearchLemmas.{first_index-drop, first_index-none}

-- an entry, for places past the last one
pub no_entry : Entry
no_entry = record { name = []; value = [] }

-- A pending table has few entries.
pub live_is_small : (pending : PendingTable) (table : Entries) → IsPendingTable pending table
    → 32 * pending.live < 2 ^ 32
live_is_small pending table is =
    omega (
      arith,
      is.small,
      is.counted,
      is.within,
      entries_are_large (take pending.live (newest_first pending table)),
      length-take-le pending.live (newest_first pending table) is.live,
    )

-- what is left where the oldest entry leaves
pub record IsShorter (newest : List Entry) (live place size bound removed : ℕ) : Type 0 where
  pub within : removed ≤ size
  pub counted : size - removed ≡ table_size (take place newest)
  pub fitting : fit (take place newest) bound ≡ fit (take live newest) bound

-- There is an entry where they don't fit.
some_left : (newest : List Entry) (live size bound : ℕ) → size ≡ table_size (take live newest)
    → bound < size → 0 < live
some_left newest zero size bound counted above = absurd (omega arith)
some_left newest (suc place) size bound counted above = omega arith

-- the oldest entry leaves
shorter_by : (newest : List Entry) (live place size bound removed : ℕ) → live ≡ place + 1
    → live ≤ length newest → size ≡ table_size (take live newest) → bound < size → size < 2 ^ 64
    → removed ≡ min (entry_size (get_or newest place no_entry)) (2 ^ 64 - 1)
    → IsShorter newest live place size bound removed
shorter_by newest live place size bound removed next within counted above small is =
    let last = get_or newest place no_entry in
    let split : take live newest ≡ take place newest ++ last ∷ [] =
    ap (λ (n : ℕ). take n newest) next ∙ take_more newest place no_entry (omega arith) in
    let step = popped size bound (take live newest) (take place newest) last counted above small
    split in
    let within : table_size (take live newest) ≡ table_size (take place newest) + entry_size last =
    ap table_size split ∙ table_size-push (take place newest) last in
    record {
      within = omega arith;
      counted = ap (λ (n : ℕ). size - n) is ∙ step.counted;
      fitting = step.fitting;
    }

-- The oldest entry leaves where they don't fit.
pub shorter : (newest : List Entry) (live size bound removed : ℕ) → live ≤ length newest
    → size ≡ table_size (take live newest) → bound < size → size < 2 ^ 64
    → ((other : Entry) → live - 1 < length newest
    → removed ≡ min (entry_size (get_or newest (live - 1) other)) (2 ^ 64 - 1))
    → IsShorter newest live (live - 1) size bound removed
shorter newest live size bound removed within counted above small is =
    let some = some_left newest live size bound counted above in
    shorter_by newest live (live - 1) size bound removed (omega arith) within counted above small
    (is no_entry (omega arith))

-- The index has room for one entry more.
pub live_is_few : (pending : PendingTable) (table : Entries) → IsPendingTable pending table
    → length (take pending.live (newest_first pending table)) < capacity_of pending
live_is_few pending table is =
    omega (
      arith,
      is.counted,
      is.within,
      is.room,
      entries_are_large (take pending.live (newest_first pending table)),
    )

-- as many entries as are live
pub live_length : (pending : PendingTable) (table : Entries) → IsPendingTable pending table
    → length (take pending.live (newest_first pending table)) ≡ pending.live
live_length pending table is = length-take-le pending.live (newest_first pending table) is.live

module _ (test : Entry → Bool) (pending : PendingTable) (table : Entries) (place : ℕ) where
  -- an entry that is still there, by its test
  pending_test : (b : Bool) → IsPendingTable pending table → place < pending.live
      → ((other : Entry) → place < length (newest_first pending table) → b ≡ test
      (get_or (newest_first pending table) place other))
      → (other : Entry)
      → b ≡ test (get_or (take pending.live (newest_first pending table)) place other)
  pending_test b is lt at other = at other (omega (arith, is.live))
      ∙ sym (ap test (get_or-take pending.live (newest_first pending table) place other lt))

  -- The entry at the place passes.
  pub pending_found : (b : Bool) → IsPendingTable pending table → place < pending.live
      → ((other : Entry) → place < length (newest_first pending table) → b ≡ test
      (get_or (newest_first pending table) place other))
      → b ≡ true
      → 62 + place ≡ first_index test (62 + place) (drop place
      (take pending.live (newest_first pending table)))
  pending_found b is lt at passes =
      let entries = take pending.live (newest_first pending table) in
      let rest = first_index test (62 + (place + 1)) (drop (place + 1) entries) in
      let short : place < length entries = omega (arith, live_length pending table is) in
      sym (first_index-drop test 62 place entries no_entry b short
      (pending_test b is lt at no_entry) ∙ ap (λ (t : Bool). if t then 62 + place else rest) passes)

  -- The entry at the place doesn't pass.
  pub pending_missed : (b : Bool) → IsPendingTable pending table → place < pending.live
      → ((other : Entry) → place < length (newest_first pending table) → b ≡ test
      (get_or (newest_first pending table) place other))
      → b ≡ false → (other : Entry)
      → test (get_or (take pending.live (newest_first pending table)) place other) ≡ false
  pending_missed b is lt at fails other = sym (pending_test b is lt at other) ∙ fails

-- None is left.
pub pending_end : (test : Entry → Bool) (pending : PendingTable) (table : Entries) (start place : ℕ)
    → IsPendingTable pending table → pending.live ≤ place
    → first_index test start (drop place (take pending.live (newest_first pending table))) ≡ 0
pending_end test pending table start place is past =
    first_index-none test start place (take pending.live (newest_first pending table))
    (omega (arith, length-take-le pending.live (newest_first pending table) is.live))
