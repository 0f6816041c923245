-- Tables as they are written for: their sizes, and the entries that indices name.
use Rattle.hpack.proofs.Names
use Names.{◌≡◌, inl, inr, ℕ, suc, ◌+◌, ◌-◌, ◌^◌, ◌<◌, ◌≤◌, ◌==◌, Bool, true, List, [], ◌∷◌, ◌++◌}
use Names.{length, get_or, Option, Some, None, position, refl, sym, subst, arith, length-append}
use Names.{option_map_or, cases_lt, eqb-true, and_parts, sum_by-cons, slice_get-get_or, Entry}
use Names.{entry_size, table_size, fit, static_entries, entry, same_octets, least_index}
use Rattle.std.proofs.lemmas.List.Quantifiers.{position-Some}
use Rattle.hpack.proofs.SizeLemmas.{entries_are_large, fit-first, fit-none}

-- What fits is within the bound.
pub fit_within : (entries : List Entry) (bound : ℕ) → table_size (fit entries bound) ≤ bound
unfolding fit
fit_within [] bound = omega arith
fit_within (one ∷ entries) bound =
    elim (cases_lt bound (entry_size one)) [
      | inl larger ↦ subst (λ (left : List Entry). table_size left ≤ bound)
          (sym (fit-none one entries bound larger)) (omega arith)
      | inr fits ↦
          let rest : table_size (fit entries (bound - entry_size one)) ≤ bound - entry_size one =
          fit_within entries (bound - entry_size one) in
          subst (λ (left : List Entry). table_size left ≤ bound)
          (sym (fit-first one entries bound fits))
          (omega (arith, rest, sum_by-cons entry_size one (fit entries (bound - entry_size one))))
    ]

-- Octets that are the same by the test are equal.
pub same_octets-true : (xs ys : List ℕ) → same_octets xs ys ≡ true → xs ≡ ys
same_octets-true [] [] same = refl
same_octets-true [] (y ∷ ys) same = (cc)
same_octets-true (x ∷ xs) [] same = (cc)
same_octets-true (x ∷ xs) (y ∷ ys) same =
    let both = and_parts (x == y) (same_octets xs ys) same in
    let first : x ≡ y = eqb-true x y both.0 in
    let others : xs ≡ ys = same_octets-true xs ys both.1 in
    (cc)

-- The index names an entry that passes the test.
pub record IsFound (test : Entry → Bool) (entries : List Entry) (index : ℕ) : Type 0 where
  pub found : Entry
  pub named : entry entries index ≡ Some found
  pub passes : test found ≡ true

-- the static table has 61 entries
length-static : length static_entries ≡ 61
unfolding static_entries
length-static = refl

-- an entry, for places past the last one
no_entry : Entry
no_entry = record { name = []; value = [] }

module _ (test : Entry → Bool) (entries : List Entry) where
  -- what is found at a place
  found_at : (place : Option ℕ) → position test (static_entries ++ entries) ≡ place
      → 0 < option_map_or suc place 0 → IsFound test entries (option_map_or suc place 0)
  unfolding entry
  found_at None is some = absurd (omega arith)
  found_at (Some place) is some =
      let at = position-Some test (static_entries ++ entries) place no_entry is in
      record {
        found = get_or (static_entries ++ entries) place no_entry;
        named = slice_get-get_or (static_entries ++ entries) place no_entry at.0;
        passes = at.1;
      }

  -- The least index, where it isn't 0, names an entry that passes the test.
  pub least_index_found : 0 < least_index test entries
      → IsFound test entries (least_index test entries)
  unfolding least_index
  least_index_found some = found_at (position test (static_entries ++ entries)) refl some

  -- A place is among the entries.
  place_within : (place : Option ℕ) → position test (static_entries ++ entries) ≡ place
      → option_map_or suc place 0 ≤ 61 + length entries
  place_within None is = omega arith
  place_within (Some place) is =
      let at = position-Some test (static_entries ++ entries) place no_entry is in
      omega (arith, at.0, length-append static_entries entries, length-static)

  -- The least index is among the entries.
  pub least_index_within : least_index test entries ≤ 61 + length entries
  unfolding least_index
  least_index_within = place_within (position test (static_entries ++ entries)) refl

-- The least index is small enough to be written, where the size of the entries is a number of 32
-- bits.
pub least_index_small : (test : Entry → Bool) (entries : List Entry) (maximum : ℕ)
    → table_size entries ≤ maximum → maximum < 2 ^ 32 → least_index test entries < 2 ^ 35
least_index_small test entries maximum within small =
    omega (arith, least_index_within test entries, entries_are_large entries)
