-- The first entry that is looked for.
use Rattle.hpack.proofs.Names.{◌≡◌, inl, inr, ℕ, suc, ◌+◌, ◌<◌, ◌≤◌, ◌==◌, ◌&&◌, nat_eq}
use Rattle.hpack.proofs.Names.{if◌then◌else◌, not, nat_lt, Bool, true, false, List, [], ◌∷◌, ◌++◌}
use Rattle.hpack.proofs.Names.{length, get_or, drop, Option, Some, None, position, refl, sym, ap}
use Rattle.hpack.proofs.Names.{◌∙◌, arith, option_map_or, prefix_len, cases_lt, ne_eqb, lt-ltb}
use Rattle.hpack.proofs.Names.{le-ltb, drop_more, drop_of_length-le, Entry, static_entries}
use Rattle.hpack.proofs.Names.{same_octets, least_index, first_index}
use Rattle.std.specs.Cmp.Lexicographic.{pointwise}

-- Two lists are the same octets just where they are so octet by octet.
pub same_octets-pointwise : (xs ys : List ℕ) → pointwise nat_eq xs ys ≡ same_octets xs ys
same_octets-pointwise [] [] = refl
same_octets-pointwise [] (y ∷ ys) = refl
same_octets-pointwise (x ∷ xs) [] = refl
same_octets-pointwise (x ∷ xs) (y ∷ ys) =
    ap (λ (b : Bool). (x == y) && b) (same_octets-pointwise xs ys)

-- A test that doesn't hold fails.
pub fails : (b : Bool) → (b ≡ true → ⊥) → b ≡ false
fails b other = elim b as (λ t. (t ≡ true → ⊥) → t ≡ false) [
  | true ↦ λ h. absurd (h refl)
  | false ↦ λ h. refl
] other

-- one more, as an index
option_suc : (found : Option ℕ)
    → option_map_or (λ (place : ℕ). 1 + place) found 0 ≡ option_map_or suc found 0
option_suc None = refl
option_suc (Some place) = omega arith

-- One more entry is checked.
pub first_index-drop : (test : Entry → Bool) (start place : ℕ) (entries : List Entry)
    (other : Entry) (b : Bool) → place < length entries → b ≡ test (get_or entries place other)
    → first_index test (start + place) (drop place entries)
    ≡ (if b then start + place else first_index test (start + (place + 1))
    (drop (place + 1) entries))
unfolding first_index
first_index-drop test start place entries other b lt is =
    let next : suc (start + place) ≡ start + (place + 1) = omega arith in
    ap (first_index test (start + place)) (drop_more entries place other lt)
    ∙ (ap (λ (t : Bool). if t then start + place else first_index test (suc (start + place))
    (drop (place + 1) entries)) (sym is)
    ∙ ap (λ (n : ℕ). if b then start + place else first_index test n (drop (place + 1) entries))
    next)

-- None is left.
pub first_index-none : (test : Entry → Bool) (start place : ℕ) (entries : List Entry)
    → length entries ≤ place → first_index test start (drop place entries) ≡ 0
unfolding first_index
first_index-none test start place entries past =
    ap (first_index test start) (drop_of_length-le entries past)

module _ (test : Entry → Bool) where
  -- one entry more, by its test
  first_index-append_one : (start : ℕ) (entries others : List Entry) (b : Bool) → 0 < start
      → first_index test (suc start) (entries ++ others) ≡ (if first_index test (suc start) entries
      == 0 then first_index test (suc start + length entries) others else first_index test
      (suc start) entries)
      → (if b then start else first_index test (suc start) (entries ++ others))
      ≡ (if (if b then start else first_index test (suc start) entries) == 0 then first_index test
      (start + suc (length entries)) others else if b then start else first_index test (suc start)
      entries)
  first_index-append_one start entries others true some rest =
      sym (ap (λ (b : Bool). if b then first_index test (start + suc (length entries)) others
      else start) (ne_eqb start 0 (λ e. omega (arith, e))))
  first_index-append_one start entries others false some rest =
      rest ∙ ap (λ (n : ℕ). if first_index test (suc start) entries == 0
      then first_index test n others else first_index test (suc start) entries) (omega arith)

  -- The first index of two lists, the first one's before the second one's.
  pub first_index-append : (start : ℕ) (entries others : List Entry) → 0 < start
      → first_index test start (entries ++ others) ≡ (if first_index test start entries == 0 then
      first_index test (start + length entries) others else first_index test start entries)
  unfolding first_index
  first_index-append start [] others some = ap (λ (n : ℕ). first_index test n others) (omega arith)
  first_index-append start (one ∷ entries) others some =
      first_index-append_one start entries others (test one) some
      (first_index-append (suc start) entries others (omega arith))

  -- one entry more, by its test
  first_index-prefix_one : (start count : ℕ) (others : List Entry) (b : Bool)
      → first_index test (suc start) others ≡ (if nat_lt count (length others) then suc start
      + count else 0)
      → (if b then start else first_index test (suc start) others)
      ≡ (if nat_lt (if not b then 1 + count else 0) (suc (length others)) then start
      + (if not b then 1 + count else 0) else 0)
  first_index-prefix_one start count others true rest =
      let first : nat_lt 0 (suc (length others)) ≡ true =
      lt-ltb 0 (suc (length others)) (omega arith) in
      let same : start ≡ start + 0 = omega arith in
      same ∙ sym (ap (λ (t : Bool). if t then start + 0 else 0) first)
  first_index-prefix_one start count others false rest = elim (cases_lt count (length others)) [
    | inl lt ↦
        let here : nat_lt count (length others) ≡ true = lt-ltb count (length others) lt in
        let there : nat_lt (1 + count) (suc (length others)) ≡ true =
        lt-ltb (1 + count) (suc (length others)) (omega arith) in
        let same : suc start + count ≡ start + (1 + count) = omega arith in
        rest ∙ (ap (λ (t : Bool). if t then suc start + count else 0) here
        ∙ (same ∙ sym (ap (λ (t : Bool). if t then start + (1 + count) else 0) there)))
    | inr le ↦
        let here : nat_lt count (length others) ≡ false = le-ltb count (length others) le in
        let there : nat_lt (1 + count) (suc (length others)) ≡ false =
        le-ltb (1 + count) (suc (length others)) (omega arith) in
        rest ∙ (ap (λ (t : Bool). if t then suc start + count else 0) here
        ∙ sym (ap (λ (t : Bool). if t then start + (1 + count) else 0) there))
  ]

-- the index by how many entries fail before it
first_index-prefix : (test : Entry → Bool) (start : ℕ) (entries : List Entry)
    → first_index test start entries
    ≡ (if nat_lt (prefix_len (λ (e : Entry). not (test e)) entries) (length entries)
    then start + prefix_len (λ (e : Entry). not (test e)) entries else 0)
unfolding first_index
first_index-prefix test start [] = refl
first_index-prefix test start (one ∷ others) =
    first_index-prefix_one test start (prefix_len (λ (e : Entry). not (test e)) others) others
    (test one) (first_index-prefix test (suc start) others)

-- an index that may be missing, by its test
option_by : (b : Bool) (start count : ℕ)
    → (if b then start + count else 0)
    ≡ option_map_or (λ (place : ℕ). start + place) (if b then Some count else None) 0
option_by true start count = refl
option_by false start count = refl

-- the place that an index names
pub first_index-position : (test : Entry → Bool) (start : ℕ) (entries : List Entry)
    → first_index test start entries
    ≡ option_map_or (λ (place : ℕ). start + place) (position test entries) 0
first_index-position test start entries =
    let count = prefix_len (λ (e : Entry). not (test e)) entries in
    first_index-prefix test start entries ∙ option_by (nat_lt count (length entries)) start count

-- The least index is the first one of the static table, and then of the others.
pub least_index-first : (test : Entry → Bool) (entries : List Entry)
    → least_index test entries ≡ first_index test 1 (static_entries ++ entries)
unfolding least_index
least_index-first test entries =
    sym (first_index-position test 1 (static_entries ++ entries)
    ∙ option_suc (position test (static_entries ++ entries)))

-- An index that is found in the static table is the least one; otherwise it is the first of the
-- others.
pub least_index-parts : (test : Entry → Bool) (entries : List Entry)
    → least_index test entries ≡ (if first_index test 1 static_entries == 0
    then first_index test 62 entries else first_index test 1 static_entries)
unfolding static_entries
least_index-parts test entries = least_index-first test entries
    ∙ first_index-append test 1 static_entries entries (omega arith)
