-- The size of entries, and what of a table fits.
use Rattle.hpack.proofs.Names.{◌≡◌, ℕ, ◌+◌, ◌-◌, ◌*◌, ◌/◌, ◌^◌, ◌<◌, ◌≤◌, if◌then◌else◌, min, inl}
use Rattle.hpack.proofs.Names.{inr, Bool, List, [], ◌∷◌, ◌++◌, length, refl, sym, ap, ◌∙◌, arith}
use Rattle.hpack.proofs.Names.{cases_lt, lt-leb, sum_by-cons, sum_by_push, Entry, Entries, resized}
use Rattle.hpack.proofs.Names.{entry_size, table_size, fit, add}
use Rattle.std.proofs.Common.{le-leb}

-- the size of a table with one more entry at the beginning
pub table_size-cons : (entry : Entry) (entries : List Entry)
    → table_size (entry ∷ entries) ≡ entry_size entry + table_size entries
table_size-cons entry entries = sum_by-cons entry_size entry entries

-- the size of a table with one more entry at the end
pub table_size-push : (entries : List Entry) (entry : Entry)
    → table_size (entries ++ entry ∷ []) ≡ table_size entries + entry_size entry
table_size-push entries entry = sum_by_push entry_size entries entry

-- An entry takes 32 at least.
pub entries_are_large : (entries : List Entry) → 32 * length entries ≤ table_size entries
entries_are_large [] = omega arith
entries_are_large (entry ∷ entries) =
    omega (arith, table_size-cons entry entries, entries_are_large entries)

-- A table with this maximum has no more entries than a 32nd part of it.
pub entries_are_few : (entries : List Entry) (maximum : ℕ) → table_size entries ≤ maximum
    → length entries ≤ maximum / 32
entries_are_few entries maximum within = omega (arith, entries_are_large entries)

-- The first entry fits.
pub fit-first : (entry : Entry) (entries : List Entry) (bound : ℕ) → entry_size entry ≤ bound
    → fit (entry ∷ entries) bound ≡ entry ∷ fit entries (bound - entry_size entry)
unfolding fit
fit-first entry entries bound le =
    ap (λ (b : Bool). if b then entry ∷ fit entries (bound - entry_size entry) else [])
    (le-leb (entry_size entry) bound le)

-- The first entry doesn't fit.
pub fit-none : (entry : Entry) (entries : List Entry) (bound : ℕ) → bound < entry_size entry
    → fit (entry ∷ entries) bound ≡ []
unfolding fit
fit-none entry entries bound lt =
    ap (λ (b : Bool). if b then entry ∷ fit entries (bound - entry_size entry) else [])
    (lt-leb (entry_size entry) bound lt)

-- All entries fit whose size is within the bound.
pub fit-all : (entries : List Entry) (bound : ℕ) → table_size entries ≤ bound
    → fit entries bound ≡ entries
unfolding fit
fit-all [] bound within = refl
fit-all (entry ∷ entries) bound within =
    let sizes = table_size-cons entry entries in
    let first : entry_size entry ≤ bound = omega arith in
    fit-first entry entries bound first
    ∙ ap (λ (others : List Entry). entry ∷ others)
    (fit-all entries (bound - entry_size entry) (omega arith))

-- The last entry leaves where all of them don't fit.
pub fit-push : (entries : List Entry) (last : Entry) (bound : ℕ)
    → bound < table_size entries + entry_size last
    → fit (entries ++ last ∷ []) bound ≡ fit entries bound
unfolding fit
fit-push [] last bound above = fit-none last [] bound (omega arith)
fit-push (entry ∷ entries) last bound above =
    let sizes = table_size-cons entry entries in
    elim (cases_lt bound (entry_size entry)) [
      | inl large ↦ fit-none entry (entries ++ last ∷ []) bound large
          ∙ sym (fit-none entry entries bound large)
      | inr small ↦ fit-first entry (entries ++ last ∷ []) bound small
          ∙ (ap (λ (others : List Entry). entry ∷ others)
          (fit-push entries last (bound - entry_size entry) (omega arith))
          ∙ sym (fit-first entry entries bound small))
    ]

-- what is left where the last entry was taken
pub record IsPopped (left bound : ℕ) (old new : List Entry) (last : Entry) : Type 0 where
  pub counted : left - min (entry_size last) (2 ^ 64 - 1) ≡ table_size new
  pub fitting : fit new bound ≡ fit old bound

-- The last entry is taken of entries that don't fit.
pub popped : (left bound : ℕ) (old new : List Entry) (last : Entry) → left ≡ table_size old
    → bound < left → left < 2 ^ 64 → old ≡ new ++ last ∷ []
    → IsPopped left bound old new last
popped left bound old new last counted above small e =
    let sizes : table_size old ≡ table_size new + entry_size last = ap table_size e
    ∙ table_size-push new last in
    record {
      counted = omega arith;
      fitting = sym (ap (λ (xs : List Entry). fit xs bound) e
          ∙ fit-push new last bound (omega arith));
    }

-- a table of these entries
abbrev pub table_of : List Entry → ℕ → Entries
table_of entries maximum = record { entries = entries; maximum = maximum }

-- An entry that fits is added.
pub added : (entries new fitting : List Entry) (entry : Entry) (maximum : ℕ)
    → entry_size entry ≤ maximum → fitting ≡ fit entries (maximum - entry_size entry)
    → new ≡ entry ∷ fitting → table_of new maximum ≡ table_of (add entries entry maximum) maximum
added entries new fitting entry maximum small rest e =
    ap (λ (xs : List Entry). table_of xs maximum) (e ∙ (ap (λ (xs : List Entry). entry ∷ xs) rest
    ∙ sym (fit-first entry entries maximum small)))

-- What fits is a prefix.
pub fit-prefix : (entries : List Entry) (bound : ℕ)
    → (left : List Entry) × (entries ≡ fit entries bound ++ left)
unfolding fit
fit-prefix [] bound = ([], refl)
fit-prefix (entry ∷ entries) bound =
    elim (cases_lt bound (entry_size entry)) [
      | inl large ↦ (entry ∷ entries, rw (fit-none entry entries bound large) refl)
      | inr small ↦
          let (left, joined) = fit-prefix entries (bound - entry_size entry) in (
            left,
            rw (fit-first entry entries bound small)
                (ap (λ (others : List Entry). entry ∷ others) joined),
          )
    ]

-- No longer prefix fits.
pub fit-longest : (prefix left : List Entry) (bound : ℕ) → table_size prefix ≤ bound
    → length prefix ≤ length (fit (prefix ++ left) bound)
fit-longest [] left bound within = omega arith
fit-longest (entry ∷ prefix) left bound within =
    let sizes = table_size-cons entry prefix in
    let small : entry_size entry ≤ bound = omega (arith, sizes) in
    let rest = fit-longest prefix left (bound - entry_size entry) (omega (arith, sizes)) in
    rw (fit-first entry (prefix ++ left) bound small) (omega (arith, rest))

-- What fits twice fits the lesser bound.
pub fit-fit : (entries : List Entry) (first last : ℕ)
    → fit (fit entries first) last ≡ fit entries (min first last)
unfolding fit
fit-fit [] first last = refl
fit-fit (entry ∷ entries) first last =
    let size : ℕ = entry_size entry in
    elim (cases_lt first size) [
      | inl large ↦ ap (λ (es : List Entry). fit es last) (fit-none entry entries first large)
          ∙ sym (fit-none entry entries (min first last) (omega (arith, large)))
      | inr small ↦ ap (λ (es : List Entry). fit es last) (fit-first entry entries first small)
          ∙ (elim (cases_lt last size) [
            | inl large ↦ fit-none entry (fit entries (first - size)) last large
                ∙ sym (fit-none entry entries (min first last) (omega (arith, large)))
            | inr fits ↦ fit-first entry (fit entries (first - size)) last fits
                ∙ (ap (λ (es : List Entry). entry ∷ es)
                (fit-fit entries (first - size) (last - size)
                ∙ ap (λ (n : ℕ). fit entries n) (omega arith))
                ∙ sym (fit-first entry entries (min first last) (omega (arith, small, fits))))
          ])
    ]

-- Of maxima that are set one after another, those before the last amount to the least of them.
pub resized_again : (table : Entries) (first last maximum : ℕ)
    → resized (resized (resized table first) last) maximum
    ≡ resized (resized table (min first last)) maximum
resized_again table first last maximum =
    ap (λ (es : List Entry). record { entries = fit es maximum; maximum = maximum })
    (fit-fit table.entries first last)

-- A maximum that is set twice is set once.
pub resized_same : (table : Entries) (maximum : ℕ)
    → resized (resized table maximum) maximum ≡ resized table maximum
resized_same table maximum =
    ap (λ (es : List Entry). record { entries = es; maximum = maximum })
    (fit-fit table.entries maximum maximum
    ∙ ap (λ (n : ℕ). fit table.entries n) (omega arith))
