-- Chains through the entries of a table.
use Rattle.hpack.proofs.Names.{◌≡◌, ℕ, zero, suc, ◌+◌, ◌-◌, ◌<◌, ◌≤◌, Bool, true, false}
use Rattle.hpack.proofs.Names.{if◌then◌else◌, List, [], ◌∷◌, ◌++◌, length, get_or, set, take, drop}
use Rattle.hpack.proofs.Names.{Some, inl, inr, refl, sym, ap, ◌∙◌, subst, arith, length-drop}
use Rattle.hpack.proofs.Names.{slice_get, get_or_from_slice_get, cases_eq, cases_lt, drop-drop}
use Rattle.hpack.proofs.Names.{get_or-drop, Entry, first_index, LeadsTo, AreLinked}
use Rattle.std.proofs.lemmas.List.{get_or-set_same, get_or-set_other, length-set}
use Rattle.hpack.specs.Chains.{AreHeads}
use Rattle.hpack.proofs.SearchLemmas.{fails, first_index-drop, first_index-none}

-- Where the oldest entries leave, what leads to an entry leads to it, or past the end.
pub leads_prefix : (bucket : Entry → ℕ) (sought : ℕ) (entries others : List Entry) (place : ℕ)
    → LeadsTo bucket sought (entries ++ others) place → LeadsTo bucket sought entries place
unfolding LeadsTo
leads_prefix bucket sought [] others place leads = tt
leads_prefix bucket sought (one ∷ entries) others zero leads = leads
leads_prefix bucket sought (one ∷ entries) others (suc place) leads =
    (leads.0, leads_prefix bucket sought entries others place leads.1)

-- The entries that are left are linked.
pub linked_prefix : (bucket : Entry → ℕ) (entries others : List Entry) (skips : List ℕ)
    → AreLinked bucket (entries ++ others) skips → AreLinked bucket entries skips
unfolding AreLinked
linked_prefix bucket [] others skips linked = tt
linked_prefix bucket (one ∷ entries) others [] linked = linked
linked_prefix bucket (one ∷ entries) others (skip ∷ skips) linked = (
  leads_prefix bucket (bucket one) entries others skip linked.0,
  linked_prefix bucket entries others skips linked.1,
)

-- The links of entries that have left aren't needed.
pub linked_take : (bucket : Entry → ℕ) (entries : List Entry) (skips : List ℕ) (count : ℕ)
    → length entries ≤ count → AreLinked bucket entries skips
    → AreLinked bucket entries (take count skips)
unfolding AreLinked
linked_take bucket [] skips count few linked = tt
linked_take bucket (one ∷ entries) [] count few linked = absurd linked
linked_take bucket (one ∷ entries) (skip ∷ skips) zero few linked = absurd (omega arith)
linked_take bucket (one ∷ entries) (skip ∷ skips) (suc count) few linked =
    (linked.0, linked_take bucket entries skips count (omega arith) linked.1)

-- Past the end, one place is as good as another.
leads_past : (bucket : Entry → ℕ) (sought : ℕ) (entries : List Entry) (place other : ℕ)
    → length entries ≤ place → length entries ≤ other → LeadsTo bucket sought entries place
    → LeadsTo bucket sought entries other
unfolding LeadsTo
leads_past bucket sought [] place other past far leads = tt
leads_past bucket sought (one ∷ entries) zero other past far leads = absurd (omega arith)
leads_past bucket sought (one ∷ entries) (suc place) zero past far leads = absurd (omega arith)
leads_past bucket sought (one ∷ entries) (suc place) (suc other) past far leads =
    (leads.0, leads_past bucket sought entries place other (omega arith) (omega arith) leads.1)

-- The numbers were lowered.
pub heads_lowered : (bucket : Entry → ℕ) (entries : List Entry) (newest lowered : List ℕ)
    (pushed base : ℕ) → length lowered ≡ length newest → base ≤ pushed
    → length entries ≤ pushed - base
    → ((one : ℕ) → one < length newest → get_or lowered one 0 ≡ get_or newest one 0 - base)
    → AreHeads bucket entries newest pushed → AreHeads bucket entries lowered (pushed - base)
heads_lowered bucket entries newest lowered pushed base same within few is heads = λ one lt.
    let before = get_or newest one 0 in
    let short : one < length newest = omega (arith, same) in
    let now : get_or lowered one 0 ≡ before - base = is one short in
    let leads : LeadsTo bucket one entries (pushed - before) = heads one short in
    elim (cases_lt before base) [
      | inl old ↦ leads_past bucket one entries (pushed - before)
          (pushed - base - get_or lowered one 0) (omega arith) (omega (arith, now)) leads
      | inr new ↦
          let there : pushed - before ≡ pushed - base - get_or lowered one 0 = omega (arith, now) in
          subst (λ (n : ℕ). LeadsTo bucket one entries n) there leads
    ]

-- A new entry is the newest of its bucket.
pub heads_pushed : (bucket : Entry → ℕ) (one : Entry) (entries : List Entry) (newest : List ℕ)
    (pushed own : ℕ) → bucket one ≡ own → own < length newest
    → ((k : ℕ) → k < length newest → get_or newest k 0 ≤ pushed)
    → AreHeads bucket entries newest pushed
    → AreHeads bucket (one ∷ entries) (set newest own (pushed + 1)) (pushed + 1)
unfolding LeadsTo
heads_pushed bucket one entries newest pushed own is within before heads = λ k lt.
    let short : k < length newest = omega (arith, length-set newest own (pushed + 1)) in
    elim (cases_eq k own) [
      | inl same ↦
          let at : get_or (set newest own (pushed + 1)) k 0 ≡ pushed + 1 =
          ap (λ (n : ℕ). get_or (set newest own (pushed + 1)) n 0) same
          ∙ get_or-set_same newest own (pushed + 1) 0 within in
          let none : 0 ≡ pushed + 1 - get_or (set newest own (pushed + 1)) k 0 =
          omega (arith, at) in
          subst (λ (n : ℕ). LeadsTo bucket k (one ∷ entries) n) none (is ∙ sym same)
      | inr other ↦
          let at : get_or (set newest own (pushed + 1)) k 0 ≡ get_or newest k 0 =
          get_or-set_other newest own k (pushed + 1) 0 other in
          let next : suc (pushed - get_or newest k 0)
          ≡ pushed + 1 - get_or (set newest own (pushed + 1)) k 0 =
          omega (arith, at, before k short) in
          subst (λ (n : ℕ). LeadsTo bucket k (one ∷ entries) n) next
          (λ e. other (sym e ∙ is), heads k short)
    ]

-- What is sought isn't among the entries that are skipped.
pub leads_first : (bucket : Entry → ℕ) (sought : ℕ) (test : Entry → Bool) (start : ℕ)
    (entries : List Entry) (place : ℕ) → ((one : Entry) → test one ≡ true → bucket one ≡ sought)
    → LeadsTo bucket sought entries place
    → first_index test start entries ≡ first_index test (start + place) (drop place entries)
unfolding LeadsTo first_index
leads_first bucket sought test start [] zero only leads = refl
leads_first bucket sought test start [] (suc place) only leads = refl
leads_first bucket sought test start (one ∷ entries) zero only leads =
    ap (λ (n : ℕ). first_index test n (one ∷ entries))
    (let e : start ≡ start + 0 = omega arith in e)
leads_first bucket sought test start (one ∷ entries) (suc place) only leads =
    let next : suc start + place ≡ start + suc place = omega arith in
    ap (λ (b : Bool). if b then start else first_index test (suc start) entries)
    (fails (test one) (λ is. leads.0 (only one is)))
    ∙ (leads_first bucket sought test (suc start) entries place only leads.1
    ∙ ap (λ (n : ℕ). first_index test n (drop place entries)) next)

-- The entry at the place is in the bucket.
pub leads_here : (bucket : Entry → ℕ) (sought : ℕ) (entries : List Entry) (place : ℕ)
    (other : Entry) → LeadsTo bucket sought entries place → place < length entries
    → bucket (get_or entries place other) ≡ sought
unfolding LeadsTo
leads_here bucket sought [] place other leads lt = absurd (omega arith)
leads_here bucket sought (one ∷ entries) zero other leads lt = leads
leads_here bucket sought (one ∷ entries) (suc place) other leads lt =
    leads_here bucket sought entries place other leads.1 (omega arith)

-- Each entry leads to the next one in its bucket.
pub linked_at : (bucket : Entry → ℕ) (entries : List Entry) (skips : List ℕ) (place : ℕ)
    (other : Entry) → AreLinked bucket entries skips → place < length entries
    → LeadsTo bucket (bucket (get_or entries place other)) (drop (suc place) entries)
    (get_or skips place 0)
unfolding AreLinked
linked_at bucket [] skips place other linked lt = absurd (omega arith)
linked_at bucket (one ∷ entries) [] place other linked lt = absurd linked
linked_at bucket (one ∷ entries) (skip ∷ skips) zero other linked lt = linked.0
linked_at bucket (one ∷ entries) (skip ∷ skips) (suc place) other linked lt =
    linked_at bucket entries skips place other linked.1 (omega arith)

-- There is a link for each entry.
pub linked_length : (bucket : Entry → ℕ) (entries : List Entry) (skips : List ℕ)
    → AreLinked bucket entries skips → length entries ≤ length skips
unfolding AreLinked
linked_length bucket [] skips linked = omega arith
linked_length bucket (one ∷ entries) [] linked = absurd linked
linked_length bucket (one ∷ entries) (skip ∷ skips) linked =
    omega (arith, linked_length bucket entries skips linked.1)

-- The number that was read is the link.
pub linked_read : (bucket : Entry → ℕ) (entries : List Entry) (skips : List ℕ) (place skip : ℕ)
    (other : Entry) → AreLinked bucket entries skips → place < length entries
    → slice_get skips place ≡ Some skip
    → LeadsTo bucket (bucket (get_or entries place other)) (drop (place + 1) entries) skip
linked_read bucket entries skips place skip other linked lt is =
    let same : get_or skips place 0 ≡ skip = get_or_from_slice_get skips place skip 0 is in
    subst (λ (n : ℕ). LeadsTo bucket (bucket (get_or entries place other)) (drop
    (place + 1) entries) n) same
    (subst (λ (n : ℕ). LeadsTo bucket (bucket (get_or entries place other)) (drop n entries)
    (get_or skips place 0)) (let e : suc place ≡ place + 1 = omega arith in e)
    (linked_at bucket entries skips place other linked lt))

-- A new entry is linked.
pub linked_pushed : (bucket : Entry → ℕ) (one : Entry) (entries : List Entry) (skips : List ℕ)
    (skip capacity : ℕ) → LeadsTo bucket (bucket one) entries skip
    → AreLinked bucket entries skips → length entries < capacity
    → AreLinked bucket (one ∷ entries) (take capacity (skip ∷ skips))
unfolding AreLinked
linked_pushed bucket one entries skips skip capacity leads linked few =
    linked_take bucket (one ∷ entries) (skip ∷ skips) capacity (omega arith) (leads, linked)

-- A place on the chain of a bucket: no entry before it passes, and the entry there, if any, is in
-- the bucket.
pub record IsReached (bucket : Entry → ℕ) (sought : ℕ) (test : Entry → Bool)
    (start : ℕ) (entries : List Entry) (place : ℕ) : Type 0 where
  pub none_before : first_index test (start + place) (drop place entries)
      ≡ first_index test start entries
  pub here : (other : Entry) → place < length entries
      → bucket (get_or entries place other) ≡ sought

module _ (bucket : Entry → ℕ) (sought : ℕ) (test : Entry → Bool) (start : ℕ) (entries : List Entry)
    (place : ℕ) where
  -- The first place of a chain.
  pub reached_first : ((one : Entry) → test one ≡ true → bucket one ≡ sought)
      → LeadsTo bucket sought entries place → IsReached bucket sought test start entries place
  reached_first only leads = record {
    none_before = sym (leads_first bucket sought test start entries place only leads);
    here = λ other lt. leads_here bucket sought entries place other leads lt;
  }

  -- The next place of a chain.
  pub reached_next : (skip next : ℕ) → ((one : Entry) → test one ≡ true → bucket one ≡ sought)
      → IsReached bucket sought test start entries place → place < length entries
      → ((other : Entry) → test (get_or entries place other) ≡ false)
      → ((other : Entry) → LeadsTo bucket (bucket (get_or entries place other))
      (drop (place + 1) entries) skip)
      → next ≡ place + (1 + skip) → IsReached bucket sought test start entries next
  reached_next skip next only reached lt missed leads is =
      let other : Entry = record { name = []; value = [] } in
      let rest = drop (place + 1) entries in
      let into : LeadsTo bucket sought rest skip =
      subst (λ (n : ℕ). LeadsTo bucket n rest skip) (reached.here other lt) (leads other) in
      let step : first_index test (start + place) (drop place entries)
      ≡ first_index test (start + (place + 1)) rest =
      first_index-drop test start place entries other false lt (sym (missed other)) in
      let skipped : first_index test (start + (place + 1)) rest
      ≡ first_index test (start + (place + 1) + skip) (drop skip rest) =
      leads_first bucket sought test (start + (place + 1)) rest skip only into in
      let number : start + (place + 1) + skip ≡ start + next = omega (arith, is) in
      let at : place + 1 + skip ≡ next = omega (arith, is) in
      let same : drop skip rest ≡ drop next entries =
      drop-drop skip (place + 1) entries ∙ ap (λ (n : ℕ). drop n entries) at in
      record {
        none_before = sym (ap (λ (n : ℕ). first_index test n (drop skip rest)) number
            ∙ ap (λ (es : List Entry). first_index test (start + next) es) same)
            ∙ (sym skipped ∙ (sym step ∙ reached.none_before));
        here = λ one short.
            let there : get_or rest skip one ≡ get_or entries next one =
            get_or-drop (place + 1) entries skip one ∙ ap (λ (n : ℕ). get_or entries n one) at in
            subst (λ (e : Entry). bucket e ≡ sought) there
            (leads_here bucket sought rest skip one into
            (omega (arith, at, short, length-drop (place + 1) entries)));
      }

  -- The entry at a place of a chain passes.
  pub reached_here : IsReached bucket sought test start entries place → place < length entries
      → ((other : Entry) → test (get_or entries place other) ≡ true)
      → start + place ≡ first_index test start entries
  reached_here reached lt passes =
      let other : Entry = record { name = []; value = [] } in
      sym (first_index-drop test start place entries other true lt (sym (passes other)))
      ∙ reached.none_before

  -- A chain ends.
  pub reached_end : IsReached bucket sought test start entries place → length entries ≤ place
      → 0 ≡ first_index test start entries
  reached_end reached past =
      sym (first_index-none test (start + place) place entries past) ∙ reached.none_before
