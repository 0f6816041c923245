-- What is chosen for a field, and for the updates before a block.
use Rattle.hpack.proofs.Names.{◌≡◌, ℕ, ◌+◌, ◌^◌, ◌<◌, ◌≤◌, ◌==◌, nat_lt, if◌then◌else◌, Bool, true}
use Rattle.hpack.proofs.Names.{false, List, [], ◌∷◌, length, refl, sym, ap, ◌∙◌, arith, lt-ltb}
use Rattle.hpack.proofs.Names.{le-ltb, ne_eqb, Entry, Field, WithIndexing, WithoutIndexing}
use Rattle.hpack.proofs.Names.{NeverIndexed, PendingTable, static_entries, Entries, EncoderState}
use Rattle.hpack.proofs.Names.{least_index, exact_index, name_index, Choice, indexed, literal}
use Rattle.hpack.proofs.Names.{choice, size_updates, first_index, represented, IsPendingTable}
use Rattle.std.proofs.lemmas.Bool.{eq-eqb}
use Rattle.hpack.proofs.SearchLemmas.{least_index-parts}
use Rattle.hpack.proofs.WrittenTables.{least_index_small}

-- What is found in the static table is the least index.
pub least_static : (test : Entry → Bool) (entries : List Entry) (found : ℕ)
    → found ≡ first_index test 1 static_entries → 0 < found → found ≡ least_index test entries
least_static test entries found is some =
    let first = first_index test 1 static_entries in
    is ∙ sym (least_index-parts test entries ∙ ap
    (λ (b : Bool). if b then first_index test 62 entries else first)
    (ne_eqb first 0 (λ e. omega (arith, e, is))))

-- Where nothing is found there, the dynamic table has the least index.
pub least_dynamic : (test : Entry → Bool) (entries : List Entry) (found index : ℕ)
    → found ≡ first_index test 1 static_entries → found ≤ 0 → index ≡ first_index test 62 entries
    → index ≡ least_index test entries
least_dynamic test entries found index is nothing dynamic =
    let first = first_index test 1 static_entries in
    dynamic ∙ sym (least_index-parts test entries
    ∙ ap (λ (b : Bool). if b then first_index test 62 entries else first)
    (eq-eqb first 0 (omega (arith, is))))

-- The least index in a pending table is small enough to be written.
pub least_small : (test : Entry → Bool) (pending : PendingTable) (table : Entries) (index : ℕ)
    → IsPendingTable pending table → index ≡ least_index test (represented pending table).entries
    → index < 2 ^ 35
least_small test pending table index is same =
    let small : least_index test (represented pending table).entries < 2 ^ 35 =
    least_index_small test (represented pending table).entries pending.maximum
    (omega (arith, is.counted, is.within)) is.small in
    omega (arith, small, same)

-- the choice, by its tests
unfoldable choice_by : Entries → Field → Bool → Bool → Bool → Choice
choice_by table field sensitive exact large =
    if sensitive then literal NeverIndexed (name_index table.entries field)
    else if exact then indexed (exact_index table.entries field)
    else if large then literal WithoutIndexing (name_index table.entries field)
    else literal WithIndexing (name_index table.entries field)

-- the test for an exact entry
has_exact : Entries → Field → Bool
has_exact table field = nat_lt 0 (exact_index table.entries field)

-- the test for a large field
is_large : Entries → Field → Bool
is_large table field = nat_lt table.maximum (length field.name + length field.value + 32)

module _ (table : Entries) (field : Field) where
  -- The choice goes by these tests.
  choice-by : choice table field ≡ choice_by table field field.sensitive (has_exact table field)
      (is_large table field)
  unfolding choice choice_by has_exact is_large
  choice-by = refl

  -- a sensitive field
  pub chosen_never : (index : ℕ) → field.sensitive ≡ true → index ≡ name_index table.entries field
      → literal NeverIndexed index ≡ choice table field
  unfolding choice_by
  chosen_never index sensitive named = ap (λ (n : ℕ). literal NeverIndexed n) named ∙ sym (choice-by
      ∙ ap (λ (b : Bool). choice_by table field b (has_exact table field) (is_large table field))
      sensitive)

  -- a field with an exact entry
  pub chosen_indexed : (index : ℕ) → field.sensitive ≡ false
      → index ≡ exact_index table.entries field → 0 < index → indexed index ≡ choice table field
  unfolding choice_by has_exact
  chosen_indexed index usual exact some =
      let has : has_exact table field ≡ true =
      lt-ltb 0 (exact_index table.entries field) (omega (arith, exact)) in
      ap (λ (n : ℕ). indexed n) exact ∙ sym (choice-by
      ∙ (ap (λ (b : Bool). choice_by table field b (has_exact table field) (is_large table field))
      usual ∙ ap (λ (b : Bool). choice_by table field false b (is_large table field)) has))

  -- a field with none, by its size
  chosen_by : (large : Bool) → field.sensitive ≡ false → exact_index table.entries field ≤ 0
      → is_large table field ≡ large
      → choice table field ≡ (if large then literal WithoutIndexing (name_index table.entries field)
      else literal WithIndexing (name_index table.entries field))
  unfolding choice_by has_exact
  chosen_by large usual none is =
      let has : has_exact table field ≡ false = le-ltb 0 (exact_index table.entries field) none in
      choice-by
      ∙ (ap (λ (b : Bool). choice_by table field b (has_exact table field) (is_large table field))
      usual ∙ (ap (λ (b : Bool). choice_by table field false b (is_large table field)) has
      ∙ ap (λ (b : Bool). choice_by table field false false b) is))

  -- a field that is larger than the maximum
  pub chosen_plain : (exact index : ℕ) → field.sensitive ≡ false
      → exact ≡ exact_index table.entries field → exact ≤ 0 → index ≡ name_index table.entries field
      → table.maximum < length field.name + length field.value + 32
      → literal WithoutIndexing index ≡ choice table field
  unfolding is_large
  chosen_plain exact index usual is none named large =
      ap (λ (n : ℕ). literal WithoutIndexing n) named
      ∙ sym (chosen_by true usual (omega (arith, is))
      (lt-ltb table.maximum (length field.name + length field.value + 32) large))

  -- a field that is added
  pub chosen_added : (exact index : ℕ) → field.sensitive ≡ false
      → exact ≡ exact_index table.entries field → exact ≤ 0 → index ≡ name_index table.entries field
      → length field.name + length field.value + 32 ≤ table.maximum
      → literal WithIndexing index ≡ choice table field
  unfolding is_large
  chosen_added exact index usual is none named small = ap (λ (n : ℕ). literal WithIndexing n) named
      ∙ sym (chosen_by false usual (omega (arith, is))
      (le-ltb table.maximum (length field.name + length field.value + 32) small))

-- the updates, by their tests
unfoldable size_updates_by : ℕ → ℕ → Bool → Bool → Bool → List ℕ
size_updates_by least limit fell alike rose = if fell
    then least ∷ (if alike then [] else limit ∷ []) else if rose then limit ∷ [] else []

-- The updates go by these tests.
size_updates-by : (state : EncoderState) → size_updates state
    ≡ size_updates_by state.least state.limit (nat_lt state.least state.table.maximum)
    (state.limit == state.least) (nat_lt state.table.maximum state.limit)
unfolding size_updates size_updates_by
size_updates-by state = refl

module _ (state : EncoderState) where
  -- The limit fell, and is that still.
  pub updates_fell : state.least < state.table.maximum → state.limit ≡ state.least
      → state.least ∷ [] ≡ size_updates state
  unfolding size_updates_by
  updates_fell fell alike = sym (size_updates-by state
      ∙ (ap (λ (b : Bool). size_updates_by state.least state.limit b (state.limit == state.least)
      (nat_lt state.table.maximum state.limit)) (lt-ltb state.least state.table.maximum fell)
      ∙ ap (λ (b : Bool). size_updates_by state.least state.limit true b
      (nat_lt state.table.maximum state.limit)) (eq-eqb state.limit state.least alike)))

  -- The limit fell, and is another.
  pub updates_changed : state.least < state.table.maximum → (state.limit ≡ state.least → ⊥)
      → state.least ∷ state.limit ∷ [] ≡ size_updates state
  unfolding size_updates_by
  updates_changed fell other = sym (size_updates-by state
      ∙ (ap (λ (b : Bool). size_updates_by state.least state.limit b (state.limit == state.least)
      (nat_lt state.table.maximum state.limit)) (lt-ltb state.least state.table.maximum fell)
      ∙ ap (λ (b : Bool). size_updates_by state.least state.limit true b
      (nat_lt state.table.maximum state.limit)) (ne_eqb state.limit state.least other)))

  -- The limit rose.
  pub updates_rose : state.table.maximum ≤ state.least → state.table.maximum < state.limit
      → state.limit ∷ [] ≡ size_updates state
  unfolding size_updates_by
  updates_rose not_fallen rose = sym (size_updates-by state
      ∙ (ap (λ (b : Bool). size_updates_by state.least state.limit b (state.limit == state.least)
      (nat_lt state.table.maximum state.limit)) (le-ltb state.least state.table.maximum not_fallen)
      ∙ ap (λ (b : Bool). size_updates_by state.least state.limit false (state.limit == state.least)
      b) (lt-ltb state.table.maximum state.limit rose)))

  -- Nothing is due.
  pub updates_not_due : state.table.maximum ≤ state.least → state.limit ≤ state.table.maximum
      → [] ≡ size_updates state
  unfolding size_updates_by
  updates_not_due not_fallen low = sym (size_updates-by state
      ∙ (ap (λ (b : Bool). size_updates_by state.least state.limit b (state.limit == state.least)
      (nat_lt state.table.maximum state.limit)) (le-ltb state.least state.table.maximum not_fallen)
      ∙ ap (λ (b : Bool). size_updates_by state.least state.limit false (state.limit == state.least)
      b) (le-ltb state.table.maximum state.limit low)))
