-- Fields: what the first octet says of one, that none begins another one, and what a fault says.
use Rattle.hpack.proofs.Names.{◌≡◌, ℕ, ◌<◌, ◌≤◌, ◌⊎◌, inl, inr, Bool, false, List, [], ◌∷◌, ◌++◌}
use Rattle.hpack.proofs.Names.{length, get_or, Option, Some, refl, sym, ap, ap₂, ◌∙◌, subst, arith}
use Rattle.hpack.proofs.Names.{append_assoc, append-nil, length-append, Int, Int-unique, Str-unique}
use Rattle.hpack.proofs.Names.{Entry, Field, Literal, WithIndexing, WithoutIndexing, NeverIndexed}
use Rattle.hpack.proofs.Names.{entry, Entries, FirstOctet, LiteralHead, LiteralName, after_literal}
use Rattle.hpack.proofs.Names.{is_sensitive, Step, by_index, by_literal, NoPrefix, IsStep}
use Rattle.hpack.proofs.Names.{IsLiteral, IsIndex, prefix_bits_of}
use Rattle.hpack.specs.Prefixes.{EncodesLiteral, EncodesIndex, IsKind}
use Rattle.hpack.proofs.PrefixLemmas.{same_following, name_unique, literal_split}

-- the first octet, or 0
abbrev pub first_of : List ℕ → ℕ
first_of octets = get_or octets 0 0

-- The first octet of a prefix is that of the octets.
pub prefix_first_octet : (low high : ℕ) (octets prefix others : List ℕ) → octets ≡ prefix ++ others
    → FirstOctet low high prefix → (low ≤ first_of octets) × (first_of octets < high)
prefix_first_octet low high octets [] others e h = absurd h
prefix_first_octet low high octets (x ∷ prefix) others e h =
    let same : first_of octets ≡ x = ap first_of e in
    (omega (arith, h.0), omega (arith, h.1))

-- The first octet of octets that begin with an index.
pub index_first : (octets : List ℕ) → FirstOctet 0x80 0x100 octets
    → (0x80 ≤ first_of octets) × (first_of octets < 0x100)
index_first octets h = prefix_first_octet 0x80 0x100 octets octets [] (sym (append-nil octets)) h

-- An integer that is a prefix begins with the first octet.
pub int_first : (low high prefix_bits value : ℕ) (octets prefix others : List ℕ)
    → octets ≡ prefix ++ others → Int prefix_bits value prefix → low ≤ first_of octets
    → first_of octets < high → FirstOctet low high prefix
int_first low high prefix_bits value octets [] others e int least below = absurd int
int_first low high prefix_bits value octets (x ∷ prefix) others e int least below =
    let same : first_of octets ≡ x = ap first_of e in
    (omega arith, omega arith)

-- what is read of a field, by the first octet
pub record ReadsIndex (table : Entries) (first : ℕ) (prefix : List ℕ) (field : Field)
    (after : Entries) : Type 0 where
  pub high : 0x80 ≤ first
  pub encoded : EncodesIndex table.entries prefix field.name field.value
  pub sensitive : field.sensitive ≡ false
  pub table_after : after ≡ table

pub record ReadsLiteral (table : Entries) (first : ℕ) (prefix : List ℕ) (field : Field)
    (after : Entries) : Type 0 where
  pub kind : Literal
  pub is_kind : IsKind kind first
  pub encoded : EncodesLiteral table.entries (prefix_bits_of kind) prefix field.name field.value
  pub sensitive : field.sensitive ≡ is_sensitive kind
  pub table_after : after ≡ after_literal kind table
      (record { name = field.name; value = field.value })

-- The head of a literal has the first bits of its kind.
head_kind : (kind : Literal) (index : ℕ) (octets head others : List ℕ) → octets ≡ head ++ others
    → LiteralHead kind index head → IsKind kind (first_of octets)
    × Int (prefix_bits_of kind) index head
head_kind WithIndexing index octets head others e h =
    (prefix_first_octet 0x40 0x80 octets head others e h.0, h.1)
head_kind WithoutIndexing index octets head others e h =
    ((prefix_first_octet 0x00 0x10 octets head others e h.0).1, h.1)
head_kind NeverIndexed index octets head others e h =
    (prefix_first_octet 0x10 0x20 octets head others e h.0, h.1)

-- An integer with the first bits of a kind is such a head.
kind_head : (kind : Literal) (index : ℕ) (octets head others : List ℕ) → octets ≡ head ++ others
    → IsKind kind (first_of octets) → Int (prefix_bits_of kind) index head
    → LiteralHead kind index head
kind_head WithIndexing index octets head others e h int =
    (int_first 0x40 0x80 6 index octets head others e int h.0 h.1, int)
kind_head WithoutIndexing index octets head others e h int =
    (int_first 0x00 0x10 4 index octets head others e int (omega arith) h, int)
kind_head NeverIndexed index octets head others e h int =
    (int_first 0x10 0x20 4 index octets head others e int h.0 h.1, int)

-- A field is an index or a literal, as the first octet says.
step_reads : (table after : Entries) (octets prefix others : List ℕ) (field : Field)
    → octets ≡ prefix ++ others → Step table prefix field after
    → ReadsIndex table (first_of octets) prefix field after
    ⊎ ReadsLiteral table (first_of octets) prefix field after
step_reads table after octets prefix others field e
    (by_index index encoded named sensitive table_after) = inl (record {
      high = (prefix_first_octet 0x80 0x100 octets prefix others e encoded.0).0;
      encoded = record { index = index; encoded = encoded.1; named = named };
      sensitive = sensitive;
      table_after = table_after;
    })
step_reads table after octets prefix others field e
    (by_literal kind index head name value joined encoded named text sensitive table_after) =
    let split : octets ≡ head ++ ((name ++ value) ++ others) = e
    ∙ (ap (λ (xs : List ℕ). xs ++ others) joined ∙ append_assoc head (name ++ value) others) in
    let parts = head_kind kind index octets head ((name ++ value) ++ others) split encoded in
    inr (record {
      kind = kind;
      is_kind = parts.0;
      encoded = record {
        index = index;
        head = head;
        name_octets = name;
        value_octets = value;
        joined = joined;
        head_encoded = parts.1;
        name_encoded = named;
        value_encoded = text;
      };
      sensitive = sensitive;
      table_after = table_after;
    })

-- An index that was read is a field.
pub index_step : (table : Entries) (octets prefix others : List ℕ) (field : Field)
    → octets ≡ prefix ++ others → 0x80 ≤ first_of octets → first_of octets < 0x100
    → EncodesIndex table.entries prefix field.name field.value → field.sensitive ≡ false
    → Step table prefix field table
index_step table octets prefix others field e high below encoded sensitive =
    by_index encoded.index (
      int_first 0x80 0x100 7 encoded.index octets prefix others e encoded.encoded high below,
      encoded.encoded,
    ) encoded.named sensitive refl

-- A literal that was read is a field.
pub literal_step : (table after : Entries) (octets prefix others : List ℕ) (field : Field)
    (kind : Literal) → octets ≡ prefix ++ others → IsKind kind (first_of octets)
    → EncodesLiteral table.entries (prefix_bits_of kind) prefix field.name field.value
    → field.sensitive ≡ is_sensitive kind
    → after ≡ after_literal kind table (record { name = field.name; value = field.value })
    → Step table prefix field after
literal_step table after octets prefix others field kind e is_kind encoded sensitive table_after =
    by_literal kind encoded.index encoded.head encoded.name_octets encoded.value_octets
    encoded.joined (kind_head kind encoded.index octets encoded.head
    (encoded.name_octets ++ (encoded.value_octets ++ others)) (e ∙ literal_split encoded others)
    is_kind encoded.head_encoded) encoded.name_encoded encoded.value_encoded sensitive table_after

-- The first octet of a literal is below that of an index.
kind_below : (kind : Literal) (first : ℕ) → IsKind kind first → first < 0x80
kind_below WithIndexing first h = h.1
kind_below WithoutIndexing first h = omega arith
kind_below NeverIndexed first h = omega (arith, h.1)

-- The first octet of a literal is not that of an update.
kind_no_update : (kind : Literal) (first : ℕ) → IsKind kind first → 0x20 ≤ first → first < 0x40 → ⊥
kind_no_update WithIndexing first h low high = omega (arith, h.0)
kind_no_update WithoutIndexing first h low high = omega arith
kind_no_update NeverIndexed first h low high = omega (arith, h.1)

-- An octet has the first bits of one kind.
kind_unique : (kind other : Literal) (first : ℕ) → IsKind kind first → IsKind other first
    → kind ≡ other
kind_unique WithIndexing WithIndexing first a b = refl
kind_unique WithIndexing WithoutIndexing first a b = absurd (omega (arith, a.0))
kind_unique WithIndexing NeverIndexed first a b = absurd (omega (arith, a.0, b.1))
kind_unique WithoutIndexing WithIndexing first a b = absurd (omega (arith, b.0))
kind_unique WithoutIndexing WithoutIndexing first a b = refl
kind_unique WithoutIndexing NeverIndexed first a b = absurd (omega (arith, b.0))
kind_unique NeverIndexed WithIndexing first a b = absurd (omega (arith, a.1, b.0))
kind_unique NeverIndexed WithoutIndexing first a b = absurd (omega (arith, a.0))
kind_unique NeverIndexed NeverIndexed first a b = refl

-- No index, no field where the first octet is that of an index.
pub no_index_step : (table : Entries) (octets : List ℕ) → 0x80 ≤ first_of octets
    → NoPrefix (IsIndex table.entries) octets → NoPrefix (IsStep table) octets
no_index_step table octets high none = λ prefix others e (field, after, step).
    elim (step_reads table after octets prefix others field e step) [
      | inl reads ↦ none prefix others e (field.name, field.value, reads.encoded)
      | inr reads ↦ let below = kind_below reads.kind (first_of octets) reads.is_kind in omega arith
    ]

-- No literal, no field where the first octet is that of such a literal.
pub no_literal_step : (table : Entries) (octets : List ℕ) (kind : Literal)
    → IsKind kind (first_of octets)
    → NoPrefix (IsLiteral table.entries (prefix_bits_of kind)) octets
    → NoPrefix (IsStep table) octets
no_literal_step table octets kind is_kind none = λ prefix others e (field, after, step).
    elim (step_reads table after octets prefix others field e step) [
      | inl reads ↦ let below = kind_below kind (first_of octets) is_kind in
          let high = reads.high in omega arith
      | inr reads ↦ none prefix others e (
        field.name,
        field.value,
        subst (λ k. EncodesLiteral table.entries (prefix_bits_of k) prefix field.name field.value)
            (kind_unique reads.kind kind (first_of octets) reads.is_kind is_kind) reads.encoded,
      )
    ]

-- No field begins as an update does.
pub no_update_step : (table : Entries) (octets : List ℕ) → 0x20 ≤ first_of octets
    → first_of octets < 0x40 → NoPrefix (IsStep table) octets
no_update_step table octets low high = λ prefix others e (field, after, step).
    elim (step_reads table after octets prefix others field e step) [
      | inl reads ↦ let above = reads.high in omega arith
      | inr reads ↦ kind_no_update reads.kind (first_of octets) reads.is_kind low high
    ]

-- An integer has an octet.
pub int_long : (prefix_bits value : ℕ) (octets : List ℕ) → Int prefix_bits value octets
    → 0 < length octets
int_long prefix_bits value [] int = absurd int
int_long prefix_bits value (x ∷ octets) int = omega arith

-- A field has an octet.
pub step_long : (table after : Entries) (prefix : List ℕ) (field : Field)
    → Step table prefix field after → 0 < length prefix
step_long table after prefix field (by_index index encoded named sensitive table_after) =
    int_long 7 index prefix encoded.1
step_long table after prefix field
    (by_literal kind index head name value joined encoded named text sensitive table_after) =
    let long = int_long (prefix_bits_of kind) index head
    (head_kind kind index head head [] (sym (append-nil head)) encoded).1 in
    omega (arith, long, ap (λ (xs : List ℕ). length xs) joined, length-append head (name ++ value))

-- Octets begin with one literal at most, for so many bits of its prefix.
literal_unique : (entries : List Entry) (prefix_bits : ℕ)
    (prefix other name value text others more rest : List ℕ)
    → EncodesLiteral entries prefix_bits prefix name value
    → EncodesLiteral entries prefix_bits other text others → prefix ++ more ≡ other ++ rest
    → (prefix ≡ other) × (name ≡ text) × (value ≡ others)
literal_unique entries prefix_bits prefix other name value text others more rest a b e =
    let split : a.head ++ (a.name_octets ++ (a.value_octets ++ more))
    ≡ b.head ++ (b.name_octets ++ (b.value_octets ++ rest)) = sym (literal_split a more)
    ∙ (e ∙ literal_split b rest) in
    let (heads, indices) = Int-unique prefix_bits a.index b.index a.head b.head _ _ a.head_encoded
    b.head_encoded split in
    let names = same_following _ _ _ _ heads split in
    let (same_names, texts) = name_unique entries b.index name text a.name_octets b.name_octets _ _
    (subst (λ i. LiteralName entries i name a.name_octets) indices a.name_encoded)
    b.name_encoded names in
    let values = same_following _ _ _ _ same_names names in
    let (same_values, value_texts) =
    Str-unique value others a.value_octets b.value_octets more rest a.value_encoded
    b.value_encoded values in
    let joined : a.head ++ (a.name_octets ++ a.value_octets)
    ≡ b.head ++ (b.name_octets ++ b.value_octets) =
    ap₂ (λ (xs : List ℕ) (ys : List ℕ). xs ++ ys) heads
    (ap₂ (λ (xs : List ℕ) (ys : List ℕ). xs ++ ys) same_names same_values)
    in (a.joined ∙ (joined ∙ sym b.joined), texts, value_texts)

-- Octets begin with one index at most.
index_unique : (entries : List Entry) (prefix other name value text others more rest : List ℕ)
    → EncodesIndex entries prefix name value → EncodesIndex entries other text others
    → prefix ++ more ≡ other ++ rest → (prefix ≡ other) × (name ≡ text) × (value ≡ others)
index_unique entries prefix other name value text others more rest a b e =
    let (prefixes, indices) = Int-unique 7 a.index b.index prefix other more rest a.encoded
    b.encoded e in
    let both : ◌≡◌ {A = Option Entry} (Some (record { name = name; value = value }))
    (Some (record { name = text; value = others })) =
    sym a.named ∙ (ap (entry entries) indices ∙ b.named)
    in
    let same : ◌≡◌ {A = Entry} (record { name = name; value = value })
    (record { name = text; value = others }) = cc in
    (prefixes, ap (λ (one : Entry). one.name) same, ap (λ (one : Entry). one.value) same)

-- Fields with equal parts are equal.
same_field : (field other : Field) → field.name ≡ other.name → field.value ≡ other.value
    → field.sensitive ≡ other.sensitive → field ≡ other
same_field field other names values sensitive =
    let one : Field = record {
      name = field.name;
      value = field.value;
      sensitive = field.sensitive;
    } in
    let two : Field = record {
      name = other.name;
      value = field.value;
      sensitive = field.sensitive;
    } in
    let three : Field = record {
      name = other.name;
      value = other.value;
      sensitive = field.sensitive;
    } in
    let first : one ≡ two = ap (λ (n : List ℕ). let f : Field =
    record { name = n; value = field.value; sensitive = field.sensitive } in f) names in
    let second : two ≡ three = ap (λ (v : List ℕ). let f : Field =
    record { name = other.name; value = v; sensitive = field.sensitive } in f) values in
    let third : three ≡ other = ap (λ (s : Bool). let f : Field = record {
      name = other.name;
      value = other.value;
      sensitive = s;
    } in f) sensitive in
    first ∙ (second ∙ third)

-- what a literal leaves of the table depends on its name and value alone
same_after : (kind other : Literal) (table after next : Entries) (name value text others : List ℕ)
    → kind ≡ other → name ≡ text → value ≡ others
    → after ≡ after_literal kind table (record { name = name; value = value })
    → next ≡ after_literal other table (record { name = text; value = others }) → after ≡ next
same_after kind other table after next name value text others kinds names values a b =
    a ∙ (ap₂ (λ (n : List ℕ) (v : List ℕ). after_literal kind table
    (record { name = n; value = v })) names values
    ∙ (ap (λ (k : Literal). after_literal k table (record { name = text; value = others })) kinds
    ∙ sym b))

-- the same octets, for the same field and the same table after it
pub record SameStep (prefix other : List ℕ) (field one : Field) (after next : Entries) : Type 0
  where
    pub prefixes : prefix ≡ other
    pub fields : field ≡ one
    pub tables : after ≡ next

-- Octets begin with one field at most.
pub step_unique : (table after next : Entries) (octets prefix other more rest : List ℕ)
    (field one : Field) → octets ≡ prefix ++ more → octets ≡ other ++ rest
    → Step table prefix field after → Step table other one next
    → SameStep prefix other field one after next
step_unique table after next octets prefix other more rest field one e d a b =
    elim (step_reads table after octets prefix more field e a) [
      | inl reads ↦ elim (step_reads table next octets other rest one d b) [
        | inl others ↦
            let (prefixes, names, values) =
            index_unique table.entries prefix other field.name field.value one.name one.value
            more rest reads.encoded others.encoded (sym e ∙ d) in
            record {
              prefixes = prefixes;
              fields = same_field field one names values (reads.sensitive ∙ sym others.sensitive);
              tables = reads.table_after ∙ sym others.table_after;
            }
        | inr others ↦ absurd (let below = kind_below others.kind (first_of octets)
            others.is_kind in let high = reads.high in omega arith)
      ]
      | inr reads ↦ elim (step_reads table next octets other rest one d b) [
        | inl others ↦ absurd (let below = kind_below reads.kind (first_of octets) reads.is_kind in
            let high = others.high in omega arith)
        | inr others ↦
            let kinds = kind_unique reads.kind others.kind (first_of octets) reads.is_kind
            others.is_kind in
            let encoded =
            subst (λ k. EncodesLiteral table.entries (prefix_bits_of k) prefix field.name
            field.value) kinds reads.encoded in
            let (prefixes, names, values) =
            literal_unique table.entries (prefix_bits_of others.kind) prefix other field.name
            field.value one.name one.value more rest encoded others.encoded (sym e ∙ d) in
            record {
              prefixes = prefixes;
              fields = same_field field one names values
                  (reads.sensitive ∙ (ap is_sensitive kinds ∙ sym others.sensitive));
              tables = same_after reads.kind others.kind table after next field.name field.value
                  one.name one.value kinds names values reads.table_after others.table_after;
            }
      ]
    ]
