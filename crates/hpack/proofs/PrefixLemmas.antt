-- Prefixes of octets: no encoding begins another one, so a fault of a part is one of all the
-- octets.
use Rattle.hpack.proofs.Names.{◌≡◌, ℕ, ◌+◌, ◌-◌, ◌≤◌, inl, inr, List, ◌++◌, length, take, drop}
use Rattle.hpack.proofs.Names.{Option, None, Some, Result, Ok, Err, refl, sym, ap, ◌∙◌, subst}
use Rattle.hpack.proofs.Names.{arith, append_assoc, length-append, length-drop, Int, Str}
use Rattle.hpack.proofs.Names.{Int-unique, Str-unique, Entry, Fault, entry, LiteralName, NoPrefix}
use Rattle.hpack.proofs.Names.{IsInt, IsStr, IsName, IsLiteral, IsIndex}
use Rattle.std.proofs.Common.{take_at, take-add, take-append-drop}
use Rattle.std.proofs.lemmas.List.{append_cancel_left, take_rest}
use Rattle.hpack_text.specs.declared.fault.TextFault.{TextFault}
use Rattle.hpack_text.specs.declared.fault.TextFault.TheVariants as text_faults
use Rattle.hpack.specs.declared.types.fault.Fault.TheVariants as faults
use Rattle.hpack.specs.Prefixes.{PrefixFault, fault_of_text, EncodesLiteral}
use Rattle.hpack.proofs.LookupLemmas.{entry-zero}

-- the octets after the first ones, as a slice of them
abbrev pub octets_after : List ℕ → ℕ → List ℕ
octets_after octets count = take (length octets - count) (drop count octets)

-- Octets are the first of them and those after.
pub split_at_count : (octets : List ℕ) (count : ℕ)
    → octets ≡ take count octets ++ octets_after octets count
split_at_count octets count = sym (take-append-drop count octets)
    ∙ ap (λ (xs : List ℕ). take count octets ++ xs) (sym (take_rest octets count))

-- how many octets a prefix has
pub record IsCount (octets prefix : List ℕ) : Type 0 where
  pub within : length prefix ≤ length octets
  pub taken : take (length prefix) octets ≡ prefix

-- A prefix is so many octets.
pub prefix_count : (octets prefix others : List ℕ) → octets ≡ prefix ++ others
    → IsCount octets prefix
prefix_count octets prefix others e = record {
  within = omega (arith, ap (λ (xs : List ℕ). length xs) e, length-append prefix others);
  taken = ap (λ (xs : List ℕ). take (length prefix) xs) e
      ∙ take_at prefix others (length prefix) refl;
}

-- After equal prefixes the same follows.
pub same_following : (prefix other more rest : List ℕ) → prefix ≡ other
    → prefix ++ more ≡ other ++ rest → more ≡ rest
same_following prefix other more rest same e =
    append_cancel_left prefix more rest (e ∙ ap (λ (xs : List ℕ). xs ++ rest) (sym same))

-- A fault of one encoding is one of another.
pub fault_moves : (P Q : List ℕ → Type 0) (octets others : List ℕ) (fault : Fault)
    → (NoPrefix P octets → NoPrefix Q others) → PrefixFault P octets fault
    → PrefixFault Q others fault
fault_moves P Q octets others faults.Compression moves none = moves none
fault_moves P Q octets others faults.Memory moves none = tt
fault_moves P Q octets others faults.Failed moves none = none

module _ (prefix_bits : ℕ) (octets : List ℕ) where
  -- Where no integer could be read, none is a prefix.
  no_int : (fault : TextFault)
      → ((value count : ℕ) → count ≤ length octets → Int prefix_bits value (take count octets) → ◌≡◌
      {A = Result (ℕ × ℕ) TextFault} (Err fault) (Ok (value, count)))
      → NoPrefix (IsInt prefix_bits) octets
  no_int fault only = λ prefix others e encoded.
      let count = prefix_count octets prefix others e in
      let wrong : ◌≡◌ {A = Result (ℕ × ℕ) TextFault} (Err fault) (Ok (encoded.0, length prefix)) =
      only encoded.0 (length prefix) count.within
      (subst (λ xs. Int prefix_bits encoded.0 xs) (sym count.taken) encoded.1) in
      cc

  -- what a fault of an integer says
  pub int_fault : (fault : TextFault)
      → ((value count : ℕ) → count ≤ length octets → Int prefix_bits value (take count octets) → ◌≡◌
      {A = Result (ℕ × ℕ) TextFault} (Err fault) (Ok (value, count)))
      → PrefixFault (IsInt prefix_bits) octets (fault_of_text fault)
  int_fault text_faults.Truncated only = no_int text_faults.Truncated only
  int_fault text_faults.TooLong only = no_int text_faults.TooLong only
  int_fault text_faults.BadPadding only = no_int text_faults.BadPadding only
  int_fault text_faults.EndSymbol only = no_int text_faults.EndSymbol only
  int_fault text_faults.Memory only = tt

-- Where no string could be read, though memory sufficed, none is a prefix.
no_str : (octets : List ℕ) (fault : TextFault) → (fault ≡ text_faults.Memory → ⊥)
    → ((text : List ℕ) (count : ℕ) → count ≤ length octets → Str text (take count octets)
    → fault ≡ text_faults.Memory)
    → NoPrefix IsStr octets
no_str octets fault other only = λ prefix others e encoded.
    let count = prefix_count octets prefix others e in
    other (only encoded.0 (length prefix) count.within
    (subst (λ xs. Str encoded.0 xs) (sym count.taken) encoded.1))

-- what a fault of a string says
pub str_fault : (octets : List ℕ) (fault : TextFault)
    → ((text : List ℕ) (count : ℕ) → count ≤ length octets → Str text (take count octets)
    → fault ≡ text_faults.Memory)
    → PrefixFault IsStr octets (fault_of_text fault)
str_fault octets text_faults.Truncated only = no_str octets text_faults.Truncated (λ e. cc) only
str_fault octets text_faults.TooLong only = no_str octets text_faults.TooLong (λ e. cc) only
str_fault octets text_faults.BadPadding only = no_str octets text_faults.BadPadding (λ e. cc) only
str_fault octets text_faults.EndSymbol only = no_str octets text_faults.EndSymbol (λ e. cc) only
str_fault octets text_faults.Memory only = tt

-- Index 0 names no entry.
zero_names_none : (entries : List Entry) (index : ℕ) (named : Entry) → index ≡ 0
    → entry entries index ≡ Some named → ⊥
zero_names_none entries index named e some =
    let none : entry entries index ≡ None = ap (entry entries) e ∙ entry-zero entries in
    cc

-- the same octets, for the same name
abbrev pub SameName : List ℕ → List ℕ → List ℕ → List ℕ → Type 0
SameName name other octets others = (octets ≡ others) × (name ≡ other)

-- No name begins another one.
pub name_unique : (entries : List Entry) (index : ℕ) (name other octets others more rest : List ℕ)
    → LiteralName entries index name octets → LiteralName entries index other others
    → octets ++ more ≡ others ++ rest → SameName name other octets others
name_unique entries index name other octets others more rest (inl a) (inl b) e =
    Str-unique name other octets others more rest a.1 b.1 e
name_unique entries index name other octets others more rest (inl a) (inr b) e =
    absurd (zero_names_none entries index _ a.0 b.1.1)
name_unique entries index name other octets others more rest (inr a) (inl b) e =
    absurd (zero_names_none entries index _ b.0 a.1.1)
name_unique entries index name other octets others more rest (inr a) (inr b) e =
    let both : ◌≡◌ {A = Option Entry} (Some (record { name = name; value = a.1.0 }))
    (Some (record { name = other; value = b.1.0 })) = sym a.1.1 ∙ b.1.1 in
    let same : ◌≡◌ {A = Entry} (record { name = name; value = a.1.0 })
    (record { name = other; value = b.1.0 }) = cc in
    (a.0 ∙ sym b.0, ap (λ (one : Entry). one.name) same)

-- a literal's parts, where octets follow it
pub literal_split : {entries : List Entry} {prefix_bits : ℕ} {prefix name value : List ℕ}
    (encoded : EncodesLiteral entries prefix_bits prefix name value) (others : List ℕ)
    → prefix ++ others ≡ encoded.head ++ (encoded.name_octets ++ (encoded.value_octets ++ others))
literal_split {prefix} encoded others =
    ap (λ (xs : List ℕ). xs ++ others) encoded.joined
    ∙ (append_assoc encoded.head (encoded.name_octets ++ encoded.value_octets) others
    ∙ ap (λ (xs : List ℕ). encoded.head ++ xs)
    (append_assoc encoded.name_octets encoded.value_octets others))

-- No integer, no literal.
pub literal_no_head : (entries : List Entry) (prefix_bits : ℕ) (octets : List ℕ)
    → NoPrefix (IsInt prefix_bits) octets → NoPrefix (IsLiteral entries prefix_bits) octets
literal_no_head entries prefix_bits octets none = λ prefix others e (name, value, encoded).
    none encoded.head _ (e ∙ literal_split encoded others) (encoded.index, encoded.head_encoded)

-- No name after the index, no literal.
pub literal_no_name : (entries : List Entry) (prefix_bits index : ℕ)
    (octets head following : List ℕ) → octets ≡ head ++ following → Int prefix_bits index head
    → NoPrefix (IsName entries index) following → NoPrefix (IsLiteral entries prefix_bits) octets
literal_no_name entries prefix_bits index octets head following joined int none =
    λ prefix others e (name, value, encoded).
    let split : encoded.head ++ (encoded.name_octets ++ (encoded.value_octets ++ others))
    ≡ head ++ following = sym (literal_split encoded others) ∙ (sym e ∙ joined) in
    let (heads, indices) = Int-unique prefix_bits encoded.index index encoded.head head _ following
    encoded.head_encoded int split in
    none encoded.name_octets _ (sym (same_following _ _ _ _ heads split)) (
      name,
      subst (λ i. LiteralName entries i name encoded.name_octets) indices encoded.name_encoded,
    )

-- No value after the name, no literal.
pub literal_no_value : (entries : List Entry) (prefix_bits index : ℕ)
    (octets head name_octets text following : List ℕ) → octets ≡ head ++ (name_octets ++ following)
    → Int prefix_bits index head
    → LiteralName entries index text name_octets → NoPrefix IsStr following
    → NoPrefix (IsLiteral entries prefix_bits) octets
literal_no_value entries prefix_bits index octets head name_octets text following joined int named
    none = λ prefix others e (name, value, encoded).
    let split : encoded.head ++ (encoded.name_octets ++ (encoded.value_octets ++ others))
    ≡ head ++ (name_octets ++ following) = sym (literal_split encoded others)
    ∙ (sym e ∙ joined) in
    let (heads, indices) = Int-unique prefix_bits encoded.index index encoded.head head _ _
    encoded.head_encoded int split in
    let names = same_following _ _ _ _ heads split in
    let (same, texts) = name_unique entries index name text encoded.name_octets name_octets _
    following (subst (λ i. LiteralName entries i name encoded.name_octets) indices
    encoded.name_encoded) named names in
    none encoded.value_octets others (sym (same_following _ _ _ _ same names))
    (value, encoded.value_encoded)

-- the three parts of a literal, one after another
take_parts : (octets : List ℕ) (a b c : ℕ)
    → take (a + b + c) octets ≡ take a octets
    ++ (take b (octets_after octets a) ++ take c (octets_after (octets_after octets a) b))
take_parts octets a b c =
    let sums : a + b + c ≡ a + (b + c) = omega arith in
    rw (take_rest octets a, take_rest (drop a octets) b)
    (ap (λ (n : ℕ). take n octets) sums ∙ (take-add a (b + c) octets
    ∙ ap (λ (xs : List ℕ). take a octets ++ xs) (take-add b c (drop a octets))))

-- what was read of a literal
abbrev pub LiteralAt : List Entry → ℕ → List ℕ → ℕ → List ℕ → List ℕ → Type 0
LiteralAt entries prefix_bits octets count name value = (count ≤ length octets)
    × EncodesLiteral entries prefix_bits (take count octets) name value

-- An index, a name and a value are a literal.
pub literal_found : (entries : List Entry) (prefix_bits index : ℕ) (octets name value : List ℕ)
    (a b c : ℕ) → a ≤ length octets → Int prefix_bits index (take a octets)
    → b ≤ length (octets_after octets a)
    → LiteralName entries index name (take b (octets_after octets a))
    → c ≤ length (octets_after (octets_after octets a) b)
    → Str value (take c (octets_after (octets_after octets a) b))
    → LiteralAt entries prefix_bits octets (a + b + c) name value
literal_found entries prefix_bits index octets name value a b c first int second named third text =
    let one : length (octets_after octets a) ≡ length octets - a =
    ap (λ (xs : List ℕ). length xs) (take_rest octets a) ∙ length-drop a octets in
    let two : length (octets_after (octets_after octets a) b) ≡ length (octets_after octets a) - b =
    ap (λ (xs : List ℕ). length xs) (take_rest (octets_after octets a) b)
    ∙ length-drop b (octets_after octets a)
    in (
      omega (arith, one, two),
      record {
        index = index;
        head = take a octets;
        name_octets = take b (octets_after octets a);
        value_octets = take c (octets_after (octets_after octets a) b);
        joined = take_parts octets a b c;
        head_encoded = int;
        name_encoded = named;
        value_encoded = text;
      },
    )

module _ (entries : List Entry) (index : ℕ) (octets : List ℕ) where
  -- No entry, no index.
  pub index_no_entry : (head following : List ℕ) → octets ≡ head ++ following → Int 7 index head
      → entry entries index ≡ None → NoPrefix (IsIndex entries) octets
  index_no_entry head following joined int no_entry = λ prefix others e (name, value, encoded).
      let (heads, indices) = Int-unique 7 encoded.index index prefix head others following
      encoded.encoded int (sym e ∙ joined) in
      let wrong : entry entries encoded.index ≡ None = ap (entry entries) indices ∙ no_entry in
      let named = encoded.named in
      cc

  -- No string, no name where the index is 0.
  pub name_no_str : index ≡ 0 → NoPrefix IsStr octets → NoPrefix (IsName entries index) octets
  name_no_str zero_index none = λ prefix others e (name, named). elim named [
    | inl a ↦ none prefix others e (name, a.1)
    | inr a ↦ zero_names_none entries index _ zero_index a.1.1
  ]
