-- How many octets a block has at most.
use Rattle.hpack.proofs.Names
use Names.{◌≡◌, ℕ, zero, suc, ◌+◌, ◌-◌, ◌*◌, ◌%◌, ◌/◌, ◌≤◌, ◌==◌, nat_lt, if◌then◌else◌, Bool, true}
use Names.{false, List, [], ◌∷◌, ◌++◌, length, refl, arith, length-append, flat_map, sum_by}
use Names.{leb-true, sum_by-cons, all_ones, continuation_of, integer, string, Field, Literal}
use Names.{WithIndexing, WithoutIndexing, NeverIndexed, Entries, EncoderState, list_size, Choice}
use Names.{indexed, literal, choice, literal_head, encoding_of_field, encoding_of_fields}
use Names.{after_choice, size_updates, after_updates, block_of, most_octets}
use Rattle.std.proofs.Common.{nat_le}
use Rattle.hpack_text.specs.Huffman.{huffman_bits}

-- Both of two lists are short enough.
if_short : (b : Bool) (xs ys : List ℕ) (most : ℕ) → length xs ≤ most → length ys ≤ most
    → length (if b then xs else ys) ≤ most
if_short true xs ys most one other = one
if_short false xs ys most one other = other

-- the continuation octets of a number
pub continuation_short : (more value : ℕ) → length (continuation_of more value) ≤ suc more
unfolding continuation_of
continuation_short zero value = omega arith
continuation_short (suc more) value =
    let others = continuation_short more (value / 128) in
    if_short (nat_lt value 128) (value ∷ [])
    ((value % 128 + 128) ∷ continuation_of more (value / 128)) (suc (suc more)) (omega arith)
    (omega (arith, others))

-- An integer has at most six octets.
pub integer_short : (prefix_bits first_bits value : ℕ)
    → length (integer prefix_bits first_bits value) ≤ 6
unfolding integer
integer_short prefix_bits first_bits value =
    let others = continuation_short 4 (value - all_ones prefix_bits) in
    if_short (nat_lt value (all_ones prefix_bits)) ((first_bits + value) ∷ [])
    ((first_bits + all_ones prefix_bits) ∷ continuation_of 4 (value - all_ones prefix_bits)) 6
    (omega arith) (omega (arith, others))

-- the octets of a string, by the test of its code
string_short_by : (b : Bool) (text : List ℕ)
    → nat_le (length (huffman_bits text)) (length text) ≡ b
    → length (if b then integer 7 128 (length (huffman_bits text)) ++ huffman_bits text
    else integer 7 0 (length text) ++ text) ≤ length text + 6
string_short_by true text is =
    omega (
      arith,
      leb-true (length (huffman_bits text)) (length text) is,
      length-append (integer 7 128 (length (huffman_bits text))) (huffman_bits text),
      integer_short 7 128 (length (huffman_bits text)),
    )
string_short_by false text is =
    omega (
      arith,
      length-append (integer 7 0 (length text)) text,
      integer_short 7 0 (length text),
    )

-- A string has at most six octets more than its text.
string_short : (text : List ℕ) → length (string text) ≤ length text + 6
unfolding string
string_short text = string_short_by (nat_le (length (huffman_bits text)) (length text)) text refl

-- the head of a literal
pub head_short : (kind : Literal) (index : ℕ) → length (literal_head kind index) ≤ 6
head_short WithIndexing index = integer_short 6 0x40 index
head_short WithoutIndexing index = integer_short 4 0x00 index
head_short NeverIndexed index = integer_short 4 0x10 index

-- the share of a field
abbrev share_of : Field → ℕ
share_of field = length field.name + length field.value + 18

-- the octets of a field, as it is written
field_short : (chosen : Choice) (field : Field)
    → length (encoding_of_field chosen field) ≤ share_of field
field_short (indexed index) field = omega (arith, integer_short 7 0x80 index)
field_short (literal kind index) field =
    let name : List ℕ = if index == 0 then string field.name else [] in
    let short : length name ≤ length field.name + 6 =
    if_short (index == 0) (string field.name) [] (length field.name + 6) (string_short field.name)
    (omega arith) in
    omega (
      arith,
      head_short kind index,
      short,
      string_short field.value,
      length-append (literal_head kind index) (name ++ string field.value),
      length-append name (string field.value),
    )

-- the octets of fields
fields_short : (table : Entries) (fields : List Field)
    → length (encoding_of_fields table fields) ≤ sum_by share_of fields
unfolding encoding_of_fields
fields_short table [] = omega arith
fields_short table (field ∷ fields) =
    let chosen = choice table field in
    let after = after_choice table chosen field in
    omega (
      arith,
      field_short chosen field,
      fields_short after fields,
      sum_by-cons share_of field fields,
      length-append (encoding_of_field chosen field) (encoding_of_fields after fields),
    )

-- the octets of updates
updates_short : (maxima : List ℕ) → length (flat_map (integer 5 0x20) maxima) ≤ 6 * length maxima
updates_short [] = omega arith
updates_short (maximum ∷ maxima) =
    omega (
      arith,
      integer_short 5 0x20 maximum,
      updates_short maxima,
      length-append (integer 5 0x20 maximum) (flat_map (integer 5 0x20) maxima),
    )

-- There are two updates at most.
two_updates : (state : EncoderState) → length (size_updates state) ≤ 2
unfolding size_updates
two_updates state =
    let last : List ℕ = if state.limit == state.least then [] else state.limit ∷ [] in
    let rose : List ℕ = if nat_lt state.table.maximum state.limit then state.limit ∷ [] else [] in
    let one : length last ≤ 1 =
    if_short (state.limit == state.least) [] (state.limit ∷ []) 1 (omega arith) (omega arith) in
    let other : length rose ≤ 2 =
    if_short (nat_lt state.table.maximum state.limit) (state.limit ∷ []) [] 2 (omega arith)
    (omega arith) in
    if_short (nat_lt state.least state.table.maximum) (state.least ∷ last) rose 2
    (omega (arith, one)) other

-- the octets of a block
pub block_short : (state : EncoderState) (fields : List Field)
    → length (block_of state fields) ≤ most_octets fields
unfolding block_of
block_short state fields =
    let maxima = size_updates state in
    let table = after_updates state.table maxima in
    omega (
      arith,
      updates_short maxima,
      two_updates state,
      fields_short table fields,
      length-append (flat_map (integer 5 0x20) maxima) (encoding_of_fields table fields),
    )

-- The most octets of a block, by the size of the list.
pub most_octets-list_size : (fields : List Field)
    → most_octets fields + 14 * length fields ≡ list_size fields + 12
most_octets-list_size [] = omega arith
most_octets-list_size (field ∷ fields) =
    omega (
      arith,
      most_octets-list_size fields,
      sum_by-cons share_of field fields,
      sum_by-cons (λ (one : Field). length one.name + length one.value + 32) field fields,
    )
