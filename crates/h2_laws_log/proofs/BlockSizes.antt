-- How many octets a block takes: no more than the size of its list, and those of two updates.
use Rattle.std.proofs.Common.{◌≡◌, ℕ, ◌+◌, ◌≤◌, nat_le, if◌then◌else◌, Bool, true, false, List, []}
use Rattle.std.proofs.Common.{◌∷◌, ◌++◌, length, refl, arith, length-append, flat_map}
use Rattle.std.proofs.lemmas.List.Sums.{sum_by-cons}
use Rattle.hpack_text.specs.Integers.{integer}
use Rattle.hpack_text.specs.Strings.{string}
use Rattle.hpack_text.specs.Huffman.{huffman_bits}
use Rattle.hpack.specs.declared.types.field.Field.{Field}
use Rattle.hpack.specs.Tables.{Entries}
use Rattle.hpack.specs.Choice.{Choice, indexed, literal, choice, encoding_of_field, after_choice}
use Rattle.hpack.specs.Choice.{encoding_of_fields, size_updates}
use Rattle.h2_block.specs.Grouping.{max_block_octets}
use Rattle.hpack.proofs.RoomLemmas.{head_short as head_fits, integer_short as integer_is_short}
use Rattle.h2_laws_log.proofs.Names.{leb-true, EncoderState, list_size, block_of, max_list, rules}

-- The octets of a string, by the test whether it is Huffman coded.
string_by : (text : List ℕ) (b : Bool) → nat_le (length (huffman_bits text)) (length text) ≡ b
    → length (if b then integer 7 128 (length (huffman_bits text)) ++ huffman_bits text
    else integer 7 0 (length text) ++ text) ≤ 6 + length text
string_by text true is = omega (arith, integer_is_short, length-append {A = ℕ}, leb-true)
string_by text false is = omega (arith, integer_is_short, length-append {A = ℕ})

-- A string takes at most six octets more than its text: it is Huffman coded only where that isn't
-- longer.
string_fits : (text : List ℕ) → length (string text) ≤ 6 + length text
unfolding string
string_fits text = string_by text (nat_le (length (huffman_bits text)) (length text)) refl

-- A literal's name, or nothing in its place, takes at most six octets more than the name.
name_fits : (name : List ℕ) (b : Bool) → length (if b then string name else []) ≤ 6 + length name
name_fits name true = string_fits name
name_fits name false = omega arith

-- A field takes no more octets than its size, however it is written.
field_fits : (chosen : Choice) (field : Field)
    → length (encoding_of_field chosen field) ≤ length field.name + length field.value + 32
field_fits (indexed index) field = omega (arith, integer_is_short 7 0x80 index)
field_fits (literal kind index) field =
    omega (arith, head_fits, name_fits, string_fits, length-append {A = ℕ})

-- Fields take no more octets than the size of their list.
fields_fit : (table : Entries) (fields : List Field)
    → length (encoding_of_fields table fields) ≤ list_size fields
unfolding encoding_of_fields
fields_fit table [] = omega arith
fields_fit table (field ∷ fields) =
    let more = fields_fit (after_choice table (choice table field) field) fields in
    omega (arith, field_fits, length-append {A = ℕ}, sum_by-cons)

-- The octets of a block's updates, by the tests that choose them: there are at most two.
updates_by : (least limit : ℕ) (fell alike rose : Bool)
    → length (flat_map (integer 5 0x20) (if fell then least ∷ (if alike then []
    else limit ∷ []) else if rose then limit ∷ [] else [])) ≤ 12
updates_by least limit true true rose = omega (arith, integer_is_short, length-append {A = ℕ})
updates_by least limit true false rose = omega (arith, integer_is_short, length-append {A = ℕ})
updates_by least limit false alike true = omega
    (arith, integer_is_short 5 0x20 limit, length-append (integer 5 0x20 limit) [])
updates_by least limit false alike false = omega arith

-- A block's updates take at most twelve octets.
updates_fit : (state : EncoderState) → length (flat_map (integer 5 0x20) (size_updates state)) ≤ 12
unfolding size_updates
updates_fit state = search (rules, updates_by)

-- A list that may be sent is a block that may be gathered.
pub block_is_gathered : (encoder : EncoderState) (fields : List Field)
    → list_size fields ≤ max_list → length (block_of encoder fields) ≤ max_block_octets
unfolding block_of
block_is_gathered encoder fields few = omega (arith, updates_fit, fields_fit, length-append {A = ℕ})
