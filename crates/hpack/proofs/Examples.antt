-- The encoder's definitions, computed on the examples of RFC 7541, appendix C, and on examples of
-- limits and large fields.
use Rattle.hpack.proofs.Names.{continuation_of, integer, string, Field, fit, table_size}
use Rattle.hpack.proofs.Names.{static_entries, entry, EncoderState, empty_table, updates_for_limits}
use Rattle.hpack.proofs.Names.{least_index, choice, encoding_of_fields, after_fields, size_updates}
use Rattle.hpack.proofs.Names.{block_of, after_block}
use Rattle.std.specs.Prelude.{◌≡◌, ℕ, List, [], ◌∷◌, true, false, refl, codes}
use Rattle.hpack.specs.KeptOctets.{octets_kept}
use Rattle.hpack.specs.declared.types.octets.Kept.TheVariants as kept
use Rattle.hpack_text.specs.Bits.{bits_of, number_of_bits, octets_of_bits}
use Rattle.hpack_text.specs.Huffman.{groups, code_in, code, huffman_bits}

-- opens all that computes
unfoldable pub computing : Unit {0}
unfolding bits_of number_of_bits octets_of_bits groups code_in code huffman_bits continuation_of
    integer
    string fit static_entries entry least_index choice encoding_of_fields after_fields size_updates
    block_of after_block
computing = tt

-- an encoder made with a maximum
made : ℕ → EncoderState
made maximum = record { table = empty_table maximum; least = maximum; limit = maximum }

-- an encoder with other limits since its last block
limited : ℕ → ℕ → ℕ → EncoderState
limited maximum least limit = record { table = empty_table maximum; least = least; limit = limit }

-- C.4.1: a first request
first_request : List Field
first_request = record { name = codes ":method"; value = codes "GET"; sensitive = false }
    ∷ record { name = codes ":scheme"; value = codes "http"; sensitive = false }
    ∷ record { name = codes ":path"; value = codes "/"; sensitive = false }
    ∷ record { name = codes ":authority"; value = codes "www.example.com"; sensitive = false } ∷ []

-- C.4.2: a second one
second_request : List Field
second_request = record { name = codes ":method"; value = codes "GET"; sensitive = false }
    ∷ record { name = codes ":scheme"; value = codes "http"; sensitive = false }
    ∷ record { name = codes ":path"; value = codes "/"; sensitive = false }
    ∷ record { name = codes ":authority"; value = codes "www.example.com"; sensitive = false }
    ∷ record { name = codes "cache-control"; value = codes "no-cache"; sensitive = false } ∷ []

-- C.4.3: a third one
third_request : List Field
third_request = record { name = codes ":method"; value = codes "GET"; sensitive = false }
    ∷ record { name = codes ":scheme"; value = codes "https"; sensitive = false }
    ∷ record { name = codes ":path"; value = codes "/index.html"; sensitive = false }
    ∷ record { name = codes ":authority"; value = codes "www.example.com"; sensitive = false }
    ∷ record { name = codes "custom-key"; value = codes "custom-value"; sensitive = false } ∷ []

-- its block
first_block : block_of (made 4096) first_request
    ≡ 0x82 ∷ 0x86 ∷ 0x84 ∷ 0x41 ∷ 0x8c ∷ 0xf1 ∷ 0xe3 ∷ 0xc2 ∷ 0xe5 ∷ 0xf2 ∷ 0x3a ∷ 0x6b ∷ 0xa0
    ∷ 0xab ∷ 0x90 ∷ 0xf4 ∷ 0xff ∷ []
unfolding computing made limited first_request second_request third_request
first_block = refl

-- its block, after the first
second_block : block_of (after_block (made 4096) first_request) second_request
    ≡ 0x82 ∷ 0x86 ∷ 0x84 ∷ 0xbe ∷ 0x58 ∷ 0x86 ∷ 0xa8 ∷ 0xeb ∷ 0x10 ∷ 0x64 ∷ 0x9c ∷ 0xbf ∷ []
unfolding computing made limited first_request second_request third_request
second_block = refl

-- its block, after both
third_block : block_of (after_block (after_block (made 4096) first_request) second_request)
    third_request ≡ 0x82 ∷ 0x87 ∷ 0x85 ∷ 0xbf ∷ 0x40 ∷ 0x88 ∷ 0x25 ∷ 0xa8 ∷ 0x49 ∷ 0xe9 ∷ 0x5b
    ∷ 0xa9 ∷ 0x7d ∷ 0x7f ∷ 0x89 ∷ 0x25 ∷ 0xa8 ∷ 0x49 ∷ 0xe9 ∷ 0x5b ∷ 0xb8 ∷ 0xe8 ∷ 0xb4 ∷ 0xbf ∷ []
unfolding computing made limited first_request second_request third_request
third_block = refl

-- the sizes of the table after each
sizes : (table_size (after_block (made 4096) first_request).table.entries ≡ 57)
    × (table_size (after_block (after_block (made 4096) first_request) second_request).table.entries
    ≡ 110)
    × (table_size (after_block (after_block (after_block (made 4096) first_request) second_request)
    third_request).table.entries ≡ 164)
unfolding computing made first_request second_request third_request
sizes = (refl, refl, refl)

-- the limit fell to 0 and rose again
fell_to_nothing : block_of (limited 4096 0 4096)
    (record { name = codes ":method"; value = codes "GET"; sensitive = false } ∷ [])
    ≡ 0x20 ∷ 0x3f ∷ 0xe1 ∷ 0x1f ∷ 0x82 ∷ []
unfolding computing made limited first_request second_request third_request
fell_to_nothing = refl

-- it fell to 100 and rose to 200
fell_and_rose : block_of (limited 4096 100 200) [] ≡ 0x3f ∷ 0x45 ∷ 0x3f ∷ 0xa9 ∷ 0x01 ∷ []
unfolding computing made limited first_request second_request third_request
fell_and_rose = refl

-- it rose
rose : block_of (limited 256 256 300) [] ≡ 0x3f ∷ 0x8d ∷ 0x02 ∷ []
unfolding computing made limited first_request second_request third_request
rose = refl

-- it rose, and fell, but not below the maximum
rose_and_fell : block_of (limited 100 100 200) [] ≡ 0x3f ∷ 0xa9 ∷ 0x01 ∷ []
unfolding computing made limited first_request second_request third_request
rose_and_fell = refl

-- a sensitive field
never_indexed : block_of (made 4096)
    (record { name = codes "authorization"; value = codes "x"; sensitive = true } ∷ [])
    ≡ 0x1f ∷ 0x08 ∷ 0x81 ∷ 0xf3 ∷ []
unfolding computing made limited first_request second_request third_request
never_indexed = refl

-- a field larger than the maximum
larger_than_the_maximum : block_of (made 50)
    (record { name = codes "c"; value = codes "dddddddddddddddddddd"; sensitive = false } ∷ [])
    ≡ 0x00 ∷ 0x81 ∷ 0x27 ∷ 0x8f ∷ 0x92 ∷ 0x49 ∷ 0x24 ∷ 0x92 ∷ 0x49 ∷ 0x24 ∷ 0x92 ∷ 0x49 ∷ 0x24
    ∷ 0x92 ∷ 0x49 ∷ 0x24 ∷ 0x92 ∷ 0x49 ∷ 0x24 ∷ []
unfolding computing made limited first_request second_request third_request
larger_than_the_maximum = refl

-- the limits as they were set, in order, for the examples above; and no limit at all
limits_in_order : (updates_for_limits 4096 (0 ∷ 4096 ∷ []) ≡ 0 ∷ 4096 ∷ [])
    × (updates_for_limits 4096 (100 ∷ 200 ∷ []) ≡ 100 ∷ 200 ∷ [])
    × (updates_for_limits 256 (300 ∷ []) ≡ 300 ∷ [])
    × (updates_for_limits 100 (300 ∷ 200 ∷ []) ≡ 200 ∷ [])
    × (updates_for_limits 4096 (200 ∷ 100 ∷ 300 ∷ 100 ∷ []) ≡ 100 ∷ [])
    × (updates_for_limits 4096 [] ≡ [])
unfolding updates_for_limits
limits_in_order = (refl, refl, refl, refl, refl, refl)

-- a copy of few octets, which lie in place
kept_in_place : octets_kept (kept.Short (codes "GET")) ≡ codes "GET"
kept_in_place = refl
