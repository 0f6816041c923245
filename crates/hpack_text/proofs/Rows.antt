-- The definitions, computed: the code is canonical, and examples of RFC 7541 and own ones come out
-- as they should.
use Rattle.hpack_text.proofs.Names.{◌≡◌, ℕ, ◌+◌, ◌-◌, ◌*◌, ◌^◌, ◌&&◌, nat_lt, Bool, true, List, []}
use Rattle.hpack_text.proofs.Names.{◌∷◌, length, refl, bits_of, number_of_bits, octets_of_bits}
use Rattle.hpack_text.proofs.Names.{groups, code_in, code, huffman_bits, continuation_of, integer}
use Rattle.std.proofs.Common.{◌==◌}
use Rattle.hpack_text.specs.Huffman.{Group}
use Rattle.hpack_text.specs.Strings.{string}

-- opens all that computes
unfoldable pub computing : Unit {0}
unfolding bits_of number_of_bits octets_of_bits groups code_in code huffman_bits continuation_of
    integer
    string
computing = tt

-- 10 in 5 bits
row_10 : integer 5 0 10 ≡ 0x0a ∷ []
unfolding computing
row_10 = refl

-- 1337 in 5 bits
row_1337 : integer 5 0 1337 ≡ 0x1f ∷ 0x9a ∷ 0x0a ∷ []
unfolding computing
row_1337 = refl

row_42 : integer 8 0 42 ≡ 0x2a ∷ []
unfolding computing
row_42 = refl

row_31 : integer 5 0 31 ≡ 0x1f ∷ 0 ∷ []
unfolding computing
row_31 = refl

-- `www.example.com`
example : huffman_bits
    (119 ∷ 119 ∷ 119 ∷ 46 ∷ 101 ∷ 120 ∷ 97 ∷ 109 ∷ 112 ∷ 108 ∷ 101 ∷ 46 ∷ 99 ∷ 111 ∷ 109 ∷ [])
    ≡ 0xf1 ∷ 0xe3 ∷ 0xc2 ∷ 0xe5 ∷ 0xf2 ∷ 0x3a ∷ 0x6b ∷ 0xa0 ∷ 0xab ∷ 0x90 ∷ 0xf4 ∷ 0xff ∷ []
unfolding computing
example = refl

letter_a : huffman_bits (97 ∷ []) ≡ 0x1f ∷ []
unfolding computing
letter_a = refl

octet_zero : huffman_bits (0 ∷ []) ≡ 0xff ∷ 0xc7 ∷ []
unfolding computing
octet_zero = refl

line_feed : huffman_bits (10 ∷ []) ≡ 0xff ∷ 0xff ∷ 0xff ∷ 0xf3 ∷ []
unfolding computing
line_feed = refl

empty_string : string [] ≡ 0x80 ∷ []
unfolding computing
empty_string = refl

-- raw is shorter
string_zero : string (0 ∷ []) ≡ 0x01 ∷ 0x00 ∷ []
unfolding computing
string_zero = refl

-- `302`
string_302 : string (51 ∷ 48 ∷ 50 ∷ []) ≡ 0x82 ∷ 0x64 ∷ 0x02 ∷ []
unfolding computing
string_302 = refl

-- `307`, as long as raw
string_307 : string (51 ∷ 48 ∷ 55 ∷ []) ≡ 0x83 ∷ 0x64 ∷ 0x0e ∷ 0xff ∷ []
unfolding computing
string_307 = refl

-- Each symbol is above the one before it.
unfoldable rise : List ℕ → Bool
rise (symbol ∷ next ∷ more) = nat_lt symbol next && rise (next ∷ more)
rise _ = true

-- Each length's first code follows the last one of the length before, shifted to its own length;
-- after the longest no code is left.
unfoldable is_canonical : ℕ → ℕ → List Group → Bool
is_canonical code_length next [] = next == 2 ^ code_length
is_canonical code_length next (group ∷ others) =
    (group.first == next * 2 ^ (group.code_length - code_length)) && rise group.symbols
    && is_canonical group.code_length (group.first + length group.symbols) others

-- The code is canonical, and complete.
canonical : is_canonical 0 0 groups ≡ true
unfolding computing rise is_canonical
canonical = refl
