-- The Huffman code of RFC 7541, appendix B, and the texts that octets encode in it (section 5.2).
use Rattle.std.specs.Prelude.{◌≡◌, ℕ, ◌+◌, ◌-◌, ◌/◌, ◌%◌, ◌≤◌, ◌==◌, Bool, true, List, [], ◌∷◌}
use Rattle.std.specs.Prelude.{◌++◌, length, replicate, position}
use Rattle.std.specs.Option.{option_map_or}
use Rattle.std.specs.List.{flat_map, AllByRecursion}
use Rattle.hpack_text.specs.declared.fault.TextFault.{TextFault}
use Rattle.hpack_text.specs.declared.fault.TextFault.TheVariants as faults
use Rattle.hpack_text.specs.Bits.{IsOctet, bits_of, bits, octets_of_bits}

-- The symbols whose codes have one length. In the order given, their codes rise by one from the
-- first.
pub record Group : Type 0 where
  pub code_length : ℕ
  pub first : ℕ
  pub symbols : List ℕ

-- The code, by lengths. The symbols are the octets, and 256, which is EOS, the end of a text.
-- rule: HPACK 5.2 With H the octets are the codes of appendix B
unfoldable pub groups : List Group
groups =
    record {
      code_length = 5;
      first = 0x0;
      symbols =
          48 ∷ 49 ∷ 50 ∷ 97 ∷ 99 ∷ 101 ∷ 105 ∷ 111 ∷ 115 ∷ 116 ∷ [];
    } ∷
    record {
      code_length = 6;
      first = 0x14;
      symbols =
          32 ∷ 37 ∷ 45 ∷ 46 ∷ 47 ∷ 51 ∷ 52 ∷ 53 ∷ 54 ∷ 55 ∷ 56 ∷ 57 ∷ 61 ∷ 65 ∷ 95 ∷ 98 ∷ 100 ∷
          102 ∷ 103 ∷ 104 ∷ 108 ∷ 109 ∷ 110 ∷ 112 ∷ 114 ∷ 117 ∷ [];
    } ∷
    record {
      code_length = 7;
      first = 0x5c;
      symbols =
          58 ∷ 66 ∷ 67 ∷ 68 ∷ 69 ∷ 70 ∷ 71 ∷ 72 ∷ 73 ∷ 74 ∷ 75 ∷ 76 ∷ 77 ∷ 78 ∷ 79 ∷ 80 ∷ 81 ∷ 82 ∷
          83 ∷ 84 ∷ 85 ∷ 86 ∷ 87 ∷ 89 ∷ 106 ∷ 107 ∷ 113 ∷ 118 ∷ 119 ∷ 120 ∷ 121 ∷ 122 ∷ [];
    } ∷
    record { code_length = 8; first = 0xf8; symbols = 38 ∷ 42 ∷ 44 ∷ 59 ∷ 88 ∷ 90 ∷ [] } ∷
    record { code_length = 10; first = 0x3f8; symbols = 33 ∷ 34 ∷ 40 ∷ 41 ∷ 63 ∷ [] } ∷
    record { code_length = 11; first = 0x7fa; symbols = 39 ∷ 43 ∷ 124 ∷ [] } ∷
    record { code_length = 12; first = 0xffa; symbols = 35 ∷ 62 ∷ [] } ∷
    record { code_length = 13; first = 0x1ff8; symbols = 0 ∷ 36 ∷ 64 ∷ 91 ∷ 93 ∷ 126 ∷ [] } ∷
    record { code_length = 14; first = 0x3ffc; symbols = 94 ∷ 125 ∷ [] } ∷
    record { code_length = 15; first = 0x7ffc; symbols = 60 ∷ 96 ∷ 123 ∷ [] } ∷
    record { code_length = 19; first = 0x7fff0; symbols = 92 ∷ 195 ∷ 208 ∷ [] } ∷
    record {
      code_length = 20;
      first = 0xfffe6;
      symbols =
          128 ∷ 130 ∷ 131 ∷ 162 ∷ 184 ∷ 194 ∷ 224 ∷ 226 ∷ [];
    } ∷
    record {
      code_length = 21;
      first = 0x1fffdc;
      symbols =
          153 ∷ 161 ∷ 167 ∷ 172 ∷ 176 ∷ 177 ∷ 179 ∷ 209 ∷ 216 ∷ 217 ∷ 227 ∷ 229 ∷ 230 ∷ [];
    } ∷
    record {
      code_length = 22;
      first = 0x3fffd2;
      symbols =
          129 ∷ 132 ∷ 133 ∷ 134 ∷ 136 ∷ 146 ∷ 154 ∷ 156 ∷ 160 ∷ 163 ∷ 164 ∷ 169 ∷ 170 ∷ 173 ∷ 178 ∷
          181 ∷ 185 ∷ 186 ∷ 187 ∷ 189 ∷ 190 ∷ 196 ∷ 198 ∷ 228 ∷ 232 ∷ 233 ∷ [];
    } ∷
    record {
      code_length = 23;
      first = 0x7fffd8;
      symbols =
          1 ∷ 135 ∷ 137 ∷ 138 ∷ 139 ∷ 140 ∷ 141 ∷ 143 ∷ 147 ∷ 149 ∷ 150 ∷ 151 ∷ 152 ∷ 155 ∷ 157 ∷
          158 ∷ 165 ∷ 166 ∷ 168 ∷ 174 ∷ 175 ∷ 180 ∷ 182 ∷ 183 ∷ 188 ∷ 191 ∷ 197 ∷ 231 ∷ 239 ∷ [];
    } ∷
    record {
      code_length = 24;
      first = 0xffffea;
      symbols =
          9 ∷ 142 ∷ 144 ∷ 145 ∷ 148 ∷ 159 ∷ 171 ∷ 206 ∷ 215 ∷ 225 ∷ 236 ∷ 237 ∷ [];
    } ∷
    record { code_length = 25; first = 0x1ffffec; symbols = 199 ∷ 207 ∷ 234 ∷ 235 ∷ [] } ∷
    record {
      code_length = 26;
      first = 0x3ffffe0;
      symbols =
          192 ∷ 193 ∷ 200 ∷ 201 ∷ 202 ∷ 205 ∷ 210 ∷ 213 ∷ 218 ∷ 219 ∷ 238 ∷ 240 ∷ 242 ∷ 243 ∷ 255 ∷
          [];
    } ∷
    record {
      code_length = 27;
      first = 0x7ffffde;
      symbols =
          203 ∷ 204 ∷ 211 ∷ 212 ∷ 214 ∷ 221 ∷ 222 ∷ 223 ∷ 241 ∷ 244 ∷ 245 ∷ 246 ∷ 247 ∷ 248 ∷ 250 ∷
          251 ∷ 252 ∷ 253 ∷ 254 ∷ [];
    } ∷
    record {
      code_length = 28;
      first = 0xfffffe2;
      symbols =
          2 ∷ 3 ∷ 4 ∷ 5 ∷ 6 ∷ 7 ∷ 8 ∷ 11 ∷ 12 ∷ 14 ∷ 15 ∷ 16 ∷ 17 ∷ 18 ∷ 19 ∷ 20 ∷ 21 ∷ 23 ∷ 24 ∷
          25 ∷ 26 ∷ 27 ∷ 28 ∷ 29 ∷ 30 ∷ 31 ∷ 127 ∷ 220 ∷ 249 ∷ [];
    } ∷
    record { code_length = 30; first = 0x3ffffffc; symbols = 10 ∷ 13 ∷ 22 ∷ 256 ∷ [] } ∷
    []

-- the code of a symbol, in these groups
unfoldable pub code_in : List Group → ℕ → List Bool
code_in [] symbol = []
code_in (group ∷ others) symbol =
    option_map_or (λ place. bits_of group.code_length (group.first + place))
    (position (λ other. other == symbol) group.symbols)
    (code_in others symbol)

-- the code of a symbol
-- rule: HPACK 5.2 With H the octets are the codes of appendix B
unfoldable pub code : ℕ → List Bool
code symbol = code_in groups symbol

-- the end of a text, which no text holds
-- rule: HPACK 5.2 The code of EOS inside a string is a fault
abbrev pub end_symbol : ℕ
end_symbol = 256

-- the codes of a text's octets, joined
-- rule: HPACK 5.2 With H the octets are the codes of appendix B
abbrev pub codes : List ℕ → List Bool
codes text = flat_map code text

-- The octets encode the text: the codes of its octets, then at most seven ones, which pad the last
-- octet.
-- rule: HPACK 5.2 With H the octets are the codes of appendix B
pub record Huff (text octets : List ℕ) : Type 0 where
  pub text_octets : AllByRecursion IsOctet text
  pub octets_octets : AllByRecursion IsOctet octets
  pub padding : ℕ
  pub short : padding ≤ 7
  pub encoded : bits octets ≡ codes text ++ replicate padding true

-- Of the texts whose codes begin the bits this is the longest, with the bits that follow it.
pub record IsLongest (bit_list : List Bool) (text : List ℕ) (following : List Bool) : Type 0 where
  pub text_octets : AllByRecursion IsOctet text
  pub split : bit_list ≡ codes text ++ following
  pub longest : (other : List ℕ) (more : List Bool) → AllByRecursion IsOctet other
      → bit_list ≡ codes other ++ more → length other ≤ length text

-- These octets encode no text.
abbrev pub EncodesNone : List ℕ → Type 0
EncodesNone octets = (text : List ℕ) → Huff text octets → ⊥

-- After the longest text comes the code of EOS.
-- rule: HPACK 5.2 The code of EOS inside a string is a fault
pub record HasEndSymbol (octets : List ℕ) : Type 0 where
  pub none : EncodesNone octets
  pub text : List ℕ
  pub more : List Bool
  pub longest : IsLongest (bits octets) text (code end_symbol ++ more)

-- After the longest text comes something else than the code of EOS, and it isn't at most seven
-- ones.
-- rule: HPACK 5.2 Padding of more than seven bits is a fault
-- rule: HPACK 5.2 Padding of others than ones is a fault
pub record HasBadPadding (octets : List ℕ) : Type 0 where
  pub none : EncodesNone octets
  pub text : List ℕ
  pub following : List Bool
  pub longest : IsLongest (bits octets) text following
  pub no_end : (more : List Bool) → following ≡ code end_symbol ++ more → ⊥

-- what a fault of reading a Huffman-encoded string says of its octets
-- rule: HPACK 5.2 Padding of more than seven bits is a fault
-- rule: HPACK 5.2 Padding of others than ones is a fault
abbrev pub HuffFault : List ℕ → TextFault → Type 0
HuffFault octets faults.EndSymbol = HasEndSymbol octets
HuffFault octets faults.BadPadding = HasBadPadding octets
HuffFault octets faults.Memory = Unit {0}
HuffFault octets faults.Truncated = ⊥
HuffFault octets faults.TooLong = ⊥

-- how many ones pad the last octet after so many bits
-- rule: HPACK 5.2 A Huffman-encoded string is padded with ones
abbrev pub padding_of : ℕ → ℕ
padding_of count = (8 - count % 8) % 8

-- the octets that encode a text
-- rule: HPACK 5.2 A Huffman-encoded string is written with the codes
unfoldable pub huffman_bits : List ℕ → List ℕ
huffman_bits text = octets_of_bits (codes text ++ replicate (padding_of (length (codes text))) true)

-- how many octets encode a text
-- rule: HPACK 5.2 A Huffman-encoded string is written with the codes
abbrev pub huffman_length : List ℕ → ℕ
huffman_length text = (length (codes text) + 7) / 8
