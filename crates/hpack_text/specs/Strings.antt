-- String literals (RFC 7541, section 5.2).
use Rattle.std.specs.Prelude.{◌≡◌, ◌⊎◌, ℕ, ◌+◌, ◌*◌, ◌/◌, ◌<◌, nat_le, if◌then◌else◌, Bool, true}
use Rattle.std.specs.Prelude.{false, List, [], ◌∷◌, ◌++◌, length}
use Rattle.std.specs.List.{AllByRecursion}
use Rattle.hpack_text.specs.declared.fault.TextFault.{TextFault}
use Rattle.hpack_text.specs.declared.fault.TextFault.TheVariants as faults
use Rattle.hpack_text.specs.Bits.{IsOctet}
use Rattle.hpack_text.specs.Huffman.{Huff, HasEndSymbol, HasBadPadding, huffman_bits}
use Rattle.hpack_text.specs.Integers.{Int, IsTruncated, IsTooLong, integer}

-- The bit H, the top bit of the first octet, says that the string is Huffman-encoded.
-- rule: HPACK 5.2 A string is the bit H, its length and its octets
abbrev pub has_bit_h : List ℕ → Bool
has_bit_h [] = false
has_bit_h (first ∷ more) = nat_le 128 first

-- These octets are a string's text, Huffman-encoded or as it is.
-- rule: HPACK 5.2 A string is the bit H, its length and its octets
abbrev pub Holds : Bool → List ℕ → List ℕ → Type 0
Holds true text octets = Huff text octets
Holds false text octets = (text ≡ octets) × AllByRecursion IsOctet text

-- what a fault of reading a string's text says of the octets that hold it
abbrev pub BodyFault : Bool → List ℕ → TextFault → Type 0
BodyFault is_huffman body faults.BadPadding = (is_huffman ≡ true) × HasBadPadding body
BodyFault is_huffman body faults.EndSymbol = (is_huffman ≡ true) × HasEndSymbol body
BodyFault is_huffman body faults.Memory = Unit {0}
BodyFault is_huffman body faults.Truncated = ⊥
BodyFault is_huffman body faults.TooLong = ⊥

-- The octets encode the text: the bit H and the length of what follows, with a prefix of seven
-- bits, then so many octets of the text.
-- rule: HPACK 5.2 A string is the bit H, its length and its octets
pub record Str (text octets : List ℕ) : Type 0 where
  pub head : List ℕ
  pub body : List ℕ
  pub joined : octets ≡ head ++ body
  pub head_length : Int 7 (length body) head
  pub holds : Holds (has_bit_h head) text body

-- The head names more octets than there are.
-- rule: HPACK 5.2 Octets that end inside a string are a fault
pub record IsShort (octets : List ℕ) : Type 0 where
  pub head : List ℕ
  pub following : List ℕ
  pub named : ℕ
  pub joined : octets ≡ head ++ following
  pub head_length : Int 7 named head
  pub short : length following < named

-- The octets begin with a Huffman-encoded string that has this fault.
pub record HasHuffmanFault (Fault : List ℕ → Type 0) (octets : List ℕ) : Type 0 where
  pub head : List ℕ
  pub body : List ℕ
  pub more : List ℕ
  pub joined : octets ≡ head ++ (body ++ more)
  pub head_length : Int 7 (length body) head
  pub has_bit_h : has_bit_h head ≡ true
  pub fault : Fault body

-- The octets begin with a head and as many octets as it names.
-- rule: HPACK 5.2 Octets that end inside a string are a fault
pub record IsCompleteString (octets : List ℕ) : Type 0 where
  pub head : List ℕ
  pub body : List ℕ
  pub more : List ℕ
  pub joined : octets ≡ head ++ (body ++ more)
  pub head_length : Int 7 (length body) head

-- What a fault of reading a string says of the octets. Memory is allocated only for a complete
-- string. Where the octets end inside the string it is Truncated, whatever its text is.
-- rule: HPACK 5.2 Octets that end inside a string are a fault
abbrev pub StrFault : List ℕ → TextFault → Type 0
StrFault octets faults.Truncated = IsTruncated 7 octets ⊎ IsShort octets
StrFault octets faults.TooLong = IsTooLong 7 octets
StrFault octets faults.BadPadding = HasHuffmanFault HasBadPadding octets
StrFault octets faults.EndSymbol = HasHuffmanFault HasEndSymbol octets
StrFault octets faults.Memory = IsCompleteString octets

-- The most octets that a text has whose string holds so many: a code has five bits at least.
-- rule: HPACK 5.2 (own) A text is appended to what stands there, or nothing is
abbrev pub most_text : Bool → ℕ → ℕ
most_text true count = 8 * count / 5
most_text false count = count

-- The octets begin with a complete string, and a vector of this length and capacity lacks room for
-- the longest text that so many octets can hold.
-- rule: HPACK 5.2 (own) A text is appended to what stands there, or nothing is
pub record LacksRoom (octets : List ℕ) (len capacity : ℕ) : Type 0 where
  pub head : List ℕ
  pub body : List ℕ
  pub more : List ℕ
  pub joined : octets ≡ head ++ (body ++ more)
  pub head_length : Int 7 (length body) head
  pub lacks : capacity < len + most_text (has_bit_h head) (length body)

-- The encoding that is written: Huffman-encoded where that isn't longer than raw.
-- rule: HPACK 5.2 (own) A string is Huffman-encoded where that is not longer
unfoldable pub string : List ℕ → List ℕ
string text =
    if nat_le (length (huffman_bits text)) (length text)
    then integer 7 128 (length (huffman_bits text)) ++ huffman_bits text
    else integer 7 0 (length text) ++ text
