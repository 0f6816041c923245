-- One range of a file, by the field `range` of a request (RFC 9110, sections 14.1.2 and 14.2).
use Rattle.std.specs.Prelude.{◌==◌, ◌<◌, ◌≤◌, ◌-◌, ◌^◌, ◌&&◌, ℕ, min}
use Rattle.std.specs.Prelude.{nat_lt, if◌then◌else◌, List, [], ◌∷◌, ◌++◌, length, take, drop, map}
use Rattle.std.specs.Prelude.{codes, decimal, Option, Some, None, option_map, option_and_then}
use Rattle.std.specs.Char.{is_ascii_digit, to_ascii_lowercase}
use Rattle.std.specs.List.{list_all, position_or_len, before_first, after_first}
use Rattle.std.specs.Str.{byte, bytes_eq}
use Rattle.std.specs.Str.Parse.{digits_value}
use Rattle.h2_files.specs.Cuts.{is_octet}
use Rattle.h2_files.specs.declared.range.RangeSpec.{RangeSpec}
use Rattle.h2_files.specs.declared.range.RangeSpec.TheVariants as specs
use Rattle.h2_files.specs.declared.range.Ranged.{Ranged}
use Rattle.h2_files.specs.declared.range.Ranged.TheVariants as ranges

-- the number of one or more digits, if it is below 2^64 (14.1.2: first-pos, last-pos,
-- suffix-length)
unfoldable pub number_of_digits : (digits : List ℕ) → Option ℕ
number_of_digits digits =
    if list_all is_ascii_digit digits && nat_lt 0 (length digits)
    && nat_lt (digits_value 10 digits) (2 ^ 64)
    then Some (digits_value 10 digits)
    else None

-- a range with these texts before and after its dash: a suffix-range, or an int-range (14.1.2)
unfoldable pub spec_of_texts : (first last : List ℕ) → Option RangeSpec
spec_of_texts [] last = option_map specs.Suffix (number_of_digits last)
spec_of_texts (digit ∷ digits) [] = option_map specs.From (number_of_digits (digit ∷ digits))
spec_of_texts (digit ∷ digits) (other ∷ others) =
    option_and_then (λ first. option_map (specs.Between first) (number_of_digits (other ∷ others)))
    (number_of_digits (digit ∷ digits))

-- the range that a text without its unit is; a list of several ranges is none
unfoldable pub spec_of : (text : List ℕ) → Option RangeSpec
spec_of text =
    if nat_lt (position_or_len (is_octet (byte "-")) text) (length text)
    then spec_of_texts (before_first (is_octet (byte "-")) text)
    (after_first (is_octet (byte "-")) text)
    else None

-- the text after the unit `bytes` and its sign, whose case doesn't matter (14.1)
unfoldable pub after_unit : (value : List ℕ) → Option (List ℕ)
after_unit value =
    if bytes_eq (map to_ascii_lowercase (take 6 value)) (codes "bytes=")
    then Some (drop 6 value)
    else None

-- Which octets a range means of so many (14.1.2, 15.5.17): a first octet after the last is no
-- range, one beyond the end can't be satisfied, and a last octet beyond the end is the end; a
-- suffix of no octets can't be satisfied, and one that is too long is all. Of an empty file a
-- suffix is ignored, since no `content-range` says so (own).
-- rule: HTTP 14.2 One range gives octets of the file, is ignored, or has 416
unfoldable pub octets_of_range : RangeSpec → (length : ℕ) → Ranged
octets_of_range (specs.From first) length =
    if nat_lt first length then ranges.Part first (length - 1) else ranges.Unsatisfiable
octets_of_range (specs.Between first last) length =
    if nat_lt last first then ranges.Ignored
    else if nat_lt first length then ranges.Part first (min last (length - 1))
    else ranges.Unsatisfiable
octets_of_range (specs.Suffix count) length =
    if count == 0 then ranges.Unsatisfiable
    else if length == 0 then ranges.Ignored
    else ranges.Part (length - count) (length - 1)

-- a range of so many octets, if there is one
abbrev pub octets_or_ignored : Option RangeSpec → (length : ℕ) → Ranged
octets_or_ignored None length = ranges.Ignored
octets_or_ignored (Some spec) length = octets_of_range spec length

-- what a field `range` asks for of so many octets
-- rule: HTTP 14.2 One range gives octets of the file, is ignored, or has 416
abbrev pub range_of : (value : List ℕ) → (length : ℕ) → Ranged
range_of value length = octets_or_ignored (option_and_then spec_of (after_unit value)) length

-- the octets of a part lie in the file
abbrev pub LiesWithin : (length : ℕ) → Ranged → Type 0
LiesWithin length (ranges.Part first last) = (first ≤ last) × (last < length)
LiesWithin length ranges.Ignored = Unit {0}
LiesWithin length ranges.Unsatisfiable = Unit {0}

-- the field `content-range` of a part (14.4)
abbrev pub content_range : (first last length : ℕ) → List ℕ
content_range first last length =
    codes "bytes " ++ decimal first ++ codes "-" ++ decimal last ++ codes "/" ++ decimal length

-- the field `content-range` of an answer 416 (14.4, 15.5.17)
abbrev pub unsatisfied_range : (length : ℕ) → List ℕ
unsatisfied_range length = codes "bytes */" ++ decimal length
