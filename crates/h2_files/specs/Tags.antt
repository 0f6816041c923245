-- Entity tags of a file (RFC 9110, section 8.8.3).
use Rattle.std.specs.Prelude.{◌==◌, ◌&&◌, ◌||◌, ◌-◌, ℕ, Bool, not, if◌then◌else◌, List, [], ◌∷◌}
use Rattle.std.specs.Prelude.{◌++◌}
use Rattle.std.specs.Prelude.{length, take, drop, codes, decimal, string_bytes}
use Rattle.std.specs.Char.{is_ascii_whitespace}
use Rattle.std.specs.List.{list_any, prefix_len, slice_split, suffix_len}
use Rattle.std.specs.Str.{byte, bytes_eq}
use Rattle.h2_files.specs.Cuts.{is_octet}
use Rattle.h2_files.specs.declared.version.Version.{Version}

-- the opaque part that is written for a file: its modification time and its length, quoted
abbrev pub opaque_tag : (length modified : ℕ) → List ℕ
opaque_tag length modified =
    codes "\"" ++ decimal modified ++ codes "-" ++ decimal length ++ codes "\""

-- What the validators of a version of a file are made of: the opaque part of its entity tag, its
-- length, the second after 1970 in which it was modified, and whether they are weak.
pub record Validators : Type 0 where
  pub opaque : List ℕ
  pub length : ℕ
  pub modified : ℕ
  pub weak : Bool

-- those of a version
abbrev pub validators_of : Version → Validators
validators_of version = record {
  opaque = string_bytes version.opaque;
  length = version.length;
  modified = version.modified;
  weak = version.weak;
}

-- those of a file of so many octets, modified in this second
abbrev pub validators : (length modified : ℕ) (weak : Bool) → Validators
validators length modified weak = record {
  opaque = opaque_tag length modified;
  length = length;
  modified = modified;
  weak = weak;
}

-- the entity tag of a version
abbrev pub entity_tag : Validators → List ℕ
entity_tag version = (if version.weak then codes "W/" else []) ++ version.opaque

-- the opaque part of an entity tag, without the mark of a weak one
unfoldable pub opaque_part : (tag : List ℕ) → List ℕ
opaque_part [] = []
opaque_part (first ∷ []) = first ∷ []
opaque_part (first ∷ second ∷ rest) =
    if first == byte "W" && second == byte "/" then rest else first ∷ second ∷ rest

-- octets without the blanks at their ends, as of an element of a list (5.6.1)
abbrev pub trimmed : List ℕ → List ℕ
trimmed octets =
    let from = drop (prefix_len is_ascii_whitespace octets) octets in
    take (length from - suffix_len is_ascii_whitespace from) from

-- Both tags are strong, and the same (8.8.3.2).
-- rule: HTTP 8.8.3 A tag means a version by the strong or the weak comparison
abbrev pub is_strongly : Validators → (tag : List ℕ) → Bool
is_strongly version tag = not version.weak && bytes_eq tag version.opaque

-- The opaque parts are the same, whether the tags are weak or not (8.8.3.2).
-- rule: HTTP 8.8.3 A tag means a version by the strong or the weak comparison
abbrev pub is_weakly : Validators → (tag : List ℕ) → Bool
is_weakly version tag = bytes_eq (opaque_part tag) version.opaque

-- `*` alone, which means any version (13.1.1, 13.1.2)
abbrev pub is_any : (value : List ℕ) → Bool
is_any value = bytes_eq (trimmed value) (codes "*")

-- an element of a list is a tag that means a version
abbrev pub is_in_list : (List ℕ → Bool) → (value : List ℕ) → Bool
is_in_list is_meant value =
    list_any (λ element. is_meant (trimmed element)) (slice_split (is_octet (byte ",")) value)

-- a version is meant by `*` alone, or by a list of tags, as each comparison has it (13.1.1, 13.1.2)
-- rule: HTTP 8.8.3 A tag means a version by the strong or the weak comparison
abbrev pub is_listed : (List ℕ → Bool) → (value : List ℕ) → Bool
is_listed is_meant value = is_any value || is_in_list is_meant value
