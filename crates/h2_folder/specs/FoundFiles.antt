-- Files that were found.
use Rattle.std.specs.Prelude.{◌≡◌, ◌≢◌, ◌≤◌, ⊤, ℕ, true, List, Option, length}
use Rattle.std.specs.Io.KnownBytes.{Consumes}
use Rattle.hpack.specs.declared.types.field.Field.{Field}
use Rattle.h2_message.specs.Values.{message_value}
use Rattle.h2_folder.specs.Answering.{most_at_once}
use Rattle.h2_folder.specs.Heads.{short_message}
use Rattle.h2_folder.specs.Recents.{IsKeptFile, KeptFile}
use Rattle.h2_folder.specs.declared.answer.Answered.{Answered}
use Rattle.h2_folder.specs.declared.answer.Answered.TheVariants.{Whole, Parts}
use Rattle.h2_folder.specs.declared.find.Found.{Found}
use Rattle.h2_folder.specs.declared.find.Found.TheVariants.{Small, Open}

-- how many octets it has
abbrev pub found_length : {F : Type 0} → Found F → ℕ
found_length (Small octets modified) = length octets.items
found_length (Open file length modified) = length

-- the second after 1970 in which it was modified
abbrev pub found_modified : {F : Type 0} → Found F → ℕ
found_modified (Small octets modified) = modified
found_modified (Open file length modified) = modified

-- Where it was read, it is small.
abbrev pub IsSmallIfRead : {F : Type 0} → Found F → Type 0
IsSmallIfRead (Small octets modified) = length octets.items ≤ most_at_once
IsSmallIfRead (Open file length modified) = ⊤

-- So many octets, which are the next of a file, were read.
abbrev pub ReadsOctets : (known_before known_after : Option (List ℕ)) → (count : ℕ) → List ℕ
    → Type 0
ReadsOctets known_before known_after count octets =
    (length octets ≡ count) × Consumes known_before known_after octets

-- The file is a copy of one that was read, with these names, in this second.
-- rule: files (own) What a small file had in a second is answered in that second alone
abbrev pub IsCopyOf : {F : Type 0} → Found F → (names : List (List ℕ)) → (second : ℕ) → KeptFile
    → Type 0
IsCopyOf (Small octets modified) names second file =
    (file.names ≡ names) × (file.second ≡ second) × (file.modified ≡ modified)
    × (file.octets ≡ octets.items)
IsCopyOf found names second file = ⊥

-- These are the octets of a file that is kept, with these names, of this second, and when it was
-- modified.
-- rule: files (own) What a small file had in a second is answered in that second alone
abbrev pub GivesKept : (places : List (Option KeptFile)) → (names : List (List ℕ)) → (second : ℕ)
    → (octets : List ℕ) → (modified : ℕ) → Type 0
GivesKept places names second octets modified =
    (file : KeptFile) × IsKeptFile places names second file × (octets ≡ file.octets)
    × (modified ≡ file.modified)

-- The answer has this head, and so many octets of a file in parts, from the one with this number
-- on; or 500 where the file can't be read from there.
-- rule: files (own) A file's octets are sent from the one that the answer's head states
abbrev pub SendsParts : {F : Type 0} → (head : List Field) → (first octets : ℕ)
    → (date : Option (List ℕ)) → Answered F → Type 0
SendsParts head first octets date (Parts fields sending) =
    (fields.items ≡ head) × (sending.first ≡ first) × (sending.left ≡ octets)
SendsParts head first octets date (Whole message) =
    (first ≢ 0) × (message_value message ≡ short_message 500 date true)
