-- The names that the path of a request gives a file below a root (RFC 9113, section 8.3.1; RFC
-- 3986, sections 2.1, 3.3 and 3.4).
use Rattle.std.specs.Prelude.{◌≡◌, ◌≢◌, ◌==◌, ◌&&◌, ◌||◌, ℕ, zero, suc, Bool, true, false}
use Rattle.std.specs.Prelude.{nat_lt, if◌then◌else◌, List, [], ◌∷◌, ◌++◌, length, codes}
use Rattle.std.specs.Prelude.{Result, Ok, Err, Option, Some, None, Contains, string_bytes, map}
use Rattle.std.specs.Prelude.{String}
use Rattle.std.specs.Char.{is_ascii_control, is_ascii_hexdigit}
use Rattle.std.specs.List.{list_any, before_first, slice_split}
use Rattle.std.specs.Str.{byte, is_utf8}
use Rattle.percent_encoding.specs.Percent.{percent_decode}
use Rattle.h2_files.specs.Cuts.{is_octet}
use Rattle.h2_files.specs.declared.fault.PathFault.{PathFault}
use Rattle.h2_files.specs.declared.fault.PathFault.TheVariants as faults

-- the most octets of a path, without its query
abbrev pub most_of_path : ℕ
most_of_path = 4096

-- the most octets of a name
abbrev pub most_of_name : ℕ
most_of_name = 255

-- what stands before the query (RFC 3986, section 3.4)
abbrev pub path_part : (target : List ℕ) → List ℕ
path_part target = before_first (is_octet (byte "?")) target

-- So many hexadecimal digits of an escape are due, and then each `%` has two digits after it (RFC
-- 3986, section 2.1).
abbrev pub are_escapes : (due : ℕ) → List ℕ → Bool
are_escapes zero [] = true
are_escapes (suc due) [] = false
are_escapes zero (octet ∷ rest) =
    if octet == byte "%" then are_escapes 2 rest else are_escapes 0 rest
are_escapes (suc due) (octet ∷ rest) = is_ascii_hexdigit octet && are_escapes due rest

-- a slash, which would divide a name, or a backslash, which does so on some systems
abbrev pub is_separator : ℕ → Bool
is_separator octet = octet == byte "/" || octet == byte "\\"

-- whether a name begins with a dot, as `.`, `..` and hidden files do
abbrev pub begins_with_dot : List ℕ → Bool
begins_with_dot [] = false
begins_with_dot (first ∷ rest) = first == byte "."

-- Why a name is not served, but for what is no text: the first reason. NUL, which ends a name for
-- the system, is a control character.
-- rule: files (own) A name that leaves its folder, or is hidden, is refused
unfoldable pub name_fault : List ℕ → Option PathFault
name_fault name =
    if length name == 0 then Some faults.Empty
    else if begins_with_dot name then Some faults.Dot
    else if nat_lt most_of_name (length name) then Some faults.LongName
    else if list_any is_separator name then Some faults.Separator
    else if list_any is_ascii_control name then Some faults.Control
    else None

-- octets that are UTF-8
abbrev pub text_of_octets : List ℕ → Result (List ℕ) PathFault
text_of_octets octets = if is_utf8 octets then Ok octets else Err faults.NotText

-- octets that are UTF-8, unless there is a fault
abbrev pub text_unless : Option PathFault → List ℕ → Result (List ℕ) PathFault
text_unless (Some fault) octets = Err fault
text_unless None octets = text_of_octets octets

-- A name that is served, or the first reason why it isn't.
unfoldable pub checked_name : List ℕ → Result (List ℕ) PathFault
checked_name name = text_unless (name_fault name) name

-- The name of a segment: its escapes are replaced by their octets, once (RFC 3986, section 2.4).
-- rule: files (own) A path is cut at its slashes, and a segment decoded once
unfoldable pub name_of_segment : (segment : List ℕ) → Result (List ℕ) PathFault
name_of_segment segment =
    if are_escapes 0 segment then checked_name (percent_decode segment) else Err faults.BadEscape

-- the name of the last segment: an empty one, after a last slash, means the folder's index
unfoldable pub last_name_of : (segment : List ℕ) → Result (List ℕ) PathFault
last_name_of segment =
    if length segment == 0 then Ok (codes "index.html") else name_of_segment segment

-- a name and those after it, or the first fault
abbrev pub with_name :
    Result (List ℕ) PathFault → Result (List (List ℕ)) PathFault → Result (List (List ℕ)) PathFault
with_name (Ok name) (Ok names) = Ok (name ∷ names)
with_name (Ok name) (Err fault) = Err fault
with_name (Err fault) names = Err fault

-- the names of segments, or the first fault
-- rule: files (own) A path is cut at its slashes, and a segment decoded once
abbrev pub names_of_segments : List (List ℕ) → Result (List (List ℕ)) PathFault
names_of_segments [] = Ok []
names_of_segments (segment ∷ []) = with_name (last_name_of segment) (Ok [])
names_of_segments (segment ∷ next ∷ more) =
    with_name (name_of_segment segment) (names_of_segments (next ∷ more))

-- the segments of an absolute path: what its slashes divide, after the first (RFC 3986, section
-- 3.3)
abbrev pub segments : (rest : List ℕ) → List (List ℕ)
segments rest = slice_split (is_octet (byte "/")) rest

-- the names of a path without its query
unfoldable pub names_of_path : (path : List ℕ) → Result (List (List ℕ)) PathFault
names_of_path [] = Err faults.NotAbsolute
names_of_path (first ∷ rest) =
    if nat_lt most_of_path (length (first ∷ rest)) then Err faults.TooLong
    else if first == byte "/" then names_of_segments (segments rest)
    else Err faults.NotAbsolute

-- the names that a `:path` gives, or the first fault
abbrev pub names_of : (target : List ℕ) → Result (List (List ℕ)) PathFault
names_of target = names_of_path (path_part target)

-- A name that stays in its folder: it is not empty, is neither `.` nor `..`, and has neither a
-- slash nor a NUL.
-- rule: files (own) A name that leaves its folder, or is hidden, is refused
pub record StaysInFolder (name : List ℕ) : Type 0 where
  pub some : name ≢ []
  pub no_dot : name ≢ codes "."
  pub no_parent : name ≢ codes ".."
  pub no_slash : Contains name (byte "/") → ⊥
  pub no_nul : Contains name 0 → ⊥

-- the path of names: a slash before each
abbrev pub below : List (List ℕ) → List ℕ
below [] = []
below (name ∷ names) = byte "/" ∷ (name ++ below names)

-- the octets of strings
abbrev pub texts : {Z : Type 0} → List (String Z) → List (List ℕ)
texts names = map string_bytes names

-- The fault is what the definition gives, or memory was missing.
abbrev pub IsFaultOrMemory : {Y : Type 0} → PathFault → Result Y PathFault → Type 0
IsFaultOrMemory faults.Memory read = Unit {0}
IsFaultOrMemory fault read = read ≡ Err fault

-- What was answered is what the definition gives, unless memory was missing.
abbrev pub GivesUnlessMemory :
    {X Y : Type 0} → (X → Y) → Result X PathFault → Result Y PathFault → Type 0
GivesUnlessMemory view (Ok x) read = read ≡ Ok (view x)
GivesUnlessMemory view (Err fault) read = IsFaultOrMemory fault read
