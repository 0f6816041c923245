-- What is printed of a response, by the words after `get`.
use Rattle.std.specs.Prelude.{ℕ, nat_le, ◌&&◌, Bool, false, List, [], ◌∷◌, ◌++◌, codes}
use Rattle.std.specs.Prelude.{flat_map, if◌then◌else◌, option_map, Option, Some, None}
use Rattle.std.specs.Str.{bytes_eq}
use Rattle.std.specs.Io.KnownBytes.{Appends}
use Rattle.hpack.specs.declared.types.field.Field.{Field}
use Rattle.h2_message.specs.Fields.{status_of}
use Rattle.h2_engines.specs.declared.fetcher.Fetched.{Fetched}
use Rattle.h2_show.specs.Lines.{shown_octets}
use Rattle.h2_net.specs.Printing.{IsPhraseOf, status_line}
use Rattle.h2_args.specs.Words.{GetWords}

-- Whether the status is 400 or above: its first digit is 4 or more. That of a response has three
-- digits (RFC 9113, section 8.3.2).
-- rule: engines (own) With --fail a status of 400 or above ends get with status 1
abbrev pub is_failure : (value : List ℕ) → Bool
is_failure [] = false
is_failure (digit ∷ digits) = nat_le 52 digit

-- whether the words make this response a failure
-- rule: engines (own) With --fail a status of 400 or above ends get with status 1
abbrev pub fails_as_asked : GetWords → Fetched → Bool
fails_as_asked words fetched = words.fail && is_failure (status_of fetched.head.items)

-- the line of a field of a response, without control characters: the name, a colon and a space, and
-- the value, each with its octets shown as `h2 show` shows them
-- rule: engines (own) The words of get make its request and say what is printed
abbrev pub response_line : Field → List ℕ
response_line field =
    shown_octets field.name ++ (codes ": " ++ (shown_octets field.value ++ codes "\n"))

-- the same, but nothing of `:status`, which the first line has
-- rule: engines (own) The words of get make its request and say what is printed
abbrev pub response_part : Field → List ℕ
response_part field =
    if bytes_eq field.name (codes ":status") then [] else response_line field

-- the lines of the fields of a head
-- rule: engines (own) The words of get make its request and say what is printed
abbrev pub response_lines : List Field → List ℕ
response_lines fields = flat_map response_part fields

-- what stands between the line of the status and the body: nothing, or the lines of the fields and
-- an empty line
-- rule: engines (own) The words of get make its request and say what is printed
abbrev pub fields_printed : (include : Bool) → Fetched → List ℕ
fields_printed include fetched =
    if include then response_lines fetched.head.items ++ codes "\n" else []

-- the trailers, where some came: a line end, and then their lines
-- rule: engines (own) The words of get make its request and say what is printed
abbrev pub trailer_lines : Option (List Field) → List ℕ
trailer_lines None = []
trailer_lines (Some fields) = codes "\n" ++ response_lines fields

-- the trailers, where some came and fields are printed
-- rule: engines (own) get -o and --stream write the body as it comes, in order
abbrev pub trailers_shown : (include : Bool) → Option (List Field) → List ℕ
trailers_shown include trailers = if include then trailer_lines trailers else []

-- The octets of the body, and then the trailers where fields are printed.
-- rule: engines (own) The words of get make its request and say what is printed
abbrev pub body_printed : (include : Bool) → Fetched → List ℕ
body_printed include fetched = fetched.body.items
    ++ (if include
    then trailer_lines (option_map (λ fields. fields.items) fetched.trailers) else [])

-- the body with its trailers, and nothing where the words make the response a failure
-- rule: engines (own) With --fail a status of 400 or above ends get with status 1
abbrev pub rest_printed : GetWords → Fetched → List ℕ
rest_printed words fetched =
    if fails_as_asked words fetched then [] else body_printed words.include fetched

-- The line of the status, the fields where they are asked for, and the body with its trailers,
-- unless the words make the response a failure.
-- rule: engines (own) The words of get make its request and say what is printed
abbrev pub PrintsAsked : GetWords → (before after : Option (List ℕ)) → Fetched → Type 0
PrintsAsked words before after fetched =
    (phrase : Option (List ℕ)) × IsPhraseOf (status_of fetched.head.items) phrase
    × Appends before after
    (status_line (status_of fetched.head.items) phrase
    ++ (fields_printed words.include fetched ++ rest_printed words fetched))

-- the line on standard error of a response that is a failure
-- rule: engines (own) With --fail a status of 400 or above ends get with status 1
abbrev pub failure_line : (value : List ℕ) → List ℕ
failure_line value = codes "error: status " ++ (value ++ codes "\n")
