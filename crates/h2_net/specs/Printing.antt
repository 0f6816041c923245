-- What is printed of a response.
use Rattle.std.specs.Prelude.{◌≡◌, ◌⊎◌, ℕ, List, ◌++◌, length, codes, decimal}
use Rattle.std.specs.Prelude.{Option, Some, None}
use Rattle.std.specs.Io.KnownBytes.{Appends}
use Rattle.http.specs.StatusCode.{IsCodeText, code_digits, reason_phrase}
use Rattle.h2_message.specs.Fields.{status_of}
use Rattle.h2_engines.specs.declared.fetcher.Fetched.{Fetched}

-- The phrase of the status with these digits (RFC 9110, section 15), where it has one.
-- rule: engines (own) A response is printed as its status, its phrase and its body
abbrev pub IsPhraseOf : (value : List ℕ) → (phrase : Option (List ℕ)) → Type 0
IsPhraseOf value phrase =
    ((n : ℕ) × (code_digits n ≡ value) × (phrase ≡ reason_phrase n))
    ⊎ ((IsCodeText value → ⊥) × (phrase ≡ None))

-- the line of a status
-- rule: engines (own) A response is printed as its status, its phrase and its body
abbrev pub status_line : (value : List ℕ) → (phrase : Option (List ℕ)) → List ℕ
status_line value None = value ++ codes "\n"
status_line value (Some phrase) = value ++ (codes " " ++ phrase ++ codes "\n")

-- The status with its phrase on a line, and then the octets of the body.
-- rule: engines (own) A response is printed as its status, its phrase and its body
abbrev pub PrintsResponse : (before after : Option (List ℕ)) → Fetched → Type 0
PrintsResponse before after fetched =
    (phrase : Option (List ℕ)) × IsPhraseOf (status_of fetched.head.items) phrase
    × Appends before after
    (status_line (status_of fetched.head.items) phrase ++ fetched.body.items)

-- how many octets were posted, how many the body of the response has, and its status
abbrev pub exchange_line : (count : ℕ) → Fetched → List ℕ
exchange_line count fetched =
    codes "sent " ++ decimal count ++ codes " got " ++ decimal (length fetched.body.items)
    ++ codes " status " ++ status_of fetched.head.items ++ codes "\n"
