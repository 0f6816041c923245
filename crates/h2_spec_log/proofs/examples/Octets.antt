-- Octets in hexadecimal text. Blanks are skipped.
use Rattle.std.specs.Prelude.{ℕ, ◌+◌, ◌-◌, ◌*◌, ◌==◌, nat_lt, if◌then◌else◌, List, [], ◌∷◌, Option}
use Rattle.std.specs.Prelude.{Some, None}

-- the number of a digit: of 0 to 9, or a to f
abbrev pub digit : ℕ → ℕ
digit code = if nat_lt code 58 then code - 48 else code - 87

-- the octets of the digits, where the first digit of an octet may have come
unfoldable pub octets_after : Option ℕ → List ℕ → List ℕ
octets_after high [] = []
octets_after None (code ∷ text) =
    if code == 32 then octets_after None text else octets_after (Some (digit code)) text
octets_after (Some high) (code ∷ text) =
    if code == 32 then octets_after (Some high) text
    else (16 * high + digit code) ∷ octets_after None text

abbrev pub octets : List ℕ → List ℕ
octets text = octets_after None text
