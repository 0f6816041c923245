-- Hexadecimal text with blanks.
use Rattle.std.specs.Prelude.{ℕ, ◌==◌, ◌||◌, not, Bool, List, filter, IsErr}
use Rattle.hex.specs.Hex.{decode_of}
use Rattle.hex.specs.declared.error.FromHexError.{FromHexError}
use Rattle.hex.specs.declared.error.FromHexError.TheVariants.{OutOfMemory}
use Rattle.h2_cli.specs.declared.failure.Failure.{Failure}
use Rattle.h2_cli.specs.declared.failure.Failure.TheVariants as failures
use Rattle.h2_cli.specs.declared.hexadecimal.HexError.{HexError}
use Rattle.h2_cli.specs.declared.hexadecimal.HexError.TheVariants.{BadHex, Memory}

-- a space, a tab, a line feed or a carriage return
-- rule: show (own) Hexadecimal is read without its blanks; other text is refused
abbrev pub is_skipped_blank : ℕ → Bool
is_skipped_blank octet = octet == 0x20 || octet == 0x09 || octet == 0x0a || octet == 0x0d

-- the text without its blanks
-- rule: show (own) Hexadecimal is read without its blanks; other text is refused
abbrev pub without_blanks : List ℕ → List ℕ
without_blanks text = filter (λ octet. not (is_skipped_blank octet)) text

-- The text is no hexadecimal.
-- rule: show (own) Hexadecimal is read without its blanks; other text is refused
abbrev pub IsBadHex : List ℕ → Type 0
IsBadHex text = IsErr (decode_of (without_blanks text))

-- what an error of reading a text says of it; out of memory says nothing
abbrev pub HexErrorReports : List ℕ → HexError → Type 0
HexErrorReports text BadHex = IsBadHex text
HexErrorReports text Memory = Unit {0}

-- a fault of decoding digits, as an error of reading a text
abbrev pub error_of_hex : FromHexError → HexError
error_of_hex OutOfMemory = Memory
error_of_hex _ = BadHex

-- an error of reading a text, as the failure of a command
-- rule: show (own) Hexadecimal is read without its blanks; other text is refused
abbrev pub failure_of_text : HexError → Failure
failure_of_text BadHex = failures.BadHex
failure_of_text Memory = failures.Memory
