-- What `h2 show --client FILE --server FILE` prints: the octets of each side as `h2 show` does, each
-- line with its side, the client's whole and then the server's. In what order the octets of one side
-- and of the other came isn't known, so neither is read by the SETTINGS of the other.
-- contract: h2_follow::show_sides
use Rattle.std.specs.Prelude.{◌≡◌, ◌⊎◌, ℕ, ◌==◌, Bool, true, if◌then◌else◌, List, [], ◌∷◌, ◌++◌}
use Rattle.std.specs.Prelude.{Option, IfSome, codes}
use Rattle.h2_cli.specs.Hexadecimal.{IsBadHex}
use Rattle.h2_cli.specs.declared.status.Status.{Status}
use Rattle.h2_show.specs.declared.options.ShowOptions.{ShowOptions}
use Rattle.h2_show.specs.declared.options.Side.{Side}
use Rattle.h2_show.specs.declared.options.Side.TheVariants.{Client, Server}
use Rattle.h2_show.specs.declared.options.Style.{Style}
use Rattle.h2_show.specs.declared.options.Style.TheVariants.{Plain, Text, Json}
use Rattle.h2_show.specs.Shown.{ShowsInput}
use Rattle.h2_follow.specs.Follows.{mark_of, marked, status_of_both}

-- how the object of a side's line begins
-- rule: sides (own) Each line has its side: a mark, or with --json the first key
abbrev pub object_mark : Side → List ℕ
object_mark Client = codes "{\"side\":\"client\","
object_mark Server = codes "{\"side\":\"server\","

-- lines that are objects, each of which begins so in place of its first octet, `{`; `starts` says
-- that the first octet begins a line
-- rule: sides (own) Each line has its side: a mark, or with --json the first key
abbrev pub objects_with : (mark : List ℕ) → (starts : Bool) → List ℕ → List ℕ
objects_with mark starts [] = []
objects_with mark starts (octet ∷ octets) =
    (if starts then mark else octet ∷ []) ++ objects_with mark (octet == 10) octets

-- lines of a side in a style, each with its side
-- rule: sides (own) Each line has its side: a mark, or with --json the first key
abbrev pub side_text : Style → Side → List ℕ → List ℕ
side_text Plain side lines = marked (mark_of side) true lines
side_text (Text style) side lines = marked (mark_of side) true lines
side_text Json side lines = objects_with (object_mark side) true lines

-- the options for a side
abbrev pub options_from : Side → ShowOptions → ShowOptions
options_from side options = record options { from = side }

-- what is printed of the inputs of both sides
-- rule: sides (own) The client's input is shown whole, and then the server's
pub record ShowsSides (options : ShowOptions) (client server : List ℕ) (status : Status)
    (output : List ℕ) : Type 0 where
  pub client_status : Status
  pub server_status : Status
  pub client_lines : List ℕ
  pub server_lines : List ℕ
  pub client_shows : ShowsInput (options_from Client options) client client_status client_lines
  pub server_shows : ShowsInput (options_from Server options) server server_status server_lines
  pub both : status ≡ status_of_both client_status server_status
  pub all : output ≡ side_text options.style Client client_lines
      ++ side_text options.style Server server_lines

-- An input was to be hexadecimal text, and isn't.
-- rule: sides (own) The client's input is shown whole, and then the server's
abbrev pub HasBadHex : ShowOptions → (client server : Option (List ℕ)) → Type 0
HasBadHex options client server =
    (options.hex ≡ true) × (IfSome client IsBadHex ⊎ IfSome server IsBadHex)
