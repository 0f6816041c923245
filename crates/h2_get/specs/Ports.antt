-- The location of a URL that may name no port.
use Rattle.std.specs.Prelude.{◌≢◌, ◌⊎◌, ℕ, ◌+◌, ◌==◌, ◌||◌, Bool, List, ◌++◌, length, take, drop}
use Rattle.std.specs.Prelude.{codes, decimal, min, position, option_map, unwrap_or, Option, Some}
use Rattle.std.specs.Prelude.{None}
use Rattle.h2_net.specs.declared.location.Location.{Location}
use Rattle.h2_net.specs.declared.location.TargetFault.{TargetFault}
use Rattle.h2_net.specs.declared.location.TargetFault.TheVariants.{NoPort}
use Rattle.h2_net.specs.Locations.{Names, IsRefusedUrl}

-- whether an octet ends the authority of a URL: a slash, a question mark or a number sign
-- (RFC 3986, section 3.2)
-- rule: engines (own) The port of --port is that of a URL without one
abbrev pub ends_authority : ℕ → Bool
ends_authority octet = octet == 47 || octet == 63 || octet == 35

-- where the authority of a URL ends that begins with the seven octets `http://`
-- rule: engines (own) The port of --port is that of a URL without one
abbrev pub authority_end : (url : List ℕ) → ℕ
authority_end url =
    let start = min 7 (length url) in
    unwrap_or (option_map (λ place. start + place) (position ends_authority (drop start url)))
    (length url)

-- the URL with this port at the end of its authority
-- rule: engines (own) The port of --port is that of a URL without one
abbrev pub url_with_port : (url : List ℕ) → (port : ℕ) → List ℕ
url_with_port url port =
    take (authority_end url) url ++ (codes ":" ++ decimal port ++ drop (authority_end url) url)

-- The URL names this location; or it names no port, and with the given one at the end of its
-- authority it names this location.
-- rule: engines (own) The port of --port is that of a URL without one
abbrev pub NamesAtPort : (url : List ℕ) → (port : Option ℕ) → Location → Type 0
NamesAtPort url None location = Names url location
NamesAtPort url (Some port) location =
    Names url location ⊎ (IsRefusedUrl url NoPort × Names (url_with_port url port) location)

-- The URL can't be fetched, for this reason; where it is that the URL names no port and one is
-- given, that is the reason with this port.
-- rule: engines (own) The port of --port is that of a URL without one
abbrev pub IsRefusedAtPort : (url : List ℕ) → (port : Option ℕ) → TargetFault → Type 0
IsRefusedAtPort url None fault = IsRefusedUrl url fault
IsRefusedAtPort url (Some port) fault = (IsRefusedUrl url fault × (fault ≢ NoPort))
    ⊎ (IsRefusedUrl url NoPort × IsRefusedUrl (url_with_port url port) fault)
