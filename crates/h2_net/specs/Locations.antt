-- What a URL that can be fetched names (RFC 9110, section 4.2.1), and why another can't be.
use Rattle.std.specs.Prelude.{◌≡◌, ◌≢◌, ◌⊎◌, ◌<◌, ◌-◌, ◌==◌, ◌&&◌, ℕ, Bool, true, false}
use Rattle.std.specs.Prelude.{if◌then◌else◌, List, [], ◌++◌, length, take, drop, codes}
use Rattle.std.specs.Prelude.{string_bytes, nat_eq, Option, Some, None}
use Rattle.std.specs.Char.{is_ascii_digit}
use Rattle.std.specs.List.{list_any, list_all, starts_with, ends_with}
use Rattle.http_uri.specs.ByteClasses.{at_sign, colon, rsplit_once_back}
use Rattle.http_uri.specs.declared.uri.Uri.{Uri}
use Rattle.http_uri.specs.Grammar.{authority_host}
use Rattle.http_uri.specs.Uri.{Spells, SpellsNone, uri_scheme, uri_authority, uri_path, uri_query}
use Rattle.http_uri.specs.Port.{HasPort, port_value}
use Rattle.h2_net.specs.declared.location.Location.{Location}
use Rattle.h2_net.specs.declared.location.TargetFault.{TargetFault}
use Rattle.h2_net.specs.declared.location.TargetFault.TheVariants as faults

-- a query with its mark
abbrev pub query_part : Option (List ℕ) → List ℕ
query_part None = []
query_part (Some query) = codes "?" ++ query

-- an IPv6 address without its brackets, and any other host as it is (RFC 3986, section 3.2.2)
abbrev pub without_brackets : List ℕ → List ℕ
without_brackets host =
    if starts_with nat_eq host (codes "[") && ends_with nat_eq (drop 1 host) (codes "]")
    then take (length host - 2) (drop 1 host) else host

-- the host of an authority that is connected to
abbrev pub host_of : (authority : List ℕ) → List ℕ
host_of authority = without_brackets (authority_host authority)

-- The authority has this port: a number of 1 to 65,535, in digits alone. That it has one is asked
-- for (own; RFC 9110 takes 80 where there is none).
pub record IsPortOfAuthority (authority : List ℕ) (port : ℕ) : Type 0 where
  pub stands : HasPort authority
  pub digits : list_all is_ascii_digit (rsplit_once_back colon authority) ≡ true
  pub number : port ≡ port_value (rsplit_once_back colon authority)
  pub some : 0 < port

-- whether the authority has a userinfo
abbrev pub has_user : (authority : List ℕ) → Bool
has_user authority = list_any (λ octet. octet == at_sign) authority

-- The location is that of a URI of the scheme `http`, which has a host, a port, and no userinfo.
-- rule: engines (own) A URL is fetched that has scheme http, a host and a port
pub record IsLocationOf (uri : Uri) (location : Location) : Type 0 where
  pub scheme : uri_scheme uri ≡ Some (codes "http")
  pub authority : uri_authority uri ≡ Some (string_bytes location.authority)
  pub path : string_bytes location.path ≡ uri_path uri ++ query_part (uri_query uri)
  pub host : string_bytes location.host ≡ host_of (string_bytes location.authority)
  pub some_host : string_bytes location.host ≢ []
  pub port : IsPortOfAuthority (string_bytes location.authority) location.port
  pub no_user : has_user (string_bytes location.authority) ≡ false

-- The URL spells that URI, as the crate `http_uri` reads one (RFC 3986).
-- rule: engines (own) A URL is fetched that has scheme http, a host and a port
abbrev pub Names : (url : List ℕ) → Location → Type 0
Names url location = (uri : Uri) × Spells url uri × IsLocationOf uri location

-- The URI is of the scheme `http`, and this is its authority.
abbrev pub HasAuthority : Uri → List ℕ → Type 0
HasAuthority uri authority =
    (uri_scheme uri ≡ Some (codes "http")) × (uri_authority uri ≡ Some authority)

-- The URI can't be fetched: this is the first reason.
abbrev pub IsRefusedUri : Uri → TargetFault → Type 0
IsRefusedUri uri faults.Unread = ⊥
IsRefusedUri uri faults.OtherScheme = uri_scheme uri ≢ Some (codes "http")
IsRefusedUri uri faults.NoHost =
    (uri_scheme uri ≡ Some (codes "http"))
    × ((uri_authority uri ≡ None)
    ⊎ ((authority : List ℕ) × HasAuthority uri authority × (host_of authority ≡ [])))
IsRefusedUri uri faults.NoPort =
    (authority : List ℕ) × HasAuthority uri authority × (host_of authority ≢ [])
    × ((port : ℕ) → IsPortOfAuthority authority port → ⊥)
IsRefusedUri uri faults.UserInfo =
    (authority : List ℕ) × HasAuthority uri authority × (host_of authority ≢ [])
    × ((port : ℕ) × IsPortOfAuthority authority port) × (has_user authority ≡ true)
IsRefusedUri uri faults.Memory = Unit {0}

-- The URL can't be fetched: it spells no URI, or one that is refused; out of memory says nothing.
-- rule: engines (own) A URL is fetched that has scheme http, a host and a port
abbrev pub IsRefusedUrl : (url : List ℕ) → TargetFault → Type 0
IsRefusedUrl url faults.Unread = SpellsNone url
IsRefusedUrl url faults.Memory = Unit {0}
IsRefusedUrl url fault = (uri : Uri) × Spells url uri × IsRefusedUri uri fault
