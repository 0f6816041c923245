-- How a location is fetched.
use Rattle.std.specs.Prelude.{◌≡◌, ◌⊎◌, ℕ, List, [], ◌∷◌, codes, string_bytes, None}
use Rattle.std.specs.Prelude.{Result, Err}
use Rattle.hpack.specs.declared.types.field.Field.{Field}
use Rattle.h2_spec_log.specs.Acts.{Values}
use Rattle.h2_message.specs.Messages.{SentMessage, plain_field}
use Rattle.h2_link.specs.declared.error.LinkError.{LinkError}
use Rattle.h2_link.specs.declared.error.LinkError.TheVariants as errors
use Rattle.h2_engines.specs.declared.fetcher.Fetched.{Fetched}
use Rattle.h2_engines.specs.Fetches.{Fetches}
use Rattle.h2_engines.specs.Linked.{Traffic}
use Rattle.h2_net.specs.declared.location.Location.{Location}

-- the values of a connection that says nothing else (RFC 9113, section 6.5.2), and 100 streams
abbrev pub default_values : Values
default_values =
    record { table_limit = 4096; initial_window = 65535; max_streams = 100; max_frame = 16384 }

-- the pseudo-fields of a request to a location with this method (section 8.3.1)
-- rule: engines (own) A URL is asked for with GET
abbrev pub pseudo_fields_to : (method : List ℕ) → Location → List Field
pseudo_fields_to method location =
    plain_field (codes ":method") method ∷ plain_field (codes ":scheme") (codes "http")
    ∷ plain_field (codes ":path") (string_bytes location.path)
    ∷ plain_field (codes ":authority") (string_bytes location.authority) ∷ []

-- a GET of a location, without a body (section 8.3.1)
-- rule: engines (own) A URL is asked for with GET
abbrev pub get_request : Location → SentMessage
get_request location = record {
  head =
      plain_field (codes ":method") (codes "GET") ∷ plain_field (codes ":scheme") (codes "http")
      ∷ plain_field (codes ":path") (string_bytes location.path)
      ∷ plain_field (codes ":authority") (string_bytes location.authority) ∷ [];
  body = [];
  trailers = None;
}

-- The location was fetched over the link with GET, however that has ended; or there was no memory
-- for the request, and nothing went over the link.
-- rule: engines (own) A URL is asked for with GET
abbrev pub FetchesLocation : Location → (start now : Traffic) → Result Fetched LinkError → Type 0
FetchesLocation location start now result =
    Fetches default_values (get_request location) start now result
    ⊎ ((result ≡ Err errors.Memory) × (now ≡ start))

-- The request was made over a new connection, however that has ended; or none could be made, or
-- there was no memory for it.
-- rule: engines (own) The words of get make its request and say what is printed
abbrev pub FetchesRequest : SentMessage → Result Fetched LinkError → Type 0
FetchesRequest message result = (result ≡ Err errors.Device) ⊎ ((result ≡ Err errors.Memory)
    ⊎ ((start now : Traffic) × Fetches default_values message start now result))

-- The location was fetched over a new connection; or none could be made, or there was no memory for
-- it.
abbrev pub GetsLocation : Location → Result Fetched LinkError → Type 0
GetsLocation location result = (result ≡ Err errors.Device) ⊎ ((result ≡ Err errors.Memory)
    ⊎ ((start now : Traffic) × FetchesLocation location start now result))
