-- What two ends in one process say to each other.
use Rattle.std.specs.Prelude.{◌≡◌, ◌≢◌, ◌⊎◌, ℕ, suc, zero, ◌%◌, List, [], ◌∷◌, ◌++◌, codes}
use Rattle.std.specs.Prelude.{Some, None, Result, MatchResult}
use Rattle.h2_message.specs.Messages.{SentMessage, plain_field}
use Rattle.h2_laws_pair.specs.Tokens.{at_once}
use Rattle.h2_ends.specs.Ends.{EndLog, said_for, parts_on}
use Rattle.h2_link.specs.declared.error.LinkError.{LinkError}
use Rattle.h2_link.specs.declared.error.LinkError.TheVariants as errors
use Rattle.h2_engines.specs.declared.fetcher.Fetched.{Fetched}
use Rattle.h2_engines.specs.declared.fetcher.Fetcher.{Fetcher}
use Rattle.h2_engines.specs.ClientHistories.{IsFetching, IsFetched}
use Rattle.h2_engines.specs.WithoutLink.{IsFetchingAlone, IsFetchedAlone}
use Rattle.h2_net.specs.declared.loopback.Carried.{Carried}
use Rattle.h2_net.specs.declared.loopback.Ends.{Ends}
use Rattle.h2_net.specs.Fetching.{default_values}

-- No call of either link has failed.
-- rule: engines (own) h2 loop posts octets, and its line says how many came
abbrev pub NoneHasFailed : {S : Type 0} → Ends S → Type 0
NoneHasFailed ends = (ends.client_link.failures ≡ 0) × (ends.server_link.failures ≡ 0)

-- In a round neither end has written anything, as it is kept of what they wrote. What the links
-- have carried is tested.
-- rule: engines (own) h2 loop posts octets, and its line says how many came
abbrev pub IsSilent : Carried → Type 0
IsSilent carried = (carried.from_client.items ≡ []) × (carried.from_server.items ≡ [])

-- so many octets, of which octet k is k mod 251
-- rule: engines (own) h2 loop posts octets, and its line says how many came
unfoldable pub posted_octets : ℕ → List ℕ
posted_octets zero = []
posted_octets (suc count) = posted_octets count ++ count % 251 ∷ []

-- a POST of so many octets to `/` of 127.0.0.1
-- rule: engines (own) h2 loop posts octets, and its line says how many came
abbrev pub post_request : (count : ℕ) → SentMessage
post_request count = record {
  head =
      plain_field (codes ":method") (codes "POST") ∷ plain_field (codes ":scheme") (codes "http")
      ∷ plain_field (codes ":path") (codes "/")
      ∷ plain_field (codes ":authority") (codes "127.0.0.1") ∷ [];
  body = posted_octets count;
  trailers = None;
}

-- A client without a link has made this request; and its response isn't whole, or is.
abbrev pub IsPosting : (count : ℕ) → Fetcher → Type 0
IsPosting count fetcher = (end : EndLog)
    × (IsFetchingAlone default_values (post_request count) fetcher end
    ⊎ IsFetchedAlone default_values (post_request count) fetcher end)

-- A call of such a client: it goes on, or ends early, but not since its request was refused.
-- rule: engines (own) h2 loop posts octets, and its line says how many came
abbrev pub PostsOn : {T : Type 0} → (count : ℕ) → Result T LinkError → Fetcher → Type 0
PostsOn count result fetcher =
    MatchResult result (λ value. IsPosting count fetcher) (λ error. error ≢ errors.Refused)

-- A client has made this request alone, and the response is what was handed out to it on the
-- request's stream, whole.
pub record FetchesPost (count : ℕ) (fetched : Fetched) : Type 0 where
  pub end : EndLog
  pub fetching : IsFetching default_values (post_request count) 0 end
  pub id : ℕ
  pub accepted : said_for id end.accepted ≡ Some (at_once (post_request count))
  pub is : IsFetched (parts_on id end.handed) fetched

-- What comes of posting so many octets: a response; or an end before it, but not since the request
-- was refused (N7).
-- rule: engines (own) h2 loop posts octets, and its line says how many came
abbrev pub ExchangesPost : (count : ℕ) → Result Fetched LinkError → Type 0
ExchangesPost count result =
    MatchResult result (FetchesPost count) (λ error. error ≢ errors.Refused)
