-- What of a message could go now, and what a call has sent of it (RFC 9113, sections 6.9 and 8.1).
use Rattle.std.specs.Prelude.{◌≡◌, ◌≢◌, ℕ, min, true, List, [], ◌∷◌, ◌++◌}
use Rattle.h2_spec_log.specs.CallRules.{at_least_none}
use Rattle.h2_spec_log.specs.Limits.{max_data}
use Rattle.h2_spec_log.specs.Log.{Log, active, send_window}
use Rattle.h2_spec_log.specs.Windows.{connection_send_window}
use Rattle.h2_laws_pair.specs.Quiet.{CouldGo}
use Rattle.h2_laws_pair.specs.Tokens.{Token}
use Rattle.h2_ends.specs.Ends.{EndLog, tokens_out, tokens_waiting}

-- The next of what waits on an active stream could go: an octet, which both windows let through,
-- or trailers, or the end.
-- rule: 8.1 (own) pump sends the lower streams first, and all that can go
pub record CouldGoOn (end : EndLog) (i : ℕ) : Type 0 where
  pub active : active end.log i ≡ true
  pub next : Token
  pub others : List Token
  pub waits : tokens_waiting end i ≡ next ∷ others
  pub could_go : CouldGo end.log i next

-- how many octets one call may send on a stream: as many as both windows let through, and 65,536
-- at most
abbrev pub most_sendable : Log → ℕ → ℕ
most_sendable log i =
    min (min (at_least_none (send_window log i))
    (at_least_none (connection_send_window log.received log.sent))) max_data

-- More was sent on a stream: these tokens, one at least, the first of those that waited.
pub record WentOn (before after : EndLog) (i : ℕ) : Type 0 where
  pub more : List Token
  pub some : more ≢ []
  pub out : tokens_out after i ≡ tokens_out before i ++ more
  pub waited : tokens_waiting before i ≡ more ++ tokens_waiting after i
