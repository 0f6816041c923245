-- The windows of a fetch.
use Rattle.std.specs.Prelude.{◌≡◌, ◌⊎◌, ◌<◌, ◌≤◌, ◌-◌, ◌==◌, ◌/◌, ℕ, List, length, max}
use Rattle.std.specs.Prelude.{if◌then◌else◌, Option, unwrap_or}
use Rattle.h2_spec_log.specs.Acts.{Done, Values}
use Rattle.h2_message.specs.Messages.{SentMessage}
use Rattle.h2_link.specs.declared.error.LinkError.{LinkError}
use Rattle.h2_link.specs.declared.error.LinkError.TheVariants as errors
use Rattle.h2_fetch.specs.declared.fetch.PartFetch.{PartFetch}
use Rattle.h2_fetch.specs.declared.connection.ClientConnection.{ClientConnection}
use Rattle.h2_fetch.specs.Comings.{BeginsFetch}
use Rattle.h2_fetch.specs.Widening.{WidensFetch, WidensSeveral}
use Rattle.h2_net.specs.Fetching.{default_values}
use Rattle.h2_args.specs.Windows.{window_or}
use Rattle.h2_args.specs.Words.{GetWords}
use Rattle.h2_get.specs.Asking.{BeginsSeveral}

-- the window that words ask for: 4 MiB, where they say nothing; none, where they don't give a size
-- rule: engines (own) get has the window of --window, for the connection and for each stream
abbrev pub window_asked : GetWords → Option ℕ
window_asked words = window_or words.window 4194304

-- the window of a fetch
-- rule: engines (own) get has the window of --window, for the connection and for each stream
abbrev pub window_of : GetWords → ℕ
window_of words = unwrap_or (window_asked words) 4194304

-- the values of a client whose streams have this window
-- rule: engines (own) get has the window of --window, for the connection and for each stream
abbrev pub fetch_values : (window : ℕ) → Values
fetch_values window = record default_values { initial_window = window }

-- The connection is widened to this window: by what is missing of the 65,535 octets that each has
-- (RFC 9113, section 6.9.2), if that is anything.
-- rule: engines (own) get has the window of --window, for the connection and for each stream
pub data WidensTo (window : ℕ) (old : PartFetch) : (new : PartFetch) → Type 0 where
  has_window : window ≤ 65535 → WidensTo window old old
  asks_more : (new : PartFetch) → 65535 < window → WidensFetch (window - 65535) Done old new
      → new.id ≡ old.id → WidensTo window old new

-- The same of a client that fetches several responses.
-- rule: engines (own) get has the window of --window, for the connection and for each stream
pub data WidensSeveralTo (window : ℕ) (old : ClientConnection) : (new : ClientConnection) →
    Type 0 where
  have_window : window ≤ 65535 → WidensSeveralTo window old old
  ask_more : (new : ClientConnection) → 65535 < window → WidensSeveral (window - 65535) Done old new
      → WidensSeveralTo window old new

-- A fetch whose connection can't be widened is not begun: memory was refused, or so many octets of
-- heads wait that the output is full.
-- rule: engines (own) get has the window of --window, for the connection and for each stream
abbrev pub IsNotWidened : LinkError → Type 0
IsNotWidened error = (error ≡ errors.Memory) ⊎ (error ≡ errors.NoProgress)

-- A new client has made its request, and nothing has come; its stream and the connection have this
-- window.
-- rule: engines (own) get has the window of --window, for the connection and for each stream
pub record BeginsWithWindow (window : ℕ) (message : SentMessage) (fetch : PartFetch) : Type 0 where
  pub begun : PartFetch
  pub begins : BeginsFetch (fetch_values window) message begun
  pub widened : WidensTo window begun fetch

-- the window of each of so many streams: its share of the connection's, so that what comes of one
-- that nobody waits for never takes what another needs
-- rule: engines (own) A response that is waited for has its window, and no other
abbrev pub window_among : (window streams : ℕ) → ℕ
window_among window streams = if streams == 0 then window else max 1 (window / streams)

-- the values of a client that makes so many requests
-- rule: engines (own) A response that is waited for has its window, and no other
abbrev pub several_values : (window requests : ℕ) → Values
several_values window requests = fetch_values (window_among window requests)

-- A new client has made its requests, on these streams, and nothing has come; the connection has
-- this window.
-- rule: engines (own) get has the window of --window, for the connection and for each stream
pub record BeginsSeveralWithWindow (window : ℕ) (messages : List SentMessage) (ids : List ℕ)
    (fetch : ClientConnection) : Type 0 where
  pub begun : ClientConnection
  pub begins : BeginsSeveral (several_values window (length messages)) messages ids begun
  pub widened : WidensSeveralTo window begun fetch
