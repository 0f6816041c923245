-- The window of a connection over which responses are fetched is widened.
use Rattle.std.specs.Prelude.{◌+◌, ℕ, List}
use Rattle.h2_spec_log.specs.Acts.{Values, Answer, Widen}
use Rattle.h2_spec_log.specs.LogCalls.{MayAnswer, with_call}
use Rattle.h2_message.specs.Messages.{SentMessage}
use Rattle.h2_ends.specs.EndTakes.{end_with_log}
use Rattle.h2_ends.specs.Ends.{EndLog}
use Rattle.h2_engines.specs.ClientHistories.{widened_by}
use Rattle.h2_engines.specs.Linked.{Traffic}
use Rattle.h2_fetch.specs.declared.fetch.PartFetch.{PartFetch}
use Rattle.h2_fetch.specs.declared.connection.ClientConnection.{ClientConnection}
use Rattle.h2_fetch.specs.Comings.{IsComing}
use Rattle.h2_fetch.specs.Several.{AnsweredOn, AreComing, AskedOn}

-- Whatever has happened at a client that fetches, the call is answered as the connection answers
-- it, and the fetch goes on as it was, by so much wider where the call is done.
-- rule: 6.9.2 (own) The window of the connection is widened by a call, for good
abbrev pub WidensFetch : (count : ℕ) → Answer → (old new : PartFetch) → Type 0
WidensFetch count answer old new =
    (values : Values) (message : SentMessage) (wide : ℕ) (start now : Traffic) (end : EndLog)
    → IsComing values message wide start now old end
    → MayAnswer end.log (Widen count) answer
    × IsComing values message (wide + widened_by count answer) start now new
    (end_with_log end (with_call end.log (Widen count) answer))

-- The same of a client that fetches several responses.
-- rule: 6.9.2 (own) The window of the connection is widened by a call, for good
abbrev pub WidensSeveral : (count : ℕ) → Answer → (old new : ClientConnection) → Type 0
WidensSeveral count answer old new =
    (values : Values) (wide : ℕ) (start now : Traffic) (asked : List AskedOn) (end : EndLog)
    (answered : AnsweredOn) → AreComing values wide start now asked old end answered
    → MayAnswer end.log (Widen count) answer
    × AreComing values (wide + widened_by count answer) start now asked new
    (end_with_log end (with_call end.log (Widen count) answer)) answered
