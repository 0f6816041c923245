-- How a fetch over a link ends.
use Rattle.std.specs.Prelude.{◌≡◌, ◌≢◌, ◌⊎◌, ℕ, Bool, false, [], Option, Some, None}
use Rattle.std.specs.Prelude.{Result, Ok, Err}
use Rattle.std.specs.List.{Contains}
use Rattle.h2_spec_log.specs.declared.refusal.Refusal.{Refusal}
use Rattle.h2_spec_log.specs.declared.refusal.Refusal.TheVariants.{ListTooLarge, Memory}
use Rattle.h2_spec_log.specs.declared.role.Role.TheVariants.{Client}
use Rattle.h2_spec_log.specs.Acts.{Values, Open}
use Rattle.h2_spec_log.specs.Events.{ResetEvent, UnprocessedEvent}
use Rattle.h2_spec_log.specs.LogCalls.{opened}
use Rattle.h2_message.specs.Messages.{SentMessage, broken_by_request}
use Rattle.h2_message.specs.Phases.{ends_message}
use Rattle.h2_laws_pair.specs.Tokens.{at_once, is_head_alone}
use Rattle.h2_conn.specs.declared.why.Why.{Why}
use Rattle.h2_conn.specs.Why.{IsWhy}
use Rattle.h2_ends.specs.Ends.{EndLog, Passed, said_for, parts_on}
use Rattle.h2_ends.specs.EndCalls.{refusal_of_message}
use Rattle.h2_ends.specs.Represents.{new_end_log}
use Rattle.h2_link.specs.declared.error.LinkError.{LinkError}
use Rattle.h2_link.specs.declared.error.LinkError.TheVariants as errors
use Rattle.h2_engines.specs.declared.fetcher.Fetched.{Fetched}
use Rattle.h2_engines.specs.Failures.{IsOutOfMemory}
use Rattle.h2_engines.specs.Linked.{Traffic, HasGiven, IsLinkedInPart, HasTakenAll, HasStalled}
use Rattle.h2_engines.specs.Serves.{HasFailedWith, HasReturnedAll, HasSentAll}
use Rattle.h2_engines.specs.Serves.{SendsAll}
use Rattle.h2_engines.specs.ClientHistories.{IsFetching, IsFetched}

-- REFUSED_STREAM (RFC 9113, section 7): what is said of a request that was not processed
abbrev pub refused_stream : ℕ
refused_stream = 7

-- The stream was reset with this code, by either end, or it was not processed (section 6.8).
-- rule: engines (own) N6 has the code with which the request's stream was reset
abbrev pub WasDropped : EndLog → (id number : ℕ) → Type 0
WasDropped end id number =
    ((ours : Bool) × Contains end.handed (Passed (ResetEvent id number ours)))
    ⊎ ((number ≡ refused_stream) × Contains end.handed (Passed (UnprocessedEvent id)))

-- what a new client refuses its first request for
-- rule: engines (own) N7 comes only where the message breaks a rule or is too large
abbrev pub refusal_of_request : Values → SentMessage → Option Refusal
refusal_of_request values message =
    refusal_of_message (opened Client values) (Open message.head (is_head_alone message)) message

-- The message breaks a rule, or its fields are too many.
-- rule: engines (own) N7 comes only where the message breaks a rule or is too large
abbrev pub IsRefusedMessage : Values → SentMessage → Type 0
IsRefusedMessage values message =
    (broken_by_request message ≢ None) ⊎ (refusal_of_request values message ≡ Some ListTooLarge)

-- The client has refused it for something else.
-- rule: engines (own) N5 comes only where a write has taken nothing
abbrev pub IsRefusedOtherwise : Values → SentMessage → Type 0
IsRefusedOtherwise values message =
    (refusal : Refusal) × (refusal_of_request values message ≡ Some refusal)
    × (refusal ≢ ListTooLarge) × (refusal ≢ Memory)

-- what is said of each end, where the message was accepted for this stream; N1 comes where a call
-- of the link has failed, whatever has happened at the client; at N4 the credit of the connection
-- was returned, and all that could be sent was, unless the input gave nothing, since a body is sent
-- once the server's first octets have come
-- rule: engines (own) N4 comes only where the input ended early
abbrev pub EndsFetchSo : (start now : Traffic) → EndLog → (id : ℕ) → Result Fetched LinkError
    → Type 0
EndsFetchSo start now end id (Ok fetched) = IsFetched (parts_on id end.handed) fetched
EndsFetchSo start now end id (Err (errors.Stream number)) =
    HasFailedWith start now end.log number
EndsFetchSo start now end id (Err (errors.Reset number)) = WasDropped end id number
EndsFetchSo start now end id (Err errors.CutOff) =
    (end.log.failed ≡ None) × HasGiven start now end.log [] × HasTakenAll start now end.log
    × HasReturnedAll end.log × (end.log.input ≢ [] → HasSentAll end)
EndsFetchSo start now end id (Err errors.NoProgress) = HasStalled now end
EndsFetchSo start now end id (Err errors.Refused) = ⊥
EndsFetchSo start now end id (Err errors.Memory) = IsOutOfMemory end.log
EndsFetchSo start now end id (Err errors.Device) = Unit {0}

-- A fetch ends early only before its response is whole, whatever comes after that; out of memory
-- says nothing.
-- rule: engines (own) N4 comes only where the input ended early
abbrev pub EndsUnfinished : EndLog → (id : ℕ) → Result Fetched LinkError → Type 0
EndsUnfinished end id (Ok fetched) = Unit {0}
EndsUnfinished end id (Err errors.Memory) = Unit {0}
EndsUnfinished end id (Err error) = ends_message (parts_on id end.handed) ≡ false

-- The message was accepted for a stream, what was sent there is a prefix of it, and so the fetch
-- has ended.
pub record EndsFetch (start now : Traffic) (message : SentMessage) (end : EndLog)
    (result : Result Fetched LinkError) : Type 0 where
  pub id : ℕ
  pub accepted : said_for id end.accepted ≡ Some (at_once message)
  pub sends : SendsAll end
  pub unfinished : EndsUnfinished end id result
  pub so : EndsFetchSo start now end id result

-- how a fetch ends whose message was not accepted
-- rule: engines (own) N7 comes only where the message breaks a rule or is too large
abbrev pub IsNotAccepted : Values → SentMessage → Result Fetched LinkError → Type 0
IsNotAccepted values message (Err errors.Refused) = IsRefusedMessage values message
IsNotAccepted values message (Err errors.Memory) = Unit {0}
IsNotAccepted values message (Err errors.NoProgress) = IsRefusedOtherwise values message
IsNotAccepted values message result = ⊥

-- The message was not accepted: nothing has happened at the client, and nothing has gone over the
-- link.
-- rule: engines (own) N7 comes only where the message breaks a rule or is too large
pub record EndsAtOnce (values : Values) (message : SentMessage) (start now : Traffic)
    (end : EndLog) (result : Result Fetched LinkError) : Type 0 where
  pub refused : IsNotAccepted values message result
  pub new : end ≡ new_end_log Client values
  pub same : now ≡ start

-- However it ends: this has happened at the client; what the link gave since the connection began,
-- is what it used, and more; and what the link took is the beginning of its output.
pub record Fetches (values : Values) (message : SentMessage) (start now : Traffic)
    (result : Result Fetched LinkError) : Type 0 where
  pub end : EndLog
  pub fetching : IsFetching values message 0 end
  pub linked : IsLinkedInPart start now end.log
  pub so : EndsFetch start now message end result ⊎ EndsAtOnce values message start now end result

-- The same, and why the connection has failed, if it has, by what has happened at the client.
-- rule: engines (own) Over a link it is said why the connection has failed
abbrev pub FetchesWhy : Values → SentMessage → (start now : Traffic) → Result Fetched LinkError
    → Option Why → Type 0
FetchesWhy values message start now result why =
    (fetches : Fetches values message start now result) × IsWhy values fetches.end.log why
