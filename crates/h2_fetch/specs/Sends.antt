-- What a client that has made requests sends over a link, whatever has happened at it.
use Rattle.std.specs.Prelude.{◌≡◌, ◌<◌, List, ℕ, length, None, Result, Err, OnOk}
use Rattle.h2_spec_log.specs.Acts.{Values}
use Rattle.h2_message.specs.Messages.{SentMessage}
use Rattle.h2_ends.specs.declared.end.End.{End}
use Rattle.h2_ends.specs.Ends.{EndLog}
use Rattle.h2_ends.specs.Represents.{EndRepresents}
use Rattle.h2_link.specs.declared.error.LinkError.{LinkError}
use Rattle.h2_link.specs.declared.error.LinkError.TheVariants as errors
use Rattle.h2_engines.specs.declared.sending.Credit.{Credit}
use Rattle.h2_engines.specs.declared.sending.Credit.TheVariants.{On}
use Rattle.h2_engines.specs.ClientHistories.{IsFetching}
use Rattle.h2_engines.specs.Failures.{IsOutOfMemory}
use Rattle.h2_engines.specs.Linked.{Traffic, HasGiven, HasStalled, IsLinked}
use Rattle.h2_engines.specs.Sending.{HasSentWaiting}
use Rattle.h2_engines.specs.ServerSteps.{IsSameOfMessages, TookBy}
use Rattle.h2_fetch.specs.Several.{AskedOn, IsFetchingSeveral}

-- what a client has asked for: it makes one request, or several; and by how much it has widened the
-- window of the connection
pub data Asking : Type 0 where
  AsksOne : (message : SentMessage) → (wide : ℕ) → Asking
  AsksSeveral : (asked : List AskedOn) → (wide : ℕ) → Asking

-- What has happened at a client that has asked so.
abbrev pub HasAsked : Values → Asking → EndLog → Type 0
HasAsked values (AsksOne message wide) end = IsFetching values message wide end
HasAsked values (AsksSeveral asked wide) end = IsFetchingSeveral values wide asked end

-- Whose credit may be returned on one stream alone: that of several requests.
abbrev pub AllowsCredit : Credit → Asking → Type 0
AllowsCredit (On id) (AsksOne message wide) = ⊥
AllowsCredit credit asking = Unit {0}

-- Why sending has ended early: memory was refused, or the link has stalled.
-- rule: engines (own) N5 comes only where a write has taken nothing
abbrev pub StopsSending : {A : Type 0} → (now : Traffic) → EndLog → Result A LinkError → Type 0
StopsSending now end (Err errors.Memory) = IsOutOfMemory end.log
StopsSending now end (Err errors.NoProgress) = HasStalled now end
StopsSending now end result = Unit {0}

-- This credit was returned since, and what waits was sent, before anything else: the calls of that
-- are among those that were made.
-- rule: engines (own) A response that is waited for has its window, and no other
pub record HasReturned (credit : Credit) (before after : EndLog) : Type 0 where
  pub first : EndLog
  pub result : Result (Unit {0}) LinkError
  pub sent : HasSentWaiting credit before first result
  pub on : IsSameOfMessages first after

-- Credit was returned, what could go of the request was sent, and all of that was written, or as
-- far as it went.
pub record SentOver (credit : Credit) (values : Values) (asking : Asking) (start now : Traffic)
    (before : EndLog) (new : End) (unused : List ℕ) (result : Result (Unit {0}) LinkError) : Type 0
  where
    pub after : EndLog
    pub returned : HasReturned credit before after
    pub asks : HasAsked values asking after
    pub represents : EndRepresents values new after
    pub same : IsSameOfMessages before after
    pub given : HasGiven start now after.log unused
    pub taken : TookBy start now after.log result
    pub turns : OnOk result (length before.log.turns < length after.log.turns)
    pub why : StopsSending now after result

abbrev pub SendsAllOver : Credit → (before now : Traffic) → (old new : End)
    → Result (Unit {0}) LinkError → Type 0
SendsAllOver credit before now old new result =
    (values : Values) (asking : Asking) (start : Traffic) (end : EndLog) (unused : List ℕ)
    → EndRepresents values old end → HasAsked values asking end → AllowsCredit credit asking
    → IsLinked start before end.log unused → end.log.failed ≡ None
    → SentOver credit values asking start now end new unused result
