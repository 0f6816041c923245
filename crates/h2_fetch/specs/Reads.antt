-- What a client that has made requests reads from a link, and how it ends that can't go on.
use Rattle.std.specs.Prelude.{◌≡◌, ◌≢◌, ◌<◌, List, [], ℕ, length, take, Some, None, Result, Ok, Err}
use Rattle.h2_frame.specs.declared.code.Code.{Code}
use Rattle.h2_spec_log.specs.Acts.{Values}
use Rattle.h2_ends.specs.declared.end.End.{End}
use Rattle.h2_ends.specs.Ends.{EndLog}
use Rattle.h2_ends.specs.Represents.{EndRepresents}
use Rattle.h2_link.specs.declared.error.LinkError.{LinkError}
use Rattle.h2_engines.specs.Linked.{Traffic, IsLinked, IsLinkedInPart}
use Rattle.h2_engines.specs.ServerSteps.{IsSameOfMessages, error_with}
use Rattle.h2_engines.specs.declared.sending.Credit.{Credit}
use Rattle.h2_fetch.specs.Sends.{AllowsCredit, Asking, HasAsked, HasReturned}
use Rattle.h2_fetch.specs.Several.{StopsAllFor}

-- Octets were read: the first `count` of the buffer, in a turn at least; or no more can be.
unfoldable pub ReadSo : (start now : Traffic) → (before after : EndLog) → (buffer : List ℕ)
    → Result ℕ LinkError → Type 0
ReadSo start now before after buffer (Ok count) =
    (after.log.failed ≡ None) × IsLinked start now after.log (take count buffer)
    × (length before.log.turns < length after.log.turns)
ReadSo start now before after buffer (Err error) =
    IsLinkedInPart start now after.log × StopsAllFor start now after error

-- All that could go was sent and a piece was read, or as far as that went; nothing was handed out.
pub record ReadOver (credit : Credit) (values : Values) (asking : Asking) (start now : Traffic)
    (before : EndLog) (new : End) (buffer : List ℕ) (result : Result ℕ LinkError) : Type 0
  where
    pub after : EndLog
    pub returned : HasReturned credit before after
    pub asks : HasAsked values asking after
    pub represents : EndRepresents values new after
    pub same : IsSameOfMessages before after
    pub so : ReadSo start now before after buffer result

-- Whatever has happened at a client that is up and has used all that it has read.
abbrev pub ReadsOver : Credit → (before now : Traffic) → (old new : End) → (buffer : List ℕ)
    → Result ℕ LinkError → Type 0
ReadsOver credit before now old new buffer result =
    (values : Values) (asking : Asking) (start : Traffic) (end : EndLog)
    → EndRepresents values old end → HasAsked values asking end → AllowsCredit credit asking
    → IsLinked start before end.log [] → end.log.failed ≡ None
    → ReadOver credit values asking start now end new buffer result

-- While the connection is up a client ends at once, with its own error; once that has failed, when
-- all was written, or that could not be.
pub data EndedSo (start now : Traffic) (before after : EndLog) (error result : LinkError) : Type 0
  where
    ends_at_once : before.log.failed ≡ None → after ≡ before → result ≡ error
        → EndedSo start now before after error result
    ends_failed : before.log.failed ≢ None → StopsAllFor start now after result
        → EndedSo start now before after error result

-- A client that could not go on has ended; nothing was handed out.
pub record EndedOver (values : Values) (asking : Asking) (start now : Traffic) (before : EndLog)
    (new : End) (error result : LinkError) : Type 0 where
  pub after : EndLog
  pub asks : HasAsked values asking after
  pub represents : EndRepresents values new after
  pub same : IsSameOfMessages before after
  pub linked : IsLinkedInPart start now after.log
  pub so : EndedSo start now before after error result

-- Whatever has happened at a client that ends for this error, which is that of its connection where
-- that has failed.
abbrev pub EndsOver : (before now : Traffic) → (old new : End) → (error result : LinkError)
    → Type 0
EndsOver before now old new error result =
    (values : Values) (asking : Asking) (start : Traffic) (end : EndLog) (unused : List ℕ)
    → EndRepresents values old end → HasAsked values asking end
    → IsLinked start before end.log unused
    → ((code : Code) → end.log.failed ≡ Some code → error ≡ error_with code)
    → EndedOver values asking start now end new error result
