-- A client or a server after a piece was handed to it, and what was written meanwhile.
use Rattle.std.specs.Prelude.{◌≡◌, ◌≢◌, ◌≤◌, ℕ, Bool, true, false, List, ◌++◌, drop, Option}
use Rattle.std.specs.Prelude.{Some, None, Result, Ok, Err}
use Rattle.std.specs.Io.KnownBytes.{Appends}
use Rattle.h2_frame.specs.declared.code.Code.{Code}
use Rattle.h2_frame.specs.declared.code.Code.TheVariants.{InternalError}
use Rattle.h2_cli.specs.declared.failure.Failure.TheVariants as failures
use Rattle.h2_ends.specs.declared.end.End.{End}
use Rattle.h2_ends.specs.Ends.{EndLog, Handed, EndAnswer, EndTook, EndFailed}
use Rattle.h2_ends.specs.EndTakes.{EndMayTake}
use Rattle.h2_ends.specs.Represents.{EndRepresents}
use Rattle.h2_events.specs.Replayer.{first_values}
use Rattle.h2_messages.specs.declared.end.MessageEnd.{MessageEnd}
use Rattle.h2_messages.specs.declared.end.MessageEnd.TheVariants as ends
use Rattle.h2_messages.specs.declared.handing.Handing.{Handing}
use Rattle.h2_messages.specs.declared.handing.Handing.TheVariants as handings
use Rattle.h2_messages.specs.declared.parts.Unwritten.{Unwritten}
use Rattle.h2_messages.specs.declared.parts.Unwritten.TheVariants as unwrittens
use Rattle.h2_messages.specs.declared.taking.Taken.{Taken}
use Rattle.h2_messages.specs.declared.taking.TakeError.{TakeError}
use Rattle.h2_messages.specs.declared.taking.TakeError.TheVariants as errors
use Rattle.h2_messages.specs.Messages.{TakesMessages}
use Rattle.h2_messages.specs.PartLines.{call_lines, lent_lines, unwritten_of}

-- the end that a client or a server is
abbrev pub inner_end : MessageEnd → End
inner_end (ends.Client client) = client.end
inner_end (ends.Server server) = server.end

-- The end represents what has happened.
abbrev pub MessageEndRepresents : MessageEnd → EndLog → Type 0
MessageEndRepresents one end = EndRepresents first_values (inner_end one) end

-- the answer of a call, with what it hands out
abbrev pub answer_of_handing : Handing → Option Handed → EndAnswer
answer_of_handing (handings.Took used later) handed = EndTook used handed
answer_of_handing (handings.Failed code) handed = EndFailed code

-- What is unwritten is of what is handed out; a failure hands out nothing.
abbrev pub LeavesUnwritten : Handing → Option Handed → Type 0
LeavesUnwritten (handings.Took used later) handed = later ≡ unwritten_of handed
LeavesUnwritten (handings.Failed code) handed = handed ≡ None

-- At most `size` octets of the piece were used.
abbrev pub HandsWithin : Handing → (size : ℕ) → Type 0
HandsWithin (handings.Took used later) size = used ≤ size
HandsWithin (handings.Failed code) size = Unit {0}

-- A call of `take`: its answer, what has happened then, and what was written of what it lent.
pub record HandsOnce (end : EndLog) (piece : List ℕ) (handing : Handing) (new : End)
    (before after : Option (List ℕ)) : Type 0 where
  pub next : EndLog
  pub handed : Option Handed
  pub may : EndMayTake end piece (answer_of_handing handing handed) next
  pub leaves : LeavesUnwritten handing handed
  pub represents : EndRepresents first_values new next
  pub written : Appends before after (lent_lines handed)

-- Whatever has happened at the end.
abbrev pub HandsOut : End → (piece : List ℕ) → Handing → End → (before after : Option (List ℕ))
    → Type 0
HandsOut old piece handing new before after =
    (end : EndLog) → EndRepresents first_values old end
    → HandsOnce end piece handing new before after

-- what is still to be written
abbrev pub unwritten_in : Handing → Unwritten
unwritten_in (handings.Took used later) = later
unwritten_in (handings.Failed code) = unwrittens.Nothing

-- whether something was handed out
abbrev pub hands_in : Unwritten → Bool
hands_in unwrittens.Nothing = false
hands_in unwrittens.Written = true
hands_in (unwrittens.Body id count end) = true
hands_in (unwrittens.Reset id code ours) = true

-- why no more is taken once the connection has failed with this code: for a fault of the peer, or
-- out of memory
-- rule: messages (own) The status is 1 only where its connection has failed
abbrev pub error_of_code : Code → TakeError
error_of_code InternalError = errors.Failed failures.Memory
error_of_code code = errors.Fault code

-- what is left to know of a call once all is written
abbrev pub taken_of : Handing → Result Taken TakeError
taken_of (handings.Took used later) = Ok (record { used = used; hands = hands_in later })
taken_of (handings.Failed code) = Err (error_of_code code)

-- It says whether something was handed out.
abbrev pub SaysHands : Taken → Option Handed → Type 0
SaysHands taken None = taken.hands ≡ false
SaysHands taken (Some handed) = taken.hands ≡ true

-- A call of `take`, and the lines that were written of it.
pub record CallsOnce (end : EndLog) (piece : List ℕ) (taken : Taken) (new : MessageEnd)
    (before after : Option (List ℕ)) : Type 0 where
  pub next : EndLog
  pub handed : Option Handed
  pub may : EndMayTake end piece (EndTook taken.used handed) next
  pub says : SaysHands taken handed
  pub represents : MessageEndRepresents new next
  pub written : Appends before after (call_lines end next handed)

-- The connection failed in it.
pub record FailsOnce (end : EndLog) (piece : List ℕ) (code : Code) (new : MessageEnd)
    (before after : Option (List ℕ)) : Type 0 where
  pub next : EndLog
  pub may : EndMayTake end piece (EndFailed code) next
  pub represents : MessageEndRepresents new next
  pub written : Appends before after (call_lines end next None)

-- Whatever has happened at the end. A failure of memory or of the writer says nothing of it.
abbrev pub CallsTake : MessageEnd → (piece : List ℕ) → Result Taken TakeError → MessageEnd
    → (before after : Option (List ℕ)) → Type 0
CallsTake old piece (Ok taken) new before after =
    (end : EndLog) → MessageEndRepresents old end → CallsOnce end piece taken new before after
CallsTake old piece (Err (errors.Fault code)) new before after =
    ((end : EndLog) → MessageEndRepresents old end → FailsOnce end piece code new before after)
    × (code ≢ InternalError)
CallsTake old piece (Err (errors.Failed failure)) new before after = failure ≢ failures.BadHex

-- A piece was handed to the end, until it was used or the connection failed, and the lines were
-- written.
pub record TakesOf (end : EndLog) (piece : List ℕ) (fault : Option Code) (new : MessageEnd)
    (before after : Option (List ℕ)) : Type 0 where
  pub next : EndLog
  pub lines : List ℕ
  pub takes : TakesMessages end piece fault lines next
  pub represents : MessageEndRepresents new next
  pub written : Appends before after lines

-- Whatever has happened at the end.
abbrev pub TakesGivenPiece : MessageEnd → (piece : List ℕ) → (fault : Option Code) → MessageEnd
    → (before after : Option (List ℕ)) → Type 0
TakesGivenPiece old piece fault new before after =
    (end : EndLog) → MessageEndRepresents old end → TakesOf end piece fault new before after

-- A prefix of the piece was: what comes of the octets after it comes of the piece.
pub record TakesBeginningOf (end : EndLog) (piece : List ℕ) (done : ℕ) (new : MessageEnd)
    (before after : Option (List ℕ)) : Type 0 where
  pub between : EndLog
  pub first : List ℕ
  pub represents : MessageEndRepresents new between
  pub written : Appends before after first
  pub continues : (fault : Option Code) (more : List ℕ) (next : EndLog)
      → TakesMessages between (drop done piece) fault more next
      → TakesMessages end piece fault (first ++ more) next

abbrev pub TakesBeginning : MessageEnd → (piece : List ℕ) → (done : ℕ) → MessageEnd
    → (before after : Option (List ℕ)) → Type 0
TakesBeginning old piece done new before after =
    (end : EndLog) → MessageEndRepresents old end → TakesBeginningOf end piece done new before after

-- what an error of handing a piece to an end says of the end; a failure says nothing of it
abbrev pub TakeErrorReports : MessageEnd → (piece : List ℕ) → TakeError → MessageEnd
    → (before after : Option (List ℕ)) → Type 0
TakeErrorReports old piece (errors.Fault code) new before after =
    TakesGivenPiece old piece (Some code) new before after × (code ≢ InternalError)
TakeErrorReports old piece (errors.Failed failure) new before after = failure ≢ failures.BadHex

-- The error is a failure: no fault of the peer, and not that the input isn't hexadecimal.
abbrev pub IsFailure : TakeError → Type 0
IsFailure (errors.Fault code) = ⊥
IsFailure (errors.Failed failure) = failure ≢ failures.BadHex
