-- What may happen at a server with its handler, step by step.
use Rattle.std.specs.Prelude.{◌≡◌, ◌⊎◌, ◌<◌, ◌≤◌, ℕ, Bool, true, false, List, [], ◌++◌, Some, None}
use Rattle.std.specs.Prelude.{Result, Ok, Err, take, drop, if◌then◌else◌, ◌==◌, length, not}
use Rattle.h2_frame.specs.declared.code.Code.TheVariants.{InternalError, NoError}
use Rattle.h2_spec_log.specs.Acts.{Values, Act, Answer, Fail, PutOut, Release, SendGoAway}
use Rattle.h2_spec_log.specs.Log.{active}
use Rattle.h2_spec_log.specs.LogCalls.{MayAnswer, with_call}
use Rattle.h2_laws_pair.specs.Pairs.{given_out}
use Rattle.h2_ends.specs.declared.end.End.{End}
use Rattle.h2_ends.specs.declared.refusal.EndRefusal.{EndRefusal}
use Rattle.h2_ends.specs.Ends.{EndLog, EndAnswer, EndTook, EndFailed, Handed}
use Rattle.h2_ends.specs.EndTakes.{EndMayTake, end_with_log}
use Rattle.h2_ends.specs.EndCalls.{MaySendBody, MayReleaseAll, unsent_on}
use Rattle.h2_ends.specs.Passes.{MayPumpSome}
use Rattle.h2_ends.specs.Represents.{EndRepresents}
use Rattle.h2_server.specs.declared.exchange.Exchange.{Exchange}
use Rattle.h2_server.specs.declared.exchange.Stage.{Stage}
use Rattle.h2_server.specs.declared.exchange.Stage.TheVariants as stages
use Rattle.h2_server.specs.declared.handler.Cause.{Cause}
use Rattle.h2_server.specs.declared.handler.Cause.TheVariants as causes
use Rattle.h2_server.specs.declared.handler.HandlerFault.{HandlerFault}
use Rattle.h2_server.specs.declared.handler.Part.{Part}
use Rattle.h2_server.specs.declared.handler.Part.TheVariants as parts
use Rattle.h2_server.specs.declared.stop.Stop.{Stop}
use Rattle.h2_server.specs.declared.stop.Stop.TheVariants as stops
use Rattle.h2_server.specs.Exchanges.{Relations, Kept, exchange_at, SetsKept, Handling}
use Rattle.h2_server.specs.Exchanges.{IsSameHandling, awake}
use Rattle.h2_server.specs.Giving.{GivesStageSo, IsRefusedSo, instead_of_rest}
use Rattle.h2_server.specs.Sending.{windows_allow}
use Rattle.h2_server.specs.Telling.{AskedPart, EndsOne, Tells}

-- The answer hands nothing out.
abbrev pub HandsNothing : EndAnswer → Type 0
HandsNothing (EndFailed code) = Unit {0}
HandsNothing (EndTook count handed) = handed ≡ None

-- how far an answer is after octets of its body were sent: all of them, and its end where that was
-- to go; or it can't go on
abbrev pub stage_sent : (all ends : Bool) → Stage
stage_sent all ends =
    if not all then stages.Resets InternalError
    else if ends then stages.Given
    else stages.Parts false

-- How far an answer is after these octets of its body were sent, or refused; given, where the
-- connection can't go on.
abbrev pub IsSentSo : (octets : List ℕ) → (ends : Bool) → Result ℕ EndRefusal → Stage → Type 0
IsSentSo octets ends (Ok count) stage = stage ≡ stage_sent (count == length octets) ends
IsSentSo octets ends (Err refusal) stage =
    (stage ≡ stages.Given) ⊎ IsRefusedSo instead_of_rest refusal stage

-- These octets are sent, as the next ones of the body on a stream.
pub record SendsOctets (end : EndLog) (id : ℕ) (octets : List ℕ) (ends : Bool) (stage : Stage)
    (after : EndLog) : Type 0 where
  pub answer : Result ℕ EndRefusal
  pub sends : MaySendBody end id octets ends answer after
  pub so_far : IsSentSo octets ends answer stage

abbrev pub EndSendsOctets : (old : End) → ℕ → List ℕ → (ends : Bool) → Stage → (new : End)
    → Type 0
EndSendsOctets old id octets ends stage new =
    (values : Values) (end : EndLog) → EndRepresents values old end
    → (after : EndLog) × SendsOctets end id octets ends stage after × EndRepresents values new after

-- What a handler has given of a body is sent, and nothing else; where it has failed the stream is
-- reset with code 2.
-- rule: handlers (own) What is given as an answer is what its handler gave
abbrev pub SendsPart : (end : EndLog) → ℕ → Result Part HandlerFault → (room : List ℕ) → Stage
    → (after : EndLog) → Type 0
SendsPart end id (Ok (parts.Octets count)) room stage after =
    ((count ≡ 0) × (stage ≡ stages.Parts true) × (after ≡ end))
    ⊎ SendsOctets end id (take count room) false stage after
SendsPart end id (Ok (parts.Last count)) room stage after =
    SendsOctets end id (take count room) true stage after
SendsPart end id (Ok (parts.Trailers list)) room stage after =
    (stage ≡ stages.Trails list) × (after ≡ end)
SendsPart end id (Ok parts.Later) room stage after = (stage ≡ stages.Parts true) × (after ≡ end)
SendsPart end id (Err fault) room stage after =
    (stage ≡ stages.Resets InternalError) × (after ≡ end)

abbrev pub EndSendsPart : (old : End) → ℕ → Result Part HandlerFault → (room : List ℕ) → Stage
    → (new : End) → Type 0
EndSendsPart old id part room stage new =
    (values : Values) (end : EndLog) → EndRepresents values old end
    → (after : EndLog) × SendsPart end id part room stage after × EndRepresents values new after

-- The handler was asked for a part of the answer on a stream, of which a part is due, with room for
-- some octets, which the windows allow; and that was sent.
pub record AsksOne {H W : Type 0} (rel : Relations H W) (id : ℕ) (end after : EndLog)
    (old new : Handling H W) : Type 0 where
  pub kept : Kept W
  pub next : Kept W
  pub stage : Stage
  pub room : List ℕ
  pub part : Result Part HandlerFault
  pub was : exchange_at id old.entries ≡ Some kept
  pub due : kept.stage ≡ stages.Parts false
  pub some : 0 < length room
  pub fits : length room ≤ windows_allow end.log id
  pub asked : AskedPart rel room part old.handler new.handler kept next
  pub sends : SendsPart end id part room stage after
  pub now : SetsKept id (Some (record next { stage = stage })) old.entries new.entries

-- How far an answer is once its next was given: as far as that has said; or given, where the
-- connection can't go on.
abbrev pub IsNextStage : Result Stage Stop → Stage → Type 0
IsNextStage (Ok next) stage = stage ≡ next
IsNextStage (Err stop) stage = stage ≡ stages.Given

-- The next of the answer on a stream was given. Where the connection can't go on after that,
-- nothing more is given there.
pub record GivesOne {H W : Type 0} (id : ℕ) (end after : EndLog) (old new : Handling H W)
    : Type 0 where
  pub kept : Kept W
  pub result : Result Stage Stop
  pub stage : Stage
  pub was : exchange_at id old.entries ≡ Some kept
  pub gives : GivesStageSo end id kept.to_head kept.refused kept.stage result after
  pub is : IsNextStage result stage
  pub handler : new.handler ≡ old.handler
  pub now : SetsKept id (Some (record kept { stage = stage })) old.entries new.entries

-- Why an exchange is over that no reset of the peer's has ended: its answer was sent whole and its
-- stream is over; this end has reset it; or the connection is over.
abbrev pub IsOverFor : EndLog → ℕ → Stage → Cause → Type 0
IsOverFor end id stage causes.Done = (stage ≡ stages.Given) × (active end.log id ≡ false)
IsOverFor end id stage (causes.Reset code ours) = (stage ≡ stages.Gone code) × (ours ≡ true)
IsOverFor end id stage causes.Closed = Unit {0}

-- A stream is active, and no octets of a body wait on it, whatever has happened at the server.
abbrev pub IsSentOn : (server : End) → ℕ → Type 0
IsSentOn server id =
    (values : Values) (end : EndLog) → EndRepresents values server end
    → (active end.log id ≡ true) × (unsent_on end id ≡ 0)

-- The rest of a request may be stopped: it was refused, and all of the answer was sent.
-- rule: 8.1 (own) The stream of a refused request is reset with NO_ERROR after the answer
pub record MayStopReading {W : Type 0} (end : EndLog) (id : ℕ) (kept : Kept W) : Type 0 where
  pub refused : kept.refused ≡ true
  pub given : kept.stage ≡ stages.Given
  pub active : active end.log id ≡ true
  pub sent : unsent_on end id ≡ 0

-- The same of the code: whatever has happened at the server, and whatever is kept on that stream.
abbrev pub CanStopReading : {W : Type 0} → (server : End) → ℕ → List (ℕ × Exchange W) → Type 0
CanStopReading {W} server id entries =
    (values : Values) (end : EndLog) → EndRepresents values server end
    → (kept : Kept W) → exchange_at id entries ≡ Some kept → MayStopReading end id kept

-- These octets of a piece were used: its first ones.
pub record UsesFirst (end : EndLog) (piece used : List ℕ) (after : EndLog) : Type 0 where
  pub input : after.log.input ≡ end.log.input ++ used
  pub rest : List ℕ
  pub first : piece ≡ used ++ rest

-- the octets that were given out since
abbrev pub given_between : (end after : EndLog) → List ℕ
given_between end after = drop (length (given_out end.log)) (given_out after.log)

-- The call is one that is made for the connection, and not for an answer: GOAWAY, credit that is
-- returned, or the end of the connection.
abbrev pub IsOwnCall : Act → Type 0
IsOwnCall SendGoAway = Unit {0}
IsOwnCall (Release id count) = Unit {0}
IsOwnCall (Fail code) = Unit {0}
IsOwnCall act = ⊥

-- One step of a server with its handler, in which it has used these octets of its input and given
-- out these of its output. What was handed out is told, unless something may be lost.
pub data HandledStep {H W : Type 0} (rel : Relations H W)
    : (loses : Bool) → (used given : List ℕ) → (end : EndLog) → (old : Handling H W)
    → (after : EndLog) → (new : Handling H W) → Type 0 where
  -- something was counted
  notes : {loses : Bool} {end after : EndLog} {old new : Handling H W} → after ≡ end
      → IsSameHandling old new
      → HandledStep rel loses [] [] end old after new
  -- octets were taken, and nothing was handed out
  takes : {loses : Bool} {end after : EndLog} {old new : Handling H W}
      (piece used : List ℕ) (answer : EndAnswer)
      → EndMayTake end piece answer after → UsesFirst end piece used after → HandsNothing answer
      → IsSameHandling old new → HandledStep rel loses used [] end old after new
  -- octets were taken, and what was handed out was told
  tells : {loses : Bool} {end after : EndLog} {old new : Handling H W}
      (piece used : List ℕ) (count : ℕ)
      (handed : Handed) → EndMayTake end piece (EndTook count (Some handed)) after
      → UsesFirst end piece used after → Tells rel handed old new
      → HandledStep rel loses used [] end old after new
  -- the same, but there was no memory for it: it is lost
  lacks_memory : {end after : EndLog} {old new : Handling H W} (piece used : List ℕ) (count : ℕ)
      (handed : Handed) → EndMayTake end piece (EndTook count (Some handed)) after
      → UsesFirst end piece used after → IsSameHandling old new
      → HandledStep rel true used [] end old after new
  gives : {loses : Bool} {end after : EndLog} {old new : Handling H W} (id : ℕ)
      → GivesOne id end after old new
      → HandledStep rel loses [] [] end old after new
  asks : {loses : Bool} {end after : EndLog} {old new : Handling H W} (id : ℕ)
      → AsksOne rel id end after old new
      → HandledStep rel loses [] [] end old after new
  ends : {loses : Bool} {end after : EndLog} {old new : Handling H W} (id : ℕ) (cause : Cause)
      (over : EndsOne rel id cause old new) → IsOverFor end id over.kept.stage cause
      → after ≡ end → HandledStep rel loses [] [] end old after new
  -- all of the answer to a request that was refused was sent, and the rest of the request has not
  -- come: its stream is to be reset with NO_ERROR
  stops_reading : {loses : Bool} {end after : EndLog} {old new : Handling H W} (id : ℕ)
      (kept : Kept W) → exchange_at id old.entries ≡ Some kept → MayStopReading end id kept
      → SetsKept id (Some (record kept { stage = stages.Resets NoError })) old.entries new.entries
      → new.handler ≡ old.handler → after ≡ end
      → HandledStep rel loses [] [] end old after new
  -- a handler that had no part may be asked again
  wakes : {loses : Bool} {end after : EndLog} {old new : Handling H W} (id : ℕ) (kept : Kept W)
      → exchange_at id old.entries ≡ Some kept
      → SetsKept id (Some (awake kept)) old.entries new.entries → new.handler ≡ old.handler
      → after ≡ end → HandledStep rel loses [] [] end old after new
  releases : {loses : Bool} {end after : EndLog} {old new : Handling H W}
      (answer : Result (Unit {0}) EndRefusal)
      → MayReleaseAll end answer after → IsSameHandling old new
      → HandledStep rel loses [] [] end old after new
  pumps : {loses : Bool} {end after : EndLog} {old new : Handling H W}
      (most : ℕ) (answer : Result ℕ EndRefusal)
      → MayPumpSome most end answer after → IsSameHandling old new
      → HandledStep rel loses [] [] end old after new
  -- a call that is the connection's own
  calls : {loses : Bool} {end after : EndLog} {old new : Handling H W} (act : Act) (answer : Answer)
      → IsOwnCall act → MayAnswer end.log act answer
      → after ≡ end_with_log end (with_call end.log act answer) → IsSameHandling old new
      → HandledStep rel loses [] [] end old after new
  -- output was put out
  puts_out : {loses : Bool} {end after : EndLog} {old new : Handling H W}
      (count : ℕ) (answer : Answer)
      → MayAnswer end.log (PutOut count) answer
      → after ≡ end_with_log end (with_call end.log (PutOut count) answer)
      → IsSameHandling old new → HandledStep rel loses []
      (given_between end after) end old after new

-- Steps, one after another, in which these octets were used and these given out.
pub data Steps {H W : Type 0} (rel : Relations H W) (loses : Bool) (after : EndLog)
    (new : Handling H W)
    : (used given : List ℕ) → (end : EndLog) → (old : Handling H W) → Type 0 where
  none : Steps rel loses after new [] [] after new
  more : {used given more_used more_given : List ℕ} {end next : EndLog} {old mid : Handling H W}
      → HandledStep rel loses used given end old next mid
      → Steps rel loses after new more_used more_given next mid
      → Steps rel loses after new (used ++ more_used) (given ++ more_given) end old

-- Whatever has happened at the server, such steps were made, in which these octets were used and
-- none given out, and nothing was lost; and the end represents what has happened after them.
abbrev pub Handles : {H W : Type 0} → Relations H W → (used : List ℕ) → (old_end : End)
    → (old : Handling H W) → (new_end : End) → (new : Handling H W) → Type 0
Handles rel used old_end old new_end new =
    (values : Values) (end : EndLog) → EndRepresents values old_end end
    → (after : EndLog) × Steps rel false after new used [] end old
    × EndRepresents values new_end after

-- The same, whatever octets were used and given out, and though something may be lost.
abbrev pub HandlesAny : {H W : Type 0} → Relations H W → (old_end : End) → (old : Handling H W)
    → (new_end : End) → (new : Handling H W) → Type 0
HandlesAny rel old_end old new_end new =
    (values : Values) (end : EndLog) → EndRepresents values old_end end
    → (used given : List ℕ) × (after : EndLog)
    × Steps rel true after new used given end old × EndRepresents values new_end after

-- whether something may be lost where the connection can't go on for this: for memory alone
abbrev pub loses_by : Stop → Bool
loses_by stops.Memory = true
loses_by stop = false

-- what was made of a piece: so many of its octets were used, or the connection can't go on once
-- some first ones were
abbrev pub HandlesPiece : {H W : Type 0} → Relations H W → (piece : List ℕ) → (old_end : End)
    → (old : Handling H W) → (new_end : End) → (new : Handling H W) → Result ℕ Stop → Type 0
HandlesPiece rel piece old_end old new_end new (Ok count) =
    Handles rel (take count piece) old_end old new_end new
HandlesPiece rel piece old_end old new_end new (Err stop) =
    (values : Values) (end : EndLog) → EndRepresents values old_end end
    → (used rest : List ℕ) × (piece ≡ used ++ rest)
    × ((after : EndLog) × Steps rel (loses_by stop) after new used [] end old
    × EndRepresents values new_end after)
