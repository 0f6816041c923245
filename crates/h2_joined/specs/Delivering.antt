-- A delivery under way: what a call of `take` made of an end, and what is kept of it.
use Rattle.std.specs.Prelude.{◌≡◌, ◌≢◌, ◌+◌, ◌≤◌, ℕ, Bool, List, length, drop, ◌<◌, ◌⊎◌, true, false}
use Rattle.std.specs.Prelude.{Option, None}
use Rattle.h2_spec_log.specs.Acts.{Values}
use Rattle.h2_ends.specs.declared.end.End.{End}
use Rattle.h2_ends.specs.Ends.{EndLog, Handed, EndAnswer, EndTook, EndFailed}
use Rattle.h2_ends.specs.EndTakes.{EndMayTake}
use Rattle.h2_ends.specs.Represents.{EndRepresents}
use Rattle.h2_joined.specs.declared.act.Side.{Side}
use Rattle.h2_joined.specs.declared.octets.Taking.{Taking}
use Rattle.h2_joined.specs.declared.octets.Taking.TheVariants as takings
use Rattle.h2_joined.specs.declared.octets.Next.{Next}
use Rattle.h2_joined.specs.declared.octets.Next.TheVariants as nexts
use Rattle.h2_joined.specs.declared.octets.Delivered.{Delivered}
use Rattle.h2_joined.specs.declared.octets.Delivered.TheVariants as delivered
use Rattle.h2_joined.specs.declared.store.Store.{Store}
use Rattle.h2_joined.specs.declared.joined.Joined.{Joined}
use Rattle.h2_joined.specs.declared.pipe.Pipe.{Pipe}
use Rattle.h2_joined.specs.Joints.{Delivery, Whole, Fails, Stops, IsDelivered}
use Rattle.h2_joined.specs.Stored.{HasRoomForEvent, KeepsItems}
use Rattle.h2_joined.specs.Kept.{KeepsHanded, end_at, kept_of, other_side}

-- the answer of a call of `take`, with this event
abbrev pub end_answer : Taking → Option Handed → EndAnswer
end_answer (takings.Took used hands) handed = EndTook used handed
end_answer (takings.Failed code) handed = EndFailed code

-- It says whether there was an event.
abbrev pub SaysHanded : Taking → Option Handed → Type 0
SaysHanded (takings.Took used true) handed = handed ≢ None
SaysHanded (takings.Took used false) handed = handed ≡ None
SaysHanded (takings.Failed code) handed = handed ≡ None

-- At most `size` octets of the piece were used.
abbrev pub UsesWithin : Taking → ℕ → Type 0
UsesWithin (takings.Took used hands) size = used ≤ size
UsesWithin (takings.Failed code) size = Unit {0}

-- how many octets a body has at most that a call of `take` hands out: those of a frame that were
-- kept, and those of the piece
abbrev pub most_body : EndLog → List ℕ → ℕ
most_body end piece = length end.log.unparsed + length piece

-- The call of `take` may have this answer, the end represents what has happened then, and its event
-- is kept, where there was room for the largest one.
pub record IsTaken (values : Values) (end : EndLog) (store : Store) (piece : List ℕ)
    (taking : Taking) (new : End) (new_store : Store) : Type 0 where
  pub after : EndLog
  pub handed : Option Handed
  pub may : EndMayTake end piece (end_answer taking handed) after
  pub says : SaysHanded taking handed
  pub represents : EndRepresents values new after
  pub kept : (end.log.failed ≡ None → HasRoomForEvent (most_body end piece) store)
      → KeepsHanded store end.handed → KeepsHanded new_store after.handed

-- Whatever has happened at the end.
abbrev pub TakesOnce : End → Store → List ℕ → Taking → End → Store → Type 0
TakesOnce old store piece taking new new_store =
    (values : Values) (end : EndLog) → EndRepresents values old end
    → IsTaken values end store piece taking new new_store

-- Only this end has changed, and of what is kept of it only the events.
pub record ChangesOnly (side : Side) (old new : Joined) : Type 0 where
  pub other_end : end_at (other_side side) new ≡ end_at (other_side side) old
  pub other_kept : kept_of (other_side side) new ≡ kept_of (other_side side) old
  pub accepted : (kept_of side new).accepted ≡ (kept_of side old).accepted
  pub incoming : (kept_of side new).incoming ≡ (kept_of side old).incoming
  pub unfinished : (kept_of side new).unfinished ≡ (kept_of side old).unfinished

-- The call was made at an end.
pub record TookAt (side : Side) (old : Joined) (piece : List ℕ) (taking : Taking) (new : Joined)
    : Type 0 where
  pub within : UsesWithin taking (length piece)
  pub takes : TakesOnce (end_at side old) (kept_of side old).handed piece taking
      (end_at side new) (kept_of side new).handed
  pub only : ChangesOnly side old new

-- Room was made for the largest event of a call at an end, or memory was refused.
pub record MakesRoom (side : Side) (old : Joined) (piece : List ℕ) (made : Bool) (new : Joined)
    : Type 0 where
  pub room : made ≡ true → (values : Values) (end : EndLog)
      → EndRepresents values (end_at side old) end → end.log.failed ≡ None
      → HasRoomForEvent (most_body end piece) (kept_of side new).handed
  pub items : KeepsItems (kept_of side old).handed (kept_of side new).handed
  pub one_end : end_at side new ≡ end_at side old
  pub only : ChangesOnly side old new

-- What has happened at an end, that is what it represents, and is kept.
pub record IsKeptAt (values : Values) (side : Side) (joined : Joined) (end : EndLog) : Type 0 where
  pub represents : EndRepresents values (end_at side joined) end
  pub handed : KeepsHanded (kept_of side joined).handed end.handed

-- how a delivery goes on after a call of `take`: not at all, or with the octets after some; or no
-- call was made
abbrev pub DeliveryGoesOn : EndLog → List ℕ → Next → EndLog → Type 0
DeliveryGoesOn end piece (nexts.Again used) after =
    (handed : Option Handed) × EndMayTake end piece (EndTook used handed) after
    × ((used < length piece) ⊎ (handed ≢ None))
DeliveryGoesOn end piece nexts.Whole after =
    EndMayTake end piece (EndTook (length piece) None) after
DeliveryGoesOn end piece (nexts.Failed code) after = EndMayTake end piece (EndFailed code) after
DeliveryGoesOn end piece nexts.Stopped after = after ≡ end

-- At most `size` octets of the piece were used.
abbrev pub GoesWithin : Next → ℕ → Type 0
GoesWithin (nexts.Again used) size = used ≤ size
GoesWithin nexts.Whole size = Unit {0}
GoesWithin (nexts.Failed code) size = Unit {0}
GoesWithin nexts.Stopped size = Unit {0}

-- Whatever has happened at the end: the delivery goes on in this way, and nothing is lost.
pub record TakesNextOf (values : Values) (side : Side) (end : EndLog) (piece : List ℕ)
    (next : Next) (new : Joined) : Type 0 where
  pub after : EndLog
  pub goes_on : DeliveryGoesOn end piece next after
  pub accepted : after.accepted ≡ end.accepted
  pub kept : IsKeptAt values side new after

-- rule: joined (own) A delivery without memory stops before a call and loses nothing
pub record TakesNext (side : Side) (old : Joined) (piece : List ℕ) (next : Next) (new : Joined)
    : Type 0 where
  pub within : GoesWithin next (length piece)
  pub only : ChangesOnly side old new
  pub takes : (values : Values) (end : EndLog) → IsKeptAt values side old end
      → TakesNextOf values side end piece next new

-- how a delivery has ended
abbrev pub delivery_of : Delivered → List ℕ → Delivery
delivery_of delivered.Whole octets = Whole
delivery_of (delivered.Failed code) octets = Fails code
delivery_of (delivered.Stopped used) octets = Stops (drop used octets)

-- At most `size` octets were used.
abbrev pub EndsWithin : Delivered → ℕ → Type 0
EndsWithin delivered.Whole size = Unit {0}
EndsWithin (delivered.Failed code) size = Unit {0}
EndsWithin (delivered.Stopped used) size = used ≤ size

-- Octets were delivered to an end at which this had happened: the delivery has ended in this way,
-- and what has happened at the end now is what is kept of it.
pub record TakesOctetsOf (values : Values) (side : Side) (end : EndLog) (octets : List ℕ)
    (end_of_it : Delivered) (new : Joined) : Type 0 where
  pub after : EndLog
  pub delivers : IsDelivered 0 end octets (delivery_of end_of_it octets) after
  pub accepted : after.accepted ≡ end.accepted
  pub kept : IsKeptAt values side new after

-- Octets were delivered to an end, whatever had happened at it.
pub record TakesDelivery (side : Side) (old : Joined) (octets : List ℕ) (end_of_it : Delivered)
    (new : Joined) : Type 0 where
  pub within : EndsWithin end_of_it (length octets)
  pub only : ChangesOnly side old new
  pub takes : (values : Values) (end : EndLog) → IsKeptAt values side old end
      → TakesOctetsOf values side end octets end_of_it new

-- The pipe to an end is taken out.
pub record TakesPipe (side : Side) (old : Joined) (pipe : Pipe) (new : Joined) : Type 0 where
  pub pipe_is : pipe ≡ (kept_of side old).incoming
  pub one_end : end_at side new ≡ end_at side old
  pub other_end : end_at (other_side side) new ≡ end_at (other_side side) old
  pub other_kept : kept_of (other_side side) new ≡ kept_of (other_side side) old
  pub accepted : (kept_of side new).accepted ≡ (kept_of side old).accepted
  pub handed : (kept_of side new).handed ≡ (kept_of side old).handed

-- It is put back, and it is kept whether the delivery has stopped.
pub record PutsPipe (side : Side) (old : Joined) (pipe : Pipe) (unfinished : Bool) (new : Joined)
    : Type 0 where
  pub pipe_is : (kept_of side new).incoming ≡ pipe
  pub unfinished_is : (kept_of side new).unfinished ≡ unfinished
  pub one_end : end_at side new ≡ end_at side old
  pub other_end : end_at (other_side side) new ≡ end_at (other_side side) old
  pub other_kept : kept_of (other_side side) new ≡ kept_of (other_side side) old
  pub accepted : (kept_of side new).accepted ≡ (kept_of side old).accepted
  pub handed : (kept_of side new).handed ≡ (kept_of side old).handed
