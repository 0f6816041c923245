-- Where the octets of a body lie that is reported.
use Rattle.std.specs.Prelude.{◌≡◌, ℕ, List, Option, None, Some, IsSome, IfSome, Result, Ok, Err}
use Rattle.h2_frame.specs.declared.code.Code.{Code}
use Rattle.h2_wire.specs.declared.cut.Complete.{Complete}
use Rattle.h2_wire.specs.Cutter.{CutterState, body_at}
use Rattle.h2_core.specs.declared.event.Event.TheVariants as events
use Rattle.h2_conn.specs.declared.taken.Progress.{Progress}
use Rattle.h2_conn.specs.Events.{LocatedEvent}

-- the frame of the body that is reported, if one is
abbrev pub frame_in : Option LocatedEvent → Option Complete
frame_in (Some (events.Data id frame flow end)) = Some frame
frame_in _ = None

-- The octets of a body that is reported lie in the cutter or the piece.
abbrev pub LiesThere : CutterState → List ℕ → Result Progress Code → Type 0
LiesThere cutter piece (Ok progress) =
    IfSome (frame_in progress.happened) (λ frame. IsSome (body_at cutter piece frame))
LiesThere cutter piece (Err code) = Unit {0}

-- The octets are those of the body that is reported, which lie there.
abbrev pub IsBodyOf : CutterState → List ℕ → List ℕ → Result Progress Code → Type 0
IsBodyOf cutter piece octets (Ok progress) =
    IfSome (frame_in progress.happened) (λ frame. body_at cutter piece frame ≡ Some octets)
IsBodyOf cutter piece octets (Err code) = Unit {0}
