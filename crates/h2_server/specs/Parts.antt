-- What a handler gives next of a response in parts.
use Rattle.std.specs.Prelude.{◌≤◌, ℕ, Result, Ok}
use Rattle.h2_server.specs.declared.handler.HandlerFault.{HandlerFault}
use Rattle.h2_server.specs.declared.handler.Part.{Part}
use Rattle.h2_server.specs.declared.handler.Part.TheVariants.{Octets, Last}

-- The octets lie in the room.
abbrev pub FitsPart : (room : ℕ) → Result Part HandlerFault → Type 0
FitsPart room (Ok (Octets count)) = count ≤ room
FitsPart room (Ok (Last count)) = count ≤ room
FitsPart room other = Unit {0}
