-- What an end knows of a stream's number.
use Rattle.std.specs.Prelude.{Option, Some, None}
use Rattle.h2_spec_log.specs.States as states
use Rattle.h2_spec_log.specs.View.{StreamView}
use Rattle.h2_streams.specs.Streams.{stream_view}
use Rattle.h2_core.specs.declared.status.Status.{Status}
use Rattle.h2_core.specs.declared.status.Status.TheVariants.{Idle, Active, ClosedByUs, Closed}

abbrev pub state_of_status : Status → states.State
state_of_status Idle = states.Idle
state_of_status (Active stream) = states.Active
state_of_status ClosedByUs = states.ClosedByUs
state_of_status Closed = states.Closed

abbrev pub stream_of_status : Status → Option StreamView
stream_of_status Idle = None
stream_of_status (Active stream) = Some (stream_view stream)
stream_of_status ClosedByUs = None
stream_of_status Closed = None
