-- What a step on a stream requires of it.
use Rattle.std.specs.Prelude.{◌≡◌, ◌<◌, ◌^◌, ℕ, ◌+◌, ◌&&◌, Bool, false, Option, Some, None}
use Rattle.h2_flow.specs.declared.stream_state.StreamState.{StreamState}
use Rattle.h2_streams.specs.Streams.{is_far}
use Rattle.h2_streams.specs.declared.entry.Stream.{Stream}
use Rattle.h2_core.specs.declared.endpoint.Endpoint.{Endpoint}

-- The windows of the stream are near enough to zero for the table.
pub record IsNear (stream : Stream) : Type 0 where
  pub send : is_far stream.send_window ≡ false
  pub recv : is_far stream.recv_window ≡ false

-- `more` octets of the connection's window can be returned as well
abbrev pub WindowHolds : Endpoint → ℕ → Type 0
WindowHolds one more = one.recv_window + (one.unreturned + more) < 2 ^ 31

-- Whether both sides of a stream have ended: it is over.
abbrev pub both_ended : StreamState → Bool
both_ended state = state.ended_in && state.ended_out

-- what a stream owes, where there is one
abbrev pub owed_by : Option Stream → ℕ
owed_by None = 0
owed_by (Some stream) = stream.owed
