-- How much the peer may still send.
use Rattle.std.specs.Prelude.{ℕ, ◌==◌, if◌then◌else◌, ℤ, pos, Option, Some, None, is_some}
use Rattle.std.specs.Option.{option_map}
use Rattle.h2_spec_machine.specs.End.{End, stream_at}

-- the number of octets that the peer may still send on the connection (0) or a stream
-- rule: calls (own) An end answers of its state, and of little once it has failed
abbrev pub peer_room_of : End → ℕ → Option ℤ
peer_room_of e id =
    if is_some e.failed then None
    else if id == 0 then Some (pos e.windows.recv)
    else option_map (λ stream. stream.recv_window) (stream_at e id)
