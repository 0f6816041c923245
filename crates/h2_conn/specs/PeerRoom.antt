-- How much the peer may still send, as a reader of an end answers it.
use Rattle.std.specs.Prelude.{ℕ, ◌==◌, if◌then◌else◌, ℤ, Option, Some, None}
use Rattle.std.specs.Option.{option_map}
use Rattle.h2_spec_log.specs.CallRules.{has_failed}
use Rattle.h2_spec_log.specs.View.{View}

-- On the connection (0) or an active stream; nothing once the connection has failed.
-- rule: calls (own) An end answers of its state, and of little once it has failed
abbrev pub reader_peer_room : View → ℕ → Option ℤ
reader_peer_room view id =
    if has_failed view then None
    else if id == 0 then Some view.recv_window
    else option_map (λ stream. stream.recv_window) (view.stream id)
