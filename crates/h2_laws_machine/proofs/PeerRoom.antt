-- What the peer may still send, by a machine, is what the log that it represents says.
use Rattle.h2_laws_machine.proofs.Names
use Names.{◌≡◌, ℕ, ℤ, ◌==◌, if◌then◌else◌, pos, Option, Some, None, is_some, refl, ap, sym, ◌∙◌}
use Names.{Code, Values, Log, log_view, View, end_view, End, stream_at, Represents}
use Rattle.std.specs.Option.{option_map}
use Rattle.h2_spec_log.specs.CallRules.{has_failed}
use Rattle.h2_laws_machine.proofs.AlikeAnswers.{views_alike}

-- On the connection (0) or an active stream; nothing once the connection has failed.
abbrev pub room_left : View → ℕ → Option ℤ
room_left view id =
    if has_failed view then None
    else if id == 0 then Some view.recv_window
    else option_map (λ stream. stream.recv_window) (view.stream id)

module _ (values : Values) (e : End) (log : Log) where
  peer_room_by : (id : ℕ) (failed : Option Code) → e.failed ≡ failed → Represents values e log
      → room_left (end_view e) id ≡ room_left (log_view log) id
  peer_room_by id (Some code) is represents = rw (sym represents.failed ∙ is, is) refl
  peer_room_by id None is represents =
      ap (λ (view : View). room_left view id) (views_alike values e log represents is)

  pub peer_room_alike : (id : ℕ) → Represents values e log
      → (if is_some e.failed then None else if id == 0 then Some (pos e.windows.recv) else
      option_map (λ stream. stream.recv_window) (stream_at e id))
      ≡ room_left (log_view log) id
  peer_room_alike id represents = peer_room_by id e.failed refl represents
