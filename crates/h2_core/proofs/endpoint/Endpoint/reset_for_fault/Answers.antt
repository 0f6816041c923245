use Rattle.h2_core.proofs.Names.{◌≡◌, ◌≢◌, ◌≤◌, ◌<◌, ◌^◌, ◌+◌, ℕ, None, Some, Option, refl, arith}
use Rattle.h2_core.proofs.Names.{option_map, stream_view, Stream, End, stream_at, end_of}
use Rattle.h2_core.proofs.Names.{IsSoundEnd}
use Rattle.h2_core.specs.Streams.{owed_by}
use Rattle.h2_core.proofs.SoundFacts.{counted, owed_fits, connection_fits}
use Rattle.h2_core.proofs.endpoint.Endpoint.reset_for_fault.Goals as goal

counted_for : (e : End) (id : ℕ) (stream : Option Stream) → IsSoundEnd e
    → stream_at e id ≡ option_map stream_view stream → stream ≢ None → 1 ≤ e.streams.active_count
counted_for e id None sound active some = absurd (some refl)
counted_for e id (Some stream) sound active some = counted e id (stream_view stream) sound active

window_for : (e : End) (id : ℕ) (stream : Option Stream) → IsSoundEnd e
    → stream_at e id ≡ option_map stream_view stream
    → e.windows.recv + (e.windows.unreturned + (0 + owed_by stream)) < 2 ^ 31
window_for e id None sound active = omega (arith, connection_fits e sound)
window_for e id (Some stream) sound active =
    omega (arith, owed_fits e id (stream_view stream) sound active)

pub reset_stream-requires-clause-counted : goal.reset_stream-requires-clause-counted
reset_stream-requires-clause-counted c =
    counted_for (end_of c.args.self.now) c.args.id c.args.stream c.requires.sound c.requires.active

pub reset_stream-requires-clause-window : goal.reset_stream-requires-clause-window
reset_stream-requires-clause-window c =
    omega (
      arith,
      c.requires.connection,
      window_for (end_of c.args.self.now) c.args.id c.args.stream c.requires.sound
          c.requires.active,
    )
