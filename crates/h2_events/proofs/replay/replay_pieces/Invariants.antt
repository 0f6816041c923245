-- The octets that were read were handed to the end, and the lines written.
use Rattle.std.proofs.Common.{◌≡◌, ℕ, List, []}
use Rattle.std.specs.Io.Buffered.{writer_buffer}
use Rattle.std.specs.Io.KnownBytes.{Consumes}
use Rattle.h2_events.specs.Replayer.{EndReplays, joined_pieces}
use Rattle.h2_events.proofs.replay.replay_pieces.Given as goal

abbrev pub invariant-loop : goal.invariant-loop
invariant-loop g l =
    (pieces : List (List ℕ))
    × Consumes (g.R.Read.remaining l.initial.input) (g.R.Read.remaining l.input)
    (joined_pieces pieces)
    × EndReplays l.fn.role pieces l.conn
    × (writer_buffer l.lines ≡ [])
