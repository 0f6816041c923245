-- The octets that were read were handed to the end, and their lines written.
use Rattle.std.proofs.Common.{◌≡◌, ℕ, List, []}
use Rattle.std.specs.Io.Buffered.{writer_buffer, writer_contents}
use Rattle.std.specs.Io.KnownBytes.{Appends, Consumes}
use Rattle.h2_messages.proofs.InputLemmas.{HasPrinted}
use Rattle.h2_messages.proofs.messages.replay_pieces.Given as goal

abbrev pub invariant-loop : goal.invariant-loop
invariant-loop g l =
    (octets : List ℕ) × (printed : List ℕ)
    × Consumes (g.R.Read.remaining l.initial.input) (g.R.Read.remaining l.input) octets
    × HasPrinted l.fn.role octets printed l.end
    × Appends (writer_contents g.W.Write.contents l.initial.lines)
    (writer_contents g.W.Write.contents l.lines) printed
    × (writer_buffer l.lines ≡ [])
