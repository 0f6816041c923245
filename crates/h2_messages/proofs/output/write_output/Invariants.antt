-- The digits of the octets so far are written.
use Rattle.std.proofs.Common.{ℕ, List}
use Rattle.std.specs.Io.KnownBytes.{Appends}
use Rattle.hex.specs.Hex.{encode_lower}
use Rattle.h2_messages.proofs.output.write_output.Given as goal

abbrev pub invariant-loop : goal.invariant-loop
invariant-loop g l =
    (octets : List ℕ) × Appends (g.W.Write.contents l.initial.out) (g.W.Write.contents l.out)
    (encode_lower octets)
