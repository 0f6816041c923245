-- The parts so far have no octets.
use Rattle.std.proofs.Common.{◌≡◌, drop}
use Rattle.std.specs.Io.Slices.{io_slices_bytes}
use Rattle.h2_link.proofs.parts.first_part.Given as goal

abbrev pub invariant-loop-part : goal.invariant-loop-part
invariant-loop-part l = io_slices_bytes l.parts ≡ io_slices_bytes (drop l.part-index l.parts)
