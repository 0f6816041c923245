use Rattle.std.proofs.Common.{◌≡◌, length}
use Rattle.h2_files.specs.Paths.{names_of_segments, segments, texts}
use Rattle.h2_files.proofs.SegmentLemmas.{with_front}
use Rattle.h2_files.proofs.names.names_of_segments.Given as goal

abbrev pub decreases-loop-segment : goal.decreases-loop-segment
decreases-loop-segment l = length l.rest

abbrev pub invariant-loop-segment : goal.invariant-loop-segment
invariant-loop-segment l =
    with_front (texts l.names.items) (names_of_segments (segments l.rest))
    ≡ names_of_segments (segments l.octets)
