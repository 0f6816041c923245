-- A prefix of the octets is written, and the rest is to come.
use Rattle.h2_show.proofs.Names.{ℕ, List, ◌≡◌, ◌++◌, length, Appends, shown_octets}
use Rattle.h2_show.proofs.lines.write_escaped.Given as goal

abbrev pub invariant-loop-count : goal.invariant-loop-count
invariant-loop-count g l =
    (prefix : List ℕ) × (l.octets ≡ prefix ++ l.rest)
    × Appends (g.W.Write.contents l.initial.out) (g.W.Write.contents l.out) (shown_octets prefix)

abbrev pub decreases-loop-count : goal.decreases-loop-count
decreases-loop-count g l = length l.rest
