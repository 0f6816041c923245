-- The lines that were read are a good beginning of the text, and what is shown of them is written.
use Rattle.h2_follow.proofs.Names.{◌≡◌, ℕ, List, [], length, Appends, Line, Stretches, Piece}
use Rattle.h2_follow.proofs.Names.{FollowerShows, output_of}
use Rattle.h2_follow.specs.Follower.{ReadsLines}
use Rattle.h2_follow.specs.FollowText.{LinesSoFar}
use Rattle.h2_follow.proofs.follow.follow_lines.Given as goal

abbrev pub invariant-loop-count : goal.invariant-loop-count
invariant-loop-count g l =
    (lines : List Line) × (pieces : List Piece) × (log : Stretches)
    × (l.count ≡ length lines)
    × ReadsLines (g.B.Read.remaining l.initial.input) (g.B.Read.remaining l.input) lines
    × LinesSoFar l.part lines pieces
    × Appends (g.W.Write.contents l.initial.out) (g.W.Write.contents l.out)
    (output_of log)
    × ((least : ℕ) → FollowerShows l.initial.follower least [] []
    → FollowerShows l.follower least pieces log)
