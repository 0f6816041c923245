-- An empty place more holds no file.
use Rattle.std.proofs.Common.{Contains, List, Option, Some, subst}
use Rattle.h2_folder.specs.Recents.{KeptFile}
use Rattle.h2_folder.proofs.RecentLemmas.{none_with_empty}
use Rattle.h2_folder.proofs.recent.empty_places.Goals as goal

pub loop-preserved : goal.loop-preserved
loop-preserved c =
    λ one found. none_with_empty c.loop.places.items one (c.loop.invariant one)
    (subst (λ (places : List (Option KeptFile)). Contains places (Some one))
    c.in_ok-push.ensures.items found)
