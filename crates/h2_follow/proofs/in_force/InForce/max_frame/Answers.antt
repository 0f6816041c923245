-- The greatest of the values that wait, by their peaks.
use Rattle.h2_follow.proofs.Names.{ℕ, ◌∙◌, ap, map}
use Rattle.h2_follow.specs.declared.in_force.Values.{Values}
use Rattle.h2_follow.specs.InForce.{greatest_frame}
use Rattle.h2_follow.proofs.GreatestLemmas.{greatest_frames}
use Rattle.h2_follow.proofs.in_force.InForce.max_frame.Goals as goal

pub returns : goal.returns
returns c =
    let waiting = c.args.self.now.waiting.items in
    c.greatest.ensures (map (λ (one : Values). one.max_frame) waiting)
    c.args.self.now.frame_peaks
    ∙ greatest_frames c.max.result waiting
    ∙ ap (λ (most : ℕ). greatest_frame most waiting) c.max.ensures
