-- The greatest of values, by their numbers.
use Rattle.h2_follow.proofs.Names.{◌≡◌, ◌∷◌, ℕ, [], List, refl, map}
use Rattle.std.proofs.Common.{max}
use Rattle.h2_follow.specs.declared.in_force.Values.{Values}
use Rattle.h2_follow.specs.InForce.{greatest_frame, greatest_table}
use Rattle.h2_follow.specs.Peaks.{greatest_of}

-- the greatest payload
pub greatest_frames : (most : ℕ) (values : List Values)
    → greatest_of most (map (λ (one : Values). one.max_frame) values) ≡ greatest_frame most values
greatest_frames most [] = refl
greatest_frames most (first ∷ values) = greatest_frames (max most first.max_frame) values

-- the greatest table
pub greatest_tables : (most : ℕ) (values : List Values)
    → greatest_of most (map (λ (one : Values). one.table) values) ≡ greatest_table most values
greatest_tables most [] = refl
greatest_tables most (first ∷ values) = greatest_tables (max most first.table) values
