-- What the last DATA took of the windows.
use Rattle.h2_conn.proofs.Names.{◌≡◌, ℕ, List, [], ◌∷◌, ◌++◌, length, Option, None, Some, refl}
use Rattle.h2_conn.proofs.Names.{arith, Frame}
use Rattle.std.specs.Prelude.{◌+◌}
use Rattle.std.proofs.Common.{replicate}
use Rattle.std.proofs.lemmas.List.{length-append, length-replicate}
use Rattle.h2_frame.specs.Encoding.{padded}
use Rattle.h2_conn.specs.Counts.{flow_after, flow_of_last}

-- how many octets the padding of a payload takes, its length included
abbrev pub padding_of : Option ℕ → ℕ
padding_of None = 0
padding_of (Some count) = 1 + count

pub padded_length : (octets : List ℕ) (pad : Option ℕ)
    → length (padded octets pad) ≡ length octets + padding_of pad
padded_length octets None = omega arith
padded_length octets (Some count) =
    omega (
      arith,
      length-append octets (replicate {A = ℕ} count 0),
      length-replicate {A = ℕ} count 0,
    )

-- One frame more.
pub flow_one_more : (before : ℕ) (frames : List Frame) (frame : Frame)
    → flow_of_last before (frames ++ frame ∷ []) ≡ flow_after (flow_of_last before frames) frame
unfolding flow_of_last
flow_one_more before [] frame = refl
flow_one_more before (first ∷ frames) frame = flow_one_more (flow_after before first) frames frame
