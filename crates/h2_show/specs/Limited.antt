-- The viewer after its limit of payloads was set.
-- contract: h2_show::Viewer::set_max_frame
use Rattle.std.specs.Prelude.{ℕ, nat_le, Bool, if◌then◌else◌, List, length}
use Rattle.h2_wire.specs.Streams.{Limits}
use Rattle.h2_wire.specs.Cutter.{CutterState}
use Rattle.h2_show.specs.declared.blocks.Blocks.{Blocks}
use Rattle.h2_show.specs.Printed.{ViewerShows}
use Rattle.h2_show.specs.ShownLines.{ShowLine}

-- If the viewer had shown `stream` with these limits, it has with limits that are the same for the
-- octets of `stream`, and this one for those that follow.
-- rule: 4.2 (own) A cutter's limit is changed for heads that are still to come
abbrev pub ViewerLimited : CutterState → Blocks → (due : Bool) → (limit : ℕ) → CutterState → Blocks
    → (new_due : Bool) → Type 0
ViewerLimited cutter blocks due limit new_cutter new_blocks new_due =
    (expects : Bool) (limits : Limits) (stream : List ℕ) (output : List ShowLine)
    → ViewerShows cutter blocks due expects limits stream output
    → ViewerShows new_cutter new_blocks new_due expects
    (λ place. if nat_le place (length stream) then limits place else limit) stream output
