-- The viewer's cutter and blocks after a piece of a stream was shown.
use Rattle.std.specs.Prelude.{◌≡◌, ℕ, Bool, List, ◌++◌}
use Rattle.h2_frame.specs.declared.code.Code.{Code}
use Rattle.h2_frame.specs.Frames.{Frame}
use Rattle.h2_wire.specs.declared.fault.WireFault.{WireFault}
use Rattle.h2_wire.specs.declared.fault.WireFault.TheVariants as faults
use Rattle.h2_wire.specs.Streams.{Limits}
use Rattle.h2_wire.specs.Cutter.{CutterState, CutterRepresents, saturated}
use Rattle.h2_show.specs.declared.blocks.Blocks.{Blocks}
use Rattle.h2_cli.specs.declared.status.Status.{Status}
use Rattle.h2_show.specs.declared.blocks.BlockError.TheVariants as errors
use Rattle.h2_show.specs.declared.viewer.ShowError.{ShowError}
use Rattle.h2_show.specs.declared.viewer.ShowError.TheVariants.{Wire, Block, Output}
use Rattle.h2_show.specs.Blocks.{BlocksRepresent}
use Rattle.h2_show.specs.Report.{HasWireFaultAt, HasBlockErrorAt, StatusReports}

-- The cutter and the blocks represent the stream so far, after the same frames.
pub record ViewerRepresents (cutter : CutterState) (blocks : Blocks) (expects : Bool)
    (limits : Limits) (stream : List ℕ) : Type 0 where
  pub frames : List Frame
  pub cut : CutterRepresents cutter expects limits stream frames
  pub blocks_represent : BlocksRepresent blocks frames

-- All octets were used: if the cutter and the blocks represented `stream`, they now represent
-- `stream ++ octets`.
abbrev pub ViewerContinues : CutterState → Blocks → List ℕ → CutterState → Blocks → Type 0
ViewerContinues cutter blocks octets new_cutter new_blocks =
    (expects : Bool) (limits : Limits) (stream : List ℕ)
    → ViewerRepresents cutter blocks expects limits stream
    → ViewerRepresents new_cutter new_blocks expects limits (stream ++ octets)

-- The stream has this fault of an octet, and the cutter's place is that octet's.
abbrev pub WireFaultReports : Bool → Limits → List ℕ → WireFault → CutterState → Type 0
WireFaultReports expects limits stream fault cutter =
    (place : ℕ) × HasWireFaultAt expects limits stream place fault
    × (cutter.place ≡ saturated place)

-- The stream has a frame at fault, with this code, and the cutter's place is the frame's end.
abbrev pub BlockErrorReportsAt : Bool → Limits → List ℕ → Code → CutterState → Type 0
BlockErrorReportsAt expects limits stream code cutter =
    (place : ℕ) × HasBlockErrorAt expects limits stream place code
    × (cutter.place ≡ saturated place)

-- What an error of showing says of the stream; out of memory and a failed write say nothing.
abbrev pub ShowErrorReports : Bool → Limits → List ℕ → ShowError → CutterState → Type 0
ShowErrorReports expects limits stream (Wire faults.BadPreface) cutter =
    WireFaultReports expects limits stream faults.BadPreface cutter
ShowErrorReports expects limits stream (Wire (faults.HeadFault fault)) cutter =
    WireFaultReports expects limits stream (faults.HeadFault fault) cutter
ShowErrorReports expects limits stream (Wire (faults.PayloadFault code)) cutter =
    WireFaultReports expects limits stream (faults.PayloadFault code) cutter
ShowErrorReports expects limits stream (Wire faults.Memory) cutter = Unit {0}
ShowErrorReports expects limits stream (Block (errors.Fault code)) cutter =
    BlockErrorReportsAt expects limits stream code cutter
ShowErrorReports expects limits stream (Block errors.Memory) cutter = Unit {0}
ShowErrorReports expects limits stream (Output error) cutter = Unit {0}

-- If the cutter and the blocks represented `stream`, the error says this of `stream ++ octets`.
abbrev pub ViewerFails : CutterState → Blocks → List ℕ → ShowError → CutterState → Type 0
ViewerFails cutter blocks octets error new_cutter =
    (expects : Bool) (limits : Limits) (stream : List ℕ)
    → ViewerRepresents cutter blocks expects limits stream
    → ShowErrorReports expects limits (stream ++ octets) error new_cutter

-- The error is a fault of the stream: neither out of memory nor a failed write.
abbrev pub IsStreamFault : ShowError → Type 0
IsStreamFault (Wire faults.BadPreface) = Unit {0}
IsStreamFault (Wire (faults.HeadFault fault)) = Unit {0}
IsStreamFault (Wire (faults.PayloadFault code)) = Unit {0}
IsStreamFault (Wire faults.Memory) = ⊥
IsStreamFault (Block (errors.Fault code)) = Unit {0}
IsStreamFault (Block errors.Memory) = ⊥
IsStreamFault (Output error) = ⊥

-- If the cutter and the blocks represent `stream`, the status reports `stream ++ octets`.
abbrev pub StatusReportsAfter : CutterState → Blocks → List ℕ → Status → Type 0
StatusReportsAfter cutter blocks octets status =
    (expects : Bool) (limits : Limits) (stream : List ℕ)
    → ViewerRepresents cutter blocks expects limits stream
    → StatusReports expects limits (stream ++ octets) status
