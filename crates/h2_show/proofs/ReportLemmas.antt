-- What a run of the cutter and the blocks reports of the stream.
use Rattle.h2_show.proofs.Names.{◌≡◌, ℕ, ◌==◌, not, ◌&&◌, Bool, List, [], ◌++◌, length, take}
use Rattle.h2_show.proofs.Names.{if◌then◌else◌, Option, Some, None, IfSome, subst, sym, ap, ◌∙◌}
use Rattle.h2_show.proofs.Names.{arith, append_assoc, append-nil, length-append, Result, Ok, Err}
use Rattle.h2_show.proofs.Names.{IfOk, is_some, Consumes, IsAtEnd, Consumes-trans, Consumes-whole}
use Rattle.h2_show.proofs.Names.{take-append-le, nat_tests, Entries, Code, Frame, WireFault, Limits}
use Rattle.h2_show.proofs.Names.{Frames, CutterState, Begun, Blocks, ShowOptions, Shown, ShowError}
use Rattle.h2_show.proofs.Names.{Wire, Block, Status, Good, Fault, ViewerContinues, ViewerFails}
use Rattle.h2_show.proofs.Names.{IsStreamFault, StatusReportsOctets, begins_with_preface, limits_of}
use Rattle.h2_show.proofs.Names.{common_steps, rules}
use Rattle.h2_wire.specs.declared.fault.WireFault.TheVariants as faults
use Rattle.h2_show.specs.declared.blocks.BlockError.TheVariants as errors
use Rattle.h2_show.specs.Blocks.{FramesDecode}
use Rattle.h2_show.specs.Viewer.{ViewerRepresents, ShowErrorReports, StatusReportsAfter}
use Rattle.h2_show.specs.Report.{StatusReports, HasWireFaultAt, HasBlockErrorAt, IsAtFault}
use Rattle.h2_show.specs.Report.{wire_fault, block_error}

-- the status at the end of a stream without fault
end_reports : (expects : Bool) (limits : Limits) (stream : List ℕ) (frames : List Frame)
    (unparsed : List ℕ) (begun : Option Begun) (table : Entries)
    → Frames expects limits stream frames unparsed → FramesDecode frames begun table
    → StatusReports expects limits stream
    (if length unparsed == 0 && not (is_some begun) then Good else Fault)
end_reports expects limits stream frames unparsed begun table reading decoded =
    grind (arith, common_steps, nat_tests)

-- the status at the end of the input reports all octets
pub end_reports_after : (expects : Bool) (limits : Limits) (cutter new_cutter : CutterState)
    (blocks new_blocks : Blocks) (stream octets : List ℕ) (status : Status)
    → ViewerRepresents cutter blocks expects limits stream
    → ViewerContinues cutter blocks octets new_cutter new_blocks
    → status ≡ (if length new_cutter.unparsed == 0 && not (is_some new_blocks.gather.begun)
    then Good else Fault)
    → StatusReports expects limits (stream ++ octets) status
end_reports_after expects limits cutter new_cutter blocks new_blocks stream octets status
    represents continues known =
    let after = continues expects limits stream represents in
    subst (λ (reported : Status). StatusReports expects limits (stream ++ octets) reported)
    (sym known)
    (end_reports expects limits (stream ++ octets) after.frames new_cutter.unparsed
    new_blocks.gather.begun new_blocks.decoder.table after.cut.split
    after.blocks_represent.decoded)

-- an octet at fault is so with octets after it
wire_fault-append : (expects : Bool) (limits : Limits) (stream more : List ℕ) (place : ℕ)
    (fault : WireFault) → HasWireFaultAt expects limits stream place fault
    → HasWireFaultAt expects limits (stream ++ more) place fault
wire_fault-append expects limits stream more place fault found =
    grind (arith, common_steps, take-append-le, length-append)

-- a frame at fault is so with octets after it
block_error-append : (expects : Bool) (limits : Limits) (stream more : List ℕ) (place : ℕ)
    (code : Code) → HasBlockErrorAt expects limits stream place code
    → HasBlockErrorAt expects limits (stream ++ more) place code
block_error-append expects limits stream more place code found =
    grind (arith, common_steps, take-append-le, length-append)

-- a stream with a fault is at fault, whatever follows it
fault_reports : (expects : Bool) (limits : Limits) (stream more : List ℕ) (error : ShowError)
    (cutter : CutterState) → ShowErrorReports expects limits stream error cutter
    → IsStreamFault error → IsAtFault expects limits (stream ++ more)
fault_reports expects limits stream more (Wire faults.BadPreface) cutter (place, found, at) is =
    wire_fault place faults.BadPreface (wire_fault-append _ _ _ _ place faults.BadPreface found)
fault_reports expects limits stream more (Wire (faults.HeadFault head)) cutter (place, found, at)
    is = wire_fault place (faults.HeadFault head) (wire_fault-append _ _ _ _ place _ found)
fault_reports expects limits stream more (Wire (faults.PayloadFault code)) cutter
    (place, found, at) is =
    wire_fault place (faults.PayloadFault code) (wire_fault-append _ _ _ _ place _ found)
fault_reports expects limits stream more (Wire faults.Memory) cutter reports is = absurd is
fault_reports expects limits stream more (Block (errors.Fault code)) cutter (place, found, at) is =
    block_error place code (block_error-append expects limits stream more place code found)
fault_reports expects limits stream more error cutter reports is = search rules

-- the status of an error reports all octets
pub error_reports_after : (expects : Bool) (limits : Limits) (cutter new_cutter : CutterState)
    (blocks : Blocks) (stream octets : List ℕ) (error : ShowError) (status : Status)
    → ViewerRepresents cutter blocks expects limits stream
    → ViewerFails cutter blocks octets error new_cutter
    → (status ≡ Fault) × IsStreamFault error
    → StatusReports expects limits (stream ++ octets) status
error_reports_after expects limits cutter new_cutter blocks stream octets error status represents
    fails known =
    subst (λ (reported : Status). StatusReports expects limits (stream ++ octets) reported)
    (sym known.0) (subst (IsAtFault expects limits) (append-nil (stream ++ octets))
    (fault_reports _ _ _ [] _ _ (fails expects limits stream represents) known.1))

-- the status at the end of a reader reports all octets that it had
pub end_reports_all : (cutter new_cutter : CutterState) (blocks new_blocks : Blocks)
    (before mid after : Option (List ℕ)) (octets buffer : List ℕ) (count : ℕ) (status : Status)
    → Consumes before mid octets → Consumes mid after (take count buffer) → count ≡ 0
    → IsAtEnd after → ViewerContinues cutter blocks octets new_cutter new_blocks
    → status ≡ (if length new_cutter.unparsed == 0 && not (is_some new_blocks.gather.begun)
    then Good else Fault)
    → IfSome before (λ all. StatusReportsAfter cutter blocks all status)
end_reports_all cutter new_cutter blocks new_blocks before mid after octets buffer count status
    first none zero end continues known =
    let all : Consumes before after octets = subst (Consumes before after) (append-nil octets)
    (Consumes-trans before mid after octets [] first
    (subst (λ (n : ℕ). Consumes mid after (take n buffer)) zero none)) in
    Consumes-whole _ _ octets (λ all. StatusReportsAfter cutter blocks all status) all end
    (λ expects limits stream represents.
    end_reports_after expects limits cutter new_cutter blocks new_blocks stream octets status
    represents continues known)

-- the status of an error in a piece reports all octets that the reader had
pub error_reports_all : (cutter mid_cutter new_cutter : CutterState) (blocks mid_blocks : Blocks)
    (before after : Option (List ℕ)) (octets piece : List ℕ) (error : ShowError)
    (status : Status) → Consumes before after (octets ++ piece)
    → ViewerContinues cutter blocks octets mid_cutter mid_blocks
    → ViewerFails mid_cutter mid_blocks piece error new_cutter
    → (status ≡ Fault) × IsStreamFault error
    → IfSome before (λ all. StatusReportsAfter cutter blocks all status)
error_reports_all cutter mid_cutter new_cutter blocks mid_blocks None after octets piece error
    status read continues fails known = tt
error_reports_all cutter mid_cutter new_cutter blocks mid_blocks (Some all) None octets piece error
    status read continues fails known = absurd read
error_reports_all cutter mid_cutter new_cutter blocks mid_blocks (Some all) (Some left) octets
    piece error status read continues fails known =
    λ expects limits stream represents.
    let found = fault_reports expects limits ((stream ++ octets) ++ piece) left error new_cutter
    (fails expects limits (stream ++ octets) (continues expects limits stream represents)) known.1
    in
    let same : ((stream ++ octets) ++ piece) ++ left ≡ stream ++ all = ap
    (λ (prefix : List ℕ). prefix ++ left) (append_assoc stream _ _) ∙ append_assoc stream
    (octets ++ piece) left ∙ ap (λ (after : List ℕ). stream ++ after) (sym read) in
    subst (λ (reported : Status). StatusReports expects limits (stream ++ all) reported)
    (sym known.0) (subst (IsAtFault expects limits) same found)

-- after no octets the status reports the octets alone
pub octets_reported : {E : Type 0} (options : ShowOptions) (cutter : CutterState) (blocks : Blocks)
    (before : Option (List ℕ)) (result : Result Shown E)
    → ViewerRepresents cutter blocks (begins_with_preface options.from) (limits_of options) []
    → IfOk result (λ shown. IfSome before
    (λ octets. StatusReportsAfter cutter blocks octets shown.status))
    → IfOk result (λ shown. IfSome before
    (λ octets. StatusReportsOctets options octets shown.status))
octets_reported options cutter blocks before (Err error) represents reported = tt
octets_reported options cutter blocks None (Ok shown) represents reported = tt
octets_reported options cutter blocks (Some octets) (Ok shown) represents reported =
    reported (begins_with_preface options.from) (limits_of options) [] represents
