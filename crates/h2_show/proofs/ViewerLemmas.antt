-- A piece is shown frame by frame.
use Rattle.h2_show.proofs.Names.{◌≡◌, ℕ, ◌+◌, ◌-◌, ◌≤◌, Bool, List, [], ◌∷◌, ◌++◌, length, take}
use Rattle.h2_show.proofs.Names.{drop, Some, None, MatchOption, refl, sym, ◌∙◌, ap, subst, arith}
use Rattle.h2_show.proofs.Names.{append_assoc, append-nil, length-append, length-take, take_rest}
use Rattle.h2_show.proofs.Names.{take-append-drop, take-add, take-append_seam, Frame, frame_of}
use Rattle.h2_show.proofs.Names.{FrameRef, Cut, WireFault, Limits, Frames, CutterState}
use Rattle.h2_show.proofs.Names.{CutterRepresents, CutterContinues, CutterFaults, CutterFails}
use Rattle.h2_show.proofs.Names.{CutterAdvances, Blocks, BlockError, Wire, Block, BlocksRepresent}
use Rattle.h2_show.proofs.Names.{BlockErrorReports, ViewerContinues, ViewerFails, common_steps}
use Rattle.h2_show.proofs.Names.{rules}
use Rattle.std.proofs.Common.{length-drop}
use Rattle.h2_wire.specs.declared.fault.WireFault.TheVariants as faults
use Rattle.h2_wire.specs.Streams.{WireFaultAt}
use Rattle.h2_show.specs.declared.blocks.BlockError.TheVariants as errors
use Rattle.h2_show.specs.Viewer.{ViewerRepresents, WireFaultReports}

-- no octets change nothing
pub continues_nothing : (cutter : CutterState) (blocks : Blocks)
    → ViewerContinues cutter blocks [] cutter blocks
continues_nothing cutter blocks expects limits stream represents =
    subst (λ (octets : List ℕ). ViewerRepresents cutter blocks expects limits octets)
    (sym (append-nil stream)) represents

-- pieces one after another
pub continues_append : (cutter mid_cutter new_cutter : CutterState)
    (blocks mid_blocks new_blocks : Blocks) (first second : List ℕ)
    → ViewerContinues cutter blocks first mid_cutter mid_blocks
    → ViewerContinues mid_cutter mid_blocks second new_cutter new_blocks
    → ViewerContinues cutter blocks (first ++ second) new_cutter new_blocks
continues_append cutter mid_cutter new_cutter blocks mid_blocks new_blocks first second one two
    expects limits stream represents = grind (arith, common_steps, append_assoc)

-- a call uses no more octets than the piece has after those used
pub used_within : (piece : List ℕ) (done used : ℕ) → done ≤ length piece
    → used ≤ length (take (length piece - done) (drop done piece)) → done + used ≤ length piece
used_within piece done used within unused =
    let unused_length : used ≤ length (drop done piece) = rw take_rest at unused in
    omega (arith, simp length-drop at unused_length)

-- a prefix of the piece, and a prefix of what follows it, are a prefix of the piece
pub prefix_append : (piece : List ℕ) (done used : ℕ)
    → take done piece ++ take used (take (length piece - done) (drop done piece))
    ≡ take (done + used) piece
prefix_append piece done used =
    ap (λ (unused : List ℕ). take done piece ++ take used unused) (take_rest piece done)
    ∙ sym (take-add done used piece)

-- a call that cuts, with what the blocks make of its frames
step_continues : (cutter new_cutter : CutterState) (blocks new_blocks : Blocks) (used : List ℕ)
    (frames : List Frame) → CutterContinues cutter used frames new_cutter
    → ((so_far : List Frame) → BlocksRepresent blocks so_far
    → BlocksRepresent new_blocks (so_far ++ frames))
    → ViewerContinues cutter blocks used new_cutter new_blocks
step_continues cutter new_cutter blocks new_blocks used frames continues blocks_continue expects
    limits stream represents =
    search (rules, continues.represents, blocks_continue)

-- a call that returns no frame
pub continues_without_frame : (cutter mid_cutter new_cutter : CutterState)
    (blocks mid_blocks : Blocks) (piece : List ℕ) (done : ℕ) (cut : Cut)
    → ViewerContinues cutter blocks (take done piece) mid_cutter mid_blocks → cut.frame ≡ None
    → CutterAdvances mid_cutter (take (length piece - done) (drop done piece)) cut new_cutter
    → ViewerContinues cutter blocks (take (done + cut.used) piece) new_cutter mid_blocks
continues_without_frame cutter mid_cutter new_cutter blocks mid_blocks piece done cut continues
    none advances =
    let cuts : CutterContinues mid_cutter
    (take cut.used (take (length piece - done) (drop done piece))) [] new_cutter =
    rw none at advances.continues in
    subst (λ (octets : List ℕ). ViewerContinues cutter blocks octets new_cutter mid_blocks)
    (prefix_append piece done cut.used) (continues_append _ _ _ _ _ _ (take done piece) _ continues
    (step_continues mid_cutter new_cutter mid_blocks mid_blocks _ [] cuts
    (λ so_far represents. subst (λ (frames : List Frame). BlocksRepresent mid_blocks frames)
    (sym (append-nil so_far)) represents)))

-- a call that returns a frame, which the blocks take
pub continues_with_frame : (cutter mid_cutter new_cutter : CutterState)
    (blocks mid_blocks new_blocks : Blocks) (piece : List ℕ) (done : ℕ) (cut : Cut)
    (frame : FrameRef)
    → ViewerContinues cutter blocks (take done piece) mid_cutter mid_blocks
    → cut.frame ≡ Some frame
    → CutterAdvances mid_cutter (take (length piece - done) (drop done piece)) cut new_cutter
    → ((so_far : List Frame) → BlocksRepresent mid_blocks so_far
    → BlocksRepresent new_blocks (so_far ++ frame_of frame ∷ []))
    → ViewerContinues cutter blocks (take (done + cut.used) piece) new_cutter new_blocks
continues_with_frame cutter mid_cutter new_cutter blocks mid_blocks new_blocks piece done cut frame
    continues some advances blocks_continue =
    let cuts : CutterContinues mid_cutter
    (take cut.used (take (length piece - done) (drop done piece))) (frame_of frame ∷ []) new_cutter
    = rw some at advances.continues in
    subst (λ (octets : List ℕ). ViewerContinues cutter blocks octets new_cutter new_blocks)
    (prefix_append _ _ _) (continues_append _ _ _ _ _ _ _ _ continues
    (step_continues _ _ _ _ _ _ cuts blocks_continue))

-- a stream, a prefix of the piece, and what follows it
pub stream_and_piece : (stream piece : List ℕ) (done : ℕ)
    → (stream ++ take done piece) ++ take (length piece - done) (drop done piece)
    ≡ stream ++ piece
stream_and_piece stream piece done = search (rules, append_assoc, take_rest, take-append-drop)

-- where the cutter had no fault, a call that fails is at fault
pub faults_of_sound : (fault : WireFault) (mid new : CutterState) (unused : List ℕ)
    → mid.fault ≡ None
    → MatchOption mid.fault (CutterFaults mid unused fault new) (λ known. new ≡ mid)
    → CutterFaults mid unused fault new
faults_of_sound fault mid new unused sound fails = search rules

-- a fault in what follows a prefix of the piece is one of the stream with the piece
wire_fault_reports : (fault : WireFault) (cutter mid_cutter new_cutter : CutterState)
    (blocks mid_blocks : Blocks) (piece : List ℕ) (done : ℕ)
    → ViewerContinues cutter blocks (take done piece) mid_cutter mid_blocks
    → MatchOption mid_cutter.fault
    (CutterFaults mid_cutter (take (length piece - done) (drop done piece)) fault new_cutter)
    (λ known. new_cutter ≡ mid_cutter)
    → (expects : Bool) (limits : Limits) (stream : List ℕ)
    → ViewerRepresents cutter blocks expects limits stream
    → WireFaultReports expects limits (stream ++ piece) fault new_cutter
wire_fault_reports fault cutter mid_cutter new_cutter blocks mid_blocks piece done continues fails
    expects limits stream represents =
    let after = continues expects limits stream represents in
    let faults = faults_of_sound _ _ _ _ after.cut.sound fails in
    let found = faults.at expects limits (stream ++ take done piece) after.frames after.cut in (
      found.0,
      record {
        frames = after.frames;
        begun = mid_blocks.gather.begun;
        table = mid_blocks.decoder.table;
        at = subst (λ (octets : List ℕ).
            WireFaultAt expects limits octets after.frames found.0 fault)
            (stream_and_piece stream piece done) found.1;
        decoded = after.blocks_represent.decoded;
      },
      found.2,
    )

-- a call of the cutter that fails
pub fails_at_cut : (fault : WireFault) (cutter mid_cutter new_cutter : CutterState)
    (blocks mid_blocks : Blocks) (piece : List ℕ) (done : ℕ)
    → ViewerContinues cutter blocks (take done piece) mid_cutter mid_blocks
    → CutterFails mid_cutter (take (length piece - done) (drop done piece)) fault new_cutter
    → ViewerFails cutter blocks piece (Wire fault) new_cutter
fails_at_cut faults.Memory cutter mid_cutter new_cutter blocks mid_blocks piece done continues
    fails = λ expects limits stream represents. tt
fails_at_cut fault cutter mid_cutter new_cutter blocks mid_blocks piece done continues fails =
    wire_fault_reports _ _ _ _ _ _ _ done continues fails

-- a stream and a prefix of the piece, taken from the stream and the piece
take_prefix : (stream piece : List ℕ) (count : ℕ)
    → take (length (stream ++ take count piece)) (stream ++ piece) ≡ stream ++ take count piece
take_prefix stream piece count =
    let split : stream ++ piece ≡ (stream ++ take count piece) ++ drop count piece =
    ap (λ (octets : List ℕ). stream ++ octets) (sym (take-append-drop count piece))
    ∙ sym (append_assoc stream (take count piece) (drop count piece)) in
    ap (λ (octets : List ℕ). take (length (stream ++ take count piece)) octets) split
    ∙ take-append_seam (stream ++ take count piece) (drop count piece)

-- a frame that the blocks don't take
pub fails_at_frame : (error : BlockError) (cutter mid_cutter new_cutter : CutterState)
    (blocks mid_blocks : Blocks) (piece : List ℕ) (done : ℕ) (cut : Cut) (frame : FrameRef)
    → ViewerContinues cutter blocks (take done piece) mid_cutter mid_blocks
    → cut.frame ≡ Some frame
    → CutterAdvances mid_cutter (take (length piece - done) (drop done piece)) cut new_cutter
    → done + cut.used ≤ length piece
    → ((so_far : List Frame) → BlocksRepresent mid_blocks so_far
    → BlockErrorReports (so_far ++ frame_of frame ∷ []) error)
    → ViewerFails cutter blocks piece (Block error) new_cutter
fails_at_frame errors.Memory cutter mid_cutter new_cutter blocks mid_blocks piece done cut frame
    continues some advances within reports = λ expects limits stream represents. tt
fails_at_frame (errors.Fault code) cutter mid_cutter new_cutter blocks mid_blocks piece done cut
    frame continues some advances within reports =
    λ expects limits stream represents.
    let after = continues expects limits stream represents in
    let cuts : CutterContinues mid_cutter
    (take cut.used (take (length piece - done) (drop done piece))) (frame_of frame ∷ []) new_cutter
    = rw some at advances.continues in
    let prefix : List ℕ = stream ++ take (done + cut.used) piece in
    let frames : List Frame = after.frames ++ frame_of frame ∷ [] in
    let same : (stream ++ take done piece) ++ take cut.used
    (take (length piece - done) (drop done piece)) ≡ prefix =
    append_assoc stream (take done piece) _ ∙ ap (λ (octets : List ℕ). stream ++ octets)
    (prefix_append piece done cut.used) in
    let cut_after : CutterRepresents new_cutter expects limits prefix frames = subst
    (λ (octets : List ℕ). CutterRepresents new_cutter expects limits octets frames) same
    (cuts.represents expects limits (stream ++ take done piece) after.frames after.cut) in
    let nothing : new_cutter.unparsed ≡ [] = advances.none_unparsed_after_a_frame (rw some refl) in
    let reading : Frames expects limits prefix frames [] = rw nothing at cut_after.split in (
      length prefix,
      record {
        frames = frames;
        within = simp (length-append, length-take) (omega arith);
        reading = subst (λ (octets : List ℕ). Frames expects limits octets frames [])
            (sym (take_prefix stream _ _)) reading;
        error = reports after.frames after.blocks_represent;
      },
      cut_after.place,
    )
