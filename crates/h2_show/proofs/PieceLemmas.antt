-- What a piece prints, call by call of the cutter.
use Rattle.h2_show.proofs.Names.{◌≡◌, ◌≢◌, ℕ, ◌+◌, ◌-◌, not, ◌&&◌, Bool, true, false, if◌then◌else◌}
use Rattle.h2_show.proofs.Names.{List, [], ◌∷◌, ◌++◌, length, take, drop, Option, Some, None}
use Rattle.h2_show.proofs.Names.{MatchOption, refl, sym, ◌∙◌, ap, subst, append_assoc, append-nil}
use Rattle.h2_show.proofs.Names.{take-append-drop, Frame, frame_of}
use Rattle.h2_show.proofs.Names.{FrameRef, Cut, WireFault, Limits, CutterState, CutterContinues}
use Rattle.h2_show.proofs.Names.{CutterAdvances, CutterFaults, CutterFails, Blocks, BlockError}
use Rattle.h2_show.proofs.Names.{Wire, Block, Fault, BlocksRepresent, BlockErrorReports, ShowLine}
use Rattle.h2_show.proofs.Names.{Shows, BlocksShow, due_line, ViewerShows, ViewerPrints}
use Rattle.h2_show.proofs.Names.{error_lines, ViewerFailsWith, IsStreamFault, common_steps, rules}
use Rattle.h2_show.proofs.Names.{arith}
use Rattle.h2_wire.specs.declared.fault.WireFault.TheVariants as faults
use Rattle.h2_show.specs.declared.blocks.BlockError.TheVariants as errors
use Rattle.h2_show.proofs.BlocksShown.{show_represents}
use Rattle.h2_show.proofs.PrintedLemmas.{show_nothing, show_frame}
use Rattle.h2_show.proofs.FaultLemmas.{wire_shows, block_shows}
use Rattle.h2_show.proofs.ViewerLemmas.{prefix_append, stream_and_piece, faults_of_sound}

-- the same stream and the same output
same_shows : (cutter : CutterState) (blocks : Blocks) (due expects : Bool) (limits : Limits)
    (stream other : List ℕ) (output text : List ShowLine) → stream ≡ other → output ≡ text
    → ViewerShows cutter blocks due expects limits stream output
    → ViewerShows cutter blocks due expects limits other text
same_shows cutter blocks due expects limits stream other output text same alike shows = search rules

-- no octets print nothing
pub prints_none : (cutter : CutterState) (blocks : Blocks) (due : Bool)
    → ViewerPrints cutter blocks due [] cutter blocks due []
prints_none cutter blocks due expects limits stream output shows =
    same_shows cutter blocks due expects limits stream _ output _ (sym (append-nil stream))
    (sym (append-nil output)) shows

-- pieces one after another
pub prints_append : (cutter mid new_cutter : CutterState) (blocks mid_blocks new_blocks : Blocks)
    (due mid_due new_due : Bool) (first second : List ℕ) (one two : List ShowLine)
    → ViewerPrints cutter blocks due first mid mid_blocks mid_due one
    → ViewerPrints mid mid_blocks mid_due second new_cutter new_blocks new_due two
    → ViewerPrints cutter blocks due (first ++ second) new_cutter new_blocks new_due (one ++ two)
prints_append cutter mid new_cutter blocks mid_blocks new_blocks due mid_due new_due first second
    one two before after expects limits stream output shows =
    grind (arith, common_steps, same_shows, append_assoc)

-- a call that returns no frame
pub prints_without_frame : (cutter mid new_cutter : CutterState) (blocks mid_blocks : Blocks)
    (due mid_due new_due past : Bool) (piece : List ℕ) (done : ℕ) (cut : Cut)
    (printed : List ShowLine)
    → ViewerPrints cutter blocks due (take done piece) mid mid_blocks mid_due printed
    → cut.frame ≡ None
    → CutterAdvances mid (take (length piece - done) (drop done piece)) cut new_cutter
    → past ≡ not new_cutter.in_preface → new_due ≡ (if past then false else mid_due)
    → ViewerPrints cutter blocks due (take (done + cut.used) piece) new_cutter mid_blocks new_due
    (printed ++ due_line (mid_due && past))
prints_without_frame cutter mid new_cutter blocks mid_blocks due mid_due new_due past piece done cut
    printed prints none advances known is_due =
    let used : List ℕ = take cut.used (take (length piece - done) (drop done piece)) in
    let cuts : CutterContinues mid used [] new_cutter = rw none at advances.continues in
    subst (λ (octets : List ℕ). ViewerPrints cutter blocks due octets new_cutter mid_blocks new_due
    (printed ++ due_line (mid_due && past))) (prefix_append piece done cut.used)
    (prints_append cutter mid new_cutter blocks mid_blocks mid_blocks due mid_due new_due
    (take done piece) used printed (due_line (mid_due && past)) prints
    (λ expects limits stream output shows.
    subst (λ (one : Bool). ViewerShows new_cutter mid_blocks one expects limits (stream ++ used)
    (output ++ due_line (mid_due && past))) (sym is_due)
    (show_nothing past mid new_cutter mid_blocks mid_due expects limits stream used output known
    shows cuts)))

-- a call that returns a frame, which the blocks take
pub prints_frame : (cutter mid new_cutter : CutterState) (blocks mid_blocks new_blocks : Blocks)
    (due mid_due new_due : Bool) (piece : List ℕ) (done : ℕ) (cut : Cut) (frame : FrameRef)
    (printed : List ShowLine) (line : ShowLine)
    → ViewerPrints cutter blocks due (take done piece) mid mid_blocks mid_due printed
    → cut.frame ≡ Some frame
    → CutterAdvances mid (take (length piece - done) (drop done piece)) cut new_cutter
    → new_due ≡ false
    → ((frames : List Frame) (lines : List ShowLine) → BlocksShow mid_blocks frames lines
    → BlocksShow new_blocks (frames ++ frame_of frame ∷ []) (lines ++ line ∷ []))
    → ViewerPrints cutter blocks due (take (done + cut.used) piece) new_cutter new_blocks new_due
    (printed ++ (due_line mid_due ++ line ∷ []))
prints_frame cutter mid new_cutter blocks mid_blocks new_blocks due mid_due new_due piece done cut
    frame printed line prints some advances is_due takes =
    let used : List ℕ = take cut.used (take (length piece - done) (drop done piece)) in
    let text : List ShowLine = due_line mid_due ++ line ∷ [] in
    let cuts : CutterContinues mid used (frame_of frame ∷ []) new_cutter =
    rw some at advances.continues in
    subst (λ (octets : List ℕ). ViewerPrints cutter blocks due octets new_cutter new_blocks new_due
    (printed ++ text)) (prefix_append piece done cut.used)
    (prints_append cutter mid new_cutter blocks mid_blocks new_blocks due mid_due new_due
    (take done piece) used printed text prints
    (λ expects limits stream output shows.
    subst (λ (one : Bool). ViewerShows new_cutter new_blocks one expects limits (stream ++ used)
    (output ++ text)) (sym is_due)
    (show_frame mid new_cutter mid_blocks new_blocks mid_due expects limits stream used output
    (frame_of frame) line shows cuts takes)))

-- a fault in what follows a prefix of the piece, with what that prefix printed
wire_fails : (fault : WireFault) (cutter mid new_cutter : CutterState) (blocks mid_blocks : Blocks)
    (due mid_due : Bool) (piece : List ℕ) (done : ℕ) (printed : List ShowLine) → fault ≢ faults.Memory
    → ViewerPrints cutter blocks due (take done piece) mid mid_blocks mid_due printed
    → MatchOption mid.fault
    (CutterFaults mid (take (length piece - done) (drop done piece)) fault new_cutter)
    (λ known. new_cutter ≡ mid)
    → ViewerFailsWith cutter blocks due piece (Wire fault) new_cutter mid_due printed
wire_fails fault cutter mid new_cutter blocks mid_blocks due mid_due piece done printed sound prints
    fails expects limits stream more output shows =
    let after = prints expects limits stream output shows in
    let unused : List ℕ = take (length piece - done) (drop done piece) in
    let found = faults_of_sound fault mid new_cutter unused after.cut.sound fails in
    subst (λ (octets : List ℕ). Shows expects limits (octets ++ more) Fault
    ((output ++ printed) ++ error_lines (Wire fault) new_cutter.place mid_due))
    (stream_and_piece stream piece done)
    (wire_shows fault mid new_cutter mid_blocks mid_due expects limits (stream ++ take done piece)
    unused more (output ++ printed) sound after found)

-- a call of the cutter that fails
pub fails_with_wire : (fault : WireFault) (cutter mid new_cutter : CutterState)
    (blocks mid_blocks : Blocks) (due mid_due : Bool) (piece : List ℕ) (done : ℕ)
    (printed : List ShowLine)
    → ViewerPrints cutter blocks due (take done piece) mid mid_blocks mid_due printed
    → CutterFails mid (take (length piece - done) (drop done piece)) fault new_cutter
    → IsStreamFault (Wire fault)
    → ViewerFailsWith cutter blocks due piece (Wire fault) new_cutter mid_due printed
fails_with_wire faults.Memory cutter mid new_cutter blocks mid_blocks due mid_due piece done printed
    prints fails is = absurd is
fails_with_wire fault cutter mid new_cutter blocks mid_blocks due mid_due piece done printed prints
    fails is =
    wire_fails fault cutter mid new_cutter blocks mid_blocks due mid_due piece done printed
    (λ same. (cc)) prints fails

-- a frame that the blocks don't take
pub fails_with_block : (error : BlockError) (cutter mid new_cutter : CutterState)
    (blocks mid_blocks : Blocks) (due mid_due : Bool) (piece : List ℕ) (done : ℕ) (cut : Cut)
    (frame : FrameRef) (printed : List ShowLine)
    → ViewerPrints cutter blocks due (take done piece) mid mid_blocks mid_due printed
    → cut.frame ≡ Some frame
    → CutterAdvances mid (take (length piece - done) (drop done piece)) cut new_cutter
    → ((frames : List Frame) → BlocksRepresent mid_blocks frames
    → BlockErrorReports (frames ++ frame_of frame ∷ []) error)
    → IsStreamFault (Block error)
    → ViewerFailsWith cutter blocks due piece (Block error) new_cutter mid_due printed
fails_with_block errors.Memory cutter mid new_cutter blocks mid_blocks due mid_due piece done cut
    frame printed prints some advances reports is = absurd is
fails_with_block (errors.Fault code) cutter mid new_cutter blocks mid_blocks due mid_due piece done
    cut frame printed prints some advances reports is = λ expects limits stream more output shows.
    let after = prints expects limits stream output shows in
    let used : List ℕ = take cut.used (take (length piece - done) (drop done piece)) in
    let cuts : CutterContinues mid used (frame_of frame ∷ []) new_cutter =
    rw some at advances.continues in
    let rest : List ℕ = drop (done + cut.used) piece in
    let joined : (stream ++ piece) ++ more
    ≡ ((stream ++ take done piece) ++ used) ++ (rest ++ more) =
    ap (λ (octets : List ℕ). (stream ++ octets) ++ more)
    (sym (take-append-drop (done + cut.used) piece)
    ∙ ap (λ (octets : List ℕ). octets ++ rest) (sym (prefix_append piece done cut.used)))
    ∙ simp append_assoc in
    block_shows code mid new_cutter mid_blocks mid_due expects limits (stream ++ take done piece)
    ((stream ++ take done piece) ++ used) (rest ++ more) _ (output ++ printed) (frame_of frame)
    after (cuts.represents expects limits (stream ++ take done piece) after.frames after.cut)
    (advances.none_unparsed_after_a_frame (rw some refl)) joined
    (reports after.frames (show_represents mid_blocks after.frames after.lines after.blocks_show))
