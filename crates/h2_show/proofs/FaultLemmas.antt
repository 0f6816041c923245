-- What is printed of a fault, and at the end.
use Rattle.h2_show.proofs.Names.{◌≡◌, ◌≢◌, ℕ, ◌==◌, not, ◌&&◌, Bool, false, if◌then◌else◌, List, []}
use Rattle.h2_show.proofs.Names.{◌∷◌, ◌++◌, length, take, drop, Option, Some, None, refl, sym, ◌∙◌}
use Rattle.h2_show.proofs.Names.{ap, subst, arith, inl, inr, append_assoc, append-nil}
use Rattle.h2_show.proofs.Names.{length-append, is_some, nat_tests, take-append-le}
use Rattle.h2_show.proofs.Names.{take-append-drop, take-append_seam, Code, Frame, WireFault, Limits}
use Rattle.h2_show.proofs.Names.{Frames, expected_preface, CutterState, CutterRepresents}
use Rattle.h2_show.proofs.Names.{CutterFaults, Begun, Blocks, Wire, Block, Status, Good, Fault}
use Rattle.h2_show.proofs.Names.{EndsWithBlockError, ShowLine, fault_shown, rest_shown}
use Rattle.h2_show.proofs.Names.{unfinished_shown}
use Rattle.h2_show.proofs.Names.{preface_lines, Shows, BlocksShow, due_line, ViewerShows}
use Rattle.h2_show.proofs.Names.{error_lines, end_lines, ViewerPrints, ShowsAfter, common_steps}
use Rattle.h2_show.proofs.Names.{rules}
use Rattle.h2_frame.specs.declared.code.Code.TheVariants.{ProtocolError}
use Rattle.h2_wire.specs.declared.fault.WireFault.TheVariants as faults
use Rattle.h2_wire.specs.Streams.{WireFaultAt, IsSound}
use Rattle.h2_wire.specs.Cutter.{saturated}
use Rattle.h2_wire.specs.Faults.{wire_fault_code}
use Rattle.h2_show.specs.declared.blocks.BlockError.TheVariants as errors
use Rattle.h2_show.specs.Shown.{ShowsFrames, is_complete, ends_inside_frame, ends_inside_block}
use Rattle.h2_show.specs.Shown.{has_wire_fault, has_block_error}
use Rattle.h2_show.proofs.PrefaceLemmas.{whole_preface, opened_lines, wrong_lines, preface_state}
use Rattle.h2_show.proofs.PrefaceLemmas.{inside_lines}
use Rattle.h2_show.proofs.PrintedLemmas.{settle}

-- the frames so far are shown
pub frames_shown : (blocks : Blocks) (frames : List Frame) (lines : List ShowLine)
    → BlocksShow blocks frames lines → ShowsFrames frames blocks.gather.begun lines
frames_shown blocks frames lines shows = search rules

-- an octet at fault is so with octets after it
at_append : (expects : Bool) (limits : Limits) (stream more : List ℕ) (frames : List Frame)
    (place : ℕ) (fault : WireFault) → WireFaultAt expects limits stream frames place fault
    → WireFaultAt expects limits (stream ++ more) frames place fault
at_append expects limits stream more frames place fault at =
    grind (arith, common_steps, take-append-le, length-append)

-- a stream whose prefix is sound begins with what is expected
sound_lines : (expects : Bool) (limits : Limits) (frames : List Frame) (part rest stream : List ℕ)
    → IsSound expects limits frames part → stream ≡ part ++ rest
    → preface_lines expects stream ≡ whole_preface expects
sound_lines expects limits frames part rest stream sound joined =
    ap (preface_lines expects)
    (joined ∙ ap (λ (octets : List ℕ). octets ++ rest) sound.opened
    ∙ append_assoc (expected_preface expects) sound.body rest)
    ∙ opened_lines expects (sound.body ++ rest)

-- the whole output of a fault after the preface
settled_fault : (cutter : CutterState) (blocks : Blocks) (due expects : Bool) (limits : Limits)
    (stream all : List ℕ) (output fault : List ShowLine)
    → (shows : ViewerShows cutter blocks due expects limits stream output)
    → preface_lines expects all ≡ whole_preface expects
    → output ++ (due_line due ++ fault) ≡ preface_lines expects all ++ shows.lines ++ fault
settled_fault cutter blocks due expects limits stream all output fault shows whole =
    sym (append_assoc output (due_line due) fault)
    ∙ ap (λ (some : List ShowLine). some ++ fault)
    (settle cutter blocks due expects limits stream output shows)
    ∙ ap (λ (some : List ShowLine). (some ++ shows.lines) ++ fault) (sym whole)
    ∙ simp append_assoc

-- the whole output of a wrong octet of the preface
unsettled_fault : (cutter : CutterState) (blocks : Blocks) (due expects : Bool) (limits : Limits)
    (stream more : List ℕ) (output fault : List ShowLine)
    → (shows : ViewerShows cutter blocks due expects limits stream output)
    → preface_lines expects (stream ++ more) ≡ []
    → output ++ fault ≡ preface_lines expects (stream ++ more) ++ shows.lines ++ fault
unsettled_fault cutter blocks due expects limits stream more output fault shows none =
    let before : preface_lines expects stream ≡ preface_lines expects (stream ++ more) =
    elim (preface_state expects limits cutter stream shows.frames shows.cut) [
      | inl inside ↦
          ap (λ (expected : Bool). preface_lines expected stream) inside.1
          ∙ inside_lines stream inside.3 ∙ sym none
      | inr past ↦
          ap (preface_lines expects) past.1.1 ∙ opened_lines expects past.1.0
          ∙ sym (opened_lines expects (past.1.0 ++ more))
          ∙ ap (preface_lines expects) (sym (ap (λ (octets : List ℕ). octets ++ more) past.1.1
          ∙ append_assoc (expected_preface expects) past.1.0 more))
    ] in
    ap (λ (some : List ShowLine). some ++ fault) shows.all
    ∙ ap (λ (some : List ShowLine). (some ++ shows.lines) ++ fault) before
    ∙ simp append_assoc

-- a prefix that is taken, what is left of it, and what follows
taken : (part last rest : List ℕ) (place : ℕ) (stream : List ℕ) → take place stream ≡ part ++ last
    → stream ≡ part ++ (last ++ drop place stream)
taken part last rest place stream joined = search (rules, take-append-drop, append_assoc)

-- a fault that the cutter met
pub wire_shows : (fault : WireFault) (cutter new_cutter : CutterState) (blocks : Blocks)
    (due expects : Bool) (limits : Limits) (stream piece more : List ℕ)
    (output : List ShowLine)
    → fault ≢ faults.Memory
    → ViewerShows cutter blocks due expects limits stream output
    → CutterFaults cutter piece fault new_cutter
    → Shows expects limits ((stream ++ piece) ++ more) Fault
    (output ++ error_lines (Wire fault) new_cutter.place due)
wire_shows faults.Memory cutter new_cutter blocks due expects limits stream piece more output sound
    shows found = absurd (sound refl)
wire_shows faults.BadPreface cutter new_cutter blocks due expects limits stream piece more output
    sound shows found =
    let all : List ℕ = (stream ++ piece) ++ more in
    let (place, first, at) = found.at expects limits stream shows.frames shows.cut in
    let after = at_append expects limits (stream ++ piece) more shows.frames place
    faults.BadPreface first in
    let none : preface_lines expects all ≡ [] =
    wrong_lines expects all shows.frames place after.made in
    let joined : all ≡ stream ++ (piece ++ more) = append_assoc stream piece more in
    has_wire_fault shows.frames blocks.gather.begun place faults.BadPreface shows.lines after
    (frames_shown blocks shows.frames shows.lines shows.blocks_show) refl
    (ap (λ (where_at : ℕ). output ++ fault_shown ProtocolError where_at ∷ []) at
    ∙ unsettled_fault cutter blocks due expects limits stream (piece ++ more) output
    (fault_shown ProtocolError (saturated place) ∷ []) shows
    (ap (preface_lines expects) (sym joined) ∙ none)
    ∙ ap (λ (octets : List ℕ). preface_lines expects octets ++ shows.lines
    ++ fault_shown ProtocolError (saturated place) ∷ []) (sym joined))
wire_shows fault cutter new_cutter blocks due expects limits stream piece more output sound shows
    found =
    let all : List ℕ = (stream ++ piece) ++ more in
    let code = wire_fault_code fault in
    let (place, first, at) = found.at expects limits stream shows.frames shows.cut in
    let after = at_append expects limits (stream ++ piece) more shows.frames place fault first in
    has_wire_fault shows.frames blocks.gather.begun place fault shows.lines after
    (frames_shown blocks shows.frames shows.lines shows.blocks_show) refl
    (ap (λ (where_at : ℕ). output ++ (due_line due ++ fault_shown code where_at ∷ [])) at
    ∙ settled_fault cutter blocks due expects limits stream all output
    (fault_shown code (saturated place) ∷ []) shows
    (sound_lines expects limits shows.frames after.made.part _ all after.made.sound
    (taken after.made.part after.made.last [] place all after.made.joined)))

-- a frame that the blocks don't take
pub block_shows : (code : Code) (cutter new_cutter : CutterState) (blocks : Blocks)
    (due expects : Bool) (limits : Limits) (stream prefix rest all : List ℕ)
    (output : List ShowLine) (frame : Frame)
    → (shows : ViewerShows cutter blocks due expects limits stream output)
    → CutterRepresents new_cutter expects limits prefix (shows.frames ++ frame ∷ [])
    → new_cutter.unparsed ≡ [] → all ≡ prefix ++ rest
    → EndsWithBlockError (shows.frames ++ frame ∷ []) code
    → Shows expects limits all Fault
    (output ++ error_lines (Block (errors.Fault code)) new_cutter.place due)
block_shows code cutter new_cutter blocks due expects limits stream prefix rest all output frame
    shows cut nothing joined error =
    let whole : preface_lines expects all ≡ whole_preface expects =
    elim (preface_state expects limits new_cutter prefix (shows.frames ++ frame ∷ []) cut) [
      | inl inside ↦ absurd (
          let long : length (shows.frames ++ frame ∷ []) ≡ 0 = ap length inside.2 in
          omega (arith, length-append shows.frames (frame ∷ [])))
      | inr past ↦
          ap (preface_lines expects) (joined
          ∙ ap (λ (octets : List ℕ). octets ++ rest) past.1.1
          ∙ append_assoc (expected_preface expects) past.1.0 rest)
          ∙ opened_lines expects (past.1.0 ++ rest)
    ] in
    let same : take (length prefix) all ≡ prefix =
    ap (take (length prefix)) joined ∙ take-append_seam prefix rest in
    has_block_error shows.frames frame blocks.gather.begun (length prefix) code shows.lines
    (rw joined (simp length-append (omega arith)))
    (subst (λ (octets : List ℕ). Frames expects limits octets (shows.frames ++ frame ∷ []) [])
    (sym same) (rw nothing at cut.split))
    error (frames_shown blocks shows.frames shows.lines shows.blocks_show) refl
    (ap (λ (where_at : ℕ). output ++ (due_line due ++ fault_shown code where_at ∷ [])) cut.place
    ∙ settled_fault cutter blocks due expects limits stream all output
    (fault_shown code (saturated (length prefix)) ∷ []) shows whole)

-- what the end of the input adds to the output
end_shows : (unparsed : List ℕ) (cutter : CutterState) (blocks : Blocks) (due expects : Bool)
    (limits : Limits) (stream : List ℕ) (output : List ShowLine) (status : Status) → cutter.unparsed ≡ unparsed
    → ViewerShows cutter blocks due expects limits stream output
    → status ≡ (if length unparsed == 0 && not (is_some blocks.gather.begun) then Good else Fault)
    → Shows expects limits stream status
    (output ++ end_lines (length unparsed) (is_some blocks.gather.begun))
end_shows (first ∷ others) cutter blocks due expects limits stream output status is shows known =
    let some : (length (first ∷ others) == 0) ≡ false = grind (arith, nat_tests) in
    ends_inside_frame shows.frames (first ∷ others) blocks.gather.begun shows.lines
    (subst (λ (octets : List ℕ). Frames expects limits stream shows.frames octets) is
    shows.cut.split) (λ none. (cc))
    (frames_shown blocks shows.frames shows.lines shows.blocks_show) (rw some at known)
    (rw some (ap (λ (text : List ShowLine). text ++ rest_shown (length (first ∷ others)) ∷ []) shows.all
    ∙ simp append_assoc))
end_shows [] cutter blocks due expects limits stream output status is shows known =
    let reading = subst (λ (octets : List ℕ). Frames expects limits stream shows.frames octets) is
    shows.cut.split in
    by blocks.gather.begun reading
    (frames_shown blocks shows.frames shows.lines shows.blocks_show) known
  where
    by : (begun : Option Begun) → Frames expects limits stream shows.frames []
        → ShowsFrames shows.frames begun shows.lines
        → status ≡ (if not (is_some begun) then Good else Fault)
        → Shows expects limits stream status (output ++ end_lines 0 (is_some begun))
    by None reading frames known =
        is_complete shows.frames shows.lines reading frames known
        (append-nil output ∙ shows.all)
    by (Some begun) reading frames known =
        ends_inside_block shows.frames begun shows.lines reading frames known
        (ap (λ (text : List ShowLine). text ++ unfinished_shown ∷ []) shows.all ∙ simp append_assoc)

-- after octets that were shown the end of the input shows all of them
pub end_shows_after : (cutter new_cutter : CutterState) (blocks new_blocks : Blocks)
    (due new_due : Bool) (octets : List ℕ) (printed : List ShowLine) (status : Status)
    → ViewerPrints cutter blocks due octets new_cutter new_blocks new_due printed
    → status ≡ (if length new_cutter.unparsed == 0 && not (is_some new_blocks.gather.begun)
    then Good else Fault)
    → ShowsAfter cutter blocks due octets status
    (printed ++ end_lines (length new_cutter.unparsed) (is_some new_blocks.gather.begun))
end_shows_after cutter new_cutter blocks new_blocks due new_due octets printed status prints known
    expects limits stream output shows =
    subst (λ (text : List ShowLine). Shows expects limits (stream ++ octets) status text)
    (append_assoc output printed _)
    (end_shows new_cutter.unparsed new_cutter new_blocks new_due expects limits (stream ++ octets)
    (output ++ printed) status refl (prints expects limits stream output shows) known)
