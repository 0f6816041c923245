-- What is printed of a piece, frame by frame.
use Rattle.h2_show.proofs.Names.{◌≡◌, ℕ, ◌+◌, ◌<◌, not, ◌&&◌, Bool, true, false, if◌then◌else◌}
use Rattle.h2_show.proofs.Names.{List, [], ◌∷◌, ◌++◌, length, map, refl, sym, ◌∙◌, ap, subst}
use Rattle.h2_show.proofs.Names.{arith, inl, inr, append_assoc, append-nil, length-append, Frame}
use Rattle.h2_show.proofs.Names.{Limits, expected_preface, preface, CutterState, CutterRepresents}
use Rattle.h2_show.proofs.Names.{CutterContinues, Item, Entries, Blocks, ShowLine, preface_shown}
use Rattle.h2_show.proofs.Names.{AreShown, preface_lines, BlocksShow, due_line, frame_lines}
use Rattle.h2_show.proofs.Names.{ViewerShows, common_steps, rules}
use Rattle.h2_show.proofs.PrefaceLemmas.{whole_preface, opened_lines, inside_lines, preface_state}
use Rattle.hpack.proofs.Tests.{and_false}

-- where lists that are joined are nothing, each is
nothing_joined : {A : Type 0} (first second : List A) → first ++ second ≡ []
    → (first ≡ []) × (second ≡ [])
nothing_joined [] second none = (refl, none)
nothing_joined (one ∷ first) second none = absurd (cc)

-- no frames have no lines
nothing_shown : (table after : Entries) (items : List Item) (frames : List Frame)
    (lines : List ShowLine) → frames ≡ [] → AreShown table items frames after lines → lines ≡ []
nothing_shown table after [] frames lines none (all, same, empty) = empty
nothing_shown table after items frames lines none is = grind (arith, common_steps, nothing_joined)

no_lines : (blocks : Blocks) (frames : List Frame) (lines : List ShowLine)
    → BlocksShow blocks frames lines → frames ≡ [] → lines ≡ []
no_lines blocks frames lines shows none = search (rules, nothing_joined, nothing_shown, map)

-- the line of the preface, where it is due, is what is missing
pub settle : (cutter : CutterState) (blocks : Blocks) (due expects : Bool) (limits : Limits)
    (stream : List ℕ) (output : List ShowLine) → (shows : ViewerShows cutter blocks due expects limits stream output)
    → output ++ due_line due ≡ whole_preface expects ++ shows.lines
settle cutter blocks due expects limits stream output shows =
    elim (preface_state expects limits cutter stream shows.frames shows.cut) [
      | inl inside ↦
          let empty : shows.lines ≡ [] =
          no_lines blocks shows.frames shows.lines shows.blocks_show inside.2 in
          let known : due ≡ true = shows.is_due ∙ inside.0 in
          let none : preface_lines expects stream ≡ [] =
          ap (λ (expected : Bool). preface_lines expected stream) inside.1
          ∙ inside_lines stream inside.3 in
          ap (λ (text : List ShowLine). text ++ due_line due) shows.all
          ∙ (λ i. (none i ++ empty i) ++ due_line (known i))
          ∙ sym (append-nil (preface_shown ∷ []))
          ∙ (λ i. whole_preface (sym inside.1 i) ++ sym empty i)
      | inr past ↦
          let known : due ≡ false = shows.is_due ∙ past.0 in
          let whole : preface_lines expects stream ≡ whole_preface expects =
          ap (preface_lines expects) past.1.1 ∙ opened_lines expects past.1.0 in
          ap (λ (text : List ShowLine). text ++ due_line due) shows.all
          ∙ (λ i. (whole i ++ shows.lines) ++ due_line (known i))
          ∙ append-nil (whole_preface expects ++ shows.lines)
    ]

-- a call that returns a frame, which the blocks take
pub show_frame : (cutter new_cutter : CutterState) (blocks new_blocks : Blocks)
    (due expects : Bool) (limits : Limits) (stream used : List ℕ) (output : List ShowLine)
    (frame : Frame) (line : ShowLine) → ViewerShows cutter blocks due expects limits stream output
    → CutterContinues cutter used (frame ∷ []) new_cutter
    → ((frames : List Frame) (lines : List ShowLine) → BlocksShow blocks frames lines
    → BlocksShow new_blocks (frames ++ frame ∷ []) (lines ++ line ∷ []))
    → ViewerShows new_cutter new_blocks false expects limits (stream ++ used)
    (output ++ (due_line due ++ line ∷ []))
show_frame cutter new_cutter blocks new_blocks due expects limits stream used output frame line
    shows cuts takes =
    let cut = cuts.represents expects limits stream shows.frames shows.cut in
    let text : List ShowLine = line ∷ [] in
    elim (preface_state expects limits new_cutter (stream ++ used) (shows.frames ++ frame ∷ [])
    cut) [
      | inl inside ↦ absurd (let wrong =
          (nothing_joined shows.frames (frame ∷ []) inside.2).1 in cc)
      | inr past ↦ record {
        frames = shows.frames ++ frame ∷ [];
        lines = shows.lines ++ text;
        cut = cut;
        blocks_show = takes shows.frames shows.lines shows.blocks_show;
        is_due = sym past.0;
        all = sym (append_assoc output (due_line due) text)
            ∙ ap (λ (some : List ShowLine). some ++ text)
            (settle cutter blocks due expects limits stream output shows)
            ∙ append_assoc (whole_preface expects) shows.lines text
            ∙ ap (λ (some : List ShowLine). some ++ (shows.lines ++ text))
            (sym (ap (preface_lines expects) past.1.1 ∙ opened_lines expects past.1.0));
      }
    ]

and_true : (one : Bool) → (one && true) ≡ one
and_true one = search rules

-- a call that returns no frame, and what of the preface is complete after it
pub show_nothing : (past : Bool) (cutter new_cutter : CutterState) (blocks : Blocks)
    (due expects : Bool) (limits : Limits) (stream used : List ℕ) (output : List ShowLine)
    → past ≡ not new_cutter.in_preface
    → ViewerShows cutter blocks due expects limits stream output
    → CutterContinues cutter used [] new_cutter
    → ViewerShows new_cutter blocks (if past then false else due) expects limits (stream ++ used)
    (output ++ due_line (due && past))
unfolding expected_preface preface
show_nothing past cutter new_cutter blocks due expects limits stream used output known shows cuts =
    let cut : CutterRepresents new_cutter expects limits (stream ++ used) shows.frames =
    subst (λ (frames : List Frame). CutterRepresents new_cutter expects limits (stream ++ used)
    frames) (append-nil shows.frames)
    (cuts.represents expects limits stream shows.frames shows.cut) in
    elim (preface_state expects limits new_cutter (stream ++ used) shows.frames cut) [
      | inl inside ↦
          let short : length (stream ++ used) < 24 = inside.3 in
          let lower : length stream < 24 = omega (arith, simp length-append at short) in
          let not_past : past ≡ false = known ∙ ap not inside.0 in
          let before : preface_lines expects stream ≡ [] =
          ap (λ (expected : Bool). preface_lines expected stream) inside.1
          ∙ inside_lines stream lower in
          let after : preface_lines expects (stream ++ used) ≡ [] =
          ap (λ (expected : Bool). preface_lines expected (stream ++ used)) inside.1
          ∙ inside_lines (stream ++ used) short in
          let still : due ≡ true = shows.is_due ∙ elim (preface_state expects limits cutter stream
          shows.frames shows.cut) [
            | inl first ↦ first.0
            | inr begun ↦ absurd (
                let whole : length stream ≡ 24 + length begun.1.0 =
                ap length (begun.1.1 ∙ ap (λ (expected : Bool). expected_preface expected
                ++ begun.1.0) inside.1) ∙ length-append (expected_preface true) begun.1.0 in
                omega arith)
          ] in
          record {
            frames = shows.frames;
            lines = shows.lines;
            cut = cut;
            blocks_show = shows.blocks_show;
            is_due = ap (λ (some : Bool). if some then false else due) not_past ∙ still
                ∙ sym inside.0;
            all = ap (λ (some : Bool). output ++ due_line some)
                (ap (λ (some : Bool). due && some) not_past ∙ and_false due)
                ∙ append-nil output ∙ shows.all
                ∙ ap (λ (some : List ShowLine). some ++ shows.lines) (before ∙ sym after);
          }
      | inr begun ↦
          let is_past : past ≡ true = known ∙ ap not begun.0 in
          record {
            frames = shows.frames;
            lines = shows.lines;
            cut = cut;
            blocks_show = shows.blocks_show;
            is_due = ap (λ (some : Bool). if some then false else due) is_past ∙ sym begun.0;
            all = ap (λ (some : Bool). output ++ due_line some)
                (ap (λ (some : Bool). due && some) is_past ∙ and_true due)
                ∙ settle cutter blocks due expects limits stream output shows
                ∙ ap (λ (some : List ShowLine). some ++ shows.lines)
                (sym (ap (preface_lines expects) begun.1.1 ∙ opened_lines expects begun.1.0));
          }
    ]
