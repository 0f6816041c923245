-- What an input prints, piece by piece.
use Rattle.h2_show.proofs.Names.{◌≡◌, ℕ, ◌==◌, not, ◌&&◌, Bool, if◌then◌else◌, List, [], ◌∷◌, ◌++◌, ◌∙◌}
use Rattle.h2_show.proofs.Names.{length, take, Option, Some, None, IfSome, refl, sym, subst}
use Rattle.h2_show.proofs.Names.{append_assoc, append-nil, Result, Ok, Err, IfOk, Consumes-trans}
use Rattle.h2_show.proofs.Names.{Consumes-whole, is_some, Appends, Consumes, IsAtEnd, Keeps}
use Rattle.h2_show.proofs.Names.{append_known, CutterState, Blocks, ShowOptions, Shown, Status}
use Rattle.h2_show.proofs.Names.{Good, Fault, ShowError, ViewerShows, ViewerPrints, ViewerFailsWith}
use Rattle.h2_show.proofs.Names.{ShowsAfter, end_lines, error_lines, begins_with_preface, limits_of}
use Rattle.h2_show.proofs.Names.{StatusReportsOctets, Shows, ShowLine, Style, text_from, styled_text, AppendsLines}
use Rattle.h2_show.proofs.Names.{common_steps, rules, arith}
use Rattle.std.proofs.Common.{option_map, IsOk}
use Rattle.std.proofs.KnownBytes.{Appends-kept}
use Rattle.std.specs.declared.io.buffered.BufWriter.{BufWriter}
use Rattle.std.specs.Io.Buffered.{writer_buffer, writer_contents, writer_inner}
use Rattle.hex.specs.Hex.{decode_of}
use Rattle.h2_show.specs.declared.show.Lent.{Lent}
use Rattle.h2_show.specs.Printed.{ShowsText}
use Rattle.h2_cli.specs.Hexadecimal.{without_blanks}
use Rattle.h2_show.specs.Report.{StatusReportsText}
use Rattle.h2_show.specs.Shown.{ShowsOctets}
use Rattle.h2_show.proofs.FaultLemmas.{end_shows_after}
use Rattle.h2_show.proofs.StyleLemmas.{lines_trans, lines_styled, text_after}

-- what holds of the octets with whatever follows them, of all that a reader had
consumed_all : (before after : Option (List ℕ)) (octets : List ℕ) (P : List ℕ → Type 0)
    → Consumes before after octets → ((left : List ℕ) → P (octets ++ left)) → IfSome before P
consumed_all before after octets P read holds = search rules

-- after octets that were shown, a fault in those that follow shows all, whatever follows them
fails_after : (cutter mid new_cutter : CutterState) (blocks mid_blocks : Blocks)
    (due mid_due new_due : Bool) (octets piece left : List ℕ) (one two : List ShowLine)
    (error : ShowError) (status : Status)
    → ViewerPrints cutter blocks due octets mid mid_blocks mid_due one
    → ViewerFailsWith mid mid_blocks mid_due piece error new_cutter new_due two
    → status ≡ Fault
    → ShowsAfter cutter blocks due ((octets ++ piece) ++ left) status
    ((one ++ two) ++ error_lines error new_cutter.place new_due)
fails_after cutter mid new_cutter blocks mid_blocks due mid_due new_due octets piece left one two
    error status prints fails is = λ expects limits stream output shows.
    let lines : List ShowLine = error_lines error new_cutter.place new_due in
    let same : ((stream ++ octets) ++ piece) ++ left ≡ stream ++ ((octets ++ piece) ++ left) =
    simp append_assoc in
    let alike : ((output ++ one) ++ two) ++ lines ≡ output ++ ((one ++ two) ++ lines) =
    simp append_assoc in
    subst (λ (ended : Status). Shows expects limits (stream ++ ((octets ++ piece) ++ left)) ended
    (output ++ ((one ++ two) ++ lines))) (sym is)
    (subst (λ (all : List ℕ). Shows expects limits all Fault (output ++ ((one ++ two) ++ lines)))
    same
    (subst (λ (text : List ShowLine). Shows expects limits (((stream ++ octets) ++ piece) ++ left) Fault
    text) alike
    (fails expects limits (stream ++ octets) left (output ++ one)
    (prints expects limits stream output shows))))

-- the end of the input
pub end_shows_all : (cutter new_cutter : CutterState) (blocks new_blocks : Blocks)
    (due new_due : Bool) (style same : Style) (at mid : ℕ)
    (before middle after start text ended : Option (List ℕ)) (octets buffer : List ℕ)
    (printed : List ShowLine) (count : ℕ) (status : Status) → same ≡ style
    → Consumes before middle octets → Consumes middle after (take count buffer) → count ≡ 0
    → IsAtEnd after → AppendsLines style at mid start text printed
    → ViewerPrints cutter blocks due octets new_cutter new_blocks new_due printed
    → status ≡ (if length new_cutter.unparsed == 0 && not (is_some new_blocks.gather.begun)
    then Good else Fault)
    → Appends text ended (text_from same mid
    (end_lines (length new_cutter.unparsed) (is_some new_blocks.gather.begun)))
    → IfSome before (λ all. (lines : List ShowLine) × ShowsAfter cutter blocks due all status lines
    × Appends start ended (text_from style at lines))
end_shows_all cutter new_cutter blocks new_blocks due new_due style same at mid before middle after
    start text ended octets buffer printed count status is read last none at_end written prints known ending =
    let nothing : Consumes middle after [] = subst
    (λ (some : ℕ). Consumes middle after (take some buffer)) none last in
    let all : Consumes before after octets = subst (λ (some : List ℕ). Consumes before after some)
    (append-nil octets) (Consumes-trans before middle after octets [] read nothing) in
    Consumes-whole before after octets (λ all. (lines : List ShowLine)
    × ShowsAfter cutter blocks due all status lines
    × Appends start ended (text_from style at lines)) all at_end (
      printed ++ end_lines (length new_cutter.unparsed) (is_some new_blocks.gather.begun),
      end_shows_after _ _ _ _ _ _ _ _ status prints known,
      text_after style same at mid start text ended printed _ is written ending,
    )

-- a fault in a piece
pub error_shows_all : (cutter mid new_cutter : CutterState) (blocks mid_blocks : Blocks)
    (due mid_due new_due : Bool) (style same kept : Style) (at place next : ℕ)
    (before after start text middle ended : Option (List ℕ)) (octets piece : List ℕ)
    (one two : List ShowLine) (error : ShowError) (status : Status) → same ≡ style → kept ≡ same
    → Consumes before after (octets ++ piece) → AppendsLines style at place start text one
    → ViewerPrints cutter blocks due octets mid mid_blocks mid_due one
    → AppendsLines same place next text middle two
    → ViewerFailsWith mid mid_blocks mid_due piece error new_cutter new_due two
    → status ≡ Fault
    → Appends middle ended (text_from kept next (error_lines error new_cutter.place new_due))
    → IfSome before (λ all. (lines : List ShowLine) × ShowsAfter cutter blocks due all status lines
    × Appends start ended (text_from style at lines))
error_shows_all cutter mid new_cutter blocks mid_blocks due mid_due new_due style same kept at place
    next before after start text middle ended octets piece one two error status alike unchanged read
    written prints more fails is last =
    consumed_all before after (octets ++ piece) (λ all. (lines : List ShowLine)
    × ShowsAfter cutter blocks due all status lines
    × Appends start ended (text_from style at lines)) read (λ left. (
      (one ++ two) ++ error_lines error new_cutter.place new_due,
      fails_after cutter mid new_cutter blocks mid_blocks due mid_due new_due octets piece left one
          two error status prints fails is,
      text_after style kept at next start middle ended _ _ (unchanged ∙ alike)
          (lines_trans style at place next start text middle one two written
          (lines_styled style same place next text middle two alike more)) last,
    ))

-- lines that show the octets, in the style of the options from the first octet on
all_shown : (options : ShowOptions) (style : Style) (at : ℕ) (start ended : Option (List ℕ))
    (octets : List ℕ) (lines : List ShowLine) (status : Status) → style ≡ options.style → at ≡ 1
    → Shows (begins_with_preface options.from) (limits_of options) octets status lines
    → Appends start ended (text_from style at lines)
    → (text : List ℕ) × ShowsOctets options octets status text × Appends start ended text
all_shown options style at start ended octets lines status asked first shows appended = (
  styled_text options.style lines,
  (lines, shows, refl),
  subst (λ (place : ℕ). Appends start ended (text_from options.style place lines)) first
      (subst (λ (some : Style). Appends start ended (text_from some at lines)) asked appended),
)

-- a fault in octets that are shown all at once
pub error_shown : (options : ShowOptions) (cutter new_cutter : CutterState) (blocks : Blocks)
    (due new_due : Bool) (style same : Style) (at next : ℕ) (start text ended : Option (List ℕ))
    (octets : List ℕ) (printed : List ShowLine) (error : ShowError) (status : Status)
    → style ≡ options.style → at ≡ 1 → same ≡ style
    → ViewerShows cutter blocks due (begins_with_preface options.from) (limits_of options) [] []
    → AppendsLines style at next start text printed
    → ViewerFailsWith cutter blocks due octets error new_cutter new_due printed
    → status ≡ Fault
    → Appends text ended (text_from same next (error_lines error new_cutter.place new_due))
    → (lines : List ℕ) × ShowsOctets options octets status lines × Appends start ended lines
error_shown options cutter new_cutter blocks due new_due style same at next start text ended octets
    printed error status asked first alike shows written fails is last =
    let lines : List ShowLine = printed ++ error_lines error new_cutter.place new_due in
    all_shown options style at start ended octets lines status asked first
    (subst (λ (reported : Status). Shows (begins_with_preface options.from) (limits_of options)
    octets reported lines) (sym is)
    (subst (λ (all : List ℕ). Shows (begins_with_preface options.from) (limits_of options) all Fault
    lines) (append-nil octets)
    (fails (begins_with_preface options.from) (limits_of options) [] [] [] shows)))
    (text_after style same at next start text ended printed _ alike written last)

-- the end of octets that are shown all at once
pub end_shown : (options : ShowOptions) (cutter new_cutter : CutterState)
    (blocks new_blocks : Blocks) (due new_due : Bool) (style same : Style) (at next : ℕ)
    (start text ended : Option (List ℕ)) (octets : List ℕ) (printed : List ShowLine)
    (status : Status) → style ≡ options.style → at ≡ 1 → same ≡ style
    → ViewerShows cutter blocks due (begins_with_preface options.from) (limits_of options) [] []
    → AppendsLines style at next start text printed
    → ViewerPrints cutter blocks due octets new_cutter new_blocks new_due printed
    → status ≡ (if length new_cutter.unparsed == 0 && not (is_some new_blocks.gather.begun)
    then Good else Fault)
    → Appends text ended (text_from same next
    (end_lines (length new_cutter.unparsed) (is_some new_blocks.gather.begun)))
    → (lines : List ℕ) × ShowsOctets options octets status lines × Appends start ended lines
end_shown options cutter new_cutter blocks new_blocks due new_due style same at next start text ended
    octets printed status asked first alike shows written prints known last =
    all_shown options style at start ended octets
    (printed ++ end_lines (length new_cutter.unparsed) (is_some new_blocks.gather.begun)) status
    asked first
    (end_shows_after cutter new_cutter blocks new_blocks due new_due octets printed status prints
    known (begins_with_preface options.from) (limits_of options) [] [] shows)
    (text_after style same at next start text ended printed _ alike written last)

-- after no octets the octets alone are shown
pub octets_shown : {E : Type 0} (options : ShowOptions) (cutter : CutterState) (blocks : Blocks)
    (due : Bool) (style : Style) (at : ℕ) (before start ended : Option (List ℕ))
    (result : Result Shown E) → style ≡ options.style → at ≡ 1
    → ViewerShows cutter blocks due (begins_with_preface options.from) (limits_of options) [] []
    → IfOk result (λ shown. IfSome before (λ octets. (lines : List ShowLine)
    × ShowsAfter cutter blocks due octets shown.status lines
    × Appends start ended (text_from style at lines)))
    → IfOk result (λ shown. IfSome before (λ octets. (lines : List ℕ)
    × ShowsOctets options octets shown.status lines × Appends start ended lines))
octets_shown options cutter blocks due style at before start ended (Err error) asked first shows
    shown = tt
octets_shown options cutter blocks due style at None start ended (Ok some) asked first shows shown =
    tt
octets_shown options cutter blocks due style at (Some octets) start ended (Ok some) asked first
    shows (lines, so, appended) =
    all_shown options style at start ended octets lines some.status asked first
    (so (begins_with_preface options.from) (limits_of options) [] [] shows) appended

-- what the lines show of text, by the octets that it gives
pub text_shown : (options : ShowOptions) (before start ended : Option (List ℕ)) (octets : List ℕ)
    (status : Status)
    → IfSome before (λ text. decode_of (without_blanks text) ≡ Ok octets)
    → (lines : List ℕ) × ShowsOctets options octets status lines × Appends start ended lines
    → IfSome before (λ text. (lines : List ℕ) × ShowsText options text status lines
    × Appends start ended lines)
text_shown options None start ended octets status decoded shown = tt
text_shown options (Some text) start ended octets status decoded shown =
    (shown.0, (octets, decoded, shown.1), shown.2)

pub text_reported : (options : ShowOptions) (before : Option (List ℕ)) (octets : List ℕ)
    (status : Status)
    → IfSome before (λ text. decode_of (without_blanks text) ≡ Ok octets)
    → StatusReportsOctets options octets status
    → IfSome before (λ text. StatusReportsText options text status)
text_reported options before octets status decoded reports = search rules

-- lines that are appended stay so where a flush keeps what is known
pub kept_shown : {E : Type 0} (P : List ℕ → Status → List ℕ → Type 0)
    (before start text ended : Option (List ℕ)) (result : Result Shown E)
    → IfOk result (λ shown. IfSome before (λ given. (lines : List ℕ) × P given shown.status lines
    × Appends start text lines))
    → Keeps text ended
    → IfOk result (λ shown. IfSome before (λ given. (lines : List ℕ) × P given shown.status lines
    × Appends start ended lines))
kept_shown P before start text ended result shown same = grind (arith, common_steps, Appends-kept)

-- Lines that a buffer over a lent writer has appended, all of them written, are appended to the
-- writer, since its name is the same.
pub lent_appended : (start ended final : Option (List ℕ)) (name new_name : ℕ) (lines : List ℕ)
    → (new_name ≡ name → final ≡ ended)
    → Appends (append_known (option_map (λ known. name ∷ known) start) [])
    (append_known (option_map (λ known. new_name ∷ known) ended) []) lines
    → Appends start final lines
lent_appended start ended final name new_name lines returns appended = search (rules, append-nil)

-- what a lent writer holds, after the name of the reference
abbrev pub lent_contents : {W : Type 0} → (W → Option (List ℕ)) → Lent W → Option (List ℕ)
lent_contents contents lent = option_map (λ known. lent.out.ghost_name ∷ known)
    (contents lent.out.now)

-- the contents of a buffer that is empty are those of its writer
pub buffered : {T A : Type 0} (contents : T → Option (List ℕ)) (writer : BufWriter T A) (inner : T)
    → writer_inner writer ≡ inner → writer_buffer writer ≡ []
    → writer_contents contents writer ≡ append_known (contents inner) []
buffered contents writer inner same empty = λ i. append_known (contents (same i)) (empty i)

-- what a buffer over a lent writer has shown, all of it written, the writer shows
pub lent_shown : {W A E : Type 0} (contents : W → Option (List ℕ))
    (P : List ℕ → Status → List ℕ → Type 0) (before : Option (List ℕ))
    (first last : BufWriter (Lent W) A) (old_lent new_lent : Lent W) (start final : W)
    (result : Result Shown E)
    → IfOk result (λ shown. IfSome before (λ given. (lines : List ℕ) × P given shown.status lines
    × Appends (writer_contents (lent_contents contents) first)
    (writer_contents (lent_contents contents) last) lines))
    → writer_inner first ≡ old_lent → writer_buffer first ≡ [] → old_lent.out.now ≡ start
    → writer_inner last ≡ new_lent → (IsOk result → writer_buffer last ≡ [])
    → (new_lent.out.ghost_name ≡ old_lent.out.ghost_name → final ≡ new_lent.out.now)
    → IfOk result (λ shown. IfSome before (λ given. (lines : List ℕ) × P given shown.status lines
    × Appends (contents start) (contents final) lines))
lent_shown contents P before first last old_lent new_lent start final result shown one two three
    four five six = grind (arith, common_steps, buffered, lent_appended)
