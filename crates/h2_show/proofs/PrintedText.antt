-- What a viewer has printed, as text: after more octets, at a fault and at the end.
use Rattle.h2_show.proofs.Names.{◌≡◌, ℕ, ◌==◌, not, ◌&&◌, if◌then◌else◌, List, [], ◌++◌, length, refl}
use Rattle.h2_show.proofs.Names.{sym, ◌∙◌, subst, append-nil, is_some, ShowOptions, ShowError, Status}
use Rattle.h2_show.proofs.Names.{Good, Fault, Style, ShowLine, text_from, styled_text, places_past}
use Rattle.h2_show.proofs.Names.{Shows, ViewerShows, ViewerPrints, ViewerFailsWith, error_lines, end_lines}
use Rattle.h2_show.proofs.Names.{begins_with_preface, limits_of}
use Rattle.h2_show.specs.Printed.{ViewerHasPrinted}
use Rattle.h2_show.specs.Shown.{ShowsOctets}
use Rattle.h2_show.specs.declared.viewer.Viewer.{Viewer}
use Rattle.h2_show.proofs.FaultLemmas.{end_shows_after}
use Rattle.h2_show.proofs.PieceLemmas.{prints_none}
use Rattle.h2_show.proofs.StyleLemmas.{text_append, places_append}

-- the text of lines, and of more lines from where they end
text_goes_on : (asked style : Style) (at : ℕ) (text : List ℕ) (lines more : List ShowLine)
    → style ≡ asked → at ≡ places_past asked 1 lines → text ≡ styled_text asked lines
    → text ++ text_from style at more ≡ styled_text asked (lines ++ more)
text_goes_on asked style at text lines more styled placed all =
    (λ i. all i ++ text_from (styled i) (placed i) more) ∙ sym (text_append asked 1 lines more)

-- more octets were shown
pub printed_more : (old new : Viewer) (octets : List ℕ) (printed : List ShowLine)
    (options : ShowOptions) (stream text : List ℕ) → new.printer.style ≡ old.printer.style
    → new.printer.next ≡ places_past old.printer.style old.printer.next printed
    → ViewerPrints old.cutter old.blocks old.printer.is_due octets new.cutter new.blocks
    new.printer.is_due printed
    → ViewerHasPrinted old options stream text
    → ViewerHasPrinted new options (stream ++ octets)
    (text ++ text_from old.printer.style old.printer.next printed)
printed_more old new octets printed options stream text same next prints shown = record {
  lines = shown.lines ++ printed;
  shows = prints (begins_with_preface options.from) (limits_of options) stream shown.lines
      shown.shows;
  styled = same ∙ shown.styled;
  placed = next ∙ (λ i. places_past (shown.styled i) (shown.placed i) printed)
      ∙ sym (places_append options.style 1 shown.lines printed);
  all = text_goes_on options.style old.printer.style old.printer.next text shown.lines printed
      shown.styled shown.placed shown.all;
}

-- octets at fault were shown
pub printed_fault : (old new : Viewer) (octets : List ℕ) (error : ShowError)
    (printed : List ShowLine) (options : ShowOptions) (stream text more : List ℕ)
    → new.printer.style ≡ old.printer.style
    → new.printer.next ≡ places_past old.printer.style old.printer.next printed
    → ViewerFailsWith old.cutter old.blocks old.printer.is_due octets error new.cutter
    new.printer.is_due printed
    → ViewerHasPrinted old options stream text
    → ShowsOctets options ((stream ++ octets) ++ more) Fault
    ((text ++ text_from old.printer.style old.printer.next printed)
    ++ text_from new.printer.style new.printer.next
    (error_lines error new.cutter.place new.printer.is_due))
printed_fault old new octets error printed options stream text more same next fails shown =
    let last : List ShowLine = error_lines error new.cutter.place new.printer.is_due in
    let lines : List ShowLine = shown.lines ++ printed in (
      lines ++ last,
      fails (begins_with_preface options.from) (limits_of options) stream more shown.lines
          shown.shows,
      text_goes_on options.style new.printer.style new.printer.next _ lines last
          (same ∙ shown.styled)
          (next ∙ (λ i. places_past (shown.styled i) (shown.placed i) printed)
          ∙ sym (places_append options.style 1 shown.lines printed))
          (text_goes_on options.style old.printer.style old.printer.next text shown.lines printed
          shown.styled shown.placed shown.all),
    )

-- the end was shown
pub printed_end : (viewer : Viewer) (options : ShowOptions) (stream text : List ℕ)
    (status : Status)
    → status ≡ (if length viewer.cutter.unparsed == 0
    && not (is_some viewer.blocks.gather.begun) then Good else Fault)
    → ViewerHasPrinted viewer options stream text
    → ShowsOctets options stream status (text ++ text_from viewer.printer.style viewer.printer.next
    (end_lines (length viewer.cutter.unparsed) (is_some viewer.blocks.gather.begun)))
printed_end viewer options stream text status known shown =
    let last : List ShowLine =
    end_lines (length viewer.cutter.unparsed) (is_some viewer.blocks.gather.begun) in (
      shown.lines ++ last,
      subst (λ (all : List ℕ). Shows (begins_with_preface options.from) (limits_of options) all
          status (shown.lines ++ last)) (append-nil stream)
          (end_shows_after viewer.cutter viewer.cutter viewer.blocks viewer.blocks
          viewer.printer.is_due viewer.printer.is_due [] [] status
          (prints_none viewer.cutter viewer.blocks viewer.printer.is_due) known
          (begins_with_preface options.from) (limits_of options) stream shown.lines shown.shows),
      text_goes_on options.style viewer.printer.style viewer.printer.next text shown.lines last
          shown.styled shown.placed shown.all,
    )

-- nothing was shown
pub printed_none : (viewer : Viewer) (options : ShowOptions)
    → ViewerShows viewer.cutter viewer.blocks viewer.printer.is_due
    (begins_with_preface options.from) (limits_of options) [] []
    → viewer.printer.style ≡ options.style → viewer.printer.next ≡ 1
    → ViewerHasPrinted viewer options [] []
printed_none viewer options shows styled placed =
    record { lines = []; shows = shows; styled = styled; placed = placed; all = refl }
