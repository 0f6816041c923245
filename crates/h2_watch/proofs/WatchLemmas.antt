-- What was shown of a side: nothing, more octets, or octets at fault.
use Rattle.std.proofs.Common.{◌≡◌, ℕ, true, false, List, [], ◌++◌, Some, OnOk, Result, Ok, Err}
use Rattle.std.proofs.Common.{sym, ap, ◌∙◌, subst, append_assoc, append-nil}
use Rattle.std.proofs.lemmas.Bool.{false≢true}
use Rattle.h2_cli.specs.declared.status.Status.TheVariants.{Fault}
use Rattle.h2_follow.specs.Follows.{mark_of, marked}
use Rattle.h2_show.specs.declared.options.Side.{Side}
use Rattle.h2_show.specs.declared.viewer.ShowError.{ShowError}
use Rattle.h2_show.specs.declared.viewer.Viewer.{Viewer}
use Rattle.h2_show.specs.Printed.{ViewerFailsWith, ViewerPrints, error_lines}
use Rattle.h2_show.specs.Shown.{ShowsOctets}
use Rattle.h2_show.specs.ShownLines.{ShowLine}
use Rattle.h2_show.specs.Styles.{AppendsLines, places_past, text_from}
use Rattle.h2_show.specs.Viewer.{IsStreamFault}
use Rattle.h2_show.proofs.PrintedText.{printed_fault, printed_more}
use Rattle.h2_watch.specs.declared.watch.WatchedSide.{WatchedSide}
use Rattle.h2_watch.specs.Watches.{HasShown, goes_on, is_at_fault, options_of}

-- after a fault no more is shown
pub over_shows : (one : WatchedSide) (octets : List ℕ) → one.is_over ≡ true
    → (from : Side) (before text : List ℕ) → HasShown from one before text
    → HasShown from one (before ++ octets) (text ++ [])
over_shows one octets is from before text (goes_on not shows) =
    absurd (false≢true (sym not ∙ is))
over_shows one octets is from before text (is_at_fault ended shows) = is_at_fault ended (λ more.
    subst (λ (stream : List ℕ). ShowsOctets (options_of from) stream Fault (text ++ []))
    (sym (append_assoc before octets more))
    (subst (λ (all : List ℕ). ShowsOctets (options_of from) (before ++ (octets ++ more)) Fault all)
    (sym (append-nil text)) (shows (octets ++ more))))

-- more octets, and no fault
pub more_shows : (old new : WatchedSide) (octets : List ℕ) (printed : List ShowLine)
    → old.is_over ≡ false → new.is_over ≡ false
    → new.viewer.printer.style ≡ old.viewer.printer.style
    → new.viewer.printer.next
    ≡ places_past old.viewer.printer.style old.viewer.printer.next printed
    → ViewerPrints old.viewer.cutter old.viewer.blocks old.viewer.printer.is_due octets
    new.viewer.cutter new.viewer.blocks new.viewer.printer.is_due printed
    → (from : Side) (before text : List ℕ) → HasShown from old before text
    → HasShown from new (before ++ octets)
    (text ++ text_from old.viewer.printer.style old.viewer.printer.next printed)
more_shows old new octets printed goes still style next prints from before text
    (goes_on not shows) =
    goes_on still (printed_more old.viewer new.viewer octets printed (options_of from) before text
    style next prints shows)
more_shows old new octets printed goes still style next prints from before text
    (is_at_fault ended shows) = absurd (false≢true (sym goes ∙ ended))

-- octets at fault, the line of which follows
pub fault_shows : (old new : WatchedSide) (after : Viewer) (octets : List ℕ) (error : ShowError)
    (printed : List ShowLine) → old.is_over ≡ false → new.is_over ≡ true
    → after.printer.style ≡ old.viewer.printer.style
    → after.printer.next ≡ places_past old.viewer.printer.style old.viewer.printer.next printed
    → ViewerFailsWith old.viewer.cutter old.viewer.blocks old.viewer.printer.is_due octets error
    after.cutter after.printer.is_due printed
    → (from : Side) (before text : List ℕ) → HasShown from old before text
    → HasShown from new (before ++ octets)
    (text ++ (text_from old.viewer.printer.style old.viewer.printer.next printed
    ++ text_from after.printer.style after.printer.next
    (error_lines error after.cutter.place after.printer.is_due)))
fault_shows old new after octets error printed goes over style next fails from before text
    (goes_on not shows) = is_at_fault over (λ more.
    subst (λ (all : List ℕ). ShowsOctets (options_of from) ((before ++ octets) ++ more) Fault all)
    (append_assoc text _ _)
    (printed_fault old.viewer after octets error printed (options_of from) before text more style
    next fails shows))
fault_shows old new after octets error printed goes over style next fails from before text
    (is_at_fault ended shows) = absurd (false≢true (sym goes ∙ ended))

-- octets at fault, where the line of the fault was added
pub fault_added : {A E : Type 0} (result : Result A E) (old new : WatchedSide) (after : Viewer)
    (octets : List ℕ) (error : ShowError) (text mid ended : List ℕ)
    → old.is_over ≡ false → new.is_over ≡ true
    → after.printer.style ≡ old.viewer.printer.style
    → (IsStreamFault error → (printed : List ShowLine)
    × AppendsLines old.viewer.printer.style old.viewer.printer.next after.printer.next (Some text)
    (Some mid) printed
    × ViewerFailsWith old.viewer.cutter old.viewer.blocks old.viewer.printer.is_due octets error
    after.cutter after.printer.is_due printed)
    → OnOk result (IsStreamFault error)
    → OnOk result (ended ≡ mid ++ text_from after.printer.style after.printer.next
    (error_lines error after.cutter.place after.printer.is_due))
    → OnOk result ((printed : List ℕ) × (ended ≡ text ++ printed)
    × ((from : Side) (before shown : List ℕ) → HasShown from old before shown
    → HasShown from new (before ++ octets) (shown ++ printed)))
fault_added (Err refused) old new after octets error text mid ended goes over style finds is line =
    tt
fault_added (Ok ok) old new after octets error text mid ended goes over style finds is line =
    let (lines, appended, fails) = finds is in (
      _,
      line ∙ ap (λ (first : List ℕ). first ++ text_from after.printer.style after.printer.next
          (error_lines error after.cutter.place after.printer.is_due)) appended.0
          ∙ append_assoc text _ _,
      fault_shows old new after octets error lines goes over style appended.1 fails,
    )

-- the lines of a text that was empty, each after the mark of a side
pub marked_lines : (side : Side) (empty text printed mark none lines : List ℕ) → empty ≡ []
    → text ≡ empty ++ printed → mark ≡ mark_of side → none ≡ []
    → lines ≡ none ++ marked mark true text → lines ≡ marked (mark_of side) true printed
marked_lines side empty text printed mark none lines begins adds is nothing marks =
    marks
    ∙ (λ i. nothing i ++ marked (is i) true ((adds ∙ ap (λ (l : List ℕ). l ++ printed) begins) i))
