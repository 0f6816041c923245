-- What one side has printed, after a stretch and at its end.
use Rattle.h2_follow.proofs.Names.{◌≡◌, ◌≢◌, ◌∙◌, ◌++◌, ◌∷◌, ◌&&◌, ◌==◌, ℕ, [], List, refl, sym}
use Rattle.h2_follow.proofs.Names.{ap}
use Rattle.h2_follow.proofs.Names.{subst, append_assoc, append-nil, Bool, true, false, not, length}
use Rattle.h2_follow.proofs.Names.{if◌then◌else◌, is_some, Status, Good, Fault, MatchBool}
use Rattle.h2_follow.proofs.Names.{ViewerShows, error_lines, end_lines, begins_with_preface}
use Rattle.h2_follow.proofs.Names.{ShowLine, Style, Viewer, styled_text, text_from}
use Rattle.h2_follow.proofs.Names.{OneSide, EndsSide, SideShows, Result, Ok, Err, IfOk, OnOk, None}
use Rattle.h2_follow.proofs.Names.{Side, Frame, Stretches, Stretch, Bound, inl, inr, ◌⊎◌}
use Rattle.h2_follow.proofs.Names.{take, arith, common_steps, ViewerPrints, ViewerFailsWith}
use Rattle.h2_follow.proofs.Names.{IsStreamFault, Some, ShowError}
use Rattle.std.proofs.Common.{min, MatchOption, Option, ◌≤◌, ◌<◌}
use Rattle.std.proofs.lemmas.Bool.{false≢true}
use Rattle.h2_frame.specs.declared.code.Code.TheVariants.{CompressionError}
use Rattle.h2_wire.specs.declared.fault.WireFault.{WireFault}
use Rattle.h2_wire.specs.declared.fault.WireFault.TheVariants as faults
use Rattle.h2_wire.specs.Cutter.{CutterContinues, CutterFails, CutterFaults, CutterLimited}
use Rattle.h2_wire.specs.Cutter.{CutterRepresents, CutterState}
use Rattle.h2_wire.specs.Streams.{WireFaultAt}
use Rattle.h2_show.specs.Lines.{fault_line}
use Rattle.h2_show.specs.Limited.{ViewerLimited}
use Rattle.h2_show.specs.declared.options.Style.TheVariants.{Plain}
use Rattle.h2_show.specs.Shown.{Shows}
use Rattle.h2_show.specs.Styles.{AppendsLines, places_past}
use Rattle.h2_show.specs.Lines.{plain_line}
use Rattle.h2_show.proofs.StyleLemmas.{text_append}
use Rattle.h2_show.proofs.BlocksShown.{show_represents}
use Rattle.h2_show.proofs.FaultLemmas.{end_shows_after, frames_shown}
use Rattle.h2_show.proofs.PieceLemmas.{prints_none}
use Rattle.h2_follow.specs.Follower.{PartFails, PartFailsByTable, PartGoesOn, ShowsPart, SideReads}
use Rattle.h2_follow.specs.Follower.{SideGoesOn, stretch_of}
use Rattle.h2_follow.specs.Follows.{SideEnds, as_shown, at_table}
use Rattle.h2_follow.specs.InForce.{frame_bound, table_bound}
use Rattle.h2_follow.specs.Stretches.{SideIsOver, SideIsRead, IsSoFar, by_show}
use Rattle.h2_follow.specs.Stretches.{ShowsPlain, by_table, is_at_fault}
use Rattle.h2_follow.specs.Stretches.{is_sound, frames_read, last_ends, limits_in, lines_read}
use Rattle.h2_follow.specs.Stretches.{octets_read}

-- plain lines have no place
plain_anywhere : (at : ℕ) (lines : List ShowLine) → text_from Plain at lines ≡ styled_text Plain lines
plain_anywhere at [] = refl
plain_anywhere at (line ∷ lines) =
    ap (λ (text : List ℕ). plain_line line ++ text)
    (plain_anywhere at lines ∙ sym (plain_anywhere 1 lines))

-- the text of plain lines, and of more lines, wherever these begin
plain_goes_on : (style : Style) (at : ℕ) (text : List ℕ) (lines more : List ShowLine)
    → style ≡ Plain → text ≡ styled_text Plain lines
    → text ++ text_from style at more ≡ styled_text Plain (lines ++ more)
plain_goes_on style at text lines more plain is =
    (λ i. is i ++ text_from (plain i) at more)
    ∙ ap (λ (last : List ℕ). styled_text Plain lines ++ last)
    (plain_anywhere at more ∙ sym (plain_anywhere (places_past Plain 1 lines) more))
    ∙ sym (text_append Plain 1 lines more)

-- what a side has printed is what is shown of its octets so far
pub side_so_far : (one : OneSide) (from : Side) (own : Stretches) → SideShows one from own
    → IsSoFar from own
side_so_far one from own = by one.is_over
  where
    by : (over : Bool)
        → MatchBool over (SideIsOver from own × SideIsRead from own) (SideGoesOn one from own)
        → IsSoFar from own
    by true (over, read) = (read, inr over)
    by false goes = (
      is_sound one.scanner.unparsed goes.scanner.split,
      inl (record {
        frames = goes.viewer.frames;
        unparsed = one.viewer.cutter.unparsed;
        begun = one.viewer.blocks.gather.begun;
        shown = goes.viewer.lines;
        table = one.viewer.blocks.decoder.table;
        cut = goes.viewer.cut.split;
        shows = frames_shown one.viewer.blocks goes.viewer.frames goes.viewer.lines
            goes.viewer.blocks_show;
        all = goes.text ∙ ap (styled_text Plain) goes.viewer.all;
        decoded = (show_represents one.viewer.blocks goes.viewer.frames goes.viewer.lines
            goes.viewer.blocks_show).decoded;
        keeps = goes.keeps;
      }),
    )

-- a side that no fault has ended
going : (one : OneSide) (from : Side) (own : Stretches) → one.is_over ≡ false → SideShows one from own
    → SideGoesOn one from own
going one from own is shows = subst (λ (over : Bool).
    MatchBool over (SideIsOver from own × SideIsRead from own) (SideGoesOn one from own)) is shows

-- and one that a fault has ended
pub known_over : (one : OneSide) (from : Side) (own : Stretches) → one.is_over ≡ true
    → SideShows one from own → SideIsOver from own × SideIsRead from own
known_over one from own is shows = subst (λ (over : Bool).
    MatchBool over (SideIsOver from own × SideIsRead from own) (SideGoesOn one from own)) is shows

-- The octets of a stretch are at fault, as `show` finds, where the viewer had shown those before it.
show_over : (mid : OneSide) (from : Side) (own : Stretches) (stretch : Stretch) (printed : List ℕ)
    (shown : List ShowLine) → stretch.lines ≡ printed
    → ViewerShows mid.viewer.cutter mid.viewer.blocks mid.viewer.printer.is_due
    (begins_with_preface from) (limits_in (stretch ∷ own)) (octets_read own) shown
    → mid.viewer.printer.style ≡ Plain → lines_read own ≡ styled_text Plain shown
    → PartFails mid stretch.octets printed → SideIsOver from (stretch ∷ own)
show_over mid from own stretch printed shown is shows plain text fails = by_show (λ more.
    let last : List ShowLine =
    error_lines fails.error fails.after.cutter.place fails.after.printer.is_due in (
      (shown ++ fails.lines) ++ last,
      fails.fails (begins_with_preface from) (limits_in (stretch ∷ own)) (octets_read own) more
          shown shows,
      ap (λ (text : List ℕ). lines_read own ++ text) (is ∙ fails.all)
          ∙ sym (append_assoc (lines_read own) _ _)
          ∙ plain_goes_on fails.after.printer.style fails.after.printer.next _
          (shown ++ fails.lines) last (fails.style ∙ plain)
          (plain_goes_on mid.viewer.printer.style mid.viewer.printer.next (lines_read own) shown
          fails.lines plain text),
    ))

-- the octets of a stretch end a block, after which the table is above the limit
table_over : (mid : OneSide) (from : Side) (own : Stretches) (stretch : Stretch) (ends : Bool)
    (printed : List ℕ) (shown : List ShowLine) → stretch.lines ≡ printed
    → ends ≡ last_ends stretch.frames
    → ViewerShows mid.viewer.cutter mid.viewer.blocks mid.viewer.printer.is_due
    (begins_with_preface from) (limits_in (stretch ∷ own)) (octets_read own) shown
    → PartFailsByTable mid stretch.octets ends stretch.table printed → SideIsOver from (stretch ∷ own)
table_over mid from own stretch ends printed shown is last shows fails =
    let after = fails.prints (begins_with_preface from) (limits_in (stretch ∷ own)) (octets_read own)
    shown shows in
    by_table (record {
      last = stretch;
      before = own;
      begun = fails.after.blocks.gather.begun;
      frames = after.frames;
      unparsed = fails.after.cutter.unparsed;
      table = fails.after.blocks.decoder.table;
      joined = refl;
      ends = sym last ∙ fails.block;
      cut = after.cut.split;
      decoded = (show_represents fails.after.blocks after.frames after.lines
          after.blocks_show).decoded;
      above = fails.above;
      line = is ∙ fails.line ∙ ap (fault_line CompressionError) after.cut.place;
    })

-- A stretch without a fault of an octet was read: with it the side shows its octets so far.
pub reads_part : (old mid new : OneSide) (limited : CutterState) (least : ℕ) (bound : Bound)
    (octets : List ℕ) (frames : List Frame) (ends : Bool) (printed : List ℕ)
    → old.is_over ≡ false
    → CutterLimited old.scanner (min (frame_bound least bound) 1048576) limited
    → CutterContinues limited octets frames mid.scanner → new.scanner ≡ mid.scanner
    → ViewerLimited old.viewer.cutter old.viewer.blocks old.viewer.printer.is_due
    (min (frame_bound least bound) 1048576) mid.viewer.cutter mid.viewer.blocks
    mid.viewer.printer.is_due
    → mid.viewer.printer.style ≡ old.viewer.printer.style
    → ends ≡ last_ends frames → ShowsPart mid new octets ends (table_bound bound) printed
    → SideReads old new least bound octets frames printed
reads_part old mid new limited least bound octets frames ends printed is limit continues same
    viewer_limit styled last shows from own notice before =
    let goes : SideGoesOn old from own = going old from own is before in
    let shown = viewer_limit (begins_with_preface from) (limits_in own) (octets_read own)
    goes.shown goes.viewer in
    let cut = continues.represents (begins_with_preface from)
    (limits_in (stretch_of from least bound notice octets frames printed ∷ own)) (octets_read own)
    (frames_read own) (limit.represents (begins_with_preface from) (limits_in own) (octets_read own)
    (frames_read own) goes.scanner) in
    by new.is_over goes.shown shown (styled ∙ goes.plain) goes.text cut shows
  where
    by : (over : Bool) (before_it : List ShowLine)
        → ViewerShows mid.viewer.cutter mid.viewer.blocks mid.viewer.printer.is_due
        (begins_with_preface from)
        (limits_in (stretch_of from least bound notice octets frames printed ∷ own)) (octets_read own)
        before_it
        → mid.viewer.printer.style ≡ Plain → lines_read own ≡ styled_text Plain before_it
        → CutterRepresents mid.scanner (begins_with_preface from)
        (limits_in (stretch_of from least bound notice octets frames printed ∷ own)) (octets_read own ++ octets)
        (frames_read own ++ frames)
        → MatchBool over
        (PartFails mid octets printed ⊎ PartFailsByTable mid octets ends (table_bound bound) printed)
        (PartGoesOn mid new octets ends (table_bound bound) printed)
        → MatchBool over
        (SideIsOver from (stretch_of from least bound notice octets frames printed ∷ own)
        × SideIsRead from (stretch_of from least bound notice octets frames printed ∷ own))
        (SideGoesOn new from (stretch_of from least bound notice octets frames printed ∷ own))
    by true before_it shown plain text cut (inl fails) = (
      show_over mid from own (stretch_of from least bound notice octets frames printed) printed before_it
          refl shown plain text fails,
      is_sound mid.scanner.unparsed cut.split,
    )
    by true before_it shown plain text cut (inr fails) = (
      table_over mid from own (stretch_of from least bound notice octets frames printed) ends printed
          before_it refl last shown fails,
      is_sound mid.scanner.unparsed cut.split,
    )
    by false before_it shown plain text cut goes = record {
      shown = before_it ++ goes.lines;
      viewer = goes.prints (begins_with_preface from)
          (limits_in (stretch_of from least bound notice octets frames printed ∷ own)) (octets_read own)
          before_it shown;
      plain = goes.style ∙ plain;
      text = ap (λ (last : List ℕ). lines_read own ++ last) goes.all
          ∙ plain_goes_on mid.viewer.printer.style mid.viewer.printer.next (lines_read own)
          before_it goes.lines plain text;
      scanner = subst (λ (state : CutterState). CutterRepresents state (begins_with_preface from)
          (limits_in (stretch_of from least bound notice octets frames printed ∷ own))
          (octets_read own ++ octets) (frames_read own ++ frames)) (sym same) cut;
      keeps = λ ended. goes.keeps (last ∙ ended);
    }

-- a cutter had no fault before this one
found_first : (fault : WireFault) (old new : CutterState) (piece : List ℕ)
    → MatchOption old.fault (CutterFaults old piece fault new) (λ known. new ≡ old)
    → old.fault ≡ None → CutterFaults old piece fault new
found_first fault old new piece fails none = subst (λ (known : Option WireFault).
    MatchOption known (CutterFaults old piece fault new) (λ known. new ≡ old)) none fails

-- a cutter without a fault that fails, but by lack of memory, has found this one
found : (fault : WireFault) (old new : CutterState) (piece : List ℕ) → fault ≢ faults.Memory
    → CutterFails old piece fault new → old.fault ≡ None → CutterFaults old piece fault new
found faults.Memory old new piece other fails none = absurd (other refl)
found faults.BadPreface old new piece other fails none =
    found_first faults.BadPreface old new piece fails none
found (faults.HeadFault fault) old new piece other fails none =
    found_first (faults.HeadFault fault) old new piece fails none
found (faults.PayloadFault code) old new piece other fails none =
    found_first (faults.PayloadFault code) old new piece fails none

-- Octets were read one of which is at fault, which ends the side.
pub reads_fault : (old mid new : OneSide) (limited failed : CutterState) (least : ℕ) (bound : Bound)
    (octets : List ℕ) (fault : WireFault) (printed : List ℕ) → old.is_over ≡ false
    → CutterLimited old.scanner (min (frame_bound least bound) 1048576) limited
    → fault ≢ faults.Memory → CutterFails limited octets fault failed
    → ViewerLimited old.viewer.cutter old.viewer.blocks old.viewer.printer.is_due
    (min (frame_bound least bound) 1048576) mid.viewer.cutter mid.viewer.blocks
    mid.viewer.printer.is_due
    → mid.viewer.printer.style ≡ old.viewer.printer.style
    → new.is_over ≡ true → ShowsPart mid new octets false 0 printed
    → SideReads old new least bound octets [] printed
reads_fault old mid new limited failed least bound octets fault printed is limit other fails
    viewer_limit styled over shows from own notice before =
    let goes : SideGoesOn old from own = going old from own is before in
    let shown = viewer_limit (begins_with_preface from) (limits_in own) (octets_read own)
    goes.shown goes.viewer in
    let cut = limit.represents (begins_with_preface from) (limits_in own) (octets_read own)
    (frames_read own) goes.scanner in
    let at = (found fault limited failed octets other fails cut.sound).at
    (begins_with_preface from) (limits_in (stretch_of from least bound notice octets [] printed ∷ own))
    (octets_read own) (frames_read own) cut in
    over_now (
      by (fails_now shows) goes.shown shown (styled ∙ goes.plain) goes.text,
      is_at_fault at.0 fault (subst (λ (frames : List Frame).
          WireFaultAt (begins_with_preface from)
          (limits_in (stretch_of from least bound notice octets [] printed ∷ own)) (octets_read own ++ octets) frames
          at.0 fault) (sym (append-nil (frames_read own))) at.1),
    )
  where
    over_now : SideIsOver from (stretch_of from least bound notice octets [] printed ∷ own)
        × SideIsRead from (stretch_of from least bound notice octets [] printed ∷ own)
        → SideShows new from (stretch_of from least bound notice octets [] printed ∷ own)
    over_now both = subst (λ (one : Bool). MatchBool one
        (SideIsOver from (stretch_of from least bound notice octets [] printed ∷ own)
        × SideIsRead from (stretch_of from least bound notice octets [] printed ∷ own))
        (SideGoesOn new from (stretch_of from least bound notice octets [] printed ∷ own))) (sym over) both

    fails_now : ShowsPart mid new octets false 0 printed
        → PartFails mid octets printed ⊎ PartFailsByTable mid octets false 0 printed
    fails_now some = subst (λ (one : Bool). MatchBool one
        (PartFails mid octets printed ⊎ PartFailsByTable mid octets false 0 printed)
        (PartGoesOn mid new octets false 0 printed)) over some

    by : PartFails mid octets printed ⊎ PartFailsByTable mid octets false 0 printed
        → (before_it : List ShowLine)
        → ViewerShows mid.viewer.cutter mid.viewer.blocks mid.viewer.printer.is_due
        (begins_with_preface from) (limits_in (stretch_of from least bound notice octets [] printed ∷ own))
        (octets_read own) before_it
        → mid.viewer.printer.style ≡ Plain → lines_read own ≡ styled_text Plain before_it
        → SideIsOver from (stretch_of from least bound notice octets [] printed ∷ own)
    by (inl failed_so) before_it shown plain text =
        show_over mid from own (stretch_of from least bound notice octets [] printed) printed before_it
        refl shown plain text failed_so
    by (inr by_table_so) before_it shown plain text = absurd (false≢true by_table_so.block)

-- the end of a side that a fault has ended
pub over_ends : (one : OneSide) → one.is_over ≡ true → EndsSide one Fault []
over_ends one is from own shows = by (known_over one from own is shows).0
  where
    by : SideIsOver from own → SideEnds from own Fault []
    by (by_show ended) = as_shown
        (subst (λ (text : List ℕ). ShowsPlain (begins_with_preface from) (limits_in own) (octets_read own)
        Fault text) (sym (append-nil (lines_read own)))
        (subst (λ (all : List ℕ). ShowsPlain (begins_with_preface from) (limits_in own) all Fault
        (lines_read own)) (append-nil (octets_read own)) (ended [])))
    by (by_table fault) = at_table fault refl refl

-- the text of an end
abbrev end_text : Viewer → List ℕ
end_text viewer = text_from viewer.printer.style viewer.printer.next
    (end_lines (length viewer.cutter.unparsed) (is_some viewer.blocks.gather.begun))

-- the end of one that none has
pub good_ends : (one : OneSide) (status : Status) → one.is_over ≡ false
    → status ≡ (if length one.viewer.cutter.unparsed == 0
    && not (is_some one.viewer.blocks.gather.begun) then Good else Fault)
    → EndsSide one status (end_text one.viewer)
good_ends one status is known from own shows =
    let goes : SideGoesOn one from own = going one from own is shows in
    let last : List ShowLine =
    end_lines (length one.viewer.cutter.unparsed) (is_some one.viewer.blocks.gather.begun) in
    as_shown (
      goes.shown ++ last,
      subst (λ (all : List ℕ). Shows (begins_with_preface from) (limits_in own) all status
          (goes.shown ++ last)) (append-nil (octets_read own))
          (end_shows_after one.viewer.cutter one.viewer.cutter one.viewer.blocks
          one.viewer.blocks one.viewer.printer.is_due one.viewer.printer.is_due [] [] status
          (prints_none one.viewer.cutter one.viewer.blocks one.viewer.printer.is_due) known
          (begins_with_preface from) (limits_in own) (octets_read own) goes.shown goes.viewer),
      plain_goes_on one.viewer.printer.style one.viewer.printer.next (lines_read own) goes.shown
          last goes.plain goes.text,
    )

pub end_told : {E : Type 0} (one : OneSide) (before after : List ℕ) (result : Result Status E)
    → one.is_over ≡ false
    → IfOk result (λ status. status ≡ (if length one.viewer.cutter.unparsed == 0
    && not (is_some one.viewer.blocks.gather.begun) then Good else Fault))
    → OnOk result (after ≡ before ++ end_text one.viewer)
    → IfOk result (λ status. (printed : List ℕ) × (after ≡ before ++ printed)
    × EndsSide one status printed)
end_told one before after (Err error) is known last = tt
end_told one before after (Ok status) is known last = (_, last, good_ends one status is known)

-- a stretch that no fault ends
pub goes_part : (old new : OneSide) (octets : List ℕ) (ends : Bool) (table : ℕ)
    (lines : List ShowLine) → new.is_over ≡ false
    → new.viewer.printer.style ≡ old.viewer.printer.style
    → ViewerPrints old.viewer.cutter old.viewer.blocks old.viewer.printer.is_due octets
    new.viewer.cutter new.viewer.blocks new.viewer.printer.is_due lines
    → (ends ≡ true → new.viewer.blocks.decoder.table.maximum ≤ table)
    → ShowsPart old new octets ends table
    (text_from old.viewer.printer.style old.viewer.printer.next lines)
goes_part old new octets ends table lines is style prints keeps =
    let printed : List ℕ = text_from old.viewer.printer.style old.viewer.printer.next lines in
    subst (λ (over : Bool).
    MatchBool over (PartFails old octets printed ⊎ PartFailsByTable old octets ends table printed)
    (PartGoesOn old new octets ends table printed)) (sym is)
    (record { lines = lines; all = refl; style = style; prints = prints; keeps = keeps })

-- a stretch that is at fault, as the viewer finds: after its lines that of the fault is printed
pub fails_part : {E : Type 0} (result : Result (Unit {0}) E) (old new : OneSide) (after : Viewer)
    (octets : List ℕ) (ends : Bool) (table : ℕ) (error : ShowError) (text mid ended : List ℕ)
    → new.is_over ≡ true → OnOk result (IsStreamFault error)
    → OnOk result (ended ≡ mid ++ text_from after.printer.style after.printer.next
    (error_lines error after.cutter.place after.printer.is_due))
    → after.printer.style ≡ old.viewer.printer.style
    → (IsStreamFault error → (lines : List ShowLine)
    × AppendsLines old.viewer.printer.style old.viewer.printer.next after.printer.next (Some text)
    (Some mid) lines
    × ViewerFailsWith old.viewer.cutter old.viewer.blocks old.viewer.printer.is_due octets error
    after.cutter after.printer.is_due lines)
    → OnOk result ((printed : List ℕ) × (ended ≡ text ++ printed) × (new.is_over ≡ true)
    × ShowsPart old new octets ends table printed)
fails_part (Err refused) old new after octets ends table error text mid ended over known last style
    told = tt
fails_part (Ok ok) old new after octets ends table error text mid ended over known last style told =
    let (lines, appended, fails) = told known in
    let first : List ℕ = text_from old.viewer.printer.style old.viewer.printer.next lines in
    let second : List ℕ = text_from after.printer.style after.printer.next
    (error_lines error after.cutter.place after.printer.is_due) in (
      first ++ second,
      last ∙ ap (λ (before : List ℕ). before ++ second) appended.0
          ∙ append_assoc text first second,
      over,
      subst (λ (one : Bool). MatchBool one
          (PartFails old octets (first ++ second)
          ⊎ PartFailsByTable old octets ends table (first ++ second))
          (PartGoesOn old new octets ends table (first ++ second))) (sym over)
          (inl (record {
            error = error;
            after = after;
            lines = lines;
            all = refl;
            style = style;
            fails = fails;
          })),
    )

-- the same of a side that may be over
pub part_told : {E : Type 0} (result : Result (Unit {0}) E) (old new : OneSide) (octets : List ℕ)
    (ends : Bool) (table : ℕ) (text ended : List ℕ)
    → OnOk result ((printed : List ℕ) × (ended ≡ text ++ printed) × (new.is_over ≡ true)
    × ShowsPart old new octets ends table printed)
    → OnOk result ((printed : List ℕ) × (ended ≡ text ++ printed)
    × (old.is_over ≡ false → ShowsPart old new octets ends table printed))
part_told (Err refused) old new octets ends table text ended told = tt
part_told (Ok ok) old new octets ends table text ended told =
    let (printed, written, over, shows) = told in (printed, written, λ is. shows)

-- what follows a text is dropped
pub take_kept : (count : ℕ) (text more : List ℕ) → count ≡ length text
    → take count (text ++ more) ≡ text
take_kept count text more is = grind (arith, common_steps)

-- all octets are within them, and some where there are some
pub all_used : (octets : List ℕ)
    → (length octets ≤ length octets) × (octets ≢ [] → 0 < length octets)
all_used [] = (grind (arith, common_steps), λ some. absurd (some refl))
all_used (octet ∷ octets) = (grind (arith, common_steps), λ some. grind (arith, common_steps))
