-- The status that comes with an output reports the stream, and a status of 0 excludes one of 1.
use Rattle.std.proofs.Common.{◌≡◌, ℕ, Bool, true, false, List, [], ◌∷◌, ◌++◌, take, drop, Option}
use Rattle.std.proofs.Common.{Some, None, MatchBool, sym, ◌∙◌, subst}
use Rattle.std.proofs.lemmas.List.{take-append-drop}
use Rattle.hpack.specs.Tables.{Entries}
use Rattle.h2_frame.specs.declared.code.Code.{Code}
use Rattle.h2_frame.specs.Frames.{Frame}
use Rattle.h2_wire.specs.declared.fault.WireFault.{WireFault}
use Rattle.h2_wire.specs.Streams.{Limits, Frames, WireFaultAt}
use Rattle.h2_wire.proofs.FaultLemmas.{one_reading_lem, no_reading}
use Rattle.h2_block.specs.Grouping.{Begun}
use Rattle.h2_block.proofs.RunLemmas.{one_grouping_lem}
use Rattle.h2_show.specs.declared.options.ShowOptions.{ShowOptions}
use Rattle.h2_cli.specs.declared.status.Status.{Status}
use Rattle.h2_cli.specs.declared.status.Status.TheVariants.{Good, Fault}
use Rattle.h2_show.specs.Blocks.{FramesDecode, EndsWithBlockError}
use Rattle.h2_show.specs.Report.{StatusReports, IsComplete, IsAtFault, inside_frame, inside_block}
use Rattle.h2_show.specs.Report.{wire_fault, block_error, begins_with_preface, limits_of}
use Rattle.h2_show.specs.Report.{StatusReportsOctets, StatusReportsText}
use Rattle.h2_show.specs.ShownLines.{ShowLine}
use Rattle.h2_show.specs.Shown.{Shows, is_complete, ends_inside_frame, ends_inside_block}
use Rattle.h2_show.specs.Shown.{has_wire_fault, has_block_error}
use Rattle.h2_laws_show.proofs.LongerStreams.{longer_reading}
use Rattle.h2_laws_show.proofs.ShownFrames.{shown_frames_decode}
use Rattle.h2_laws_show.proofs.BlockErrors.{error_stops}

module _ (expects : Bool) (limits : Limits) (stream : List ℕ) where
  -- The status that comes with an output reports the stream.
  pub shown_reports : (status : Status) (output : List ShowLine)
      → Shows expects limits stream status output → StatusReports expects limits stream status
  shown_reports status output (is_complete frames lines reading shown known all)
      = subst (λ (reported : Status). StatusReports expects limits stream reported) (sym known)
      (record {
        frames = frames;
        table = shown.table;
        reading = reading;
        decoded = shown_frames_decode frames None lines shown;
      })
  shown_reports status output
      (ends_inside_frame frames unparsed begun lines reading some shown known all) =
      subst (λ (reported : Status). StatusReports expects limits stream reported) (sym known)
      (inside_frame (record {
        frames = frames;
        unparsed = unparsed;
        begun = begun;
        table = shown.table;
        reading = reading;
        some = some;
        decoded = shown_frames_decode frames begun lines shown;
      }))
  shown_reports status output (ends_inside_block frames begun lines reading shown known all) =
      subst (λ (reported : Status). StatusReports expects limits stream reported) (sym known)
      (inside_block (record {
        frames = frames;
        begun = begun;
        table = shown.table;
        reading = reading;
        decoded = shown_frames_decode frames (Some begun) lines shown;
      }))
  shown_reports status output (has_wire_fault frames begun place fault lines at shown known all) =
      subst (λ (reported : Status). StatusReports expects limits stream reported) (sym known)
      (wire_fault place fault (record {
        frames = frames;
        begun = begun;
        table = shown.table;
        at = at;
        decoded = shown_frames_decode frames begun lines shown;
      }))
  shown_reports status output
      (has_block_error frames last begun place code lines within reading error shown known all) =
      subst (λ (reported : Status). StatusReports expects limits stream reported) (sym known)
      (block_error place code (record {
        frames = frames ++ last ∷ [];
        within = within;
        reading = reading;
        error = error;
      }))

  -- A stream at fault has no reading.
  pub no_reading_here : (preceding frames : List Frame) (place : ℕ) (fault : WireFault)
      (unparsed : List ℕ) → WireFaultAt expects limits stream preceding place fault
      → Frames expects limits stream frames unparsed → ⊥
  no_reading_here preceding frames place fault unparsed at reading =
      no_reading expects limits (take place stream) (drop place stream) stream unparsed preceding
      frames fault at.made (sym (take-append-drop place stream)) reading

  -- No frames of a stream decode that begin with those of an error of blocks.
  pub no_error_within : (frames wrong : List Frame) (unparsed : List ℕ) (place : ℕ) (code : Code)
      (begun : Option Begun) (table : Entries) → Frames expects limits (take place stream) wrong []
      → EndsWithBlockError wrong code → Frames expects limits stream frames unparsed
      → FramesDecode frames begun table → ⊥
  no_error_within frames wrong unparsed place code begun table first error reading decoded =
      let (following, same) = longer_reading _ _ _ (drop place stream) _ _ _ _ first
      (subst (λ (octets : List ℕ). Frames expects limits octets frames unparsed)
      (sym (take-append-drop place stream)) reading) in
      error_stops _ following _ _ _ error
      (subst (λ (line : List Frame). FramesDecode line begun table) same decoded)

-- A complete stream isn't at fault.
complete_no_fault : (expects : Bool) (limits : Limits) (stream : List ℕ)
    → IsComplete expects limits stream → IsAtFault expects limits stream → ⊥
complete_no_fault expects limits stream complete (inside_frame ends) =
    ends.some (sym (one_reading_lem _ _ _ _ _ _ _ complete.reading ends.reading).1)
complete_no_fault expects limits stream complete (inside_block ends) =
    let one = one_reading_lem _ _ _ _ _ _ _ complete.reading ends.reading in
    let decoded = subst (λ (frames : List Frame). FramesDecode frames (Some ends.begun) ends.table)
    (sym one.0) ends.decoded in
    let same = one_grouping_lem _ _ _ _ _ complete.decoded.grouped decoded.grouped in
    let wrong : ◌≡◌ {A = Option Begun} None (Some ends.begun) = same.1 in (cc)
complete_no_fault expects limits stream complete (wire_fault place fault found) =
    no_reading_here _ _ _ _ _ _ _ _ found.at complete.reading
complete_no_fault expects limits stream complete (block_error place code found) =
    no_error_within _ _ _ _ _ _ _ _ _ _ found.reading found.error complete.reading
    complete.decoded

-- A stream that is complete is not at fault.
pub good_or_fault : (expects : Bool) (limits : Limits) (stream : List ℕ)
    → StatusReports expects limits stream Good → StatusReports expects limits stream Fault → ⊥
good_or_fault expects limits stream good fault = complete_no_fault expects limits stream good fault

-- An input that is complete is not at fault, whether it is octets or hexadecimal.
pub good_or_fault_input : (hex : Bool) (options : ShowOptions) (given : List ℕ)
    → MatchBool hex (StatusReportsText options given Good) (StatusReportsOctets options given Good)
    → MatchBool hex (StatusReportsText options given Fault)
    (StatusReportsOctets options given Fault)
    → ⊥
good_or_fault_input false options given good fault =
    complete_no_fault (begins_with_preface options.from) (limits_of options) given good fault
good_or_fault_input true options given (octets, read, good) (others, again, fault) =
    let decoded = sym read ∙ again in
    let same : octets ≡ others = cc in
    complete_no_fault (begins_with_preface options.from) (limits_of options) others
    (subst (λ (some : List ℕ).
    IsComplete (begins_with_preface options.from) (limits_of options) some) same good) fault
