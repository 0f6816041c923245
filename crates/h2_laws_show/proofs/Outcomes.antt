-- A stream has one output and one status.
use Rattle.std.proofs.Common.{◌≡◌, ◌⊎◌, ℕ, ◌≤◌, Bool, true, false, List, [], ◌∷◌, ◌++◌, length}
use Rattle.std.proofs.Common.{take, drop, Option, Some, None, MatchBool, refl, sym, ◌∙◌, ap}
use Rattle.std.proofs.Common.{inl, inr, subst, append-nil, rules}
use Rattle.std.proofs.lemmas.List.{take-append-drop}
use Rattle.h2_frame.specs.declared.code.Code.{Code}
use Rattle.h2_frame.specs.Frames.{Frame}
use Rattle.h2_wire.specs.declared.fault.WireFault.{WireFault}
use Rattle.h2_wire.specs.Cutter.{saturated}
use Rattle.h2_wire.specs.Faults.{wire_fault_code}
use Rattle.h2_wire.specs.Streams.{Limits, Frames, WireFaultAt}
use Rattle.h2_wire.proofs.FaultLemmas.{one_reading_lem, one_fault_lem}
use Rattle.h2_block.specs.Grouping.{Begun}
use Rattle.h2_show.specs.declared.options.ShowOptions.{ShowOptions}
use Rattle.h2_cli.specs.declared.status.Status.{Status}
use Rattle.h2_cli.specs.declared.status.Status.TheVariants.{Good, Fault}
use Rattle.h2_show.specs.Blocks.{FramesDecode, EndsWithBlockError}
use Rattle.h2_show.specs.ShownLines.{ShowLine, fault_shown, rest_shown, unfinished_shown}
use Rattle.h2_show.specs.Styles.{styled_text}
use Rattle.h2_show.specs.Shown.{ShowsFrames, preface_lines, Shows, is_complete, ends_inside_frame}
use Rattle.h2_show.specs.Shown.{ends_inside_block, has_wire_fault, has_block_error, ShowsOctets}
use Rattle.h2_show.specs.Printed.{ShowsText}
use Rattle.h2_show.specs.Report.{begins_with_preface, limits_of}
use Rattle.h2_laws_show.proofs.LongerStreams.{longer_fault}
use Rattle.h2_laws_show.proofs.ShownFrames.{one_showing, shown_frames_decode}
use Rattle.h2_laws_show.proofs.BlockErrors.{error_stops, one_error}
use Rattle.h2_laws_show.proofs.Reports.{no_reading_here, no_error_within}
use Rattle.h2_laws_show.proofs.WrongFrames.{one_wrong_frame, one_place, one_without_last}
use Rattle.h2_wire.proofs.ReadingLemmas.{some_frames}

-- the status at the end of a stream without fault
abbrev end_status : (unparsed : List ℕ) → Option Begun → Status
end_status [] None = Good
end_status [] (Some begun) = Fault
end_status (first ∷ others) begun = Fault

-- the line at the end of a stream without fault, where there is one
abbrev end_line : (unparsed : List ℕ) → Option Begun → List ShowLine
end_line [] None = []
end_line [] (Some begun) = unfinished_shown ∷ []
end_line (first ∷ others) begun = rest_shown (length (first ∷ others)) ∷ []

-- The stream is read to its end, without fault.
record ShownToEnd (expects : Bool) (limits : Limits) (stream : List ℕ) (status : Status)
    (output : List ShowLine) : Type 0 where
  frames : List Frame
  unparsed : List ℕ
  begun : Option Begun
  lines : List ShowLine
  reading : Frames expects limits stream frames unparsed
  shown : ShowsFrames frames begun lines
  known : status ≡ end_status unparsed begun
  all : output ≡ (preface_lines expects stream ++ lines) ++ end_line unparsed begun

-- The stream has an octet at fault.
record ShownToWireFault (expects : Bool) (limits : Limits) (stream : List ℕ) (status : Status)
    (output : List ShowLine) : Type 0 where
  frames : List Frame
  begun : Option Begun
  place : ℕ
  fault : WireFault
  lines : List ShowLine
  at : WireFaultAt expects limits stream frames place fault
  shown : ShowsFrames frames begun lines
  known : status ≡ Fault
  all : output ≡ (preface_lines expects stream ++ lines)
      ++ fault_shown (wire_fault_code fault) (saturated place) ∷ []

-- The stream has a frame with an error of its blocks.
record ShownToBlockError (expects : Bool) (limits : Limits) (stream : List ℕ) (status : Status)
    (output : List ShowLine) : Type 0 where
  frames : List Frame
  last : Frame
  begun : Option Begun
  place : ℕ
  code : Code
  lines : List ShowLine
  within : place ≤ length stream
  reading : Frames expects limits (take place stream) (frames ++ last ∷ []) []
  error : EndsWithBlockError (frames ++ last ∷ []) code
  shown : ShowsFrames frames begun lines
  known : status ≡ Fault
  all : output ≡ (preface_lines expects stream ++ lines) ++ fault_shown code (saturated place) ∷ []

-- What may have come of a stream.
abbrev Outcome : Bool → Limits → List ℕ → Status → List ShowLine → Type 0
Outcome expects limits stream status output = ShownToEnd expects limits stream status output
    ⊎ (ShownToWireFault expects limits stream status output
    ⊎ ShownToBlockError expects limits stream status output)

-- a stream that ends inside a frame
inside_frame_outcome : (expects : Bool) (limits : Limits) (stream : List ℕ) (status : Status)
    (output : List ShowLine) (frames : List Frame) (unparsed : List ℕ) (begun : Option Begun)
    (lines : List ShowLine) → Frames expects limits stream frames unparsed → (unparsed ≡ [] → ⊥)
    → ShowsFrames frames begun lines → status ≡ Fault
    → output ≡ (preface_lines expects stream ++ lines) ++ rest_shown (length unparsed) ∷ []
    → ShownToEnd expects limits stream status output
inside_frame_outcome expects limits stream status output frames [] begun lines reading some shown
    known all = absurd (some refl)
inside_frame_outcome expects limits stream status output frames (first ∷ others) begun lines reading
    some shown known all = search rules

-- What is shown of a stream is one of the outcomes.
outcome : (expects : Bool) (limits : Limits) (stream : List ℕ) (status : Status)
    (output : List ShowLine) → Shows expects limits stream status output
    → Outcome expects limits stream status output
outcome expects limits stream status output (is_complete frames lines reading shown known all) =
    let line = all ∙ sym (append-nil (preface_lines expects stream ++ lines)) in search rules
outcome expects limits stream status output
    (ends_inside_frame frames unparsed begun lines reading some shown known all) =
    inl (inside_frame_outcome _ _ _ _ _ _ _ _ _ reading some shown known all)
outcome expects limits stream status output
    (ends_inside_block frames begun lines reading shown known all) = search rules
outcome expects limits stream status output
    (has_wire_fault frames begun place fault lines at shown known all) = search rules
outcome expects limits stream status output
    (has_block_error frames last begun place code lines within reading error shown known all) =
    search rules

-- The same frames are shown with the same lines, and the same has begun.
same_showing : (frames others : List Frame) (begun other : Option Begun)
    (lines texts : List ShowLine)
    → frames ≡ others → ShowsFrames frames begun lines → ShowsFrames others other texts
    → (begun ≡ other) × (lines ≡ texts)
same_showing frames others begun other lines texts same shown again =
    one_showing frames begun other lines texts shown
    (subst (λ (line : List Frame). ShowsFrames line other texts) (sym same) again)

module _ (expects : Bool) (limits : Limits) (stream : List ℕ) (status other : Status)
    (output another : List ShowLine) where
  -- Two ends of a stream without fault are one.
  same_ends : ShownToEnd expects limits stream status output
      → ShownToEnd expects limits stream other another → (status ≡ other) × (output ≡ another)
  same_ends one two =
      let read = one_reading_lem _ _ _ _ _ _ _ one.reading two.reading in
      let same = same_showing _ _ _ _ _ _ read.0 one.shown two.shown in (
        one.known ∙ (λ i. end_status (read.1 i) (same.0 i)) ∙ sym two.known,
        one.all
            ∙ (λ i. (preface_lines expects stream ++ same.1 i) ++ end_line (read.1 i) (same.0 i))
            ∙ sym two.all,
      )

  -- Two octets of a stream at fault are one.
  same_wire_faults : ShownToWireFault expects limits stream status output
      → ShownToWireFault expects limits stream other another → (status ≡ other) × (output ≡ another)
  same_wire_faults one two =
      let at = one_fault_lem _ _ stream [] _ _ _ _ _ _ one.at
      (subst (λ (octets : List ℕ). WireFaultAt expects limits octets two.frames two.place two.fault)
      (sym (append-nil stream)) two.at) in
      let same = same_showing _ _ _ _ _ _ at.0 one.shown two.shown in (
        one.known ∙ sym two.known,
        one.all ∙ (λ i. (preface_lines expects stream ++ same.1 i)
            ++ fault_shown (wire_fault_code (at.2 i)) (saturated (at.1 i)) ∷ []) ∙ sym two.all,
      )

-- A stream without fault has no frame with an error of its blocks.
no_end_and_error : {Goal : Type 0} (expects : Bool) (limits : Limits) (stream : List ℕ)
    (status other : Status)
    (output another : List ShowLine) → ShownToEnd expects limits stream status output
    → ShownToBlockError expects limits stream other another → Goal
no_end_and_error expects limits stream status other output another one two =
    absurd (no_error_within _ _ _ _ _ _ _ _ _ _ two.reading two.error one.reading
    (shown_frames_decode _ _ _ one.shown))

-- A stream without fault has no octet at fault.
no_end_and_fault : {Goal : Type 0} (expects : Bool) (limits : Limits) (stream : List ℕ)
    (status other : Status)
    (output another : List ShowLine) → ShownToEnd expects limits stream status output
    → ShownToWireFault expects limits stream other another → Goal
no_end_and_fault expects limits stream status other output another one two =
    absurd (no_reading_here _ _ _ _ _ _ _ _ two.at one.reading)

-- No frame with an error of its blocks precedes an octet at fault after frames that decode.
no_fault_and_error : {Goal : Type 0} (expects : Bool) (limits : Limits) (stream : List ℕ)
    (status other : Status)
    (output another : List ShowLine) → ShownToWireFault expects limits stream status output
    → ShownToBlockError expects limits stream other another → Goal
no_fault_and_error expects limits stream status other output another one two =
    let (following, same) = longer_fault _ _ _ (drop two.place stream) _ _ _ _ _ two.reading
    (subst (λ (octets : List ℕ). WireFaultAt expects limits octets one.frames one.place one.fault)
    (sym (take-append-drop two.place stream)) one.at) in
    absurd (error_stops _ following _ _ _ two.error
    (subst (λ (line : List Frame). FramesDecode line one.begun one.shown.table) same
    (shown_frames_decode _ _ _ one.shown)))

module _ (expects : Bool) (limits : Limits) (stream : List ℕ) (status other : Status)
    (output another : List ShowLine) where
  -- Two octets of a stream at the ends of frames with errors of their blocks are one.
  same_errors : ShownToBlockError expects limits stream status output
      → ShownToBlockError expects limits stream other another → (status ≡ other)
      × (output ≡ another)
  same_errors one two =
      let framed : one.frames ++ one.last ∷ [] ≡ two.frames ++ two.last ∷ [] =
      one_wrong_frame _ _ _ _ _ _ _ _ _ _ _ _ _ one.reading two.reading one.error two.error
      (shown_frames_decode _ _ _ one.shown) (shown_frames_decode _ _ _ two.shown) in
      let reading = subst (λ (line : List Frame).
      Frames expects limits (take two.place stream) line []) (sym framed) two.reading in
      let place : one.place ≡ two.place =
      one_place _ _ _ _ _ _ (some_frames _ _) one.within two.within one.reading reading in
      let code : one.code ≡ two.code = one_error _ _ _ one.error
      (subst (λ (line : List Frame). EndsWithBlockError line two.code) (sym framed) two.error) in
      let same = same_showing _ _ _ _ _ _ (one_without_last _ _ _ _ framed) one.shown two.shown in (
        one.known ∙ sym two.known,
        one.all ∙ (λ i. (preface_lines expects stream ++ same.1 i)
            ++ fault_shown (code i) (saturated (place i)) ∷ []) ∙ sym two.all,
      )

  -- Two outcomes of a stream are one.
  same_outcomes : Outcome expects limits stream status output
      → Outcome expects limits stream other another → (status ≡ other) × (output ≡ another)
  same_outcomes (inl one) (inl two) =
      same_ends expects limits stream status other output another one two
  same_outcomes (inl one) (inr (inl two)) =
      no_end_and_fault expects limits stream status other output another one two
  same_outcomes (inl one) (inr (inr two)) =
      no_end_and_error expects limits stream status other output another one two
  same_outcomes (inr (inl one)) (inl two) =
      no_end_and_fault expects limits stream other status another output two one
  same_outcomes (inr (inl one)) (inr (inl two)) =
      same_wire_faults expects limits stream status other output another one two
  same_outcomes (inr (inl one)) (inr (inr two)) =
      no_fault_and_error expects limits stream status other output another one two
  same_outcomes (inr (inr one)) (inl two) =
      no_end_and_error expects limits stream other status another output two one
  same_outcomes (inr (inr one)) (inr (inl two)) =
      no_fault_and_error expects limits stream other status another output two one
  same_outcomes (inr (inr one)) (inr (inr two)) = same_errors one two

  -- A stream has one output and one status.
  pub one_output_lem : Shows expects limits stream status output
      → Shows expects limits stream other another → (status ≡ other) × (output ≡ another)
  one_output_lem shows again = same_outcomes (outcome expects limits stream status output shows)
      (outcome expects limits stream other another again)

-- The octets that an end sent have one output and one status.
one_output_of_octets : (options : ShowOptions) (octets : List ℕ) (status other : Status)
    (output another : List ℕ) → ShowsOctets options octets status output
    → ShowsOctets options octets other another → (status ≡ other) × (output ≡ another)
one_output_of_octets options octets status other output another (lines, shows, text)
    (others, again, texts) =
    let same = one_output_lem (begins_with_preface options.from) (limits_of options) octets status
    other lines others shows again in
    (same.0, text ∙ ap (styled_text options.style) same.1 ∙ sym texts)

-- An input has one output and one status, whether it is octets or hexadecimal.
pub one_output_of_input : (hex : Bool) (options : ShowOptions) (given : List ℕ)
    (status other : Status) (output another : List ℕ)
    → MatchBool hex (ShowsText options given status output)
    (ShowsOctets options given status output)
    → MatchBool hex (ShowsText options given other another)
    (ShowsOctets options given other another)
    → (status ≡ other) × (output ≡ another)
one_output_of_input false options given status other output another shows again =
    one_output_of_octets options given status other output another shows again
one_output_of_input true options given status other output another (octets, read, shows)
    (others, reread, again) =
    let decoded = sym read ∙ reread in
    let same : octets ≡ others = cc in
    one_output_of_octets options others status other output another
    (subst (λ (some : List ℕ). ShowsOctets options some status output) same shows) again
