-- Where memory isn't refused, what a call of `take` answers and the log after it follow from the
-- log and the piece.
use Rattle.h2_laws_end.proofs.Names
use Names.{◌≡◌, frame_step, took_frame, took_fault, TakeAnswer, has_failed, ends_frame, TakesOctets}
use Names.{◌≢◌, ℕ, [], sym, ap, ◌∙◌, Code, Log, Took}
use Names.{List, ◌++◌, Option, Some, None, refl, Frame, Event, log_view, Decoded, Failed, MayTake}
use Names.{length, EndsWithFault, wire_fault_code, one_reading_lem, events_answered, same_following}
use Names.{subst, append_assoc, IsDecodedFor, AnswersFrame, ends_no_frame, meets_fault, same_prefix}
use Names.{WireFault, none_some, one_some, is_server, took_none, TakesPart, TakesFrame, TakesFault}
use Names.{UnprocessedEvent, next_unprocessed, limits_from, reports_unprocessed, runs_out_of_memory}
use Rattle.std.proofs.Math.Seq.{take-length}
use Rattle.h2_wire.proofs.FaultLemmas.{one_making, no_reading}
use Rattle.h2_spec_log.specs.LogSteps.{took_part}
use Rattle.h2_laws_end.specs.Takes.{HadMemory}
use Rattle.h2_laws_end.proofs.FrameEnds.{same_piece, no_frame_in, no_frame_at_fault}
use Rattle.h2_laws_end.proofs.Runs.{one_last, one_seen}
use Rattle.h2_laws_end.proofs.TakeAnswers.{failed_take}
use Rattle.h2_laws_end.proofs.OverEvents.{no_event}

-- At most one event before the same events is one.
one_event : (event other : Option Event) (events : List Event)
    → events_answered event ++ events ≡ events_answered other ++ events → event ≡ other
one_event None None events same = refl
one_event None (Some other) events same = no_event other events same
one_event (Some event) None events same = no_event event events (sym same)
one_event (Some event) (Some other) events same = let one : event ≡ other = cc in ap Some one

-- Once a frame has ended there is one answer.
one_answer : (log after : Log) (count : ℕ) (answer answered : TakeAnswer)
    → AnswersFrame log after count answer → AnswersFrame log after count answered
    → answer ≡ answered
one_answer log after count (Took n event) (Took m other) is again =
    ap (λ (n : ℕ). Took n event) (is.0 ∙ sym again.0)
    ∙ ap (λ (event : Option Event). Took m event) (one_event _ _ log.reported (sym is.2 ∙ again.2))
one_answer log after count (Took n event) (Failed code) is again = none_some code (sym is.1 ∙ again)
one_answer log after count (Failed code) (Took n event) is again = none_some code (sym again.1 ∙ is)
one_answer log after count (Failed code) (Failed other) is again =
    ap Failed (one_some code other (sym is ∙ again))

-- The line of what was used before and a piece.
line : (before piece octets unused : List ℕ) → piece ≡ octets ++ unused
    → before ++ piece ≡ (before ++ octets) ++ unused
line before piece octets unused joined =
    ap (λ (piece : List ℕ). before ++ piece) joined ∙ sym (append_assoc before octets unused)

-- Two of them.
pub one_line : (before piece octets unused others left : List ℕ) → piece ≡ octets ++ unused
    → piece ≡ others ++ left → (before ++ octets) ++ unused ≡ (before ++ others) ++ left
one_line before piece octets unused others left joined again =
    sym (line before piece octets unused joined) ∙ line before piece others left again

-- The fault is made with the last octet.
fault_made : (log : Log) (octets : List ℕ) (fault : WireFault)
    → TakesFault log.role log octets fault
    → EndsWithFault (is_server log.role) (limits_from log) log.frames (log.input ++ octets) fault
fault_made log octets fault at =
    subst (λ (stream : List ℕ). EndsWithFault (is_server log.role) (limits_from log) log.frames
    stream fault) (take-length (log.input ++ octets)) at.made

-- A piece in which no frame ends isn't one in which one does.
part_frame : (log : Log) (piece unparsed octets unused : List ℕ) (frame : Frame)
    → TakesPart log.role log piece unparsed → TakesFrame log.role log octets frame
    → piece ≡ octets ++ unused → ⊥
part_frame log piece unparsed octets unused frame part framed joined =
    no_frame_in _ _ _ _ _ _ _ unused part framed (line log.input piece octets unused joined)

-- Nor one that makes a fault.
part_fault : (log : Log) (piece unparsed octets unused : List ℕ) (fault : WireFault)
    → TakesPart log.role log piece unparsed → TakesFault log.role log octets fault
    → piece ≡ octets ++ unused → ⊥
part_fault log piece unparsed octets unused fault part at joined =
    no_reading _ _ _ _ _ _ _ _ fault (fault_made log octets fault at)
    (line log.input piece octets unused joined) part

-- A piece in which a frame ends first makes no fault before.
pub frame_fault : (log : Log) (piece octets unused others left : List ℕ) (frame : Frame)
    (fault : WireFault) → TakesFrame log.role log octets frame
    → TakesFault log.role log others fault → piece ≡ octets ++ unused → piece ≡ others ++ left → ⊥
frame_fault log piece octets unused others left frame fault framed at joined again =
    no_frame_at_fault _ _ _ _ _ _ _ _ fault (fault_made log others fault at) framed
    (one_line log.input piece others left octets unused again joined)

-- Two calls answer the same, and have the same log after them.
abbrev IsSame : (answer answered : TakeAnswer) (after other : Log) → Type 0
IsSame answer answered after other = (answer ≡ answered) × (after ≡ other)

-- Where two frames end in a piece they are one, with the same octets.
pub same_ends : (log : Log) (piece octets unused others left : List ℕ) (frame another : Frame)
    → piece ≡ octets ++ unused → piece ≡ others ++ left → TakesFrame log.role log octets frame
    → TakesFrame log.role log others another → (octets ≡ others) × (frame ≡ another)
same_ends log piece octets unused others left frame another joined again framed completed =
    let stream : log.input ++ octets ≡ log.input ++ others = same_piece (is_server log.role)
    (limits_from log) log.frames frame another _ _ unused left framed completed
    (one_line log.input piece octets unused others left joined again) in
    let used : octets ≡ others = same_following log.input log.input octets others refl stream in
    let completed_now : TakesFrame log.role log octets another =
    subst (λ (o : List ℕ). TakesFrame log.role log o another) (sym used) completed in (
      used,
      one_last log.frames frame another (one_reading_lem _ _ _ _ _ [] [] framed completed_now).0,
    )

module _ (log after other : Log) (piece octets unused others left : List ℕ) where
  -- Of two frames.
  one_frame : (frame another : Frame) (decoded seen : Option Decoded) (answer answered : TakeAnswer)
      → piece ≡ octets ++ unused → piece ≡ others ++ left → TakesFrame log.role log octets frame
      → TakesFrame log.role log others another → IsDecodedFor log decoded frame
      → IsDecodedFor log seen another → after ≡ took_frame log octets decoded frame
      → other ≡ took_frame log others seen another → AnswersFrame log after (length octets) answer
      → AnswersFrame log other (length others) answered → IsSame answer answered after other
  one_frame frame another decoded seen answer answered
      joined again framed completed sees reads same is answers says =
      let (used, frames) = same_ends log piece octets unused others left frame another joined again
      framed completed in
      let reads_now : IsDecodedFor log seen frame =
      subst (λ (f : Frame). IsDecodedFor log seen f) (sym frames) reads in
      let decodes : decoded ≡ seen = one_seen log decoded seen (frame_step (log_view log) frame)
      sees reads_now in
      let after_it : after ≡ other = same ∙ ap (λ (o : List ℕ). took_frame log o decoded frame) used
      ∙ ap (λ (d : Option Decoded). took_frame log others d frame) decodes
      ∙ ap (λ (f : Frame). took_frame log others seen f) frames ∙ sym is in (
        one_answer log after (length octets) answer answered answers
            (subst (λ (log_after : Log). AnswersFrame log log_after (length octets) answered)
            (sym after_it) (subst (λ (o : List ℕ). AnswersFrame log other (length o) answered)
            (sym used) says)),
        after_it,
      )

  -- Of two faults.
  one_fault : (fault another : WireFault) (answer answered : TakeAnswer) → piece ≡ octets ++ unused
      → piece ≡ others ++ left → TakesFault log.role log octets fault
      → TakesFault log.role log others another → answer ≡ Failed (wire_fault_code fault)
      → answered ≡ Failed (wire_fault_code another) → after ≡ took_fault log octets fault
      → other ≡ took_fault log others another → IsSame answer answered after other
  one_fault fault another answer answered joined again at by answers says same is =
      let in_line = one_line log.input piece octets unused others left joined again in
      let one = one_making (is_server log.role) (limits_from log) log.frames log.frames
      (log.input ++ octets) (log.input ++ others) unused left fault another
      (fault_made log octets fault at) (fault_made log others another by) in_line in
      let used : octets ≡ others = same_following log.input log.input octets others refl
      (same_prefix (log.input ++ octets) (log.input ++ others) unused left one.1 in_line) in (
        answers ∙ ap (λ (f : WireFault). Failed (wire_fault_code f)) one.2 ∙ sym says,
        same ∙ ap (λ (o : List ℕ). took_fault log o fault) used
            ∙ ap (λ (f : WireFault). took_fault log others f) one.2 ∙ sym is,
      )

-- What was answered again once the connection had failed is what any call answers.
after_failure : (log after other : Log) (piece : List ℕ) (answer answered : TakeAnswer)
    (code : Code) → log.failed ≡ Some code → answer ≡ Failed code → after ≡ log
    → MayTake log piece answered other → IsSame answer answered after other
after_failure log after other piece answer answered code failed answers same may =
    let again = failed_take log other piece answered code failed may in
    (answers ∙ sym again.1, same ∙ sym again.0)

-- So is a stream that the peer doesn't process.
after_unprocessed : (log after other : Log) (piece : List ℕ) (answer answered : TakeAnswer)
    → log.failed ≡ None → next_unprocessed log ≢ 0
    → answer ≡ Took 0 (Some (UnprocessedEvent (next_unprocessed log))) → after ≡ took_none log
    → (b : MayTake log piece answered other) → HadMemory b → IsSame answer answered after other
after_unprocessed log after other piece answer answered up some answers same
    (has_failed code failed says is) had = none_some code (sym up ∙ failed)
after_unprocessed log after other piece answer answered up some answers same
    (reports_unprocessed still more says is) had = (answers ∙ sym says, same ∙ sym is)
after_unprocessed log after other piece answer answered up some answers same
    (ends_no_frame takes unparsed part says is) had = absurd (some takes.all_reported)
after_unprocessed log after other piece answer answered up some answers same
    (ends_frame takes octets unused joined frame decoded framed sees is says) had =
    absurd (some takes.all_reported)
after_unprocessed log after other piece answer answered up some answers same
    (meets_fault takes octets unused joined fault at says is) had = absurd (some takes.all_reported)
after_unprocessed log after other piece answer answered up some answers same
    (runs_out_of_memory still octets unused joined may says is) had = absurd had

-- And a piece in which no frame ends.
after_part : (log after other : Log) (piece unparsed : List ℕ) (answer answered : TakeAnswer)
    → TakesOctets log → TakesPart log.role log piece unparsed → answer ≡ Took (length piece) None
    → after ≡ took_part log piece unparsed
    → (b : MayTake log piece answered other) → HadMemory b → IsSame answer answered after other
after_part log after other piece unparsed answer answered takes part answers same
    (has_failed code failed says is) had = none_some code (sym takes.up ∙ failed)
after_part log after other piece unparsed answer answered takes part answers same
    (reports_unprocessed up some says is) had = absurd (some takes.all_reported)
after_part log after other piece unparsed answer answered takes part answers same
    (ends_no_frame again beyond read says is) had =
    let one = one_reading_lem _ _ _ _ _ _ _ part read in (
      answers ∙ sym says,
      same ∙ ap (λ (octets : List ℕ). took_part log piece octets) one.1 ∙ sym is,
    )
after_part log after other piece unparsed answer answered takes part answers same
    (ends_frame again octets unused joined frame decoded framed sees is says) had =
    absurd (part_frame log piece unparsed octets unused frame part framed joined)
after_part log after other piece unparsed answer answered takes part answers same
    (meets_fault again octets unused joined fault at says is) had =
    absurd (part_fault log piece unparsed octets unused fault part at joined)
after_part log after other piece unparsed answer answered takes part answers same
    (runs_out_of_memory up octets unused joined may says is) had = absurd had

module _ (log after other : Log) (piece : List ℕ) where
  -- And one with which a frame ends.
  after_frame : (octets unused : List ℕ) (frame : Frame) (decoded : Option Decoded)
      (answer answered : TakeAnswer) → TakesOctets log → piece ≡ octets ++ unused
      → TakesFrame log.role log octets frame → IsDecodedFor log decoded frame
      → after ≡ took_frame log octets decoded frame → AnswersFrame log after (length octets) answer
      → (b : MayTake log piece answered other) → HadMemory b → IsSame answer answered after other
  after_frame octets unused frame decoded answer answered takes joined framed sees same answers
      (has_failed code failed says is) had = none_some code (sym takes.up ∙ failed)
  after_frame octets unused frame decoded answer answered takes joined framed
      sees same answers (reports_unprocessed up some says is) had = absurd (some takes.all_reported)
  after_frame octets unused frame decoded answer answered takes joined framed
      sees same answers (ends_no_frame again unparsed part says is) had =
      absurd (part_frame log piece unparsed octets unused frame part framed joined)
  after_frame octets unused frame decoded answer answered takes joined framed sees same answers
      (ends_frame again others left parted another seen completed reads is says) had =
      one_frame log after other piece octets unused others left frame another decoded seen answer
      answered joined parted framed completed sees reads same is answers says
  after_frame octets unused frame decoded answer answered takes joined framed
      sees same answers (meets_fault again others left parted fault at says is) had =
      absurd (frame_fault log piece octets unused others left frame fault framed at joined parted)
  after_frame octets unused frame decoded answer answered takes joined framed
      sees same answers (runs_out_of_memory up others left parted may says is) had = absurd had

  -- And one that makes a fault.
  after_fault : (octets unused : List ℕ) (fault : WireFault) (answer answered : TakeAnswer)
      → TakesOctets log → piece ≡ octets ++ unused → TakesFault log.role log octets fault
      → answer ≡ Failed (wire_fault_code fault) → after ≡ took_fault log octets fault
      → (b : MayTake log piece answered other) → HadMemory b → IsSame answer answered after other
  after_fault octets unused fault answer answered takes joined at answers same
      (has_failed code failed says is) had = none_some code (sym takes.up ∙ failed)
  after_fault octets unused fault answer answered takes joined at answers same
      (reports_unprocessed up some says is) had = absurd (some takes.all_reported)
  after_fault octets unused fault answer answered takes joined at answers same
      (ends_no_frame again unparsed part says is) had =
      absurd (part_fault log piece unparsed octets unused fault part at joined)
  after_fault octets unused fault answer answered takes joined at answers same
      (ends_frame again others left parted frame decoded framed sees is says) had =
      absurd (frame_fault log piece others left octets unused frame fault framed at parted joined)
  after_fault octets unused fault answer answered takes joined at answers same
      (meets_fault again others left parted another by says is) had =
      one_fault log after other piece octets unused others left fault another answer answered joined
      parted at by answers says same is
  after_fault octets unused fault answer answered takes joined at answers same
      (runs_out_of_memory up others left parted may says is) had = absurd had

  -- There is one answer, and one log after it.
  pub one_take : (answer answered : TakeAnswer) → (a : MayTake log piece answer after)
      → (b : MayTake log piece answered other) → HadMemory a → HadMemory b → (answer ≡ answered)
      × (after ≡ other)
  one_take answer answered (has_failed code failed answers same) b had also =
      after_failure log after other piece answer answered code failed answers same b
  one_take answer answered (reports_unprocessed up some answers same) b had
      also = after_unprocessed log after other piece answer answered up some answers same b also
  one_take answer answered (ends_no_frame takes unparsed part answers same) b had also = after_part
      log after other piece unparsed answer answered takes part answers same b also
  one_take answer answered
      (ends_frame takes octets unused joined frame decoded framed sees same answers) b had also =
      after_frame octets unused frame decoded answer answered takes joined
      framed sees same answers b also
  one_take answer answered (meets_fault takes octets unused joined fault at answers same) b had also
      = after_fault octets unused fault answer answered takes joined at answers same b also
  one_take answer answered
      (runs_out_of_memory up octets unused joined may answers same) b had also = absurd had
