-- The octets that an end of a pair is given begin the output of the other: they are read as the
-- first of its frames, and hold no fault.
use Rattle.h2_spec_log.specs.Histories.{TakesFrame, TakesFault}
use Rattle.std.proofs.Math.Seq.{take-length}
use Rattle.std.proofs.lemmas.Bool.{lt-leb}
use Rattle.std.proofs.lemmas.List.{length-replicate}
use Rattle.h2_frame.specs.Encoding.{padded, prioritized, payload_of}
use Rattle.h2_frame.specs.Frames.{Priority, Unknown, IsPadded, IsPrioritized, Carries, Encodes}
use Rattle.h2_frame.proofs.FramePartsLemmas.{length-pair_octets}
use Rattle.h2_frame.proofs.PairLemmas.{length-pairs_in}
use Rattle.h2_wire.specs.Streams.{AreFrames}
use Rattle.h2_wire.proofs.FaultLemmas.{no_reading, no_reading_lem}
use Rattle.h2_wire.proofs.ReadingLemmas.{same_following, same_head, nine_in_frame}
use Rattle.h2_laws_end.proofs.ReadPrefixes.{ReadPrefix, prefix_read}
use Rattle.h2_laws_pair.proofs.Names
use Names.{◌≡◌, inl, inr, ℕ, ◌+◌, ◌≤◌, not, Bool, List, [], ◌∷◌, ◌++◌, length, take, drop, Option}
use Names.{Some, None, refl, sym, ap, ◌∙◌, arith, append_assoc, append-nil, length-append}
use Names.{length-drop, Head, Frame, Data, Headers, Reset, Settings, Ping, GoAway, WindowUpdate}
use Names.{Continuation, WireFault, expected_preface, Limits, IsSound, Frames, one_reading_lem}
use Names.{Role, Values, max_frame_size_sent, is_server, payload_limit, Log, acked, limits_from}
use Names.{IsLog, stream_of_log, frames_by, output_read, read_here, Half, head_of}
use Rattle.h2_laws_pair.proofs.BothWays.{AreEnds, IsDirection, ends_of}
use Rattle.h2_laws_pair.proofs.WiderLimits.{wider_limits, comes_widely, IsLongHead, fault_wider}
use Rattle.h2_laws_pair.proofs.FaultsOfSizes.{next_within}
use Rattle.h2_laws_pair.proofs.CarriedItems.{begins_with_input}

-- Its first octets are read as the first of these frames.
pub first_read : (role : Role) (values : Values) (log : Log) (limits : Limits)
    (octets more : List ℕ) → IsLog role values log
    → ((place : ℕ) → max_frame_size_sent ≤ limits place) → log.written ≡ octets ++ more
    → ReadPrefix (not (is_server role)) limits (frames_by log.payloads log.sent) [] octets more
first_read role values log limits octets more is high joined =
    prefix_read _ _ _ [] _ more (rw joined at (output_read role values log limits is high))

-- The octets of an end, those that come next, and those after them.
pub octets_joined : (input lost incoming octets rest written : List ℕ) (given : ℕ) → lost ≡ []
    → incoming ≡ octets ++ rest → input ++ (lost ++ incoming) ≡ take given written
    → written ≡ (input ++ octets) ++ (rest ++ drop given written)
octets_joined input lost incoming octets rest written given none came is =
    let begins : input ++ (octets ++ rest) ≡ take given written = rw (none, came) at is in
    begins_with_input input (octets ++ rest) written given begins ∙ simp append_assoc

-- A payload is no longer than its body, padded, where it is as padded as that.
padded_long : (flagged : Bool) (payload body written : List ℕ) (pad : Option ℕ)
    → IsPadded flagged payload body pad → length body ≤ length written
    → length payload ≤ length (padded written pad)
padded_long flagged payload body written None (plain, same) within = rw same within
padded_long flagged payload body written (Some count) (set, padding, counted, joined) within =
    rw joined (omega (arith, length-append {A = ℕ}, length-replicate {A = ℕ}))

-- A body is no longer than its priority and its fragment.
prioritized_long : (flagged : Bool) (body fragment : List ℕ) (priority : Option (List ℕ))
    → IsPrioritized flagged body fragment priority
    → length body ≤ length (prioritized fragment priority)
prioritized_long flagged body fragment None (plain, same) = rw same (omega arith)
prioritized_long flagged body fragment (Some priority) (set, five, joined) = rw joined (omega arith)

-- A payload that was read is no longer than what is written of its frame.
carried_short : (head : Head) (payload : List ℕ) (frame : Frame) → Carries head payload frame
    → length payload ≤ length (payload_of frame)
unfolding payload_of
carried_short head payload (Data stream end octets pad) (kind, on, some, ends, pads) =
    padded_long _ payload octets octets pad pads (omega arith)
carried_short head payload (Headers stream end whole fragment pad priority)
    (kind, on, some, ends, ended, body, pads, precedes) =
    padded_long _ _ body _ pad pads (prioritized_long _ body fragment priority precedes)
carried_short head payload (Priority stream octets) (kind, on, some, complete, read) =
    rw read (omega arith)
carried_short head payload (Reset stream code) (kind, on, some, complete, read) =
    omega (arith, complete)
carried_short head payload (Settings ack pairs) (kind, on, acked, complete, none, read) =
    rw (length-pair_octets pairs, read, length-pairs_in) (omega (arith, complete))
carried_short head payload (Ping ack octets) (kind, on, acked, complete, read) =
    rw read (omega arith)
carried_short head payload (GoAway last code debug) (kind, on, complete, lasts, coded, read) =
    rw read (omega (arith, complete, length-drop 8 payload))
carried_short head payload (WindowUpdate stream increment) (kind, on, complete, read) =
    omega (arith, complete)
carried_short head payload (Continuation stream whole fragment) (kind, on, some, ended, read) =
    rw read (omega arith)
carried_short head payload (Unknown kind flags stream octets) (known, flagged, on, read) =
    rw read (omega arith)

-- The octets of a frame say no greater length than that of what is written of it.
encoded_short : (frame : Frame) (octets : List ℕ) → Encodes frame octets
    → (head_of octets).length ≤ length (payload_of frame)
encoded_short frame octets encodes =
    let complete = encodes.complete in
    let short = carried_short (head_of octets) (drop 9 octets) frame encodes.carried in
    omega (arith, length-drop 9 octets)

-- What follows the octets of the first frames are the octets of the others.
rest_framed : (limits : Limits) (preceding : ℕ) (frames later : List Frame)
    (whole body tail : List ℕ) → AreFrames limits preceding (frames ++ later) whole
    → AreFrames limits preceding frames body → whole ≡ body ++ tail
    → AreFrames limits (preceding + length body) later tail
rest_framed limits preceding [] later whole body tail all none joined =
    let at : preceding ≡ preceding + length body = rw none (omega arith) in
    rw (← at) (rw (rw none at joined) at all)
rest_framed limits preceding (frame ∷ frames) later whole body tail
    (first, following, split, sound, framed) (second, beyond, parted, complete, sequel) joined =
    let line : first ++ following ≡ second ++ (beyond ++ tail) =
    sym split ∙ rw (joined, parted, append_assoc) refl in
    let same : head_of first ≡ head_of second =
    same_head first second following (beyond ++ tail) (nine_in_frame _ frame first sound)
    (nine_in_frame _ frame second complete) line in
    let long : length first ≡ length second = sound.encodes.complete
    ∙ ap (λ head. 9 + head.length) same ∙ sym complete.encodes.complete in
    let at : preceding + length first + length beyond ≡ preceding + length body =
    rw (parted, length-append, ← long) (omega arith) in
    rw at at (rest_framed limits (preceding + length first) frames later following beyond tail
    framed (rw (← long) at sequel)
    (same_following first second following (beyond ++ tail) long line))

-- The frame to which a head belongs, which stands after other frames.
record HeadsFrame (all frames : List Frame) (last : List ℕ) : Type 0 where
  pub frame : Frame
  pub later : List Frame
  pub frames_are : all ≡ frames ++ frame ∷ later
  pub long : (head_of last).length ≤ length (payload_of frame)

-- By the frames that follow: there is one, since octets do.
heads_by : (limits : Limits) (place : ℕ) (all frames others : List Frame) (last more : List ℕ)
    → all ≡ frames ++ others → length last ≡ 9 → AreFrames limits place others (last ++ more)
    → HeadsFrame all frames last
heads_by limits place all frames [] last more are nine none =
    let counted = simp length-append at (ap length none) in
    absurd (omega (arith, counted, nine))
heads_by limits place all frames (frame ∷ later) last more are nine
    (first, following, split, sound, framed) =
    let same : head_of last ≡ head_of first = same_head _ first _ following (omega (arith, nine))
    (nine_in_frame _ frame first sound) split in
    record {
      frame = frame;
      later = later;
      frames_are = are;
      long = rw same (encoded_short frame first sound.encodes);
    }

-- A head after the first frames of a stream that is read is that of the next one.
heads_frame : (expects : Bool) (limits : Limits) (stream : List ℕ)
    (all frames others : List Frame) (part last more : List ℕ)
    → Frames expects limits stream all [] → stream ≡ part ++ (last ++ more)
    → IsSound expects limits frames part → all ≡ frames ++ others → length last ≡ 9
    → HeadsFrame all frames last
heads_frame expects limits stream all frames others part last more (inl short) joined sound are
    nine =
    let counted = simp length-append at (ap length joined) in
    let opened = simp length-append at (ap length sound.opened) in
    let few = short.short in
    absurd (omega (arith, counted, opened, few))
heads_frame expects limits stream all frames others part last more (inr past) joined sound are
    nine =
    let preface = expected_preface expects in
    let line : preface ++ past.sound.body ≡ preface ++ (sound.body ++ (last ++ more)) = sym
    past.sound.opened ∙ sym (append-nil past.part) ∙ sym past.joined ∙ joined ∙ ap
    (λ (octets : List ℕ). octets ++ (last ++ more)) sound.opened ∙ append_assoc _ sound.body _ in
    let bodies : past.sound.body ≡ sound.body ++ (last ++ more) = same_following preface preface
    past.sound.body (sound.body ++ (last ++ more)) refl line in
    heads_by limits (length preface + length sound.body) all frames others last more are nine
    (rest_framed limits (length preface) frames others past.sound.body sound.body (last ++ more)
    (rw are at past.sound.framed) sound.framed bodies)

-- A fault of octets that were used already is none, since these were read.
none_used : (role : Role) (values : Values) (log : Log) (fault : WireFault)
    → IsLog role values log → log.failed ≡ None → TakesFault role log [] fault → ⊥
none_used role values log fault is up at =
    let expects = is_server role in
    let limits = limits_from log in
    let read = read_here expects log ((stream_of_log role values log is).framed up) in
    no_reading_lem expects limits (log.input ++ []) [] log.frames log.frames
    (length (log.input ++ [])) fault log.unparsed at
    (rw (append-nil (log.input ++ []), append-nil log.input) read)

-- No head that comes next is too long.
no_long_head : (writer reader : Half) (octets more : List ℕ) → IsDirection writer reader
    → reader.log.failed ≡ None → (ends : AreEnds writer reader)
    → writer.log.written ≡ (reader.log.input ++ octets) ++ more → 1 ≤ length octets
    → IsLongHead (not (is_server ends.writer_role)) (limits_from reader.log)
    (wider_limits reader.log) reader.log.frames (reader.log.input ++ octets) → ⊥
no_long_head writer reader octets more is up ends joined some head =
    let expects = not (is_server ends.writer_role) in
    let others = wider_limits reader.log in
    let frames = reader.log.frames in
    let line = reader.log.input ++ octets in
    let all = frames_by writer.log.payloads writer.log.sent in
    let nine = head.nine in
    let long = head.long in
    let framed : Frames expects others line frames head.last = inr (record {
      part = head.part;
      joined = head.joined;
      sound = head.sound;
      partial = λ enough. (head.sound_head, omega (arith, long, nine));
    }) in
    let first = first_read _ _ writer.log others line more ends.writer_log (λ place. omega arith)
    joined in
    let one = one_reading_lem _ others _ first.first _ first.left head.last first.read framed in
    let next = heads_frame expects others writer.log.written all frames first.later head.part
    head.last more (output_read _ _ writer.log others ends.writer_log (λ place. omega arith))
    (rw (joined, head.joined, append_assoc) refl) head.sound (rw (first.frames_are, one.0) refl)
    nine in
    let counted : length reader.log.input + length octets ≡ length head.part + 9 = omega
    (arith, ap length head.joined, length-append {A = ℕ}) in
    let ahead : limits_from reader.log (length head.part + 9) ≡ payload_limit (acked reader.log)
    reader.log.sent =
    rw (lt-leb (length head.part + 9) (length reader.log.input) (omega (arith, counted, some))) refl
    in
    omega (arith, next.long, next_within writer reader is up next.frame next.later next.frames_are)

-- The octets that come next hold no fault, by those of them that are new.
no_fault_in : (writer reader : Half) (octets more : List ℕ) (fault : WireFault)
    → IsDirection writer reader → reader.log.failed ≡ None → (ends : AreEnds writer reader)
    → writer.log.written ≡ (reader.log.input ++ octets) ++ more → 1 ≤ length octets
    → TakesFault ends.reader_role reader.log octets fault → ⊥
no_fault_in writer reader octets more fault is up ends joined some at =
    let expects = not (is_server ends.writer_role) in
    let limits = limits_from reader.log in
    let others = wider_limits reader.log in
    let frames = reader.log.frames in
    let line = reader.log.input ++ octets in
    let whole : take (length line) line ≡ line = take-length line in
    let made = rw (ends.opposite, whole) at at.made in
    let read = first_read _ _ _ others _ _ ends.writer_log (λ place. omega arith) joined in
    elim (fault_wider expects limits others frames line fault (λ place within. omega arith) made) [
      | inl (other, wrong) ↦
          no_reading expects others line [] line read.left frames read.first other wrong
          (sym (append-nil line)) read.read
      | inr head ↦ no_long_head writer reader octets more is up ends joined some head
    ]

-- The octets hold no fault.
pub no_wire_fault : (writer reader : Half) (octets more : List ℕ) (fault : WireFault)
    → IsDirection writer reader → reader.log.failed ≡ None
    → writer.log.written ≡ (reader.log.input ++ octets) ++ more
    → TakesFault reader.log.role reader.log octets fault → ⊥
no_wire_fault writer reader [] more fault is up joined at =
    let ends = ends_of writer reader is in
    none_used _ _ reader.log fault ends.reader_log up
    (rw (stream_of_log _ _ reader.log ends.reader_log).role at at)
no_wire_fault writer reader (octet ∷ octets) more fault is up joined at =
    let ends = ends_of writer reader is in
    no_fault_in writer reader (octet ∷ octets) more fault is up ends joined (omega arith)
    (rw (stream_of_log _ _ reader.log ends.reader_log).role at at)

-- A frame that ends with octets is the next of the frames of the items.
pub record NextFrame (writer reader : Log) (frame : Frame) : Type 0 where
  pub later : List Frame
  pub frames : frames_by writer.payloads writer.sent ≡ (reader.frames ++ frame ∷ []) ++ later

pub next_frame : (writer reader : Half) (octets more : List ℕ) (frame : Frame)
    → AreEnds writer reader → writer.log.written ≡ (reader.log.input ++ octets) ++ more
    → TakesFrame reader.log.role reader.log octets frame → NextFrame writer.log reader.log frame
next_frame writer reader octets more frame ends joined takes =
    let expects = not (is_server ends.writer_role) in
    let limits = wider_limits reader.log in
    let line = reader.log.input ++ octets in
    let frames = reader.log.frames ++ frame ∷ [] in
    let read = first_read _ _ _ limits _ more ends.writer_log (λ place. omega arith) joined in
    let framed = comes_widely expects reader.log line frames []
    (rw ((stream_of_log _ _ reader.log ends.reader_log).role, ends.opposite) at takes) in
    let one = one_reading_lem expects limits line read.first frames read.left [] read.read framed in
    record {
      later = read.later;
      frames = read.frames_are ∙ ap (λ (frames : List Frame). frames ++ read.later) one.0;
    }
