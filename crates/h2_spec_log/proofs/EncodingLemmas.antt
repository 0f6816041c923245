-- A frame that comes in the encoding that is written is cut whole, where nothing stands between it
-- and the frames before it.
use Rattle.std.proofs.Common.{◌≡◌, ℕ, ◌+◌, true, false, List, [], ◌∷◌, ◌++◌, Some, None, refl}
use Rattle.std.proofs.Common.{length-append}
use Rattle.h2_frame.proofs.EncodingLemmas.{encoding_encodes, sound_head, sound_payload}
use Rattle.h2_wire.specs.Streams.{IsFrame, AreFrames, IsSound, IsAfterPreface}
use Rattle.h2_wire.proofs.StreamLemmas.{past_not_in_preface, past_frame, IsSound-push}
use Rattle.h2_wire.proofs.StreamLemmas.{IsPartial-empty}
use Rattle.h2_spec_log.specs.Histories.{TakesOctets}
use Rattle.h2_spec_log.proofs.Names
use Names.{◌≤◌, ◌<◌, ◌==◌, nat_lt, nat_le, ◌&&◌, Bool, length, Option, sym, ◌∙◌, arith, nat_tests}
use Names.{Field, Entries, Frame, Headers, encoding_of, refusal, Role, Values, payload_limit, Log}
use Names.{Decoded, took_frame, IsLog, subst, inl, inr, append-nil, payload_of, IsTyped}
use Names.{expected_preface, Limits, Frames, is_server, acked, limits_from, took_one, IsDecodedFor}
use Names.{before, takes, takes_block}
use Rattle.h2_spec_log.proofs.StreamLemmas.{stream_of_log}

-- Frames have other limits as well, where these are the same up to their last octet.
AreFrames-limits : (limits others : Limits) (start : ℕ) (frames : List Frame) (octets : List ℕ)
    → ((place : ℕ) → place ≤ start + length octets → others place ≡ limits place)
    → AreFrames limits start frames octets
    → AreFrames others start frames octets
AreFrames-limits limits others start [] octets same none = none
AreFrames-limits limits others start (frame ∷ frames) octets same
    (first, left, joined, whole, unparsed) =
    let counted : length octets ≡ length first + length left = rw (joined, length-append) refl in
    let long : 9 ≤ length first = omega (arith, whole.encodes.complete) in (
      first,
      left,
      joined,
      subst (λ limit. IsFrame limit frame first) (sym (same (start + 9) (omega arith))) whole,
      AreFrames-limits limits others (start + length first) frames left (λ place below. same place
          (omega arith)) unparsed,
    )

-- The encoding that is written of a frame is a frame without fault.
whole_frame : (limit : ℕ) (frame : Frame) → IsTyped frame → refusal frame ≡ None
    → length (payload_of frame) ≤ limit
    → IsFrame limit frame (encoding_of frame)
whole_frame limit frame typed writable fits = record {
  encodes = encoding_encodes frame typed writable;
  sound_head = sound_head frame limit typed writable fits;
  sound_payload = sound_payload frame typed writable;
}

-- A sound part with its frames has other limits as well.
pub sound_limits : (expects : Bool) (limits others : Limits) (frames : List Frame) (part : List ℕ)
    → ((place : ℕ) → place ≤ length part → others place ≡ limits place)
    → IsSound expects limits frames part → IsSound expects others frames part
sound_limits expects limits others frames part same sound =
    let counted : length part ≡ length (expected_preface expects) + length sound.body = rw
    (sound.opened, length-append) refl in
    record {
      body = sound.body;
      opened = sound.opened;
      framed = AreFrames-limits limits others (length
          (expected_preface expects)) frames sound.body (λ place below. same place
          (omega arith)) sound.framed;
    }

-- after the opening no preface stands
no_preface : (expects : Bool) (stream : List ℕ) → expects && nat_lt (length stream) 24 ≡ false
    → expects && length stream == 0 ≡ false
no_preface false stream h = refl
no_preface true stream h = grind (arith, nat_tests)

-- What is said of the limits: they are as before up to the stream's last octet, and from there on
-- this one is in force.
record IsAhead (stream : List ℕ) (limits others : Limits) (limit : ℕ) : Type 0 where
  same : (place : ℕ) → place ≤ length stream → others place ≡ limits place
  ahead : (place : ℕ) → length stream < place → others place ≡ limit

-- The first frame, after a preface.
first_frame : (limits others : Limits) (limit : ℕ) (frame : Frame)
    → IsAhead [] limits others limit → IsFrame limit frame (encoding_of frame)
    → Frames true others ([] ++ (expected_preface true ++ encoding_of frame)) ([] ++ frame ∷ []) []
first_frame limits others limit frame ahead whole =
    let here : IsFrame (others (length (expected_preface true) + 9)) frame
    (encoding_of frame) = subst (λ bound. IsFrame bound frame (encoding_of frame)) (sym
    (ahead.ahead _ (omega arith))) whole in
    inr (record {
      part = expected_preface true ++ encoding_of frame;
      joined = sym (append-nil _);
      sound = IsSound-push true others [] (expected_preface true) frame (encoding_of frame)
          (record {
            body = [];
            opened = sym (append-nil _);
            framed = refl;
          }) here;
      partial = IsPartial-empty _;
    })

-- A further frame.
further_frame : (expects : Bool) (limits others : Limits) (limit : ℕ) (stream : List ℕ)
    (frames : List Frame) (frame : Frame)
    → IsAhead stream limits others limit
    → IsFrame limit frame (encoding_of frame) → IsAfterPreface expects limits stream frames []
    → Frames expects others (stream ++ encoding_of frame) (frames
    ++ frame ∷ []) []
further_frame expects limits others limit stream frames frame ahead whole closed =
    let all : closed.part ≡ stream = sym (closed.joined ∙ append-nil closed.part) in
    let sound : IsSound expects others frames stream =
    sound_limits expects limits others frames stream ahead.same (subst
    (λ part. IsSound expects limits frames part) all closed.sound) in
    let here : IsFrame (others (length stream + 9)) frame (encoding_of frame) = subst
    (λ bound. IsFrame bound frame (encoding_of frame)) (sym (ahead.ahead _ (omega arith))) whole in
    let representing : IsAfterPreface expects others stream frames [] = record {
      part = stream;
      joined = sym (append-nil stream);
      sound = sound;
      partial = IsPartial-empty _;
    } in
    inr (past_frame expects others stream frames [] (encoding_of frame) frame representing here)

-- Either of them.
next_frame : (expects : Bool) (limits others : Limits) (limit : ℕ) (stream : List ℕ)
    (frames : List Frame) (frame : Frame)
    → IsAhead stream limits others limit
    → IsFrame limit frame (encoding_of frame) → Frames expects limits stream frames []
    → Frames expects others (stream ++ (expected_preface (expects && length stream == 0)
    ++ encoding_of frame)) (frames ++ frame ∷ []) []
unfolding expected_preface
next_frame true limits others limit stream frames frame ahead whole (inl short) =
    let start : [] ≡ stream = short.all in
    rw (← start, short.none) (first_frame limits others limit frame (rw (← start) at ahead) whole)
next_frame false limits others limit stream frames frame ahead whole (inl short) = absurd (omega
    (arith, short.short))
next_frame expects limits others limit stream frames frame ahead whole (inr closed) =
    rw (no_preface expects stream (past_not_in_preface expects limits stream frames [] closed))
    (further_frame expects limits others limit stream frames frame ahead whole closed)

-- The limits after a log are its own up to its last octet, and from there on the one that is in
-- force.
limits_ahead : (log : Log) → IsAhead log.input log.limits (limits_from log) (payload_limit
    (acked log) log.sent)
limits_ahead log = record {
  same = λ place below.
      let test : nat_le place (length log.input) ≡ true = grind (arith, nat_tests) in
      rw test refl;
  ahead = λ place above.
      let test : nat_le place (length log.input) ≡ false = grind (arith, nat_tests) in
      rw test refl;
}

-- A log takes a frame in its encoding.
pub taken_frame : (role : Role) (values : Values) (log : Log) (frame : Frame)
    (decoded : Option Decoded) → IsLog role values log → TakesOctets log
    → log.unparsed ≡ []
    → IsTyped frame → refusal frame ≡ None → length (payload_of frame) ≤ payload_limit
    (acked log) log.sent
    → IsDecodedFor log decoded frame
    → IsLog role values (took_frame log (before log ++ encoding_of frame) decoded frame)
unfolding before
taken_frame role values log frame decoded is opened none typed writable fits says =
    let has = stream_of_log role values log is in
    let framed : Frames (is_server role) log.limits log.input log.frames [] = rw none at
    (has.framed opened.up) in
    let next = next_frame (is_server role) log.limits
    (limits_from log) _ log.input log.frames frame (limits_ahead log)
    (whole_frame _ frame typed writable fits) framed in
    took_one is opened (expected_preface (is_server log.role && length log.input == 0)
    ++ encoding_of frame) frame decoded
    (subst (λ (one : Role). Frames (is_server role) (limits_from log) (log.input ++
    (expected_preface (is_server one && length log.input == 0)
    ++ encoding_of frame)) (log.frames ++ frame ∷ []) []) (sym has.role) next) says

-- One that makes no block whole.
pub takes_comes : (role : Role) (values : Values) (log : Log) (frame : Frame)
    → IsLog role values log → TakesOctets log → log.unparsed ≡ []
    → IsTyped frame → refusal frame ≡ None → length (payload_of frame) ≤ payload_limit
    (acked log) log.sent
    → IsDecodedFor log None frame
    → IsLog role values (takes log frame)
unfolding takes
takes_comes role values log frame is opened none typed writable fits says =
    taken_frame role values log frame None is opened none typed writable fits says

-- And a block in one HEADERS frame.
pub takes_block_comes : (role : Role) (values : Values) (log : Log) (stream : ℕ) (end : Bool)
    (octets : List ℕ) (fields : List Field)
    (after : Entries)
    → IsLog role values log → TakesOctets log → log.unparsed ≡ []
    → refusal (Headers stream end true octets None None) ≡ None
    → length octets ≤ payload_limit (acked log) log.sent
    → IsDecodedFor log (Some (record { fields = fields; after = after }))
    (Headers stream end true octets None None)
    → IsLog role values (takes_block log stream end octets fields after)
unfolding takes_block payload_of
takes_block_comes role values log stream end octets fields after is opened none writable fits says =
    taken_frame role values log (Headers stream end true octets None None) (Some
    (record { fields = fields; after = after })) is opened none (tt, tt) writable fits says
