-- Octets encode one frame at most.
use Rattle.std.proofs.Common.{◌≡◌, ℕ, suc, ◌+◌, ◌-◌, ◌%◌, ◌^◌, Bool, true, false, List, [], length}
use Rattle.std.proofs.Common.{take, drop, slice_index, Option, None, Some, refl, sym, ap, ◌∙◌}
use Rattle.std.proofs.Common.{arith, length-append}
use Rattle.std.proofs.Math.Seq.{take-append_seam, drop-append_seam}
use Rattle.byteorder.specs.Endian.{big_number}
use Rattle.h2_frame.specs.declared.heads.Head.{Head}
use Rattle.h2_frame.specs.declared.kind.Kind.{Kind}
use Rattle.h2_frame.specs.declared.kind.Kind.TheVariants as kinds
use Rattle.h2_frame.specs.Heads.{head_of, has_ack, has_end_stream, has_end_headers, has_padding}
use Rattle.h2_frame.specs.Heads.{has_priority}
use Rattle.h2_frame.specs.Pairs.{pairs_of}
use Rattle.h2_frame.specs.Frames.{Frame, Data, Headers, Priority, Reset, Settings, Ping, GoAway}
use Rattle.h2_frame.specs.Frames.{WindowUpdate, Continuation, Unknown, IsPadded, IsPrioritized}
use Rattle.h2_frame.specs.Frames.{Carries, Encodes}

-- what lies between the pad length and the padding of a payload, or all of the payload
body_in : Bool → List ℕ → List ℕ
body_in false payload = payload
body_in true payload = take (length payload - 1 - slice_index payload 0) (drop 1 payload)

-- how much padding a payload has
pad_in : Bool → List ℕ → Option ℕ
pad_in false payload = None
pad_in true payload = Some (slice_index payload 0)

-- what follows the priority of a body, or all of the body
fragment_in : Bool → List ℕ → List ℕ
fragment_in false body = body
fragment_in true body = drop 5 body

-- the priority of a body
priority_in : Bool → List ℕ → Option (List ℕ)
priority_in false body = None
priority_in true body = Some (take 5 body)

-- a padded payload has one body
padded_body : (padded : Bool) (payload body : List ℕ) (pad : Option ℕ)
    → IsPadded padded payload body pad → body ≡ body_in padded payload
unfolding body_in
padded_body padded payload body None (plain, same) = rw (plain, same) refl
padded_body padded payload body (Some count) (set, padding, counted, joined) =
    let long : suc (length body + count) - 1 - count ≡ length body = omega arith in
    rw (set, joined, length-append body padding, counted, long)
    (sym (take-append_seam body padding))

-- and one pad length
padded_pad : (padded : Bool) (payload body : List ℕ) (pad : Option ℕ)
    → IsPadded padded payload body pad → pad ≡ pad_in padded payload
unfolding pad_in
padded_pad padded payload body None (plain, same) = rw plain refl
padded_pad padded payload body (Some count) (set, padding, counted, joined) = rw (set, joined) refl

-- a body with a priority has one fragment
prioritized_fragment : (prioritized : Bool) (body fragment : List ℕ) (priority : Option (List ℕ))
    → IsPrioritized prioritized body fragment priority
    → fragment ≡ fragment_in prioritized body
unfolding fragment_in
prioritized_fragment prioritized body fragment None (plain, same) = rw (plain, same) refl
prioritized_fragment prioritized body fragment (Some priority) (set, five, joined) =
    rw (set, joined, sym five) (sym (drop-append_seam priority fragment))

-- and one priority
prioritized_priority : (prioritized : Bool) (body fragment : List ℕ) (priority : Option (List ℕ))
    → IsPrioritized prioritized body fragment priority
    → priority ≡ priority_in prioritized body
unfolding priority_in
prioritized_priority prioritized body fragment None (plain, same) = rw plain refl
prioritized_priority prioritized body fragment (Some priority) (set, five, joined) =
    rw (set, joined, sym five) (ap Some (sym (take-append_seam priority fragment)))

-- the frame that a payload following a head of this kind is
carried : Kind → Head → List ℕ → Frame
carried kinds.Data head payload =
    Data head.stream (has_end_stream head.flags) (body_in (has_padding head.flags) payload)
    (pad_in (has_padding head.flags) payload)
carried kinds.Headers head payload =
    Headers head.stream (has_end_stream head.flags) (has_end_headers head.flags)
    (fragment_in (has_priority head.flags) (body_in (has_padding head.flags) payload))
    (pad_in (has_padding head.flags) payload)
    (priority_in (has_priority head.flags) (body_in (has_padding head.flags) payload))
carried kinds.Priority head payload = Priority head.stream payload
carried kinds.RstStream head payload = Reset head.stream (big_number 4 payload)
carried kinds.Settings head payload = Settings (has_ack head.flags) (pairs_of payload)
carried kinds.PushPromise head payload = Unknown 0 0 0 []
carried kinds.Ping head payload = Ping (has_ack head.flags) payload
carried kinds.GoAway head payload =
    GoAway (big_number 4 payload % 2 ^ 31) (big_number 4 (drop 4 payload)) (drop 8 payload)
carried kinds.WindowUpdate head payload = WindowUpdate head.stream (big_number 4 payload % 2 ^ 31)
carried kinds.Continuation head payload =
    Continuation head.stream (has_end_headers head.flags) payload
carried (kinds.Unknown number) head payload = Unknown number head.flags head.stream payload

-- the frame that a payload carries is the one that is computed from it
Carries-carried : (frame : Frame) (head : Head) (payload : List ℕ) → Carries head payload frame
    → frame ≡ carried head.kind head payload
unfolding carried
Carries-carried (Data stream end octets pad) head payload (kind, on, some, ends, padded) =
    rw (
      kind,
      on,
      ends,
      padded_body (has_padding head.flags) payload octets pad padded,
      padded_pad (has_padding head.flags) payload octets pad padded,
    ) refl
Carries-carried (Headers stream end whole fragment pad priority) head payload
    (kind, on, some, ends, ended, body, padded, prioritized) =
    rw (
      kind,
      on,
      ends,
      ended,
      sym (padded_body (has_padding head.flags) payload body pad padded),
      padded_pad (has_padding head.flags) payload body pad padded,
      prioritized_fragment (has_priority head.flags) body fragment priority prioritized,
      prioritized_priority (has_priority head.flags) body fragment priority prioritized,
    ) refl
Carries-carried (Priority stream octets) head payload (kind, on, some, complete, read) =
    rw (kind, on, read) refl
Carries-carried (Reset stream code) head payload (kind, on, some, complete, read) =
    rw (kind, on, read) refl
Carries-carried (Settings ack pairs) head payload (kind, stream, acked, complete, none, read) =
    rw (kind, acked, read) refl
Carries-carried (Ping ack octets) head payload (kind, stream, acked, complete, read) =
    rw (kind, acked, read) refl
Carries-carried (GoAway last code debug) head payload (
  kind,
  stream,
  complete,
  lasting,
  coded,
  read,
) = rw (kind, lasting, coded, read) refl
Carries-carried (WindowUpdate stream increment) head payload (kind, on, complete, read) =
    rw (kind, on, read) refl
Carries-carried (Continuation stream whole fragment) head payload (kind, on, some, ended, read) =
    rw (kind, on, ended, read) refl
Carries-carried (Unknown kind flags stream octets) head payload (known, flagged, on, read) =
    rw (known, flagged, on, read) refl

-- octets encode one frame at most
pub one_frame_lem : (frame other : Frame) (octets : List ℕ) → Encodes frame octets
    → Encodes other octets → frame ≡ other
one_frame_lem frame other octets encodes again =
    Carries-carried frame (head_of octets) (drop 9 octets) encodes.carried
    ∙ sym (Carries-carried other (head_of octets) (drop 9 octets) again.carried)
