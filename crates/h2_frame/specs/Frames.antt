-- Frames without where they lie in memory, and the octets that encode them (RFC 9113, section 6).
-- contract: h2_frame::read_payload
use Rattle.std.specs.Prelude.{◌≡◌, ℕ, ◌+◌, ◌-◌, ◌%◌, ◌^◌, ◌<◌, ◌≤◌, nat_lt, nat_le, ◌&&◌, Bool}
use Rattle.std.specs.Prelude.{true, false, if◌then◌else◌, List, [], ◌∷◌, ◌++◌, length, take, drop}
use Rattle.std.specs.Prelude.{slice_index, Option, Some, None}
use Rattle.byteorder.specs.Endian.{big_number}
use Rattle.h2_frame.specs.declared.code.Code.{Code}
use Rattle.h2_frame.specs.declared.code.Code.TheVariants.{ProtocolError}
use Rattle.h2_frame.specs.declared.kind.Kind.{Kind}
use Rattle.h2_frame.specs.declared.kind.Kind.TheVariants as kinds
use Rattle.h2_frame.specs.declared.heads.Head.{Head}
use Rattle.h2_frame.specs.declared.frame.FrameRef.{FrameRef}
use Rattle.h2_frame.specs.declared.frame.FrameRef.TheVariants as lent
use Rattle.h2_frame.specs.declared.frame.PayloadError.{PayloadError}
use Rattle.h2_frame.specs.declared.frame.PayloadError.TheVariants as errors
use Rattle.h2_frame.specs.declared.owned.Frame.{Frame as OwnedFrame}
use Rattle.h2_frame.specs.declared.owned.Frame.TheVariants as owned
use Rattle.h2_frame.specs.Heads.{head_of, has_ack, has_end_stream, has_end_headers, has_padding}
use Rattle.h2_frame.specs.Heads.{has_priority, octets_of_flags}
use Rattle.h2_frame.specs.Pairs.{pairs_of, lent_pairs}

-- A frame. There is none for PUSH_PROMISE, which is refused.
pub data Frame : Type 0 where
  -- pad: how many octets of padding, where there is a pad length
  Data : (stream : ℕ) (end : Bool) (octets : List ℕ) (pad : Option ℕ) → Frame
  -- whole: whether the block ends with the frame
  Headers : (stream : ℕ) (end whole : Bool) (fragment : List ℕ) (pad : Option ℕ)
      (priority : Option (List ℕ)) → Frame
  Priority : (stream : ℕ) (octets : List ℕ) → Frame
  Reset : (stream code : ℕ) → Frame
  Settings : (ack : Bool) (pairs : List (ℕ × ℕ)) → Frame
  Ping : (ack : Bool) (octets : List ℕ) → Frame
  GoAway : (last code : ℕ) (debug : List ℕ) → Frame
  WindowUpdate : (stream increment : ℕ) → Frame
  Continuation : (stream : ℕ) (whole : Bool) (fragment : List ℕ) → Frame
  Unknown : (kind flags stream : ℕ) (payload : List ℕ) → Frame

-- a lent frame, without where its octets lie
abbrev pub frame_of : FrameRef → Frame
frame_of (lent.Data stream end octets pad) = Data stream end octets.now pad
frame_of (lent.Headers stream end whole fragment pad priority) =
    Headers stream end whole fragment.now pad priority
frame_of (lent.Priority stream octets) = Priority stream octets
frame_of (lent.Reset stream code) = Reset stream code
frame_of (lent.Settings ack pairs) = Settings ack (lent_pairs pairs)
frame_of (lent.Ping ack octets) = Ping ack octets
frame_of (lent.GoAway last code debug) = GoAway last code debug.now
frame_of (lent.WindowUpdate stream increment) = WindowUpdate stream increment
frame_of (lent.Continuation stream whole fragment) = Continuation stream whole fragment.now
frame_of (lent.Unknown kind flags stream payload) = Unknown kind flags stream payload.now

-- an owned frame, without where its octets lie
abbrev pub owned_frame : OwnedFrame → Frame
owned_frame (owned.Data stream end octets pad) = Data stream end octets.items pad
owned_frame (owned.Headers stream end whole fragment pad priority) =
    Headers stream end whole fragment.items pad priority
owned_frame (owned.Priority stream octets) = Priority stream octets
owned_frame (owned.Reset stream code) = Reset stream code
owned_frame (owned.Settings ack pairs) = Settings ack pairs.items
owned_frame (owned.Ping ack octets) = Ping ack octets
owned_frame (owned.GoAway last code debug) = GoAway last code debug.items
owned_frame (owned.WindowUpdate stream increment) = WindowUpdate stream increment
owned_frame (owned.Continuation stream whole fragment) = Continuation stream whole fragment.items
owned_frame (owned.Unknown kind flags stream payload) = Unknown kind flags stream payload.items

-- A payload without padding is the body; with it, it is the pad length, the body, and so many
-- octets of padding, whatever they are (section 6.1).
-- rule: 6.1 With PADDED, DATA has a pad length, data and padding
-- rule: 6.2 HEADERS has a pad length, a priority, the fragment and the padding
abbrev pub IsPadded : Bool → List ℕ → List ℕ → Option ℕ → Type 0
IsPadded padded payload body None = (padded ≡ false) × (payload ≡ body)
IsPadded padded payload body (Some count) =
    (padded ≡ true) × (padding : List ℕ) × (length padding ≡ count)
    × (payload ≡ count ∷ (body ++ padding))

-- Between pad length and padding HEADERS has the fragment, after the five octets of a priority
-- where there is one (section 6.2).
-- rule: 6.2 HEADERS has a pad length, a priority, the fragment and the padding
abbrev pub IsPrioritized : Bool → List ℕ → List ℕ → Option (List ℕ) → Type 0
IsPrioritized prioritized body fragment None = (prioritized ≡ false) × (body ≡ fragment)
IsPrioritized prioritized body fragment (Some priority) = (prioritized ≡ true)
    × (length priority ≡ 5) × (body ≡ priority ++ fragment)

-- This head and this payload carry the frame. Flags that the kind doesn't define, reserved bits,
-- and octets of padding are free.
-- rule: 4.1 Flags that the type does not define are ignored when received
-- rule: 5.5 A frame of an unknown type passes as it is, and an end ignores it
-- rule: 6.1 With PADDED, DATA has a pad length, data and padding
-- rule: 6.2 HEADERS has a pad length, a priority, the fragment and the padding
-- rule: 6.3 PRIORITY is read with its five octets, which are not divided
-- rule: 6.4 RST_STREAM is read with its code of 32 bits
-- rule: 6.7 PING is read with its octets
-- rule: 6.8 GOAWAY has a reserved bit, a last stream, a code and debug data
-- rule: 6.9 The reserved bit of WINDOW_UPDATE is ignored
-- rule: 6.10 CONTINUATION is a fragment, and END_HEADERS ends the block
-- rule: 7 A received code is any number of 32 bits, and an unknown one does nothing
abbrev pub Carries : Head → List ℕ → Frame → Type 0
-- section 6.1
Carries head payload (Data stream end octets pad) =
    (head.kind ≡ kinds.Data) × (stream ≡ head.stream) × (0 < stream)
    × (end ≡ has_end_stream head.flags)
    × IsPadded (has_padding head.flags) payload octets pad
-- section 6.2
Carries head payload (Headers stream end whole fragment pad priority) =
    (head.kind ≡ kinds.Headers) × (stream ≡ head.stream) × (0 < stream)
    × (end ≡ has_end_stream head.flags) × (whole ≡ has_end_headers head.flags)
    × (body : List ℕ) × IsPadded (has_padding head.flags) payload body pad
    × IsPrioritized (has_priority head.flags) body fragment priority
-- section 6.3: five octets
Carries head payload (Priority stream octets) =
    (head.kind ≡ kinds.Priority) × (stream ≡ head.stream) × (0 < stream) × (length payload ≡ 5)
    × (octets ≡ payload)
-- section 6.4: a code
Carries head payload (Reset stream code) =
    (head.kind ≡ kinds.RstStream) × (stream ≡ head.stream) × (0 < stream) × (length payload ≡ 4)
    × (code ≡ big_number 4 payload)
-- section 6.5: any number of pairs, and none in an acknowledgment
Carries head payload (Settings ack pairs) =
    (head.kind ≡ kinds.Settings) × (head.stream ≡ 0) × (ack ≡ has_ack head.flags)
    × (length payload % 6 ≡ 0)
    × (ack ≡ true → payload ≡ []) × (pairs ≡ pairs_of payload)
-- section 6.7: eight octets
Carries head payload (Ping ack octets) =
    (head.kind ≡ kinds.Ping) × (head.stream ≡ 0) × (ack ≡ has_ack head.flags) × (length payload ≡ 8)
    × (octets ≡ payload)
-- section 6.8: a reserved bit, a stream of 31 bits, a code, and debug data
Carries head payload (GoAway last code debug) =
    (head.kind ≡ kinds.GoAway) × (head.stream ≡ 0) × (8 ≤ length payload)
    × (last ≡ big_number 4 payload % 2 ^ 31)
    × (code ≡ big_number 4 (drop 4 payload)) × (debug ≡ drop 8 payload)
-- section 6.9: a reserved bit and an increment of 31 bits
Carries head payload (WindowUpdate stream increment) =
    (head.kind ≡ kinds.WindowUpdate) × (stream ≡ head.stream) × (length payload ≡ 4)
    × (increment ≡ big_number 4 payload % 2 ^ 31)
-- section 6.10
Carries head payload (Continuation stream whole fragment) =
    (head.kind ≡ kinds.Continuation) × (stream ≡ head.stream) × (0 < stream)
    × (whole ≡ has_end_headers head.flags) × (fragment ≡ payload)
-- section 4.1 alone
Carries head payload (Unknown kind flags stream octets) =
    (head.kind ≡ kinds.Unknown kind) × (flags ≡ head.flags) × (stream ≡ head.stream)
    × (octets ≡ payload)

-- The octets encode the frame, all of them: nine octets of head, and then a payload of the length
-- that the head names, which carry the frame.
-- rule (law): 4.1 Octets encode at most one frame
-- rule (law): 4.1 Octets encode a frame exactly where they have no fault
pub record Encodes (frame : Frame) (octets : List ℕ) : Type 0 where
  pub complete : length octets ≡ 9 + (head_of octets).length
  pub carried : Carries (head_of octets) (drop 9 octets) frame

-- the pad length, which is the first octet of a padded payload
abbrev pub pad_length : List ℕ → ℕ
pad_length payload = slice_index payload 0

-- Whether the pad length of DATA is too large: it isn't less than the payload's length (section
-- 6.1).
abbrev pub data_pads_too_much : ℕ → List ℕ → Bool
data_pads_too_much flags payload =
    has_padding flags && nat_le (length payload) (pad_length payload)

-- Whether the pad length of HEADERS is too large: it is above what the pad length and the priority
-- leave for the fragment (section 6.2).
abbrev pub headers_pad_too_much : ℕ → List ℕ → Bool
headers_pad_too_much flags payload =
    has_padding flags
    && nat_lt (length payload - octets_of_flags true (has_priority flags)) (pad_length payload)

-- Whether a payload's pad length is too large. Kinds but DATA and HEADERS have no padding.
-- rule: 6.1 Padding as long as the payload of DATA, or longer, is PROTOCOL_ERROR
-- rule: 6.2 Padding of HEADERS above what the priority leaves is PROTOCOL_ERROR
unfoldable pub pads_too_much : Kind → ℕ → List ℕ → Bool
pads_too_much kinds.Data flags payload = data_pads_too_much flags payload
pads_too_much kinds.Headers flags payload = headers_pad_too_much flags payload
pads_too_much kinds.Priority flags payload = false
pads_too_much kinds.RstStream flags payload = false
pads_too_much kinds.Settings flags payload = false
pads_too_much kinds.PushPromise flags payload = false
pads_too_much kinds.Ping flags payload = false
pads_too_much kinds.GoAway flags payload = false
pads_too_much kinds.WindowUpdate flags payload = false
pads_too_much kinds.Continuation flags payload = false
pads_too_much (kinds.Unknown number) flags payload = false

-- the fault of a payload after a head without fault, known at its last octet
-- rule (law): 4.1 Octets encode a frame exactly where they have no fault
-- rule: 6.1 Padding as long as the payload of DATA, or longer, is PROTOCOL_ERROR
-- rule: 6.2 Padding of HEADERS above what the priority leaves is PROTOCOL_ERROR
unfoldable pub payload_fault : Head → List ℕ → Option Code
payload_fault head payload = if pads_too_much head.kind head.flags payload then Some ProtocolError
    else None

-- Whether a payload begins with a pad length: that of DATA or HEADERS with PADDED (sections 6.1 and
-- 6.2).
-- rule: 6.1 With PADDED, DATA has a pad length, data and padding
-- rule: 6.2 HEADERS has a pad length, a priority, the fragment and the padding
unfoldable pub is_padded : Kind → ℕ → Bool
is_padded kinds.Data flags = has_padding flags
is_padded kinds.Headers flags = has_padding flags
is_padded kinds.Priority flags = false
is_padded kinds.RstStream flags = false
is_padded kinds.Settings flags = false
is_padded kinds.PushPromise flags = false
is_padded kinds.Ping flags = false
is_padded kinds.GoAway flags = false
is_padded kinds.WindowUpdate flags = false
is_padded kinds.Continuation flags = false
is_padded (kinds.Unknown number) flags = false

-- the pad length of a payload, where it begins with one
abbrev pub pad_where : Bool → List ℕ → Option ℕ
pad_where begins payload = if begins then Some (pad_length payload) else None

-- the pad length of a payload after its head, where it begins with one
unfoldable pub pad_of : Head → List ℕ → Option ℕ
pad_of head payload = pad_where (is_padded head.kind head.flags) payload

-- What lies between the pad length and the padding; all of a payload without a pad length.
abbrev pub unpadded : Option ℕ → List ℕ → List ℕ
unpadded None payload = payload
unpadded (Some count) payload = take (length payload - count - 1) (drop 1 payload)

-- what an error of reading a payload says of it
-- rule: 6.1 A fault of a payload is known at its last octet
abbrev pub Refuses : Head → List ℕ → PayloadError → Type 0
Refuses head payload (errors.Code code) = payload_fault head payload ≡ Some code
