-- The one encoding of each frame that is written: reserved bits, flags that the kind doesn't
-- define, and octets of padding are zero (RFC 9113, sections 4.1 and 6). And the frames that aren't
-- written.
-- contract: h2_frame::write
-- contract: h2_frame::write_ref
use Rattle.std.specs.Prelude.{◌≡◌, ℕ, ◌+◌, ◌^◌, ◌<◌, ◌==◌, nat_lt, nat_le, not, ◌&&◌, ◌||◌, Bool}
use Rattle.std.specs.Prelude.{true, if◌then◌else◌, List, ◌∷◌, ◌++◌, length, replicate, flat_map}
use Rattle.std.specs.Prelude.{Option, Some, None}
use Rattle.std.specs.List.{AllByRecursion}
use Rattle.std.specs.Option.{is_some}
use Rattle.byteorder.specs.Endian.{big_bytes}
use Rattle.h2_frame.specs.declared.kind.Kind.{Kind}
use Rattle.h2_frame.specs.declared.kind.Kind.TheVariants as kinds
use Rattle.h2_frame.specs.declared.owned.Unwritable.{Unwritable}
use Rattle.h2_frame.specs.declared.owned.Unwritable.TheVariants.{TooLong, BadStream, BadValue}
use Rattle.h2_frame.specs.declared.owned.Unwritable.TheVariants.{Memory}
use Rattle.h2_frame.specs.Codes.{number_of}
use Rattle.h2_frame.specs.Heads.{fits_stream}
use Rattle.h2_frame.specs.Frames.{Frame, Data, Headers, Priority, Reset, Settings, Ping, GoAway}
use Rattle.h2_frame.specs.Frames.{WindowUpdate, Continuation, Unknown}

-- the kind of a frame
-- rule: 6 (own) A frame says its type and its stream, 0 for the connection
unfoldable pub kind_of_frame : Frame → Kind
kind_of_frame (Data stream end octets pad) = kinds.Data
kind_of_frame (Headers stream end whole fragment pad priority) = kinds.Headers
kind_of_frame (Priority stream octets) = kinds.Priority
kind_of_frame (Reset stream code) = kinds.RstStream
kind_of_frame (Settings ack pairs) = kinds.Settings
kind_of_frame (Ping ack octets) = kinds.Ping
kind_of_frame (GoAway last code debug) = kinds.GoAway
kind_of_frame (WindowUpdate stream increment) = kinds.WindowUpdate
kind_of_frame (Continuation stream whole fragment) = kinds.Continuation
kind_of_frame (Unknown kind flags stream payload) = kinds.Unknown kind

-- the stream of a frame; 0 is the connection
-- rule: 6 (own) A frame says its type and its stream, 0 for the connection
unfoldable pub stream_of : Frame → ℕ
stream_of (Data stream end octets pad) = stream
stream_of (Headers stream end whole fragment pad priority) = stream
stream_of (Priority stream octets) = stream
stream_of (Reset stream code) = stream
stream_of (Settings ack pairs) = 0
stream_of (Ping ack octets) = 0
stream_of (GoAway last code debug) = 0
stream_of (WindowUpdate stream increment) = stream
stream_of (Continuation stream whole fragment) = stream
stream_of (Unknown kind flags stream payload) = stream

-- a flag, given by its bit
abbrev pub flag : Bool → ℕ → ℕ
flag set bit = if set then bit else 0

-- the flags of a frame: END_STREAM or ACK 0x01, END_HEADERS 0x04, PADDED 0x08, PRIORITY 0x20
-- rule: 4.1 A frame is sent without its reserved bit and undefined flags
-- rule: 6.1 DATA is sent with its octets and END_STREAM
-- rule: 6.2 HEADERS is sent with its flags and its priority
-- rule: 6.7 PING is sent with its octets and its ACK
unfoldable pub flags_of : Frame → ℕ
flags_of (Data stream end octets pad) = flag end 0x01 + flag (is_some pad) 0x08
flags_of (Headers stream end whole fragment pad priority) =
    flag end 0x01 + flag whole 0x04 + flag (is_some pad) 0x08 + flag (is_some priority) 0x20
flags_of (Priority stream octets) = 0
flags_of (Reset stream code) = 0
flags_of (Settings ack pairs) = flag ack 0x01
flags_of (Ping ack octets) = flag ack 0x01
flags_of (GoAway last code debug) = 0
flags_of (WindowUpdate stream increment) = 0
flags_of (Continuation stream whole fragment) = flag whole 0x04
flags_of (Unknown kind flags stream payload) = flags

-- a body, between a pad length and so many zeros where there is padding
-- rule: 6.1 Padding is sent as zeros
-- rule: 6.1 Padding is sent whole, with its length
abbrev pub padded : List ℕ → Option ℕ → List ℕ
padded body None = body
padded body (Some count) = count ∷ (body ++ replicate count 0)

-- a fragment, after a priority where there is one
-- rule: 6.2 HEADERS is sent with its flags and its priority
abbrev pub prioritized : List ℕ → Option (List ℕ) → List ℕ
prioritized fragment None = fragment
prioritized fragment (Some priority) = priority ++ fragment

-- a pair of SETTINGS: 16 bits of identifier and 32 of value (section 6.5.1)
-- rule: 6.5.1 Pairs are sent in order
abbrev pub pair_octets : ℕ × ℕ → List ℕ
pair_octets pair = big_bytes 2 pair.0 ++ big_bytes 4 pair.1

-- the payload of a frame
-- rule: 4.1 A frame is sent with the length of its payload
-- rule: 6 (own) A frame says how many octets its payload has, padding included
-- rule: 6.1 DATA is sent with its octets and END_STREAM
-- rule: 6.7 PING is sent with its octets and its ACK
-- rule: 6.8 GOAWAY is sent with a last stream of 31 bits
unfoldable pub payload_of : Frame → List ℕ
payload_of (Data stream end octets pad) = padded octets pad
payload_of (Headers stream end whole fragment pad priority) =
    padded (prioritized fragment priority) pad
payload_of (Priority stream octets) = octets
payload_of (Reset stream code) = big_bytes 4 code
payload_of (Settings ack pairs) = flat_map pair_octets pairs
payload_of (Ping ack octets) = octets
payload_of (GoAway last code debug) = big_bytes 4 last ++ (big_bytes 4 code ++ debug)
payload_of (WindowUpdate stream increment) = big_bytes 4 increment
payload_of (Continuation stream whole fragment) = fragment
payload_of (Unknown kind flags stream payload) = payload

-- the octets that are written of a frame: 24 bits of length, 8 of kind, 8 of flags, a reserved bit
-- and 31 bits of stream, and the payload
-- rule: 4.1 A frame is sent without its reserved bit and undefined flags
-- rule: 4.1 A frame is sent with the length of its payload
-- rule: calls (own) Frames join the output that waits, in order
unfoldable pub encoding_of : Frame → List ℕ
encoding_of frame =
    big_bytes 3 (length (payload_of frame))
    ++ (number_of (kind_of_frame frame) ∷ flags_of frame
    ∷ (big_bytes 4 (stream_of frame) ++ payload_of frame))

-- Whether the values of a frame can be written: a last stream and an increment have 31 bits, an
-- acknowledgment of settings has no pairs, and kinds from 0 to 9 aren't unknown.
-- rule: 4.1 (own) A frame of an unknown type is sent with a type from 10 on
-- rule: 6.5.1 No pairs are sent with ACK
-- rule: 6.8 GOAWAY is sent with a last stream of 31 bits
-- rule: 6.9 WINDOW_UPDATE is sent with an increment of 31 bits
unfoldable pub has_good_values : Frame → Bool
has_good_values (Data stream end octets pad) = true
has_good_values (Headers stream end whole fragment pad priority) = true
has_good_values (Priority stream octets) = true
has_good_values (Reset stream code) = true
has_good_values (Settings ack pairs) = not ack || length pairs == 0
has_good_values (Ping ack octets) = true
has_good_values (GoAway last code debug) = nat_lt last (2 ^ 31)
has_good_values (WindowUpdate stream increment) = nat_lt increment (2 ^ 31)
has_good_values (Continuation stream whole fragment) = true
has_good_values (Unknown kind flags stream payload) = nat_le 10 kind

-- The first refusal of a frame, but for lack of memory: a payload that is too long, then a stream
-- that isn't one for the kind or is above 2^31 - 1, then a value.
-- rule: 4.1 (own) A frame of an unknown type is sent with a type from 10 on
-- rule: 4.1 (own) A refused frame leaves the output as it was
-- rule: 4.1 (own) A frame is refused for length, stream, values, memory, in order
-- rule: 4.1 (own) With room in the output memory is not refused to a frame
-- rule: 4.1 A frame is sent without its reserved bit and undefined flags
-- rule: 4.2 No payload above 16,777,215 octets is written
-- rule: 6 A frame is sent only on a stream that its type allows
unfoldable pub refusal : Frame → Option Unwritable
refusal frame =
    if nat_lt 16777215 (length (payload_of frame)) then Some TooLong
    else if not (nat_lt (stream_of frame) (2 ^ 31)
    && fits_stream (kind_of_frame frame) (stream_of frame)) then Some BadStream
    else if not (has_good_values frame) then Some BadValue
    else None

-- What an error of writing says of the frame: that it is its first refusal, or, where an allocation
-- was refused, that it has none.
-- rule: 4.1 (own) A refused frame leaves the output as it was
-- rule: 4.1 (own) A frame is refused for length, stream, values, memory, in order
-- rule: 4.1 (own) With room in the output memory is not refused to a frame
abbrev pub IsRefused : Frame → Unwritable → Type 0
IsRefused frame TooLong = refusal frame ≡ Some TooLong
IsRefused frame BadStream = refusal frame ≡ Some BadStream
IsRefused frame BadValue = refusal frame ≡ Some BadValue
IsRefused frame Memory = refusal frame ≡ None

-- A pad length has 8 bits.
abbrev pub IsPadLength : Option ℕ → Type 0
IsPadLength None = Unit {0}
IsPadLength (Some count) = count < 256

-- A priority has five octets.
abbrev pub IsPriority : Option (List ℕ) → Type 0
IsPriority None = Unit {0}
IsPriority (Some octets) = length octets ≡ 5

-- The numbers of a frame fit its Rust types: a pad length of 8 bits, five octets of priority, a
-- code of 32 bits, and so on.
abbrev pub IsTyped : Frame → Type 0
IsTyped (Data stream end octets pad) = IsPadLength pad
IsTyped (Headers stream end whole fragment pad priority) = IsPadLength pad × IsPriority priority
IsTyped (Priority stream octets) = length octets ≡ 5
IsTyped (Reset stream code) = code < 2 ^ 32
IsTyped (Settings ack pairs) = AllByRecursion (λ pair. (pair.0 < 2 ^ 16) × (pair.1 < 2 ^ 32)) pairs
IsTyped (Ping ack octets) = length octets ≡ 8
IsTyped (GoAway last code debug) = code < 2 ^ 32
IsTyped (WindowUpdate stream increment) = Unit {0}
IsTyped (Continuation stream whole fragment) = Unit {0}
IsTyped (Unknown kind flags stream payload) = (kind < 256) × (flags < 256)
