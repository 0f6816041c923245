-- The nine octets with which a frame begins, and their faults (RFC 9113, sections 4.1, 4.2 and 6).
-- contract: h2_frame::head_fault
use Rattle.std.specs.Prelude.{ℕ, ◌+◌, ◌%◌, ◌^◌, ◌==◌, nat_lt, nat_le, not, Bool, true, false}
use Rattle.std.specs.Prelude.{if◌then◌else◌, List, ◌∷◌, ◌++◌, drop, slice_index, bit_and}
use Rattle.std.specs.Prelude.{Option, Some, None}
use Rattle.byteorder.specs.Endian.{big_number, big_bytes}
use Rattle.h2_frame.specs.declared.code.Code.{Code}
use Rattle.h2_frame.specs.declared.code.Code.TheVariants.{ProtocolError, FrameSizeError}
use Rattle.h2_frame.specs.declared.head_faults.HeadFault.{HeadFault}
use Rattle.h2_frame.specs.declared.head_faults.HeadFault.TheVariants.{TooLong, IsPushPromise}
use Rattle.h2_frame.specs.declared.head_faults.HeadFault.TheVariants.{WrongStream, WrongLength}
use Rattle.h2_frame.specs.declared.kind.Kind.{Kind}
use Rattle.h2_frame.specs.declared.kind.Kind.TheVariants.{Data, Headers, Priority, RstStream}
use Rattle.h2_frame.specs.declared.kind.Kind.TheVariants.{Settings, PushPromise, Ping, GoAway}
use Rattle.h2_frame.specs.declared.kind.Kind.TheVariants.{WindowUpdate, Continuation, Unknown}
use Rattle.h2_frame.specs.declared.heads.Head.{Head}
use Rattle.h2_frame.specs.Codes.{kind_of, number_of}

-- The head that nine octets encode: 24 bits of length, 8 of kind, 8 of flags, a reserved bit that
-- is ignored, and 31 of stream number (section 4.1). Octets after the ninth aren't read.
-- rule: 4.1 A head is 24 bits of length, 8 of type, 8 of flags, 1 + 31 of stream
-- rule: 4.1 The reserved bit of a head is ignored when it is received
unfoldable pub head_of : List ℕ → Head
head_of octets =
    record {
      length = big_number 3 octets;
      kind = kind_of (slice_index octets 3);
      flags = slice_index octets 4;
      stream = big_number 4 (drop 5 octets) % 2 ^ 31;
    }

-- The nine octets that encode a head of these values, with 31 bits of stream (section 4.1).
-- rule: 4.1 A frame is sent without its reserved bit and undefined flags
-- rule: 4.1 A frame is sent with the length of its payload
abbrev pub head_octets : Kind → ℕ → ℕ → ℕ → List ℕ
head_octets kind flags stream count =
    big_bytes 3 count ++ (number_of kind ∷ flags ∷ big_bytes 4 stream)

-- Whether a flag is set. A flag is given by its bit.
abbrev pub has_flag : ℕ → ℕ → Bool
has_flag flags bit = not (bit_and flags bit == 0)

-- Whether ACK is set: bit 0x01 of SETTINGS and PING (sections 6.5 and 6.7).
-- rule: 6.5 ACK of SETTINGS and PING is read from its bit
abbrev pub has_ack : ℕ → Bool
has_ack flags = has_flag flags 0x01

-- Whether END_STREAM is set: bit 0x01 of DATA and HEADERS (sections 6.1 and 6.2).
-- rule: 6.1 END_STREAM of DATA ends the stream of the sender
-- rule: 6.2 END_STREAM and END_HEADERS are read from their bits
abbrev pub has_end_stream : ℕ → Bool
has_end_stream flags = has_flag flags 0x01

-- rule: 6.2 END_STREAM and END_HEADERS are read from their bits
abbrev pub has_end_headers : ℕ → Bool
has_end_headers flags = has_flag flags 0x04

abbrev pub has_padding : ℕ → Bool
has_padding flags = has_flag flags 0x08

abbrev pub has_priority : ℕ → Bool
has_priority flags = has_flag flags 0x20

-- Whether a frame of this kind may be on the stream, or is PROTOCOL_ERROR (`form_fault`): some
-- kinds belong to a stream, some to the connection, which is stream 0, and some to either (sections
-- 6.1 to 6.10). Of an unknown kind nothing is demanded (section 5.5).
-- rule: 6.1 DATA on stream 0 is PROTOCOL_ERROR
-- rule: 6.2 HEADERS on stream 0 is PROTOCOL_ERROR
-- rule: 6.3 PRIORITY on stream 0 is PROTOCOL_ERROR
-- rule: 6.4 RST_STREAM on stream 0 is PROTOCOL_ERROR
-- rule: 6.5 SETTINGS on a stream other than 0 is PROTOCOL_ERROR
-- rule: 6.7 PING on a stream other than 0 is PROTOCOL_ERROR
-- rule: 6.8 GOAWAY on a stream other than 0 is PROTOCOL_ERROR
-- rule: 6.10 CONTINUATION on stream 0 is PROTOCOL_ERROR
-- rule: 6 A frame is sent only on a stream that its type allows
unfoldable pub fits_stream : Kind → ℕ → Bool
fits_stream Data stream = nat_lt 0 stream
fits_stream Headers stream = nat_lt 0 stream
fits_stream Priority stream = nat_lt 0 stream
fits_stream RstStream stream = nat_lt 0 stream
fits_stream Settings stream = stream == 0
fits_stream PushPromise stream = nat_lt 0 stream
fits_stream Ping stream = stream == 0
fits_stream GoAway stream = stream == 0
fits_stream WindowUpdate stream = true
fits_stream Continuation stream = nat_lt 0 stream
fits_stream (Unknown number) stream = true

-- the octets of a payload that its flags ask for: one for the pad length, and in HEADERS five for
-- the priority
-- rule: 6.2 HEADERS too short for its flags is FRAME_SIZE_ERROR
abbrev pub octets_of_flags : Bool → Bool → ℕ
octets_of_flags padded prioritized = (if padded then 1 else 0) + (if prioritized then 5 else 0)

-- Whether a payload of this kind, with these flags, may have the length, or is FRAME_SIZE_ERROR
-- (`form_fault`; sections 6.1 to 6.10).
-- rule: 4.1 Flags that the type does not define are ignored when received
-- rule: 4.2 A length that the type and flags cannot have is FRAME_SIZE_ERROR
-- rule: 6.1 PADDED DATA without an octet of payload is FRAME_SIZE_ERROR
-- rule: 6.2 HEADERS too short for its flags is FRAME_SIZE_ERROR
-- rule: 6.3 PRIORITY has five octets (a connection error: own)
-- rule: 6.4 RST_STREAM has four octets
-- rule: 6.5 SETTINGS has a length that is a multiple of six
-- rule: 6.5 SETTINGS with ACK has no payload
-- rule: 6.7 PING has eight octets
-- rule: 6.8 GOAWAY has at least eight octets
-- rule: 6.9 WINDOW_UPDATE has four octets
unfoldable pub fits_length : Kind → ℕ → ℕ → Bool
fits_length Data flags count = nat_le (octets_of_flags (has_padding flags) false) count
fits_length Headers flags count =
    nat_le (octets_of_flags (has_padding flags) (has_priority flags)) count
fits_length Priority flags count = count == 5
fits_length RstStream flags count = count == 4
fits_length Settings flags count = if has_ack flags then count == 0 else count % 6 == 0
fits_length PushPromise flags count = true
fits_length Ping flags count = count == 8
fits_length GoAway flags count = nat_le 8 count
fits_length WindowUpdate flags count = count == 4
fits_length Continuation flags count = true
fits_length (Unknown number) flags count = true

-- Whether a frame is PUSH_PROMISE, which is refused: no end of this profile allows push (sections
-- 6.6 and 8.4).
-- rule: 6.6 PUSH_PROMISE is PROTOCOL_ERROR, since no end here allows push
abbrev pub is_push_promise : Kind → Bool
is_push_promise PushPromise = true
is_push_promise _ = false

-- The fault of a head's form, but for the limit: a refused kind, then a stream that the kind can't
-- have, then a length that it can't have.
-- rule (law): 4.1 Octets encode a frame exactly where they have no fault
-- rule: 4.2 A length that the type and flags cannot have is FRAME_SIZE_ERROR
-- rule: 6.6 PUSH_PROMISE is PROTOCOL_ERROR, since no end here allows push
unfoldable pub form_fault : Head → Option HeadFault
form_fault head =
    if is_push_promise head.kind then Some IsPushPromise
    else if not (fits_stream head.kind head.stream) then Some WrongStream
    else if not (fits_length head.kind head.flags head.length) then Some WrongLength
    else None

-- Whether a head's length is above the limit of payloads (section 4.2).
abbrev pub exceeds_limit : Head → ℕ → Bool
exceeds_limit head limit = nat_lt limit head.length

-- The fault of a head where payloads may have as many octets as the limit says, known at its ninth
-- octet: a length above the limit (section 4.2), then a fault of its form.
-- rule: 4.2 A length above the limit is FRAME_SIZE_ERROR (of the connection: own)
-- rule: 4.2 A payload as long as the limit is received
-- rule: 4.2 Of the faults of a head a length above the limit is the first
unfoldable pub head_fault : Head → ℕ → Option HeadFault
head_fault head limit = if exceeds_limit head limit then Some TooLong else form_fault head

-- the code with which the connection ends for it
-- rule: 4.2 A length above the limit is FRAME_SIZE_ERROR (of the connection: own)
-- rule: 6.6 PUSH_PROMISE is PROTOCOL_ERROR, since no end here allows push
abbrev pub head_fault_code : HeadFault → Code
head_fault_code TooLong = FrameSizeError
head_fault_code IsPushPromise = ProtocolError
head_fault_code WrongStream = ProtocolError
head_fault_code WrongLength = FrameSizeError
