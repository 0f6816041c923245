-- The texts of errors, and of why a connection has failed.
use Rattle.std.specs.Prelude.{ℕ, ℤ, pos, List, [], ◌∷◌, ◌++◌, codes, if◌then◌else◌, ◌==◌, nat_lt}
use Rattle.std.specs.Prelude.{int_lt, unsigned_abs}

-- a text as C has it, which ends in an octet of zero
abbrev pub with_zero : List ℕ → List ℕ
with_zero text = text ++ 0 ∷ []

-- the text of a number in a table; this one where it isn't there
-- rule: c (own) Each number of an error or a reason has its text
unfoldable pub text_in : List (ℕ × List ℕ) → List ℕ → ℕ → List ℕ
text_in [] other number = with_zero other
text_in (one ∷ rest) other number =
    if number == one.0 then with_zero one.1 else text_in rest other number

abbrev pub no_error_text : List ℕ
no_error_text = codes "unknown error"

-- errors of a place, by the numbers that they are minus
abbrev pub place_texts : List (ℕ × List ℕ)
place_texts =
    (0, codes "no error") ∷
    (1, codes "the object is empty") ∷
    (2, codes "the object is already in use") ∷
    (3, codes "the function is for the other role") ∷
    (4, codes "the connection has failed") ∷
    (5, codes "no such field") ∷
    (6, codes "no such value") ∷
    (7, codes "unknown error code") ∷
    []

-- errors of a configuration: K1 to K4
abbrev pub config_texts : List (ℕ × List ℕ)
config_texts =
    (11, codes "K1 TableLimit: the header table's limit is above 65536") ∷
    (12, codes "K2 InitialWindow: the initial window isn't from 1 to 2147483647") ∷
    (13, codes "K3 MaxStreams: the number of streams isn't from 100 to 1000") ∷
    (14, codes "K4 MaxFrame: the greatest frame isn't from 16384 to 1048576") ∷
    []

-- refusals of the connection: C1 to C14
abbrev pub refusal_texts : List (ℕ × List ℕ)
refusal_texts =
    (21, codes "C1 Closed: the connection has failed") ∷
    (22, codes "C2 NoSuchStream: the stream is idle or closed") ∷
    (23, codes "C3 Ended: END_STREAM was already sent on the stream") ∷
    (24, codes "C4 TooManyStreams: the peer allows no more concurrent streams") ∷
    (25, codes "C5 StreamsExhausted: no stream number is left") ∷
    (26, codes "C6 GoingAway: GOAWAY was sent or received") ∷
    (27, codes "C7 OutputFull: 65,536 octets of output or more are waiting") ∷
    (28, codes "C8 PingWaits: the last PING is not answered yet") ∷
    (29, codes "C9 TooManyResets: 1,000 streams were already reset") ∷
    (30, codes "C10 ListTooLarge: the field list is larger than 65,536 octets") ∷
    (31, codes "C11 NotOwed: the count is 0, or more than is owed on the stream") ∷
    (32, codes "C12 Memory: out of memory") ∷
    (33, codes "C13 SettingsWait: the last SETTINGS are not acknowledged yet") ∷
    (34, codes "C14 WindowTooLarge: the count is 0, or would widen the window above 2^31 - 1") ∷
    []

-- errors of messages: M1 to M12, and E3 and E4
abbrev pub message_texts : List (ℕ × List ℕ)
message_texts =
    (41, codes "M1 BadName: a field name is empty or has a forbidden octet") ∷
    (42, codes "M2 BadValue: a field value has a forbidden octet, or a blank at either end") ∷
    (43, codes "M3 PseudoPlace: a pseudo-header field after a regular field, or in trailers") ∷
    (44, codes "M4 PseudoUnknown: a pseudo-header field that this message may not have") ∷
    (45, codes "M5 PseudoTwice: a pseudo-header field occurs twice") ∷
    (46, codes "M6 PseudoMissing: a required pseudo-header field is missing") ∷
    (47, codes "M7 BadMethod: the method is not a token, or is CONNECT") ∷
    (48, codes "M8 BadPath: the path neither begins with '/' nor is '*' with OPTIONS") ∷
    (49, codes "M9 BadStatus: the status is not valid here") ∷
    (50, codes "M10 ConnectionField: a connection-specific field") ∷
    (51, codes "M11 BadLength: content-length is invalid, or not the length of the body") ∷
    (52, codes "M12 BadOrder: the parts of the message are out of order") ∷
    (61, codes "E3 NotAsked: the stream has no request to answer, or no open message") ∷
    (62, codes "E4 Answered: the request was answered already") ∷
    []

-- faults of field blocks: P1 and P3
abbrev pub block_texts : List (ℕ × List ℕ)
block_texts =
    (71, codes "P1 Compression: the field block cannot be decoded") ∷
    (72, codes "P3 Failed: an earlier block failed") ∷
    []

-- the text of the error that is minus this number
abbrev pub number_text : ℕ → List ℕ
number_text number =
    if nat_lt number 10 then text_in place_texts no_error_text number
    else if nat_lt number 20 then text_in config_texts no_error_text number
    else if nat_lt number 40 then text_in refusal_texts no_error_text number
    else if nat_lt number 70 then text_in message_texts no_error_text number
    else text_in block_texts no_error_text number

-- the text of an error
-- rule: c (own) Each number of an error or a reason has its text
abbrev pub error_text : ℤ → List ℕ
error_text error =
    if int_lt (pos 0) error then with_zero no_error_text else number_text (unsigned_abs error)

-- why a connection has failed, by the number of the reason
abbrev pub low_why_texts : List (ℕ × List ℕ)
low_why_texts =
    (1, codes "the connection preface is wrong (PROTOCOL_ERROR)") ∷
    (2, codes "a frame is longer than the limit (FRAME_SIZE_ERROR)") ∷
    (3, codes "PUSH_PROMISE, though push is disabled (PROTOCOL_ERROR)") ∷
    (4, codes "a frame on a stream that its type does not allow (PROTOCOL_ERROR)") ∷
    (5, codes "a frame of a length that its type and flags do not allow (FRAME_SIZE_ERROR)") ∷
    (6, codes "padding longer than the payload leaves room for (PROTOCOL_ERROR)") ∷
    (7, codes "the first frame is not SETTINGS (PROTOCOL_ERROR)") ∷
    (8, codes "another frame interrupts a field block (PROTOCOL_ERROR)") ∷
    (9, codes "CONTINUATION outside a field block (PROTOCOL_ERROR)") ∷
    (10, codes "a field block of more than 65,552 octets (ENHANCE_YOUR_CALM)") ∷
    (11, codes "a field block cannot be decoded (COMPRESSION_ERROR)") ∷
    (12, codes "a frame other than HEADERS or PRIORITY on an idle stream (PROTOCOL_ERROR)") ∷
    (13, codes "DATA on a closed stream (STREAM_CLOSED)") ∷
    (14, codes "HEADERS on a closed stream (PROTOCOL_ERROR)") ∷
    []

-- further reasons
abbrev pub high_why_texts : List (ℕ × List ℕ)
high_why_texts =
    (15, codes "HEADERS on an idle stream that the peer may not open (PROTOCOL_ERROR)") ∷
    (16, codes "DATA exceeds the connection's window (FLOW_CONTROL_ERROR)") ∷
    (17, codes "DATA exceeds the stream's window (FLOW_CONTROL_ERROR)") ∷
    (18, codes "WINDOW_UPDATE of 0 on the connection (PROTOCOL_ERROR)") ∷
    (19, codes "the connection's window exceeds 2^31-1 (FLOW_CONTROL_ERROR)") ∷
    (20, codes "ENABLE_PUSH is above 1, or 1 from a server (PROTOCOL_ERROR)") ∷
    (21, codes "INITIAL_WINDOW_SIZE is above 2^31-1 (FLOW_CONTROL_ERROR)") ∷
    (22, codes "MAX_FRAME_SIZE is not from 16,384 to 2^24-1 (PROTOCOL_ERROR)") ∷
    (23, codes "INITIAL_WINDOW_SIZE brings a stream's window above 2^31-1 (FLOW_CONTROL_ERROR)") ∷
    (24, codes "1,001 streams would have been reset (ENHANCE_YOUR_CALM)") ∷
    (25, codes "replies exceed 262,144 octets of waiting output (ENHANCE_YOUR_CALM)") ∷
    (26, codes "out of memory (INTERNAL_ERROR)") ∷
    (27, codes "the layer above ended the connection") ∷
    []

abbrev pub no_why_text : List ℕ
no_why_text = codes "unknown reason"

-- the text of a reason
-- rule: c (own) Each number of an error or a reason has its text
abbrev pub why_text : ℕ → List ℕ
why_text number =
    if nat_lt number 15 then text_in low_why_texts no_why_text number
    else text_in high_why_texts no_why_text number
