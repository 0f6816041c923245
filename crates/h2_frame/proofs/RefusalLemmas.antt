-- A frame that was read can be written.
use Rattle.std.proofs.Common.{◌≡◌, ℕ, ◌%◌, ◌^◌, ◌<◌, ◌≤◌, ◌==◌, Bool, true, false, nat_lt, not}
use Rattle.std.proofs.Common.{◌&&◌, ◌||◌, List, [], length, get_or, Option, Some, None, refl, sym}
use Rattle.std.proofs.Common.{arith, length-append, length-drop, replicate}
use Rattle.std.proofs.lemmas.List.{length-replicate}
use Rattle.std.proofs.lemmas.Bool.Decides.{nat_tests}
use Rattle.byteorder.specs.Endian.{big_number}
use Rattle.h2_frame.specs.declared.kind.Kind.TheVariants as kinds
use Rattle.h2_frame.specs.Codes.{kind_of}
use Rattle.h2_frame.specs.Heads.{head_of, fits_stream}
use Rattle.h2_frame.specs.Pairs.{pairs_of}
use Rattle.h2_frame.specs.Frames.{Frame, Data, Headers, Priority, Reset, Settings, Ping, GoAway}
use Rattle.h2_frame.specs.Frames.{WindowUpdate, Continuation, Unknown, IsPadded, IsPrioritized}
use Rattle.h2_frame.specs.Frames.{Carries}
use Rattle.h2_frame.specs.Encoding.{kind_of_frame, stream_of, padded, prioritized, payload_of}
use Rattle.h2_frame.specs.Encoding.{has_good_values, refusal}
use Rattle.h2_frame.proofs.FramePartsLemmas.{length-pair_octets}
use Rattle.h2_frame.proofs.HeadLemmas.{stream-head_of}
use Rattle.h2_frame.proofs.PairLemmas.{length-pairs_in, pairs_of-none}

-- octets of padding count as many as were read
length-padded : (flagged : Bool) (payload body : List ℕ) (pad : Option ℕ)
    → IsPadded flagged payload body pad → length (padded body pad) ≡ length payload
length-padded flagged payload body None (plain, same) = rw same refl
length-padded flagged payload body (Some count) (set, padding, counted, joined) =
    rw joined (omega (
      arith,
      counted,
      length-append body padding,
      length-append body (replicate {A = ℕ} count 0),
      length-replicate {A = ℕ} count 0,
    ))

-- a priority precedes the fragment, as it was read
same-prioritized : (flagged : Bool) (body fragment : List ℕ) (priority : Option (List ℕ))
    → IsPrioritized flagged body fragment priority → prioritized fragment priority ≡ body
same-prioritized flagged body fragment None (plain, same) = sym same
same-prioritized flagged body fragment (Some priority) (set, five, joined) = sym joined

-- What is written of a frame has a payload as long as the one that was read.
length-payload_of : (octets payload : List ℕ) (frame : Frame)
    → Carries (head_of octets) payload frame → length (payload_of frame) ≤ length payload
unfolding payload_of
length-payload_of octets payload (Data stream end body pad) (kind, on, some, ends, pads) =
    omega (arith, length-padded _ payload body pad pads)
length-payload_of octets payload (Headers stream end whole fragment pad priority)
    (kind, on, some, ends, ended, body, pads, precedes) =
    rw (same-prioritized _ body fragment priority precedes)
    (omega (arith, length-padded _ payload body pad pads))
length-payload_of octets payload (Priority stream body) (kind, on, some, complete, read) =
    rw read (omega arith)
length-payload_of octets payload (Reset stream code) (kind, on, some, complete, read) =
    omega (arith, complete)
length-payload_of octets payload (Settings ack pairs) (kind, on, acked, complete, none, read) =
    rw (length-pair_octets pairs, read, length-pairs_in) (omega arith)
length-payload_of octets payload (Ping ack body) (kind, on, acked, complete, read) =
    rw read (omega arith)
length-payload_of octets payload (GoAway last code debug) (kind, on, complete, lasts, coded, read) =
    rw read (omega (arith, complete, length-drop 8 payload))
length-payload_of octets payload (WindowUpdate stream increment) (kind, on, complete, read) =
    omega (arith, complete)
length-payload_of octets payload (Continuation stream whole fragment)
    (kind, on, some, ended, read) = rw read (omega arith)
length-payload_of octets payload (Unknown kind flags stream body) (known, flagged, on, read) =
    rw read (omega arith)

-- an octet names an unknown kind from 10 on
kind_of-Unknown : (octet kind : ℕ) → kind_of octet ≡ kinds.Unknown kind → 10 ≤ kind
unfolding kind_of
kind_of-Unknown octet kind known = grind (arith, nat_tests)

-- so does a head
kind-head_of : (octets : List ℕ) (kind : ℕ) → (head_of octets).kind ≡ kinds.Unknown kind → 10 ≤ kind
unfolding head_of
kind-head_of octets kind known = kind_of-Unknown (get_or octets 3 0) kind known

-- the test of a stream
on_stream : (stream other : ℕ) → stream ≡ other → other < 2 ^ 31 → 0 < stream
    → (nat_lt stream (2 ^ 31) && nat_lt 0 stream) ≡ true
on_stream stream other same below some = grind (arith, nat_tests)

-- the test of a stream or the connection
on_any : (stream other : ℕ) → stream ≡ other → other < 2 ^ 31
    → (nat_lt stream (2 ^ 31) && true) ≡ true
on_any stream other same below = grind (arith, nat_tests)

-- The stream of a frame that was read is one for its kind.
stream-carried : (octets payload : List ℕ) (frame : Frame) → Carries (head_of octets) payload frame
    → (nat_lt (stream_of frame) (2 ^ 31) && fits_stream (kind_of_frame frame) (stream_of frame))
    ≡ true
unfolding stream_of kind_of_frame fits_stream
stream-carried octets payload (Data stream end body pad) carried =
    on_stream stream _ carried.1 (stream-head_of octets) carried.2
stream-carried octets payload (Headers stream end whole fragment pad priority) carried =
    on_stream stream _ carried.1 (stream-head_of octets) carried.2
stream-carried octets payload (Priority stream body) carried =
    on_stream stream _ carried.1 (stream-head_of octets) carried.2
stream-carried octets payload (Reset stream code) carried =
    on_stream stream _ carried.1 (stream-head_of octets) carried.2
stream-carried octets payload (Settings ack pairs) carried = refl
stream-carried octets payload (Ping ack body) carried = refl
stream-carried octets payload (GoAway last code debug) carried = refl
stream-carried octets payload (WindowUpdate stream increment) carried =
    on_any stream _ carried.1 (stream-head_of octets)
stream-carried octets payload (Continuation stream whole fragment) carried =
    on_stream stream _ carried.1 (stream-head_of octets) carried.2
stream-carried octets payload (Unknown kind flags stream body) carried =
    on_any stream _ carried.2 (stream-head_of octets)

-- an acknowledgment that was read has no pairs
good_settings : (ack : Bool) (payload : List ℕ) (pairs : List (ℕ × ℕ))
    → (ack ≡ true → payload ≡ []) → pairs ≡ pairs_of payload
    → (not ack || length pairs == 0) ≡ true
good_settings false payload pairs none read = refl
good_settings true payload pairs none read =
    rw (read, none refl, pairs_of-none [] (omega arith)) refl

-- 31 bits are what is left after a reserved one
good_number : (number whole : ℕ) → number ≡ whole % 2 ^ 31 → nat_lt number (2 ^ 31) ≡ true
good_number number whole read =
    let below : number < 2 ^ 31 = omega (arith, read) in grind (arith, nat_tests)

-- The values of a frame that was read can be written.
values-carried : (octets payload : List ℕ) (frame : Frame) → Carries (head_of octets) payload frame
    → has_good_values frame ≡ true
unfolding has_good_values
values-carried octets payload (Data stream end body pad) carried = refl
values-carried octets payload (Headers stream end whole fragment pad priority) carried = refl
values-carried octets payload (Priority stream body) carried = refl
values-carried octets payload (Reset stream code) carried = refl
values-carried octets payload (Settings ack pairs) (kind, on, acked, complete, none, read) =
    good_settings ack payload pairs none read
values-carried octets payload (Ping ack body) carried = refl
values-carried octets payload (GoAway last code debug) (kind, on, complete, lasts, coded, read) =
    good_number last (big_number 4 payload) lasts
values-carried octets payload (WindowUpdate stream increment) (kind, on, complete, read) =
    good_number increment (big_number 4 payload) read
values-carried octets payload (Continuation stream whole fragment) carried = refl
values-carried octets payload (Unknown kind flags stream body) (known, flagged, on, read) =
    let large = kind-head_of octets kind known in grind (arith, nat_tests)

-- A frame that a head, which was read from octets, and so many octets of payload carry has no
-- refusal.
pub refusal-carried : (octets payload : List ℕ) (frame : Frame)
    → (head_of octets).length < 2 ^ 24 → length payload ≡ (head_of octets).length
    → Carries (head_of octets) payload frame → refusal frame ≡ None
unfolding refusal
refusal-carried octets payload frame below complete carried =
    let counted = length-payload_of octets payload frame carried in
    let short : nat_lt 16777215 (length (payload_of frame)) ≡ false =
    grind (arith, nat_tests) in
    rw (
      short,
      stream-carried octets payload frame carried,
      values-carried octets payload frame carried,
    ) refl
