-- What a frame without a fault says of its numbers; and frames that change nothing.
use Rattle.h2_core.proofs.Names.{◌≡◌, ◌<◌, ◌≤◌, ◌^◌, ℕ, not, ◌&&◌, Bool, true, false, if◌then◌else◌}
use Rattle.h2_core.proofs.Names.{List, length, Option, Some, None, refl, sym, ap, ◌∙◌, arith}
use Rattle.h2_core.proofs.Names.{ltb-true, Field, Frame, Data, Headers, Priority, Ping, GoAway}
use Rattle.h2_core.proofs.Names.{WindowUpdate, Continuation, Unknown, payload_of, alone, Verdict}
use Rattle.h2_core.proofs.Names.{NoEvent, End, end_view, ItemTaken, refusal, stream_of}
use Rattle.h2_core.proofs.Names.{kind_of_frame, has_good_values, fits_stream, encoding_of_items}
use Rattle.h2_core.proofs.Names.{verdict_of, verdict_by_rules, over_limits, replies_to, events_of}
use Rattle.h2_core.proofs.Names.{after_verdict, after_ignored}
use Rattle.std.proofs.Common.{nat_lt, ltb-false}
use Rattle.h2_frame.specs.Frames.{Reset, Settings}
use Rattle.h2_core.proofs.Names.{rules}

-- The numbers of a frame that is not refused.
pub record Writable (frame : Frame) : Type 0 where
  pub payload : length (payload_of frame) ≤ 16777215
  pub stream : stream_of frame < 2 ^ 31
  pub fits : fits_stream (kind_of_frame frame) (stream_of frame) ≡ true
  pub values : has_good_values frame ≡ true

passes : {X : Type 0} (x y z : X) (long small fits good : Bool)
    → (if long then Some x else if not (small && fits) then Some y
    else if not good then Some z else None) ≡ None
    → (long ≡ false) × (small ≡ true) × (fits ≡ true) × (good ≡ true)
passes x y z true small fits good is = cc
passes x y z false false fits good is = cc
passes x y z false true false good is = cc
passes x y z false true true false is = cc
passes x y z false true true true is = (refl, refl, refl, refl)

pub writable : (frame : Frame) → refusal frame ≡ None → Writable frame
unfolding refusal
writable frame is = search rules

-- DATA, HEADERS and CONTINUATION are on a stream.
pub data_number : (stream : ℕ) (end : Bool) (octets : List ℕ) (pad : Option ℕ)
    → refusal (Data stream end octets pad) ≡ None → (1 ≤ stream) × (stream < 2 ^ 31)
unfolding stream_of kind_of_frame fits_stream
data_number stream end octets pad is =
    let good = writable (Data stream end octets pad) is in
    let some : 0 < stream = ltb-true 0 stream good.fits in
    (omega arith, good.stream)

pub headers_number : (stream : ℕ) (end whole : Bool) (fragment : List ℕ) (pad : Option ℕ)
    (priority : Option (List ℕ)) → refusal (Headers stream end whole fragment pad priority) ≡ None
    → (1 ≤ stream) × (stream < 2 ^ 31)
unfolding stream_of kind_of_frame fits_stream
headers_number stream end whole fragment pad priority is =
    let good = writable (Headers stream end whole fragment pad priority) is in
    let some : 0 < stream = ltb-true 0 stream good.fits in
    (omega arith, good.stream)

pub continuation_number : (stream : ℕ) (whole : Bool) (fragment : List ℕ)
    → refusal (Continuation stream whole fragment) ≡ None → (1 ≤ stream) × (stream < 2 ^ 31)
unfolding stream_of kind_of_frame fits_stream
continuation_number stream whole fragment is =
    let good = writable (Continuation stream whole fragment) is in
    let some : 0 < stream = ltb-true 0 stream good.fits in
    (omega arith, good.stream)

pub update_number : (stream increment : ℕ) → refusal (WindowUpdate stream increment) ≡ None
    → stream < 2 ^ 31
unfolding stream_of
update_number stream increment is = (writable (WindowUpdate stream increment) is).stream

pub update_increment : (stream increment : ℕ) → refusal (WindowUpdate stream increment) ≡ None
    → increment < 2 ^ 31
unfolding has_good_values
update_increment stream increment is =
    ltb-true increment (2 ^ 31) (writable (WindowUpdate stream increment) is).values

-- Whether a frame changes nothing, by its kind.
abbrev pub is_quiet : Frame → Bool
is_quiet (Headers stream end whole fragment pad priority) = true
is_quiet (Priority stream octets) = true
is_quiet (Continuation stream whole fragment) = true
is_quiet (Unknown kind flags stream payload) = true
is_quiet frame = false

quiet_by : (e : End) (frame : Frame) (list : List Field)
    → verdict_of (end_view e) None (alone frame) ≡ NoEvent
    → after_ignored e None (alone frame) ≡ e → ItemTaken e None (alone frame) list None e
unfolding after_verdict events_of
quiet_by e frame list is same = search rules

pub quiet_taken : (e : End) (frame : Frame) (list : List Field) → is_quiet frame ≡ true
    → ItemTaken e None (alone frame) list None e
unfolding verdict_of verdict_by_rules over_limits replies_to encoding_of_items after_ignored
quiet_taken e (Headers stream end whole fragment pad priority) list quiet =
    quiet_by e (Headers stream end whole fragment pad priority) list refl refl
quiet_taken e (Priority stream octets) list quiet =
    quiet_by e (Priority stream octets) list refl refl
quiet_taken e (Continuation stream whole fragment) list quiet =
    quiet_by e (Continuation stream whole fragment) list refl refl
quiet_taken e (Unknown kind flags stream payload) list quiet =
    quiet_by e (Unknown kind flags stream payload) list refl refl
quiet_taken e frame list quiet = cc
