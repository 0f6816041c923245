-- What is written of a frame encodes it.
use Rattle.std.proofs.Common.{◌≡◌, ℕ, ◌+◌, ◌-◌, ◌%◌, ◌^◌, ◌<◌, ◌≤◌, ◌==◌, Bool, true, false, nat_lt}
use Rattle.std.proofs.Common.{nat_le, not, ◌&&◌, ◌||◌, if◌then◌else◌, List, [], ◌∷◌, ◌++◌, length}
use Rattle.std.proofs.Common.{drop, replicate, flat_map, Option, Some, None, is_some, refl, sym, ap}
use Rattle.std.proofs.Common.{◌∙◌, subst, arith, length-append}
use Rattle.std.proofs.Math.Nat.{mod-eq_of_lt}
use Rattle.std.proofs.lemmas.List.{length-replicate, nil_from_length}
use Rattle.std.proofs.lemmas.Bool.Decides.{nat_tests}
use Rattle.byteorder.specs.Endian.{big_number, big_bytes}
use Rattle.byteorder.specs.Numbers.{big_number-reads_back}
use Rattle.h2_frame.specs.declared.heads.Head.{Head}
use Rattle.h2_frame.specs.declared.kind.Kind.TheVariants as kinds
use Rattle.h2_frame.specs.declared.owned.Unwritable.TheVariants.{TooLong, BadStream, BadValue}
use Rattle.h2_frame.specs.Codes.{kind_of, number_of}
use Rattle.h2_frame.specs.Heads.{head_of, has_flag, fits_stream, octets_of_flags, is_push_promise}
use Rattle.h2_frame.specs.Heads.{fits_length, form_fault, head_fault}
use Rattle.h2_frame.specs.Pairs.{pairs_in, pairs_of}
use Rattle.h2_frame.specs.Frames.{Frame, Data, Headers, Priority, Reset, Settings, Ping, GoAway}
use Rattle.h2_frame.specs.Frames.{WindowUpdate, Continuation, Unknown, IsPadded, IsPrioritized}
use Rattle.h2_frame.specs.Frames.{Carries, Encodes, pad_length, pads_too_much, payload_fault}
use Rattle.h2_frame.specs.Encoding.{kind_of_frame, stream_of, flag, flags_of, padded, prioritized}
use Rattle.h2_frame.specs.Encoding.{pair_octets, payload_of, encoding_of, has_good_values, refusal}
use Rattle.h2_frame.specs.Encoding.{IsPriority, IsTyped}
use Rattle.h2_frame.specs.FrameParts.{ArePairs}
use Rattle.h2_frame.proofs.PairLemmas.{pairs_of-first}
use Rattle.h2_frame.proofs.FramePartsLemmas.{length-encoding_of, length-pair_octets}

-- A chain of three tests that ends in none passed all of them.
chain_passed : (long on good : Bool)
    → (if long then Some TooLong else if not on then Some BadStream else if not good
    then Some BadValue else None) ≡ None
    → (long ≡ false) × (on ≡ true) × (good ≡ true)
chain_passed true on good none = (cc)
chain_passed false false good none = (cc)
chain_passed false true false none = (cc)
chain_passed false true true none = (refl, refl, refl)

-- what is known of a frame that can be written
record IsAllowed (frame : Frame) : Type 0 where
  short : length (payload_of frame) ≤ 16777215
  below : stream_of frame < 2 ^ 31
  fits : fits_stream (kind_of_frame frame) (stream_of frame) ≡ true
  good : has_good_values frame ≡ true

-- which a frame without refusal is
allowed : (frame : Frame) → refusal frame ≡ None → IsAllowed frame
unfolding refusal
allowed frame none =
    let passed = chain_passed (nat_lt 16777215 (length (payload_of frame)))
    (nat_lt (stream_of frame) (2 ^ 31) && fits_stream (kind_of_frame frame) (stream_of frame))
    (has_good_values frame) none in
    record {
      short = grind (arith, nat_tests, passed.0);
      below = grind (arith, nat_tests, passed.1);
      fits = grind (arith, nat_tests, passed.1);
      good = passed.2;
    }

-- the numbers from 10 on are unknown kinds
kind_of-unknown : (number : ℕ) → 10 ≤ number → kind_of number ≡ kinds.Unknown number
unfolding kind_of
kind_of-unknown number large = grind (arith, nat_tests)

-- a kind that can be written is the kind of its number
kind_of-number_of : (frame : Frame) → has_good_values frame ≡ true
    → kind_of (number_of (kind_of_frame frame)) ≡ kind_of_frame frame
unfolding kind_of kind_of_frame has_good_values
kind_of-number_of (Data stream end octets pad) good = refl
kind_of-number_of (Headers stream end whole fragment pad priority) good = refl
kind_of-number_of (Priority stream octets) good = refl
kind_of-number_of (Reset stream code) good = refl
kind_of-number_of (Settings ack pairs) good = refl
kind_of-number_of (Ping ack octets) good = refl
kind_of-number_of (GoAway last code debug) good = refl
kind_of-number_of (WindowUpdate stream increment) good = refl
kind_of-number_of (Continuation stream whole fragment) good = refl
kind_of-number_of (Unknown kind flags stream payload) good =
    kind_of-unknown kind (grind (arith, nat_tests))

-- the head of a frame that is written
abbrev written_head : Frame → Head
written_head frame = record {
  length = length (payload_of frame);
  kind = kind_of_frame frame;
  flags = flags_of frame;
  stream = stream_of frame;
}

-- the payload follows nine octets
drop-encoding_of : (frame : Frame) → drop 9 (encoding_of frame) ≡ payload_of frame
unfolding encoding_of
drop-encoding_of frame = refl

-- the head is read back
head_of-encoding_of : (frame : Frame) → IsAllowed frame
    → head_of (encoding_of frame) ≡ written_head frame
unfolding head_of encoding_of
head_of-encoding_of frame may =
    let after_length = number_of (kind_of_frame frame) ∷ flags_of frame
    ∷ (big_bytes 4 (stream_of frame) ++ payload_of frame) in
    let counted : big_number 3 (encoding_of frame) ≡ length (payload_of frame) =
    big_number-reads_back 3 (length (payload_of frame)) after_length
    (omega (arith, may.short)) in
    let on : big_number 4 (big_bytes 4 (stream_of frame) ++ payload_of frame) ≡ stream_of frame =
    big_number-reads_back 4 (stream_of frame) (payload_of frame) (omega (arith, may.below)) in
    let stream : big_number 4 (big_bytes 4 (stream_of frame) ++ payload_of frame) % 2 ^ 31
    ≡ stream_of frame = ap (λ (n : ℕ). n % 2 ^ 31) on ∙ mod-eq_of_lt may.below in
    let kind = kind_of-number_of frame may.good in
    λ i. record { length = counted i; kind = kind i; flags = flags_of frame; stream = stream i }

-- each of four flags is read back
record AreFlags (flags : ℕ) (end whole pad priority : Bool) : Type 0 where
  ends : has_flag flags 0x01 ≡ end
  ends_headers : has_flag flags 0x04 ≡ whole
  is_padded : has_flag flags 0x08 ≡ pad
  is_prioritized : has_flag flags 0x20 ≡ priority

-- the four flags of HEADERS
four_flags : (end whole pad priority : Bool)
    → AreFlags (flag end 0x01 + flag whole 0x04 + flag pad 0x08 + flag priority 0x20) end whole pad
    priority
four_flags false false false false =
    record { ends = refl; ends_headers = refl; is_padded = refl; is_prioritized = refl }
four_flags false false false true =
    record { ends = refl; ends_headers = refl; is_padded = refl; is_prioritized = refl }
four_flags false false true false =
    record { ends = refl; ends_headers = refl; is_padded = refl; is_prioritized = refl }
four_flags false false true true =
    record { ends = refl; ends_headers = refl; is_padded = refl; is_prioritized = refl }
four_flags false true false false =
    record { ends = refl; ends_headers = refl; is_padded = refl; is_prioritized = refl }
four_flags false true false true =
    record { ends = refl; ends_headers = refl; is_padded = refl; is_prioritized = refl }
four_flags false true true false =
    record { ends = refl; ends_headers = refl; is_padded = refl; is_prioritized = refl }
four_flags false true true true = record {
  ends = refl;
  ends_headers = refl;
  is_padded = refl;
  is_prioritized = refl;
}
four_flags true false false false =
    record { ends = refl; ends_headers = refl; is_padded = refl; is_prioritized = refl }
four_flags true false false true =
    record { ends = refl; ends_headers = refl; is_padded = refl; is_prioritized = refl }
four_flags true false true false =
    record { ends = refl; ends_headers = refl; is_padded = refl; is_prioritized = refl }
four_flags true false true true = record {
  ends = refl;
  ends_headers = refl;
  is_padded = refl;
  is_prioritized = refl;
}
four_flags true true false false =
    record { ends = refl; ends_headers = refl; is_padded = refl; is_prioritized = refl }
four_flags true true false true = record {
  ends = refl;
  ends_headers = refl;
  is_padded = refl;
  is_prioritized = refl;
}
four_flags true true true false = record {
  ends = refl;
  ends_headers = refl;
  is_padded = refl;
  is_prioritized = refl;
}
four_flags true true true true = record {
  ends = refl;
  ends_headers = refl;
  is_padded = refl;
  is_prioritized = refl;
}

-- the flags of DATA: the end's
end_read : (end pad : Bool) → end ≡ has_flag (flag end 0x01 + flag pad 0x08) 0x01
end_read false false = refl
end_read false true = refl
end_read true false = refl
end_read true true = refl

-- and the padding's
pad_read : (end pad : Bool) → has_flag (flag end 0x01 + flag pad 0x08) 0x08 ≡ pad
pad_read false false = refl
pad_read false true = refl
pad_read true false = refl
pad_read true true = refl

-- the flag of an acknowledgment
one_read : (set : Bool) → set ≡ has_flag (flag set 0x01) 0x01
one_read false = refl
one_read true = refl

-- the flag of CONTINUATION
end_headers_read : (set : Bool) → set ≡ has_flag (flag set 0x04) 0x04
end_headers_read false = refl
end_headers_read true = refl

-- a payload that is written is padded where a flag says so
padded_is : (flagged : Bool) (body : List ℕ) (pad : Option ℕ) → flagged ≡ is_some pad
    → IsPadded flagged (padded body pad) body pad
padded_is flagged body None same = (same, refl)
padded_is flagged body (Some count) same = (same, replicate count 0, length-replicate count 0, refl)

-- and begins with a priority where a flag says so
prioritized_is : (flagged : Bool) (fragment : List ℕ) (priority : Option (List ℕ))
    → flagged ≡ is_some priority → IsPriority priority
    → IsPrioritized flagged (prioritized fragment priority) fragment priority
prioritized_is flagged fragment None same typed = (same, refl)
prioritized_is flagged fragment (Some priority) same typed = (same, typed, refl)

-- the pairs that are written are read back
pairs_of-encoding_of : (pairs : List (ℕ × ℕ)) → ArePairs pairs
    → pairs_of (flat_map pair_octets pairs) ≡ pairs
unfolding pairs_in
pairs_of-encoding_of [] typed = refl
pairs_of-encoding_of (pair ∷ pairs) typed =
    let octets = pair_octets pair ++ flat_map pair_octets pairs in
    let enough : 6 ≤ length octets = omega arith in
    let first = pairs_of-first octets enough in
    let id : big_number 2 octets ≡ pair.0 =
    big_number-reads_back 2 pair.0
    (big_bytes 4 pair.1 ++ flat_map pair_octets pairs) typed.0.0 in
    let value : big_number 4 (drop 2 octets) ≡ pair.1 =
    big_number-reads_back 4 pair.1 (flat_map pair_octets pairs) typed.0.1 in
    let rest = pairs_of-encoding_of pairs typed.1 in
    first ∙ (λ i. (id i, value i) ∷ rest i)

-- an acknowledgment of settings that is written has no pairs
acked_empty : (ack : Bool) (pairs : List (ℕ × ℕ)) → (not ack || length pairs == 0) ≡ true
    → ack ≡ true → pairs ≡ []
acked_empty false pairs good acked = (cc)
acked_empty true pairs good acked = nil_from_length pairs (grind (arith, nat_tests))

-- what is above 0 passes the test of it
above_0 : (stream : ℕ) → nat_lt 0 stream ≡ true → 0 < stream
above_0 stream passed = grind (arith, nat_tests)

-- a number below another passes the test of it
pub below_test : (number bound : ℕ) → nat_lt number bound ≡ true → number < bound
below_test number bound passed = grind (arith, nat_tests)

-- What is written carries the frame after its head.
carries_written : (frame : Frame) → IsTyped frame → IsAllowed frame
    → Carries (written_head frame) (payload_of frame) frame
unfolding kind_of_frame stream_of flags_of payload_of has_good_values fits_stream
carries_written (Data stream end octets pad) typed may = (
  refl,
  refl,
  above_0 stream may.fits,
  end_read end (is_some pad),
  padded_is _ octets pad (pad_read end (is_some pad)),
)
carries_written (Headers stream end whole fragment pad priority) typed may =
    let flags = four_flags end whole (is_some pad) (is_some priority) in (
      refl,
      refl,
      above_0 stream may.fits,
      sym flags.ends,
      sym flags.ends_headers,
      prioritized fragment priority,
      padded_is _ (prioritized fragment priority) pad flags.is_padded,
      prioritized_is _ fragment priority flags.is_prioritized typed.1,
    )
carries_written (Priority stream octets) typed may =
    (refl, refl, above_0 stream may.fits, typed, refl)
carries_written (Reset stream code) typed may =
    (refl, refl, above_0 stream may.fits, refl, sym (big_number-reads_back 4 code [] typed))
carries_written (Settings ack pairs) typed may = (
  refl,
  refl,
  one_read ack,
  omega (arith, length-pair_octets pairs),
  (λ acked. ap (λ (xs : List (ℕ × ℕ)). flat_map pair_octets xs)
      (acked_empty ack pairs may.good acked)),
  sym (pairs_of-encoding_of pairs typed),
)
carries_written (Ping ack octets) typed may = (refl, refl, one_read ack, typed, refl)
carries_written (GoAway last code debug) typed may =
    let small : last < 2 ^ 31 = below_test last (2 ^ 31) may.good in
    let read = big_number-reads_back 4 last (big_bytes 4 code ++ debug) (omega (arith, small)) in (
      refl,
      refl,
      omega arith,
      sym (ap (λ (n : ℕ). n % 2 ^ 31) read ∙ mod-eq_of_lt small),
      sym (big_number-reads_back 4 code debug typed),
      refl,
    )
carries_written (WindowUpdate stream increment) typed may =
    let small : increment < 2 ^ 31 = below_test increment (2 ^ 31) may.good in
    let read = big_number-reads_back 4 increment [] (omega (arith, small)) in
    (refl, refl, refl, sym (ap (λ (n : ℕ). n % 2 ^ 31) read ∙ mod-eq_of_lt small))
carries_written (Continuation stream whole fragment) typed may =
    (refl, refl, above_0 stream may.fits, end_headers_read whole, refl)
carries_written (Unknown kind flags stream payload) typed may = (refl, refl, refl, refl)

-- What is written encodes the frame.
pub encoding_encodes : (frame : Frame) → IsTyped frame → refusal frame ≡ None
    → Encodes frame (encoding_of frame)
encoding_encodes frame typed none =
    let may = allowed frame none in
    let head = head_of-encoding_of frame may in
    record {
      complete = length-encoding_of frame ∙ ap (λ (read : Head). 9 + read.length) (sym head);
      carried = subst (λ read. Carries read (drop 9 (encoding_of frame)) frame) (sym head)
          (subst (λ xs. Carries (written_head frame) xs frame) (sym (drop-encoding_of frame))
          (carries_written frame typed may));
    }

-- how many octets padding adds
length-padded : (body : List ℕ) (count : ℕ)
    → length (padded body (Some count)) ≡ 1 + length body + count
length-padded body count =
    omega (arith, length-append body (replicate {A = ℕ} count 0), length-replicate {A = ℕ} count 0)

-- how many a priority adds
length-prioritized : (fragment priority : List ℕ) → length priority ≡ 5
    → length (prioritized fragment (Some priority)) ≡ 5 + length fragment
length-prioritized fragment priority five = omega (arith, length-append priority fragment)

-- from orders to their tests
pub le_passes : (a b : ℕ) → a ≤ b → nat_le a b ≡ true
le_passes a b order = grind (arith, nat_tests)

pub le_fails : (a b : ℕ) → b < a → nat_le a b ≡ false
le_fails a b order = grind (arith, nat_tests)

lt_fails : (a b : ℕ) → b ≤ a → nat_lt a b ≡ false
lt_fails a b order = grind (arith, nat_tests)

eq_passes : (a b : ℕ) → a ≡ b → (a == b) ≡ true
eq_passes a b same = grind (arith, nat_tests)

-- a payload has the octets that its flags ask for
enough_octets : (flagged preceded : Bool) (fragment : List ℕ) (pad : Option ℕ)
    (priority : Option (List ℕ)) → flagged ≡ is_some pad → preceded ≡ is_some priority
    → IsPriority priority
    → octets_of_flags flagged preceded ≤ length (padded (prioritized fragment priority) pad)
enough_octets flagged preceded fragment None None same other typed = rw (same, other) (omega arith)
enough_octets flagged preceded fragment None (Some priority) same other typed =
    rw (same, other) (omega (arith, length-prioritized fragment priority typed))
enough_octets flagged preceded fragment (Some count) None same other typed =
    rw (same, other) (omega (arith, length-padded fragment count))
enough_octets flagged preceded fragment (Some count) (Some priority) same other typed =
    rw (same, other)
    (omega (
      arith,
      length-padded (prioritized fragment (Some priority)) count,
      length-prioritized fragment priority typed,
    ))

-- the padding of DATA is not too long
data_pads : (flagged : Bool) (body : List ℕ) (pad : Option ℕ) → flagged ≡ is_some pad
    → (flagged && nat_le (length (padded body pad)) (pad_length (padded body pad))) ≡ false
data_pads flagged body None same = rw same refl
data_pads flagged body (Some count) same =
    rw same (le_fails (length (padded body (Some count))) count
    (omega (arith, length-padded body count)))

-- nor is that of HEADERS
headers_pad : (flagged preceded : Bool) (fragment : List ℕ) (pad : Option ℕ)
    (priority : Option (List ℕ)) → flagged ≡ is_some pad → preceded ≡ is_some priority
    → IsPriority priority
    → (flagged
    && nat_lt (length (padded (prioritized fragment priority) pad) - octets_of_flags true preceded)
    (pad_length (padded (prioritized fragment priority) pad))) ≡ false
headers_pad flagged preceded fragment None priority same other typed = rw same refl
headers_pad flagged preceded fragment (Some count) None same other typed =
    rw (same, other) (lt_fails (length (padded fragment (Some count)) - 1) count
    (omega (arith, length-padded fragment count)))
headers_pad flagged preceded fragment (Some count) (Some priority) same other typed =
    let body = prioritized fragment (Some priority) in
    rw (same, other) (lt_fails (length (padded body (Some count)) - 6) count
    (omega (arith, length-padded body count, length-prioritized fragment priority typed)))

-- the length of pairs that are written fits SETTINGS
settings_fit : (ack : Bool) (pairs : List (ℕ × ℕ)) → (not ack || length pairs == 0) ≡ true
    → fits_length kinds.Settings (flag ack 0x01) (length (flat_map pair_octets pairs)) ≡ true
unfolding fits_length
settings_fit false pairs good =
    eq_passes (length (flat_map pair_octets pairs) % 6) 0 (omega (arith, length-pair_octets pairs))
settings_fit true pairs good = let none = acked_empty true pairs good refl in rw none refl

-- the length that is written fits the kind
fits_length-encoding_of : (frame : Frame) → IsTyped frame → has_good_values frame ≡ true
    → fits_length (kind_of_frame frame) (flags_of frame) (length (payload_of frame)) ≡ true
unfolding fits_length kind_of_frame flags_of payload_of has_good_values
fits_length-encoding_of (Data stream end octets pad) typed good =
    le_passes _ (length (padded octets pad))
    (enough_octets _ false octets pad None (pad_read end (is_some pad)) refl tt)
fits_length-encoding_of (Headers stream end whole fragment pad priority) typed good =
    let flags = four_flags end whole (is_some pad) (is_some priority) in
    le_passes _ (length (padded (prioritized fragment priority) pad))
    (enough_octets _ _ fragment pad priority flags.is_padded flags.is_prioritized typed.1)
fits_length-encoding_of (Priority stream octets) typed good = eq_passes (length octets) 5 typed
fits_length-encoding_of (Reset stream code) typed good = refl
fits_length-encoding_of (Settings ack pairs) typed good = settings_fit ack pairs good
fits_length-encoding_of (Ping ack octets) typed good = eq_passes (length octets) 8 typed
fits_length-encoding_of (GoAway last code debug) typed good =
    le_passes 8 (length (big_bytes 4 last ++ (big_bytes 4 code ++ debug))) (omega arith)
fits_length-encoding_of (WindowUpdate stream increment) typed good = refl
fits_length-encoding_of (Continuation stream whole fragment) typed good = refl
fits_length-encoding_of (Unknown kind flags stream payload) typed good = refl

-- no kind that is written is refused
not_push_promise : (frame : Frame) → is_push_promise (kind_of_frame frame) ≡ false
unfolding kind_of_frame
not_push_promise (Data stream end octets pad) = refl
not_push_promise (Headers stream end whole fragment pad priority) = refl
not_push_promise (Priority stream octets) = refl
not_push_promise (Reset stream code) = refl
not_push_promise (Settings ack pairs) = refl
not_push_promise (Ping ack octets) = refl
not_push_promise (GoAway last code debug) = refl
not_push_promise (WindowUpdate stream increment) = refl
not_push_promise (Continuation stream whole fragment) = refl
not_push_promise (Unknown kind flags stream payload) = refl

-- the padding that is written is not too long
pads_too_much-encoding_of : (frame : Frame) → IsTyped frame
    → pads_too_much (kind_of_frame frame) (flags_of frame) (payload_of frame) ≡ false
unfolding pads_too_much kind_of_frame flags_of payload_of
pads_too_much-encoding_of (Data stream end octets pad) typed =
    data_pads _ octets pad (pad_read end (is_some pad))
pads_too_much-encoding_of (Headers stream end whole fragment pad priority) typed =
    let flags = four_flags end whole (is_some pad) (is_some priority) in
    headers_pad _ _ fragment pad priority flags.is_padded flags.is_prioritized typed.1
pads_too_much-encoding_of (Priority stream octets) typed = refl
pads_too_much-encoding_of (Reset stream code) typed = refl
pads_too_much-encoding_of (Settings ack pairs) typed = refl
pads_too_much-encoding_of (Ping ack octets) typed = refl
pads_too_much-encoding_of (GoAway last code debug) typed = refl
pads_too_much-encoding_of (WindowUpdate stream increment) typed = refl
pads_too_much-encoding_of (Continuation stream whole fragment) typed = refl
pads_too_much-encoding_of (Unknown kind flags stream payload) typed = refl

-- The head that is written has no fault.
written_head_sound : (frame : Frame) (limit : ℕ) → IsTyped frame → IsAllowed frame
    → length (payload_of frame) ≤ limit → head_fault (written_head frame) limit ≡ None
unfolding head_fault form_fault
written_head_sound frame limit typed may within =
    rw (
      lt_fails limit (length (payload_of frame)) within,
      not_push_promise frame,
      may.fits,
      fits_length-encoding_of frame typed may.good,
    ) refl

-- So the head that is read back has none.
pub sound_head : (frame : Frame) (limit : ℕ) → IsTyped frame → refusal frame ≡ None
    → length (payload_of frame) ≤ limit → head_fault (head_of (encoding_of frame)) limit ≡ None
sound_head frame limit typed none within =
    let may = allowed frame none in
    subst (λ read. head_fault read limit ≡ None) (sym (head_of-encoding_of frame may))
    (written_head_sound frame limit typed may within)

-- The payload that is written has no fault.
written_payload_sound : (frame : Frame) → IsTyped frame
    → payload_fault (written_head frame) (payload_of frame) ≡ None
unfolding payload_fault
written_payload_sound frame typed = rw (pads_too_much-encoding_of frame typed) refl

-- Nor has it after the head that is read back.
pub sound_payload : (frame : Frame) → IsTyped frame → refusal frame ≡ None
    → payload_fault (head_of (encoding_of frame)) (drop 9 (encoding_of frame)) ≡ None
sound_payload frame typed none =
    let may = allowed frame none in
    subst (λ read. payload_fault read (drop 9 (encoding_of frame)) ≡ None)
    (sym (head_of-encoding_of frame may))
    (subst (λ xs. payload_fault (written_head frame) xs ≡ None) (sym (drop-encoding_of frame))
    (written_payload_sound frame typed))
