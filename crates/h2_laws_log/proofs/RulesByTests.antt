-- What the rules say by their tests, of any end: which limits a verdict keeps to, and what a call
-- that isn't refused may write.
use Rattle.std.proofs.Common.{is_some, leb-false}
use Rattle.h2_spec_log.specs.ItemRules.{exceeds, is_stream_fault}
use Rattle.h2_spec_log.specs.Limits.{max_resets, max_output}
use Rattle.h2_laws_log.proofs.Names
use Names.{subst, nat_tests, ints, after_limit, EncoderState, IsValidEncoder, limit_preserves}
use Names.{WindowUpdate, Code, EnhanceYourCalm, alone, data_frames, data_items, data_count}
use Names.{verdict_of_fault, encoding_of_items, State, Idle, Active, Verdict, ConnectionFault}
use Names.{NoEvent, Reported, data_verdict, block_verdict, opening_verdict, StreamView, View, ◌≡◌}
use Names.{◌≢◌, ℕ, ◌+◌, ◌<◌, ◌≤◌, ◌==◌, nat_lt, nat_le, ◌&&◌, ◌||◌, if◌then◌else◌, Bool, true}
use Names.{false, List, pos, length, Option, Some, None, refl, sym, arith, suc, ◌*◌, not, [], ◌∷◌}
use Names.{take, length-take, min, refuse_fault, at_least_none, encoder_after_settings, over_limits}
use Names.{rules}
use Rattle.h2_laws_log.proofs.CallConditions.{neither_one, neither_other}
use Rattle.h2_laws_log.proofs.ItemSizes.{size_of, size-update, size-updates, size-data}

-- The verdict is no fault of the connection.
abbrev pub NoConnectionFault : Verdict → Type 0
NoConnectionFault verdict = (code : Code) → verdict ≢ ConnectionFault code

-- A verdict that isn't that of a limit is the one by the rules, and no limit is reached, by the
-- test of the limits.
limits_by : (b : Bool) (v u : Verdict) → (if b then ConnectionFault EnhanceYourCalm else v) ≡ u
    → NoConnectionFault u → (v ≡ u) × (b ≡ false)
limits_by true v u is continues = absurd (continues EnhanceYourCalm (sym is))
limits_by false v u is continues = (is, refl)

-- A verdict that isn't that of a limit is the one by the rules; fewer streams were reset than may
-- be, where it is a fault of one; and a reply fits, unless it has no octets.
pub within_limits : (resets waits size : ℕ) (v u : Verdict) → over_limits resets waits size v ≡ u
    → NoConnectionFault u
    → (v ≡ u) × ((is_stream_fault v && nat_le max_resets resets) ≡ false)
    × ((nat_lt 0 size && nat_lt max_output (waits + size)) ≡ false)
unfolding over_limits
within_limits resets waits size v u is continues =
    let few : Bool = is_stream_fault v && nat_le max_resets resets in
    let large : Bool = nat_lt 0 size && nat_lt max_output (waits + size) in
    let limits = limits_by (few || large) v u is continues in
    (limits.0, neither_one few large limits.1, neither_other few large limits.1)

-- A reply that isn't above the most output fits.
pub fits_by : (waits size : ℕ) → (nat_lt 0 size && nat_lt max_output (waits + size)) ≡ false
    → waits ≤ max_output → waits + size ≤ max_output
fits_by waits size fits within = grind (arith, nat_tests)

-- Where two tests don't both hold, and the one does, the other doesn't.
pub second_false : (a b : Bool) → (a && b) ≡ false → a ≡ true → b ≡ false
second_false true b both is = both
second_false false b both is = cc

-- Fewer streams are active than own SETTINGS allow, where the capacity isn't reached.
pub few_of_own : (server : Bool) (most count : ℕ)
    → nat_le (if server then most else 0) count ≡ false
    → count < most
few_of_own true most count is = leb-false most count is
few_of_own false most count is = absurd (omega (arith, leb-false 0 count is))

-- A block that is reported on an idle stream doesn't find the capacity reached.
pub few_by : (s : State) (opens left full ended large : Bool)
    → block_verdict s opens left full ended large ≡ Reported → s ≡ Idle → full ≡ false
unfolding block_verdict opening_verdict
few_by s opens left false ended large is idle = refl
few_by Idle true true true ended large is idle = cc
few_by s opens left true ended large is idle = cc

-- DATA that doesn't exceed a window is within it.
pub within_window : (window count : ℕ) → exceeds count (pos window) ≡ false → count ≤ window
within_window window count fits = grind (arith, nat_tests, ints)

-- DATA that is reported doesn't exceed its stream's window.
pub data_unexceeded : (s : State) (passes ended over : Bool)
    → data_verdict s passes ended over ≡ Reported → over ≡ false
unfolding data_verdict
data_unexceeded s passes ended false is = refl
data_unexceeded Active true ended true is = cc
data_unexceeded Active false true true is = cc
data_unexceeded Active false false true is = cc
data_unexceeded s true ended true is = cc
data_unexceeded s false ended true is = cc

-- An increment that is no fault doesn't bring a window above the greatest, by the tests.
pub not_above : (zero above : Bool) (v w : Verdict)
    → (if zero then v else if above then w else NoEvent)
    ≡ NoEvent → v ≢ NoEvent → w ≢ NoEvent → above ≡ false
not_above true above v w is fault other = absurd (fault is)
not_above false true v w is fault other = absurd (other is)
not_above false false v w is fault other = refl

-- The limits that SETTINGS set leave the encoder valid, by whether a pair sets one.
limited_by : (encoder : EncoderState) (value : ℕ) (b : Bool) → IsValidEncoder encoder
    → IsValidEncoder (if b then after_limit encoder (min value 4096) else encoder)
limited_by encoder value true valid = limit_preserves encoder (min value 4096) (omega arith) valid
limited_by encoder value false valid = valid

-- The limits that SETTINGS set leave the encoder valid.
pub limited : (encoder : EncoderState) (pairs : List (ℕ × ℕ)) → IsValidEncoder encoder
    → IsValidEncoder (encoder_after_settings encoder pairs)
unfolding encoder_after_settings
limited encoder [] valid = valid
limited encoder (pair ∷ pairs) valid =
    limited (if pair.0 == 1 then after_limit encoder (min pair.1 4096) else encoder) pairs
    (limited_by encoder pair.1 (pair.0 == 1) valid)

-- SETTINGS whose verdict is no fault have none.
pub no_settings_fault : (x : Option Code) → verdict_of_fault x ≡ NoEvent → x ≡ None
no_settings_fault None is = refl
no_settings_fault (Some code) is = cc

-- What holds of a value holds of one that is the same.
pub same_some : {A : Type 0} (Holds : A → Type 0) (x y : A) → Holds x → Some x ≡ Some y → Holds y
same_some Holds x y h is = let same : x ≡ y = cc in subst Holds same h

-- A stream is active where it isn't that none is.
pub is_active_by : (x : Option StreamView) → not (is_some x) ≡ false
    → (stream : StreamView) × (x ≡ Some stream)
is_active_by None is = absurd (cc)
is_active_by (Some stream) is = (stream, refl)

-- At most 65,536 octets of a body are sent.
pub count_few : (view : View) (x : Option StreamView) (count : ℕ) → data_count view x count ≤ 65536
count_few view None count = omega arith
count_few view (Some stream) count = omega arith

-- No more octets are sent on a stream than its window lets through.
pub count_lets : (view : View) (stream : StreamView) (count : ℕ) (x : Option StreamView)
    → x ≡ Some stream → data_count view x count ≤ at_least_none stream.send_window
count_lets view stream count x is = rw is (omega arith)

-- What is written of octets of a body takes no more than nine octets and twice theirs, by the test
-- whether nothing is.
data_size_by : (most i : ℕ) (octets : List ℕ) (end : Bool) (count : ℕ) (nothing : Bool) → 9 ≤ most
    → size_of most (if nothing then []
    else data_frames (suc count) most i (take count octets) (end && count == length octets))
    ≤ 9 + 2 * count
unfolding encoding_of_items
data_size_by most i octets end count true big = omega arith
data_size_by most i octets end count false big = omega (arith, length-take {A = ℕ}, size-data)

-- What is written of octets of a body takes no more than nine octets and twice theirs.
pub data_size : (most i : ℕ) (octets : List ℕ) (end : Bool) (count : ℕ) → 9 ≤ most
    → size_of most (data_items most i octets end count) ≤ 9 + 2 * count
unfolding data_items
data_size most i octets end count =
    data_size_by most i octets end count (count == 0 && not (length octets == 0 && end))

-- What a release writes, by the test whether the peer has ended the stream.
pub release_size : (most i count : ℕ) (b : Bool)
    → size_of most (alone (WindowUpdate 0 count)
    ∷ (if b then [] else alone (WindowUpdate i count) ∷ []))
    ≤ 26
release_size most i count true = omega (arith, size-update most 0 count)
release_size most i count false = omega (arith, size-updates most 0 count i count)

-- Where refusing a stream ends no connection, its code isn't INTERNAL_ERROR, fewer streams were
-- reset than may be, and RST_STREAM fits.
pub refuse_fits : (view : View) (code : ℕ) → refuse_fault view code ≡ None
    → ((code == 2) ≡ false) × (view.resets < max_resets) × (view.waiting + 13 ≤ max_output)
unfolding refuse_fault
refuse_fits view code is = search rules

-- What the tests say, where credit is returned before output is put out.
pub returns_says : (x : Option Code) (some space : Bool)
    → (not (is_some x) && (some && space)) ≡ true → (x ≡ None) × (space ≡ true)
returns_says None true space is = (refl, is)
returns_says None false space is = cc
returns_says (Some code) some space is = cc
