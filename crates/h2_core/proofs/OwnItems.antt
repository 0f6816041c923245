-- SETTINGS of the peer, and the acknowledgment of own ones, as items: their verdicts, and the end
-- after them.
use Rattle.h2_core.proofs.Names.{◌≡◌, ◌≢◌, ℕ, zero, suc, ◌+◌, ◌==◌, ◌<◌, ◌≤◌, min, Bool, true}
use Rattle.h2_core.proofs.Names.{false, List, [], ◌∷◌, ◌++◌, length, Option, Some, None, refl, sym}
use Rattle.h2_core.proofs.Names.{◌∙◌, arith, if◌then◌else◌, lt-ltb, le-ltb, Field, EncoderState}
use Rattle.h2_core.proofs.Names.{Code, EnhanceYourCalm, Item, alone, Values, max_frame_size_sent}
use Rattle.h2_core.proofs.Names.{View, ConnectionFault, NoEvent, Reported, settings_fault}
use Rattle.h2_core.proofs.Names.{encoder_after_settings, End, end_view, after_item, first_allowed}
use Rattle.h2_core.proofs.Names.{apply_own_settings, Endpoint, StepError, Fault, OutOfMemory}
use Rattle.h2_core.proofs.Names.{end_of, streams_allowed_by, TakesItem, ItemTaken, encoding_of}
use Rattle.h2_core.proofs.Names.{kind_of_frame, flags_of, stream_of, payload_of, with_value}
use Rattle.h2_core.proofs.Names.{encoding_of_items, encoding_of_item, value_after, verdict_of}
use Rattle.h2_core.proofs.Names.{verdict_by_rules, replies_to, over_limits, opened_by, events_of}
use Rattle.h2_core.proofs.Names.{after_verdict, after_ignored, after_reported, with_values}
use Rattle.h2_spec_machine.specs.Machine.{each_entry, shifted_entry}
use Rattle.h2_core.specs.Settings.{AppliesSettings}
use Rattle.h2_core.proofs.Names.{nat_tests}
use Rattle.std.proofs.Common.{nat_lt, Err}
use Rattle.h2_frame.specs.Frames.{Settings as SettingsFrame}
use Rattle.h2_flow.specs.declared.settings.Settings.{Settings}
use Rattle.h2_spec_log.specs.Events.{AckedEvent}
use Rattle.h2_core.specs.declared.event.Event.TheVariants.{Acked}
use Rattle.h2_core.proofs.ItemVerdicts.{lacks_memory}

-- The values of one pair.
value_four : (settings : Settings) (id value : ℕ)
    → (if id == 4 then value else settings.initial_window_size)
    ≡ (with_value settings (id, value)).initial_window_size
unfolding with_value
value_four settings id value = grind (arith, nat_tests)

value_five : (settings : Settings) (id value : ℕ)
    → (if id == 5 then value else settings.max_frame_size)
    ≡ (with_value settings (id, value)).max_frame_size
unfolding with_value
value_five settings id value = grind (arith, nat_tests)

value_three : (settings : Settings) (before id value : ℕ)
    → min 1000 before ≡ streams_allowed_by true settings.max_concurrent_streams
    → min 1000 (if id == 3 then value else before)
    ≡ streams_allowed_by true (with_value settings (id, value)).max_concurrent_streams
unfolding with_value
value_three settings before id value is = grind (arith, nat_tests)

-- The peer's initial window, its greatest frame, and how many streams it takes, after all pairs.
pub window_after : (settings : Settings) (pairs : List (ℕ × ℕ))
    → value_after 4 settings.initial_window_size pairs
    ≡ (with_values settings pairs).initial_window_size
unfolding value_after with_values
window_after settings [] = refl
window_after settings ((id, value) ∷ pairs) =
    rw (value_four settings id value) (window_after (with_value settings (id, value)) pairs)

pub frame_after : (settings : Settings) (pairs : List (ℕ × ℕ))
    → value_after 5 settings.max_frame_size pairs ≡ (with_values settings pairs).max_frame_size
unfolding value_after with_values
frame_after settings [] = refl
frame_after settings ((id, value) ∷ pairs) =
    rw (value_five settings id value) (frame_after (with_value settings (id, value)) pairs)

allowed_after : (settings : Settings) (before : ℕ) (pairs : List (ℕ × ℕ))
    → min 1000 before ≡ streams_allowed_by true settings.max_concurrent_streams
    → min 1000 (value_after 3 before pairs)
    ≡ streams_allowed_by true (with_values settings pairs).max_concurrent_streams
unfolding value_after with_values
allowed_after settings before [] is = is
allowed_after settings before ((id, value) ∷ pairs) is =
    allowed_after (with_value settings (id, value)) (if id == 3 then value else before) pairs
    (value_three settings before id value is)

allowed_before : (started : Bool) (named : Option ℕ) → (started ≡ false → named ≡ None)
    → min 1000 (first_allowed started (streams_allowed_by started named))
    ≡ streams_allowed_by true named
allowed_before true None unsaid = refl
allowed_before true (Some count) unsaid = omega arith
allowed_before false named unsaid = rw (unsaid refl) refl

pub streams_after : (settings : Settings) (started : Bool) (pairs : List (ℕ × ℕ))
    → (started ≡ false → settings.max_concurrent_streams ≡ None)
    → min 1000 (value_after 3
    (first_allowed started (streams_allowed_by started settings.max_concurrent_streams)) pairs)
    ≡ streams_allowed_by true (with_values settings pairs).max_concurrent_streams
streams_after settings started pairs unsaid =
    allowed_after settings _ pairs (allowed_before started settings.max_concurrent_streams unsaid)

-- SETTINGS at fault.
fault_verdict : (view : View) (pairs : List (ℕ × ℕ)) (code : Code)
    → settings_fault view pairs ≡ Some code
    → verdict_of view None (alone (SettingsFrame false pairs)) ≡ ConnectionFault code
unfolding verdict_of verdict_by_rules replies_to over_limits encoding_of_items
fault_verdict view pairs code bad = rw bad refl

nothing_opened : (view : View) (pairs : List (ℕ × ℕ))
    → 0 ≡ opened_by view None (alone (SettingsFrame false pairs))
unfolding opened_by
nothing_opened view pairs = refl

pub settings_stop : (one : Endpoint) (pairs : List (ℕ × ℕ)) (stop : StepError) (list : List Field)
    → AppliesSettings one pairs (Err stop)
    → TakesItem (end_of one) None (alone (SettingsFrame false pairs)) list (Err stop) (end_of one)
settings_stop one pairs (Fault code opened) list is = (
  fault_verdict (end_view (end_of one)) pairs code is.0,
  is.1 ∙ nothing_opened (end_view (end_of one)) pairs,
  refl,
)
settings_stop one pairs OutOfMemory list is = absurd is

-- SETTINGS without a fault: the acknowledgment must not bring the output above its limit.
acknowledgment : (most : ℕ) → encoding_of_items most (alone (SettingsFrame true []) ∷ [])
    ≡ 0 ∷ 0 ∷ 0 ∷ 4 ∷ 1 ∷ 0 ∷ 0 ∷ 0 ∷ 0 ∷ []
unfolding encoding_of_items encoding_of_item encoding_of kind_of_frame flags_of stream_of payload_of
acknowledgment most = refl

pub acknowledgment_octets : encoding_of (SettingsFrame true [])
    ≡ 0 ∷ 0 ∷ 0 ∷ 4 ∷ 1 ∷ 0 ∷ 0 ∷ 0 ∷ 0 ∷ []
unfolding encoding_of kind_of_frame flags_of stream_of payload_of
acknowledgment_octets = refl

good_verdict : (view : View) (pairs : List (ℕ × ℕ)) → settings_fault view pairs ≡ None
    → verdict_of view None (alone (SettingsFrame false pairs))
    ≡ over_limits view.resets view.waiting 9 NoEvent
unfolding verdict_of verdict_by_rules replies_to
good_verdict view pairs good = rw (good, acknowledgment max_frame_size_sent) refl

over_verdict : (resets waiting : ℕ) → nat_lt 262144 (waiting + 9) ≡ true
    → over_limits resets waiting 9 NoEvent ≡ ConnectionFault EnhanceYourCalm
unfolding over_limits
over_verdict resets waiting over = rw over refl

within_verdict : (resets waiting : ℕ) → nat_lt 262144 (waiting + 9) ≡ false
    → over_limits resets waiting 9 NoEvent ≡ NoEvent
unfolding over_limits
within_verdict resets waiting over = rw over refl

pub settings_over : (e : End) (pairs : List (ℕ × ℕ)) (list : List Field)
    → settings_fault (end_view e) pairs ≡ None → 262144 < length e.output.waiting + 9
    → TakesItem e None (alone (SettingsFrame false pairs)) list (Err (Fault EnhanceYourCalm 0)) e
settings_over e pairs list good over = (
  good_verdict (end_view e) pairs good
      ∙ over_verdict e.streams.resets (length e.output.waiting) (lt-ltb _ _ over),
  nothing_opened (end_view e) pairs,
  refl,
)

-- SETTINGS without a fault, for whose acknowledgment memory was refused.
pub settings_lacks : (e : End) (pairs : List (ℕ × ℕ)) (list : List Field) (new : End)
    → settings_fault (end_view e) pairs ≡ None → length e.output.waiting + 9 ≤ 262144 → new ≡ e
    → TakesItem e None (alone (SettingsFrame false pairs)) list (Err OutOfMemory) new
settings_lacks e pairs list new good within same =
    lacks_memory e (SettingsFrame false pairs) list NoEvent new
    (good_verdict (end_view e) pairs good
    ∙ within_verdict e.streams.resets (length e.output.waiting) (le-ltb _ _ within)) refl same

-- Verdicts differ.
no_fault : (code : Code) → NoEvent ≢ ConnectionFault code
no_fault code same = cc

report_no_fault : (code : Code) → Reported ≢ ConnectionFault code
report_no_fault code same = cc

-- The end once SETTINGS are applied, by its parts.
abbrev pub applied : End → (window allowed frame : ℕ) → EncoderState → List ℕ → End
applied e window allowed frame encoder waiting =
    record e {
      reading = record e.reading { started = true };
      streams = record e.streams {
        entries = each_entry (shifted_entry e.peer.initial_window window) e.streams.entries;
      };
      peer = record { initial_window = window; max_streams = allowed; max_frame = frame };
      output = record { encoder = encoder; waiting = waiting };
    }

good_after : (e : End) (pairs : List (ℕ × ℕ)) (window allowed frame : ℕ)
    → verdict_of (end_view e) None (alone (SettingsFrame false pairs)) ≡ NoEvent
    → value_after 4 e.peer.initial_window pairs ≡ window
    → min 1000 (value_after 3 (first_allowed e.reading.started e.peer.max_streams) pairs) ≡ allowed
    → value_after 5 e.peer.max_frame pairs ≡ frame
    → applied e window allowed frame (encoder_after_settings e.output.encoder pairs)
    (e.output.waiting ++ (0 ∷ 0 ∷ 0 ∷ 4 ∷ 1 ∷ 0 ∷ 0 ∷ 0 ∷ 0 ∷ []))
    ≡ after_item e None (alone (SettingsFrame false pairs))
unfolding after_verdict after_ignored
good_after e pairs window allowed frame none shifted taken framed =
    rw (none, ← shifted, ← taken, ← framed, acknowledgment (end_view e).max_payload) refl

no_event : (view : View) (item : Item)
    → [] ≡ events_of view None NoEvent item
unfolding events_of
no_event view item = refl

pub settings_taken : (e : End) (pairs : List (ℕ × ℕ)) (list : List Field)
    (window allowed frame : ℕ)
    → settings_fault (end_view e) pairs ≡ None → length e.output.waiting + 9 ≤ 262144
    → value_after 4 e.peer.initial_window pairs ≡ window
    → min 1000 (value_after 3 (first_allowed e.reading.started e.peer.max_streams) pairs) ≡ allowed
    → value_after 5 e.peer.max_frame pairs ≡ frame
    → ItemTaken e None (alone (SettingsFrame false pairs)) list None
    (applied e window allowed frame (encoder_after_settings e.output.encoder pairs)
    (e.output.waiting ++ (0 ∷ 0 ∷ 0 ∷ 4 ∷ 1 ∷ 0 ∷ 0 ∷ 0 ∷ 0 ∷ [])))
settings_taken e pairs list window allowed frame good within shifted taken framed =
    let none : verdict_of (end_view e) None (alone (SettingsFrame false pairs)) ≡ NoEvent =
    good_verdict (end_view e) pairs good
    ∙ within_verdict e.streams.resets (length e.output.waiting) (le-ltb _ _ within) in
    record {
      goes_on = λ code fails. absurd (no_fault code (sym none ∙ fails));
      after = good_after e pairs window allowed frame none shifted taken framed;
      events = rw none (no_event (end_view e) (alone (SettingsFrame false pairs)));
    }

-- The acknowledgment of own SETTINGS.
ack_verdict : (view : View) (pairs : List (ℕ × ℕ)) (waits : Bool) → view.settings_wait ≡ waits
    → verdict_of view None (alone (SettingsFrame true pairs))
    ≡ (if waits then Reported else NoEvent)
unfolding verdict_of verdict_by_rules replies_to over_limits encoding_of_items
ack_verdict view pairs true is = rw is refl
ack_verdict view pairs false is = rw is refl

ignored_ack : (e : End) (pairs : List (ℕ × ℕ))
    → verdict_of (end_view e) None (alone (SettingsFrame true pairs)) ≡ NoEvent
    → e ≡ after_item e None (alone (SettingsFrame true pairs))
unfolding after_verdict after_ignored
ignored_ack e pairs none = rw none refl

pub ack_ignored : (e : End) (pairs : List (ℕ × ℕ)) (list : List Field) → e.own.awaited ≡ None
    → ItemTaken e None (alone (SettingsFrame true pairs)) list None e
ack_ignored e pairs list is =
    let none : verdict_of (end_view e) None (alone (SettingsFrame true pairs)) ≡ NoEvent =
    ack_verdict (end_view e) pairs false (rw is refl) in
    record {
      goes_on = λ code fails. absurd (no_fault code (sym none ∙ fails));
      after = ignored_ack e pairs none;
      events = rw none (no_event (end_view e) (alone (SettingsFrame true pairs)));
    }

reported_ack : (e : End) (pairs : List (ℕ × ℕ)) (values : Values)
    → verdict_of (end_view e) None (alone (SettingsFrame true pairs)) ≡ Reported
    → e.own.awaited ≡ Some values
    → apply_own_settings e (Some values) ≡ after_item e None (alone (SettingsFrame true pairs))
unfolding after_verdict after_reported
reported_ack e pairs values taken is = rw (taken, is) refl

ack_event : (view : View) (pairs : List (ℕ × ℕ))
    → AckedEvent ∷ [] ≡ events_of view None Reported (alone (SettingsFrame true pairs))
unfolding events_of
ack_event view pairs = refl

pub ack_taken : (e : End) (pairs : List (ℕ × ℕ)) (list : List Field) (values : Values)
    → e.own.awaited ≡ Some values
    → ItemTaken e None (alone (SettingsFrame true pairs)) list (Some Acked)
    (apply_own_settings e (Some values))
ack_taken e pairs list values is =
    let taken : verdict_of (end_view e) None (alone (SettingsFrame true pairs)) ≡ Reported =
    ack_verdict (end_view e) pairs true (rw is refl) in
    record {
      goes_on = λ code fails. absurd (report_no_fault code (sym taken ∙ fails));
      after = reported_ack e pairs values taken is;
      events = rw taken (ack_event (end_view e) pairs);
    }
