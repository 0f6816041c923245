-- Octets that encode a frame have no fault, and octets without fault encode one.
use Rattle.std.proofs.Common.{◌≡◌, ℕ, ◌+◌, ◌-◌, ◌%◌, ◌<◌, ◌≤◌, ◌==◌, nat_lt, nat_le, ◌&&◌}
use Rattle.std.proofs.Common.{if◌then◌else◌, Bool, true, false, List, [], length, take, drop}
use Rattle.std.proofs.Common.{slice_index, Option, None, Some, refl, sym, ◌∙◌, arith, length-drop}
use Rattle.std.proofs.Common.{length-take, rules}
use Rattle.std.proofs.lemmas.List.{take-append-drop}
use Rattle.std.proofs.lemmas.Bool.{ltb-true, leb-true, eqb-true}
use Rattle.h2_frame.specs.declared.kind.Kind.{Kind}
use Rattle.h2_frame.specs.declared.kind.Kind.TheVariants as kinds
use Rattle.h2_frame.specs.declared.heads.Head.{Head}
use Rattle.h2_frame.specs.Heads.{head_of, has_ack, has_end_stream, has_end_headers, has_padding}
use Rattle.h2_frame.specs.Heads.{has_priority, octets_of_flags, fits_stream, fits_length}
use Rattle.h2_frame.specs.Heads.{is_push_promise, form_fault}
use Rattle.h2_frame.specs.Pairs.{pairs_of}
use Rattle.h2_frame.specs.Frames.{Frame, Data, Headers, Priority, Reset, Settings, Ping, GoAway}
use Rattle.h2_frame.specs.Frames.{WindowUpdate, Continuation, Unknown, IsPadded, IsPrioritized}
use Rattle.h2_frame.specs.Frames.{Carries, Encodes, pad_length, pads_too_much, payload_fault}
use Rattle.h2_frame.proofs.PaddingLemmas.{padded_payload}
use Rattle.std.proofs.lemmas.Grind.{common_steps}

-- A form of which each test passes has no fault.
form_passes : (head : Head) → is_push_promise head.kind ≡ false
    → fits_stream head.kind head.stream ≡ true
    → fits_length head.kind head.flags head.length ≡ true → form_fault head ≡ None
unfolding form_fault
form_passes head push on long = rw (push, on, long) refl

-- Each test of a form without fault passes.
form_passed : (head : Head) → form_fault head ≡ None
    → (is_push_promise head.kind ≡ false) × (fits_stream head.kind head.stream ≡ true)
    × (fits_length head.kind head.flags head.length ≡ true)
unfolding form_fault
form_passed head none = search rules

-- What the flags of a padded payload ask for, and its body, are within its length.
padded_count : (padded : Bool) (payload body : List ℕ) (pad : Option ℕ)
    → IsPadded padded payload body pad
    → octets_of_flags padded false + length body ≤ length payload
padded_count padded payload body pad is = grind (arith, common_steps)

-- The priority of a body and its fragment are within its length.
prioritized_count : (prioritized : Bool) (body fragment : List ℕ) (priority : Option (List ℕ))
    → IsPrioritized prioritized body fragment priority
    → octets_of_flags false prioritized + length fragment ≤ length body
prioritized_count prioritized body fragment priority is = grind (arith, common_steps)

-- The pad length of padded DATA is less than the payload's length.
data_pads_little : (padded : Bool) (payload body : List ℕ) (pad : Option ℕ)
    → IsPadded padded payload body pad
    → padded && nat_le (length payload) (pad_length payload) ≡ false
data_pads_little padded payload body pad is = grind (arith, common_steps)

-- A payload that carries a frame makes a form without fault.
form_sound : (frame : Frame) (head : Head) (payload : List ℕ) → length payload ≡ head.length
    → Carries head payload frame → form_fault head ≡ None
unfolding fits_stream fits_length
form_sound frame head payload long is =
    grind (arith, common_steps, padded_count, form_passes, prioritized_count)

-- A payload whose pad length isn't too large has no fault.
pads_passes : (head : Head) (payload : List ℕ)
    → pads_too_much head.kind head.flags payload ≡ false → payload_fault head payload ≡ None
unfolding payload_fault
pads_passes head payload little = rw little refl

-- A payload that carries a frame has no fault.
payload_sound : (frame : Frame) (head : Head) (payload : List ℕ) → Carries head payload frame
    → payload_fault head payload ≡ None
unfolding pads_too_much
payload_sound frame head payload carried =
    grind (arith, common_steps, pads_passes, data_pads_little, prioritized_count)

-- The payload of a frame is as long as the head says.
length-payload : (octets : List ℕ) → length octets ≡ 9 + (head_of octets).length
    → length (drop 9 octets) ≡ (head_of octets).length
length-payload octets complete = simp length-drop (omega arith)

-- The head of a frame has no fault of its form.
pub head_sound : (frame : Frame) (octets : List ℕ) → Encodes frame octets
    → form_fault (head_of octets) ≡ None
head_sound frame octets encodes = grind (arith, common_steps, form_sound, length-payload)

-- The payload of a frame has no fault.
pub payload_of_frame_sound : (frame : Frame) (octets : List ℕ) → Encodes frame octets
    → payload_fault (head_of octets) (drop 9 octets) ≡ None
payload_of_frame_sound frame octets encodes = grind (arith, common_steps, payload_sound)

-- A payload whose pad length is within it has a body.
unpad : (padded : Bool) (payload : List ℕ)
    → (padded ≡ true → 1 + slice_index payload 0 ≤ length payload)
    → (body : List ℕ) × (pad : Option ℕ) × IsPadded padded payload body pad
unpad false payload enough = (payload, None, (refl, refl))
unpad true payload enough =
    let (padding, counted, joined) = padded_payload payload (enough refl) in (
      take (length payload - slice_index payload 0 - 1) (drop 1 payload),
      Some (slice_index payload 0),
      (refl, padding, counted, joined),
    )

-- A body with the octets of its priority has a fragment.
unprioritize : (prioritized : Bool) (body : List ℕ)
    → octets_of_flags false prioritized ≤ length body
    → (fragment : List ℕ) × (priority : Option (List ℕ))
    × IsPrioritized prioritized body fragment priority
unprioritize false body enough = (body, None, (refl, refl))
unprioritize true body enough = (
  drop 5 body,
  Some (take 5 body),
  (refl, simp length-take (omega arith), sym (take-append-drop 5 body)),
)

-- SETTINGS whose length fits are complete pairs, and none in an acknowledgment.
settings_complete : (ack : Bool) (payload : List ℕ) (count : ℕ) → length payload ≡ count
    → (if ack then count == 0 else count % 6 == 0) ≡ true
    → (length payload % 6 ≡ 0) × (ack ≡ true → payload ≡ [])
settings_complete ack payload count long fits = grind (arith, common_steps)

-- The payload after this head carries a frame.
abbrev Carried : Head → List ℕ → Type 0
Carried head payload = (frame : Frame) × Carries head payload frame

-- DATA without fault are a frame.
data_carried : (head : Head) (payload : List ℕ) → length payload ≡ head.length
    → head.kind ≡ kinds.Data → 0 < head.stream
    → has_padding head.flags && nat_le (length payload) (pad_length payload) ≡ false
    → Carried head payload
data_carried head payload long kind some little =
    let (body, pad, padded) = unpad (has_padding head.flags) payload (search rules) in
    (Data head.stream (has_end_stream head.flags) body pad, (kind, refl, some, refl, padded))

-- The body of HEADERS without fault has the octets of its priority.
body_long : (padded prioritized : Bool) (payload body : List ℕ) (pad : Option ℕ)
    → IsPadded padded payload body pad
    → octets_of_flags padded prioritized ≤ length payload
    → padded
    && nat_lt (length payload - octets_of_flags true prioritized) (pad_length payload) ≡ false
    → octets_of_flags false prioritized ≤ length body
body_long padded prioritized payload body pad is enough little = grind (arith, common_steps)

-- HEADERS without fault are a frame.
headers_carried : (head : Head) (payload : List ℕ) → length payload ≡ head.length
    → head.kind ≡ kinds.Headers → 0 < head.stream
    → octets_of_flags (has_padding head.flags) (has_priority head.flags) ≤ length payload
    → has_padding head.flags
    && nat_lt (length payload - octets_of_flags true (has_priority head.flags))
    (pad_length payload) ≡ false
    → Carried head payload
headers_carried head payload long kind some enough little =
    let (body, pad, padded) = unpad (has_padding head.flags) payload (search rules) in
    let (fragment, priority, prioritized) = unprioritize (has_priority head.flags) body
    (body_long (has_padding head.flags) (has_priority head.flags) payload body pad padded enough
    little) in (
      Headers head.stream (has_end_stream head.flags) (has_end_headers head.flags) fragment pad
          priority,
      (kind, refl, some, refl, refl, body, padded, prioritized),
    )

-- A payload without fault, after a head of this kind without fault, carries a frame.
carried : (kind : Kind) (head : Head) (payload : List ℕ) → length payload ≡ head.length
    → head.kind ≡ kind → is_push_promise kind ≡ false → fits_stream kind head.stream ≡ true
    → fits_length kind head.flags head.length ≡ true
    → pads_too_much kind head.flags payload ≡ false → Carried head payload
unfolding fits_stream fits_length pads_too_much
carried kinds.Data head payload long kind push on fits little =
    data_carried head payload long kind (ltb-true 0 head.stream on) little
carried kinds.Headers head payload long kind push on fits little =
    let enough = leb-true (octets_of_flags (has_padding head.flags) (has_priority head.flags))
    head.length fits in
    headers_carried head payload long kind (ltb-true 0 head.stream on) (omega (arith, enough))
    little
carried kinds.Priority head payload long kind push on fits little = (
  Priority head.stream payload,
  (kind, refl, ltb-true 0 head.stream on, long ∙ eqb-true head.length 5 fits, refl),
)
carried kinds.RstStream head payload long kind push on fits little = (
  Reset head.stream _,
  (kind, refl, ltb-true 0 head.stream on, long ∙ eqb-true head.length 4 fits, refl),
)
carried kinds.Settings head payload long kind push on fits little =
    let complete = settings_complete (has_ack head.flags) payload head.length long fits in (
      Settings (has_ack head.flags) (pairs_of payload),
      (kind, eqb-true head.stream 0 on, refl, complete.0, complete.1, refl),
    )
carried kinds.PushPromise head payload long kind push on fits little = (cc)
carried kinds.Ping head payload long kind push on fits little = (
  Ping (has_ack head.flags) payload,
  (kind, eqb-true head.stream 0 on, refl, long ∙ eqb-true head.length 8 fits, refl),
)
carried kinds.GoAway head payload long kind push on fits little =
    let eight = leb-true 8 head.length fits in (
      GoAway _ _ (drop 8 payload),
      (kind, eqb-true head.stream 0 on, omega (arith, eight), refl, refl, refl),
    )
carried kinds.WindowUpdate head payload long kind push on fits little = (
  WindowUpdate head.stream _,
  (kind, refl, long ∙ eqb-true head.length 4 fits, refl),
)
carried kinds.Continuation head payload long kind push on fits little = (
  Continuation head.stream (has_end_headers head.flags) payload,
  (kind, refl, ltb-true 0 head.stream on, refl, refl),
)
carried (kinds.Unknown number) head payload long kind push on fits little =
    (Unknown number head.flags head.stream payload, (kind, refl, refl, refl))

-- The pad length of a payload without fault isn't too large.
pads_of_sound : (head : Head) (payload : List ℕ) → payload_fault head payload ≡ None
    → pads_too_much head.kind head.flags payload ≡ false
unfolding payload_fault
pads_of_sound head payload sound = search rules

-- Octets without fault, as many as their head asks for, encode a frame.
pub sound_octets_encode : (octets : List ℕ) → length octets ≡ 9 + (head_of octets).length
    → form_fault (head_of octets) ≡ None
    → payload_fault (head_of octets) (drop 9 octets) ≡ None
    → (frame : Frame) × Encodes frame octets
sound_octets_encode octets complete form payload =
    let (push, on, fits) = form_passed (head_of octets) form in
    let (frame, is) = carried (head_of octets).kind (head_of octets) (drop 9 octets)
    (length-payload octets complete) refl push on fits
    (pads_of_sound (head_of octets) (drop 9 octets) payload) in
    (frame, record { complete = complete; carried = is })
