-- What sending on a stream makes of windows, and of the output that waits.
use Rattle.h2_ends.proofs.Names
use Names.{◌≡◌, ◌≢◌, ℕ, zero, suc, ◌+◌, ◌-◌, ◌≤◌, ◌<◌, ◌==◌, min, nat_le, ◌&&◌, Bool, true, false}
use Names.{if◌then◌else◌, List, [], ◌∷◌, ◌++◌, length, take, drop, None, refl, sym, ap, ◌∙◌, arith}
use Names.{length-drop, ltb-true, and_parts, false_from_ne_true, eqb-true, Field, Data, Item}
use Names.{alone, Refusal, Act, SendFields, SendData, Release, Count, Done, Refused, Log, active}
use Names.{max_payload_sent, log_view, refusal_of, MayAnswer, accepts, lacks, has_room, Writes}
use Names.{call_writes, waiting, output, items_of, with_call, refuses, fails, with_items, not}
use Names.{max_data, window_test, none_holds, data_frames, data_items, total, data_on, data_of}
use Rattle.h2_spec_log.specs.CallRules.{conditions, data_count}
use Rattle.h2_laws_log.proofs.LogViewLemmas.{stream_is_active, count_by_sums}
use Rattle.std.proofs.Common.{pos, length-append, length-take, ◌-ℤ◌, leb-false}
use Rattle.std.specs.Prelude.{int_lt}
use Rattle.h2_frame.specs.Encoding.{payload_of}
use Rattle.h2_spec_log.specs.Windows.{given_on, given_on_connection}
use Rattle.h2_spec_log.proofs.SentPayloads.{most_between}
use Rattle.h2_laws_log.proofs.ItemSizes.{size_of, size-frame, size-append}
use Rattle.h2_laws_pair.proofs.StepCalls.{call_given, call_failed}

-- A call that sends octets is accepted, with the count of the rules.
pub data_accepted : (log : Log) (id : ℕ) (octets : List ℕ) (end : Bool) (n : ℕ)
    → MayAnswer log (SendData id octets end) (Count n)
    → (refusal_of (log_view log) (SendData id octets end) ≡ None)
    × (n ≡ data_count (log_view log) ((log_view log).stream id) (length octets))
data_accepted log id octets end n (accepts none is) = (none, cc)
data_accepted log id octets end n (refuses refusal holds is) = cc
data_accepted log id octets end n (lacks none may is) = cc
data_accepted log id octets end n (fails none may is) = cc

-- It is on an active stream.
pub data_active : (log : Log) (id : ℕ) (octets : List ℕ) (end : Bool) (n : ℕ)
    → MayAnswer log (SendData id octets end) (Count n) → active log id ≡ true
unfolding conditions
data_active log id octets end n may =
    stream_is_active log id (none_holds _ (data_accepted log id octets end n may).0).1.0

-- It sends no more octets than it was given.
pub data_within : (log : Log) (id : ℕ) (octets : List ℕ) (end : Bool) (n : ℕ)
    → MayAnswer log (SendData id octets end) (Count n) → n ≤ length octets
data_within log id octets end n may =
    let count = count_by_sums log id (length octets) (data_active log id octets end n may) in
    let is = (data_accepted log id octets end n may).1 in
    omega (arith, is, count)

-- Where none of some octets goes, a window is used up.
no_room_by : (count given on given_all all : ℕ) → count ≢ 0
    → 0 ≡ min count (min (min (given - on) (given_all - all)) max_data)
    → (int_lt (pos 0) (pos given -ℤ pos on) && int_lt (pos 0) (pos given_all -ℤ pos all)) ≡ false
no_room_by count given on given_all all some is =
    false_from_ne_true _ (λ both.
    let parts = and_parts _ _ both in
    let here = ltb-true on given (sym (window_test given on) ∙ parts.0) in
    let there = ltb-true all given_all (sym (window_test given_all all) ∙ parts.1) in
    some (omega (arith, here, there, is)))

-- Where a call sends none of some octets, the stream has no room.
pub none_without_room : (log : Log) (id : ℕ) (octets : List ℕ) (end : Bool)
    → MayAnswer log (SendData id octets end) (Count 0) → length octets ≢ 0
    → has_room log id ≡ false
none_without_room log id octets end may some =
    no_room_by (length octets) (given_on id log.received) (total (data_on id) log.sent)
    (given_on_connection log.received) (total data_of log.sent) some
    ((data_accepted log id octets end 0 may).1
    ∙ count_by_sums log id (length octets) (data_active log id octets end 0 may))

-- DATA takes at least its octets, by the test whether one is enough, with whichever greatest
-- payload it is written.
frames_size_by : (by most id : ℕ) (octets : List ℕ) (end b : Bool) (others : List Item)
    → (b ≡ false → length (drop most octets) ≤ size_of by others)
    → length octets ≤ size_of by (if b then alone (Data id end octets None) ∷ []
    else others ++ alone (Data id false (take most octets) None) ∷ [])
unfolding payload_of
frames_size_by by most id octets end true others many =
    omega (arith, size-frame by (Data id end octets None))
frames_size_by by most id octets end false others many =
    omega (
      arith,
      many refl,
      length-drop most octets,
      length-take most octets,
      size-append by others (alone (Data id false (take most octets) None) ∷ []),
      size-frame by (Data id false (take most octets) None),
    )

frames_size : (by count most id : ℕ) (octets : List ℕ) (end : Bool) → 0 < most
    → length octets < count → length octets ≤ size_of by (data_frames count most id octets end)
unfolding data_frames
frames_size by zero most id octets end some enough = absurd (omega (arith, enough))
frames_size by (suc count) most id octets end some enough =
    frames_size_by by most id octets end (nat_le (length octets) most)
    (data_frames count most id (drop most octets) end)
    (λ more. let above = leb-false (length octets) most more in
    frames_size by count most id (drop most octets) end some
    (omega (arith, length-drop most octets, above, enough, some)))

-- So does a body, of which so many octets are sent.
body_size_by : (by count : ℕ) (items : List Item) (b : Bool) → (b ≡ true → count ≡ 0)
    → count ≤ size_of by items → count ≤ size_of by (if b then [] else items)
body_size_by by count items true none many = omega (arith, none refl)
body_size_by by count items false none many = many

body_size : (by most id : ℕ) (octets : List ℕ) (end : Bool) (count : ℕ) → 0 < most
    → count ≤ length octets → count ≤ size_of by (data_items most id octets end count)
unfolding data_items
body_size by most id octets end count some within =
    body_size_by by count _ (count == 0 && not (length octets == 0 && end))
    (λ none. eqb-true count 0 (and_parts _ _ none).0)
    (omega (
      arith,
      within,
      length-take count octets,
      frames_size by (suc count) most id (take count octets) (end && count == length octets) some
          (omega (arith, length-take count octets)),
    ))

-- What is written waits.
waits_by : (log after : Log) (items : List Item) → log.given ≤ length log.written
    → after.given ≡ log.given → Writes log after items
    → waiting log + size_of (max_payload_sent after) items ≤ waiting after
unfolding waiting output
waits_by log after items within given writes =
    let most = max_payload_sent after in
    let size = size-append most writes.credit items in
    let octets : length after.written
    ≡ length log.written + size_of most (writes.credit ++ items) =
    ap length writes.written ∙ length-append log.written _ in
    omega (arith, within, given, size, octets)

-- The octets that a call sends wait.
pub data_waits : (log : Log) (id : ℕ) (octets : List ℕ) (end : Bool) (n : ℕ)
    → log.given ≤ length log.written → MayAnswer log (SendData id octets end) (Count n)
    → waiting log + n ≤ waiting (with_call log (SendData id octets end) (Count n))
unfolding with_call items_of
data_waits log id octets end n within may =
    let act = SendData id octets end in
    let after = with_items log act (Count n) in
    let least = (most_between log.received).0 in
    let writes = call_writes log act (Count n) (ap Count (data_accepted log id octets end n may).1)
    (λ other code wrong. cc) (λ code wrong. cc) in
    let waits = waits_by log after (items_of (log_view log) act (Count n)) within
    (call_given log act (Count n) (λ other is. cc)) writes in
    let size = body_size (max_payload_sent after) (max_payload_sent log) id octets end n
    (omega (arith, least)) (data_within log id octets end n may) in
    omega (arith, waits, size)

-- After fields no less waits.
pub fields_wait : (log : Log) (id : ℕ) (fields : List Field) (end : Bool)
    → log.given ≤ length log.written
    → waiting log ≤ waiting (with_call log (SendFields id fields end) Done)
unfolding with_call
fields_wait log id fields end within =
    let act = SendFields id fields end in
    let writes = call_writes log act Done refl (λ other code wrong. cc) (λ code wrong. cc) in
    let waits = waits_by log (with_items log act Done) (items_of (log_view log) act Done)
    within (call_given log act Done (λ other is. cc)) writes in
    omega (arith, waits)

-- After a refused call as much waits, and the connection is as up as before.
pub refused_waits : (log : Log) (act : Act) (refusal : Refusal)
    → waiting (with_call log act (Refused refusal)) ≡ waiting log
unfolding with_call waiting output
refused_waits log act refusal = refl

pub refused_failed : (log : Log) (act : Act) (refusal : Refusal)
    → (with_call log act (Refused refusal)).failed ≡ log.failed
unfolding with_call
refused_failed log act refusal = refl

-- Nothing that these calls write makes it fail.
pub data_failed : (log : Log) (id : ℕ) (octets : List ℕ) (end : Bool) (n : ℕ)
    → (with_call log (SendData id octets end) (Count n)).failed ≡ log.failed
data_failed log id octets end n =
    call_failed log (SendData id octets end) (Count n) (λ other code is. cc) (λ code is. cc)
    (λ is. cc)

pub fields_failed : (log : Log) (id : ℕ) (fields : List Field) (end : Bool)
    → (with_call log (SendFields id fields end) Done).failed ≡ log.failed
fields_failed log id fields end =
    call_failed log (SendFields id fields end) Done (λ other code is. cc) (λ code is. cc)
    (λ is. cc)

pub release_failed : (log : Log) (id count : ℕ)
    → (with_call log (Release id count) Done).failed ≡ log.failed
release_failed log id count =
    call_failed log (Release id count) Done (λ other code is. cc) (λ code is. cc) (λ is. cc)
