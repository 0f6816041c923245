-- What the items count that a step writes, by what it reads.
use Rattle.std.proofs.Common.{◌≡◌, ◌≢◌, inl, inr, ℕ, zero, suc, ◌+◌, ◌*◌, ◌≤◌, ◌<◌, ◌==◌}
use Rattle.std.proofs.Common.{◌&&◌, nat_le, Bool, true, false, if◌then◌else◌, List, [], ◌∷◌}
use Rattle.std.proofs.Common.{◌++◌, length, take, drop, None, refl}
use Rattle.std.proofs.Common.{arith, length-take, length-drop, leb-false}
use Rattle.std.proofs.lemmas.Bool.{ne_eqb}
use Rattle.std.specs.List.{AllByRecursion}
use Rattle.h2_frame.specs.Frames.{Data, Settings, Ping, WindowUpdate}
use Rattle.h2_frame.specs.Encoding.{payload_of}
use Rattle.h2_frame.specs.declared.code.Code.{Code}
use Rattle.h2_block.specs.Grouping.{Item, alone}
use Rattle.h2_spec_log.specs.CallRules.{data_frames, data_items}
use Rattle.h2_spec_log.specs.ItemRules.{replies_to}
use Rattle.h2_spec_log.specs.Items.{data_of, one_ping, increment_on, total}
use Rattle.h2_spec_log.specs.Settings.{one_settings}
use Rattle.h2_spec_log.specs.Verdicts.{Verdict, ConnectionFault, StreamFault, NoEvent, Reported}
use Rattle.h2_laws_end.specs.Written.{IsCredit}
use Rattle.h2_laws_log.proofs.WindowsOfTwoEnds.{total-append}
use Rattle.h2_laws_quiet.specs.Work.{one_to_answer, work_of_item}

-- A WINDOW_UPDATE is of some octets.
unfoldable pub IsSomeUpdate : Item → Type 0
IsSomeUpdate (alone (WindowUpdate stream increment)) = increment ≢ 0
IsSomeUpdate item = Unit {0}

-- DATA of some octets counts no more than 3 for each, in however many frames.
frames_by : (count : ℕ) (one : Item) (last : Item) (others : List Item) (b : Bool) (n m : ℕ)
    → (b ≡ true → work_of_item one ≤ 3 * n) → (b ≡ false → total work_of_item others
    + work_of_item last ≤ 3 * n)
    → total work_of_item (if b then one ∷ [] else others ++ last ∷ []) ≤ 3 * n
unfolding total
frames_by count one last others true n m here there = omega (arith, here refl)
frames_by count one last others false n m here there =
    omega (arith, there refl, total-append work_of_item others (last ∷ []))

data_work : (id : ℕ) (octets : List ℕ) (end : Bool)
    → work_of_item (alone (Data id end octets None)) ≡ 1 + 2 * length octets
unfolding one_settings one_ping data_of payload_of
data_work id octets end = omega arith

frames_work : (count most id : ℕ) (octets : List ℕ) (end : Bool) → 0 < most → 0 < length octets
    → length octets < count
    → total work_of_item (data_frames count most id octets end) ≤ 3 * length octets
unfolding data_frames
frames_work zero most id octets end some more enough = absurd (omega (arith, enough))
frames_work (suc count) most id octets end some more enough = frames_by count
    (alone (Data id end octets None)) (alone (Data id false (take most octets) None))
    (data_frames count most id (drop most octets) end) (nat_le (length octets) most)
    (length octets) most
    (λ here. omega (arith, data_work id octets end, more))
    (λ there.
    let above = leb-false (length octets) most there in
    let rest = length-drop most octets in
    let first = length-take most octets in
    let others = frames_work count most id (drop most octets) end some
    (omega (arith, rest, above)) (omega (arith, rest, above, enough, some)) in
    omega (arith, others, data_work id (take most octets) false, rest, first, above, some))

-- So does a body, of which so many octets are sent.
pub body_work : (most id : ℕ) (octets : List ℕ) (end : Bool) (n : ℕ) → 0 < most
    → length octets ≢ 0 → n ≤ length octets
    → total work_of_item (data_items most id octets end n) ≤ 3 * n
unfolding data_items total
body_work most id octets end zero some more within =
    rw (ne_eqb (length octets) 0 more) (omega arith)
body_work most id octets end (suc n) some more within =
    rw (ne_eqb (suc n) 0 (λ is. omega (arith, is)))
    (let first = length-take (suc n) octets in
    let frames = frames_work (suc (suc n)) most id (take (suc n) octets)
    (end && suc n == length octets) some (omega (arith, first, within)) (omega (arith, first)) in
    omega (arith, frames, first, within))

-- What is replied to an item counts no more than 1 where it was asked for, unless it resets a
-- stream.
pub replies_work : (verdict : Verdict) (item : Item)
    → ((code : Code) → verdict ≢ StreamFault code)
    → total work_of_item (replies_to verdict item) ≤ one_to_answer item
unfolding replies_to total one_settings one_ping data_of
replies_work (ConnectionFault code) item none = omega arith
replies_work (StreamFault code) item none = absurd (none code refl)
replies_work NoEvent (alone (Settings false pairs)) none = omega arith
replies_work NoEvent (alone (Ping false octets)) none = omega arith
replies_work NoEvent item none = omega arith
replies_work Reported item none = omega arith

-- and returns nothing of the connection's window.
pub replies_return : (verdict : Verdict) (item : Item)
    → ((code : Code) → verdict ≢ StreamFault code)
    → total (increment_on 0) (replies_to verdict item) ≡ 0
unfolding replies_to total increment_on
replies_return (ConnectionFault code) item none = refl
replies_return (StreamFault code) item none = absurd (none code refl)
replies_return NoEvent (alone (Settings false pairs)) none = refl
replies_return NoEvent (alone (Ping false octets)) none = refl
replies_return NoEvent item none = refl
replies_return Reported item none = refl

-- Credit that is returned counts less than it returns.
pub credit_work : (items : List Item) → IsCredit items → AllByRecursion IsSomeUpdate items
    → total work_of_item items + total (increment_on 0) items
    ≤ 2 * total (increment_on 0) items
unfolding total one_settings one_ping data_of increment_on IsSomeUpdate
credit_work items (inl none) some = rw none (omega arith)
credit_work items (inr (count, is)) some =
    rw is (let more = (rw is at some).0 in omega (arith, more))

-- What an end writes as it takes octets: an acknowledgment of SETTINGS, the answer to PING, or
-- credit of the connection.
unfoldable pub IsAnswerItem : Item → Type 0
IsAnswerItem (alone (Settings ack pairs)) = ack ≡ true
IsAnswerItem (alone (Ping ack octets)) = ack ≡ true
IsAnswerItem (alone (WindowUpdate stream increment)) = stream ≡ 0
IsAnswerItem item = ⊥

-- What is replied to an item is such, unless it resets a stream.
pub replies_answer : (verdict : Verdict) (item : Item)
    → ((code : Code) → verdict ≢ StreamFault code)
    → AllByRecursion IsAnswerItem (replies_to verdict item)
unfolding replies_to IsAnswerItem
replies_answer (ConnectionFault code) item none = tt
replies_answer (StreamFault code) item none = absurd (none code refl)
replies_answer NoEvent (alone (Settings false pairs)) none = (refl, tt)
replies_answer NoEvent (alone (Ping false octets)) none = (refl, tt)
replies_answer NoEvent item none = tt
replies_answer Reported item none = tt

-- So is credit.
pub credit_answers : (items : List Item) → IsCredit items → AllByRecursion IsAnswerItem items
unfolding IsAnswerItem
credit_answers items (inl none) = rw none tt
credit_answers items (inr (count, is)) = rw is (refl, tt)
