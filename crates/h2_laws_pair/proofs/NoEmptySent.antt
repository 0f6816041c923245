-- No DATA that an end writes is empty, unless it has END_STREAM.
use Rattle.std.proofs.lemmas.Bool.{not-false, eqb-false}
use Rattle.h2_spec_log.specs.View.{StreamView}
use Rattle.h2_laws_log.proofs.SentByLogs.{IsSentInvariant, sent_by_logs}
use Rattle.h2_laws_end.proofs.DataItems.{all_of_both}
use Rattle.h2_laws_pair.proofs.Names
use Names.{◌≡◌, ◌≢◌, ◌⊎◌, ℕ, zero, suc, ◌<◌, ◌≤◌, ◌==◌, nat_le, ◌&&◌, not, Bool, true, false, Fail}
use Names.{if◌then◌else◌, List, [], ◌∷◌, ◌++◌, length, take, drop, Option, Some, None, refl, sym}
use Names.{ap, ◌∙◌, arith, length-drop, inl, inr, AllByRecursion, leb-false, and_parts, and_from}
use Names.{eqb-true, eq-eqb, length-take, Data, Settings, Ping, Item, alone, Role, Values, Act}
use Names.{SendData, Release, PutOut, Log, max_payload_sent, log_view, View, Verdict, StreamFault}
use Names.{NoEvent, replies_to, items_of, answer_of, data_count, data_items, data_frames, IsLog}
use Rattle.h2_laws_pair.proofs.HeardSent.{some_payload}
use Rattle.h2_laws_pair.proofs.DataItems.{updates_all}

-- The item is no empty DATA without END_STREAM.
unfoldable pub CarriesNoEmptyData : Item → Type 0
CarriesNoEmptyData (alone (Data stream end octets pad)) = (octets ≢ []) ⊎ (end ≡ true)
CarriesNoEmptyData item = Unit {0}

-- There are octets, or the stream ends.
abbrev IsSome : List ℕ → Bool → Type 0
IsSome octets end = (octets ≢ []) ⊎ (end ≡ true)

-- A list that is longer than none isn't empty.
some_octets : (octets : List ℕ) → 0 < length octets → octets ≢ []
some_octets octets some none =
    let size : length octets ≡ 0 = ap length none in
    omega (arith, size, some)

-- The last DATA, or the first and those after it, by the test whether one is enough.
frames_by : (most id : ℕ) (octets : List ℕ) (end : Bool) (after : List Item) (b : Bool)
    → nat_le (length octets) most ≡ b → 0 < most → IsSome octets end
    → (b ≡ false → AllByRecursion CarriesNoEmptyData after)
    → AllByRecursion CarriesNoEmptyData (if b then alone (Data id end octets None) ∷ []
    else after ++ alone (Data id false (take most octets) None) ∷ [])
unfolding CarriesNoEmptyData
frames_by most id octets end after true test some is there = (is, tt)
frames_by most id octets end after false test some is there =
    let more = leb-false (length octets) most test in
    all_of_both CarriesNoEmptyData after _ (there refl)
    (inl (some_octets (take most octets) (omega (arith, length-take most octets))), tt)

-- Each DATA of some octets has some.
frames_carry : (count most id : ℕ) (octets : List ℕ) (end : Bool) → 0 < most → IsSome octets end
    → AllByRecursion CarriesNoEmptyData (data_frames count most id octets end)
unfolding data_frames
frames_carry zero most id octets end some is = tt
frames_carry (suc count) most id octets end some is =
    frames_by _ _ _ _ _ _ refl some is (λ more. let above = leb-false (length octets) most more in
    frames_carry count most id (drop most octets) end some
    (inl (some_octets (drop most octets) (omega (arith, length-drop most octets)))))

-- What goes of a body is some octets or has END_STREAM, by the test whether none goes.
body_some : (count : ℕ) (octets : List ℕ) (end none : Bool) → (count == 0) ≡ none
    → count ≤ length octets → (none && not (length octets == 0 && end)) ≡ false
    → IsSome (take count octets) (end && count == length octets)
body_some count octets end true test within some =
    let empty = and_parts (length octets == 0) end (not-false _ some) in
    let size = eqb-true (length octets) 0 empty.0 in
    let none = eqb-true count 0 test in
    inr (and_from end (count == length octets) empty.1 (eq-eqb _ _ (none ∙ sym size)))
body_some count octets end false test within some =
    let more = eqb-false count 0 test in
    let size = length-take count octets in
    inl (some_octets (take count octets) (omega (arith, within, size, more)))

-- None are written, by a test, or some.
items_by : (items : List Item) (b : Bool) → (b ≡ false → AllByRecursion CarriesNoEmptyData items)
    → AllByRecursion CarriesNoEmptyData (if b then [] else items)
items_by items true all = tt
items_by items false all = all refl

-- What a call that sends octets writes.
body_carries : (most id : ℕ) (octets : List ℕ) (end : Bool) (count : ℕ) → 0 < most
    → count ≤ length octets
    → AllByRecursion CarriesNoEmptyData (data_items most id octets end count)
unfolding data_items
body_carries most id octets end count some within =
    items_by _ (count == 0 && not (length octets == 0 && end))
    (λ sends. frames_carry (suc count) most id (take count octets) (end && count == length octets)
    some (body_some count octets end (count == 0) refl within sends))

-- No more octets are sent than there are.
count_within : (view : View) (stream : Option StreamView) (count : ℕ)
    → data_count view stream count ≤ count
count_within view None count = omega arith
count_within view (Some stream) count = omega arith

-- No reply is DATA.
replies_carry : (verdict : Verdict) (item : Item)
    → AllByRecursion CarriesNoEmptyData (replies_to verdict item)
unfolding replies_to CarriesNoEmptyData
replies_carry (StreamFault code) item = (tt, tt)
replies_carry NoEvent (alone (Settings false pairs)) = (tt, tt)
replies_carry NoEvent (alone (Ping false octets)) = (tt, tt)
replies_carry verdict item = tt

-- The items of a call that is accepted.
items_carry : (log : Log) (act : Act) → AllByRecursion CarriesNoEmptyData (items_of
    (log_view log) act (answer_of (log_view log) act))
unfolding items_of CarriesNoEmptyData
items_carry log (SendData id octets end) =
    body_carries (max_payload_sent log) id octets end _ (some_payload log.received)
    (count_within (log_view log) ((log_view log).stream id) (length octets))
items_carry log (Release id count) = updates_all CarriesNoEmptyData _ _ _ tt tt
items_carry log (Fail code) = tt
items_carry log (PutOut count) = tt
items_carry log act = (tt, tt)

-- All that is sent carries something.
sends_some : (role : Role) (values : Values)
    → IsSentInvariant role values (AllByRecursion CarriesNoEmptyData)
unfolding CarriesNoEmptyData
sends_some role values = record {
  opening = λ in_range. (tt, tt);
  replied = λ log decoded item verdict replies is.
      all_of_both CarriesNoEmptyData (replies_to verdict item) log.sent
      (replies_carry verdict item) is;
  returned = λ log returns is. (tt, is);
  failed = λ log code last names is. (tt, is);
  sent = λ log act accepted is.
      all_of_both CarriesNoEmptyData _ log.sent (items_carry log act) is;
}

-- Every log.
pub sent_no_empty : (role : Role) (values : Values) (log : Log) → IsLog role values log
    → AllByRecursion CarriesNoEmptyData log.sent
sent_no_empty role values log is =
    sent_by_logs role values (AllByRecursion CarriesNoEmptyData) (sends_some role values) log is
