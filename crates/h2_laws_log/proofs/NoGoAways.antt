-- Replies are no GOAWAY, nor are the items of any call but the one that sends it.
use Rattle.std.proofs.lemmas.List.Folds.{list_any-append}
use Rattle.h2_laws_log.proofs.Names
use Names.{list_any, or_from, WindowUpdate, Settings, Ping, Item, alone, is_goaway, Act, SendData}
use Names.{Release, SendGoAway, ended_in, View, items_of, answer_of, data_items, data_frames}
use Names.{Verdict, NoEvent, replies_to, ◌≡◌, ◌≢◌, ℕ, zero, suc, nat_le, Bool, true, false}
use Names.{if◌then◌else◌, List, [], ◌∷◌, length, drop, refl, ◌∙◌, rules}

-- No reply is a GOAWAY.
pub replies_none : (v : Verdict) (item : Item) → list_any is_goaway (replies_to v item) ≡ false
unfolding replies_to is_goaway
replies_none NoEvent (alone (Settings false pairs)) = refl
replies_none NoEvent (alone (Ping false octets)) = refl
replies_none other item = refl

-- Where neither of two lists has a GOAWAY, the one that a test takes has none.
none_either : (b : Bool) (one other : List Item) → list_any is_goaway one ≡ false
    → list_any is_goaway other ≡ false → list_any is_goaway (if b then one else other) ≡ false
none_either true one other here there = here
none_either false one other here there = there

-- DATA is no GOAWAY.
frames_none : (count most id : ℕ) (octets : List ℕ) (end : Bool)
    → list_any is_goaway (data_frames count most id octets end) ≡ false
unfolding data_frames is_goaway
frames_none zero most id octets end = refl
frames_none (suc count) most id octets end =
    none_either (nat_le (length octets) most) _ _ refl
    (list_any-append is_goaway (data_frames count most id (drop most octets) end) _
    ∙ or_from _ _ (frames_none count most id (drop most octets) end) refl)

data_none : (most id : ℕ) (octets : List ℕ) (end : Bool) (count : ℕ)
    → list_any is_goaway (data_items most id octets end count) ≡ false
unfolding data_items
data_none most id octets end count = search (rules, none_either, frames_none)

-- Nor are the updates of a release, by the test.
release_none : (id count : ℕ) (ended : Bool)
    → list_any is_goaway (alone (WindowUpdate 0 count) ∷
    (if ended then [] else alone (WindowUpdate id count) ∷ [])) ≡ false
unfolding is_goaway
release_none id count true = refl
release_none id count false = refl

-- No other call writes a GOAWAY.
pub items_none : (view : View) (act : Act) → act ≢ SendGoAway
    → list_any is_goaway (items_of view act (answer_of view act)) ≡ false
unfolding items_of is_goaway
items_none view (SendData id octets end) other = data_none view.max_payload id octets end _
items_none view (Release id count) other = release_none id count (ended_in (view.stream id))
items_none view SendGoAway other = absurd (other refl)
items_none view act other = refl
