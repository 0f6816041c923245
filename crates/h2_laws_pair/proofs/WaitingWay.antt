-- Of replies at most one acknowledgment, one answer to a PING and 1,000 RST_STREAM are under way.
use Rattle.h2_laws_log.proofs.SettingsLists.{settings_or, count_next, settings_one, count_none}
use Rattle.std.proofs.Common.{◌*◌}
use Rattle.h2_frame.specs.declared.owned.Unwritable.TheVariants.{TooLong, BadStream, BadValue}
use Rattle.h2_frame.specs.Encoding.{refusal, has_good_values}
use Rattle.h2_laws_log.proofs.ItemSizes.{size_of, size_by, size_by-more, size-ack, size-ping}
use Rattle.h2_laws_log.proofs.ItemSizes.{size-reset}
use Rattle.h2_laws_pair.proofs.Names
use Names.{◌≡◌, ℕ, ◌+◌, ◌≤◌, not, if◌then◌else◌, Bool, true, false, List, [], ◌∷◌, ◌++◌, length}
use Names.{Some, None, refl, arith, inl, inr, eqb-true, AllByRecursion, Reset, Settings, Ping, Item}
use Names.{alone, Role, total, one_ping, one_answer, one_reset, max_frame_size_sent, settings_count}
use Names.{one_settings, one_ack, AllowedHistory, Allowed, starts, reads, writes, IsSendable}
use Rattle.h2_laws_pair.proofs.WaitingReplies.{is_reply, reply_size, replies_left}

-- No refusal of writing is no refusal for values, by the tests.
good_by : (long stream good : Bool)
    → (if long then Some TooLong else if not stream then Some BadStream
    else if not good then Some BadValue else None) ≡ None → good ≡ true
good_by false true true none = refl
good_by long stream good none = cc

-- An acknowledgment that can be sent has no pairs.
ack_empty : (pairs : List (ℕ × ℕ)) → refusal (Settings true pairs) ≡ None → pairs ≡ []
unfolding refusal has_good_values
ack_empty [] none = refl
ack_empty (pair ∷ pairs) none =
    let same : length (pair ∷ pairs) ≡ 0 = eqb-true _ 0 (good_by _ _ _ none) in
    absurd (omega (arith, same))

-- the octets of replies, by their number
abbrev pub octets_by_kind : (acks answers resets : ℕ) → ℕ
octets_by_kind acks answers resets = 9 * acks + 17 * answers + 13 * resets

-- An acknowledgment.
ack_size : (most : ℕ) (pairs : List (ℕ × ℕ)) → pairs ≡ []
    → size_of most (alone (Settings true pairs) ∷ []) ≡ 9
ack_size most pairs none = rw none (size-ack most)

-- A reply has no more.
kind_size : (most : ℕ) (item : Item) → IsSendable max_frame_size_sent item
    → reply_size most item ≤ octets_by_kind (one_ack item) (one_answer item) (one_reset item)
unfolding is_reply one_ack one_answer one_reset
kind_size most (alone (Reset stream code)) can = omega (arith, size-reset most stream code)
kind_size most (alone (Settings true pairs)) can =
    omega (arith, ack_size most pairs (ack_empty pairs can.1))
kind_size most (alone (Ping true octets)) can = omega (arith, size-ping most true octets, can.2)
kind_size most item can = omega arith

-- What is left of the replies is no more than those of the newer items and what is left of the
-- older ones.
pub left_of_both : (before given : ℕ) (news olds : List ℕ) (newer older : List Item)
    → length news ≡ length newer → AllByRecursion (IsSendable max_frame_size_sent) newer
    → replies_left before given (news ++ olds) (newer ++ older)
    ≤ octets_by_kind (total one_ack newer) (total one_answer newer) (total one_reset newer)
    + replies_left before given olds older
unfolding total
left_of_both before given [] olds [] older each_one can = omega arith
left_of_both before given (most ∷ news) olds (item ∷ newer) older each_one can =
    let left = left_of_both before given news olds newer older (omega arith) can.1 in
    let one = kind_size most item can.0 in omega arith
left_of_both before given news olds newer older each_one can = absurd (omega (arith, each_one))

-- Nothing is left of items that were given out.
pub none_left : (before given : ℕ) (payloads : List ℕ) (items : List Item)
    → before + size_by payloads items ≤ given → replies_left before given payloads items ≡ 0
none_left before given (most ∷ payloads) (item ∷ items) fits =
    let sum = size_by-more most (item ∷ []) items payloads in
    omega (arith, sum, fits, none_left before given payloads items (omega (arith, sum, fits)))
none_left before given payloads items fits = refl

-- An end has one SETTINGS more, at most, than were acknowledged.
pub settings_wait : (role : Role) (received sent : List Item) → AllowedHistory role received sent
    → settings_count sent ≤ total one_ack received + 1
unfolding total
settings_wait role _ _ (starts values ok) = omega (arith, count_next, count_none, settings_one)
settings_wait role _ sent (reads {received = received} item history) =
    omega (arith, settings_wait role received sent history)
settings_wait role received _ (writes {sent = sent} item history allowed) =
    elim (settings_or item) [
      | inl (pairs, is) ↦
          let may = (rw is at allowed).1 in
          let one : one_settings item ≡ 1 = rw is (settings_one pairs) in
          omega (arith, count_next item sent, may.none_waits, settings_one pairs, one)
      | inr none ↦ omega (arith, count_next item sent, settings_wait role received sent history)
    ]

-- And one PING more than were answered, by the item.
ping_item : (role : Role) (received sent : List Item) (item : Item)
    → Allowed role received sent item → total one_ping sent ≤ total one_answer received + 1
    → one_ping item + total one_ping sent ≤ total one_answer received + 1
unfolding one_ping
ping_item role received sent (alone (Ping false octets)) allowed few = omega (arith, allowed.1)
ping_item role received sent item allowed few = omega (arith, few)

pub pings_wait : (role : Role) (received sent : List Item) → AllowedHistory role received sent
    → total one_ping sent ≤ total one_answer received + 1
unfolding total one_ping
pings_wait role _ _ (starts values ok) = omega arith
pings_wait role _ sent (reads {received = received} item history) =
    omega (arith, pings_wait role received sent history)
pings_wait role received _ (writes {sent = sent} item history allowed) =
    ping_item role received sent item allowed (pings_wait role received sent history)
