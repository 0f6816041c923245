-- Where the greatest payload of an item that was written comes from.
use Rattle.std.proofs.Common.{◌≡◌, ◌≤◌, ℕ, List, [], ◌∷◌, ◌++◌, length, refl, arith}
use Rattle.h2_spec_log.proofs.SentPayloads.{most_between}
use Rattle.h2_laws_log.proofs.Names.{ap, AllByRecursion, Item, total, one_ack, settings_count}
use Rattle.h2_laws_log.proofs.Names.{max_frame_size_sent, max_payload_sent_by, rules}
use Rattle.h2_laws_log.specs.Payloads.{PayloadHistory, starts, reads, writes}

-- A front of what was read, with as many SETTINGS at least as were acknowledged before the item.
pub record PayloadOrigin (received before : List Item) (payload : ℕ) : Type 0 where
  pub unread : List Item
  pub read : List Item
  pub front : received ≡ unread ++ read
  pub acknowledged : total one_ack before ≤ settings_count read
  pub in_force : payload ≡ max_payload_sent_by read

-- The greatest payload of each item is the one in force at a front of what was read.
pub payload_origin : (received sent after before : List Item) (item : Item)
    (payloads newer older : List ℕ) (payload : ℕ) → PayloadHistory received sent payloads
    → sent ≡ after ++ item ∷ before → payloads ≡ newer ++ payload ∷ older
    → length newer ≡ length after → PayloadOrigin received before payload
unfolding total
payload_origin _ _ [] before item _ newer older payload starts line same long = absurd (cc)
payload_origin _ _ (first ∷ after) before item _ newer older payload starts line same long =
    absurd (cc)
payload_origin _ sent after before item payloads newer older payload
    (reads more {received = received} history) line same long =
    let from = payload_origin received sent after before item payloads newer older payload history
    line same long in
    record {
      unread = more ∷ from.unread;
      read = from.read;
      front = ap (λ (items : List Item). more ∷ items) from.front;
      acknowledged = from.acknowledged;
      in_force = from.in_force;
    }
payload_origin received _ [] before item _ [] older payload
    (writes last {sent = sent} history all) line same long = search rules
payload_origin received _ [] before item _ (other ∷ newer) older payload
    (writes last history all) line same long = absurd (omega arith)
payload_origin received _ (first ∷ after) before item _ [] older payload
    (writes last history all) line same long = absurd (omega arith)
payload_origin received _ (first ∷ after) before item _ (other ∷ newer) older payload
    (writes last {sent = sent} {payloads = payloads} history all) line same long =
    payload_origin received sent after before item payloads newer older payload history (cc) (cc)
    (omega arith)

-- There are as many greatest payloads as items.
pub payloads_counted : (received sent : List Item) (payloads : List ℕ)
    → PayloadHistory received sent payloads → length payloads ≡ length sent
payloads_counted _ _ _ starts = refl
payloads_counted _ sent payloads (reads item {received = received} history) =
    payloads_counted received sent payloads history
payloads_counted received _ _ (writes item {sent = sent} {payloads = payloads} history all) =
    omega (arith, payloads_counted received sent payloads history)

-- Each is from 16,384 octets to the own limit.
pub payloads_between : (received sent : List Item) (payloads : List ℕ)
    → PayloadHistory received sent payloads
    → AllByRecursion (λ most. (16384 ≤ most) × (most ≤ max_frame_size_sent)) payloads
payloads_between _ _ _ starts = tt
payloads_between _ sent payloads (reads item {received = received} history) =
    payloads_between received sent payloads history
payloads_between received _ _ (writes item {sent = sent} {payloads = payloads} history all) =
    (most_between received, payloads_between received sent payloads history)
