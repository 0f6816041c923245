-- A stream that this end has not ended stays active after it has sent octets on it.
use Rattle.h2_ends.proofs.Names
use Names.{◌≡◌, ℕ, zero, suc, ◌==◌, ◌&&◌, nat_le, Bool, true, false, if◌then◌else◌, List, [], ◌∷◌}
use Names.{◌++◌, length, take, drop, None, refl, inl, inr, ap, subst, sym, list_any, and_right}
use Names.{Data, Item, alone, Role, Client, Server, SendData, Count, is_block_on, ends, Log}
use Names.{active, max_payload_sent, log_view, MayAnswer, with_call, grows_call, Writes}
use Names.{call_writes, items_of, not, WindowUpdate, IsCredit, or_from, active_parts, data_frames}
use Names.{data_items}
use Rattle.h2_laws_log.proofs.ReaderStates.{active_from, lasts_parts, lasts_from}
use Rattle.h2_spec_log.specs.Items.{resets, is_goaway_below}
use Rattle.h2_spec_log.specs.States.{openings, is_above}
use Rattle.h2_laws_log.proofs.ItemLists.{any_after}
use Rattle.h2_ends.proofs.PumpWindows.{data_accepted, data_active}
use Rattle.h2_laws_end.proofs.OverCalls.{none_of_both}

module _ (p : Item → Bool)
    (body : (id : ℕ) (end : Bool) (octets : List ℕ) → p (alone (Data id end octets None)) ≡ false)
    (update : (id count : ℕ) → p (alone (WindowUpdate id count)) ≡ false) where
  frames_by : (b : Bool) (one last : Item) (others : List Item) → p one ≡ false
      → p last ≡ false → list_any p others ≡ false
      → list_any p (if b then one ∷ [] else others ++ last ∷ []) ≡ false
  frames_by true one last others none no_last no_others = or_from _ _ none refl
  frames_by false one last others none no_last no_others =
      none_of_both p others (last ∷ []) no_others (or_from _ _ no_last refl)

  frames_none : (count most id : ℕ) (octets : List ℕ) (end : Bool)
      → list_any p (data_frames count most id octets end) ≡ false
  unfolding data_frames
  frames_none zero most id octets end = refl
  frames_none (suc count) most id octets end =
      frames_by (nat_le (length octets) most) _ _ _ (body id end octets)
      (body id false (take most octets)) (frames_none count most id (drop most octets) end)

  none_if : (b : Bool) (items : List Item) → list_any p items ≡ false
      → list_any p (if b then [] else items) ≡ false
  none_if true items none = refl
  none_if false items none = none

  body_none : (most id : ℕ) (octets : List ℕ) (end : Bool) (count : ℕ)
      → list_any p (data_items most id octets end count) ≡ false
  unfolding data_items
  body_none most id octets end count =
      none_if (count == 0 && not (length octets == 0 && end)) _
      (frames_none (suc count) most id (take count octets) (end && count == length octets))

  credit_none : (items : List Item) → IsCredit items → list_any p items ≡ false
  credit_none items (inl none) = rw none refl
  credit_none items (inr (count, is)) = rw is (or_from _ _ (update 0 count) refl)

  -- What a call that sends octets writes has no such item.
  pub none_written : (log after : Log) (id : ℕ) (octets : List ℕ) (end : Bool) (n : ℕ)
      → Writes log after (items_of (log_view log) (SendData id octets end) (Count n))
      → list_any p log.sent ≡ false → list_any p after.sent ≡ false
  unfolding items_of
  none_written log after id octets end n writes none =
      rw (writes.sent) (none_of_both p writes.credit _ (credit_none writes.credit writes.is_credit)
      (none_of_both p _ log.sent (body_none (max_payload_sent log) id octets end n) none))

-- Neither DATA nor WINDOW_UPDATE resets a stream, or is GOAWAY.
data_resets : (i id : ℕ) (end : Bool) (octets : List ℕ)
    → resets i (alone (Data id end octets None)) ≡ false
unfolding resets
data_resets i id end octets = refl

update_resets : (i id count : ℕ) → resets i (alone (WindowUpdate id count)) ≡ false
unfolding resets
update_resets i id count = refl

data_goaway : (i id : ℕ) (end : Bool) (octets : List ℕ)
    → is_goaway_below i (alone (Data id end octets None)) ≡ false
unfolding is_goaway_below
data_goaway i id end octets = refl

update_goaway : (i id count : ℕ) → is_goaway_below i (alone (WindowUpdate id count)) ≡ false
unfolding is_goaway_below
update_goaway i id count = refl

-- A stream is below the last one still, by the role.
below_after : (role : Role) (i : ℕ) (sent after : List Item)
    → (list_any (is_goaway_below i) sent ≡ false → list_any (is_goaway_below i) after ≡ false)
    → is_above role i sent ≡ false → is_above role i after ≡ false
unfolding is_above
below_after Client i sent after more below = refl
below_after Server i sent after more below = more below

-- What was opened was opened, by the role.
opened_after : (role : Role) (i : ℕ) (items received sent : List Item)
    → list_any (is_block_on i) (openings role received sent) ≡ true
    → list_any (is_block_on i) (openings role received (items ++ sent)) ≡ true
opened_after Client i items received sent here = any_after (is_block_on i) items sent here
opened_after Server i items received sent here = here

-- So it stays active, unless its end was sent.
pub stays_active : (log : Log) (id : ℕ) (octets : List ℕ) (end : Bool) (n : ℕ)
    → MayAnswer log (SendData id octets end) (Count n)
    → list_any (ends id) (with_call log (SendData id octets end) (Count n)).sent ≡ false
    → active (with_call log (SendData id octets end) (Count n)) id ≡ true
stays_active log id octets end n may goes =
    let act = SendData id octets end in
    let after = with_call log act (Count n) in
    let parts = active_parts log.role id log.received log.sent log.reported
    (data_active log id octets end n may) in
    let lasts = lasts_parts id log.received log.sent parts.lasts in
    let grows = grows_call log act (Count n) in
    let writes = call_writes log act (Count n) (ap Count (data_accepted log id octets end n may).1)
    (λ other code wrong. cc) (λ code wrong. cc) in
    let kept = none_written (resets id) (data_resets id) (update_resets id) log after id octets end
    n writes lasts.kept in
    let below = below_after log.role id log.sent after.sent
    (none_written (is_goaway_below id) (data_goaway id) (update_goaway id) log after id octets
    end n writes) parts.below in
    let opened = subst (λ (sent : List Item).
    list_any (is_block_on id) (openings log.role log.received sent) ≡ true) (sym grows.sent)
    (opened_after log.role id grows.items log.received log.sent parts.opened) in
    rw (grows.role, grows.received, grows.reported)
    (active_from log.role id log.received after.sent log.reported (record {
      odd = parts.odd;
      opened = opened;
      below = below;
      lasts = lasts_from id log.received after.sent (record {
        ended = and_right (list_any (ends id) log.received) _ goes;
        unreset = lasts.unreset;
        kept = kept;
      });
      unnamed = parts.unnamed;
    }))
