-- Numbers that were used and streams that are over, by what was read, written and reported: more of
-- it keeps them, as long as no block opens the stream.
use Rattle.h2_laws_end.proofs.Names.{◌≡◌, ℕ, Bool, true, false, List, [], ◌∷◌, ◌++◌, refl, inl, inr}
use Rattle.h2_laws_end.proofs.Names.{list_any, both_ways, or_from, false_from_ne_true, Item, Role}
use Rattle.h2_laws_end.proofs.Names.{Client, Server, is_block_on, Event, openings, is_used}
use Rattle.h2_laws_end.proofs.Names.{is_active, any_either, active_before, active_parts}
use Rattle.h2_laws_end.proofs.Names.{lasts_parts, used_more, is_closed_by_us}

-- The stream is over.
pub record IsPast (i : ℕ) (role : Role) (received sent : List Item)
    (reported : List Event) : Type 0 where
  pub was_used : is_used role i received sent ≡ true
  pub not_active : is_active role i received sent reported ≡ false

-- The number was used.
abbrev pub WasUsed : ℕ → Role → List Item → List Item → List Event → Type 0
WasUsed i role received sent reported = is_used role i received sent ≡ true

-- The stream isn't active.
abbrev pub IsInactive : ℕ → Role → List Item → List Item → List Event → Type 0
IsInactive i role received sent reported = is_active role i received sent reported ≡ false

-- What isn't active stays so, where no block on it is among the openings that weren't before.
inactive_more : (i : ℕ) (role : Role) (reads items received sent : List Item)
    (events reported : List Event)
    → (list_any (is_block_on i) (openings role (reads ++ received) (items ++ sent)) ≡ true
    → list_any (is_block_on i) (openings role received sent) ≡ true)
    → IsInactive i role received sent reported
    → IsInactive i role (reads ++ received) (items ++ sent) (events ++ reported)
inactive_more i role reads items received sent events reported opened is =
    false_from_ne_true _ (λ active. both_ways _ is
    (active_before role i reads items received sent events reported active
    (opened (active_parts role i (reads ++ received) (items ++ sent) (events ++ reported)
    active).opened)))

-- Items without a block on the stream open it nowhere.
opened_before : (i : ℕ) (role : Role) (items received sent : List Item)
    → list_any (is_block_on i) items ≡ false
    → list_any (is_block_on i) (openings role received (items ++ sent)) ≡ true
    → list_any (is_block_on i) (openings role received sent) ≡ true
opened_before i Client items received sent none here =
    elim (any_either (is_block_on i) items sent here) [
      | inl now ↦ absurd (both_ways _ none now)
      | inr before ↦ before
    ]
opened_before i Server items received sent none here = here

module _ (i : ℕ) (role : Role) (received sent : List Item) (reported : List Event) where
  -- Items that are written, without a block on the stream.
  pub inactive_sent : (items : List Item) → list_any (is_block_on i) items ≡ false
      → IsInactive i role received sent reported
      → IsInactive i role received (items ++ sent) reported
  inactive_sent items none = inactive_more i role [] items received sent [] reported
      (opened_before i role items received sent none)

  -- Events.
  pub inactive_reported : (events : List Event) → IsInactive i role received sent reported
      → IsInactive i role received sent (events ++ reported)
  inactive_reported events = inactive_more i role [] [] received sent events reported (λ here. here)

  -- A stream that this end has closed isn't active.
  pub closed_inactive : is_closed_by_us role i sent ≡ true
      → IsInactive i role received sent reported
  unfolding is_closed_by_us
  closed_inactive closed = false_from_ne_true _ (λ active.
      let parts = active_parts role i received sent reported active in
      both_ways _ (or_from _ _ (lasts_parts i received sent parts.lasts).kept parts.below) closed)

-- An item that is read opens only itself.
read_before : (i : ℕ) (role : Role) (item : Item) (received sent : List Item)
    → is_block_on i item ≡ false
    → list_any (is_block_on i) (openings role (item ∷ received) sent) ≡ true
    → list_any (is_block_on i) (openings role received sent) ≡ true
read_before i Client item received sent none here = here
read_before i Server item received sent none here =
    elim (any_either (is_block_on i) (item ∷ []) received here) [
      | inl now ↦ absurd (both_ways _ (or_from _ _ none refl) now)
      | inr before ↦ before
    ]

module _ (i : ℕ) (role : Role) (received sent : List Item) (reported : List Event) where
  -- An item that is read: where it is a block on the stream, this end has closed it.
  inactive_by : (item : Item) (b : Bool) → is_block_on i item ≡ b
      → (b ≡ true → is_closed_by_us role i sent ≡ true) → IsInactive i role received sent reported
      → IsInactive i role (item ∷ received) sent reported
  inactive_by item true is closed before =
      closed_inactive i role (item ∷ received) sent reported (closed refl)
  inactive_by item false is closed before =
      inactive_more i role (item ∷ []) [] received sent [] reported
      (read_before i role item received sent is) before

  -- What is over stays so after items that are written without a block on the stream,
  pub past_sent : (items : List Item) → list_any (is_block_on i) items ≡ false
      → IsPast i role received sent reported → IsPast i role received (items ++ sent) reported
  past_sent items none past = record {
    was_used = used_more role i [] items received sent past.was_used;
    not_active = inactive_sent i role received sent reported items none past.not_active;
  }

  -- after events,
  pub past_reported : (events : List Event) → IsPast i role received sent reported
      → IsPast i role received sent (events ++ reported)
  past_reported events past = record {
    was_used = past.was_used;
    not_active = inactive_reported i role received sent reported events past.not_active;
  }

  -- and after an item that is read, on which a block is no opening.
  pub past_read : (item : Item) → (is_block_on i item ≡ true → is_closed_by_us role i sent ≡ true)
      → IsPast i role received sent reported → IsPast i role (item ∷ received) sent reported
  past_read item closed past = record {
    was_used = used_more role i (item ∷ []) [] received sent past.was_used;
    not_active = inactive_by item (is_block_on i item) refl closed past.not_active;
  }
