-- The state of a stream at the reader, where the writer uses it or goes on it.
use Rattle.std.proofs.lemmas.Bool.{le-leb}
use Rattle.h2_laws_log.proofs.Names
use Names.{list_any, both_ways, eqb-true, and_parts, and_from, and_left, or_cases, or_parts}
use Names.{or_from, or_left, or_right, false_from_ne_true, Item, alone, block, Role, Client, Server}
use Names.{is_block_on, opens_from, ends, resets, is_goaway_below, peer_of, Event}
use Names.{reports_unprocessed, Idle, Active, ClosedByUs, openings, is_used, is_above, is_over}
use Names.{is_active, is_closed_by_us, state_by, stream_state, MayContinue, ◌≡◌, ◌⊎◌, ℕ, ◌%◌, ◌==◌}
use Names.{nat_le, ◌&&◌, Bool, true, false, List, [], ◌∷◌, ◌++◌, refl, inl, inr, arith, rules}
use Rattle.h2_laws_log.proofs.ItemLists.{any_after, none_after}

-- What makes a stream active.
pub record ActiveParts (role : Role) (i : ℕ) (received sent : List Item)
    (reported : List Event) : Type 0 where
  pub odd : i % 2 == 1 ≡ true
  pub opened : list_any (is_block_on i) (openings role received sent) ≡ true
  pub below : is_above role i sent ≡ false
  pub lasts : is_over i received sent ≡ false
  pub unnamed : list_any (reports_unprocessed i) reported ≡ false

-- An active stream has all of these.
pub active_parts : (role : Role) (i : ℕ) (received sent : List Item) (reported : List Event)
    → is_active role i received sent reported ≡ true
    → ActiveParts role i received sent reported
unfolding is_active
active_parts role i received sent reported active = search rules

-- A stream with all of these is active.
pub active_from : (role : Role) (i : ℕ) (received sent : List Item) (reported : List Event)
    → ActiveParts role i received sent reported
    → is_active role i received sent reported ≡ true
unfolding is_active
active_from role i received sent reported parts = search rules

-- An active stream is active by what was read and written alone.
pub active_unnamed : (role : Role) (i : ℕ) (received sent : List Item) (reported : List Event)
    → is_active role i received sent reported ≡ true → is_active role i received sent [] ≡ true
active_unnamed role i received sent reported active = search (rules, active_parts, active_from)

-- What keeps a stream from being over.
pub record LastsParts (i : ℕ) (received sent : List Item) : Type 0 where
  pub ended : (list_any (ends i) received && list_any (ends i) sent) ≡ false
  pub unreset : list_any (resets i) received ≡ false
  pub kept : list_any (resets i) sent ≡ false

-- A stream that isn't over has all of these.
pub lasts_parts : (i : ℕ) (received sent : List Item) → is_over i received sent ≡ false
    → LastsParts i received sent
unfolding is_over
lasts_parts i received sent lasts = search rules

-- A stream with all of these isn't over.
pub lasts_from : (i : ℕ) (received sent : List Item) → LastsParts i received sent
    → is_over i received sent ≡ false
unfolding is_over
lasts_from i received sent parts = or_from _ _ (or_from _ _ parts.ended parts.unreset) parts.kept

-- A stream is active that has what makes it so, and what keeps it from being over.
pub active_by_parts : (role : Role) (i : ℕ) (received sent : List Item) (reported : List Event)
    → i % 2 == 1 ≡ true → list_any (is_block_on i) (openings role received sent) ≡ true
    → is_above role i sent ≡ false
    → (list_any (ends i) received && list_any (ends i) sent) ≡ false
    → list_any (resets i) received ≡ false → list_any (resets i) sent ≡ false
    → list_any (reports_unprocessed i) reported ≡ false
    → is_active role i received sent reported ≡ true
active_by_parts role i received sent reported odd opened below ended unreset kept unnamed =
    let lasts = lasts_from i received sent (assumption (ended, unreset, kept)) in
    active_from role i received sent reported (assumption (odd, opened, below, lasts, unnamed))

-- a block on an odd number is one from which numbers are used
opens_one : (i stream : ℕ) → i % 2 == 1 ≡ true → stream == i ≡ true
    → (stream % 2 == 1 && nat_le i stream) ≡ true
opens_one i stream odd same =
    let equal : stream ≡ i = eqb-true stream i same in
    and_from (stream % 2 == 1) (nat_le i stream) (rw equal odd) (le-leb i stream (omega arith))

-- Where a block on an odd number stands, the number is used.
pub opens_here : (i : ℕ) (items : List Item) → i % 2 == 1 ≡ true → list_any (is_block_on i) items
    ≡ true → list_any (opens_from i) items ≡ true
unfolding is_block_on opens_from
opens_here i [] odd here = absurd (both_ways false refl here)
opens_here i (alone frame ∷ items) odd here = opens_here i items odd here
opens_here i (block stream end octets ∷ items) odd here = elim (or_cases (stream == i) (list_any
    (is_block_on i) items) here) [
      | inl same ↦ or_left _ (list_any (opens_from i) items) (opens_one i stream odd same)
      | inr after ↦ or_right (stream % 2 == 1 && nat_le i stream) _ (opens_here i items odd after)
    ]

-- What stands among the openings at the writer stands among those at the reader.
openings_after : (p : Item → Bool) (role : Role) (received sent unread : List Item)
    → list_any p (openings role received sent) ≡ true
    → list_any p (openings (peer_of role) sent (unread ++ received)) ≡ true
openings_after p Client received sent unread here = here
openings_after p Server received sent unread here = any_after p unread received here

-- What the writer uses, the reader uses.
pub used_after : (role : Role) (i : ℕ) (received sent unread : List Item)
    → is_used role i received sent ≡ true
    → is_used (peer_of role) i sent (unread ++ received) ≡ true
unfolding is_used
used_after role i received sent unread used = search (rules, and_parts, and_from, openings_after)

-- An active stream is used.
pub active_used : (role : Role) (i : ℕ) (received sent : List Item) (reported : List Event)
    → is_active role i received sent reported ≡ true
    → is_used role i received sent ≡ true
unfolding is_used
active_used role i received sent reported active =
    let parts = active_parts role i received sent reported active in
    and_from _ _ parts.odd (opens_here i (openings role received sent) parts.odd parts.opened)

-- A stream that is used isn't idle.
pub not_idle : (used active closed_by_us : Bool) → used ≡ true
    → state_by used active closed_by_us ≡ Idle → ⊥
not_idle false active closed_by_us used idle = both_ways false refl used
not_idle true false true used idle = cc
not_idle true active closed_by_us used idle = cc

-- A used stream that is active where it isn't closed by this end is active or closed by this end.
active_or_closed_by_us : (used active closed_by_us : Bool) → used ≡ true → (closed_by_us
    ≡ false → active ≡ true)
    → (state_by used active closed_by_us ≡ Active) ⊎ (state_by used active closed_by_us
    ≡ ClosedByUs)
active_or_closed_by_us false active closed_by_us used goes = absurd (both_ways false refl used)
active_or_closed_by_us true true closed_by_us used goes = inl refl
active_or_closed_by_us true false true used goes = inr refl
active_or_closed_by_us true false false used goes = absurd (both_ways false refl (goes refl))

-- a stream isn't named unprocessed at the reader, since the writer would be a server that has left
-- below it
not_named : (role : Role) (i : ℕ) (sent : List Item) (reported : List Event)
    → is_above role i sent ≡ false
    → (list_any (reports_unprocessed i) reported ≡ true → (peer_of role ≡ Client)
    × (list_any (is_goaway_below i) sent ≡ true))
    → list_any (reports_unprocessed i) reported ≡ true → ⊥
unfolding is_above
not_named Client i sent reported below named with_reported = let client : Server
    ≡ Client = (named with_reported).0 in cc
not_named Server i sent reported below named with_reported = both_ways (list_any
    (is_goaway_below i) sent) below (named with_reported).1

-- A stream on which the writer goes on is active or closed by this end at the reader.
pub goes_on_state : (role : Role) (i : ℕ) (received sent unread : List Item)
    (reported : List Event) → MayContinue role i received sent
    → (list_any (reports_unprocessed i) reported ≡ true → (peer_of role ≡ Client)
    × (list_any (is_goaway_below i) sent ≡ true))
    → (stream_state (peer_of role) i sent (unread ++ received) reported
    ≡ Active) ⊎ (stream_state (peer_of role) i sent (unread ++ received) reported ≡ ClosedByUs)
unfolding is_closed_by_us
goes_on_state role i received sent unread reported goes named =
    let parts = active_parts role i received sent [] goes.active in
    let lasts = lasts_parts i received sent parts.lasts in
    active_or_closed_by_us _ _ (is_closed_by_us (peer_of role) i (unread ++ received))
    (used_after role i received sent unread (active_used role i received sent [] goes.active))
    (λ stays. let kept = or_parts _ _ stays in
    active_by_parts (peer_of role) i sent (unread ++ received) reported parts.odd
    (openings_after (is_block_on i) role received sent unread parts.opened) kept.1
    (and_left (list_any (ends i) sent) (list_any (ends i) (unread ++ received)) goes.goes)
    lasts.kept kept.0 (false_from_ne_true (list_any (reports_unprocessed i) reported)
    (not_named role i sent reported parts.below named)))

-- two ends aren't both, where one of them and more than the other aren't
one_end : (sent more received : Bool) → (sent && more) ≡ false → (received ≡ true → more ≡ true)
    → (received && sent) ≡ false
one_end sent more false apart goes = refl
one_end false more true apart goes = refl
one_end true more true apart goes = absurd (both_ways more apart (goes refl))

-- What is active at the reader, a server, is active at the writer, its client.
pub active_back : (i : ℕ) (received sent unread : List Item) (reported : List Event)
    → is_active Server i sent (unread ++ received) reported ≡ true
    → is_active Client i received sent [] ≡ true
unfolding is_above
active_back i received sent unread reported active =
    search (rules, active_parts, lasts_parts, active_by_parts, one_end, any_after, none_after)

-- A stream that isn't used is idle.
pub state_idle : (used active closed_by_us : Bool) → used ≡ false
    → state_by used active closed_by_us ≡ Idle
state_idle false active closed_by_us unused = refl
state_idle true active closed_by_us unused = absurd (both_ways true unused refl)

-- A stream that is used and active has that state.
pub state_active : (used active closed_by_us : Bool) → used ≡ true → active ≡ true
    → state_by used active closed_by_us ≡ Active
state_active true true closed_by_us used alive = refl
state_active true false closed_by_us used alive = absurd (both_ways false refl alive)
state_active false active closed_by_us used alive = absurd (both_ways false refl used)

-- No other stream has it.
pub state_is_active : (used active closed_by_us : Bool) → state_by used active closed_by_us
    ≡ Active → active ≡ true
state_is_active true true closed_by_us is = refl
state_is_active true false true is = cc
state_is_active used active closed_by_us is = cc
