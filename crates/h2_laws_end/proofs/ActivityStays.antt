-- What keeps a stream active: what is read, written and reported neither ends it, nor resets it,
-- nor is a GOAWAY with a last stream below it, nor names it unprocessed.
use Rattle.h2_laws_end.proofs.Names
use Names.{◌≡◌, ℕ, ◌≤◌, ◌==◌, ◌&&◌, Bool, true, false, if◌then◌else◌, List, [], ◌∷◌, ◌++◌, length}
use Names.{None, refl, ◌∙◌, inl, inr, arith, list_any, AllByRecursion, or_from, false_from_ne_true}
use Names.{list_any-append, code_number, Data, Reset, Settings, Ping, GoAway, WindowUpdate, Item}
use Names.{alone, block, Role, Client, Server, is_block_on, stream_of_item, Event, openings}
use Names.{is_active, Verdict, ConnectionFault, StreamFault, NoEvent, Reported, data_items}
use Names.{any_after, active_parts, lasts_parts, none_both, IsCredit, and_right, ltb-true, ends}
use Names.{resets, is_goaway_below, is_above, replies_to, is_stream_fault, active_from, lasts_from}
use Rattle.h2_spec_log.specs.Events.{reports_unprocessed}
use Rattle.h2_laws_end.proofs.DataItems.{body_all, all_of_both}

-- An item that is written doesn't close the stream.
pub record IsHarmless (role : Role) (i : ℕ) (item : Item) : Type 0 where
  pub ends_not : ends i item ≡ false
  pub resets_not : resets i item ≡ false
  pub below_not : role ≡ Server → is_goaway_below i item ≡ false

-- Nor do these items.
abbrev pub AreHarmless : Role → ℕ → List Item → Type 0
AreHarmless role i items = AllByRecursion (IsHarmless role i) items

-- Nor do these and those.
pub harmless_append : (role : Role) (i : ℕ) (items others : List Item) → AreHarmless role i items
    → AreHarmless role i others → AreHarmless role i (items ++ others)
harmless_append role i items others are also = all_of_both (IsHarmless role i) items others are also

module _ (role : Role) (i id : ℕ) (end : Bool) (octets : List ℕ) where
  -- A block, and DATA, that isn't the last on the stream.
  pub harmless_block : (id == i && end) ≡ false → IsHarmless role i (block id end octets)
  unfolding ends resets is_goaway_below
  harmless_block is = record { ends_not = is; resets_not = refl; below_not = λ server. refl }

  harmless_data : (id == i && end) ≡ false → IsHarmless role i (alone (Data id end octets None))
  unfolding ends resets is_goaway_below
  harmless_data is = record { ends_not = is; resets_not = refl; below_not = λ server. refl }

module _ (role : Role) (i : ℕ) where
  -- RST_STREAM of another stream.
  pub harmless_reset : (id code : ℕ) → (id == i) ≡ false → IsHarmless role i (alone (Reset id code))
  unfolding ends resets is_goaway_below
  harmless_reset id code is =
      record { ends_not = refl; resets_not = is; below_not = λ server. refl }

  -- GOAWAY with a last stream that isn't below the stream.
  pub harmless_goaway : (last code : ℕ) → (role ≡ Server → i ≤ last)
      → IsHarmless role i (alone (GoAway last code []))
  unfolding ends resets is_goaway_below
  harmless_goaway last code low = record {
    ends_not = refl;
    resets_not = refl;
    below_not = λ server. false_from_ne_true _ (λ below.
        let less = ltb-true last i below in
        let most = low server in
        absurd (omega (arith, less, most)));
  }

  -- WINDOW_UPDATE, SETTINGS and PING.
  pub harmless_update : (id count : ℕ) → IsHarmless role i (alone (WindowUpdate id count))
  unfolding ends resets is_goaway_below
  harmless_update id count =
      record { ends_not = refl; resets_not = refl; below_not = λ server. refl }

  pub harmless_settings : (ack : Bool) (pairs : List (ℕ × ℕ))
      → IsHarmless role i (alone (Settings ack pairs))
  unfolding ends resets is_goaway_below
  harmless_settings ack pairs =
      record { ends_not = refl; resets_not = refl; below_not = λ server. refl }

  pub harmless_ping : (ack : Bool) (octets : List ℕ) → IsHarmless role i (alone (Ping ack octets))
  unfolding ends resets is_goaway_below
  harmless_ping ack octets =
      record { ends_not = refl; resets_not = refl; below_not = λ server. refl }

  -- Credit.
  pub harmless_credit : (items : List Item) → IsCredit items → AreHarmless role i items
  harmless_credit items (inl none) = rw none tt
  harmless_credit items (inr (count, is)) = rw is (harmless_update 0 count, tt)

  -- What is written of a body.
  pub harmless_body : (most id : ℕ) (octets : List ℕ) (end : Bool) (count : ℕ)
      → (id == i && (end && count == length octets)) ≡ false
      → AreHarmless role i (data_items most id octets end count)
  harmless_body most id octets end count is = body_all (IsHarmless role i) most id
      (λ one short. harmless_data role i id false one (and_right (id == i) false refl)) octets end
      count (λ last short. harmless_data role i id _ last is)

  -- What is written for octets that were released, by whether the peer has ended the stream.
  pub harmless_release : (id count : ℕ) (b : Bool)
      → AreHarmless role i (alone (WindowUpdate 0 count) ∷ (if b then [] else alone (WindowUpdate id
      count) ∷ []))
  harmless_release id count true = (harmless_update 0 count, tt)
  harmless_release id count false = (harmless_update 0 count, (harmless_update id count, tt))

  -- What is replied to an item, unless it resets the stream.
  pub harmless_replies : (verdict : Verdict) (item : Item)
      → (is_stream_fault verdict ≡ true → (stream_of_item item == i) ≡ false)
      → AreHarmless role i (replies_to verdict item)
  unfolding replies_to
  harmless_replies (ConnectionFault code) item other = tt
  harmless_replies (StreamFault code) item other =
      (harmless_reset (stream_of_item item) (code_number code) (other refl), tt)
  harmless_replies NoEvent (block stream end octets) other = tt
  harmless_replies NoEvent (alone (Settings false pairs)) other = (harmless_settings true [], tt)
  harmless_replies NoEvent (alone (Ping false octets)) other = (harmless_ping true octets, tt)
  harmless_replies NoEvent (alone frame) other = tt
  harmless_replies Reported item other = tt

  -- What none of the items is.
  pub none_ends : (items : List Item) → AreHarmless role i items → list_any (ends i) items ≡ false
  none_ends [] are = refl
  none_ends (item ∷ items) are = or_from _ _ are.0.ends_not (none_ends items are.1)

  pub none_resets : (items : List Item) → AreHarmless role i items
      → list_any (resets i) items ≡ false
  none_resets [] are = refl
  none_resets (item ∷ items) are = or_from _ _ are.0.resets_not (none_resets items are.1)

pub none_below : (role : Role) (i : ℕ) (items : List Item) → role ≡ Server
    → AreHarmless role i items → list_any (is_goaway_below i) items ≡ false
none_below role i [] server are = refl
none_below role i (item ∷ items) server are =
    or_from _ _ (are.0.below_not server) (none_below role i items server are.1)

-- The stream isn't above the last one, by the role.
below_after : (role : Role) (i : ℕ) (items sent : List Item) → AreHarmless role i items
    → is_above role i sent ≡ false → is_above role i (items ++ sent) ≡ false
unfolding is_above
below_after Client i items sent are below = refl
below_after Server i items sent are below =
    list_any-append (is_goaway_below i) items sent
    ∙ or_from _ _ (none_below Server i items refl are) below

-- It was opened, by the role.
pub opened_after : (role : Role) (i : ℕ) (reads items received sent : List Item)
    → list_any (is_block_on i) (openings role received sent) ≡ true
    → list_any (is_block_on i) (openings role (reads ++ received) (items ++ sent)) ≡ true
opened_after Client i reads items received sent here = any_after (is_block_on i) items sent here
opened_after Server i reads items received sent here = any_after (is_block_on i) reads received here

-- Two ends aren't both, where the one isn't new and the other isn't either.
not_both : (p : Item → Bool) (reads received items sent : List Item)
    → list_any p reads ≡ false → list_any p items ≡ false
    → (list_any p received && list_any p sent) ≡ false
    → (list_any p (reads ++ received) && list_any p (items ++ sent)) ≡ false
not_both p reads received items sent none no_other apart =
    let read : list_any p (reads ++ received) ≡ list_any p received =
    list_any-append p reads received ∙ rw none refl in
    let written : list_any p (items ++ sent) ≡ list_any p sent =
    list_any-append p items sent ∙ rw no_other refl in
    rw (read, written) apart

-- What keeps a stream active.
pub stays_active : (role : Role) (i : ℕ) (reads items received sent : List Item)
    (events reported : List Event) → is_active role i received sent reported ≡ true
    → list_any (ends i) reads ≡ false → list_any (resets i) reads ≡ false
    → AreHarmless role i items → list_any (reports_unprocessed i) events ≡ false
    → is_active role i (reads ++ received) (items ++ sent) (events ++ reported) ≡ true
stays_active role i reads items received sent events reported active unended unreset harmless
    unnamed =
    let parts = active_parts role i received sent reported active in
    let lasts = lasts_parts i received sent parts.lasts in
    active_from role i (reads ++ received) (items ++ sent) (events ++ reported) (record {
      odd = parts.odd;
      opened = opened_after role i reads items received sent parts.opened;
      below = below_after role i items sent harmless parts.below;
      lasts = lasts_from i (reads ++ received) (items ++ sent) (record {
        ended = not_both (ends i) reads received items sent unended
            (none_ends role i items harmless) lasts.ended;
        unreset = none_both (resets i) reads received unreset lasts.unreset;
        kept = none_both (resets i) items sent (none_resets role i items harmless) lasts.kept;
      });
      unnamed = none_both (reports_unprocessed i) events reported unnamed parts.unnamed;
    })
