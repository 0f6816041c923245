-- What a frame makes of the streams that are active: which it may close, and which it may open.
use Rattle.h2_laws_end.proofs.Names
use Names.{◌≡◌, ◌⊎◌, ℕ, ◌≤◌, ◌==◌, Bool, true, false, List, [], ◌∷◌, ◌++◌, Option, refl, sym, ap}
use Names.{◌∙◌, inl, inr, arith, subst, list_any, both_ways, or_cases, or_parts, or_from, or_left}
use Names.{cases_Bool, eqb-true, eq-eqb, false_from_ne_true, list_any-append, Field, Code}
use Names.{code_number, GoAway, Reset, Item, alone, block, Role, Client, Server, is_goaway_below}
use Names.{Event, FieldsEvent, openings, is_active, Log, active, log_view, Verdict, ConnectionFault}
use Names.{StreamFault, NoEvent, Reported, Decoded, verdict_of, any_after, active_before}
use Names.{active_parts, none_both, IsCredit, or_right, is_block_on, resets, stream_of_item}
use Names.{is_above, is_closed_by_us, last_processed, replies_to, is_stream_fault, events_of}
use Names.{goaway_no_block, replies_no_block, event_may_close}
use Rattle.h2_spec_log.specs.ItemEffects.{decoded_fields}
use Rattle.h2_laws_end.proofs.ReadVerdicts.{Says, says_of}
use Rattle.h2_laws_end.proofs.ReadingRules.{IsFaulty, IsUnreported, IsSaid, LogIsLow, rules_say}
use Rattle.h2_laws_end.proofs.ActivityItems.{closes, closes_own, silent_keeps, reported_closes}
use Rattle.h2_laws_end.proofs.ActivityItems.{events_name_none}
use Rattle.h2_laws_end.proofs.ActivityStays.{harmless_append, harmless_credit, harmless_replies}
use Rattle.h2_laws_end.proofs.ActivityStays.{harmless_goaway, stays_active}
use Rattle.h2_laws_end.proofs.ActivitySteps.{Adds, AfterFrame, stays_same, has_broken, has_read}
use Rattle.h2_laws_end.proofs.OverSteps.{credit_without_block}
use Rattle.h2_laws_end.proofs.OverLists.{closed_inactive}

-- Whether a stream is active after a step, by what the step adds.
pub active_added : (before after : Log) (reads items : List Item) (events : List Event) (i : ℕ)
    → Adds before after reads items events
    → active after i ≡ is_active before.role i (reads ++ before.received) (items ++ before.sent)
    (events ++ before.reported)
active_added before after reads items events i adds =
    rw (adds.role, adds.received, adds.sent, adds.reported) refl

-- No item but those of its stream closes a stream.
other_kept : (i : ℕ) (item : Item) → (stream_of_item item == i) ≡ false → closes i item ≡ false
other_kept i item other =
    false_from_ne_true _ (λ closed. both_ways _ other (eq-eqb _ i (closes_own i item closed)))

-- An item of whose events none may close the stream doesn't close it.
item_keeps : (log : Log) (decoded : Option Decoded) (item : Item) (verdict : Verdict) (i : ℕ)
    → verdict_of (log_view log) decoded item ≡ verdict
    → ((code : Code) → verdict ≡ ConnectionFault code → ⊥) → active log i ≡ true
    → list_any (event_may_close i) (events_of (log_view log) decoded verdict item) ≡ false
    → (closes i item ≡ false)
    × (is_stream_fault verdict ≡ true → (stream_of_item item == i) ≡ false)
unfolding events_of event_may_close
item_keeps log decoded item (ConnectionFault code) i is on alive none = absurd (on code refl)
item_keeps log decoded item (StreamFault code) i is on alive none =
    let other = (or_parts _ _ none).0 in (other_kept i item other, λ fault. other)
item_keeps log decoded item NoEvent i is on alive none =
    (silent_keeps log decoded item i is alive, λ fault. absurd (both_ways false refl fault))
item_keeps log decoded item Reported i is on alive none = (
  false_from_ne_true _ (λ closed.
      both_ways _ none (reported_closes (log_view log) decoded item i closed)),
  λ fault. absurd (both_ways false refl fault),
)

-- A stream stays active after a frame, unless what is reported may close it.
pub frame_keeps_active : (before after : Log) (decoded : Option Decoded) (i : ℕ)
    → AfterFrame before decoded after → active before i ≡ true
    → (before.role ≡ Server → i ≤ last_processed before)
    → (after.failed ≡ before.failed → (events : List Event)
    → after.reported ≡ events ++ before.reported → list_any (event_may_close i) events ≡ false)
    → active after i ≡ true
frame_keeps_active before after decoded i (stays_same adds failed) alive low none =
    active_added before after [] [] [] i adds ∙ alive
frame_keeps_active before after decoded i (has_broken code last up adds failed) alive low none =
    active_added before after [] _ [] i adds ∙ stays_active _ _ []
    (alone (GoAway last (code_number code) []) ∷ []) _ _ [] before.reported alive refl refl (
      harmless_goaway before.role i last (code_number code) (λ server.
          let most = low server in omega (arith, most, up)),
      tt,
    ) refl
frame_keeps_active before after decoded i
    (has_read item verdict credit is on is_credit adds failed) alive low none =
    let kept = item_keeps _ _ item verdict _ is on alive (none failed _ adds.reported) in
    let both = or_parts _ _ kept.0 in
    active_added _ _ (item ∷ []) _ _ _ adds ∙ stays_active _ _ (item ∷ [])
    (credit ++ replies_to verdict item) _ _ _ _ alive (or_from _ _ both.0 refl)
    (or_from _ _ both.1 refl) (harmless_append _ _ credit (replies_to verdict item)
    (harmless_credit _ _ credit is_credit) (harmless_replies _ _ verdict item kept.1))
    (events_name_none _ _ verdict item _)

-- Where no block is new, a stream that is open was open before, by the role.
open_before : (role : Role) (i : ℕ) (reads items received sent : List Item)
    → (role ≡ Server → list_any (is_block_on i) reads ≡ false)
    → (role ≡ Client → list_any (is_block_on i) items ≡ false)
    → list_any (is_block_on i) (openings role (reads ++ received) (items ++ sent)) ≡ true
    → list_any (is_block_on i) (openings role received sent) ≡ true
open_before Client i reads items received sent unread none here =
    elim (or_cases _ _ (sym (list_any-append (is_block_on i) items sent) ∙ here)) [
      | inl now ↦ absurd (both_ways _ (none refl) now)
      | inr then ↦ then
    ]
open_before Server i reads items received sent unread none here =
    elim (or_cases _ _ (sym (list_any-append (is_block_on i) reads received) ∙ here)) [
      | inl now ↦ absurd (both_ways _ (unread refl) now)
      | inr then ↦ then
    ]

-- Then a stream that is active was active before.
pub was_active : (before after : Log) (reads items : List Item) (events : List Event) (i : ℕ)
    → Adds before after reads items events
    → (before.role ≡ Server → list_any (is_block_on i) reads ≡ false)
    → (before.role ≡ Client → list_any (is_block_on i) items ≡ false)
    → active after i ≡ true → active before i ≡ true
was_active before after reads items events i adds unread none alive =
    let now = sym (active_added _ _ _ _ _ _ adds) ∙ alive in
    let parts = active_parts _ _ _ _ _ now in
    active_before _ _ _ _ _ _ _ _ now (open_before _ _ _ _ _ _ unread none parts.opened)

-- A stream that this end has closed stays so.
pub above_more : (role : Role) (i : ℕ) (items sent : List Item) → is_above role i sent ≡ true
    → is_above role i (items ++ sent) ≡ true
unfolding is_above
above_more Client i items sent above = above
above_more Server i items sent above = any_after (is_goaway_below i) items sent above

pub closed_more : (role : Role) (i : ℕ) (items sent : List Item)
    → is_closed_by_us role i sent ≡ true
    → is_closed_by_us role i (items ++ sent) ≡ true
unfolding is_closed_by_us
closed_more role i items sent closed = elim (or_cases _ _ closed) [
  | inl reset ↦ or_left _ _ (any_after (resets i) items sent reset)
  | inr above ↦ or_right _ _ (above_more role i items sent above)
]

-- It has closed a stream at fault.
fault_resets : (role : Role) (i : ℕ) (credit sent : List Item) (code : Code) (item : Item)
    → stream_of_item item ≡ i
    → is_closed_by_us role i ((credit ++ replies_to (StreamFault code) item) ++ sent) ≡ true
unfolding is_closed_by_us replies_to resets
fault_resets role i credit sent code item is =
    let reset = alone (Reset (stream_of_item item) (code_number code)) ∷ [] in
    let here : list_any (resets i) reset ≡ true = or_left (stream_of_item item == i) false
    (eq-eqb (stream_of_item item) i is) in
    let there : list_any (resets i) ((credit ++ reset) ++ sent) ≡ true = list_any-append (resets i)
    (credit ++ reset) sent ∙ or_left _ _ (any_after (resets i) credit reset here) in
    or_left _ (is_above role i ((credit ++ reset) ++ sent)) there

-- The stream of a block.
block_stream : (i : ℕ) (item : Item) → is_block_on i item ≡ true → stream_of_item item ≡ i
unfolding is_block_on stream_of_item
block_stream i (block stream end octets) is = eqb-true stream i is
block_stream i (alone frame) is = absurd (both_ways false refl is)

-- This is reported after a step: fields of the stream.
pub record HasFields (before after : Log) (i : ℕ) : Type 0 where
  pub fields : List Field
  pub end : Bool
  pub one : after.reported ≡ FieldsEvent i fields end ∷ before.reported
  pub same : after.failed ≡ before.failed

-- So it is of a block that is reported.
fields_reported : (before after : Log) (decoded : Option Decoded) (item : Item) (i : ℕ)
    → is_block_on i item ≡ true
    → after.reported ≡ events_of (log_view before) decoded Reported item ++ before.reported
    → after.failed ≡ before.failed → HasFields before after i
unfolding is_block_on events_of
fields_reported before after decoded (block stream end octets) i is reported failed = record {
  fields = decoded_fields decoded;
  end = end;
  one = reported
      ∙ ap (λ (j : ℕ). FieldsEvent j (decoded_fields decoded) end ∷ before.reported)
      (eqb-true stream i is);
  same = failed;
}
fields_reported before after decoded (alone frame) i is reported failed =
    absurd (both_ways false refl is)

-- What is unreported of a block is of a stream that this end has closed.
silent_closed : (log : Log) (item : Item) (i : ℕ) → is_block_on i item ≡ true
    → IsUnreported log item → is_closed_by_us log.role i log.sent ≡ true
unfolding is_block_on
silent_closed log (block stream end octets) i is silent =
    subst (λ (j : ℕ). is_closed_by_us log.role j log.sent ≡ true) (eqb-true stream i is) silent
silent_closed log (alone frame) i is silent = absurd (both_ways false refl is)

module _ (before after : Log) (decoded : Option Decoded) where
  -- A block that was read, by its verdict: the stream is closed by this end, or fields are
  -- reported.
  block_reported : (item : Item) (verdict : Verdict) (credit : List Item) (i : ℕ) → LogIsLow before
      → is_block_on i item ≡ true → verdict_of (log_view before) decoded item ≡ verdict
      → ((code : Code) → verdict ≡ ConnectionFault code → ⊥)
      → after.reported ≡ events_of (log_view before) decoded verdict item ++ before.reported
      → after.failed ≡ before.failed
      → (is_closed_by_us before.role i ((credit ++ replies_to verdict item) ++ before.sent) ≡ true)
      ⊎ HasFields before after i
  block_reported item (ConnectionFault code) credit i low here is on reported
      failed = absurd (on code refl)
  block_reported item (StreamFault code) credit i low here is on reported
      failed =
      inl (fault_resets before.role i credit before.sent code item (block_stream i item here))
  block_reported item NoEvent credit i low here is on reported failed =
      let silent = subst (Says (IsFaulty before item) (IsUnreported before item)
      (IsSaid before item)) is
      (says_of _ _ _ before decoded item (rules_say before decoded item low)) in
      inl (closed_more before.role i _ before.sent (silent_closed before item i here silent))
  block_reported item Reported credit i low here is on reported failed =
      inr (fields_reported before after decoded item i here reported failed)

  -- An item that was read, by whether it is a block of the stream.
  read_opens : (item : Item) (verdict : Verdict) (credit : List Item) (i : ℕ) → LogIsLow before
      → verdict_of (log_view before) decoded item ≡ verdict
      → ((code : Code) → verdict ≡ ConnectionFault code → ⊥) → IsCredit credit
      → Adds before after (item ∷ []) (credit ++ replies_to verdict item)
      (events_of (log_view before) decoded verdict item)
      → after.failed ≡ before.failed → active after i ≡ true → (is_block_on i item ≡ true)
      ⊎ (is_block_on i item ≡ false) → (active before i ≡ true) ⊎ HasFields before after i
  read_opens item verdict credit i low is on is_credit adds failed alive (inl here) =
      elim (block_reported item verdict credit i low here is on adds.reported failed) [
        | inl closed ↦ absurd (both_ways _ (closed_inactive i before.role _ _ _ closed)
            (sym (active_added before after (item ∷ []) _ _ i adds) ∙ alive))
        | inr fields ↦ inr fields
      ]
  read_opens item verdict credit i low is on is_credit adds failed alive (inr other) =
      inl (was_active before after (item ∷ []) _ _ i adds (λ server. or_from _ _ other refl)
      (λ client. none_both (is_block_on i) credit _ (credit_without_block i credit is_credit)
      (replies_no_block i verdict item)) alive)

  -- A stream that is active after a frame was so before, or fields of it are reported.
  pub frame_opens : (i : ℕ) → AfterFrame before decoded after
      → (before.failed ≡ after.failed → LogIsLow before) → active after i ≡ true
      → (active before i ≡ true) ⊎ HasFields before after i
  frame_opens i (stays_same adds failed) low alive =
      inl (was_active before after [] [] [] i adds (λ server. refl) (λ client. refl) alive)
  frame_opens i (has_broken code last up adds failed) low alive =
      inl (was_active before after [] _ [] i adds (λ server. refl)
      (λ client. goaway_no_block i last (code_number code)) alive)
  frame_opens i (has_read item verdict credit is on is_credit adds failed) low
      alive = read_opens item verdict credit i (low (sym failed)) is on is_credit adds
      failed alive (cases_Bool (is_block_on i item))
