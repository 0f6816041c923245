-- What of a log concerns numbers that were not used; and which numbers were.
use Rattle.h2_laws_machine.proofs.Names
use Names.{◌≡◌, ◌≢◌, ℕ, ◌≤◌, ◌<◌, ◌%◌, ◌==◌, nat_le, Bool, true, false, ◌&&◌, ◌||◌, List, [], ◌∷◌}
use Names.{◌++◌, refl, sym, ◌∙◌, subst, inl, inr, arith, list_any, both_ways, or_cases, or_left}
use Names.{or_right, and_from, eqb-true, eq-eqb, ne_eqb, cases_eq, leb-false, false_from_ne_true}
use Names.{Data, Settings, Item, alone, block, Role, data_on, is_block_on, opens_from, ends, total}
use Names.{greatest_block, openings, is_used, AllowedHistory, active_parts, active_used, total_one}
use Names.{opens_low, or_from, starts, reads, writes, Allowed, both_same}
use Rattle.std.proofs.lemmas.Bool.{le-leb, leb-true}
use Rattle.h2_laws_log.proofs.ReplyInvariant.{used_more}
use Rattle.h2_laws_log.proofs.InvariantCalls.{odd_some}
use Rattle.h2_laws_log.proofs.StreamNumbers.{opening_uses}
use Rattle.h2_laws_machine.proofs.OneItemMore.{any_quiet}

-- All blocks have odd numbers.
abbrev pub AreOdd : List Item → Type 0
AreOdd items = (i : ℕ) → list_any (is_block_on i) items ≡ true → i % 2 ≡ 1

-- Where all do, a number that is no greater than the greatest is one from which a block opens.
opens_from_odd : (i : ℕ) (items : List Item) → i ≢ 0 → AreOdd items → i ≤ greatest_block items
    → list_any (opens_from i) items ≡ true
unfolding opens_from greatest_block is_block_on
opens_from_odd i [] some odd low = absurd (omega (arith, low, some))
opens_from_odd i (alone frame ∷ items) some odd low =
    opens_from_odd i items some (λ j here. odd j here) low
opens_from_odd i (block stream end octets ∷ items) some odd low =
    by (nat_le i stream) refl
    (λ below. opens_from_odd i items some (λ j here. odd j (or_right _ _ here)) below)
  where
    by : (b : Bool) → nat_le i stream ≡ b
        → (i ≤ greatest_block items → list_any (opens_from i) items ≡ true)
        → ((stream % 2 == 1 && nat_le i stream) || list_any (opens_from i) items) ≡ true
    by true is others =
        or_left _ _ (and_from _ _ (eq-eqb (stream % 2) 1 (odd stream (or_left _ _ (eq-eqb stream
        stream refl)))) is)
    by false is others =
        let high : stream < i = leb-false i stream is in
        or_right _ _ (others (omega (arith, low, high)))

-- So a number was used just where it is odd and no greater than the greatest.
pub used_is : (role : Role) (i : ℕ) (received sent : List Item)
    → AreOdd (openings role received sent)
    → is_used role i received sent
    ≡ (i % 2 == 1 && nat_le i (greatest_block (openings role received sent)))
unfolding is_used
used_is role i received sent odd = by (i % 2 == 1) refl where
  by : (b : Bool) → (i % 2 == 1) ≡ b
      → (b && list_any (opens_from i) (openings role received sent))
      ≡ (b && nat_le i (greatest_block (openings role received sent)))
  by false is = refl
  by true is =
      both_same _ _ (λ some. le-leb i _ (opens_low i (openings role received sent) some))
      (λ low. opens_from_odd i (openings role received sent) (odd_some i is) odd
      (leb-true i _ low))

-- Blocks that a client writes have odd numbers.
block_odd : (role : Role) (i : ℕ) (received sent : List Item) (item : Item)
    → Allowed role received sent item → is_block_on i item ≡ true → i % 2 ≡ 1
unfolding is_block_on
block_odd role i received sent (alone frame) allowed here = absurd (both_ways false refl here)
block_odd role i received sent (block stream end octets) allowed here =
    let same : stream ≡ i = eqb-true stream i here in
    rw (← same) (elim allowed.1 [
      | inl may ↦ may.odd
      | inr goes ↦ eqb-true (stream % 2) 1
          (active_parts role stream received sent [] goes.active).odd
    ])

-- a test that an opening doesn't pass
settings_no_block : (i : ℕ) (pairs : List (ℕ × ℕ))
    → is_block_on i (alone (Settings false pairs)) ≡ false
unfolding is_block_on
settings_no_block i pairs = refl

-- All that were written do.
pub written_odd : (role : Role) (received sent : List Item) → AllowedHistory role received sent
    → AreOdd sent
written_odd role _ _ (starts values ok) i here =
    absurd (both_ways _ (or_from _ _ (settings_no_block i _) refl) here)
written_odd role _ sent (reads {received = received} item with_sent) i here =
    written_odd role received sent with_sent i here
written_odd role received _ (writes {sent = sent} item with_sent allowed) i here =
    elim (or_cases (is_block_on i item) (list_any (is_block_on i) sent) here) [
      | inl now ↦ block_odd role i received sent item allowed now
      | inr before ↦ written_odd role received sent with_sent i before
    ]

-- A number that wasn't used after more wasn't before.
pub unused_before : (role : Role) (i : ℕ) (news items received sent : List Item)
    → is_used role i (news ++ received) (items ++ sent) ≡ false
    → is_used role i received sent ≡ false
unused_before role i news items received sent unused =
    false_from_ne_true _ (λ used. both_ways _ unused
    (used_more role i news items received sent used))

-- Nothing was ended and no DATA sent.
abbrev pub IsUntouched : ℕ → List Item → Type 0
IsUntouched i items = (list_any (ends i) items ≡ false) × (total (data_on i) items ≡ 0)

-- an item that may be written doesn't concern a number that isn't used then
item_quiet : (role : Role) (i : ℕ) (received sent : List Item) (item : Item)
    → Allowed role received sent item → is_used role i received (item ∷ sent) ≡ false
    → (ends i item ≡ false) × (data_on i item ≡ 0)
unfolding ends data_on
item_quiet role i received sent (block stream end octets) allowed unused =
    elim (cases_eq stream i) [
      | inl same ↦
          let unused_here : is_used role stream received (block stream end octets ∷ sent) ≡ false =
          subst (λ (j : ℕ). is_used role j received (block stream end octets ∷ sent) ≡ false)
          (sym same) unused in
          elim allowed.1 [
            | inl may ↦ absurd (both_ways _ unused_here
                (opening_uses role stream end octets received sent may.client may.odd))
            | inr goes ↦ absurd (both_ways _ unused_here (used_more role stream []
                (block stream end octets ∷ []) received sent
                (active_used role stream received sent [] goes.active)))
          ]
      | inr other ↦ (rw (ne_eqb stream i other) refl, refl)
    ]
item_quiet role i received sent (alone (Data stream end octets pad)) allowed unused =
    elim (cases_eq stream i) [
      | inl same ↦
          let unused_here : is_used role stream received (alone (Data stream end octets pad) ∷ sent)
          ≡ false =
          subst (λ (j : ℕ). is_used role j received (alone (Data stream end octets pad) ∷ sent)
          ≡ false) (sym same) unused in
          absurd (both_ways _ unused_here (used_more role stream []
          (alone (Data stream end octets pad) ∷ []) received sent
          (active_used role stream received sent [] (allowed.1).goes_on.active)))
      | inr other ↦ (rw (ne_eqb stream i other) refl, rw (ne_eqb stream i other) refl)
    ]
item_quiet role i received sent (alone frame) allowed unused = (refl, refl)

-- A number that wasn't used was neither ended nor sent DATA on.
pub sent_quiet : (role : Role) (i : ℕ) (received sent : List Item)
    → AllowedHistory role received sent → is_used role i received sent ≡ false → IsUntouched i sent
unfolding ends data_on total
sent_quiet role i _ _ (starts values ok) unused = (refl, refl)
sent_quiet role i _ sent (reads {received = received} item with_sent) unused =
    sent_quiet role i received sent with_sent
    (unused_before role i (item ∷ []) [] received sent unused)
sent_quiet role i received _ (writes {sent = sent} item with_sent allowed) unused =
    let here = item_quiet role i received sent item allowed unused in
    let before = sent_quiet role i received sent with_sent
    (unused_before role i [] (item ∷ []) received sent unused) in (
      any_quiet (ends i) item sent here.0 ∙ before.0,
      omega (arith, total_one (data_on i) item sent, here.1, before.1),
    )
