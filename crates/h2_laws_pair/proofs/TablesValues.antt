-- The table limits of SETTINGS, by their pairs alone: where as many were acknowledged as were read,
-- the limit in force at their sender is the value that was read last.
use Rattle.h2_laws_pair.proofs.Names.{◌≡◌, ℕ, false, List, [], ◌∷◌, ◌++◌, length, refl, sym, ap}
use Rattle.h2_laws_pair.proofs.Names.{◌∙◌, inl, inr, arith, length-append, Settings, Item, alone}
use Rattle.h2_laws_pair.proofs.Names.{value_read, one_settings, settings_count, own_value}
use Rattle.h2_laws_pair.proofs.Names.{settings_received}
use Rattle.h2_spec_log.specs.Settings.{value_after, settings_of, value_after_all}
use Rattle.h2_laws_log.proofs.SettingsLists.{settings_or, value_kept, value_changed, settings_one}
use Rattle.h2_laws_log.proofs.SettingsLists.{own_next, own_of_all, count_next, count_none}

-- the table limit after SETTINGS with these pairs, the newest first; 4,096 before any
abbrev pub limit_after : List (List (ℕ × ℕ)) → ℕ
limit_after [] = 4096
limit_after (pairs ∷ settings) = value_after 1 (limit_after settings) pairs

-- The pairs of SETTINGS stand before the others.
pub pairs_next : (pairs : List (ℕ × ℕ)) (items : List Item)
    → settings_received (alone (Settings false pairs) ∷ items) ≡ pairs ∷ settings_received items
unfolding settings_received
pairs_next pairs items = refl

-- What counts as no SETTINGS adds none.
pub pairs_kept : (item : Item) (items : List Item) → one_settings item ≡ 0
    → settings_received (item ∷ items) ≡ settings_received items
unfolding one_settings settings_received
pairs_kept (alone (Settings false pairs)) items none = absurd (omega arith)
pairs_kept item items none = refl

-- No items have none.
pub pairs_none : settings_received [] ≡ []
unfolding settings_received
pairs_none = refl

-- There are as many as SETTINGS.
pub pairs_counted : (items : List Item) → length (settings_received items) ≡ settings_count items
pairs_counted [] = ap length pairs_none ∙ sym count_none
pairs_counted (item ∷ items) =
    let older = pairs_counted items in
    elim (settings_or item) [
      | inl (pairs, is) ↦
          let one = settings_one pairs in
          rw (is, pairs_next pairs items)
          (omega (arith, older, one, count_next (alone (Settings false pairs)) items))
      | inr none ↦ rw (pairs_kept _ _ none) (omega (arith, older, none, count_next item items))
    ]

-- Those of more items stand before those of the others.
pub pairs_append : (newer older : List Item) → settings_received (newer ++ older)
    ≡ settings_received newer ++ settings_received older
pairs_append [] older = rw pairs_none refl
pairs_append (item ∷ newer) older = elim (settings_or item) [
  | inl (pairs, is) ↦
      rw (is, pairs_next pairs (newer ++ older), pairs_next pairs newer, pairs_append newer older)
      refl
  | inr none ↦
      rw (
        pairs_kept item (newer ++ older) none,
        pairs_kept item newer none,
        pairs_append newer older,
      ) refl
]

-- The value that was read last is the limit after all.
pub limit_read : (items : List Item) → value_read 1 4096 items
    ≡ limit_after (settings_received items)
unfolding value_read
limit_read [] = rw pairs_none refl
limit_read (item ∷ items) = elim (settings_or item) [
  | inl (pairs, is) ↦
      rw (is, value_changed 1 4096 pairs items, pairs_next pairs items, limit_read items) refl
  | inr none ↦ rw (value_kept 1 4096 item items none, pairs_kept item items none) (limit_read items)
]

-- Where the oldest so many of SETTINGS were acknowledged, the limit in force is that after these:
-- the newest ones may be among them, or not.
limit_at_settings : (pairs : List (ℕ × ℕ)) (items : List Item) (newer older : List (List (ℕ × ℕ)))
    → settings_received (alone (Settings false pairs) ∷ items) ≡ newer ++ older
    → ((newer : List (List (ℕ × ℕ))) → settings_received items ≡ newer ++ older
    → own_value 1 4096 (length older) items ≡ limit_after older)
    → own_value 1 4096 (length older) (alone (Settings false pairs) ∷ items) ≡ limit_after older
limit_at_settings pairs items [] older is before =
    let newest = alone (Settings false pairs) in
    let counted = pairs_counted (newest ∷ items) in
    let same = ap length is in
    own_of_all 1 4096 (length older) (newest ∷ items) (omega (arith, counted, same))
    ∙ limit_read (newest ∷ items) ∙ ap limit_after is
limit_at_settings pairs items (first ∷ newer) older is before =
    let newest = alone (Settings false pairs) in
    let next = pairs_next pairs items in
    let others : settings_received items ≡ newer ++ older = cc in
    let same = ap length others in
    own_next 1 4096 (length older) newest items
    (λ one. omega (arith, same, pairs_counted items, length-append newer older))
    ∙ before newer others

-- Before any the limit is 4,096.
at_first : own_value 1 4096 0 [] ≡ 4096
unfolding settings_of value_after_all
at_first = refl

-- Where the oldest so many of SETTINGS were acknowledged, the limit in force is that after these.
pub limit_in_force : (items : List Item) (newer older : List (List (ℕ × ℕ)))
    → settings_received items ≡ newer ++ older
    → own_value 1 4096 (length older) items ≡ limit_after older
limit_in_force [] [] [] is = at_first
limit_in_force [] newer older is = let none = pairs_none in absurd (cc)
limit_in_force (item ∷ items) newer older is =
    elim (settings_or item) [
      | inl (pairs, same) ↦ rw same (limit_at_settings pairs items newer older (rw same at is)
          (λ newer others. limit_in_force items newer older others))
      | inr none ↦ own_next 1 4096 (length older) item items (λ one. absurd (omega arith))
          ∙ limit_in_force items newer older (sym (pairs_kept _ _ none) ∙ is)
    ]
