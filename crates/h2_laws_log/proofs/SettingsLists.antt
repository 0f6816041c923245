-- Settings that were read, and own ones that are in force.
use Rattle.std.proofs.lemmas.List.{take_all, take-append-le}
use Rattle.h2_spec_log.specs.Settings.{settings_of, value_after_all}
use Rattle.h2_laws_log.proofs.Names
use Names.{ap, Settings, Item, alone, block, value_read, value_after, one_settings, settings_count}
use Names.{own_value, one_ack, total, Log, acked, HasAcknowledged, IsReader, Role, Client, Server}
use Names.{Values, opening_pairs, changed_pairs, with_max_frame, max_list, ◌≡◌, ◌⊎◌, ℕ, ◌+◌, ◌≤◌}
use Names.{◌==◌, ◌&&◌, not, Bool, true, false, if◌then◌else◌, List, [], ◌∷◌, ◌++◌, length, refl}
use Names.{sym, ◌∙◌, inl, inr, arith, length-append, rules}
use Rattle.h2_laws_log.proofs.ItemLists.{settings_after}

-- An item is SETTINGS that are no acknowledgment, or counts as none.
pub settings_or : (item : Item) → ((pairs : List (ℕ × ℕ)) × (item
    ≡ alone (Settings false pairs))) ⊎ (one_settings item ≡ 0)
unfolding one_settings
settings_or (block stream end octets) = inr refl
settings_or (alone (Settings false pairs)) = inl (pairs, refl)
settings_or (alone frame) = inr refl

-- What counts as no SETTINGS changes no value.
pub value_kept : (id first : ℕ) (item : Item) (items : List Item) → one_settings item ≡ 0
    → value_read id first (item ∷ items) ≡ value_read id first items
unfolding one_settings value_read
value_kept id first (block stream end octets) items none = refl
value_kept id first (alone (Settings false pairs)) items none = absurd (omega arith)
value_kept id first (alone frame) items none = refl

-- SETTINGS change each value that they name.
pub value_changed : (id first : ℕ) (pairs : List (ℕ × ℕ)) (items : List Item)
    → value_read id first (alone (Settings false pairs) ∷ items)
    ≡ value_after id (value_read id first items) pairs
unfolding value_read
value_changed id first pairs items = refl

-- A value by the test whether it is named, where the greatest frame isn't.
not_named : (named : Bool) (max_frame before : ℕ)
    → (if named && false then max_frame else before) ≡ before
not_named true max_frame before = refl
not_named false max_frame before = refl

-- The same where it is.
is_named : (named : Bool) (max_frame before : ℕ)
    → (if named && true then max_frame else before) ≡ (if named then max_frame else before)
is_named true max_frame before = refl
is_named false max_frame before = refl

-- A value after the greatest frame, by the test whether it is the one that was written.
value_named_by : (id before max_frame : ℕ) (pairs : List (ℕ × ℕ)) (same : Bool)
    → value_after id before (if same then pairs else (5, max_frame) ∷ pairs)
    ≡ value_after id (if 5 == id && not same then max_frame else before) pairs
unfolding value_after
value_named_by id before max_frame pairs true =
    ap (λ (value : ℕ). value_after id value pairs) (sym (not_named (5 == id) max_frame before))
value_named_by id before max_frame pairs false =
    ap (λ (value : ℕ). value_after id value pairs) (sym (is_named (5 == id) max_frame before))

-- The greatest frame changes its own value alone, and where it isn't the one that was written.
pub value_named : (id before written max_frame : ℕ) (pairs : List (ℕ × ℕ))
    → value_after id before (with_max_frame written max_frame pairs)
    ≡ value_after id (if 5 == id && not (max_frame == written) then max_frame else before) pairs
unfolding with_max_frame
value_named id before written max_frame pairs = search (rules, value_named_by)

-- Where the greatest frame differs from what was written it is named, and otherwise it is that.
frame_named : (written max_frame : ℕ)
    → (if not (max_frame == written) then max_frame else written) ≡ max_frame
frame_named written max_frame = search rules

-- An opening sets the greatest frame.
pub opening_frame : (role : Role) (values : Values)
    → value_after 5 16384 (opening_pairs role values) ≡ values.max_frame
unfolding value_after opening_pairs
opening_frame Client values =
    value_named 5 16384 16384 values.max_frame ((6, max_list) ∷ [])
    ∙ frame_named 16384 values.max_frame
opening_frame Server values =
    value_named 5 16384 16384 values.max_frame ((6, max_list) ∷ [])
    ∙ frame_named 16384 values.max_frame

-- A change sets it, where the one that was written last was in force.
pub changed_frame : (role : Role) (written : ℕ) (values : Values)
    → value_after 5 written (changed_pairs role written values) ≡ values.max_frame
unfolding value_after changed_pairs
changed_frame Client written values =
    value_named 5 written written values.max_frame [] ∙ frame_named written values.max_frame
changed_frame Server written values =
    value_named 5 written written values.max_frame [] ∙ frame_named written values.max_frame

-- SETTINGS that are no acknowledgment count as one
pub settings_one : (pairs : List (ℕ × ℕ)) → one_settings (alone (Settings false pairs)) ≡ 1
unfolding one_settings
settings_one pairs = refl

-- The count of a list with one item more.
pub count_next : (item : Item) (items : List Item) → settings_count (item ∷ items)
    ≡ one_settings item + settings_count items
unfolding settings_count
count_next item items = refl

-- The count of no items.
pub count_none : settings_count [] ≡ 0
unfolding settings_count
count_none = refl

-- The pairs of one SETTINGS more stand after the others.
settings_next : (pairs : List (ℕ × ℕ)) (items : List Item)
    → settings_of (alone (Settings false pairs) ∷ items) ≡ settings_of items ++ pairs ∷ []
unfolding settings_of
settings_next pairs items = refl

-- What counts as no SETTINGS adds none.
settings_kept : (item : Item) (items : List Item) → one_settings item ≡ 0
    → settings_of (item ∷ items) ≡ settings_of items
unfolding one_settings settings_of
settings_kept (block stream end octets) items none = refl
settings_kept (alone (Settings false pairs)) items none = absurd (omega arith)
settings_kept (alone frame) items none = refl

-- There are as many as are counted.
settings_counted : (items : List Item) → length (settings_of items) ≡ settings_count items
unfolding settings_of
settings_counted [] = sym count_none
settings_counted (item ∷ items) =
    let older = settings_counted items in
    let counted = count_next item items in
    elim (settings_or item) [
      | inl (pairs, is) ↦
          let one : one_settings item ≡ 1 = rw is (settings_one pairs) in
          ap (λ (item : Item). length (settings_of (item ∷ items))) is
          ∙ ap length (settings_next pairs items) ∙ length-append (settings_of items) (pairs ∷ [])
          ∙ omega (arith, older, one, counted)
      | inr none ↦ ap length (settings_kept item items none) ∙ omega (arith, older, none, counted)
    ]

-- The value after one SETTINGS more.
after_one_more : (id first : ℕ) (settings : List (List (ℕ × ℕ))) (pairs : List (ℕ × ℕ))
    → value_after_all id first (settings ++ pairs ∷ [])
    ≡ value_after id (value_after_all id first settings) pairs
unfolding value_after_all
after_one_more id first [] pairs = refl
after_one_more id first (one ∷ settings) pairs =
    after_one_more id (value_after id first one) settings pairs

-- The value after all SETTINGS of a list is the one that was read.
after_all : (id first : ℕ) (items : List Item)
    → value_after_all id first (settings_of items) ≡ value_read id first items
unfolding settings_of value_after_all value_read
after_all id first [] = refl
after_all id first (item ∷ items) = elim (settings_or item) [
  | inl (pairs, is) ↦
      rw (
        is,
        settings_next pairs items,
        after_one_more id first (settings_of items) pairs,
        after_all id first items,
        value_changed id first pairs items,
      ) refl
  | inr none ↦
      rw (settings_kept item items none, value_kept id first item items none)
      (after_all id first items)
]

-- Where all SETTINGS of a list are acknowledged, an own value is the one that was written last.
pub own_of_all : (id first count : ℕ) (items : List Item) → settings_count items ≤ count
    → own_value id first count items ≡ value_read id first items
own_of_all id first count items all =
    rw (take_all count (settings_of items) (omega (arith, settings_counted items, all)))
    (after_all id first items)

-- What isn't SETTINGS that are acknowledged leaves an own value.
pub own_next : (id first count : ℕ) (item : Item) (items : List Item)
    → (one_settings item ≡ 1 → count ≤ settings_count items)
    → own_value id first count (item ∷ items) ≡ own_value id first count items
own_next id first count item items above = elim (settings_or item) [
  | inl (pairs, is) ↦
      let one : one_settings item ≡ 1 = rw is (settings_one pairs) in
      rw (
        is,
        settings_next pairs items,
        take-append-le count (settings_of items) (pairs ∷ [])
            (omega (arith, settings_counted items, above one)),
      ) refl
  | inr none ↦ rw (settings_kept item items none) refl
]

-- So do more items, where no more SETTINGS are acknowledged than were written before them.
pub own_older : (id first count : ℕ) (newer older : List Item) → count ≤ settings_count older
    → own_value id first count (newer ++ older) ≡ own_value id first count older
own_older id first count [] older within = refl
own_older id first count (item ∷ newer) older within =
    own_next _ _ _ _ (newer ++ older) (λ one. omega (arith, within, settings_after newer older)) ∙
    own_older id first count newer older within

-- What the reader knows to be acknowledged is all that the writer has read.
pub acked_all : (role : Role) (received sent unread : List Item) (log : Log)
    → HasAcknowledged received sent → IsReader role received sent unread log
    → acked log ≡ settings_count received
acked_all role received sent unread log returned reader = reader.awaited
    ∙ ap (λ (items : List Item). total one_ack items) reader.read ∙ returned

-- A value that was read last is the one in force at the reader.
pub limits_lem : (id first : ℕ) (role : Role) (received sent unread : List Item) (log : Log)
    → HasAcknowledged received sent → IsReader role received sent unread log
    → own_value id first (acked log) log.sent ≡ value_read id first received
limits_lem id first role received sent unread log returned reader =
    let all = acked_all role received sent unread log returned reader in
    ap (λ (items : List Item). own_value id first (acked log) items) reader.written
    ∙ own_older id first (acked log) unread received (omega (arith, all))
    ∙ own_of_all id first (acked log) received (omega (arith, all))
