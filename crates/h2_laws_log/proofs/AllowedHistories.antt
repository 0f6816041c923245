-- The lists of what an end has read and written.
use Rattle.h2_spec_log.specs.Allowed.{Origin, IsOpening}
use Rattle.h2_laws_log.proofs.Names
use Names.{ap, cases_eq, eq-eqb, ne_eqb, Settings, WindowUpdate, Item, alone, block, Role, Client}
use Names.{Server, Values, AreInRange, total, data_on, increment_on, value_read, value_after}
use Names.{settings_count, own_value, max_list, opening_pairs, changed_pairs, Allowed}
use Names.{AllowedHistory, starts, reads, writes, ◌≡◌, ◌⊎◌, ◌≢◌, ℕ, ◌+◌, ◌≤◌, false, List, [], ◌∷◌}
use Names.{◌++◌, refl, inl, inr, arith, first_window, greatest_window, rules}
use Rattle.h2_laws_log.proofs.SettingsLists.{settings_or, value_kept, value_changed, value_named}
use Rattle.h2_laws_log.proofs.SettingsLists.{settings_one, count_next, count_none, own_next}
use Rattle.h2_laws_log.proofs.SettingsLists.{own_of_all}

-- an item of an opening is the opening
opening_first : (role : Role) (values : Values) → AreInRange values
    → (after before : List Item) (item : Item)
    → alone (Settings false (opening_pairs role values)) ∷ [] ≡ after ++ item ∷ before
    → IsOpening role before item
opening_first role values ok [] before item line = search rules
opening_first role values ok (first ∷ []) before item line = absurd (cc)
opening_first role values ok (first ∷ (second ∷ after)) before item line = absurd (cc)

-- one more item was read
origin_read : (role : Role) (received before : List Item) (item more : Item)
    → Origin role received before item ⊎ IsOpening role before item
    → Origin role (more ∷ received) before item ⊎ IsOpening role before item
origin_read role received before item more (inl from) =
    inl (record {
      unread = more ∷ from.unread;
      read = from.read;
      front = ap (λ (items : List Item). more ∷ items) from.front;
      with_sent = from.with_sent;
      allowed = from.allowed;
    })
origin_read role received before item more (inr opening) = inr opening

-- Each item that was written is the opening, or was allowed at a front of what was read.
pub origin_lem : (role : Role) (received sent after before : List Item) (item : Item)
    → AllowedHistory role received sent → sent ≡ after ++ item ∷ before
    → Origin role received before item ⊎ IsOpening role before item
origin_lem role _ _ after before item (starts values ok) line = inr
    (opening_first role values ok after before item line)
origin_lem role _ sent after before item (reads {received = received} more with_sent) line =
    origin_read role received before item more
    (origin_lem role received sent after before item with_sent line)
origin_lem role received _ [] before item (writes {sent = sent} last with_sent allowed) line =
    let same : last ≡ item = cc in
    let unparsed : sent ≡ before = cc in
    inl (record {
      unread = [];
      read = received;
      front = refl;
      with_sent = rw (← unparsed) with_sent;
      allowed = rw (← unparsed, ← same) allowed;
    })
origin_lem role received _ (first ∷ after) before item
    (writes {sent = sent} last with_sent allowed) line =
    origin_lem role received sent after before item with_sent (cc)

-- An opening sets the initial window.
pub opening_window : (role : Role) (values : Values) (before : ℕ)
    → value_after 4 before (opening_pairs role values) ≡ values.initial_window
unfolding value_after opening_pairs
opening_window Client values before =
    value_named 4 values.initial_window 16384 values.max_frame ((6, max_list) ∷ [])
opening_window Server values before =
    value_named 4 values.initial_window 16384 values.max_frame ((6, max_list) ∷ [])

-- A change sets the initial window.
pub changed_window : (role : Role) (written : ℕ) (values : Values) (before : ℕ)
    → value_after 4 before (changed_pairs role written values) ≡ values.initial_window
unfolding value_after changed_pairs
changed_window Client written values before =
    value_named 4 values.initial_window written values.max_frame []
changed_window Server written values before =
    value_named 4 values.initial_window written values.max_frame []

-- a change keeps the initial window within its bounds
allowed_window : (role : Role) (received sent : List Item) (item : Item)
    → Allowed role received sent item → value_read 4 first_window sent ≤ greatest_window
    → value_read 4 first_window (item ∷ sent) ≤ greatest_window
allowed_window role received sent item allowed within = elim (settings_or item) [
  | inl (pairs, is) ↦
      let may = (rw is at allowed).1 in
      let written = value_read 5 16384 sent in
      let set = changed_window role written may.values (value_read 4 first_window sent) in
      rw (is, value_changed 4 first_window pairs sent, may.changed, set)
      (may.in_range).initial_window
  | inr none ↦ rw (value_kept 4 first_window item sent none) within
]

-- The initial window that an end has written is never above the greatest.
pub window_written : (role : Role) (received sent : List Item)
    → AllowedHistory role received sent → value_read 4 first_window sent ≤ greatest_window
window_written role _ _ (starts values ok) = search (rules, value_changed, opening_window)
window_written role _ sent
    (reads {received = received} item with_sent) = window_written role received sent with_sent
window_written role received _
    (writes {sent = sent} item with_sent allowed) = allowed_window role received sent item allowed
    (window_written role received sent with_sent)

-- An item is a WINDOW_UPDATE, or gives nothing.
increment_or : (item : Item) → ((stream increment : ℕ) × (item
    ≡ alone (WindowUpdate stream increment))) ⊎ ((i : ℕ) → increment_on i item ≡ 0)
unfolding increment_on
increment_or (block stream end octets) = inr (λ i. refl)
increment_or (alone (WindowUpdate stream increment)) = inl (stream, increment, refl)
increment_or (alone frame) = inr (λ i. refl)

-- a WINDOW_UPDATE gives its increment to its own stream
pub increment_here : (i increment : ℕ)
    → increment_on i (alone (WindowUpdate i increment)) ≡ increment
unfolding increment_on
increment_here i increment = rw (eq-eqb i i refl) refl

-- a WINDOW_UPDATE gives nothing to other streams
increment_elsewhere : (i stream increment : ℕ) → (stream ≡ i → ⊥)
    → increment_on i (alone (WindowUpdate stream increment)) ≡ 0
unfolding increment_on
increment_elsewhere i stream increment other = rw (ne_eqb stream i other) refl

module _ (role : Role) where
  -- what an item returns was read
  allowed_increment : (received sent : List Item) (item : Item) (i : ℕ) → i ≢ 0
      → Allowed role received sent item → total (increment_on i) sent ≤ total (data_on i) received
      → total (increment_on i) sent + increment_on i item ≤ total (data_on i) received
  allowed_increment received sent item i some allowed within = elim (increment_or item) [
    | inl (stream, increment, is) ↦ elim (cases_eq stream i) [
      | inl same ↦
          let may = (rw (is, same) at allowed).1 in
          rw (is, same, increment_here i increment) (may.read some)
      | inr other ↦ rw (is, increment_elsewhere i stream increment other) (omega arith)
    ]
    | inr none ↦ omega (arith, none i)
  ]

  -- No more of a stream's window is returned than was read on it.
  pub increments_read : (i : ℕ) → i ≢ 0 → (received sent : List Item)
      → AllowedHistory role received sent → total (increment_on i) sent ≤ total (data_on i) received
  unfolding total increment_on
  increments_read i some _ _ (starts values ok) = omega arith
  increments_read i some _ sent (reads {received = received} item with_sent) = omega
      (arith, increments_read i some received sent with_sent)
  increments_read i some received _ (writes {sent = sent} item with_sent allowed) =
      let more = allowed_increment received sent item i some allowed
      (increments_read i some received sent with_sent) in
      omega arith

  -- A part of what was written, from the oldest item on, is nothing or was written.
  pub wrote_front : (received more sent all : List Item) → AllowedHistory role received all
      → all ≡ more ++ sent → (sent ≡ []) ⊎ ((read : List Item) × AllowedHistory role read sent)
  wrote_front _ [] sent _ (starts values ok) line = inr ([], rw (← line) (starts values ok))
  wrote_front _ (first ∷ []) sent _ (starts values ok) line = inl (cc)
  wrote_front _ (first ∷ (second ∷ more)) sent _ (starts values ok) line = absurd (cc)
  wrote_front _ more sent all (reads {received = received} item with_sent) line =
      wrote_front received more sent all with_sent line
  wrote_front received [] sent _ (writes {sent = before} item with_sent allowed) line = inr
      (received, rw (← line) (writes item with_sent allowed))
  wrote_front received (first ∷ more) sent _ (writes {sent = before} item with_sent allowed) line =
      wrote_front received more sent before with_sent (cc)

-- An end has written SETTINGS.
pub wrote_settings : (role : Role) (received sent : List Item)
    → AllowedHistory role received sent → 1 ≤ settings_count sent
wrote_settings role _ _ (starts values ok) = omega (arith, count_next, settings_one)
wrote_settings role _ sent
    (reads {received = received} item with_sent) = wrote_settings role received sent with_sent
wrote_settings role received _ (writes {sent = sent} item with_sent allowed) = omega
    (arith, count_next item sent, wrote_settings role received sent with_sent)

-- A server's opening sets how many streams it takes.
opening_streams : (values : Values) (before : ℕ)
    → value_after 3 before (opening_pairs Server values) ≡ values.max_streams
unfolding value_after opening_pairs
opening_streams values before =
    value_named 3 values.max_streams 16384 values.max_frame ((6, max_list) ∷ [])

-- a number of streams doesn't hang on the first value, once one was read
allowed_streams : (item : Item) (sent : List Item) (first other : ℕ) → value_read 3 first sent
    ≡ value_read 3 other sent
    → value_read 3 first (item ∷ sent) ≡ value_read 3 other (item ∷ sent)
allowed_streams item sent first other same = search (rules, settings_or, value_changed, value_kept)

-- What a server has written names a number of streams, whatever the first value.
pub streams_named : (first other : ℕ) (received sent : List Item)
    → AllowedHistory Server received sent → value_read 3 first sent ≡ value_read 3 other sent
streams_named first other _ _ (starts values ok) = search (rules, value_changed, opening_streams)
streams_named first other _ sent
    (reads {received = received} item with_sent) = streams_named first other received sent with_sent
streams_named first other received _ (writes {sent = sent} item with_sent allowed) =
    allowed_streams item sent first other (streams_named first other received sent with_sent)

-- A server's first SETTINGS name 100 streams or more.
pub first_streams : (received sent : List Item) → AllowedHistory Server received sent
    → 100 ≤ own_value 3 100 1 sent
first_streams _ _ (starts values ok) =
    search (rules, own_of_all, count_none, count_next, settings_one, value_changed, opening_streams)
first_streams _ sent
    (reads {received = received} item with_sent) = first_streams received sent with_sent
first_streams received _ (writes {sent = sent} item with_sent allowed) =
    rw (own_next 3 100 1 item sent (λ one. omega
    (arith, wrote_settings Server received sent with_sent))) (first_streams received sent with_sent)
