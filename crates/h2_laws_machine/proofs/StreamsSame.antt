-- When the streams that an end keeps are those of another log too: the two logs say the same of
-- each number, or of all but one.
use Rattle.std.specs.FinMap as map
use Rattle.h2_laws_machine.proofs.Names
use Names.{◌≡◌, ◌≢◌, ℕ, zero, suc, ◌≤◌, ◌<◌, ◌+◌, ◌-◌, ◌%◌, Bool, true, ℤ, refl, sym, ◌∙◌, inl, inr}
use Names.{false, arith, cases_eq, eqb-true, resets, total, openings, StreamMap, Streams, entry_by}
use Names.{list_any, active_entry, active_parts, get_set_other, get_removed_same, get_removed_other}
use Names.{one_reset, count_below, StreamView, StreamEntry, reset_entry, block_below, get_set_same}
use Rattle.h2_laws_machine.proofs.LogCore.{Core, said, AreSaid, StreamsOf, active_by_items}
use Rattle.h2_laws_machine.proofs.LogCore.{greatest_used, processed}

-- Entries are the same by their parts.
entry_same : (l k w v : Bool) (s t : StreamView) → l ≡ k → w ≡ v → (k ≡ true → s ≡ t)
    → entry_by l w s ≡ entry_by k v t
entry_same true true w v s t active was stream = rw (stream refl) refl
entry_same false false true true s t active was stream = refl
entry_same false false false false s t active was stream = refl
entry_same b d w v s t active was stream = absurd (cc)

-- a stream of its parts
abbrev parts : (send_window recv_window : ℤ) (owed : ℕ) (ended_in ended_out : Bool) → StreamView
parts send_window recv_window owed ended_in ended_out = record {
  send_window = send_window;
  recv_window = recv_window;
  owed = owed;
  ended_in = ended_in;
  ended_out = ended_out;
}

-- Streams of the same parts are the same.
parts_same : (r r' c c' : ℤ) (o o' : ℕ) (i i' f f' : Bool) → r ≡ r' → c ≡ c' → o ≡ o' → i ≡ i'
    → f ≡ f' → parts r c o i f ≡ parts r' c' o' i' f'
parts_same r r' c c' o o' i i' f f' one two three four five = rw (one, two, three, four, five) refl

-- Streams are the same by their parts.
pub same_stream : (s t : StreamView) → s.send_window ≡ t.send_window → s.recv_window ≡ t.recv_window
    → s.owed ≡ t.owed → s.ended_in ≡ t.ended_in → s.ended_out ≡ t.ended_out → s ≡ t
same_stream s t one two three four five =
    parts_same s.send_window t.send_window s.recv_window t.recv_window s.owed t.owed s.ended_in
    t.ended_in s.ended_out t.ended_out one two three four five

-- One log says the same of a number as another.
pub record SameAt (i : ℕ) (c d : Core) : Type 0 where
  pub active : active_by_items d i ≡ active_by_items c i
  pub was_reset : list_any (resets i) d.sent ≡ list_any (resets i) c.sent
  pub stream : active_by_items c i ≡ true → said d i ≡ said c i

-- What is kept of a number is what the other log says.
pub kept_at : (streams : StreamMap) (i : ℕ) (c d : Core) → SameAt i c d
    → map.get streams i ≡ entry_by (active_by_items c i) (list_any (resets i) c.sent) (said c i)
    → map.get streams i ≡ entry_by (active_by_items d i) (list_any (resets i) d.sent) (said d i)
kept_at streams i c d same kept =
    kept ∙ sym (entry_same (active_by_items d i) (active_by_items c i) (list_any (resets i) d.sent)
    (list_any (resets i) c.sent) (said d i) (said c i) same.active same.was_reset same.stream)

-- Counts of the same tests are the same.
pub count_same : (n : ℕ) (f g : ℕ → Bool) → ((j : ℕ) → f j ≡ g j) → count_below n f ≡ count_below n
    g
unfolding count_below
count_same zero f g same = refl
count_same (suc n) f g same = rw (same n, count_same n f g same) refl

-- Counts below a number of tests that differ only from it on are the same.
pub count_apart : (m i : ℕ) (f g : ℕ → Bool) → m ≤ i → ((j : ℕ) → j ≢ i → f j ≡ g j) → count_below m
    f
    ≡ count_below m g
unfolding count_below
count_apart zero i f g below same = refl
count_apart (suc m) i f g below same = rw (
  same m (λ at. omega (arith, at, below)),
  count_apart m i f g (omega (arith, below)) same,
) refl

-- Where one number less passes, the count is one less.
count_less : (n i : ℕ) (f g : ℕ → Bool) → i < n → ((j : ℕ) → j ≢ i → f j ≡ g j) → g i ≡ true
    → f i ≡ false → count_below n f + 1 ≡ count_below n g
unfolding count_below
count_less zero i f g below same was is = absurd (omega (arith, below))
count_less (suc n) i f g below same was is = elim (cases_eq i n) [
  | inl here ↦
      let now : f n ≡ false = rw (← here) is in
      let before : g n ≡ true = rw (← here) was in
      let unparsed : count_below n f ≡ count_below n g = count_apart n n f g (omega arith)
      (λ j other. same j (λ at. other (at ∙ here))) in
      rw (now, before) (omega (arith, unparsed))
  | inr other ↦
      let here : f n ≡ g n = same n (λ at. other (sym at)) in
      rw here (omega (arith, count_less n i f g (omega (arith, below, other)) same was is))
]

-- What is active has a number other than 0.
pub active_some : (c : Core) (i : ℕ) → active_by_items c i ≡ true → i ≢ 0
active_some c i alive none =
    let odd : i % 2 ≡ 1 = eqb-true (i % 2) 1 (active_parts c.role i c.received c.sent c.reported
    alive).odd in absurd (omega (arith, odd, none))

module _ (streams : StreamMap) (i : ℕ) where
  -- A stream is set: it is active, and others are as they were.
  pub said_set : (stream : StreamView) (c d : Core) → AreSaid streams c
      → ((j : ℕ) → j ≢ i → SameAt j c d) → active_by_items d i ≡ true → stream ≡ said d i
      → AreSaid (map.insert streams i (active_entry stream)) d
  said_set stream c d are same active is j = elim (cases_eq j i) [
    | inl here ↦ rw (here, active, is) (get_set_same streams i (active_entry (said d i)))
    | inr other ↦ get_set_other streams i (active_entry stream) j other ∙ kept_at streams j c d
        (same j other) (are j)
  ]

  -- A stream is removed: it isn't active and wasn't reset, and others are as they were.
  pub said_removed : (c d : Core) → AreSaid streams c → ((j : ℕ) → j ≢ i → SameAt j c d)
      → active_by_items d i ≡ false → list_any (resets i) d.sent ≡ false
      → AreSaid (map.remove streams i) d
  said_removed c d are same dead kept j = elim (cases_eq j i) [
    | inl here ↦ rw (here, dead, kept) (get_removed_same streams i)
    | inr other ↦ get_removed_other streams i j other ∙ kept_at streams j c d (same j other) (are j)
  ]

  -- A stream is reset: it isn't active, and others are as they were.
  pub said_reset : (c d : Core) → AreSaid streams c → ((j : ℕ) → j ≢ i → SameAt j c d)
      → active_by_items d i ≡ false → list_any (resets i) d.sent ≡ true
      → AreSaid (map.insert streams i reset_entry) d
  said_reset c d are same dead was j = elim (cases_eq j i) [
    | inl here ↦ rw (here, dead, was) (get_set_same streams i reset_entry)
    | inr other ↦ get_set_other streams i reset_entry j other ∙ kept_at streams j c d (same j other)
        (are j)
  ]

  -- A stream is set and removed at once: it isn't active and wasn't reset, and others are as they
  -- were.
  pub said_over : (x : StreamEntry) (c d : Core) → AreSaid streams c
      → ((j : ℕ) → j ≢ i → SameAt j c d) → active_by_items d i ≡ false
      → list_any (resets i) d.sent ≡ false → AreSaid (map.remove (map.insert streams i x) i) d
  said_over x c d are same dead kept j = elim (cases_eq j i) [
    | inl here ↦ rw (here, dead, kept) (get_removed_same (map.insert streams i x) i)
    | inr other ↦
        get_removed_other (map.insert streams i x) i j other ∙ get_set_other streams i x j other
        ∙ kept_at streams j c d (same j other) (are j)
  ]

-- The log says the same of a number in two steps.
pub same_both : (j : ℕ) (c d f : Core) → SameAt j c d → SameAt j d f → SameAt j c f
same_both j c d f one two = record {
  active = two.active ∙ one.active;
  was_reset = two.was_reset ∙ one.was_reset;
  stream = λ alive. two.stream (one.active ∙ alive) ∙ one.stream alive;
}

-- Where a log says the same of every number, the streams are its.
pub streams_same : (s : Streams) (c d : Core) → ((j : ℕ) → SameAt j c d)
    → greatest_used d ≡ greatest_used c → processed d ≡ processed c
    → total one_reset d.sent ≡ total one_reset c.sent → StreamsOf s c → StreamsOf s d
streams_same s c d same greatest shown count g = record {
  entries = λ j. kept_at s.entries j c d (same j) (g.entries j);
  active_count = rw greatest (g.active_count ∙ sym (count_same _ _ _ (λ j. (same j).active)));
  highest = g.highest ∙ sym greatest;
  last_processed = g.last_processed ∙ sym shown;
  resets = g.resets ∙ sym count;
}

-- A stream that continues is set: the log says the same of all others.
pub streams_set : (s : Streams) (i : ℕ) (stream : StreamView) (c d : Core)
    → ((j : ℕ) → j ≢ i → SameAt j c d) → active_by_items c i ≡ true → active_by_items d i ≡ true
    → stream ≡ said d i → greatest_used d ≡ greatest_used c → processed d ≡ processed c
    → total one_reset d.sent ≡ total one_reset c.sent → StreamsOf s c
    → StreamsOf (record s { entries = map.insert s.entries i (active_entry stream) }) d
streams_set s i stream c d same was active is greatest shown count g =
    let still : (j : ℕ) → active_by_items d j ≡ active_by_items c j = λ j. elim (cases_eq j i) [
      | inl here ↦ rw here (active ∙ sym was)
      | inr other ↦ (same j other).active
    ] in
    record {
      entries = said_set s.entries i stream c d g.entries same active is;
      active_count = rw greatest (g.active_count ∙ sym (count_same _ _ _ still));
      highest = g.highest ∙ sym greatest;
      last_processed = g.last_processed ∙ sym shown;
      resets = g.resets ∙ sym count;
    }

-- Where a stream was active and isn't, the count is one less.
one_less : (c d : Core) (i n : ℕ) → greatest_used d ≡ greatest_used c
    → ((j : ℕ) → j ≢ i → SameAt j c d) → active_by_items c i ≡ true → active_by_items d i ≡ false
    → n ≡ count_below (greatest_used c + 1) (active_by_items c)
    → n - 1 ≡ count_below (greatest_used d + 1) (active_by_items d)
one_less c d i n greatest same alive dead is =
    let less : count_below (greatest_used c + 1) (active_by_items d) + 1 ≡ count_below
    (greatest_used c + 1) (active_by_items c) =
    count_less (greatest_used c + 1) i (active_by_items d) (active_by_items c) (omega (
      arith,
      block_below i (openings c.role c.received c.sent) (active_parts c.role i
          c.received c.sent c.reported alive).opened,
    )) (λ j other. (same j other).active) alive dead in
    rw greatest (omega (arith, less, is))

-- A stream is closed, or reset: the log says the same of all others.
pub streams_closed : (s : Streams) (i : ℕ) (entries : StreamMap) (resets : ℕ) (c d : Core)
    → ((j : ℕ) → j ≢ i → SameAt j c d) → active_by_items c i ≡ true → active_by_items d i ≡ false
    → AreSaid entries d → greatest_used d ≡ greatest_used c → processed d ≡ processed c
    → resets ≡ total one_reset d.sent → StreamsOf s c
    → StreamsOf (record s {
      entries = entries;
      active_count = s.active_count - 1;
      resets = resets;
    }) d
streams_closed s i entries resets c d same was dead are greatest shown count g = record {
  entries = are;
  active_count = one_less c d i s.active_count greatest same was dead g.active_count;
  highest = g.highest ∙ sym greatest;
  last_processed = g.last_processed ∙ sym shown;
  resets = count;
}
