-- The peer's SETTINGS are applied: windows of streams, how many streams are allowed, the encoder.
use Rattle.h2_laws_machine.proofs.Names
use Names.{◌≡◌, Bool, true, false, ◌+ℤ◌, ◌-ℤ◌, Option, arith, ne_eqb, alone, resets, total, Decoded}
use Names.{ℕ, is_block_on, value_read, value_after, allowed_by, StreamView, replies_to, StreamEntry}
use Names.{◌+◌, not, min, pos, List, [], ◌∷◌, refl, ap, sym, ◌∙◌, Item, ends, Log, read, End}
use Names.{◌==◌, increment_on, one_settings, first_window, least_goaway, with_verdict, active_entry}
use Names.{if◌then◌else◌, EncoderState, shifted_entry, after_ignored, value_changed, changed_entry}
use Names.{zero-add, list_any, stream_of, is_goaway, with_sent, events_of, each_entry, value_kept}
use Names.{eqb-true, Settings, data_on, data_of, given_on, NoEvent, end_view, entry_by, get_each}
use Names.{stream_of_item, greatest_block, settings_count, discarded_flow, encoder_after_settings}
use Rattle.h2_spec_machine.specs.Machine.{first_allowed}
use Rattle.h2_laws_machine.proofs.EachStream.{each_by, shifted}
use Rattle.h2_laws_machine.proofs.LogCore.{said, Core, core, CoreFacts, core_facts, Advances, Going}
use Rattle.h2_laws_machine.proofs.LogCore.{StreamsOf, active_by_items}
use Rattle.h2_laws_machine.proofs.OneItemMore.{total_quiet}
use Rattle.h2_laws_machine.proofs.OwedAtClose.{dead_owing, zero_dead}
use Rattle.h2_laws_machine.proofs.RecvRead.{active_read, used_read, reads, windows_read}
use Rattle.h2_laws_machine.proofs.RecvReturnedCredit.{After, unsettled}
use Rattle.h2_laws_machine.proofs.SentConnectionItems.{computing, settings_leave}
use Rattle.h2_laws_machine.proofs.SentQuietItems.{IsQuietOut, quiet_wrote}
use Rattle.h2_laws_machine.proofs.StreamsSame.{count_same, same_stream}
use Rattle.h2_laws_machine.proofs.WaitingOutput.{Waits, wrote_connection}

-- the core after SETTINGS that are no acknowledgment
abbrev settled : Core → List (ℕ × ℕ) → Core
settled c pairs =
    record (reads c (alone (Settings false pairs))) {
      encoder = encoder_after_settings c.encoder pairs;
    }

-- what an end keeps after them
abbrev applied : CoreFacts → List (ℕ × ℕ) → CoreFacts
applied h pairs = record h {
  reading = record h.reading { started = true };
  streams = record h.streams {
    entries = each_entry (shifted_entry h.peer.initial_window
        (value_after 4 h.peer.initial_window pairs)) h.streams.entries;
  };
  peer = record {
    initial_window = value_after 4 h.peer.initial_window pairs;
    max_streams = min 1000 (value_after 3 (first_allowed h.reading.started h.peer.max_streams)
        pairs);
    max_frame = value_after 5 h.peer.max_frame pairs;
  };
  encoder = encoder_after_settings h.encoder pairs;
}

-- A value that is bounded is the same after a pair, by the test whether the pair names it.
bounded_by : (test : Bool) (top value a b : ℕ) → min top a ≡ min top b
    → min top (if test then value else a) ≡ min top (if test then value else b)
bounded_by true top value a b same = refl
bounded_by false top value a b same = same

-- A value that is bounded is the same after pairs, where it was the same before them.
bounded_after : (id top a b : ℕ) (pairs : List (ℕ × ℕ)) → min top a ≡ min top b
    → min top (value_after id a pairs) ≡ min top (value_after id b pairs)
unfolding value_after
bounded_after id top a b [] same = same
bounded_after id top a b (pair ∷ pairs) same =
    bounded_after id top (if pair.0 == id then pair.1 else a) (if pair.0 == id then pair.1 else b)
    pairs (bounded_by (pair.0 == id) top pair.1 a b same)

-- A value that no SETTINGS name is the first.
value_none : (id first : ℕ) (items : List Item) → settings_count items ≡ 0
    → value_read id first items ≡ first
unfolding settings_count value_read
value_none id first [] none = refl
value_none id first (item ∷ items) none =
    value_kept _ _ _ items (omega (arith, none)) ∙ value_none id first items (omega (arith, none))

-- The bound on streams is the same before pairs, by the test whether no SETTINGS came before.
allowed_by_first : (none : Bool) (allowed value : ℕ)
    → allowed ≡ (if none then 100 else min 1000 value) → (none ≡ true → value ≡ 1000)
    → min 1000 (first_allowed (not none) allowed) ≡ min 1000 value
allowed_by_first true allowed value is first = rw (first refl) refl
allowed_by_first false allowed value is first = omega (arith, is)

-- What a log with SETTINGS says of that.
allowed_settings : (pairs : List (ℕ × ℕ)) (received : List Item)
    → allowed_by (alone (Settings false pairs) ∷ received)
    ≡ min 1000 (value_after 3 (value_read 3 1000 received) pairs)
unfolding allowed_by settings_count one_settings value_read
allowed_settings pairs received = rw (ne_eqb (1 + settings_count received) 0 (λ none. omega
    (arith, none))) refl

-- As many streams are allowed after SETTINGS as the log says.
allowed_after : (started : Bool) (allowed : ℕ) (pairs : List (ℕ × ℕ)) (received : List Item)
    → started ≡ not (settings_count received == 0) → allowed ≡ allowed_by received
    → min 1000 (value_after 3 (first_allowed started allowed) pairs)
    ≡ allowed_by (alone (Settings false pairs) ∷ received)
unfolding allowed_by
allowed_after started allowed pairs received begun is =
    bounded_after 3 1000 _ _ _ (ap (λ (b : Bool). min 1000 (first_allowed b allowed)) begun
    ∙ allowed_by_first (settings_count received == 0) _ _ is
    (λ none. value_none 3 1000 received (eqb-true _ 0 none))) ∙ sym (allowed_settings _ _)

-- SETTINGS give no stream anything, and take nothing.
settings_give : (i : ℕ) (pairs : List (ℕ × ℕ)) → increment_on i (alone (Settings false pairs)) ≡ 0
unfolding increment_on
settings_give i pairs = refl

settings_take : (pairs : List (ℕ × ℕ)) → data_of (alone (Settings false pairs)) ≡ 0
unfolding data_of
settings_take pairs = refl

module _ (c : Core) (pairs : List (ℕ × ℕ)) (i : ℕ) where
  -- Streams are as active as before.
  settings_active : active_by_items (settled c pairs) i ≡ active_by_items c i
  unfolding is_block_on ends resets
  settings_active = active_read _ _ _ _ _ c.reported refl refl refl

  -- Its receive window, and whether the peer has ended it, are as before.
  settings_recv : (said c i).recv_window ≡ (said (settled c pairs) i).recv_window
  unfolding total data_on
  settings_recv = rw zero-add refl

  settings_ended : (said c i).ended_in ≡ (said (settled c pairs) i).ended_in
  unfolding ends
  settings_ended = refl

  -- The stream with its shifted send window is what the log says.
  settings_said : (old new : ℕ) → old ≡ value_read 4 first_window c.received
      → new ≡ value_read 4 first_window (alone (Settings false pairs) ∷ c.received)
      → record (said c i) { send_window = ((said c i).send_window +ℤ pos new) -ℤ pos old } ≡ said
      (settled c pairs) i
  unfolding given_on
  settings_said old new was is =
      let item : Item = alone (Settings false pairs) in
      let gave : total (increment_on i) (item ∷ c.received) ≡ total (increment_on i) c.received =
      total_quiet (increment_on i) item c.received (settings_give i pairs) in
      same_stream (record (said c i) {
        send_window = ((said c i).send_window +ℤ pos new) -ℤ pos old;
      }) (said (settled c pairs) i) (rw (was, is, gave) (shifted _ _ _
      (total (data_on i) c.sent))) (settings_recv) refl (settings_ended) refl

-- The streams are the log's, once their send windows are shifted.
settings_streams : (h : CoreFacts) (c : Core) (pairs : List (ℕ × ℕ)) → Advances h c
    → StreamsOf (applied h pairs).streams (settled c pairs)
unfolding greatest_block
settings_streams h c pairs g =
    let item : Item = alone (Settings false pairs) in
    let old = h.peer.initial_window in
    let new = value_after 4 old pairs in
    let change = shifted_entry old new in
    let is : new ≡ value_read 4 first_window (item ∷ c.received) = ap
    (λ (n : ℕ). value_after 4 n pairs) g.peer.initial_window ∙ sym
    (value_changed 4 first_window pairs c.received) in
    record {
      entries = λ i. get_each change h.streams.entries i ∙ ap
          (λ (x : Option StreamEntry). changed_entry change x) (g.streams.entries i) ∙ each_by _
          (active_by_items c i) _ (said c i) (said (settled c pairs) i) refl
          (ap (λ (s : StreamView). active_entry s) (settings_said c pairs i old new
          g.peer.initial_window is))
          ∙ ap (λ (b : Bool). entry_by b (list_any (resets i) c.sent) (said (settled c pairs) i))
          (sym (settings_active c pairs i));
      active_count = rw (used_read c.role item c.received c.sent (λ items. refl))
          (g.streams.active_count ∙ sym (count_same _ _ _ (settings_active c pairs)));
      highest = g.streams.highest ∙ sym (used_read c.role item c.received c.sent (λ items. refl));
      last_processed = g.streams.last_processed;
      resets = g.streams.resets;
    }

-- What an end keeps where SETTINGS are read, the first of them being those that begin.
settings_read : (h : CoreFacts) (c : Core) (pairs : List (ℕ × ℕ))
    → h.reading.started ≡ not (settings_count c.received == 0) → Advances h c
    → Advances (applied h pairs) (settled c pairs)
unfolding is_goaway least_goaway
settings_read h c pairs begun g =
    let item : Item = alone (Settings false pairs) in
    record {
      reading = record { begun = g.reading.begun; table = g.reading.table };
      encoder = ap (λ (x : EncoderState). encoder_after_settings x pairs) g.encoder;
      streams = settings_streams _ _ _ g;
      windows = windows_read _ _ _ _ _ _ _ _ (omega (arith, settings_give 0 pairs))
          (omega (arith, settings_take pairs)) g.windows;
      peer = record {
        initial_window = ap (λ (n : ℕ). value_after 4 n pairs) g.peer.initial_window ∙ sym
            (value_changed 4 first_window _ _);
        max_streams = allowed_after _ _ _ _ begun g.peer.max_streams;
        max_frame = ap (λ (n : ℕ). value_after 5 n pairs) g.peer.max_frame ∙ sym
            (value_changed 5 16384 _ _);
      };
      own = g.own;
      goaway = assumption g;
      ping = g.ping;
    }

-- The acknowledgment that is replied changes nothing more.
reply_quiet : IsQuietOut (alone (Settings true []))
unfolding computing
reply_quiet = assumption (settings_leave true [])

-- It gives nothing.
reply_gives : (j : ℕ) → increment_on j (alone (Settings true [])) ≡ 0
unfolding increment_on
reply_gives j = refl

-- What an end makes of the peer's SETTINGS.
pub settings_ignored : (e : End) (log : Log) (decoded : Option Decoded) (pairs : List (ℕ × ℕ))
    → e.reading.started ≡ not (settings_count log.received == 0) → Waits e log
    → Going e (core log)
    → After (after_ignored e decoded (alone (Settings false pairs))) (with_verdict log decoded
    (alone (Settings false pairs)) NoEvent)
unfolding with_verdict after_ignored replies_to events_of discarded_flow data_of stream_of_item
    stream_of with_sent
settings_ignored e log decoded pairs begun w g =
    let item : Item = alone (Settings false pairs) in
    let reply : Item = alone (Settings true []) in
    let dead = zero_dead (core log) in
    unsettled _ _ [] _ (omega (arith, dead_owing))
    (wrote_connection e.role e.failed e.output.waiting (read log decoded item)
    (end_view e).max_payload (Settings true []) w) g.windows.unreturned
    (quiet_wrote (applied (core_facts e) pairs) (settled (core log) pairs) reply e.windows.recv
    reply_quiet (λ j some. reply_gives j) (omega (arith, reply_gives 0))
    (settings_read (core_facts e) (core log) pairs begun g))
