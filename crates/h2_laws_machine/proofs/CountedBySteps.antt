-- The counts of an end are those of its entries, and nothing is kept of numbers that weren't used:
-- at first, and after each frame and each call.
use Rattle.std.specs.FinMap as map
use Rattle.h2_laws_machine.proofs.Names
use Names.{◌≡◌, ℕ, ◌+◌, ◌-◌, ◌<◌, ◌≤◌, None, Option, Some, is_some, refl, sym, ap, ◌∙◌, arith}
use Names.{nat_cmp, Frame, Values, Act, refusal_of, Decoded, value_after, StreamView, Role, End}
use Names.{StreamEntry, StreamMap, active_entry, reset_entry, end_view, stream_in, stream_at}
use Names.{close_stream, shifted_entry, recv_shifted_entry, each_entry, is_one, after_frame}
use Names.{after_call, new_end, get_removed_none, CountsEntries}
use Rattle.h2_laws_machine.proofs.ConservedBySteps.{clear_after}
use Rattle.h2_laws_machine.proofs.EntryCounts.{one_active, one_reset, count_in, count-insert}
use Rattle.h2_laws_machine.proofs.EntryCounts.{count-remove, count-each, count-empty}
use Rattle.h2_laws_machine.proofs.EntryCounts.{active_counted, reset_counted}
use Rattle.h2_laws_machine.proofs.EveryCall.{call_keeps}
use Rattle.h2_laws_machine.proofs.EveryEnd.{returned_keeps, frame_keeps}
use Rattle.h2_laws_machine.proofs.EndInvariants.{IsEndInvariant}
use Rattle.h2_laws_machine.proofs.OwedSums.{get_each_none}
use Rattle.h2_laws_machine.proofs.RulesAtEnds.{active_used}

-- So many entries are active, at most so many are of streams that were reset, and nothing is kept
-- of numbers above one.
pub record Counts (active resets used : ℕ) (streams : StreamMap) : Type 0 where
  pub exact : count_in one_active streams ≡ active
  pub most : count_in one_reset streams ≤ resets
  pub clear : (i : ℕ) → used < i → map.get streams i ≡ None

-- the same of an end
abbrev pub Counted : End → Type 0
Counted e = Counts e.streams.active_count e.streams.resets e.streams.highest e.streams.entries

-- Counts that are those of the entries are so by these sums.
pub counted : (e : End) → CountsEntries e → Counted e
counted e h = record {
  exact = sym (active_counted (map.entries e.streams.entries)) ∙ h.active;
  most = omega (arith, h.resets, reset_counted (map.entries e.streams.entries));
  clear = h.used;
}

-- And the other way round.
pub is_counted : (e : End) → Counted e → CountsEntries e
is_counted e h = record {
  active = active_counted (map.entries e.streams.entries) ∙ h.exact;
  resets = omega (arith, h.most, reset_counted (map.entries e.streams.entries));
  used = h.clear;
}

-- An entry counts as active where a stream is.
active_by : (y : Option StreamEntry) (x : Option StreamView) → stream_in y ≡ x
    → one_active y ≡ is_one (is_some x)
active_by (Some reset_entry) x is = ap (λ (z : Option StreamView). is_one (is_some z)) is
active_by y x is = ap (λ (z : Option StreamView). is_one (is_some z)) is

-- An entry is set.
entry_set : (active resets used active_then resets_then later : ℕ) (m : StreamMap) (i : ℕ)
    (x : StreamEntry) → active_then ≡ (active + one_active (Some x)) - one_active (map.get m i)
    → resets + one_reset (Some x) ≤ resets_then → used ≤ later → i ≤ later
    → Counts active resets used m → Counts active_then resets_then later (map.insert m i x)
entry_set active resets used active_then resets_then later m i x same few most within h = record {
  exact = omega (arith, h.exact, count-insert one_active refl m i x, same);
  most = omega (arith, h.most, count-insert one_reset refl m i x, few);
  clear = clear_after m i used later x most within h.clear;
}

-- An active entry is removed.
entry_removed : (e : End) (i : ℕ) (stream : StreamView) → stream_at e i ≡ Some stream → Counted e
    → Counts (e.streams.active_count - 1) e.streams.resets e.streams.highest
    (map.remove e.streams.entries i)
entry_removed e i stream active h = record {
  exact = omega (
    arith,
    h.exact,
    count-remove one_active refl e.streams.entries i,
    active_by (map.get e.streams.entries i) (Some stream) active,
  );
  most = omega (arith, h.most, count-remove one_reset refl e.streams.entries i);
  clear = λ j above. get_removed_none e.streams.entries i j (h.clear j above);
}

-- All streams are changed, active ones to active ones.
all_changed : (active resets used : ℕ) (m : StreamMap) (change : StreamEntry → StreamEntry)
    → ((x : StreamEntry) → (one_active (Some (change x)) ≡ one_active (Some x))
    × (one_reset (Some (change x)) ≡ one_reset (Some x)))
    → Counts active resets used m → Counts active resets used (each_entry change m)
all_changed active resets used m change keeps h = record {
  exact = count-each one_active change m (λ x. (keeps x).0) ∙ h.exact;
  most = omega (arith, h.most, count-each one_reset change m (λ x. (keeps x).1));
  clear = λ j above. get_each_none change m j (h.clear j above);
}

-- A stream counts as it did once its send window is shifted, or its receive window.
shifts_count : (old new : ℕ) (x : StreamEntry)
    → ((one_active (Some (shifted_entry old new x)) ≡ one_active (Some x))
    × (one_reset (Some (shifted_entry old new x)) ≡ one_reset (Some x)))
    × ((one_active (Some (recv_shifted_entry old new x)) ≡ one_active (Some x))
    × (one_reset (Some (recv_shifted_entry old new x)) ≡ one_reset (Some x)))
shifts_count old new reset_entry = ((refl, refl), (refl, refl))
shifts_count old new (active_entry stream) = ((refl, refl), (refl, refl))

-- Each small change keeps the counts those of the entries.
counts_kept : IsEndInvariant ⊥ ⊥ (λ (more : ℕ) (e : End). Counted e) Counted
counts_kept = record {
  up = λ e up h. h;
  kept = λ e h. h;
  failed = λ e code last h. h;
  put_out = λ e count h. h;
  joined = λ e more items fits h. h;
  encoded = λ e encoder valid h. h;
  begun = λ e begun few h. h;
  table = λ e decoded item known h. h;
  numbered = λ e highest last most range less h. record {
    exact = h.exact;
    most = h.most;
    clear = λ j above. h.clear j (omega (arith, most, above));
  };
  windows = λ e more later windows same most wide h. h;
  set = λ e more later i stream next active same stays h. entry_set e.streams.active_count
      e.streams.resets e.streams.highest _ _ _ _ i (active_entry next)
      (omega (arith, active_by (map.get e.streams.entries i) (Some stream) active))
      (omega arith) (omega arith) (active_used e i stream active h.clear) h;
  removed = entry_removed;
  was_reset = λ e i more used few h. entry_set e.streams.active_count e.streams.resets
      e.streams.highest _ _ _ _ i reset_entry
      (omega (arith, active_by (map.get e.streams.entries i) (stream_at e i) refl))
      (omega arith) (omega arith) (used h.clear) h;
  opened = λ e i ended_in ended_out highest last none most within range less apart few h.
      entry_set e.streams.active_count e.streams.resets e.streams.highest _ _ _ _ i _
      (omega (arith, active_by (map.get e.streams.entries i) None (none h.clear)))
      (omega arith) most within h;
  settings = λ e pairs good h. all_changed _ _ _ _ (shifted_entry e.peer.initial_window
      (value_after 4 e.peer.initial_window pairs))
      (λ x. (shifts_count e.peer.initial_window _ x).0) h;
  enforced = λ e values awaited h. all_changed _ _ _ _
      (recv_shifted_entry e.own.in_force.initial_window values.initial_window)
      (λ x. (shifts_count _ _ x).1) h;
  awaits = λ e values range h. h;
  goaway_sent = λ e h. h;
  beside = λ e ping received h. h;
}

-- An active stream is over.
pub counts_ended : (e : End) (i more : ℕ) (stream : StreamView) → stream_at e i ≡ Some stream
    → Counted e → Counted (close_stream e i more)
counts_ended e i more stream active h =
    returned_keeps counts_kept _ _ (entry_removed e i stream active h)

-- A frame was read.
pub frame_counts : (e : End) (decoded : Option Decoded) (frame : Frame) → Counted e
    → Counted (after_frame e decoded frame)
frame_counts e decoded frame =
    frame_keeps counts_kept e decoded frame (λ never. absurd never) (λ never. absurd never)

-- A call that isn't refused was made.
pub call_counts : (e : End) (act : Act) → refusal_of (end_view e) act ≡ None → Counted e
    → Counted (after_call e act)
call_counts e act is = call_keeps counts_kept e act is (λ never. absurd never)

-- The counts of a new end are those of its entries.
pub new_counts : (role : Role) (values : Values) → Counted (new_end role values)
unfolding new_end
new_counts role values = record {
  exact = count-empty one_active;
  most = omega (arith, count-empty one_reset);
  clear = λ i above. map.get-empty nat_cmp i;
}
