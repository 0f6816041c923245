-- The connection's receive window is conserved, and nothing is kept of numbers that weren't used:
-- at first, and after each frame and each call.
use Rattle.std.specs.FinMap as map
use Rattle.h2_laws_machine.proofs.Names
use Names.{◌≡◌, ◌≢◌, ℕ, ◌+◌, ◌<◌, ◌≤◌, None, Option, Some, refl, ◌∙◌, arith, nat_cmp, Frame, Values}
use Names.{Act, refusal_of, Decoded, value_after, StreamView, Role, End, StreamEntry}
use Names.{StreamMap, active_entry, reset_entry, end_view, stream_in, owed_entry, owed_total}
use Names.{close_stream, shifted_entry, recv_shifted_entry, each_entry, new_stream, after_frame}
use Names.{after_call, new_end, KeepsConnectionWindow, get_set_other, get_removed_none}
use Rattle.h2_laws_machine.proofs.EveryCall.{call_keeps}
use Rattle.h2_laws_machine.proofs.EveryEnd.{returned_keeps, frame_keeps}
use Rattle.h2_laws_machine.proofs.EndInvariants.{IsEndInvariant}
use Rattle.h2_laws_machine.proofs.OwedSums.{total-insert, total-remove, total-each, total-empty}
use Rattle.h2_laws_machine.proofs.OwedSums.{get_each_none}
use Rattle.h2_laws_machine.proofs.RulesAtEnds.{active_used}

-- The sum of a receive window, of what is owed on streams, and of what is unreturned, is what was
-- granted; and nothing is kept of numbers above one.
pub record Sums (recv_window granted unreturned used : ℕ) (streams : StreamMap) : Type 0 where
  pub sum : recv_window + (owed_total streams + unreturned) ≡ granted
  pub clear : (i : ℕ) → used < i → map.get streams i ≡ None

-- the same of an end
abbrev pub Holds : End → Type 0
Holds e = Sums e.windows.recv e.windows.granted e.windows.unreturned e.streams.highest
    e.streams.entries

-- the same of an end, with so much more unreturned
abbrev pub Lacks : ℕ → End → Type 0
Lacks more e = Sums e.windows.recv e.windows.granted (e.windows.unreturned + more) e.streams.highest
    e.streams.entries

-- A window that is conserved is so by these values.
pub holds : (e : End) → KeepsConnectionWindow e → Holds e
holds e whole = record { sum = whole.whole; clear = whole.used }

-- And the other way round.
pub is_whole : (e : End) → Holds e → KeepsConnectionWindow e
is_whole e h = record { whole = h.sum; used = h.clear }

-- An end whose window is conserved lacks nothing.
pub lacks_none : (e : End) → Holds e → Lacks 0 e
lacks_none e h =
    record { sum = omega (arith, h.sum); clear = h.clear }

-- Nothing is kept above a number, once an entry is set that isn't above it.
pub clear_after : (m : StreamMap) (i used later : ℕ) (x : StreamEntry) → used ≤ later → i ≤ later
    → ((j : ℕ) → used < j → map.get m j ≡ None)
    → (j : ℕ) → later < j → map.get (map.insert m i x) j ≡ None
clear_after m i used later x most within clear j above =
    let apart : j ≢ i = omega arith in get_set_other m i x j apart ∙ clear j (omega arith)

-- An entry is set, with what it owes moved from what was there, or to it.
entry_set : (recv granted unreturned after used later : ℕ) (m : StreamMap) (i : ℕ)
    (x : StreamEntry)
    → owed_entry (Some x) + after ≡ owed_entry (map.get m i) + unreturned → used ≤ later
    → i ≤ later → Sums recv granted unreturned used m
    → Sums recv granted after later (map.insert m i x)
entry_set recv granted unreturned after used later m i x moved most within h = record {
  sum = omega (arith, h.sum, total-insert m i x, moved);
  clear = clear_after m i used later x most within h.clear;
}

-- An entry is removed, and what it owes is to be returned.
entry_removed : (recv granted unreturned more used : ℕ) (m : StreamMap) (i : ℕ)
    → Sums recv granted (unreturned + more) used m
    → Sums recv granted (unreturned + (more + owed_entry (map.get m i))) used (map.remove m i)
entry_removed recv granted unreturned more used m i h = record {
  sum = omega (arith, h.sum, total-remove m i);
  clear = λ j above. get_removed_none m i j (h.clear j above);
}

-- All streams are changed, with as much owed.
all_changed : (recv granted unreturned used : ℕ) (m : StreamMap)
    (change : StreamEntry → StreamEntry)
    → ((x : StreamEntry) → owed_entry (Some (change x)) ≡ owed_entry (Some x))
    → Sums recv granted unreturned used m → Sums recv granted unreturned used (each_entry change m)
all_changed recv granted unreturned used m change keeps h = record {
  sum = omega (arith, h.sum, total-each change m keeps);
  clear = λ j above. get_each_none change m j (h.clear j above);
}

-- What is owed is what an active stream owes.
stream_owes : (x : Option StreamEntry) (stream : StreamView) → stream_in x ≡ Some stream
    → owed_entry x ≡ stream.owed
stream_owes (Some reset_entry) stream is = cc
stream_owes x stream is = cc

-- Where no stream is active, nothing is owed.
nothing_owed : (x : Option StreamEntry) → stream_in x ≡ None → owed_entry x ≡ 0
nothing_owed None is = refl
nothing_owed (Some reset_entry) is = refl
nothing_owed (Some (active_entry other)) is = cc

-- A stream owes as much once its send window is shifted, or its receive window.
shifts_keep : (old new : ℕ) (x : StreamEntry)
    → (owed_entry (Some (shifted_entry old new x)) ≡ owed_entry (Some x))
    × (owed_entry (Some (recv_shifted_entry old new x)) ≡ owed_entry (Some x))
shifts_keep old new reset_entry = (refl, refl)
shifts_keep old new (active_entry stream) = (refl, refl)

-- Each small change conserves the window.
window_kept : IsEndInvariant ⊥ ⊥ Lacks Holds
window_kept = record {
  up = λ e up h. lacks_none e h;
  kept = λ e h. record { sum = omega (arith, h.sum); clear = h.clear };
  failed = λ e code last h. record { sum = omega (arith, h.sum); clear = h.clear };
  put_out = λ e count h. h;
  joined = λ e more items fits h. h;
  encoded = λ e encoder valid h. h;
  begun = λ e begun few h. h;
  table = λ e decoded item known h. h;
  numbered = λ e highest last most range less h. record {
    sum = h.sum;
    clear = λ j above. h.clear j (omega (arith, most, above));
  };
  windows = λ e more later windows same most wide h. record {
    sum = omega (arith, h.sum, same);
    clear = h.clear;
  };
  set = λ e more later i stream next active same stays h.
      let owed : owed_entry (map.get e.streams.entries i) ≡ stream.owed =
      stream_owes (map.get e.streams.entries i) stream active in
      entry_set e.windows.recv _ (e.windows.unreturned + more) (e.windows.unreturned + later)
      e.streams.highest _ _ i (active_entry next) (omega (arith, owed, same)) (omega arith)
      (active_used e i stream active h.clear) h;
  removed = λ e i stream active h. entry_removed e.windows.recv _ e.windows.unreturned 0 _ _ i h;
  was_reset = λ e i more used few h. entry_set e.windows.recv _ (e.windows.unreturned + more)
      (e.windows.unreturned + (more + owed_entry (map.get e.streams.entries i)))
      e.streams.highest _ _ i reset_entry (omega arith) (omega arith) (used h.clear) h;
  opened = λ e i ended_in ended_out highest last none most within range less apart few h.
      let nothing : owed_entry (map.get e.streams.entries i) ≡ 0 =
      nothing_owed (map.get e.streams.entries i) (none h.clear) in
      entry_set e.windows.recv _ (e.windows.unreturned + 0) (e.windows.unreturned + 0)
      e.streams.highest _ _ i (active_entry (new_stream e ended_in ended_out))
      (omega (arith, nothing)) most within h;
  settings = λ e pairs good h. all_changed _ _ _ _ _ (shifted_entry e.peer.initial_window
      (value_after 4 e.peer.initial_window pairs))
      (λ x. (shifts_keep e.peer.initial_window _ x).0) h;
  enforced = λ e values awaited h. all_changed _ _ _ _ _
      (recv_shifted_entry e.own.in_force.initial_window values.initial_window)
      (λ x. (shifts_keep _ _ x).1) h;
  awaits = λ e values range h. h;
  goaway_sent = λ e h. h;
  beside = λ e ping received h. h;
}

-- A stream is over.
pub ended : (e : End) (i more : ℕ) → Lacks more e → Holds (close_stream e i more)
ended e i more h =
    window_kept.kept (close_stream e i more) (returned_keeps window_kept
    (more + owed_entry (map.get e.streams.entries i)) _ (entry_removed _ _ _ _ _ _ i h))

-- A frame was read.
pub frame_holds : (e : End) (decoded : Option Decoded) (frame : Frame) → Holds e
    → Holds (after_frame e decoded frame)
frame_holds e decoded frame h =
    frame_keeps window_kept e decoded frame (λ never. absurd never) (λ never. absurd never)
    (lacks_none e h)

-- A call that isn't refused was made.
pub call_holds : (e : End) (act : Act) → refusal_of (end_view e) act ≡ None → Holds e
    → Holds (after_call e act)
call_holds e act is = call_keeps window_kept e act is (λ never. absurd never)

-- The window of a new end is conserved.
pub new_holds : (role : Role) (values : Values) → Holds (new_end role values)
unfolding new_end
new_holds role values =
    record { sum = omega (arith, total-empty); clear = λ i above. map.get-empty nat_cmp i }
