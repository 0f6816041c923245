-- The end after a step on a stream, by the stream that is active.
use Rattle.h2_core.proofs.SoundFacts.{owed_of}
use Rattle.h2_core.proofs.Names.{◌≡◌, ℕ, ◌+◌, ◌-◌, ◌==◌, Bool, true, false, ◌&&◌, if◌then◌else◌}
use Rattle.h2_core.proofs.Names.{Option, Some, None, refl, sym, ap, ap₂, ◌∙◌, arith, nat_cmp_total}
use Rattle.h2_core.proofs.Names.{StreamView, StreamEntry, active_entry, reset_entry, StreamMap, End}
use Rattle.h2_core.proofs.Names.{stream_in, stream_at, owed_entry, add_unreturned, close_stream}
use Rattle.h2_core.proofs.Names.{reset_stream, update_stream, get_set, get_removed, get_set_same}
use Rattle.h2_core.proofs.Names.{set_stream, is_one, narrow_recv_window}
use Rattle.std.proofs.Common.{is_some}
use Rattle.std.specs.FinMap as map
use Rattle.h2_core.proofs.Names.{rules}

-- Nothing more, and nothing less.
none_more : (n : ℕ) → 0 + n ≡ n
none_more n = omega arith

none_less : (n : ℕ) → n - 0 ≡ n
none_less n = omega arith

-- A window that nothing is taken of.
pub narrow_none : (e : End) → narrow_recv_window e 0 ≡ e
narrow_none e = search rules

-- What an entry owes is what its stream owes.
owed_in : (entry : Option StreamEntry) → owed_entry entry ≡ owed_of (stream_in entry)
owed_in None = refl
owed_in (Some reset_entry) = refl
owed_in (Some (active_entry stream)) = refl

-- An entry that is set and removed again, at each number.
removed_again_by : (b : Bool) (v : StreamEntry) (x : Option StreamEntry)
    → (if b then None else (if b then Some v else x)) ≡ (if b then None else x)
removed_again_by true v x = refl
removed_again_by false v x = refl

-- What is set doesn't count where it is removed.
removed_again : (m : StreamMap) (k : ℕ) (v : StreamEntry)
    → map.remove (map.insert m k v) k ≡ map.remove m k
removed_again m k v =
    map.same_map nat_cmp_total map.nat_cmp-IsAntisymmetric (map.remove (map.insert m k v) k)
    (map.remove m k)
    (λ q. get_removed (map.insert m k v) k q
    ∙ ap (λ (x : Option StreamEntry). if q == k then None else x) (get_set m k v q)
    ∙ removed_again_by (q == k) v (map.get m q) ∙ sym (get_removed m k q))

-- an end without a stream that was active
abbrev pub without_stream : End → ℕ → End
without_stream e i =
    record e {
      streams = record e.streams {
        entries = map.remove e.streams.entries i;
        active_count = e.streams.active_count - 1;
      };
    }

-- A stream that both sides have ended.
pub updated-over : (e : End) (i : ℕ) (stream : StreamView)
    → (stream.ended_in && stream.ended_out) ≡ true
    → update_stream e i stream ≡ add_unreturned stream.owed (without_stream e i)
updated-over e i stream over =
    ap (λ (b : Bool). if b then close_stream (set_stream e i stream) i 0 else set_stream e i stream)
    over
    ∙ ap₂ (λ (entry : Option StreamEntry) (entries : StreamMap). add_unreturned
    (0 + owed_entry entry)
    (record e {
      streams = record e.streams {
        entries = entries;
        active_count = e.streams.active_count - 1;
      };
    })) (get_set_same e.streams.entries i (active_entry stream))
    (removed_again e.streams.entries i (active_entry stream))
    ∙ ap (λ (owing : ℕ). add_unreturned owing (without_stream e i)) (none_more stream.owed)

-- an end with a number that was reset
abbrev pub with_reset : End → ℕ → ℕ → End
with_reset e i count =
    record e {
      streams = record e.streams {
        entries = map.insert e.streams.entries i reset_entry;
        active_count = count;
        resets = e.streams.resets + 1;
      };
    }

-- An active stream that is reset.
pub reset-active : (e : End) (i more : ℕ) (stream : StreamView) → stream_at e i ≡ Some stream
    → reset_stream e i more
    ≡ add_unreturned (more + stream.owed) (with_reset e i (e.streams.active_count - 1))
reset-active e i more stream active = search rules

-- A number that is reset without being active.
pub reset-inactive : (e : End) (i more : ℕ) → stream_at e i ≡ None
    → reset_stream e i more
    ≡ add_unreturned (more + 0) (with_reset e i e.streams.active_count)
reset-inactive e i more inactive = search rules
