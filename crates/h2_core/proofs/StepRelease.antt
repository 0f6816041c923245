-- Octets that are released: the conditions of the call, and the end after it.
use Rattle.h2_core.proofs.Names.{◌≡◌, ℕ, ◌+◌, ◌-◌, ◌==◌, ◌<◌, ◌≤◌, ◌^◌, Bool, true, false, ◌||◌}
use Rattle.h2_core.proofs.Names.{if◌then◌else◌, ℤ, pos, ◌+ℤ◌, List, [], ◌∷◌, ◌++◌, Option, Some}
use Rattle.h2_core.proofs.Names.{None, ◌⊎◌, not, subst, refl, sym, ap, ap₂, ◌∙◌, inl, inr}
use Rattle.h2_core.proofs.Names.{append_assoc, arith, cases_lt, nat_tests, ints, to_z-of_z}
use Rattle.h2_core.proofs.Names.{WindowUpdate, encoding_of, alone, Release, StreamView, ended_in}
use Rattle.h2_core.proofs.Names.{owed_on, active_entry, End, end_view, stream_in, stream_at}
use Rattle.h2_core.proofs.Names.{queue_output, StreamIsInRange, is_far, IsSoundEnd, items_of}
use Rattle.h2_core.proofs.Names.{encoder_after_call, encoding_of_item, encoding_of_items}
use Rattle.h2_core.proofs.Names.{after_call}
use Rattle.h2_spec_machine.specs.Machine.{after_release}
use Rattle.std.proofs.Common.{nat_lt}
use Rattle.std.specs.Int.RustNames.{FitsSigned}
use mir.Syntax.{w64}
use mir.Val.{to_z, of_z}
use Rattle.h2_core.proofs.SoundFacts.{absent_above, highest_small}
use Rattle.std.specs.FinMap as map
use Rattle.h2_core.proofs.Names.{rules}

-- The code's two tests are the test of the condition.
pub release-test : (count owing : ℕ) → (count ≡ 0) ⊎ ((count ≡ 0 → ⊥) × (owing < count))
    → (count == 0 || nat_lt owing count) ≡ true
release-test count owing (inl none) = grind (arith, nat_tests)
release-test count owing (inr more) = search rules

pub release-owed : (count owing : ℕ) → 0 < count → count ≤ owing
    → (count == 0 || nat_lt owing count) ≡ false
release-owed count owing some enough = grind (arith, nat_tests)

-- So are those of a wider window.
pub widen-test : (count granted : ℕ) → granted ≤ 2147483647
    → (count ≡ 0) ⊎ ((count ≡ 0 → ⊥) × (2147483647 - granted < count))
    → (count == 0 || nat_lt 2147483647 (granted + count)) ≡ true
widen-test count granted within (inl none) = grind (arith, nat_tests)
widen-test count granted within (inr more) = grind (arith, nat_tests)

pub widen-allowed : (count granted : ℕ) → 0 < count → granted + count ≤ 2147483647
    → (count == 0 || nat_lt 2147483647 (granted + count)) ≡ false
widen-allowed count granted some enough = grind (arith, nat_tests)

-- A stream that is active has a number of 31 bits.
pub active-number : (e : End) (id : ℕ) (stream : StreamView) → IsSoundEnd e
    → stream_at e id ≡ Some stream → id < 2 ^ 31
active-number e id stream sound active = search rules

-- A receive window that is widened by what is owed stays near zero.
near_widened : (e : End) (stream : StreamView) (count : ℕ) → StreamIsInRange e stream
    → e.own.in_force.initial_window < 2 ^ 31 → count ≤ stream.owed
    → is_far (stream.recv_window +ℤ pos count) ≡ false
near_widened e stream count range small enough = grind (arith, ints)

pub widened-near : (e : End) (id : ℕ) (stream : StreamView) (count : ℕ) → IsSoundEnd e
    → stream_at e id ≡ Some stream → count ≤ stream.owed
    → is_far (stream.recv_window +ℤ pos count) ≡ false
widened-near e id stream count sound active enough =
    near_widened e stream count (sound.ranges.streams id stream active)
    (omega (arith, sound.ranges.own_window)) enough

-- Whether the peer has ended a stream, by the code's test.
pub not-ended : (ended : Bool) → not ended ≡ true → ended ≡ false
not-ended true is = cc
not-ended false is = refl

-- an end with a stream that is changed, more octets that the peer may send, and this output
abbrev pub released : End → ℕ → ℕ → StreamView → List ℕ → End
released e id count stream waiting =
    record e {
      streams = record e.streams {
        entries = map.insert e.streams.entries id (active_entry stream);
      };
      windows = record e.windows { recv = e.windows.recv + count };
      output = record e.output { waiting = waiting };
    }

-- what is released on a stream, by whether the peer has ended it
abbrev released_by : End → ℕ → ℕ → StreamView → Bool → End
released_by e id count stream ended =
    released e id count
    (record stream {
      owed = stream.owed - count;
      recv_window = if ended then stream.recv_window else stream.recv_window +ℤ pos count;
    })
    (e.output.waiting
    ++ encoding_of_items (end_view e).max_payload (alone (WindowUpdate 0 count)
    ∷ (if ended then [] else alone (WindowUpdate id count) ∷ [])))

module _ (e : End) (id count : ℕ) (stream : StreamView) where
  -- The end after the call.
  after-release : stream_at e id ≡ Some stream
      → after_call e (Release id count) ≡ released_by e id count stream stream.ended_in
  unfolding after_call items_of encoder_after_call
  after-release active = search rules

  -- The peer has ended the stream: its window stays.
  pub release-ended : stream_at e id ≡ Some stream → stream.ended_in ≡ true
      → after_call e (Release id count) ≡ released e id count
      (record stream { owed = stream.owed - count }) (e.output.waiting ++ encoding_of
      (WindowUpdate 0 count))
  unfolding encoding_of_items encoding_of_item
  release-ended active ended = after-release active
      ∙ ap (λ (b : Bool). released_by e id count stream b) ended

  -- It hasn't: both windows are widened.
  pub release-open : stream_at e id ≡ Some stream
      → stream.ended_in ≡ false
      → after_call e (Release id count) ≡ released e id count (record stream {
        owed = stream.owed - count;
        recv_window = stream.recv_window +ℤ pos count;
      }) ((e.output.waiting ++ encoding_of (WindowUpdate id count))
      ++ encoding_of (WindowUpdate 0 count))
  unfolding encoding_of_items encoding_of_item
  release-open active going = after-release active
      ∙ ap (λ (b : Bool). released_by e id count stream b) going
      ∙ ap (λ (waiting : List ℕ). released e id count (record stream {
        owed = stream.owed - count;
        recv_window = stream.recv_window +ℤ pos count;
      }) waiting) (sym (append_assoc e.output.waiting (encoding_of (WindowUpdate id count))
      (encoding_of (WindowUpdate 0 count))))
