-- What becomes of the table of streams where all windows are shifted.
use Rattle.h2_streams.proofs.Names.{◌≡◌, ℕ, Bool, true, false, List, Option, Some, None, refl, sym}
use Rattle.h2_streams.proofs.Names.{ap, ◌∙◌, arith, ℤ, pos, ◌+ℤ◌, ◌-ℤ◌, ints, StreamEntry}
use Rattle.h2_streams.proofs.Names.{active_entry, reset_entry, view_of_kept, active_at, is_reset}
use Rattle.h2_streams.proofs.Names.{Kept}
use Rattle.h2_spec_machine.specs.Machine.{each_entry, shifted_entry, recv_shifted_entry}
use Rattle.h2_spec_machine.proofs.ChangedEntries.{changed_entry, get_each}
use Rattle.h2_streams.proofs.KeptEntries.{entry_at, get_kept, same_streams}
use Rattle.h2_streams.proofs.TableSteps.{streams}

module _ (send recv new_send new_recv : ℕ) (change : StreamEntry → StreamEntry) where
  -- Streams are changed alike where each that is kept is, and those that were reset stay.
  shifted_by : (b : Bool) (kept : Option Kept) → change reset_entry ≡ reset_entry
      → ((k : Kept) → active_entry (view_of_kept new_send new_recv k) ≡ change
      (active_entry (view_of_kept send recv k)))
      → entry_at new_send new_recv b kept ≡ changed_entry change (entry_at send recv b kept)
  shifted_by true kept stays moves = ap (λ (x : StreamEntry). Some x) (sym stays)
  shifted_by false None stays moves = refl
  shifted_by false (Some kept) stays moves = ap (λ (x : StreamEntry). Some x) (moves kept)

  -- All streams are changed by another initial window in force.
  shifted : (entries : List (ℕ × Kept)) (numbers : List ℕ) → change reset_entry ≡ reset_entry
      → ((k : Kept) → active_entry (view_of_kept new_send new_recv k) ≡ change
      (active_entry (view_of_kept send recv k)))
      → streams new_send new_recv entries numbers ≡ each_entry change
      (streams send recv entries numbers)
  shifted entries numbers stays moves = same_streams (streams new_send new_recv entries numbers)
      (each_entry change (streams send recv entries numbers))
      (λ q. get_kept new_send new_recv q entries numbers
      ∙ shifted_by (is_reset q numbers) (active_at q entries) stays moves
      ∙ sym (get_each change (streams send recv entries numbers) q
      ∙ ap (changed_entry change) (get_kept send recv q entries numbers)))

-- A window that is shifted from one initial window to another keeps its difference.
moved : (old new : ℕ) (offset : ℤ) → offset +ℤ pos new ≡ ((offset +ℤ pos old) +ℤ pos new) -ℤ pos old
moved old new offset = omega (arith, ints)

module _ (send recv new : ℕ) (entries : List (ℕ × Kept)) (numbers : List ℕ) where
  -- Another initial window of the peer's shifts all send windows.
  pub send_shifted : streams new recv entries numbers ≡ each_entry (shifted_entry send new)
      (streams send recv entries numbers)
  send_shifted = shifted send recv new recv (shifted_entry send new) entries numbers refl
      (λ k. ap (λ (w : ℤ). active_entry (record (view_of_kept new recv k) { send_window = w }))
      (moved send new k.send_offset))

  -- Another own initial window shifts all receive windows.
  pub recv_shifted : streams send new entries numbers ≡ each_entry (recv_shifted_entry recv new)
      (streams send recv entries numbers)
  recv_shifted = shifted send recv send new (recv_shifted_entry recv new) entries numbers refl
      (λ k. ap (λ (w : ℤ). active_entry (record (view_of_kept send new k) { recv_window = w }))
      (moved recv new k.recv_offset))
