-- All streams are changed where SETTINGS are acknowledged.
use Rattle.h2_laws_machine.proofs.Names.{◌≡◌, ℕ, ◌+◌, Bool, true, false, pos, ◌+ℤ◌, ◌-ℤ◌, Some}
use Rattle.h2_laws_machine.proofs.Names.{refl, ap, arith, ints, StreamView, StreamEntry}
use Rattle.h2_laws_machine.proofs.Names.{active_entry, reset_entry, entry_by, changed_entry}

-- What is kept of a number, changed, by whether it is active and was reset.
pub each_by : (change : StreamEntry → StreamEntry) (active was : Bool) (s t : StreamView)
    → change reset_entry
    ≡ reset_entry → change (active_entry s) ≡ active_entry t
    → changed_entry change (entry_by active was s) ≡ entry_by active was t
each_by change true was s t kept moved = ap (λ (x : StreamEntry). Some x) moved
each_by change false true s t kept moved = ap (λ (x : StreamEntry). Some x) kept
each_by change false false s t kept moved = refl

-- A receive window that is shifted from one initial window to another, by signed numbers.
pub shifted : (old new more last_processed : ℕ) → ((pos (old + more) -ℤ pos last_processed) +ℤ pos
    new) -ℤ pos old ≡ pos (new + more) -ℤ pos last_processed
shifted old new more last_processed = omega (arith, ints)
