-- What a stream leaves owing where it is closed, and that it leaves nothing where it isn't.
use Rattle.h2_laws_machine.proofs.Names.{◌≡◌, ℕ, ◌&&◌, not, Bool, true, false, if◌then◌else◌, refl}
use Rattle.h2_laws_machine.proofs.Names.{false_from_ne_true, Log, active, unreleased, owed_at_close}
use Rattle.h2_laws_machine.proofs.LogCore.{Core, core, active_by_items}
use Rattle.h2_laws_machine.proofs.StreamsSame.{active_some}

-- A stream that is as active as before leaves nothing owing, by the tests.
none_owing_by : (before after : Bool) (n : ℕ) → after ≡ before
    → (if before && not after then n else 0) ≡ 0
none_owing_by true true n same = refl
none_owing_by false after n same = refl
none_owing_by true false n same = absurd (cc)

-- A stream that is as active as before leaves nothing owing.
pub none_owing : (log after : Log) (i : ℕ) → active after i ≡ active log i → owed_at_close log after
    i ≡ 0
unfolding owed_at_close
none_owing log after i same = none_owing_by _ _ (unreleased after i) same

-- A stream that wasn't active leaves nothing owing.
pub dead_owing : (log after : Log) (i : ℕ) → active log i ≡ false → owed_at_close log after i ≡ 0
unfolding owed_at_close
dead_owing log after i dead = rw dead refl

-- No stream has number 0.
pub zero_dead : (c : Core) → active_by_items c 0 ≡ false
zero_dead c = false_from_ne_true (active_by_items c 0) (λ alive. active_some c 0 alive refl)

-- What concerns the connection leaves nothing owing.
pub owes_none : (log after : Log) → owed_at_close log after 0 ≡ 0
owes_none log after = dead_owing log after 0 (zero_dead (core log))

-- what is left owing by a stream that stays active
pub owes_active : (log after : Log) (i : ℕ) → active after i ≡ true → owed_at_close log after i ≡ 0
unfolding owed_at_close
owes_active log after i is = rw is (neither (active log i)) where
  neither : (b : Bool) → (if b && false then unreleased after i else 0) ≡ 0
  neither true = refl
  neither false = refl

-- A stream that is closed leaves what it owes to be returned.
pub owes_all : (log after : Log) (i : ℕ) → active log i ≡ true → active after i ≡ false
    → owed_at_close log after i ≡ unreleased after i
unfolding owed_at_close
owes_all log after i was is = rw (was, is) refl
