-- What a call that isn't refused says: none of its conditions holds.
use Rattle.std.proofs.Common.{◌≡◌, ◌||◌, if◌then◌else◌, Bool, true, false, List, [], ◌∷◌, Option}
use Rattle.std.proofs.Common.{Some, None, refl, ◌&&◌, not, ◌++◌, ◌≢◌}
use Rattle.h2_spec_log.specs.CallRules.{first_of}
use Rattle.h2_laws_log.proofs.Names.{both_ways, Refusal, Act, Open, OutOfMemory, View, answer_of}

-- Where nothing refuses, a condition doesn't hold, by its test.
first_false_by : (b : Bool) (refusal : Refusal) (after : Option Refusal)
    → (if b then Some refusal else after) ≡ None → b ≡ false
first_false_by true refusal after is = cc
first_false_by false refusal after is = refl

-- Where nothing refuses, nothing after a condition does, by its test.
others_by : (b : Bool) (refusal : Refusal) (after : Option Refusal)
    → (if b then Some refusal else after) ≡ None → after ≡ None
others_by true refusal after is = cc
others_by false refusal after is = is

-- None of the conditions holds.
abbrev pub AreFalse : List (Bool × Refusal) → Type 0
AreFalse [] = Unit {0}
AreFalse (condition ∷ conditions) = (condition.0 ≡ false) × AreFalse conditions

-- Where no condition refuses, none holds.
pub none_holds : (conditions : List (Bool × Refusal)) → first_of conditions ≡ None
    → AreFalse conditions
unfolding first_of
none_holds [] is = tt
none_holds ((b, refusal) ∷ conditions) is = (
  first_false_by b refusal (first_of conditions) is,
  none_holds conditions (others_by b refusal (first_of conditions) is),
)

-- Where neither of two tests holds, the one doesn't.
pub neither_one : (a b : Bool) → (a || b) ≡ false → a ≡ false
neither_one true b is = is
neither_one false b is = refl

-- Nor does the other.
pub neither_other : (a b : Bool) → (a || b) ≡ false → b ≡ false
neither_other true b is = cc
neither_other false b is = is

-- Where no condition holds, the first doesn't, and none after it.
pub first_none : (b : Bool) (refusal : Refusal) (after : List (Bool × Refusal))
    → first_of ((b, refusal) ∷ after) ≡ None
    → (b ≡ false) × (first_of after ≡ None)
unfolding first_of
first_none true refusal after none = absurd (cc)
first_none false refusal after none = (refl, none)

-- a test that doesn't fail where another holds
pub and_other : (a b : Bool) → (not a && b) ≡ false → a ≡ false → b ≡ false
and_other true b both is = absurd (both_ways true is refl)
and_other false b both is = both

-- The first condition that holds is the first among more.
pub first_kept : (conditions more : List (Bool × Refusal)) (refusal : Refusal)
    → first_of conditions ≡ Some refusal → first_of (conditions ++ more) ≡ Some refusal
unfolding first_of
first_kept [] more refusal is = cc
first_kept ((true, first) ∷ conditions) more refusal is = is
first_kept ((false, first) ∷ conditions) more refusal is = first_kept conditions more refusal is

-- No call that is accepted answers that memory was refused.
pub answer_in_memory : (view : View) (act : Act) → answer_of view act ≢ OutOfMemory
answer_in_memory view (Open fields end) is = cc
answer_in_memory view act is = cc
