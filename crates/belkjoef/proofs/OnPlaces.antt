-- A function of belkjoef.h where the place holds an end.
use Rattle.std.proofs.Common.{◌≡◌, ◌<◌, sym, subst, inr, ℤ, to_z, of_z, w32}
use Rattle.std.proofs.Math.Facts.{to_z-of_z}
use lib.Signed.{mag}
use Rattle.std.specs.Prelude.{Option, Some}
use Rattle.h2_spec_log.specs.declared.role.Role.{Role}
use Rattle.h2_spec_log.specs.declared.role.Role.TheVariants as roles
use Rattle.belkjoef.specs.declared.held.Held.{Held}
use Rattle.belkjoef.specs.Calls.{OnPlace}
use Rattle.belkjoef.specs.Given.{Copies, AtServer, IfRole}
use Rattle.belkjoef.specs.Helds.{side_role}

-- The place holds an end before and after, with which this was done.
pub on_place : {A : Type 0} (answer : ℤ) (Does : A → A → Type 0) {old new : Option A} {a b : A}
    → old ≡ Some a → new ≡ Some b → Does a b → OnPlace answer Does old new
on_place {A = A} answer Does {old = old} {new = new} {a = a} {b = b} e f done =
    subst (λ (o : Option A). OnPlace answer Does o new) (sym e)
    (subst (λ (n : Option A). OnPlace answer Does (Some a) n) (sym f) done)

-- The same of an answer that was read back.
pub on_place_told : {A : Type 0} (Does : ℤ → A → A → Type 0) {told answer : ℤ}
    {old new : Option A} {a b : A} → told ≡ answer → old ≡ Some a → new ≡ Some b
    → Does answer a b → OnPlace told (Does told) old new
on_place_told Does {told = told} {a = a} {b = b} same e f done =
    on_place told (Does told) e f (subst (λ (z : ℤ). Does z a b) (sym same) done)

-- The end is a server.
pub at_server : (answer : ℤ) (Does : Held → Held → Type 0) {old new : Held}
    → side_role old.side ≡ roles.Server → Does old new → AtServer answer Does old new
at_server answer Does {old = old} {new = new} is done =
    subst (λ (role : Role). IfRole roles.Server role answer Does old new) (sym is) done

-- Copies were made, with which this was done.
pub on_copies : {A : Type 0} (Does : A → ℤ → Held → Held → Type 0) {told answer : ℤ}
    {old new : Held}
    {copied given : A} → told ≡ answer → copied ≡ given → Does copied answer old new
    → Copies told (Does given told) old new
on_copies {A = A} Does {answer = answer} {old = old} {new = new} {given = given} same are done =
    inr (subst (λ (z : ℤ). Does given z old new) (sym same)
    (subst (λ (x : A). Does x answer old new) are done))

-- A number of 32 bits is what its bits say.
pub read_back : {z : ℤ} → mag z < 2147483648 → to_z w32 (of_z w32 z) ≡ z
read_back small = to_z-of_z {w = w32} (record { sfits = small })
