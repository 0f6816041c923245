-- The first of some conditions that holds, and calls that are refused for it.
use Rattle.h2_core.proofs.Names.{◌≡◌, Bool, true, false, List, ◌∷◌, Option, Some, None, refl, inl}
use Rattle.h2_core.proofs.Names.{inr, option_map, is_err, Refusal, Memory, Act, refusal_of, End}
use Rattle.h2_core.proofs.Names.{end_view, CallRefused, first_of}
use Rattle.std.specs.Option.{is_some}
use Rattle.std.specs.Prelude.{Result, Ok, Err, OnErr}

-- It holds.
pub holds_first : (holds : Bool) (refusal : Refusal) (conditions : List (Bool × Refusal))
    → holds ≡ true → first_of ((holds, refusal) ∷ conditions) ≡ Some refusal
unfolding first_of
holds_first holds refusal conditions is = rw is refl

-- It doesn't hold, so the others decide.
pub others_decide : (holds : Bool) (refusal : Refusal) (conditions : List (Bool × Refusal))
    (first : Option Refusal)
    → holds ≡ false → first_of conditions ≡ first
    → first_of ((holds, refusal) ∷ conditions) ≡ first
unfolding first_of
others_decide holds refusal conditions first is decided = rw is decided

-- A call is refused, and nothing has changed.
pub refused : (e : End) (act : Act) (refusal : Refusal)
    → refusal_of (end_view e) act ≡ Some refusal → CallRefused e act refusal e
refused e act refusal why = record { why = inl why; same = refl }

-- Memory is refused to a call that no condition refuses, and nothing has changed.
pub lacks_memory : (e new : End) (act : Act) → refusal_of (end_view e) act ≡ None → new ≡ e
    → CallRefused e act Memory new
lacks_memory e new act free same = record { why = inr (refl, free); same = same }

-- A value that is mapped is there where the value is.
pub is_some_mapped : {A B : Type 0} (f : A → B) (value : Option A)
    → is_some (option_map f value) ≡ is_some value
is_some_mapped f None = refl
is_some_mapped f (Some x) = refl

-- What holds on `Err`, where it is one.
pub if_err : {T E P : Type 0} (result : Result T E) → is_err result ≡ true → OnErr result P → P
if_err (Ok value) is holds = cc
if_err (Err error) is holds = holds
