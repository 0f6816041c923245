-- What is seen of a list of fields and of one more field.
use Rattle.h2_message.proofs.Names.{◌≡◌, ℕ, ◌+◌, ◌||◌, ◌&&◌, cond, Bool, true, false, List, [], ◌∷◌}
use Rattle.h2_message.proofs.Names.{◌++◌, Option, Some, None, refl, sym, ap, ap₂, ◌∙◌, arith}
use Rattle.h2_message.proofs.Names.{list_any, count_by, option_or, is_some, or-false, lt-ltb}
use Rattle.h2_message.proofs.Names.{list_any-append, sum_by-append, Field, is_pseudo, is_regular}
use Rattle.h2_message.proofs.Names.{is_named, value_of, has_late_pseudo}
use Rattle.std.proofs.Common.{zero, suc, nat_lt}

-- whether an element passes, or one more does
pub any-push : {X : Type 0} (p : X → Bool) (xs : List X) (x : X)
    → list_any p (xs ++ x ∷ []) ≡ (list_any p xs || p x)
any-push p xs x =
    list_any-append p xs (x ∷ []) ∙ ap (λ (b : Bool). list_any p xs || b) (or-false (p x))

-- A field is late after itself in no list.
late-none : (b : Bool) → ((b && false) || false) ≡ false
late-none true = refl
late-none false = refl

late-step : (regular any pseudo late some : Bool)
    → ((regular && (any || pseudo)) || (late || (some && pseudo)))
    ≡ (((regular && any) || late) || ((regular || some) && pseudo))
late-step true true pseudo late some = refl
late-step true false true true some = refl
late-step true false true false some = refl
late-step true false false true some = refl
late-step true false false false true = refl
late-step true false false false false = refl
late-step false any pseudo late some = grind arith

-- A pseudo-field is late where a regular one came before.
pub late-push : (fields : List Field) (field : Field)
    → has_late_pseudo (fields ++ field ∷ [])
    ≡ (has_late_pseudo fields || (list_any is_regular fields && is_pseudo field))
unfolding has_late_pseudo
late-push [] field = late-none (is_regular field)
late-push (first ∷ fields) field =
    ap₂ (λ (a b : Bool). (is_regular first && a) || b) (any-push is_pseudo fields field)
    (late-push fields field)
    ∙ late-step (is_regular first) (list_any is_pseudo fields) (is_pseudo field)
    (has_late_pseudo fields) (list_any is_regular fields)

value-step : (b : Bool) (value : List ℕ) (all some last : Option (List ℕ))
    → all ≡ option_or some last
    → cond b (Some value) all ≡ option_or (cond b (Some value) some) last
value-step true value all some last same = refl
value-step false value all some last same = same

-- the value of the first field with a name
pub value-push : (name : List ℕ) (fields : List Field) (field : Field)
    → value_of name (fields ++ field ∷ [])
    ≡ option_or (value_of name fields) (cond (is_named name field) (Some field.value) None)
unfolding value_of
value-push name [] field = refl
value-push name (first ∷ fields) field =
    value-step (is_named name first) first.value (value_of name (fields ++ field ∷ []))
    (value_of name fields) (cond (is_named name field) (Some field.value) None)
    (value-push name fields field)

there-step : (b : Bool) (value : List ℕ) (some : Option (List ℕ)) (any : Bool)
    → is_some some ≡ any → is_some (cond b (Some value) some) ≡ (b || any)
there-step true value some any same = refl
there-step false value some any same = same

-- There is a field with a name where it has a value.
pub value-any : (name : List ℕ) (fields : List Field)
    → is_some (value_of name fields) ≡ list_any (is_named name) fields
unfolding value_of
value-any name [] = refl
value-any name (first ∷ fields) =
    there-step (is_named name first) first.value (value_of name fields)
    (list_any (is_named name) fields) (value-any name fields)

-- how many pass
count-push : {X : Type 0} (p : X → Bool) (xs : List X) (x : X)
    → count_by p (xs ++ x ∷ []) ≡ count_by p xs + (0 + cond (p x) 1 0)
count-push p xs x = sum_by-append (λ y. cond (p y) 1 0) xs (x ∷ [])

count-step : (b : Bool) (n : ℕ) (any : Bool) → nat_lt 0 n ≡ any
    → nat_lt 0 (0 + cond b 1 0 + n) ≡ (b || any)
count-step true n any same = lt-ltb 0 (0 + 1 + n) (omega arith)
count-step false n any same = ap (λ (m : ℕ). nat_lt 0 m) (omega arith) ∙ same

-- Some pass where not none pass.
count-any : {X : Type 0} (p : X → Bool) (xs : List X)
    → nat_lt 0 (count_by p xs) ≡ list_any p xs
count-any p [] = refl
count-any p (x ∷ xs) =
    ap (λ (n : ℕ). nat_lt 0 n) (sum_by-append (λ y. cond (p y) 1 0) (x ∷ []) xs)
    ∙ count-step (p x) (count_by p xs) (list_any p xs) (count-any p xs)

two-more : (n : ℕ) (b : Bool) → nat_lt 1 (suc (suc n) + (0 + cond b 1 0)) ≡ true
two-more n true = lt-ltb 1 (suc (suc n) + (0 + 1)) (omega arith)
two-more n false = lt-ltb 1 (suc (suc n) + (0 + 0)) (omega arith)

twice-step : (n : ℕ) (b : Bool)
    → nat_lt 1 (n + (0 + cond b 1 0)) ≡ (nat_lt 1 n || (nat_lt 0 n && b))
twice-step zero true = refl
twice-step zero false = refl
twice-step (suc zero) true = refl
twice-step (suc zero) false = refl
twice-step (suc (suc n)) b =
    two-more n b
    ∙ sym (ap (λ (two : Bool). two || (nat_lt 0 (suc (suc n)) && b))
    (lt-ltb 1 (suc (suc n)) (omega arith)))

-- Two pass where two passed, or where one passed and one more does.
pub twice-push : {X : Type 0} (p : X → Bool) (xs : List X) (x : X)
    → nat_lt 1 (count_by p (xs ++ x ∷ []))
    ≡ (nat_lt 1 (count_by p xs) || (list_any p xs && p x))
twice-push p xs x =
    ap (λ (n : ℕ). nat_lt 1 n) (count-push p xs x)
    ∙ (twice-step (count_by p xs) (p x)
    ∙ ap (λ (b : Bool). nat_lt 1 (count_by p xs) || (b && p x)) (count-any p xs))

pub or-swap : (a b c d : Bool) → ((a || b) || (c || d)) ≡ ((a || c) || (b || d))
or-swap true b c d = refl
or-swap false true true d = refl
or-swap false true false d = refl
or-swap false false c d = refl

-- whether a name passes one test or the other
pub any-or : {X : Type 0} (f g : X → Bool) (xs : List X)
    → list_any (λ x. f x || g x) xs ≡ (list_any f xs || list_any g xs)
any-or f g [] = refl
any-or f g (x ∷ xs) =
    ap (λ (b : Bool). (f x || g x) || b) (any-or f g xs)
    ∙ or-swap (f x) (g x) (list_any f xs) (list_any g xs)

-- Tests that agree on each element agree on a list.
pub any-same : {X : Type 0} (f g : X → Bool) → ((x : X) → f x ≡ g x) → (xs : List X)
    → list_any f xs ≡ list_any g xs
any-same f g same [] = refl
any-same f g same (x ∷ xs) = ap₂ (λ (a b : Bool). a || b) (same x) (any-same f g same xs)
