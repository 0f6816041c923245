-- Whether a name is one of five, as one test after another says.
use Rattle.h2_message.proofs.Names.{◌≡◌, ℕ, nat_eq, ◌||◌, Bool, true, false, List, refl, sym, ap}
use Rattle.h2_message.proofs.Names.{◌∙◌, pointwise, bytes_eq, or-false}

-- What `==` says of two texts, whatever it is.
pub compared-as : (name slice text : List ℕ) (result : Bool)
    → result ≡ pointwise nat_eq name slice → slice ≡ text → result ≡ bytes_eq name text
compared-as name slice text result is same = is ∙ ap (bytes_eq name) same

-- one test or the next, where the first holds
pub or-then : (first second value : Bool) → first ≡ true → value ≡ true
    → value ≡ (first || second)
or-then first second value holds is = is ∙ ap (λ (b : Bool). b || second) (sym holds)

-- the same where it doesn't
pub or-else : (first second value : Bool) → first ≡ false → value ≡ second
    → value ≡ (first || second)
or-else first second value fails is = is ∙ ap (λ (b : Bool). b || second) (sym fails)

regrouped : (a b c d e : Bool)
    → ((((a || b) || c) || d) || e) ≡ (a || (b || (c || (d || (e || false)))))
regrouped true b c d e = refl
regrouped false true c d e = refl
regrouped false false true d e = refl
regrouped false false false true e = refl
regrouped false false false false e = sym (or-false e)

-- five tests, each after those before it
pub or-five : (a b c d e two three four five : Bool) → two ≡ (a || b) → three ≡ (two || c)
    → four ≡ (three || d) → five ≡ (four || e)
    → five ≡ (a || (b || (c || (d || (e || false)))))
or-five a b c d e two three four five second third fourth fifth =
    rw (fifth, fourth, third, second) (regrouped a b c d e)
