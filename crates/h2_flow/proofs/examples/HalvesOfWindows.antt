-- When credit is due: of 65,535 octets from 32,768 on, the first that is no less than what is left;
-- of 1,048,576 from their half on; in a window of 65,534 from the first octet on; and in one that
-- SETTINGS have made negative. Nothing is due for nothing.
use Rattle.std.specs.Prelude.{◌≡◌, Bool, true, false, List, [], ◌∷◌, pos, ◌-ℤ◌}
use Rattle.std.proofs.Common.{refl}
use Rattle.h2_flow.specs.Credit.{is_credit_due}

abbrev due : List Bool
due =
    is_credit_due (pos 0) (pos 65535) ∷ is_credit_due (pos 32767) (pos 32768)
    ∷ is_credit_due (pos 32768) (pos 32767) ∷ is_credit_due (pos 65535) (pos 0)
    ∷ is_credit_due (pos 524287) (pos 524289) ∷ is_credit_due (pos 524288) (pos 524288)
    ∷ is_credit_due (pos 1) (pos 65534) ∷ is_credit_due (pos 1) (pos 65533)
    ∷ is_credit_due (pos 1) (pos 0 -ℤ pos 5) ∷ is_credit_due (pos 0) (pos 0 -ℤ pos 5) ∷ []

pub credit_is_due : due
    ≡ false ∷ false ∷ true ∷ true ∷ false ∷ true ∷ false ∷ true ∷ true ∷ false ∷ []
credit_is_due = refl
