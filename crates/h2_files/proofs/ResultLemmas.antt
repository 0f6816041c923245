-- What a result is, once it is known whether it is one.
use Rattle.std.proofs.Common.{◌≡◌, List, ℕ, Some, Result, Ok, Err, IfOk}
use Rattle.std.proofs.Common.{Bor, IsUtf8, MatchResult, None, sym}
use Rattle.std.specs.Result.{result_ok}

-- What holds of a value holds of the one that was answered.
pub holds_of : {A E : Type 0} (P : A → Type 0) (r : Result A E) (x : A) → IfOk r P
    → result_ok r ≡ Some x → P x
holds_of P (Ok y) x holds is = let same : y ≡ x = cc in rw (sym same) holds
holds_of P (Err e) x holds is = absurd (cc)

-- Octets that are UTF-8 are read as a text.
pub reads_text : {E : Type 0} (Q : E → Type 0) (octets : List ℕ) (r : Result (Bor (List ℕ)) E)
    → MatchResult r (λ s. (s.now ≡ octets) × IsUtf8 octets) (λ e. (IsUtf8 octets → ⊥) × Q e)
    → IsUtf8 octets → result_ok r ≡ None → ⊥
reads_text Q octets (Ok text) cases is none = absurd (cc)
reads_text Q octets (Err e) cases is none = cases.0 is

-- The text that is read is the octets.
pub text_is : {E : Type 0} (Q : E → Type 0) (octets : List ℕ) (r : Result (Bor (List ℕ)) E)
    (text : Bor (List ℕ))
    → MatchResult r (λ s. (s.now ≡ octets) × IsUtf8 octets) (λ e. (IsUtf8 octets → ⊥) × Q e)
    → result_ok r ≡ Some text → text.now ≡ octets
text_is Q octets (Ok found) text cases is = let same : found ≡ text = cc in rw (sym same) cases.0
text_is Q octets (Err e) text cases is = absurd (cc)
