-- How many octets of a body are among what a call sends.
use Rattle.std.proofs.Common.{◌≡◌, ℕ, ◌+◌, ◌≤◌, ◌==◌, Bool, true, false, List, [], ◌∷◌, ◌++◌}
use Rattle.std.proofs.Common.{length, take, refl, ap, arith, length-take, if◌then◌else◌, ◌&&◌, suc}
use Rattle.std.proofs.Common.{map as each, ◌∙◌}
use Rattle.std.proofs.lemmas.Bool.{eq-eqb}
use Rattle.hpack.specs.declared.types.field.Field.{Field}
use Rattle.h2_spec_log.specs.Acts.{SendFields, SendData, Count, Done}
use Rattle.h2_laws_pair.specs.Tokens.{Token, FieldsToken, OctetToken, EndToken}
unfoldable use Rattle.h2_laws_pair.specs.Tokens.{tokens_of_call, end_tokens}
unfoldable use Rattle.h2_ends.specs.EndCalls.{octets_among}

-- Those of two lists of tokens are those of both.
pub among_both : (one other : List Token)
    → octets_among (one ++ other) ≡ octets_among one + octets_among other
unfolding octets_among
among_both [] other = omega arith
among_both (OctetToken octet ∷ one) other = omega (arith, among_both one other)
among_both (FieldsToken list ended ∷ one) other = among_both one other
among_both (EndToken ∷ one) other = among_both one other

-- Octets, and the end with them or none.
among_octets : (octets : List ℕ) (ended : Bool)
    → octets_among (each OctetToken octets ++ end_tokens ended) ≡ length octets
unfolding octets_among end_tokens
among_octets [] true = refl
among_octets [] false = refl
among_octets (octet ∷ octets) ended = ap suc (among_octets octets ended)

by_test : (here : Bool) (tokens : List Token) (n : ℕ) → octets_among tokens ≡ n
    → octets_among (if here then tokens else []) ≡ (if here then n else 0)
unfolding octets_among
by_test true tokens n is = is
by_test false tokens n is = refl

-- A call that sends octets of a body sends so many on its stream, and none on another.
pub among_data : (i id : ℕ) (octets : List ℕ) (ends : Bool) (n : ℕ) → n ≤ length octets
    → octets_among (tokens_of_call i (SendData id octets ends) (Count n))
    ≡ (if id == i then n else 0)
unfolding tokens_of_call
among_data i id octets ends n within =
    by_test (id == i) _ n (among_octets (take n octets) (ends && n == length octets)
    ∙ omega (arith, length-take n octets, within))

pub among_data_here : (id : ℕ) (octets : List ℕ) (ends : Bool) (n : ℕ) → n ≤ length octets
    → octets_among (tokens_of_call id (SendData id octets ends) (Count n)) ≡ n
among_data_here id octets ends n within =
    among_data id id octets ends n within
    ∙ ap (λ (here : Bool). if here then n else 0) (eq-eqb id id refl)

-- One that sends trailers sends none.
pub among_fields : (i id : ℕ) (list : List Field)
    → octets_among (tokens_of_call i (SendFields id list true) Done) ≡ 0
unfolding tokens_of_call octets_among end_tokens
among_fields i id list = none (id == i)
  where
    none : (here : Bool)
        → octets_among (if here then FieldsToken list true ∷ end_tokens true else []) ≡ 0
    none true = refl
    none false = refl

-- No more octets wait than tokens.
pub among_within : (tokens : List Token) → octets_among tokens ≤ length tokens
unfolding octets_among
among_within [] = omega arith
among_within (OctetToken octet ∷ tokens) = omega (arith, among_within tokens)
among_within (FieldsToken list ended ∷ tokens) = omega (arith, among_within tokens)
among_within (EndToken ∷ tokens) = omega (arith, among_within tokens)
