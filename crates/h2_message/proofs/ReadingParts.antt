-- Which phase comes after trailers and after octets.
use Rattle.std.specs.Prelude.{is_some, not, ◌||◌}
use Rattle.h2_message.proofs.Names
use Names.{◌≡◌, ℕ, ◌-◌, ◌<◌, ◌≤◌, Bool, true, false, List, Option, None, Some, ◌⊎◌, inl, inr, refl}
use Names.{lt-ltb, le-ltb, Field, Reads, Phase, AtHead, InBody, AtEnd, first_broken, trailer_rules}
use Names.{FieldsPart, OctetsPart, is_short, phase_in_body, phase_after_data, phase_after}

-- One test that holds is enough.
one_holds : (end short broken : Bool)
    → ((end ≡ false) ⊎ ((short ≡ true) ⊎ (broken ≡ true)))
    → (not end || short || broken) ≡ true
one_holds false short broken why = refl
one_holds true true broken why = refl
one_holds true false true why = refl
one_holds true false false (inl why) = cc
one_holds true false false (inr (inl why)) = cc
one_holds true false false (inr (inr why)) = cc

-- Trailers that are refused, and those that are taken.
pub no_trailers : (reads : Reads) (left : Option ℕ) (list : List Field) (end : Bool)
    → ((end ≡ false) ⊎ ((is_short left ≡ true)
    ⊎ (is_some (first_broken (trailer_rules list)) ≡ true)))
    → phase_after reads (InBody left) (FieldsPart list, end) ≡ None
unfolding phase_after
no_trailers reads left list end why =
    rw (one_holds end (is_short left) (is_some (first_broken (trailer_rules list))) why)

pub some_trailers : (reads : Reads) (left : Option ℕ) (list : List Field) (end : Bool)
    → end ≡ true → is_short left ≡ false
    → is_some (first_broken (trailer_rules list)) ≡ false
    → phase_after reads (InBody left) (FieldsPart list, end) ≡ Some AtEnd
unfolding phase_after
some_trailers reads left list end last all sound = rw (last, all, sound)

-- After the end no field block is taken.
pub nothing_after : (reads : Reads) (list : List Field) (end : Bool)
    → phase_after reads AtEnd (FieldsPart list, end) ≡ None
unfolding phase_after
nothing_after reads list end = refl

-- Octets outside of a body.
pub no_octets : (reads : Reads) (phase : Phase) (octets : List ℕ) (end : Bool)
    → ((left : Option ℕ) → phase ≡ InBody left → ⊥)
    → phase_after reads phase (OctetsPart octets, end) ≡ None
unfolding phase_after
no_octets reads AtHead octets end other = refl
no_octets reads (InBody left) octets end other = absurd (other left refl)
no_octets reads AtEnd octets end other = refl

-- Octets of a body: too many, and otherwise.
pub too_many : (left : Option ℕ) (number count : ℕ) (end : Bool) → left ≡ Some number
    → number < count → phase_after_data left count end ≡ None
unfolding phase_after_data
too_many left number count end is less = rw (is, lt-ltb number count less)

pub octets_of_any : (left rest : Option ℕ) (count : ℕ) (end : Bool) → left ≡ None → rest ≡ None
    → phase_in_body rest end ≡ phase_after_data left count end
unfolding phase_after_data
octets_of_any left rest count end is none = rw (is, none)

pub octets_of_some : (left rest : Option ℕ) (number other count : ℕ) (end : Bool)
    → left ≡ Some number → left ≡ Some other → count ≤ number → rest ≡ Some (other - count)
    → phase_in_body rest end ≡ phase_after_data left count end
unfolding phase_after_data
octets_of_some left rest number other count end is also enough more =
    let same : number ≡ other = cc in
    let enough_now = rw same at enough in
    rw (also, more, le-ltb other count enough_now)

-- What is none of any value is nothing.
pub nothing_else : {X : Type 0} (option : Option X) → ((value : X) → option ≡ Some value → ⊥)
    → option ≡ None
nothing_else None other = refl
nothing_else (Some value) other = absurd (other value refl)
