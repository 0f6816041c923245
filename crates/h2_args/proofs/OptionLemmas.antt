-- What the getters of flags and options read, by the rows of the matches.
use Rattle.h2_args.proofs.Names.{◌≡◌, ◌∙◌, Bool, true, false, refl, sym, ap, Option, Some, None}
use Rattle.h2_args.proofs.Names.{codes, unwrap_or, bytes_eq, bytes_eq-Decides, ReadsOne, Text}
use Rattle.h2_args.proofs.Names.{one_of, one_text, rows_of, Found, one_text-rows}
use Rattle.std.specs.Str.Parse.{ParsesBool}
use Rattle.h2_args.specs.Words.{is_set}

-- A flag is read as set where its value is `true`.
pub flag_read : (E : Type 0) (f : Found) (id : Text) (r : Option Bool)
    → (one_text f id ≡ None → r ≡ None)
    → ((t : Text) → one_text f id ≡ Some t → ReadsOne {E = E} ParsesBool t r)
    → unwrap_or r false ≡ is_set (one_of id (rows_of f))
flag_read E f id r none value =
    go (one_text f id) refl ∙ ap (λ (o : Option Text). is_set o) (one_text-rows f id)
  where
    at_none : (t : Text) → (bytes_eq t (codes "true") ≡ true → ⊥)
        → false ≡ bytes_eq t (codes "true")
    at_none t not = from (bytes_eq t (codes "true")) not
      where
        from : (b : Bool) → (b ≡ true → ⊥) → false ≡ b
        from true h = absurd (h refl)
        from false h = refl

    given : (t : Text) (s : Option Bool) → ReadsOne {E = E} ParsesBool t s
        → unwrap_or s false ≡ bytes_eq t (codes "true")
    given t (Some true) h = sym (ap (λ (u : Text). bytes_eq u (codes "true")) h)
    given t (Some false) h = sym (ap (λ (u : Text). bytes_eq u (codes "true")) h)
    given t None h =
        at_none t (λ same. h.1.0 ((bytes_eq-Decides t (codes "true")).0 same))

    go : (o : Option Text) → one_text f id ≡ o → unwrap_or r false ≡ is_set o
    go None e = ap (λ (s : Option Bool). unwrap_or s false) (none e)
    go (Some t) e = given t r (value t e)
