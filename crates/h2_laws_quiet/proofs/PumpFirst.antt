-- Of the streams on which something could go there is a lowest, or every stream is stuck.
use Rattle.std.proofs.Common.{◌≡◌, ◌⊎◌, inl, inr, ℕ, zero, suc, ◌<◌, true, List, [], ◌∷◌, refl}
use Rattle.std.proofs.Common.{sym, arith, subst}
use Rattle.std.proofs.lemmas.Bool.{both_ways, cases_Bool, cases_eq, and_parts, and_from}
use Rattle.h2_spec_log.specs.Log.{active}
use Rattle.h2_laws_end.specs.Over.{has_room}
use Rattle.h2_laws_pair.specs.Quiet.{NoneCouldGo}
use Rattle.h2_laws_pair.specs.Tokens.{Token, FieldsToken, OctetToken, EndToken}
use Rattle.h2_ends.specs.Ends.{EndLog, tokens_waiting}
use Rattle.h2_ends.specs.EndCalls.{IsStuckOn}
use Rattle.h2_ends.specs.Pumping.{IsStuckBelow}
use Rattle.h2_laws_quiet.specs.Going.{CouldGoOn}

-- Something could go on a stream, or it is stuck.
could_or_not : (end : EndLog) (i : ℕ) (tokens : List Token) → tokens_waiting end i ≡ tokens
    → active end.log i ≡ true → CouldGoOn end i ⊎ IsStuckOn end i
could_or_not end i [] is alive = inr (λ here. rw is tt)
could_or_not end i (FieldsToken list ended ∷ others) is alive =
    inl (record {
      active = alive;
      next = FieldsToken list ended;
      others = others;
      waits = is;
      could_go = tt;
    })
could_or_not end i (EndToken ∷ others) is alive =
    inl (record { active = alive; next = EndToken; others = others; waits = is; could_go = tt })
could_or_not end i (OctetToken octet ∷ others) is alive =
    elim (cases_Bool (has_room end.log i)) [
      | inl room ↦ inl (record {
        active = alive;
        next = OctetToken octet;
        others = others;
        waits = is;
        could_go = and_parts _ _ room;
      })
      | inr none ↦ inr (λ here. rw is (λ could.
          both_ways _ none (and_from _ _ could.0 could.1)))
    ]

pub could_or_stuck : (end : EndLog) (i : ℕ) → CouldGoOn end i ⊎ IsStuckOn end i
could_or_stuck end i = elim (cases_Bool (active end.log i)) [
  | inl alive ↦ could_or_not end i (tokens_waiting end i) refl alive
  | inr over ↦ inr (λ alive. absurd (both_ways _ over alive))
]

-- Where something could go on a stream, that isn't stuck.
pub not_stuck : (end : EndLog) (i : ℕ) → CouldGoOn end i → IsStuckOn end i → ⊥
not_stuck end i could stuck =
    let never : NoneCouldGo end.log i (could.next ∷ could.others) =
    subst (λ (line : List Token). NoneCouldGo end.log i line) could.waits (stuck could.active) in
    never could.could_go

-- The lowest stream below a number on which something could go, or none.
pub record IsLowest (end : EndLog) (i bound : ℕ) : Type 0 where
  pub within : i < bound
  pub could : CouldGoOn end i
  pub below : IsStuckBelow end i

pub lowest_below : (end : EndLog) (bound : ℕ)
    → ((i : ℕ) × IsLowest end i bound) ⊎ IsStuckBelow end bound
lowest_below end zero = inr (λ j low. absurd (omega (arith, low)))
lowest_below end (suc n) = elim (lowest_below end n) [
  | inl found ↦ inl (
    found.0,
    record {
      within = let low = found.1.within in omega (arith, low);
      could = found.1.could;
      below = found.1.below;
    },
  )
  | inr none ↦ elim (could_or_stuck end n) [
    | inl could ↦ inl (n, record { within = omega arith; could = could; below = none })
    | inr stuck ↦ inr (λ j low. elim (cases_eq j n) [
      | inl same ↦ subst (λ (i : ℕ). IsStuckOn end i) (sym same) stuck
      | inr other ↦ none j (omega (arith, low, other))
    ])
  ]
]
