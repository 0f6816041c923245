-- Whatever is written at another number, the one that was put in last is none of the others.
use Rattle.std.proofs.Common.{◌≡◌, ℕ, List, None, nat_eq, ap, inl, inr}
use Rattle.std.specs.Map.{keys_of}
use Rattle.std.specs.HashMap.{keys}
use Rattle.std.specs.Option.{is_some}
use Rattle.std.proofs.lemmas.Bool.{both_ways, cases_Bool}
use Rattle.std.proofs.lemmas.Map.Made.{IsSome-lookup_same_keys}
use Rattle.h2_numbers.specs.Entries.{value_at}
use Rattle.h2_numbers.proofs.Orders.{none_of}
use Rattle.h2_numbers.proofs.table.NumberTable.get_mut.Goals as goal

-- Where the keys are the same, a number that has no value still has none.
none_still : {V : Type 0} → (old new : List (ℕ × V)) (q : ℕ) → keys_of new ≡ keys_of old
    → value_at q old ≡ None → value_at q new ≡ None
none_still old new q same none =
    elim (cases_Bool (is_some (value_at q new))) [
      | inl some ↦ absurd (both_ways _ (ap is_some none)
          ((IsSome-lookup_same_keys (nat_eq q) new old same).0 some))
      | inr absent ↦ none_of (value_at q new) absent
    ]

pub invariant_of-self-lent-2 : goal.invariant_of-self-lent-2
invariant_of-self-lent-2 g c = λ lent. (
  λ w some. none_still c.self.inside.older.entries (c.get_mut.follows.lender w).entries
      c.self.inside.number (c.get_mut.follows.holds w).1 (c.self.invariant some),
  λ some. none_still c.self.inside.older.entries c.get_mut.follows.lender-at-none.entries
      c.self.inside.number (ap keys c.get_mut.follows.holds-at-none) (c.self.invariant some),
)
