-- Whatever is written, the numbers stay in order.
use Rattle.std.proofs.Common.{◌≡◌, ℕ, List, nat_eq}
use Rattle.std.specs.Map.{keys_of}
use Rattle.h2_numbers.specs.Entries.{IsOrderOf}
use Rattle.h2_numbers.specs.Tables.{all_of}
use Rattle.std.proofs.lemmas.Map.Made.{IsSome-lookup_same_keys}
use Rattle.h2_numbers.proofs.Orders.{order_kept}
use Rattle.h2_numbers.proofs.map.NumberMap.get_mut.Goals as goal

-- Where the keys are the same, the same numbers have values.
same_keys : {V : Type 0} → (old new : List (ℕ × V)) (order : List ℕ) → keys_of new ≡ keys_of old
    → IsOrderOf old order → IsOrderOf new order
same_keys old new order same is =
    let both = λ (q : ℕ). IsSome-lookup_same_keys (nat_eq q) new old same in
    order_kept old new order (λ q. (both q).0) (λ q. (both q).1) is

pub invariant_of-self-lent : goal.invariant_of-self-lent
invariant_of-self-lent g c = λ lent. (
  λ w. same_keys (all_of c.self.inside.table) (all_of (c.get_mut.follows.lender w))
      c.self.inside.order.items (c.get_mut.follows.holds w).numbers c.self.invariant,
  rw (c.get_mut.follows.holds-at-none) c.self.invariant,
)
