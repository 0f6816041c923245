-- The octets of a pipe, once some were delivered.
use Rattle.h2_joined.proofs.Names.{◌+◌, ◌-◌, ◌^◌, ◌<◌, ◌≤◌, [], ◌++◌, length, take, drop, refl, sym}
use Rattle.h2_joined.proofs.Names.{ap, ◌∙◌, arith, take-append-drop, drop-drop, drop_min, Pipe}
use Rattle.h2_joined.proofs.Names.{HoldsOctets, ◌≡◌, ℕ, List, length-append, length-drop}
use Rattle.std.proofs.Common.{min}
use Rattle.std.proofs.lemmas.List.{length-take-le, drop_at}

-- how many octets of a pipe were delivered once so many more are, of all that it has
abbrev pub IsUsed : Pipe → (count used : ℕ) → Type 0
IsUsed pipe count used =
    used ≡ min (min (pipe.used + count) (2 ^ 64 - 1)) (length pipe.octets.items)

-- What is left then.
pub left_after : (pipe : Pipe) (octets : List ℕ) (count used : ℕ) → HoldsOctets pipe octets
    → length pipe.octets.items < 2 ^ 64 → IsUsed pipe count used
    → drop used pipe.octets.items ≡ drop count octets
left_after pipe octets count used holds small is =
    let sum = length-append holds.delivered octets in
    let all = ap length holds.items in
    let more : used ≡ length holds.delivered + min count (length octets) = omega
    (arith, is, sum, all, holds.count, small) in
    rw (
      holds.items,
      more,
      ← drop-drop _ (length holds.delivered) _,
      drop_at holds.delivered octets (length holds.delivered) refl,
    ) (drop_min count octets)

-- The octets that were delivered are kept, while they are less than half.
pub holds_behind : (pipe new : Pipe) (octets : List ℕ) (count used : ℕ)
    → HoldsOctets pipe octets → length pipe.octets.items < 2 ^ 64 → IsUsed pipe count used
    → used + used ≤ length pipe.octets.items
    → new.octets.items ≡ pipe.octets.items → new.used ≡ used → HoldsOctets new (drop count octets)
holds_behind pipe new octets count used holds small is few same at =
    let front = length-take-le used pipe.octets.items (omega (arith, is)) in
    let left = ap length (left_after pipe octets count used holds small is) in
    let all = length-drop used pipe.octets.items in
    record {
      delivered = take used pipe.octets.items;
      items = same ∙ sym (take-append-drop used pipe.octets.items)
          ∙ ap (λ (left : List ℕ). take used pipe.octets.items ++ left)
          (left_after pipe octets count used holds small is);
      count = at ∙ sym front;
      half = omega (arith, front, left, all, few);
    }

-- They are dropped.
pub holds_alone : (pipe new : Pipe) (octets : List ℕ) (count used : ℕ)
    → HoldsOctets pipe octets → length pipe.octets.items < 2 ^ 64 → IsUsed pipe count used
    → new.octets.items ≡ drop used pipe.octets.items → new.used ≡ 0
    → HoldsOctets new (drop count octets)
holds_alone pipe new octets count used holds small is left none =
    record {
      delivered = [];
      items = left ∙ left_after pipe octets count used holds small is;
      count = none;
      half = omega arith;
    }
