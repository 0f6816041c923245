-- The number is put at its place in the order, for which there is room.
use Rattle.std.proofs.Common.{◌<◌, None, length, ◌≡◌, ◌+◌, arith, rules}
use Rattle.std.specs.Vec.{vec_len, vec_capacity}
use Rattle.h2_numbers.specs.Entries.{value_at}
use Rattle.h2_numbers.specs.Tables.{all_of}
use Rattle.h2_numbers.proofs.Orders.{order_with}
use Rattle.h2_numbers.proofs.map.NumberMap.insert.Goals as goal

pub invariant_of-self-2 : goal.invariant_of-self-2
invariant_of-self-2 g c =
    let t = c.self.inside in
    let room : vec_len c.reserve.new.self < vec_capacity c.reserve.new.self =
    omega (arith, c.in_ok-reserve.ensures.ok) in
    let placed = c.insert-placed.ensures.succeeds room in
    let absent : value_at c.args.id (all_of t.table) ≡ None = search rules in
    let count : length c.insert-placed.new.self.items ≡ length c.reserve.new.self.items + 1 =
    omega (
      arith,
      rw placed at c.insert-placed.ensures.len,
      c.insert-placed.new.self.ok.0,
      c.reserve.new.self.ok.0,
    ) in
    order_with (all_of t.table) (all_of c.insert.new.self) c.args.value c.reserve.new.self.items
    c.insert-placed.new.self.items c.args.id c.first_above-at.result
    (rw c.in_ok-reserve.ensures.items c.self.invariant) absent c.in_ok-insert.ensures.updates
    (rw c.deref.ensures.value at c.first_above-at.ensures) (record {
      count = count;
      below = λ k low. c.insert-placed.ensures.by_index.1 k 0 low;
      here = c.insert-placed.ensures.by_index.0 0 placed;
      above = λ k high. c.insert-placed.ensures.by_index.2 k 0 placed high;
    })
