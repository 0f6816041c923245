-- The number is taken out at its place in the order.
use Rattle.std.proofs.Common.{◌<◌, ◌≡◌, ◌+◌, ◌-◌, ◌∙◌, sym, length, arith}
use Rattle.std.specs.List.{slice_index}
use Rattle.std.proofs.lemmas.List.{get_or_default}
use Rattle.h2_numbers.specs.Tables.{all_of}
use Rattle.h2_numbers.proofs.Orders.{order_without}
use Rattle.h2_numbers.proofs.map.NumberMap.remove.Goals as goal

pub invariant_of-self : goal.invariant_of-self
invariant_of-self g c =
    let t = c.self.inside in
    let after = c.remove-then-index-id.new.self in
    let first = rw c.deref.ensures.value at c.first_above-end.ensures in
    let place = c.first_above-end.result - 1 in
    let within : place < length t.order.items = omega (arith, first.within, c.if-end-gt0.true) in
    let here : slice_index t.order.items place ≡ c.args.id =
    get_or_default t.order.items place _ _ within ∙ sym c.index.ensures ∙ c.if-index-id.true in
    let count : length after.items + 1 ≡ length t.order.items =
    omega (arith, c.remove-then-index-id.ensures.len, after.ok.0, t.order.ok.0) in
    order_without (all_of t.table) (all_of c.remove.new.self) t.order.items after.items c.args.id
    place c.self.invariant c.remove.ensures.updates here (record {
      within = within;
      count = count;
      below = λ k low. c.remove-then-index-id.ensures.by_index.0 k 0 low;
      above = λ k high. c.remove-then-index-id.ensures.by_index.1 k 0 high;
    })
