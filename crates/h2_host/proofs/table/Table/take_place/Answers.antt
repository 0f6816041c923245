use Rattle.std.proofs.Common.{◌∙◌, ◌+◌, ap, arith, refl, subst, sym}
use Rattle.std.proofs.lemmas.List.{length-set}
use Rattle.h2_host.specs.Tokens.{AreFree}
use Rattle.h2_host.proofs.Counted.{empty_below, one_more, taken_counts}
use Rattle.h2_host.proofs.FreePlaces.{free_taken, last_empty, next_taken}
use Rattle.h2_host.proofs.Places.{slot_read}
use Rattle.h2_host.proofs.table.Table.take_place.Goals as goal

pub invariant_of-self-2 : goal.invariant_of-self-2
invariant_of-self-2 g c =
    let slots = c.args.self.now.slots.items in
    let place = c.in-Some.place in
    let slot = c.in-Some-get_mut.slot.now in
    let at = slot_read slots place slot c.in-Some-get_mut.ensures.item.3 in
    let are = subst (AreFree slots) c.in-Some.ensures.items c.args.self.now.free_ones in
    let empty = last_empty slots c.pop.new.self.items place slot are at in
    record {
      free_ones = free_taken slots c.pop.new.self.items place slot _ are at;
      next_ones = next_taken slots c.pop.new.self.items place slot _ are
          c.args.self.now.next_ones at refl;
      counted = one_more c.args.self.now.count _ _
          (taken_counts slots place slot _ at empty refl
          ∙ ap (λ n. n + 1) (sym c.args.self.now.counted))
          (omega (
            arith,
            empty_below slots place slot at empty,
            c.args.self.now.few,
            c.args.self.now.counted,
          ))
          c.saturating_add-self.ensures;
      few = rw (length-set slots place _) c.args.self.now.few;
    }

pub returns-clause-ok : goal.returns-clause-ok
returns-clause-ok g c =
    let slots = c.args.self.now.slots.items in
    let place = c.in-Some.place in
    let slot = c.in-Some-get_mut.slot.now in
    let at = slot_read slots place slot c.in-Some-get_mut.ensures.item.3 in
    let are = subst (AreFree slots) c.in-Some.ensures.items c.args.self.now.free_ones in
    record {
      slot = slot;
      at = at;
      empty = last_empty slots c.pop.new.self.items place slot are at;
      generation = refl;
      new_is = refl;
    }
