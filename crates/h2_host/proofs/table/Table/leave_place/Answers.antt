use Rattle.std.proofs.Common.{is_ok, rules, sym, ap, subst, arith}
use Rattle.std.proofs.Common.{slice_set, Some, None, is_none, is_some, ◌≡◌, ◌∙◌}
use Rattle.std.proofs.lemmas.List.{length-set}
use Rattle.h2_host.specs.Openings.{EmptiesPlace}
use Rattle.h2_host.proofs.Counted.{left_counts, one_fewer}
use Rattle.h2_host.proofs.FreePlaces.{free_others, free_pushed, next_left}
use Rattle.h2_host.proofs.Places.{generation_read, slot_read}
use Rattle.h2_host.proofs.table.Table.leave_place.Goals as goal
use Rattle.h2_host.proofs.table.Table.leave_place.Goals.{then-slot-lt4294967295}
use Rattle.h2_host.proofs.table.Table.leave_place.Goals.{else-slot-lt4294967295}

pub invariant_of-self-else-slot-lt4294967295 : goal.invariant_of-self-else-slot-lt4294967295
invariant_of-self-else-slot-lt4294967295 g c =
    let slots = c.args.self.now.slots.items in
    let slot = c.in_ok-slot.slot.now in
    let at = slot_read slots c.args.token.place slot c.in_ok-slot.ensures.item.3 in
    let taken : slot.party ≡ Some c.in_ok-party.party = search rules in
    record {
      free_ones = free_others slots c.args.self.now.free.items c.args.token.place slot _
          c.in_ok-party.party c.args.self.now.free_ones at taken;
      next_ones = next_left slots c.args.token.place slot _ c.args.self.now.next_ones at
          (search rules);
      counted = one_fewer c.args.self.now.count _ _
          (c.args.self.now.counted
          ∙ left_counts slots c.args.token.place slot _ at (ap is_some taken) (search rules))
          c.saturating_sub-self.ensures;
      few = rw (length-set slots c.args.token.place _) c.args.self.now.few;
    }

pub invariant_of-self-then-slot-lt4294967295 : goal.invariant_of-self-then-slot-lt4294967295
invariant_of-self-then-slot-lt4294967295 g c =
    let slots = c.args.self.now.slots.items in
    let slot = c.in_ok-slot.slot.now in
    let at = slot_read slots c.args.token.place slot c.in_ok-slot.ensures.item.3 in
    let taken : slot.party ≡ Some c.in_ok-party.party = search rules in
    record {
      free_ones = free_pushed slots c.args.self.now.free.items c.push.new.self.items
          c.args.token.place slot _ c.in_ok-party.party (is_ok c.push.result)
          c.args.self.now.free_ones at taken c.in_ok-slot.ensures.item.3.0 (search rules)
          c.if-slot-lt4294967295.true c.push.ensures.items;
      next_ones = next_left slots c.args.token.place slot _ c.args.self.now.next_ones at
          (search rules);
      counted = one_fewer c.args.self.now.count _ _
          (c.args.self.now.counted
          ∙ left_counts slots c.args.token.place slot _ at (ap is_some taken) (search rules))
          c.saturating_sub-self.ensures;
      few = rw (length-set slots c.args.token.place _) c.args.self.now.few;
    }

pub returns : goal.returns
returns g c =
    let slots = c.args.self.now.slots.items in
    let slot = c.in_ok-slot.slot.now in
    let at = slot_read slots c.args.token.place slot c.in_ok-slot.ensures.item.3 in
    let taken : slot.party ≡ Some c.in_ok-party.party = search rules in
    let now = c.is_now.ensures.0 c.if-not-is_now.false in
    let generation = generation_read slots c.args.token slot now.0 at now.1 in
    let fits = c.args.self.now.next_ones c.args.token.place slot at (ap is_none taken) in
    let sum = c.saturating_add-slot.ensures in
    let nobody : c.take.new.self ≡ None = search rules in
    let left : EmptiesPlace slots
    (slice_set slots c.args.token.place
    (record slot { generation = c.saturating_add-slot.result; party = c.take.new.self }))
    c.args.token c.in_ok-party.party =
    record {
      slot = slot;
      at = at;
      taken = taken;
      generation = generation;
      next = c.saturating_add-slot.result;
      greater = omega (arith, sum, fits, generation);
      new_is = ap (λ p. slice_set slots c.args.token.place
          (record slot { generation = c.saturating_add-slot.result; party = p })) nobody;
    } in
    elim c.if-slot-lt4294967295.branch [
      | then-slot-lt4294967295 w ↦
          subst (λ s. EmptiesPlace slots s.slots.items c.args.token c.in_ok-party.party)
          (sym w.self-is) left
      | else-slot-lt4294967295 w ↦
          subst (λ s. EmptiesPlace slots s.slots.items c.args.token c.in_ok-party.party)
          (sym w.self-is) left
    ]
