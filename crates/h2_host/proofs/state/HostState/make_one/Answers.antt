use Rattle.std.proofs.Common.{arith, ap, is_none, length, refl, rules, slice_set, subst, sym, Some}
use Rattle.std.proofs.Common.{◌≡◌}
use Rattle.std.proofs.Common.{◌∙◌, ◌<◌, ◌^◌}
use Rattle.std.proofs.lemmas.List.{length-set}
use Rattle.std.specs.VecDeque.{deque_capacity}
use Rattle.h2_host.specs.declared.table.Slot.{Slot}
use Rattle.h2_host.specs.Bounds.{held_by, slot_held}
use Rattle.h2_host.proofs.Counted.{kept_counts}
use Rattle.h2_host.proofs.Places.{free_kept, generation_read, next_kept, slot_read}
use Rattle.h2_host.proofs.Queues.{space_for}
use Rattle.h2_host.proofs.Refusals.{makes_one}
use Rattle.h2_host.proofs.SoundKept.{steady_stepped}
use Rattle.h2_host.proofs.Sums.{item_within}
use Rattle.h2_host.proofs.state.HostState.make_one.Goals as goal

pub queue_slot-requires : goal.queue_slot-requires
queue_slot-requires g c =
    let host = c.args.self.now in
    let slot = c.in_ok-slot.slot.now in
    let at = slot_read host.table.slots.items c.args.token.place slot
    c.in_ok-slot.ensures.item.3 in λ due.
    let short : length host.queue.items < deque_capacity host.queue =
    space_for g.P.Party.ready_of host.table.slots.items host.queue.items c.args.token.place
    (deque_capacity host.queue) slot
    (record slot { party = Some c.step-answer.new.self }) c.requires.steady.queue at refl
    c.requires.steady.space due in
    search rules

pub invariant_of-self-2 : goal.invariant_of-self-2
invariant_of-self-2 g c =
    let slots = c.args.self.now.table.slots.items in
    let slot = c.in_ok-slot.slot.now in
    let at = slot_read slots c.args.token.place slot c.in_ok-slot.ensures.item.3 in
    let taken : slot.party ≡ Some c.in_ok-party.party.now = search rules in
    let is = c.queue_slot.ensures.slot in
    let generation = ap (λ (s : Slot _). s.generation) is in
    let party = ap (λ (s : Slot _). is_none s.party) is ∙ sym (ap is_none taken) in
    record {
      free_ones = free_kept slots c.args.self.now.table.free.items c.args.token.place slot _
          c.args.self.now.table.free_ones at generation party;
      next_ones = next_kept slots c.args.token.place slot _ c.args.self.now.table.next_ones at
          generation party;
      counted = c.args.self.now.table.counted
          ∙ sym (kept_counts slots c.args.token.place slot _ at party);
      few = rw (length-set slots c.args.token.place _) c.args.self.now.table.few;
    }

pub returns-clause-made : goal.returns-clause-made
returns-clause-made g c =
    let host = c.args.self.now in
    let slots = host.table.slots.items in
    let slot = c.in_ok-slot.slot.now in
    let at = slot_read slots c.args.token.place slot c.in_ok-slot.ensures.item.3 in
    let taken : slot.party ≡ Some c.in_ok-party.party.now = search rules in
    let is = c.queue_slot.ensures.slot in
    let generation = generation_read slots c.args.token slot c.requires.now.0 at c.requires.now.1 in
    let item = item_within (slot_held g.P.Party.held_of) slots c.args.token.place slot at in
    let some = ap (held_by g.P.Party.held_of) taken in
    let sum = c.requires.steady.sum in
    let before = c.held-before.ensures in
    let after = c.held-after.ensures in
    let fits : c.held-after.result < 2 ^ 64 = search rules in
    makes_one g.P.Party.steps g.P.Party.held_of g.P.Party.ready_of host _ c.args.token c.args.own
    c.args.octets.now c.step-answer.result slot c.queue_slot.new.slot c.in_ok-party.party.now
    c.step-answer.new.self at taken generation (ap (λ (s : Slot _). s.generation) is)
    (ap (λ (s : Slot _). s.party) is) c.step-answer.ensures.steps refl
    (omega (arith, item, some, sum, before, after)) (subst (λ n. n < 2 ^ 64) after fits)
    c.step-answer.ensures.refused

pub returns-clause-steady : goal.returns-clause-steady
returns-clause-steady g c =
    let host = c.args.self.now in
    let slots = host.table.slots.items in
    let slot = c.in_ok-slot.slot.now in
    let at = slot_read slots c.args.token.place slot c.in_ok-slot.ensures.item.3 in
    let taken : slot.party ≡ Some c.in_ok-party.party.now = search rules in
    let item = item_within (slot_held g.P.Party.held_of) slots c.args.token.place slot at in
    let some = ap (held_by g.P.Party.held_of) taken in
    let sum = c.requires.steady.sum in
    let before = c.held-before.ensures in
    let after = c.held-after.ensures in
    steady_stepped g.P.Party.held_of g.P.Party.ready_of host _ c.args.token.place slot
    (record slot { party = Some c.step-answer.new.self }) c.in_ok-party.party.now
    c.step-answer.new.self c.requires.steady at taken refl refl
    (ap (slice_set slots c.args.token.place) c.queue_slot.ensures.slot)
    c.queue_slot.ensures.queue c.queue_slot.ensures.capacity refl refl
    (omega (arith, item, some, sum, before, after))
