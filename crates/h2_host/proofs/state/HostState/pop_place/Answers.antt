use Rattle.std.proofs.Common.{◌∙◌, arith, false, true, ◌≡◌, inl, refl, subst, sym}
use Rattle.std.proofs.lemmas.List.{length-set}
use Rattle.std.proofs.lemmas.Option.{slice_get_within}
use Rattle.h2_host.specs.Turns.{WaitsIn}
use Rattle.h2_host.proofs.Counted.{kept_counts}
use Rattle.h2_host.proofs.Places.{free_kept, next_kept, slot_read}
use Rattle.h2_host.proofs.state.HostState.pop_place.Goals as goal

pub invariant_of-self : goal.invariant_of-self
invariant_of-self g c =
    let slots = c.args.self.now.table.slots.items in
    let slot = c.in-Some.slot.now in
    let at = slot_read slots c.in_ok-place.place slot c.in-Some.ensures.item.3 in
    record {
      free_ones = free_kept slots c.args.self.now.table.free.items c.in_ok-place.place slot _
          c.args.self.now.table.free_ones at refl refl;
      next_ones = next_kept slots c.in_ok-place.place slot _ c.args.self.now.table.next_ones at
          refl refl;
      counted = c.args.self.now.table.counted
          ∙ sym (kept_counts slots c.in_ok-place.place slot _ at refl);
      few = rw (length-set slots c.in_ok-place.place _) c.args.self.now.table.few;
    }

pub returns-in-Some : goal.returns-in-Some
returns-in-Some g c =
    let slots = c.args.self.now.table.slots.items in
    let slot = c.in-Some.slot.now in
    record {
      beside = record { held = refl; limits = refl; capacity = c.pop_front.ensures.capacity };
      turn = refl;
      queue = c.in_ok-place.ensures.items;
      slot = slot;
      at = slot_read slots c.in_ok-place.place slot c.in-Some.ensures.item.3;
      slots = refl;
    }

pub returns-in_default : goal.returns-in_default
unfolding WaitsIn
returns-in_default g c =
    let slots = c.args.self.now.table.slots.items in
    let place = c.in_ok-place.place in
    let there = c.requires.steady.queue.marked place
    (subst (WaitsIn place) (sym c.in_ok-place.ensures.items) (inl refl)) in
    let within = slice_get_within slots place there.0 there.1 in
    absurd (let found : false ≡ true = c.in_default.ensures.variant.1
    (omega (arith, within, c.args.self.now.table.slots.ok.0)) in cc)
