use Rattle.std.proofs.Common.{sym, arith, false, true, ◌≡◌, ◌++◌, ◌∙◌, ap, is_none, refl, slice_set}
use Rattle.std.proofs.lemmas.List.{length-set}
use Rattle.std.proofs.lemmas.Option.{slice_get_within}
use Rattle.h2_host.specs.declared.table.Slot.{Slot}
use Rattle.h2_host.specs.Turns.{queue_more, slot_queued}
use Rattle.h2_host.proofs.Counted.{kept_counts}
use Rattle.h2_host.proofs.Places.{free_kept, next_kept, one_slot, slot_read}
use Rattle.h2_host.proofs.state.HostState.queue_place.Goals as goal

pub invariant_of-self : goal.invariant_of-self
invariant_of-self g c =
    let slots = c.args.self.now.table.slots.items in
    let slot = c.in-Some.slot.now in
    let at = slot_read slots c.args.place slot c.in-Some.ensures.item.3 in
    let is = c.queue_slot.ensures.slot in
    let generation = ap (λ (s : Slot _). s.generation) is in
    let party = ap (λ (s : Slot _). is_none s.party) is in
    record {
      free_ones = free_kept slots c.args.self.now.table.free.items c.args.place slot _
          c.args.self.now.table.free_ones at generation party;
      next_ones = next_kept slots c.args.place slot _ c.args.self.now.table.next_ones at
          generation party;
      counted = c.args.self.now.table.counted
          ∙ sym (kept_counts slots c.args.place slot _ at party);
      few = rw (length-set slots c.args.place _) c.args.self.now.table.few;
    }

pub returns-in-Some : goal.returns-in-Some
returns-in-Some g c =
    let slots = c.args.self.now.table.slots.items in
    let slot = c.in-Some.slot.now in
    let at = slot_read slots c.args.place slot c.in-Some.ensures.item.3 in
    let ready = g.P.Party.ready_of in
    record {
      beside = record {
        held = refl;
        limits = refl;
        capacity = c.queue_slot.ensures.capacity;
      };
      turn = refl;
      slots = λ one is.
          let same = one_slot slots c.args.place slot one at is in (
            ap (slice_set slots c.args.place)
                (c.queue_slot.ensures.slot ∙ ap (slot_queued ready) same),
            c.queue_slot.ensures.queue
                ∙ ap (λ s. c.args.self.now.queue.items ++ queue_more ready s c.args.place) same,
          );
      none = λ is. absurd (let there = at in cc);
    }

pub returns-in_default : goal.returns-in_default
returns-in_default g c =
    record {
      beside = record { held = refl; limits = refl; capacity = refl };
      turn = refl;
      slots = λ one is. absurd
          (let within = slice_get_within c.args.self.now.table.slots.items c.args.place one is in
          let there : false ≡ true = c.in_default.ensures.variant.1
          (omega (arith, within, c.args.self.now.table.slots.ok.0)) in cc);
      none = λ is. (refl, refl);
    }
