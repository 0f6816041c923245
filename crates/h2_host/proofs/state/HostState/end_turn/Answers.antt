use Rattle.std.proofs.Common.{[], ap, refl, subst, sym, None}
use Rattle.std.proofs.lemmas.List.{append-nil}
use Rattle.h2_host.specs.declared.turn.Turn.{Turn}
use Rattle.h2_host.specs.Steps.{slots_of}
use Rattle.h2_host.specs.Turns.{ReadyWait}
use Rattle.h2_host.proofs.Places.{same_itself}
use Rattle.h2_host.proofs.Queues.{space_for}
use Rattle.h2_host.proofs.SoundKept.{back_queued, counted_of, counted_queued, longer_queued}
use Rattle.h2_host.proofs.SoundKept.{others_than_turn, same_queued, sound_of, wait_queued}
use Rattle.h2_host.proofs.state.HostState.end_turn.Goals as goal

pub queue_place-requires : goal.queue_place-requires
queue_place-requires g c = λ slot at due.
    space_for g.P.Party.ready_of c.args.self.now.table.slots.items c.args.self.now.queue.items
    c.in-Some.token.place _ slot slot c.requires.steady.queue at refl c.requires.steady.space due

pub returns-in_default-clause-ends : goal.returns-in_default-clause-ends
returns-in_default-clause-ends g c =
    let host = c.args.self.now in
    record {
      same = same_itself (slots_of host);
      back = same_itself (slots_of host);
      limits = refl;
      turn = c.in_default.is;
      added = [];
      queue = sym (append-nil host.queue.items);
    }

pub returns-clause-ends : goal.returns-clause-ends
returns-clause-ends g c =
    let held = g.P.Party.held_of in
    let ready = g.P.Party.ready_of in
    let old = c.args.self.now in
    let mid = c.queue_place.new.self in
    let place = c.in-Some.token.place in
    let longer = longer_queued held ready old mid place c.queue_place.ensures in
    record {
      same = same_queued held ready old mid place c.queue_place.ensures;
      back = back_queued held ready old mid place c.queue_place.ensures;
      limits = c.queue_place.ensures.beside.limits;
      turn = ap (λ (t : Turn). t.token) c.of-self.ensures;
      added = longer.0;
      queue = longer.1;
    }

pub returns-clause-sound : goal.returns-clause-sound
returns-clause-sound g c =
    let held = g.P.Party.held_of in
    let ready = g.P.Party.ready_of in
    let old = c.args.self.now in
    let mid = c.queue_place.new.self in
    let token = c.in-Some.token in
    let others = others_than_turn held ready (slots_of old) token
    (subst (ReadyWait ready (slots_of old)) c.in-Some.is c.requires.steady.ready) in
    let wait = wait_queued held ready old mid token.place None c.queue_place.ensures others in
    sound_of held ready mid c.of-self.result
    (counted_queued held ready old mid token.place (counted_of held ready old c.requires)
    c.queue_place.ensures)
    (subst (λ (t : Turn). ReadyWait ready (slots_of mid) t.token) (sym c.of-self.ensures) wait)
