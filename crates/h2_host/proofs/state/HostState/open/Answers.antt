use Rattle.std.proofs.Common.{[], ap, arith, refl, subst, sym, ◌+◌, ◌≤◌}
use Rattle.std.proofs.lemmas.List.{append-nil}
use Rattle.h2_host.specs.declared.state.HostState.{HostState}
use Rattle.h2_host.specs.Openings.{MakesPlace}
use Rattle.h2_host.specs.Steps.{slots_of}
use Rattle.h2_host.proofs.Opened.{full_answered, opened_answered}
use Rattle.h2_host.proofs.OpeningsKept.{made_length}
use Rattle.h2_host.proofs.Places.{same_itself}
use Rattle.h2_host.proofs.state.HostState.open.Goals as goal

pub returns-then-held-most-clause-answers : goal.returns-then-held-most-clause-answers
returns-then-held-most-clause-answers g c =
    let host = c.args.self.now in (
      refl,
      same_itself (slots_of host),
      refl,
      record { limits = refl; added = []; queue = sym (append-nil host.queue.items) },
    )

pub returns-then-in_all-most_in_all-clause-answers :
    goal.returns-then-in_all-most_in_all-clause-answers
returns-then-in_all-most_in_all-clause-answers g c =
    let host = c.args.self.now in (
      refl,
      same_itself (slots_of host),
      refl,
      record { limits = refl; added = []; queue = sym (append-nil host.queue.items) },
    )

pub returns-in_default-make_place-clause-sound : goal.returns-in_default-make_place-clause-sound
returns-in_default-make_place-clause-sound g c =
    let host = c.args.self.now in
    let long = made_length (slots_of host) c.make_place.new.self.slots.items
    host.limits.connections c.make_place.ensures in
    let few = c.requires.steady.few in
    let space = c.in-Ok.ensures.ok in
    let places = c.saturating_add-places.ensures in
    let count = c.len.ensures in
    let is = host.table.slots.ok.0 in
    (full_answered g.P.Party.steps g.P.Party.held_of g.P.Party.ready_of host
    (record host { table = c.make_place.new.self; queue = c.reserve.new.self }) c.args.party
    c.requires (record {
      made = c.make_place.ensures;
      queue = c.reserve.ensures.items;
      space = omega (arith, long, few, space, places, count, is);
      held = refl;
      limits = refl;
      turn = refl;
    })).1

pub returns-in-Err-clause-answers : goal.returns-in-Err-clause-answers
returns-in-Err-clause-answers g c =
    let host = c.args.self.now in
    let long = made_length (slots_of host) c.make_place.new.self.slots.items
    host.limits.connections c.make_place.ensures in
    let few = c.requires.steady.few in
    let space = c.in-Ok.ensures.ok in
    let places = c.saturating_add-places.ensures in
    let count = c.len.ensures in
    let is = host.table.slots.ok.0 in
    let same = c.in-Err.ensures.same in
    let made = subst (λ s. MakesPlace (slots_of host) s host.limits.connections) (sym same)
    c.make_place.ensures in
    let longer = made_length (slots_of host) c.take_place.new.self.slots.items
    host.limits.connections made in
    let answered = full_answered g.P.Party.steps g.P.Party.held_of g.P.Party.ready_of host
    (record host { table = c.take_place.new.self; queue = c.reserve.new.self }) c.args.party
    c.requires (record {
      made = made;
      queue = c.reserve.ensures.items;
      space = omega (arith, longer, few, space, places, count, is);
      held = refl;
      limits = refl;
      turn = refl;
    }) in
    (c.in-Err.ensures.err, answered.0.1, answered.0.2, answered.0.3)

pub returns-in-Err-clause-sound : goal.returns-in-Err-clause-sound
returns-in-Err-clause-sound g c =
    let host = c.args.self.now in
    let few = c.requires.steady.few in
    let space = c.in-Ok.ensures.ok in
    let places = c.saturating_add-places.ensures in
    let count = c.len.ensures in
    let is = host.table.slots.ok.0 in
    let made = subst (λ s. MakesPlace (slots_of host) s host.limits.connections)
    (sym c.in-Err.ensures.same) c.make_place.ensures in
    let longer = made_length (slots_of host) c.take_place.new.self.slots.items
    host.limits.connections made in
    (full_answered g.P.Party.steps g.P.Party.held_of g.P.Party.ready_of host
    (record host { table = c.take_place.new.self; queue = c.reserve.new.self }) c.args.party
    c.requires (record {
      made = made;
      queue = c.reserve.ensures.items;
      space = omega (arith, longer, few, space, places, count, is);
      held = refl;
      limits = refl;
      turn = refl;
    })).1

pub returns-clause-answers : goal.returns-clause-answers
returns-clause-answers g c =
    let host = c.args.self.now in
    let long = made_length (slots_of host) c.make_place.new.self.slots.items
    host.limits.connections c.make_place.ensures in
    let few = c.requires.steady.few in
    let space = c.in-Ok.ensures.ok in
    let places = c.saturating_add-places.ensures in
    let count = c.len.ensures in
    let is = host.table.slots.ok.0 in
    let mid : HostState _ =
    record host { table = c.make_place.new.self; queue = c.reserve.new.self } in
    let next : HostState _ =
    record mid { table = c.take_place.new.self; held = host.held + c.held-held.result } in
    (opened_answered g.P.Party.steps g.P.Party.held_of g.P.Party.ready_of host mid next
    c.queue_place.new.self c.in-Ok-take_place.token c.args.party c.requires (record {
      place = record {
        made = c.make_place.ensures;
        queue = c.reserve.ensures.items;
        space = omega (arith, long, few, space, places, count, is);
        held = refl;
        limits = refl;
        turn = refl;
      };
      takes = c.in-Ok-take_place.ensures.ok;
      queue = refl;
      limits = refl;
      turn = refl;
      held = ap (λ n. host.held + n) c.held-held.ensures;
      small = subst (λ n. n ≤ host.limits.held) c.held-held.ensures c.if-held-most.false;
      fits = c.if-in_all-most_in_all.false;
    }) c.queue_place.ensures).0

pub returns-clause-sound : goal.returns-clause-sound
returns-clause-sound g c =
    let host = c.args.self.now in
    let long = made_length (slots_of host) c.make_place.new.self.slots.items
    host.limits.connections c.make_place.ensures in
    let few = c.requires.steady.few in
    let space = c.in-Ok.ensures.ok in
    let places = c.saturating_add-places.ensures in
    let count = c.len.ensures in
    let is = host.table.slots.ok.0 in
    let mid : HostState _ =
    record host { table = c.make_place.new.self; queue = c.reserve.new.self } in
    let next : HostState _ =
    record mid { table = c.take_place.new.self; held = host.held + c.held-held.result } in
    (opened_answered g.P.Party.steps g.P.Party.held_of g.P.Party.ready_of host mid next
    c.queue_place.new.self c.in-Ok-take_place.token c.args.party c.requires (record {
      place = record {
        made = c.make_place.ensures;
        queue = c.reserve.ensures.items;
        space = omega (arith, long, few, space, places, count, is);
        held = refl;
        limits = refl;
        turn = refl;
      };
      takes = c.in-Ok-take_place.ensures.ok;
      queue = refl;
      limits = refl;
      turn = refl;
      held = ap (λ n. host.held + n) c.held-held.ensures;
      small = subst (λ n. n ≤ host.limits.held) c.held-held.ensures c.if-held-most.false;
      fits = c.if-in_all-most_in_all.false;
    }) c.queue_place.ensures).1
