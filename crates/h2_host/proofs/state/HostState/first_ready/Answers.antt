use Rattle.h2_host.proofs.FirstReady.{passing_begins, passing_found, passing_on}
use Rattle.h2_host.proofs.state.HostState.first_ready.Goals as goal

pub loop-place-init : goal.loop-place-init
loop-place-init g c =
    passing_begins g.P.Party.held_of g.P.Party.ready_of c.args.self.now c.requires.sound
    c.requires.none

pub loop-place-preserved : goal.loop-place-preserved
loop-place-preserved g c =
    passing_on g.P.Party.held_of g.P.Party.ready_of c.args.self.now c.loop-place.self
    c.pop_place.new.self c.in-Some.place c.loop-place.invariant c.in-Some.ensures
    c.in_default-ready_at.ensures

pub returns-in-Some-ready_at-clause-turn : goal.returns-in-Some-ready_at-clause-turn
returns-in-Some-ready_at-clause-turn g c =
    (passing_found g.P.Party.held_of g.P.Party.ready_of c.args.self.now c.loop-place.self
    c.pop_place.new.self c.in-Some.place c.in-Some-ready_at.token c.of-self.result
    c.loop-place.invariant c.in-Some.ensures c.in-Some-ready_at.ensures c.of-self.ensures).0

pub returns-in-Some-ready_at-clause-sound : goal.returns-in-Some-ready_at-clause-sound
returns-in-Some-ready_at-clause-sound g c =
    (passing_found g.P.Party.held_of g.P.Party.ready_of c.args.self.now c.loop-place.self
    c.pop_place.new.self c.in-Some.place c.in-Some-ready_at.token c.of-self.result
    c.loop-place.invariant c.in-Some.ensures c.in-Some-ready_at.ensures c.of-self.ensures).1
