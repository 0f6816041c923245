use Rattle.std.proofs.Common.{ap, arith, refl, subst, sym, ◌-◌}
use Rattle.h2_host.specs.declared.table.Table.{Table}
use Rattle.h2_host.specs.Sound.{IsSoundHost}
use Rattle.h2_host.proofs.Opened.{closed_answered}
use Rattle.h2_host.proofs.OpeningsKept.{party_within}
use Rattle.h2_host.proofs.SoundKept.{counted_of}
use Rattle.h2_host.proofs.state.HostState.close.Goals as goal

pub overflow_sub-self : goal.overflow_sub-self
overflow_sub-self g c =
    let counted = counted_of g.P.Party.held_of g.P.Party.ready_of c.args.self.now c.requires in
    let within = party_within g.P.Party.held_of g.P.Party.ready_of c.args.self.now c.args.token
    c.in-Some.party counted (record {
      slot = c.in-Some.ensures.slot;
      at = c.in-Some.ensures.at;
      generation = c.in-Some.ensures.generation;
      taken = c.in-Some.ensures.taken;
    }) in
    let same = c.held.ensures in omega (arith, within, same)

pub returns-in_default-clause-answers : goal.returns-in_default-clause-answers
returns-in_default-clause-answers g c = (
  c.in_default.ensures.0,
  ap (λ (t : Table _). record c.args.self.now { table = t }) c.in_default.ensures.1,
)

pub returns-in_default-clause-sound : goal.returns-in_default-clause-sound
returns-in_default-clause-sound g c =
    subst
    (λ (t : Table _). IsSoundHost g.P.Party.held_of g.P.Party.ready_of
    (record c.args.self.now { table = t })) (sym c.in_default.ensures.1) c.requires

pub returns-clause-answers : goal.returns-clause-answers
returns-clause-answers g c =
    (closed_answered g.P.Party.steps g.P.Party.held_of g.P.Party.ready_of c.args.self.now _
    c.args.token c.in-Some.party c.requires c.in-Some.ensures refl refl refl
    (ap (λ n. c.args.self.now.held - n) c.held.ensures)).0

pub returns-clause-sound : goal.returns-clause-sound
returns-clause-sound g c =
    (closed_answered g.P.Party.steps g.P.Party.held_of g.P.Party.ready_of c.args.self.now _
    c.args.token c.in-Some.party c.requires c.in-Some.ensures refl refl refl
    (ap (λ n. c.args.self.now.held - n) c.held.ensures)).1
