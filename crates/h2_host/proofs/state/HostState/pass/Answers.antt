use Rattle.std.proofs.Common.{arith, subst, sym, ◌+◌}
use Rattle.h2_host.proofs.Stepping.{PassesSo, passes_begins, passes_on, passes_over}
use Rattle.h2_host.proofs.Stepping.{passes_over_all}
use Rattle.h2_host.specs.Isolation.{PassesTime}
use Rattle.h2_host.specs.Steps.{slots_of}
use Rattle.h2_host.proofs.state.HostState.pass.Goals as goal
use Rattle.h2_host.proofs.state.HostState.pass.Goals.{in-Some, in_default}

pub loop-place-init : goal.loop-place-init
loop-place-init g c =
    passes_begins g.P.Party.steps g.P.Party.held_of g.P.Party.ready_of c.args.self.now _ c.requires

pub loop-place-preserved : goal.loop-place-preserved
loop-place-preserved g c = elim c.match-token_at.branch [
  | in-Some w ↦
      subst
      (λ s. PassesSo g.P.Party.steps g.P.Party.held_of g.P.Party.ready_of c.args.self.now s
      c.max-time.result (c.loop-place.place + 1))
      (sym w.self-is)
      (passes_on g.P.Party.steps g.P.Party.held_of g.P.Party.ready_of c.args.self.now
      c.loop-place.self w.make.new.self w.in-Some.token _ c.loop-place.place w.make.result
      c.loop-place.invariant w.in-Some.ensures w.make.ensures.made w.make.ensures.sound
      w.make.ensures.frame)
  | in_default w ↦
      subst
      (λ s. PassesSo g.P.Party.steps g.P.Party.held_of g.P.Party.ready_of c.args.self.now s
      c.max-time.result (c.loop-place.place + 1))
      (sym w.self-is)
      (passes_over g.P.Party.steps g.P.Party.held_of g.P.Party.ready_of c.args.self.now
      c.loop-place.self _ c.loop-place.place c.loop-place.invariant w.in_default.ensures)
]

pub returns-clause-answers : goal.returns-clause-answers
returns-clause-answers g c = (
  subst (λ t. PassesTime g.P.Party.steps (slots_of c.args.self.now) (slots_of c.loop-place.self) t)
      c.max-time.ensures
      (passes_over_all g.P.Party.steps g.P.Party.held_of g.P.Party.ready_of c.args.self.now
      c.loop-place.self c.max-time.result c.loop-place.place c.loop-place.invariant
      (let all = c.loop-place-test.false in let count = c.len-place-end.ensures in
      omega (arith, all, count))),
  c.loop-place.invariant.frame.turn,
  c.loop-place.invariant.frame.kept,
)
