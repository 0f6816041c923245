use Rattle.std.proofs.Common.{length, refl, sym}
use Rattle.h2_host.proofs.Stepping.{own_answered, sound_turned, turn_kept}
use Rattle.h2_host.proofs.state.HostState.step_of.Goals as goal

pub returns-then-not-is_now-clause-answers : goal.returns-then-not-is_now-clause-answers
returns-then-not-is_now-clause-answers g c =
    ((λ now. let is = c.is_now.ensures.1 now in let never = c.if-not-is_now.true in cc), refl)

pub make-requires-clause-sound : goal.make-requires-clause-sound
make-requires-clause-sound g c =
    sound_turned g.P.Party.steps g.P.Party.held_of g.P.Party.ready_of c.args.self.now
    c.in-Some.turn c.requires
    (turn_kept c.args.self.now.turn c.in-Some.turn c.args.token c.args.own
    (length c.args.octets.now) (sym c.in-Some.ensures))

pub returns-clause-answers : goal.returns-clause-answers
returns-clause-answers g c =
    own_answered g.P.Party.steps g.P.Party.held_of g.P.Party.ready_of c.args.self.now
    c.make.new.self c.in-Some.turn c.args.token c.args.own c.args.octets.now
    c.in-Some-make.answer (sym c.in-Some.ensures) c.in-Some-make.ensures.made
    c.make.ensures.frame
