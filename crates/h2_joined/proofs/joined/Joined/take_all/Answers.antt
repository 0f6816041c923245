-- By the lemmas on octets that are handed to `take` again and again.
use Rattle.h2_joined.proofs.Names.{add-one}
use Rattle.std.proofs.lemmas.List.{take_rest}
use Rattle.h2_joined.proofs.CodeRounds.{takes_first, takes_more, takes_whole, takes_failed}
use Rattle.h2_joined.proofs.CodeRounds.{takes_stopped, takes_no_more}
use Rattle.h2_joined.proofs.joined.Joined.take_all.Goals as goal

pub loop-round-init : goal.loop-round-init
loop-round-init c = takes_first c.args.to c.args.self.now c.args.octets.now

pub returns-in-Whole : goal.returns-in-Whole
returns-in-Whole c =
    takes_whole c.args.to c.args.self.now c.loop-round.self c.take_next.new.self
    c.args.octets.now c.loop-round._round c.loop-round.taken c.loop-round.invariant
    c.loop-round-test.true
    (rw (take_rest c.args.octets.now c.loop-round.taken) at c.in-Whole.ensures)

pub returns-in-Failed : goal.returns-in-Failed
returns-in-Failed c =
    takes_failed c.args.to c.args.self.now c.loop-round.self c.take_next.new.self
    c.args.octets.now c.loop-round._round c.loop-round.taken c.loop-round.invariant
    c.loop-round-test.true
    c.in-Failed.code
    (rw (take_rest c.args.octets.now c.loop-round.taken) at c.in-Failed.ensures)

pub returns-in-Stopped : goal.returns-in-Stopped
returns-in-Stopped c =
    takes_stopped c.args.to c.args.self.now c.loop-round.self c.take_next.new.self
    c.args.octets.now c.loop-round._round c.loop-round.taken c.loop-round.invariant
    (rw (take_rest c.args.octets.now c.loop-round.taken) at c.in-Stopped.ensures)

pub loop-round-preserved : goal.loop-round-preserved
loop-round-preserved c =
    rw (add-one c.loop-round._round)
    (takes_more c.args.to c.args.self.now c.loop-round.self c.take_next.new.self
    c.args.octets.now c.loop-round._round c.loop-round.taken c.loop-round.invariant
    c.loop-round-test.true
    c.in-Again.used
    (rw (take_rest c.args.octets.now c.loop-round.taken) at c.in-Again.ensures))

pub returns : goal.returns
returns c =
    takes_no_more c.args.to c.args.self.now c.loop-round.self c.args.octets.now
    c.loop-round._round c.loop-round.taken c.loop-round.invariant
