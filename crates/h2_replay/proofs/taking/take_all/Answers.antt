-- By the lemmas on octets that are handed to `take` again and again.
use Rattle.h2_replay.proofs.Names.{refl, arith}
use Rattle.h2_replay.proofs.AllLemmas.{takes_first, takes_again, takes_done, takes_fault}
use Rattle.h2_replay.proofs.taking.take_all.Goals as goal

pub loop-round-init : goal.loop-round-init
loop-round-init c =
    record {
      rounds = omega arith;
      some = λ values log represents. takes_first values log c.args.octets.now
          c.args.turns.now.items c.args.conn.now represents;
    }

pub returns-in-Done : goal.returns-in-Done
returns-in-Done c =
    record {
      answers = tt;
      takes = λ values log represents.
          let some = c.loop-round.invariant.some values log represents in
          takes_done values log c.args.octets.now c.loop-round.rest.now c.args.turns.now.items
          c.loop-round.turns.items c.take_piece.new.turns.items c.loop-round.conn
          c.take_piece.new.conn _ c.in-Done.is some
          (c.in_ok-used.ensures.takes values some.between some.represents);
    }

pub returns-in-Failed : goal.returns-in-Failed
returns-in-Failed c =
    record {
      answers = tt;
      takes = λ values log represents.
          let some = c.loop-round.invariant.some values log represents in
          takes_fault values log c.args.octets.now c.loop-round.rest.now c.args.turns.now.items
          c.loop-round.turns.items c.take_piece.new.turns.items c.loop-round.conn
          c.take_piece.new.conn c.in-Failed.code _ c.in-Failed.is some
          (c.in_ok-used.ensures.takes values some.between some.represents);
    }

pub loop-round-preserved : goal.loop-round-preserved
loop-round-preserved c =
    record {
      rounds = omega (arith, c.in_ok-used.ensures.longer, c.loop-round.invariant.rounds);
      some = λ values log represents.
          let some = c.loop-round.invariant.some values log represents in
          takes_again values log c.args.octets.now c.loop-round.rest.now _ c.args.turns.now.items
          c.loop-round.turns.items c.take_piece.new.turns.items c.loop-round.conn
          c.take_piece.new.conn c.in-Again.used _ c.in-Again.is refl some
          (c.in_ok-used.ensures.takes values some.between some.represents);
    }
