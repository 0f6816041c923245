-- By the lemmas on how takes follow one another.
use Rattle.h2_engines.proofs.Names.{refl, arith, err_from_is_err_and}
use Rattle.std.proofs.Common.{length-drop}
use Rattle.h2_fetch.proofs.Comings.{next_answered, next_last, next_out, next_taken}
use Rattle.h2_fetch.proofs.Pieces.{unused_after, unused_is}
use Rattle.h2_fetch.proofs.fetch.PartFetch.take_next.Goals as goal

pub returns-in_err-taken-clause-takes : goal.returns-in_err-taken-clause-takes
returns-in_err-taken-clause-takes c =
    let answer = err_from_is_err_and c.from_residual.result c.from_residual.ensures.1 in
    rw (answer.1, answer.2) (next_last c.args.self.now c.loop.self _ c.loop.counter
    c.in_err-taken.field-0.0 c.loop.invariant.takes c.loop.invariant.stream refl
    (rw (
      c.deref.ensures.value,
      unused_is c.loop.self.buffer.items c.loop.self.used
          c.loop.self.filled c.loop.invariant.within,
    ) at c.in_err-taken.ensures.takes))

pub returns-in-Part-clause-takes : goal.returns-in-Part-clause-takes
returns-in-Part-clause-takes c =
    next_answered c.args.self.now c.loop.self _ c.loop.counter c.in_ok-taken.taken _
    (rw c.in-Part.is refl) c.loop.invariant.takes c.loop.invariant.stream refl
    (unused_after c.loop.self.buffer.items c.loop.self.used c.loop.self.filled _ refl)
    (λ none. absurd (cc)) (rw (
      c.deref.ensures.value,
      unused_is c.loop.self.buffer.items c.loop.self.used
          c.loop.self.filled c.loop.invariant.within,
    ) at c.in_ok-taken.ensures.takes)

pub returns-in-Done-clause-takes : goal.returns-in-Done-clause-takes
returns-in-Done-clause-takes c =
    next_answered c.args.self.now c.loop.self _ c.loop.counter c.in_ok-taken.taken _
    (rw c.in-Done.is refl) c.loop.invariant.takes c.loop.invariant.stream refl
    (unused_after c.loop.self.buffer.items c.loop.self.used c.loop.self.filled _ refl)
    (λ none. c.in-Done.is) (rw (
      c.deref.ensures.value,
      unused_is c.loop.self.buffer.items c.loop.self.used
          c.loop.self.filled c.loop.invariant.within,
    ) at c.in_ok-taken.ensures.takes)

pub loop-preserved : goal.loop-preserved
loop-preserved c =
    record {
      within = omega (
        arith,
        c.loop.invariant.within,
        c.in_ok-taken.ensures.within,
        c.deref.ensures.len,
        length-drop c.loop.self.used c.loop.self.buffer.items,
        c.loop.invariant.fits,
      );
      fits = c.loop.invariant.fits;
      stream = c.loop.invariant.stream;
      takes = next_taken c.args.self.now c.loop.self _ c.loop.counter c.in_ok-taken.taken
          c.loop.invariant.takes c.loop.invariant.stream refl
          (unused_after c.loop.self.buffer.items c.loop.self.used c.loop.self.filled _ refl)
          (rw c.in-Again.is refl)
          (rw (
            c.deref.ensures.value,
            unused_is c.loop.self.buffer.items c.loop.self.used
                c.loop.self.filled c.loop.invariant.within,
          ) at c.in_ok-taken.ensures.takes);
    }

pub returns-clause-takes : goal.returns-clause-takes
returns-clause-takes c =
    next_out c.args.self.now c.loop.self c.loop.counter (omega arith) c.loop.invariant.takes
