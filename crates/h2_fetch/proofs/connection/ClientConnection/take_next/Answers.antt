-- By the lemmas on how takes follow one another.
use Rattle.h2_engines.proofs.Names.{refl, sym, ◌∙◌, arith, ◌+◌, ◌≤◌, err_from_is_err_and}
use Rattle.std.proofs.Common.{length-drop}
use Rattle.h2_fetch.proofs.Pieces.{unused_after, unused_is}
use Rattle.h2_fetch.proofs.SeveralRounds.{came_first, next_came, next_done, next_failed}
use Rattle.h2_fetch.proofs.SeveralRounds.{next_kept, next_lost, next_nothing, next_out}
use Rattle.h2_fetch.proofs.SeveralTaking.{says_some}
use Rattle.h2_fetch.proofs.connection.ClientConnection.take_next.Goals as goal
use goal.{in-Again, in-On+else-stream-id+in_ok-keep-in-On}

pub loop-init : goal.loop-init
loop-init c = record {
  within = c.args.self.now.within;
  fits = c.args.self.now.fits;
  takes = came_first c.args.self.now c.args.id;
}

pub returns-in_err-taken-clause-takes : goal.returns-in_err-taken-clause-takes
returns-in_err-taken-clause-takes c =
    let answer = err_from_is_err_and c.from_residual.result c.from_residual.ensures.1 in
    rw (answer.1, answer.2) (next_failed c.args.self.now c.loop.self _ c.args.id c.loop.counter
    c.in_err-taken.field-0.0 c.loop.invariant.takes refl
    (rw (
      c.deref.ensures.value,
      unused_is c.loop.self.buffer.items c.loop.self.used
          c.loop.self.filled c.loop.invariant.within,
    ) at c.in_err-taken.ensures.takes))

pub returns-in-Done-clause-takes : goal.returns-in-Done-clause-takes
returns-in-Done-clause-takes c =
    next_done c.args.self.now c.loop.self _ c.args.id c.loop.counter c.loop.invariant.takes
    c.in_ok-taken.taken
    (unused_after c.loop.self.buffer.items c.loop.self.used c.loop.self.filled _ refl)
    (rw (
      c.deref.ensures.value,
      unused_is c.loop.self.buffer.items c.loop.self.used
          c.loop.self.filled c.loop.invariant.within,
    ) at c.in_ok-taken.ensures.takes)
    (sym c.without_empty.ensures ∙ c.in-Done.is) refl

pub returns-then-stream-id-clause-takes : goal.returns-then-stream-id-clause-takes
returns-then-stream-id-clause-takes c =
    let next = sym c.without_empty.ensures ∙ c.in-On.is in
    next_came c.args.self.now c.loop.self _ c.args.id c.loop.counter c.loop.invariant.takes
    c.in_ok-taken.taken
    (unused_after c.loop.self.buffer.items c.loop.self.used c.loop.self.filled _ refl)
    (rw (
      c.deref.ensures.value,
      unused_is c.loop.self.buffer.items c.loop.self.used
          c.loop.self.filled c.loop.invariant.within,
    ) at c.in_ok-taken.ensures.takes)
    c.in-On.stream c.in-On.came next
    (says_some c.in_ok-taken.taken.next c.in-On.stream c.in-On.came next) c.if-stream-id.true refl

pub loop-preserved : goal.loop-preserved
loop-preserved c =
    let within : c.loop.self.used + c.in_ok-taken.taken.used ≤ c.loop.self.filled =
    omega (
      arith,
      c.loop.invariant.within,
      c.in_ok-taken.ensures.within,
      c.deref.ensures.len,
      length-drop c.loop.self.used c.loop.self.buffer.items,
      c.loop.invariant.fits,
    ) in
    elim c.match-without_empty.branch [
      | in-On+else-stream-id+in_ok-keep-in-On w ↦
          let next = sym c.without_empty.ensures ∙ w.in-On.is in
          rw w.self-is (record {
            within = within;
            fits = c.loop.invariant.fits;
            takes = next_kept c.args.self.now c.loop.self _ c.args.id c.loop.counter
                c.loop.invariant.takes c.in_ok-taken.taken
                (unused_after c.loop.self.buffer.items c.loop.self.used c.loop.self.filled _ refl)
                (rw (
                  c.deref.ensures.value,
                  unused_is c.loop.self.buffer.items c.loop.self.used
                      c.loop.self.filled c.loop.invariant.within,
                ) at c.in_ok-taken.ensures.takes)
                w.in-On.stream w.in-On.came next
                (says_some c.in_ok-taken.taken.next w.in-On.stream w.in-On.came next)
                w.if-stream-id.false w.in_ok-keep-in-On.ensures.ok;
          })
      | in-Again w ↦ rw w.self-is (record {
        within = within;
        fits = c.loop.invariant.fits;
        takes = next_nothing c.args.self.now c.loop.self _ c.args.id c.loop.counter
            c.loop.invariant.takes c.in_ok-taken.taken
            (unused_after c.loop.self.buffer.items c.loop.self.used c.loop.self.filled _ refl)
            (rw (
              c.deref.ensures.value,
              unused_is c.loop.self.buffer.items c.loop.self.used
                  c.loop.self.filled c.loop.invariant.within,
            ) at c.in_ok-taken.ensures.takes)
            (rw (sym c.without_empty.ensures ∙ w.in-Again.is) tt) refl;
      })
    ]

pub returns-in_err-keep-in-On-clause-takes : goal.returns-in_err-keep-in-On-clause-takes
returns-in_err-keep-in-On-clause-takes c =
    let answer = err_from_is_err_and c.from_residual-in_err-keep-in-On.result
    c.from_residual-in_err-keep-in-On.ensures.1 in
    let next = sym c.without_empty.ensures ∙ c.in-On.is in
    rw (answer.1, answer.2) (next_lost c.args.self.now c.loop.self _ c.args.id c.loop.counter
    c.loop.invariant.takes c.in_ok-taken.taken
    (unused_after c.loop.self.buffer.items c.loop.self.used c.loop.self.filled _ refl)
    (rw (
      c.deref.ensures.value,
      unused_is c.loop.self.buffer.items c.loop.self.used
          c.loop.self.filled c.loop.invariant.within,
    ) at c.in_ok-taken.ensures.takes)
    c.in-On.stream c.in-On.came next
    (says_some c.in_ok-taken.taken.next c.in-On.stream c.in-On.came next)
    c.if-stream-id.false c.in_err-keep-in-On.ensures.err)

pub returns-clause-takes : goal.returns-clause-takes
returns-clause-takes c =
    next_out c.args.self.now c.loop.self c.args.id c.loop.counter (omega arith)
    c.loop.invariant.takes
