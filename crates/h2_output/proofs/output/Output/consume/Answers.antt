-- By the lemmas on output in two parts: the queue, and what waits of the last frame.
use Rattle.std.proofs.Common.{◌≡◌, [], ◌++◌, length, min, drop, refl, ap, sym}
use Rattle.std.proofs.Math.Seq.{drop-nil}
use Rattle.h2_output.specs.Output.{OutputState, waiting_of_last}
use Rattle.h2_output.proofs.PieceLemmas.{drop-parts}
use Rattle.h2_output.proofs.output.Output.consume.Goals.{in-Some, in_default}
use Rattle.h2_output.proofs.output.Output.consume.Goals as goal

pub returns-clause-waiting : goal.returns-clause-waiting
returns-clause-waiting c =
    let given = c.min-given.result in
    let queue = c.self.inside.queue.items in
    let last = waiting_of_last c.self.inside.last in
    let waiting : c.args.self.now.waiting ≡ queue ++ last =
    sym (ap (λ (state : OutputState). state.waiting) c.self.view_is) in
    let queued : c.min-queued.result ≡ min given (length queue) = cc in
    let left = drop-parts given c.min-queued.result queue last queued in
    let first = c.take_away.ensures in
    elim c.match-self.branch [
      | in-Some w ↦
          let part : last ≡ drop w.in-Some.last.given w.in-Some.last.octets =
          rw w.in-Some.is refl in
          rw (
            w.self-inside-is,
            w.take_away-in-Some.ensures.waiting,
            first.waiting,
            waiting,
            left,
            part,
          ) refl
      | in_default w ↦
          let none : last ≡ [] = rw w.in_default.is refl in
          rw (w.self-inside-is, first.waiting, waiting, left, none, drop-nil) refl
    ]
