-- By the lemmas on output in two parts: the queue, and what waits of the last frame.
use Rattle.std.proofs.Common.{◌≡◌, [], ◌++◌, length, min, drop, refl, ap, sym, append_assoc}
use Rattle.std.proofs.Common.{append-nil}
use Rattle.std.proofs.Math.Seq.{take-nil, drop-nil}
use Rattle.h2_output.specs.Output.{OutputState, waiting_of_last}
use Rattle.h2_output.proofs.PieceLemmas.{take-parts, drop-parts}
use Rattle.h2_output.proofs.output.Output.put_out.Goals.{in-Some, in_default}
use Rattle.h2_output.proofs.output.Output.put_out.Goals as goal

pub returns-clause-ok : goal.returns-clause-ok
returns-clause-ok c =
    let given = c.min-given.result in
    let queue = c.self.inside.queue.items in
    let last = waiting_of_last c.self.inside.last in
    let waiting : c.args.self.now.waiting ≡ queue ++ last =
    sym (ap (λ (state : OutputState). state.waiting) c.self.view_is) in
    let queued : c.min-queued.result ≡ min given (length queue) = cc in
    let count : given ≡ min c.args.count (length c.args.self.now.waiting) = cc in
    let taken = take-parts given c.min-queued.result queue last queued in
    let left = drop-parts given c.min-queued.result queue last queued in
    let reserved = c.reserve.ensures.items in
    let first = c.put_out.ensures in
    elim c.match-self.branch [
      | in-Some w ↦
          let part : last ≡ drop w.in-Some.last.given w.in-Some.last.octets =
          rw w.in-Some.is refl in
          let second = w.put_out-in-Some.ensures in (
            count,
            rw (w.out-is, second.given, first.given, append_assoc, reserved, waiting, taken, part)
                refl,
            rw (w.self-inside-is, second.waiting, first.waiting, waiting, left, part) refl,
          )
      | in_default w ↦
          let none : last ≡ [] = rw w.in_default.is refl in (
            count,
            rw (w.out-is, first.given, reserved, waiting, taken, none, take-nil, append-nil) refl,
            rw (w.self-inside-is, first.waiting, waiting, left, none, drop-nil) refl,
          )
    ]
