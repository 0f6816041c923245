-- Each part of the piece is heard of, and what is due is done, until nothing is left or the machine
-- ends.
use Rattle.h2_engines.proofs.Names.{◌≡◌, ◌+◌, drop, refl, ◌∙◌, arith, err_from_is_err_and, length}
use Rattle.h2_engines.proofs.Names.{◌-◌, traffic}
use Rattle.std.proofs.Common.{length-take, length-drop}
use Rattle.h2_engines.proofs.MachineLaws.{is_due}
use Rattle.h2_engines.proofs.MachineTakes.{IsTaking, takes_first, heard_rest, done_rest, whole_rest}
use Rattle.h2_engines.proofs.MachineTakes.{due_rest, not_done_rest, last_rest, no_round_rest}
use Rattle.h2_engines.proofs.MachineTakes.{moved_to}
use Rattle.h2_engines.proofs.machine.take_all.Goals.{in-Again, in_default+in_ok-do_due-in_default}
use Rattle.h2_engines.specs.declared.request.Next.TheVariants as nexts
use Rattle.h2_engines.proofs.machine.take_all.Goals as goal

pub loop-init : goal.loop-init
loop-init g c =
    record {
      within = omega arith;
      failures = refl;
      takes = takes_first c.args.writes _ (g.M.Machine.held c.args.machine.now) c.args.piece.now;
    }

pub returns-in-Done-clause-takes : goal.returns-in-Done-clause-takes
returns-in-Done-clause-takes g c course base end is =
    done_rest (g.M.Machine.held c.take.new.self) c.args.piece.now c.loop.used c.in-Ok.heard
    (c.loop.invariant.takes course base end is) c.in-Ok.ensures.hears c.in-Done.is

pub returns-in-Whole-clause-takes : goal.returns-in-Whole-clause-takes
returns-in-Whole-clause-takes g c course base end is =
    whole_rest (drop (c.loop.used + c.in-Ok.heard.used) c.args.piece.now) (rw c.in-Whole.is at
    (heard_rest (g.M.Machine.held c.take.new.self) c.args.piece.now c.loop.used c.in-Ok.heard
    (c.loop.invariant.takes course base end is) c.in-Ok.ensures.hears))

pub returns-in_err-do_due-in_default-clause-takes :
    goal.returns-in_err-do_due-in_default-clause-takes
returns-in_err-do_due-in_default-clause-takes g c course base end is =
    let answer = err_from_is_err_and c.from_residual.result c.from_residual.ensures.1 in
    rw (answer.1, answer.2)
    (not_done_rest _ (g.M.Machine.held c.do_due.new.machine) c.in_err-do_due-in_default.field-0.0
    (is_due c.in-Ok.heard.next c.in_default.not-Again c.in_default.not-Done c.in_default.not-Whole)
    (heard_rest (g.M.Machine.held c.take.new.self) c.args.piece.now c.loop.used c.in-Ok.heard
    (c.loop.invariant.takes course base end is) c.in-Ok.ensures.hears)
    c.in_err-do_due-in_default.ensures.does)

pub returns-in-Err-clause-takes : goal.returns-in-Err-clause-takes
returns-in-Err-clause-takes g c course base end is =
    last_rest _ (g.M.Machine.held c.take.new.self) (g.M.Machine.held c.end_early.new.machine)
    c.args.piece.now c.loop.used c.in-Err.error c.end_early.result
    (c.loop.invariant.takes course base end is) c.in-Err.ensures.hears c.end_early.ensures.ends

pub returns-clause-takes : goal.returns-clause-takes
returns-clause-takes g c course base end is =
    no_round_rest (omega arith) (c.loop.invariant.takes course base end is)

pub loop-preserved : goal.loop-preserved
loop-preserved g c =
    let piece = c.args.piece.now in
    let fails = λ (self : g.row.M.Denot) (link : g.row.L.Denot). g.L.Link.faults link
    ≡ g.L.Link.faults c.args.link.now in
    record {
      within = omega (
        arith,
        c.loop.invariant.within,
        c.in-Ok.ensures.within,
        length-take (length piece - c.loop.used) (drop c.loop.used piece),
        length-drop c.loop.used piece,
      );
      failures = elim c.match-heard.branch [
        | in-Again w ↦ moved_to fails w.machine-is w.link-is c.loop.invariant.failures
        | in_default+in_ok-do_due-in_default w ↦ moved_to fails w.machine-is w.link-is
            (w.in_ok-do_due-in_default.ensures.failures ∙ c.loop.invariant.failures)
      ];
      takes = λ course base end is.
          let heard = heard_rest (g.M.Machine.held c.take.new.self) piece c.loop.used
          c.in-Ok.heard (c.loop.invariant.takes course base end is) c.in-Ok.ensures.hears in
          let takes = λ (self : g.row.M.Denot) (link : g.row.L.Denot). IsTaking c.args.writes
          course (traffic (g.L.Link.given link) (g.L.Link.taken link) (g.L.Link.stalled link))
          base (g.M.Machine.held self) end (drop (c.loop.used + c.in-Ok.heard.used) piece)
          nexts.Again (c.loop.counter + 1) in
          elim c.match-heard.branch [
            | in-Again w ↦ moved_to takes w.machine-is w.link-is (rw w.in-Again.is at heard)
            | in_default+in_ok-do_due-in_default w ↦ moved_to takes w.machine-is w.link-is
                (due_rest w.in_ok-do_due-in_default.field-0 (is_due c.in-Ok.heard.next
                w.in_default.not-Again w.in_default.not-Done w.in_default.not-Whole) heard
                w.in_ok-do_due-in_default.ensures.does)
          ];
    }
