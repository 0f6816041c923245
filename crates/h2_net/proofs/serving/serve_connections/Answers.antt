-- One more connection is served.
use denote.Enum.Bare.{same_false}
use Rattle.std.proofs.Common.{sym, ◌∙◌}
use Rattle.h2_cli.specs.contracts.status.Status.{the_type}
use Rattle.h2_net.proofs.ServingLemmas.{is_good, may_end, serves_good, serves_kept, serves_new}
use Rattle.h2_net.proofs.serving.serve_connections.Goals as goal
use Rattle.h2_net.proofs.serving.serve_connections.Goals.{in-Err+then-eq, in-Err+else-eq}
use Rattle.h2_net.proofs.serving.serve_connections.Goals.{in_default}

pub loop-place-preserved : goal.loop-place-preserved
loop-place-preserved g c =
    let before = c.loop-place.invariant in
    elim c.match-serve_next.branch [
      | in-Err+then-eq w ↦ rw (w.status-is, w.report-of_error.ensures) (record {
        may = may_end w.in-Err.ending.error w.in-Err.ensures.err;
        serves = serves_new w.in-Err.ending.error before.serves w.in-Err.ensures.serves
            (is_good c.loop-place.status (sym w.eq.ensures ∙ w.if-eq.true));
      })
      | in-Err+else-eq w ↦ rw w.status-is (record {
        may = before.may;
        serves = serves_kept w.in-Err.ending.error before.serves w.in-Err.ensures.serves
            (same_false the_type c.loop-place.status _ (sym w.eq.ensures ∙ w.if-eq.false));
      })
      | in_default w ↦ rw w.status-is (record {
        may = before.may;
        serves = serves_good w.in_default.field-0 before.serves w.in_default.ensures.serves;
      })
    ]
