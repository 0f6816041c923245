-- The octets are one piece.
use Rattle.std.proofs.Common.{rules, []}
use Rattle.h2_events.specs.Replayer.{EndReplays}
use Rattle.h2_events.proofs.ReplayLemmas.{piece_reports, piece_fails, result_reports}
use Rattle.h2_events.proofs.replay.replay_all.Goals as goal
use Rattle.h2_events.proofs.replay.replay_all.Goals.{in-Ok, in-Err-Fault}

pub returns-clause-reports : goal.returns-clause-reports
returns-clause-reports g c =
    let starts : EndReplays c.args.role [] c.in_ok-conn.conn = search rules in
    result_reports c.args.role c.args.octets.now c.match-take_piece.ended.fault c.finish.result
    (elim c.match-take_piece.branch [
      | in-Ok w ↦
          rw w.ended-is (
          piece_reports c.args.role c.in_ok-conn.conn c.take_piece.new.conn c.args.octets.now
          starts w.in-Ok.ensures.ok
          )
      | in-Err-Fault w ↦
          let (fails, theirs) = rw w.in-Err-Fault.field-0-is at w.in-Err-Fault.ensures.err in
          rw w.ended-is (
          piece_fails c.args.role c.in_ok-conn.conn c.take_piece.new.conn c.args.octets.now
          w.in-Err-Fault.code starts fails theirs
          )
    ]) c.finish.ensures.status
