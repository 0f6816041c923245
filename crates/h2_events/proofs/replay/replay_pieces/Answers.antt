-- The pieces that the reader gave were handed to the end.
use Rattle.std.proofs.Common.{rules, [], ◌∷◌}
use Rattle.std.proofs.KnownBytes.{Consumes-trans}
use Rattle.h2_laws_end.specs.Replays.{octets_of_acts}
use Rattle.h2_events.proofs.ReplayLemmas.{replays_more, end_reports, fault_reports}
use Rattle.h2_events.proofs.replay.replay_pieces.Goals as goal

pub loop-init : goal.loop-init
unfolding octets_of_acts
loop-init g c = ([], search rules, c.requires.starts, c.requires.written)

pub returns-then-count-eq0-clause-reports : goal.returns-then-count-eq0-clause-reports
returns-then-count-eq0-clause-reports g c =
    let (pieces, read, replays, empty) = c.loop.invariant in
    end_reports c.args.role pieces c.loop.conn _ _ _ _ c.in_ok-count.count read
    c.in_ok-count.ensures.octets c.if-count-eq0.true
    (c.in_ok-count.ensures.end c.if-count-eq0.true (search rules)) replays

pub returns-in-Err-Fault-clause-reports : goal.returns-in-Err-Fault-clause-reports
returns-in-Err-Fault-clause-reports g c =
    let (pieces, read, replays, empty) = c.loop.invariant in
    let (fails, theirs) = rw c.in-Err-Fault.field-0-is at c.in-Err-Fault.ensures.err in
    rw c.in-Err-Fault.code-is (
    fault_reports c.args.role pieces c.loop.conn c.write_piece.new.conn _ _ _
    c.in-Err-Fault.code (Consumes-trans _ _ _ _ _ read c.in_ok-count.ensures.octets) replays
    fails theirs
    )

pub loop-preserved : goal.loop-preserved
unfolding octets_of_acts
loop-preserved g c =
    let (pieces, read, replays, empty) = c.loop.invariant in (
      _ ∷ pieces,
      Consumes-trans _ _ _ _ _ read c.in_ok-count.ensures.octets,
      replays_more c.args.role pieces c.loop.conn _ _ replays c.in-Ok.ensures.ok,
      c.in-Ok.ensures.written,
    )
