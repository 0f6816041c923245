-- The pieces that the reader gave were handed to the end.
use Rattle.std.proofs.Common.{rules, [], ◌++◌}
use Rattle.std.proofs.KnownBytes.{Appends-nil, Appends-trans, Consumes-trans}
use Rattle.h2_messages.proofs.InputLemmas.{printed_none, printed_more, end_reported, fault_reported}
use Rattle.h2_messages.proofs.messages.replay_pieces.Goals as goal

pub loop-init : goal.loop-init
loop-init g c = (
  [],
  [],
  search rules,
  printed_none c.args.role c.args.end.now c.requires.starts,
  Appends-nil _,
  c.requires.written,
)

pub returns-then-count-eq0-clause-prints : goal.returns-then-count-eq0-clause-prints
returns-then-count-eq0-clause-prints g c =
    let (octets, printed, read, so_far, written, empty) = c.loop.invariant in
    end_reported c.args.role octets printed c.loop.end _ _ _ _ c.in_ok-count.count _ _ read
    c.in_ok-count.ensures.octets c.if-count-eq0.true
    (c.in_ok-count.ensures.end c.if-count-eq0.true (search rules)) so_far written

pub returns-in-Err-Fault-clause-prints : goal.returns-in-Err-Fault-clause-prints
returns-in-Err-Fault-clause-prints g c =
    let (octets, printed, read, so_far, written, empty) = c.loop.invariant in
    let (fails, theirs) = rw c.in-Err-Fault.field-0-is at c.in-Err-Fault.ensures.err in
    rw c.in-Err-Fault.code-is (
    fault_reported c.args.role octets printed _ c.loop.end c.write_piece.new.end
    c.in-Err-Fault.code c.why.result _ _ _ _ _
    (Consumes-trans _ _ _ _ _ read c.in_ok-count.ensures.octets) so_far written fails theirs
    c.why.ensures
    )

pub loop-preserved : goal.loop-preserved
loop-preserved g c =
    let (octets, printed, read, so_far, written, empty) = c.loop.invariant in
    let more = printed_more c.args.role octets printed _ c.loop.end _ _ _ so_far
    c.in-Ok.ensures.ok in (
      _,
      printed ++ more.more,
      Consumes-trans _ _ _ _ _ read c.in_ok-count.ensures.octets,
      more.prints,
      Appends-trans _ _ _ printed more.more written more.written,
      c.in-Ok.ensures.written,
    )
