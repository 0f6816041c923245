-- A flush keeps what is known.
use Rattle.std.proofs.Common.{None}
use Rattle.h2_messages.proofs.TakeLemmas.{takes_kept}
use Rattle.h2_messages.proofs.messages.write_piece.Goals as goal

pub returns-clause-ok : goal.returns-clause-ok
returns-clause-ok g c =
    takes_kept c.args.end.now c.take_piece.new.end c.args.piece.now None _ _ _
    c.in_ok-take_piece.ensures.ok c.flush.ensures.bytes
