-- The status and the lines report all octets that the reader had.
use Rattle.h2_messages.proofs.InputLemmas.{reader_told}
use Rattle.h2_messages.proofs.messages.hand_pieces.Goals as goal

pub returns-clause-prints : goal.returns-clause-prints
returns-clause-prints g c =
    reader_told c.args.role _ c.in_ok-ended.ended.fault c.in_ok-ended.ended.why _ _ _
    c.finish.result c.in_ok-ended.ensures.prints c.finish.ensures.status c.finish.ensures.why
    c.finish.ensures.written
