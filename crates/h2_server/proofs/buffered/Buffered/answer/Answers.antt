use Rattle.std.proofs.Common.{refl}
use Rattle.h2_server.proofs.buffered.Buffered.answer.Goals as goal

pub returns-clause-answers : goal.returns-clause-answers
returns-clause-answers g c =
    (c.in_ok-message.message, refl, rw c.in_ok-message.was at c.respond.ensures)
