-- A flush keeps what is known.
use Rattle.h2_messages.specs.Messages.{MessagesOfInput}
use Rattle.h2_messages.proofs.InputLemmas.{kept_told}
use Rattle.h2_messages.proofs.messages.replay_lines.Goals as goal

pub returns-clause-prints : goal.returns-clause-prints
returns-clause-prints g c =
    kept_told (λ given one output. MessagesOfInput c.args.options given one.status one.why output)
    _ _ _ _ c.replay_given-replayed.result c.replay_given-replayed.ensures.prints
    c.flush.ensures.bytes
