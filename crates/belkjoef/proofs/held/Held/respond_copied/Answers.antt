use Rattle.std.proofs.Common.{ℤ}
use Rattle.h2_message.specs.Messages.{SentMessage}
use Rattle.belkjoef.specs.Calls.{Answers}
use Rattle.belkjoef.specs.Given.{AtServer, RespondsWith, reply_number}
use Rattle.belkjoef.proofs.OnPlaces.{on_copies, read_back}
use Rattle.belkjoef.proofs.held.Held.respond_copied.Goals as goal

pub returns-in-Ok : goal.returns-in-Ok
returns-in-Ok c =
    on_copies (λ (message : SentMessage) (z : ℤ). AtServer z (Answers reply_number
    (RespondsWith c.args.stream message) z))
    (read_back c.respond.type_inv)
    c.in-Ok.ensures c.respond.ensures
