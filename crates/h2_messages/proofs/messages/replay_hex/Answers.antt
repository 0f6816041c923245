-- The octets are those that the text gives.
use Rattle.h2_messages.proofs.InputLemmas.{text_told}
use Rattle.h2_messages.proofs.messages.replay_hex.Goals as goal

pub returns-clause-prints : goal.returns-clause-prints
returns-clause-prints g c =
    text_told c.args.role _ c.in_ok-octets.octets.items _ _ c.replay_all.result
    c.in_ok-octets.ensures.octets (rw c.deref.ensures.value at c.replay_all.ensures.prints)
