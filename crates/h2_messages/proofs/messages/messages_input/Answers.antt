-- What the buffer took is in the writer.
use Rattle.std.proofs.Common.{rules, refl, sym}
use Rattle.std.proofs.lemmas.Bool.{false≢true}
use Rattle.h2_messages.specs.Messages.{MessagesOfInput}
use Rattle.h2_messages.proofs.InputLemmas.{lent_told}
use Rattle.h2_messages.proofs.messages.messages_input.Goals as goal

pub returns-clause-prints : goal.returns-clause-prints
returns-clause-prints g c =
    lent_told g.W.Write.contents
    (λ given one output. MessagesOfInput c.args.options given one.status one.why output) _
    c.in_ok-lines.lines c.replay_lines-replayed.new.lines _ c.into_parts-lent.result.0
    c.args.out.now _ c.replay_lines-replayed.result c.replay_lines-replayed.ensures.prints
    c.in_ok-lines.ensures.inner c.in_ok-lines.ensures.empty refl
    (sym c.into_parts-lent.ensures.inner)
    (λ good. c.replay_lines-replayed.ensures.written (λ device. false≢true (rw device at good)))
    (λ same. search rules)
