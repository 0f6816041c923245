-- By the lemmas on a response.
use Rattle.h2_joined.proofs.Names.{false, refl, ap, Ok, Err, subst, arith, SentMessage}
use Rattle.h2_joined.proofs.Names.{message_value}
use Rattle.h2_joined.proofs.Names.{EndResponds, Accepted, Responds, no_copy_of_a_response, Server}
use Rattle.h2_joined.proofs.KeptActs.{acts_without_copy, changes_end}
use Rattle.h2_joined.proofs.CodeMessages.{respond_is_refused, respond_is_accepted}
use Rattle.h2_joined.proofs.joined.Joined.respond.Goals as goal

pub returns-in_default : goal.returns-in_default
returns-in_default c =
    acts_without_copy Server c.args.self.now c.args.self.now
    (Responds c.args.id (message_value c.args.message.now))
    (λ one other. no_copy_of_a_response c.args.id (message_value c.args.message.now)) refl
    (changes_end _ _ _ refl refl refl refl refl refl)

pub returns-then-is_err : goal.returns-then-is_err
returns-then-is_err c =
    acts_without_copy Server c.args.self.now _
    (Responds c.args.id (message_value c.args.message.now))
    (λ one other. no_copy_of_a_response c.args.id (message_value c.args.message.now)) refl
    (changes_end _ _ _ c.reserve.ensures.items refl refl refl refl refl)

pub returns-in-Ok-respond : goal.returns-in-Ok-respond
returns-in-Ok-respond c =
    let one : Accepted = record { id = c.args.id; message = c.in-Ok.kept; begun = false } in
    respond_is_accepted c.args.self.now _ c.args.id (message_value c.args.message.now)
    c.in-Ok-respond.field-0 one
    (rw (← c.reserve.ensures.items) c.accept.ensures.accepted)
    (record {
      other_end = refl;
      incoming = c.accept.ensures.incoming;
      handed = c.accept.ensures.handed;
      unfinished = c.accept.ensures.unfinished;
      other_kept = refl;
    })
    (ap (λ (m : SentMessage). (c.args.id, (m, false))) c.in-Ok.ensures.kept) (omega arith)
    c.in-Ok.ensures.octets
    (subst (λ (m : SentMessage). EndResponds c.args.self.now.server.end c.args.id m
    (Ok c.in-Ok-respond.field-0) c.respond.new.self.end) c.in-Ok.ensures.given
    c.in-Ok-respond.ensures)

pub returns-in-Err : goal.returns-in-Err
returns-in-Err c =
    respond_is_refused c.args.self.now _ c.args.id (message_value c.args.message.now)
    c.in-Err.field-0-0 c.in-Err.refusal
    (changes_end _ _ _ c.reserve.ensures.items refl refl refl refl refl) (omega arith)
    c.in-Ok.ensures.octets
    (subst (λ (m : SentMessage). EndResponds c.args.self.now.server.end c.args.id m
    (Err (c.in-Err.field-0-0, c.in-Err.refusal)) c.respond.new.self.end) c.in-Ok.ensures.given
    c.in-Err.ensures)
