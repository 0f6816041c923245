-- By the lemmas on a request.
use Rattle.h2_joined.proofs.Names.{false, refl, ap, Ok, Err, subst, SentMessage, message_value}
use Rattle.h2_joined.proofs.Names.{EndRequests, Accepted, no_copy_of_a_request, Client, Requests}
use Rattle.h2_joined.proofs.KeptActs.{acts_without_copy, changes_end}
use Rattle.h2_joined.proofs.CodeMessages.{request_is_refused, request_is_accepted}
use Rattle.h2_joined.proofs.joined.Joined.request.Goals as goal

pub returns-in_default : goal.returns-in_default
returns-in_default c =
    acts_without_copy Client c.args.self.now c.args.self.now
    (Requests (message_value c.args.message.now))
    (λ one other. no_copy_of_a_request (message_value c.args.message.now)) refl
    (changes_end _ _ _ refl refl refl refl refl refl)

pub returns-then-is_err : goal.returns-then-is_err
returns-then-is_err c =
    acts_without_copy Client c.args.self.now _ (Requests (message_value c.args.message.now))
    (λ one other. no_copy_of_a_request (message_value c.args.message.now)) refl
    (changes_end _ _ _ c.reserve.ensures.items refl refl refl refl refl)

pub returns-in-Ok-request : goal.returns-in-Ok-request
returns-in-Ok-request c =
    let one : Accepted = record { id = c.in-Ok-request.id; message = c.in-Ok.kept; begun = false }
    in
    request_is_accepted c.args.self.now _ (message_value c.args.message.now) c.in-Ok-request.id one
    (rw (← c.reserve.ensures.items) c.accept.ensures.accepted)
    (record {
      other_end = refl;
      incoming = c.accept.ensures.incoming;
      handed = c.accept.ensures.handed;
      unfinished = c.accept.ensures.unfinished;
      other_kept = refl;
    })
    (ap (λ (m : SentMessage). (c.in-Ok-request.id, (m, false))) c.in-Ok.ensures.kept)
    c.in-Ok.ensures.octets
    (subst (λ (m : SentMessage). EndRequests c.args.self.now.client.end m (Ok c.in-Ok-request.id)
    c.request.new.self.end) c.in-Ok.ensures.given c.in-Ok-request.ensures)

pub returns-in-Err : goal.returns-in-Err
returns-in-Err c =
    request_is_refused c.args.self.now _ (message_value c.args.message.now)
    c.in-Err.field-0-0 c.in-Err.refusal
    (changes_end _ _ _ c.reserve.ensures.items refl refl refl refl refl) c.in-Ok.ensures.octets
    (subst (λ (m : SentMessage). EndRequests c.args.self.now.client.end m
    (Err (c.in-Err.field-0-0, c.in-Err.refusal)) c.request.new.self.end) c.in-Ok.ensures.given
    c.in-Err.ensures)
