-- By the lemmas on a response that is begun.
use Rattle.h2_joined.proofs.Names.{refl, arith, subst, List, AreOctets, Field, Server}
use Rattle.h2_joined.specs.Joints.{BeginsAnswer, no_copy_of_an_answer}
use Rattle.h2_joined.proofs.KeptActs.{acts_without_copy, changes_end}
use Rattle.h2_joined.proofs.CodeMessages.{begin_response_is_refused, begin_response_is_accepted}
use Rattle.h2_joined.proofs.joined.Joined.begin_response.Goals as goal

pub returns-in_default : goal.returns-in_default
returns-in_default c =
    acts_without_copy Server c.args.self.now c.args.self.now
    (BeginsAnswer c.args.id c.args.head.now)
    (λ one other. no_copy_of_an_answer c.args.id c.args.head.now) refl
    (changes_end _ _ _ refl refl refl refl refl refl)

pub returns-then-is_err : goal.returns-then-is_err
returns-then-is_err c =
    acts_without_copy Server c.args.self.now _ (BeginsAnswer c.args.id c.args.head.now)
    (λ one other. no_copy_of_an_answer c.args.id c.args.head.now) refl
    (changes_end _ _ _ c.reserve.ensures.items refl refl refl refl refl)

pub returns-in-Ok-begin : goal.returns-in-Ok-begin
returns-in-Ok-begin c =
    begin_response_is_accepted c.args.self.now _ c.args.id c.args.head.now c.in-Ok-begin.field-0
    c.with_head-begun.result (rw (← c.reserve.ensures.items) c.accept.ensures.accepted)
    (record {
      other_end = refl;
      incoming = c.accept.ensures.incoming;
      handed = c.accept.ensures.handed;
      unfinished = c.accept.ensures.unfinished;
      other_kept = refl;
    })
    (rw (← c.in-Ok.ensures.same) c.with_head-begun.ensures) (omega arith)
    (subst (λ (list : List Field). AreOctets list) c.in-Ok.ensures.same c.in-Ok.ensures.octets)
    c.in-Ok-begin.ensures

pub returns-in-Err : goal.returns-in-Err
returns-in-Err c =
    begin_response_is_refused c.args.self.now _ c.args.id c.args.head.now c.in-Err.refusal
    (changes_end _ _ _ c.reserve.ensures.items refl refl refl refl refl) (omega arith)
    (subst (λ (list : List Field). AreOctets list) c.in-Ok.ensures.same c.in-Ok.ensures.octets)
    c.in-Err.ensures
