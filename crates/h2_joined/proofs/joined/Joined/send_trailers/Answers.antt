-- By the lemmas on trailers that are sent.
use Rattle.h2_joined.proofs.Names.{refl, ap, arith, subst, List, AreOctets, Field, IsTypedAct}
use Rattle.h2_joined.specs.Joints.{SendsTrailers, no_copy_of_trailers}
use Rattle.h2_joined.specs.Parts.{grown, shown_with_trailers, shown_at}
use Rattle.h2_joined.proofs.KeptActs.{acts_without_copy, changes_end}
use Rattle.h2_joined.proofs.CodeParts.{shows_itself, trailers_refused_act, trailers_act}
use Rattle.h2_joined.proofs.joined.Joined.send_trailers.Goals as goal

pub returns-in_default : goal.returns-in_default
returns-in_default c =
    acts_without_copy c.args.side c.args.self.now c.args.self.now
    (SendsTrailers c.args.id c.args.trailers.now)
    (λ one other. no_copy_of_trailers c.args.id c.args.trailers.now) refl
    (changes_end _ _ _ refl refl refl refl refl refl)

pub returns-in-Ok-end_sends_trailers : goal.returns-in-Ok-end_sends_trailers
unfolding IsTypedAct
returns-in-Ok-end_sends_trailers c =
    let side = c.args.side in
    let old = c.args.self.now in
    let sent = c.end_sends_trailers.new.self in
    trailers_act side old old sent (shows_itself side old) c.end_sends_trailers.ensures.only
    c.keep_trailers.new.self _ c.keep_trailers.ensures c.args.id c.args.trailers.now
    c.in-Ok-end_sends_trailers.field-0
    (ap (λ (list : List Field). grown c.args.id (shown_with_trailers list) (shown_at side sent))
    c.in-Ok.ensures.same) (
      omega arith,
      subst (λ (list : List Field). AreOctets list) c.in-Ok.ensures.same c.in-Ok.ensures.octets,
    ) c.in-Ok-end_sends_trailers.ensures.sends

pub returns-in-Err : goal.returns-in-Err
unfolding IsTypedAct
returns-in-Err c =
    let old = c.args.self.now in
    trailers_refused_act c.args.side old old c.end_sends_trailers.new.self
    (shows_itself c.args.side old) c.end_sends_trailers.ensures.only c.args.id c.args.trailers.now
    c.in-Err.refusal (
      omega arith,
      subst (λ (list : List Field). AreOctets list) c.in-Ok.ensures.same c.in-Ok.ensures.octets,
    ) c.in-Err.ensures.sends
