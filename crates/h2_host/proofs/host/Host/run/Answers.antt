use Rattle.std.proofs.Common.{[], ◌∷◌, ◌++◌, ◌∙◌, ap, arith, refl, subst, sym}
use Rattle.std.proofs.lemmas.List.{append_assoc}
use Rattle.h2_host.specs.Runs.{IsRun, none_made}
use Rattle.h2_host.specs.Steps.{AnswersStep}
use Rattle.h2_host.proofs.RunsMade.{run_more}
use Rattle.h2_host.proofs.host.Host.run.Goals as goal

pub loop-made-init : goal.loop-made-init
loop-made-init g c =
    let host = c.args.self.now in
    let none = c.in_ok-replies.ensures.len in
    let space = c.in_ok-replies.ensures.exact in
    let all = c.len.ensures in
    record {
      made = [];
      split = refl;
      run = subst
          (λ a. IsRun g.P.Party.steps g.P.Party.held_of g.P.Party.ready_of host host [] a)
          (sym c.in_ok-replies.ensures.items) (none_made tt);
      fits = omega (arith, none, space, all);
    }

pub loop-made-preserved : goal.loop-made-preserved
loop-made-preserved g c =
    let host = c.args.self.now in
    let so_far = c.loop-made.invariant in
    let one = c.in-Some.made in
    let answers = subst
    (λ o. AnswersStep g.P.Party.steps g.P.Party.held_of g.P.Party.ready_of c.loop-made.self
    c.step-reply.new.self one.step o c.step-reply.result)
    c.deref.ensures.value c.step-reply.ensures.answers in
    let fits = so_far.fits in
    let popped = c.in-Some.ensures.len in
    let pushed = c.in_ok-push.ensures.len in
    let space = c.in_ok-push.ensures.capacity in
    record {
      made = so_far.made ++ one ∷ [];
      split = so_far.split ∙ (ap (λ q. so_far.made ++ q) c.in-Some.ensures.items
          ∙ sym (append_assoc so_far.made (one ∷ []) c.pop_front.new.self.items));
      run = subst
          (λ a. IsRun g.P.Party.steps g.P.Party.held_of g.P.Party.ready_of host
          c.step-reply.new.self (so_far.made ++ one ∷ []) a)
          (sym c.in_ok-push.ensures.items)
          (run_more g.P.Party.steps g.P.Party.held_of g.P.Party.ready_of c.loop-made.self
          c.step-reply.new.self host so_far.made c.loop-made.replies.items one
          c.step-reply.result so_far.run answers);
      fits = omega (arith, fits, popped, pushed, space);
    }
