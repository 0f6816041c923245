-- By the size of the trailers, and where there are none.
use Rattle.h2_ends.proofs.Names.{◌∙◌}
use Rattle.h2_ends.proofs.RequestRefusals.{is_large, is_small}
use Rattle.h2_ends.proofs.RequestSends.{trailers_are, no_trailers_fit}
use Rattle.h2_ends.proofs.sending.large_trailers.Goals as goal

pub returns-in-Some-clause-large : goal.returns-in-Some-clause-large
returns-in-Some-clause-large c =
    let trailers = c.in-Some.trailers in (
      c.deref-in-Some.ensures.value ∙ trailers_are c.args.message.now trailers c.in-Some.is,
      rw c.deref-in-Some.ensures.value (is_large trailers.items c.list_size.result
          (rw c.deref.ensures.value at c.list_size.ensures.size) c.if-list_size.true),
    )

pub returns-in_default-clause-fits : goal.returns-in_default-clause-fits
returns-in_default-clause-fits c =
    elim c.in_default.branch [
      | goal.in_default-via-in-Some+else-list_size w ↦
          rw (← (trailers_are c.args.message.now w.in-Some.trailers w.in-Some.is))
          (is_small w.in-Some.trailers.items w.list_size.result
          (rw w.deref.ensures.value at w.list_size.ensures.size)
          w.if-list_size.false)
      | goal.in_default-via-in_default w ↦ no_trailers_fit c.args.message.now w.in_default.not-Some
    ]
