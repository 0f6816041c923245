-- Nothing follows the fields.
use Rattle.h2_args.specs.Words.{asked_by}
use Rattle.h2_get.proofs.StreamLemmas.{head_printed_alone}
use Rattle.h2_get.proofs.stream.print_head.Goals as goal

pub returns-in-Ok-clause-head : goal.returns-in-Ok-clause-head
returns-in-Ok-clause-head g c =
    head_printed_alone (asked_by c.args.options.now) _ _ c.args.fetched.now c.requires.body
    c.requires.trailers c.in-Ok.ensures.prints
