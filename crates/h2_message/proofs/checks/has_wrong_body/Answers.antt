use Rattle.h2_message.proofs.Names.{sym, ◌∙◌}
use Rattle.std.proofs.lemmas.Bool.{cond-true}
use Rattle.h2_message.proofs.CheckBodies.{without}
use Rattle.h2_message.proofs.checks.has_wrong_body.Goals as goal

pub returns-then-to_head-has_no_content : goal.returns-then-to_head-has_no_content
returns-then-to_head-has_no_content c fields scan good =
    sym (cond-true _ _ _ (without c.args.to_head c.has_no_content.result fields
    (c.has_no_content.ensures fields scan) ∙ c.if-to_head-has_no_content.true))
