-- The code's two tests are the machine's.
use Rattle.h2_core.proofs.Names.{arith, sym, ◌∙◌, end_of}
use Rattle.h2_core.proofs.StepCredit.{returned, kept_when_full, kept_without_more}
use Rattle.h2_core.proofs.endpoint.Endpoint.add_unreturned.Goals as goal

pub returns-then-len-lt-FULL_OUTPUT-clause-after : goal.returns-then-len-lt-FULL_OUTPUT-clause-after
returns-then-len-lt-FULL_OUTPUT-clause-after c =
    c.return_credit.ensures.after
    ∙ sym (returned c.args.more (end_of c.args.self.now) (omega arith) (omega arith))

pub returns-else-more-gt0-clause-after : goal.returns-else-more-gt0-clause-after
returns-else-more-gt0-clause-after c = elim c.else-more-gt0.branch [
  | goal.else-more-gt0-via-then-more-gt0+else-len-lt-FULL_OUTPUT w ↦
      sym (kept_when_full c.args.more (end_of c.args.self.now) (omega arith))
  | goal.else-more-gt0-via-else-more-gt0 w ↦
      sym (kept_without_more c.args.more (end_of c.args.self.now) (omega arith))
]
