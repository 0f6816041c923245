use Rattle.h2_message.proofs.Names.{phase_in_body}
use Rattle.h2_message.proofs.PhaseSteps.{is_short_above, not_short_at}
use Rattle.h2_message.proofs.reading.in_body.Goals as goal

pub returns-then-not-end : goal.returns-then-not-end
unfolding phase_in_body
returns-then-not-end c = rw c.if-not-end.true

pub returns-then-unwrap_or-gt0 : goal.returns-then-unwrap_or-gt0
unfolding phase_in_body
returns-then-unwrap_or-gt0 c =
    rw (
      c.if-not-end.false,
      is_short_above c.args.left (rw c.unwrap_or.ensures at c.if-unwrap_or-gt0.true),
    )

pub returns : goal.returns
unfolding phase_in_body
returns c =
    rw (
      c.if-not-end.false,
      not_short_at c.args.left (rw c.unwrap_or.ensures at c.if-unwrap_or-gt0.false),
    )
