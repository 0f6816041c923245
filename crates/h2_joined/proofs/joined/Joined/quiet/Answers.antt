-- By the lemma on pipes and ends.
use Rattle.h2_joined.proofs.KeptQuiet.{both_quiet, busy_client, waits_for_client, waits_for_server}
use Rattle.h2_joined.proofs.joined.Joined.quiet.Goals as goal

pub returns-then-len-gt0 : goal.returns-then-len-gt0
returns-then-len-gt0 c =
    waits_for_client c.args.self.now c.len.result c.len.ensures c.if-len-gt0.true

pub returns-then-len-gt0-2 : goal.returns-then-len-gt0-2
returns-then-len-gt0-2 c =
    waits_for_server c.args.self.now c.len-2.result c.len-2.ensures c.if-len-gt0-2.true

pub returns-then-is_quiet : goal.returns-then-is_quiet
returns-then-is_quiet c =
    both_quiet c.args.self.now c.len.result c.len-2.result c.is_quiet.result
    c.is_quiet-then-is_quiet.result c.len.ensures c.len-2.ensures c.is_quiet.ensures
    c.is_quiet-then-is_quiet.ensures c.if-len-gt0.false c.if-len-gt0-2.false c.if-self.false
    c.if-self-2.false c.if-is_quiet.true

pub returns-else-is_quiet : goal.returns-else-is_quiet
returns-else-is_quiet c =
    busy_client c.args.self.now c.is_quiet.result c.is_quiet.ensures c.if-is_quiet.false
