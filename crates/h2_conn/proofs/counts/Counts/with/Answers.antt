use Rattle.h2_conn.proofs.Names.{sym, ap, ◌∙◌, ℕ, arith}
use Rattle.std.proofs.lemmas.Grind.{common_steps}
use Rattle.h2_frame.specs.Frames.{frame_of}
use Rattle.h2_conn.specs.Counts.{flow_after}
use Rattle.h2_conn.proofs.CountsFlow.{flow_one_more}
use Rattle.h2_conn.proofs.counts.Counts.with.Goals as goal

pub returns : goal.returns
returns c = λ frames were. record {
  resets = grind (arith, common_steps);
  empty = grind (arith, common_steps);
  pings = grind (arith, common_steps);
  settings = grind (arith, common_steps);
  flow = c.flow_after.ensures
      ∙ ap (λ (n : ℕ). flow_after n (frame_of c.args.frame)) were.flow
      ∙ sym (flow_one_more 0 frames (frame_of c.args.frame));
}
