-- Stretch after part is read.
use Rattle.h2_follow.proofs.Names.{◌∙◌, inr, sym}
use Rattle.h2_show.proofs.ViewerLemmas.{used_within}
use Rattle.h2_follow.proofs.StretchLemmas.{read_all, read_next}
use Rattle.h2_follow.proofs.follower.Follower.show_parts.Goals as goal

pub loop-done-preserved : goal.loop-done-preserved
loop-done-preserved c =
    let steps = c.in_ok-done.ensures (sym c.is_over.ensures ∙ c.if-not-is_over.true) in
    record {
      within = used_within c.args.octets.now c.loop-done.done c.in_ok-done.field-0
          c.loop-done.invariant.within steps.within;
      read = read_next c.args.self.now c.loop-done.self c.show_part.new.self c.args.side
          c.args.octets.now c.loop-done.done c.in_ok-done.field-0 c.loop-done.invariant.read steps;
      client = steps.client ∙ c.loop-done.invariant.client;
      least = steps.least ∙ c.loop-done.invariant.least;
    }

pub returns-else-not-is_over : goal.returns-else-not-is_over
returns-else-not-is_over c =
    read_all c.args.self.now c.loop-done.self c.args.side c.args.octets.now c.loop-done.done
    c.loop-done.invariant.read c.loop-done.invariant.client c.loop-done.invariant.least
    (inr (sym c.is_over.ensures ∙ c.if-not-is_over.false))
