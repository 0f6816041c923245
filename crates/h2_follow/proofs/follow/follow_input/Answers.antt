-- The buffer is empty at first, so its octets are the input's.
use Rattle.h2_follow.proofs.FollowLemmas.{same_octets, follows_told, refusal_told}
use Rattle.h2_follow.proofs.follow.follow_input.Goals as goal

pub returns-clause-follows : goal.returns-clause-follows
returns-clause-follows g c =
    follows_told c.follow_lines.result _ (g.R.Read.remaining c.args.input.now) _ _
    c.in_ok-follower.follower c.args.options.max_frame
    (same_octets (λ input. g.R.Read.remaining input.now) c.in_ok-lines.lines _
    c.in_ok-lines.ensures.inner c.in_ok-lines.ensures.empty c.in_ok-lines.ensures.capacity)
    c.in_ok-follower.ensures c.follow_lines.ensures.follows

pub returns-clause-bad_line : goal.returns-clause-bad_line
returns-clause-bad_line g c =
    refusal_told c.follow_lines.result _ (g.R.Read.remaining c.args.input.now) _ _
    c.in_ok-follower.follower c.args.options.max_frame
    (same_octets (λ input. g.R.Read.remaining input.now) c.in_ok-lines.lines _
    c.in_ok-lines.ensures.inner c.in_ok-lines.ensures.empty c.in_ok-lines.ensures.capacity)
    c.in_ok-follower.ensures c.follow_lines.ensures.bad_line
