-- The ends are those over the links, and the client posts.
use Rattle.h2_net.proofs.loopback.new_ends.Goals as goal

pub returns-clause-posts : goal.returns-clause-posts
returns-clause-posts g c = c.ends_over.ensures.posts c.args.count c.in_ok-message.ensures

pub returns-clause-err : goal.returns-clause-err
returns-clause-err g c = c.ends_over.ensures.err c.args.count c.in_ok-message.ensures
