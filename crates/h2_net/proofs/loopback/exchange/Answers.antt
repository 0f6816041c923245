-- The exchange is that of ends of which the client posts.
use Rattle.h2_net.proofs.loopback.exchange.Goals as goal

pub returns : goal.returns
returns g c = c.exchange_between.ensures c.args.count c.in_ok-ends.ensures.posts
