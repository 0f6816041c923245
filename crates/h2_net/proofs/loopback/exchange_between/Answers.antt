-- The exchange ends early, or its response is there.
use Rattle.h2_net.proofs.loopback.exchange_between.Goals as goal

pub returns : goal.returns
returns g c = λ count is.
    c.fetched_by.ensures count (c.carry_with_room-carries.ensures count is)
