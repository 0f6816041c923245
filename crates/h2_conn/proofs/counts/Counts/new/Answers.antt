use Rattle.h2_conn.proofs.Names.{refl}
use Rattle.h2_conn.specs.Counts.{flow_of_last}
use Rattle.h2_conn.proofs.counts.Counts.new.Goals as goal

pub returns : goal.returns
unfolding flow_of_last
returns c = record { resets = refl; empty = refl; pings = refl; settings = refl; flow = refl }
