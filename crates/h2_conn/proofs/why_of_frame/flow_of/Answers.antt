-- What DATA takes of the windows is its payload.
use Rattle.h2_conn.proofs.Names.{refl}
use Rattle.h2_frame.specs.Encoding.{payload_of}
use Rattle.h2_core.proofs.DataFlow.{flow_with}
use Rattle.h2_conn.proofs.why_of_frame.flow_of.Goals as goal

pub returns-in-Some : goal.returns-in-Some
unfolding payload_of
returns-in-Some c = λ stream end.
    rw (c.in-Some.is, c.from.ensures) (flow_with c.in-Some.count c.args.octets.now)

pub returns-in-None : goal.returns-in-None
unfolding payload_of
returns-in-None c = λ stream end. rw (c.in-None.is) refl
