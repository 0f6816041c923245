-- GOAWAY is the last item of the output.
use Rattle.h2_core.proofs.Names.{[], code_number, GoAway, end_view, end_of}
use Rattle.h2_core.proofs.StepFrames.{one-item}
use Rattle.h2_core.proofs.endpoint.Endpoint.fail.Goals as goal

pub returns : goal.returns
returns c =
    let e = end_of c.args.self.now in
    let goaway = GoAway c.args.last (code_number c.args.code) [] in
    let item = one-item (end_view e).max_payload goaway in
    cc
