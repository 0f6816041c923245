-- What was added to the octets held is taken, where sending them has failed too.
use Rattle.std.proofs.Common.{◌≡◌, ◌≤◌, ◌++◌, length, take, arith}
use Rattle.std.proofs.lemmas.Grind.{common_steps}
use Rattle.h2_net.proofs.SendingLemmas.{takes_held}
use Rattle.h2_net.proofs.stream_link.StreamLinkLink.write.Goals as goal

pub returns-in_err-flush-clause-holds : goal.returns-in_err-flush-clause-holds
returns-in_err-flush-clause-holds g c =
    let held = c.args.self.now.held.items in
    let count = c.min-count.result in
    let within : count ≤ length c.args.octets.now = omega arith in
    let grown : c.extend_from_slice.new.self.items ≡ held ++ take count c.args.octets.now =
    grind (arith, common_steps) in
    takes_held _ _ held _ _ _ count _ c.from_residual.ensures.0 within grown
    c.in_err-flush.ensures.sends.0
