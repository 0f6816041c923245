use Rattle.hpack.proofs.Names.{◌≡◌, ◌<◌, ◌∙◌, length, get_or, None, Some, sym, ap, arith, slice_get}
use Rattle.hpack.proofs.Names.{option_copied, slice_get-get_or}
use Rattle.hpack.proofs.ChainLemmas.{linked_read, linked_length}
use Rattle.hpack.proofs.types.chains.Chains.skip.Goals as goal

pub returns-in-Some-clause-leads : goal.returns-in-Some-clause-leads
returns-in-Some-clause-leads c = λ bucket entries other chains lt.
    let is : slice_get c.args.self.now.skips.items c.args.place ≡ Some c.in-Some.skip.now =
    sym c.get.ensures ∙ ap option_copied c.in-Some.is in
    linked_read bucket entries c.args.self.now.skips.items c.args.place c.in-Some.skip.now other
    chains.linked lt is

pub returns-in-None-clause-leads : goal.returns-in-None-clause-leads
returns-in-None-clause-leads c = λ bucket entries other chains lt.
    let skips = c.args.self.now.skips.items in
    let none : slice_get skips c.args.place ≡ None =
    sym c.get.ensures ∙ ap option_copied c.in-None.is in
    let short : c.args.place < length skips =
    omega (arith, lt, linked_length bucket entries skips chains.linked) in
    let some : slice_get skips c.args.place ≡ Some (get_or skips c.args.place 0) =
    slice_get-get_or skips c.args.place 0 short in
    absurd (cc)
