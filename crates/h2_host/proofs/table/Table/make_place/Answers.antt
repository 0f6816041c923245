use Rattle.std.proofs.Common.{ap, arith, inr, length, rules, sym, ◌<◌, ◌^◌, ◌∙◌}
use Rattle.std.proofs.lemmas.List.{length-append}
use Rattle.h2_host.proofs.Counted.{made_counts, next_made}
use Rattle.h2_host.proofs.table.Table.make_place.Goals as goal

pub returns : goal.returns
returns g c =
    let old = c.args.self.now.slots.items in
    let long = ap length c.in_ok-push.ensures.items ∙ length-append old _ in
    let below : length old < c.args.most = search rules in
    let few : length old < 2 ^ 20 = search rules in
    inr (c.in_ok-push.ensures.items, omega (arith, long, below), omega (arith, long, few))

pub invariant_of-self-2-clause-next_ones : goal.invariant_of-self-2-clause-next_ones
invariant_of-self-2-clause-next_ones g c =
    rw c.in_ok-push.ensures.items
    (next_made c.args.self.now.slots.items c.args.self.now.next_ones)

pub invariant_of-self-2-clause-counted : goal.invariant_of-self-2-clause-counted
invariant_of-self-2-clause-counted g c =
    rw c.in_ok-push.ensures.items
    (c.args.self.now.counted ∙ sym (made_counts c.args.self.now.slots.items))

pub invariant_of-self-2-clause-few : goal.invariant_of-self-2-clause-few
invariant_of-self-2-clause-few g c =
    let old = c.args.self.now.slots.items in
    let long = ap length c.in_ok-push.ensures.items ∙ length-append old _ in
    let below : length old < 2 ^ 20 = search rules in
    omega (arith, long, below)
