-- Each turn writes octets as they are, and one that is escaped.
use Rattle.h2_show.proofs.Names.{sym, on_ok_weaker}
use Rattle.h2_show.proofs.LinesLemmas.{text_step, text_end}
use Rattle.h2_show.proofs.lines.write_escaped.Goals as goal

pub loop-count-preserved : goal.loop-count-preserved
loop-count-preserved g c =
    let (prefix, joined, shown) = c.loop-count.invariant in
    text_step c.args.octets.now prefix c.loop-count.rest.now c.in-Some.count c.escaped.result _ _ _
    _ joined shown (sym c.in-Some.ensures) c.in_ok-write_all.ensures.bytes c.escaped.ensures
    c.in_ok-write_all-2.ensures.bytes

pub returns : goal.returns
returns g c =
    let (prefix, joined, shown) = c.loop-count.invariant in
    on_ok_weaker c.write_all-2.result
    (λ last. text_end c.args.octets.now prefix c.loop-count.rest.now _ _ _ joined shown
    (sym c.in_default.ensures) last)
    c.write_all-2.ensures.bytes
