-- Parts were sent after what is held; or none of them was, and the first is written alone.
use Rattle.std.proofs.Common.{◌≡◌, ◌<◌, length, ap, ◌∙◌, arith}
use Rattle.h2_link.proofs.PartsLemmas.{takes_part, stalled_part}
use Rattle.h2_link.specs.Links.{stalled_after}
use Rattle.std.specs.Io.Slices.{io_slices_bytes}
use Rattle.h2_net.proofs.PartsSent.{takes_after_none, not_stalled}
use Rattle.h2_net.proofs.stream_link.StreamLinkLink.write_parts.Goals as goal

pub returns-then-count-gt0-clause-stalled : goal.returns-then-count-gt0-clause-stalled
returns-then-count-gt0-clause-stalled g c =
    let some : 0 < c.send_parts-count.result = omega (arith, c.if-count-gt0.true) in
    c.send_parts-count.ensures.stalled ∙ not_stalled _ _ _ some

pub returns-clause-takes : goal.returns-clause-takes
returns-clause-takes g c =
    takes_part _ _ _ _ c.write.result c.first_part.ensures.part c.write.ensures.takes

pub returns-clause-stalled : goal.returns-clause-stalled
returns-clause-stalled g c =
    c.write.ensures.stalled
    ∙ stalled_part _ _ _ c.write.result c.first_part.ensures.part c.first_part.ensures.none
    ∙ ap (λ s. stalled_after s (length (io_slices_bytes c.args.parts.now)) c.write.result)
    c.send_parts-count.ensures.stalled

pub returns-clause-holds : goal.returns-clause-holds
returns-clause-holds g c =
    let zero : c.send_parts-count.result ≡ 0 = omega (arith, c.if-count-gt0.false) in
    takes_after_none _ _ _ c.write.result _ (rw zero at c.send_parts-count.ensures.holds.took)
    (takes_part _ _ _ _ c.write.result c.first_part.ensures.part c.write.ensures.holds)
