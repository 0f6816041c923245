-- The octets of the next part follow those that were shown.
use Rattle.std.proofs.Common.{[], refl, ◌∙◌}
use Rattle.h2_watch.proofs.WatchedLemmas.{next_part, part_shown, still_none, still_then}
use Rattle.h2_watch.proofs.link.WatchedLink.show_parts.Goals as goal

pub loop-part-init : goal.loop-part-init
loop-part-init g c = record {
  link = refl;
  same_out = refl;
  shown = ([], refl, still_none _ _ _);
}

pub loop-part-preserved : goal.loop-part-preserved
loop-part-preserved g c =
    let kept = c.loop-part.invariant in
    let (done, is, shown) = kept.shown in
    record {
      link = c.show.ensures.link ∙ kept.link;
      same_out = c.show.ensures.same_out ∙ kept.same_out;
      shown = (
        _,
        part_shown done _ c.as_slice-octets.result.now _ _ c.loop-part.left c.min-shown.result
            c.min-shown.ensures
            (next_part c.args.parts.now c.loop-part.part-index _ c.as_slice-octets.result.now
            c.loop-part-test.true c.as_slice-octets.ensures) is,
        still_then _ c.loop-part.self.watch _ _ done _ _ _ _ shown c.show.ensures.shows,
      );
    }
