-- One more name is the same.
use Rattle.std.proofs.Common.{◌≡◌, ◌<◌, length, rules, string_bytes}
use Rattle.h2_folder.proofs.RecentLemmas.{same_more}
use Rattle.h2_folder.proofs.recent.are_same.Goals as goal

pub loop-place-preserved : goal.loop-place-preserved
loop-place-preserved c =
    let also : c.loop-place.place < length c.args.others.now = search rules in
    let same : string_bytes c.index-names-place.result
    ≡ string_bytes c.index-others-place.result = search rules in
    same_more c.args.names.now c.args.others.now c.loop-place.place c.index-names-place.result
    c.index-others-place.result c.loop-place-test.true also c.index-names-place.is
    c.index-others-place.is same c.loop-place.invariant
