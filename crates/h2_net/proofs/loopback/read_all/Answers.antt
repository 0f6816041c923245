-- One more read gives what follows.
use borrow.Rule.Slice.PartMut.{same_len_mid}
use Rattle.std.proofs.Common.{◌-◌, length, drop, length-drop, length-take, ◌∙◌, arith}
use Rattle.h2_net.proofs.ReadingLemmas.{reads_more}
use Rattle.h2_net.proofs.loopback.read_all.Goals as goal

pub loop-filled-preserved : goal.loop-filled-preserved
loop-filled-preserved g c =
    let kept = c.loop-filled.invariant in
    let room = c.loop-filled.room in
    let filled = c.loop-filled.filled in
    let given = c.in_ok-count.ensures.gives in
    let few = given.0 in
    let rest = length-drop filled room in
    let most = length-take (length room - filled) (drop filled room) in
    let long = c.in_ok-count.ensures.length in
    let same = same_len_mid filled (length room - filled) room c.read.new.buffer long in
    record {
      within = omega arith;
      length = same ∙ kept.length;
      given = reads_more _ _ _ room c.read.new.buffer filled _ c.in_ok-count.count kept.within few
          kept.given given.1;
      failures = c.in_ok-count.ensures.failures ∙ kept.failures;
    }
