-- Nothing has come.
use Rattle.h2_follow.proofs.Names.{[], refl}
use Rattle.h2_follow.proofs.one_side.OneSide.new.Goals as goal

pub returns : goal.returns
returns c = record {
  shown = [];
  viewer = c.in_ok-new.ensures.shows;
  plain = c.in_ok-new.ensures.style;
  text = refl;
  scanner = rw c.begins_with_preface.ensures at c.new-2.ensures.represents;
  keeps = tt;
}
