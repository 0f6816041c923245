-- Nothing was used, no frame was taken, and nothing was printed.
use Rattle.h2_show.proofs.Names.{[], sym, ◌∙◌, begins_with_preface}
use Rattle.h2_show.proofs.PrefaceLemmas.{nothing_represented}
use Rattle.h2_show.proofs.viewer.Viewer.new.Goals as goal

pub returns-clause-represents : goal.returns-clause-represents
returns-clause-represents c =
    record {
      frames = [];
      cut = rw c.begins_with_preface-expect_preface.ensures at c.new.ensures.represents;
      blocks_represent = c.in_ok-new.ensures.represents;
    }

pub returns-clause-shows : goal.returns-clause-shows
returns-clause-shows c =
    let cut = rw c.begins_with_preface-expect_preface.ensures at c.new.ensures.represents in
    let nothing = nothing_represented (begins_with_preface c.args.options.from) _ _ cut in
    record {
      frames = [];
      lines = [];
      cut = cut;
      blocks_show = c.in_ok-new.ensures.shows;
      is_due = c.new-3.ensures.due ∙ sym nothing.0;
      all = sym nothing.1;
    }
