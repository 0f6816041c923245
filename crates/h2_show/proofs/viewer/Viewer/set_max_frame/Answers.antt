-- By the cutter's clause: the rest of the viewer stays.
use Rattle.h2_show.proofs.Names.{◌∙◌, ap, refl, sym, CutterState}
use Rattle.h2_show.proofs.viewer.Viewer.set_max_frame.Goals as goal

pub returns-clause-limited : goal.returns-clause-limited
returns-clause-limited c = λ expects limits stream output shows. record {
  frames = shows.frames;
  lines = shows.lines;
  cut = c.set_limit.ensures.represents expects limits stream shows.frames shows.cut;
  blocks_show = shows.blocks_show;
  is_due = shows.is_due
      ∙ sym (ap (λ (state : CutterState). state.in_preface) c.set_limit.ensures.same);
  all = shows.all;
}

pub returns-clause-unparsed : goal.returns-clause-unparsed
returns-clause-unparsed c =
    ap (λ (state : CutterState). state.unparsed) c.set_limit.ensures.same

pub returns-clause-printer : goal.returns-clause-printer
returns-clause-printer c = refl
