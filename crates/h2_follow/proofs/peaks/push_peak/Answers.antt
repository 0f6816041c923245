-- Peaks below the number are dropped, and it comes after the others.
use Rattle.std.proofs.Common.{◌∙◌, rules, sym}
use Rattle.h2_follow.proofs.PeakLemmas.{falls_popped, kept_popped, peaks_pushed}
use Rattle.h2_follow.proofs.peaks.push_peak.Goals as goal

pub loop-peaks-preserved : goal.loop-peaks-preserved
loop-peaks-preserved c = record {
  kept = kept_popped c.args.number c.pop_back.result c.loop-peaks.peaks.items
      c.pop_back.new.self.items (sym c.ends_below.ensures ∙ c.loop-peaks-test.true)
      c.pop_back.ensures.items ∙ c.loop-peaks.invariant.kept;
  falls = λ falls. falls_popped c.pop_back.result c.loop-peaks.peaks.items
      c.pop_back.new.self.items c.pop_back.ensures.items (c.loop-peaks.invariant.falls falls);
  room = search rules;
}

pub returns : goal.returns
returns c = λ numbers known.
    peaks_pushed c.args.peaks.now.items c.loop-peaks.peaks.items c.push_back_reserved.new.self.items
    numbers c.args.number c.loop-peaks.invariant.kept c.loop-peaks.invariant.falls
    (sym c.ends_below.ensures ∙ c.loop-peaks-test.false) c.push_back_reserved.ensures.items known
