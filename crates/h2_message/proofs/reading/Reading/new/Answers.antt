use Rattle.h2_message.proofs.Names.{[], refl, AtHead, phase_after_all, asks_head_first}
use Rattle.h2_message.proofs.ReadingSteps.{readable}
use Rattle.h2_message.proofs.reading.Reading.new.Goals as goal

pub returns : goal.returns
unfolding phase_after_all asks_head_first
returns c = record {
  reads_is = refl;
  phase = refl;
  readable = readable c.args.reads [] AtHead refl;
  asks_head = λ requests. refl;
  asks_none = λ others. refl;
}
