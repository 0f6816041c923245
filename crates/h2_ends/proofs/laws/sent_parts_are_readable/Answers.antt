-- By the parts of what was given to say.
use Rattle.h2_ends.proofs.SoundParts.{sound_parts_are_readable}
use Rattle.h2_ends.proofs.laws.sent_parts_are_readable.Goals as goal

pub returns : goal.returns
returns c = sound_parts_are_readable
