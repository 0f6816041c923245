-- By the lemma on octets without fault.
use Rattle.h2_laws_show.proofs.SoundFrames.{sound_octets_encode}
use Rattle.h2_laws_show.proofs.octets_without_fault_are_a_frame.Goals as goal

pub returns : goal.returns
returns c = sound_octets_encode
