-- By the lemmas on frames.
use Rattle.h2_laws_show.proofs.SoundFrames.{head_sound, payload_of_frame_sound}
use Rattle.h2_laws_show.proofs.frames_have_no_fault.Goals as goal

pub returns-clause-head : goal.returns-clause-head
returns-clause-head c = head_sound

pub returns-clause-payload : goal.returns-clause-payload
returns-clause-payload c = payload_of_frame_sound
