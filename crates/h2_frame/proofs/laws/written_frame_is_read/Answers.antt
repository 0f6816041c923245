-- By the lemmas on what is written.
use Rattle.h2_frame.proofs.FramePartsLemmas.{length-encoding_of}
use Rattle.h2_frame.proofs.EncodingLemmas.{encoding_encodes, sound_head, sound_payload}
use Rattle.h2_frame.proofs.laws.written_frame_is_read.Goals as goal

pub returns-clause-length : goal.returns-clause-length
returns-clause-length c = length-encoding_of

pub returns-clause-encodes : goal.returns-clause-encodes
returns-clause-encodes c = encoding_encodes

pub returns-clause-sound_head : goal.returns-clause-sound_head
returns-clause-sound_head c = sound_head

pub returns-clause-sound_payload : goal.returns-clause-sound_payload
returns-clause-sound_payload c = sound_payload
