-- By the lemma on windows after a call.
use Rattle.h2_laws_end.proofs.OverRoom.{no_room_by_call}
use Rattle.h2_laws_end.proofs.streams.sending_gives_no_room.Goals as goal

pub returns-clause-fields : goal.returns-clause-fields
returns-clause-fields c = λ log id i fields end answer may. no_room_by_call log _ answer i

pub returns-clause-data : goal.returns-clause-data
returns-clause-data c = λ log id i octets end answer may. no_room_by_call log _ answer i
