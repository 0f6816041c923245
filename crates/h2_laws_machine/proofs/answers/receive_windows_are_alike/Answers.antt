-- By the lemma on one machine and its log.
use Rattle.h2_laws_machine.proofs.PeerRoom.{peer_room_alike}
use Rattle.h2_laws_machine.proofs.answers.receive_windows_are_alike.Goals as goal

pub returns : goal.returns
returns c = peer_room_alike
