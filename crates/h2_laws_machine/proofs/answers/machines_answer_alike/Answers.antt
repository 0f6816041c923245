-- By the lemmas on answers and readers.
use Rattle.h2_laws_machine.proofs.AlikeAnswers.{answer_alike, put_out_alike, waiting_alike}
use Rattle.h2_laws_machine.proofs.AlikeAnswers.{room_alike, owed_alike, due_alike, next_alike}
use Rattle.h2_laws_machine.proofs.AlikeAnswers.{live_alike}
use Rattle.h2_laws_machine.proofs.answers.machines_answer_alike.Goals as goal

pub returns : goal.returns
returns c = record {
  answer = answer_alike;
  put_out = put_out_alike;
  waiting = waiting_alike;
  room = room_alike;
  owed = owed_alike;
  due = due_alike;
  next = next_alike;
  live = live_alike;
}
