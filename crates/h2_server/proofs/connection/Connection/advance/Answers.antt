use Rattle.std.proofs.Common.{[], refl}
use Rattle.h2_server.proofs.ConnectionSteps.{stopped_over}
use Rattle.h2_server.proofs.TurnsMade.{turns_noted, was_up}
use Rattle.h2_server.proofs.connection.Connection.advance.Goals as goal

pub returns-clause-calls : goal.returns-clause-calls
returns-clause-calls g c = record {
  mid = c.turn.new.self;
  gone = [];
  makes = c.turn.ensures.makes;
  gives = refl;
  over = λ is. stopped_over _ _ _ is c.turn.ensures.phase;
  made = λ is. c.turn.ensures.phase;
  refused = λ is. tt;
  idle = tt;
  late = tt;
  stopped = c.turn.ensures.stopped;
  asks = tt;
  sends = tt;
  readiness = c.turn.ensures.readiness;
  watch = c.turn.ensures.watch;
  notes = c.note.ensures.makes;
  noted = c.note.ensures.phase;
  code = c.note.ensures.code;
  up = c.note.ensures.server_up;
  told = λ was down. c.note.ensures.told (c.turn.ensures.told was) down;
  same = c.note.ensures.readiness;
  watched = c.note.ensures.watch;
  counted = c.note.ensures.counted;
}

pub returns-clause-turns : goal.returns-clause-turns
returns-clause-turns g c =
    turns_noted c.args.self.now c.turn.new.self c.note.new.self c.turn.ensures.turns
    (λ up. was_up c.turn.new.self c.note.new.self.phase c.note.ensures.phase up) c.note.ensures.up
    c.note.ensures.readiness
