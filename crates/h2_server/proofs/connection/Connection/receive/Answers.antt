use Rattle.std.proofs.Common.{[], refl}
use Rattle.h2_server.proofs.ConnectionSteps.{stopped_over}
use Rattle.h2_server.proofs.connection.Connection.receive.Goals as goal

pub returns : goal.returns
returns g c = record {
  mid = c.take_input.new.self;
  gone = [];
  makes = c.take_input.ensures.makes;
  gives = refl;
  over = λ is. stopped_over _ _ _ is c.take_input.ensures.phase;
  made = λ is. c.take_input.ensures.phase;
  refused = λ is. tt;
  idle = tt;
  late = tt;
  stopped = c.take_input.ensures.stopped;
  asks = tt;
  sends = tt;
  readiness = c.take_input.ensures.readiness;
  watch = c.take_input.ensures.watch;
  notes = c.note.ensures.makes;
  noted = c.note.ensures.phase;
  code = c.note.ensures.code;
  up = c.note.ensures.server_up;
  told = λ was down. c.note.ensures.told (c.take_input.ensures.told was) down;
  same = c.note.ensures.readiness;
  watched = c.note.ensures.watch;
  counted = c.note.ensures.counted;
}
