use Rattle.std.proofs.Common.{[], refl}
use Rattle.h2_server.proofs.ConnectionSteps.{own_makes}
use Rattle.h2_server.proofs.connection.Connection.lose.Goals as goal

pub returns-clause-calls : goal.returns-clause-calls
returns-clause-calls g c = record {
  mid = c.finish_up.new.self;
  gone = [];
  makes = own_makes _ _ c.finish_up.ensures.makes;
  gives = refl;
  over = c.finish_up.ensures.over;
  made = c.finish_up.ensures.phase;
  refused = λ is. tt;
  idle = tt;
  late = tt;
  stopped = tt;
  asks = tt;
  sends = tt;
  readiness = c.finish_up.ensures.readiness;
  watch = c.finish_up.ensures.watch;
  notes = c.note.ensures.makes;
  noted = c.note.ensures.phase;
  code = c.note.ensures.code;
  up = c.note.ensures.server_up;
  told = λ was down. c.note.ensures.told (c.finish_up.ensures.told was) down;
  same = c.note.ensures.readiness;
  watched = c.note.ensures.watch;
  counted = c.note.ensures.counted;
}
