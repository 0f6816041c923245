use Rattle.std.proofs.Common.{[], refl}
use Rattle.h2_server.proofs.ConnectionSteps.{own_makes}
use Rattle.h2_server.proofs.connection.Connection.set_ready.Goals as goal

pub returns : goal.returns
returns g c = record {
  mid = c.wake.new.self;
  gone = [];
  makes = own_makes _ _ c.wake.ensures.makes;
  gives = refl;
  over = λ is. c.wake.ensures.phase;
  made = λ is. c.wake.ensures.phase;
  refused = λ is. tt;
  idle = tt;
  late = tt;
  stopped = tt;
  asks = c.wake.ensures.asks;
  sends = tt;
  readiness = c.wake.ensures.readiness;
  watch = c.wake.ensures.watch;
  notes = c.note.ensures.makes;
  noted = c.note.ensures.phase;
  code = c.note.ensures.code;
  up = c.note.ensures.server_up;
  told = λ was down. c.note.ensures.told (c.wake.ensures.told was) down;
  same = c.note.ensures.readiness;
  watched = c.note.ensures.watch;
  counted = c.note.ensures.counted;
}
