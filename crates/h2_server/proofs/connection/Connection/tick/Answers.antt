use Rattle.std.proofs.Common.{[], refl}
use Rattle.h2_server.proofs.ConnectionSteps.{own_makes, passed_over}
use Rattle.h2_server.proofs.connection.Connection.tick.Goals as goal

pub returns : goal.returns
returns g c = record {
  mid = c.note.new.self;
  calls = record {
    mid = c.pass.new.self;
    gone = [];
    makes = own_makes _ _ c.pass.ensures.makes;
    gives = refl;
    over = λ is. passed_over _ _ _ _ _ is c.pass.ensures.phase;
    made = λ is. c.pass.ensures.phase;
    refused = λ is. tt;
    idle = c.pass.ensures.idle;
    late = c.pass.ensures.late;
    stopped = tt;
    asks = c.pass.ensures.asks;
    sends = tt;
    readiness = c.pass.ensures.readiness;
    watch = c.pass.ensures.watch;
    notes = c.note.ensures.makes;
    noted = c.note.ensures.phase;
    code = c.note.ensures.code;
    up = c.note.ensures.server_up;
    told = λ was down. c.note.ensures.told (c.pass.ensures.told was) down;
    same = c.note.ensures.readiness;
    watched = c.note.ensures.watch;
    counted = c.note.ensures.counted;
  };
  expires = c.expire.ensures;
}
