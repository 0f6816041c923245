use Rattle.std.proofs.Common.{[], false, refl}
use Rattle.h2_server.proofs.ConnectionSteps.{own_makes, own_same}
use Rattle.h2_server.proofs.connection.Connection.written_none.Goals as goal

pub returns : goal.returns
returns g c = record {
  mid = record c.args.self.now {
    readiness = record c.args.self.now.readiness { writes = false };
  };
  gone = [];
  makes = own_makes _ _ (own_same _ _ refl refl refl (λ is. is));
  gives = refl;
  over = λ is. refl;
  made = λ is. refl;
  refused = λ is. tt;
  idle = tt;
  late = tt;
  stopped = tt;
  asks = tt;
  sends = tt;
  readiness = refl;
  watch = refl;
  notes = c.note.ensures.makes;
  noted = c.note.ensures.phase;
  code = c.note.ensures.code;
  up = c.note.ensures.server_up;
  told = c.note.ensures.told;
  same = c.note.ensures.readiness;
  watched = c.note.ensures.watch;
  counted = c.note.ensures.counted;
}
