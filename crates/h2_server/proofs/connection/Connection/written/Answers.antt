use Rattle.h2_server.proofs.ConnectionSteps.{own_makes, refused_over}
use Rattle.h2_server.proofs.TurnsMade.{noted_up, wrote_noted}
use Rattle.h2_server.proofs.connection.Connection.written.Goals as goal

pub returns-clause-calls : goal.returns-clause-calls
returns-clause-calls g c = let (gone, makes, gives, watch) = c.take_away.ensures.makes in record {
  mid = c.take_away.new.self;
  gone = gone;
  makes = own_makes _ _ makes;
  gives = gives;
  over = λ is. refused_over _ _ is c.take_away.ensures.phase;
  made = λ is. (c.take_away.ensures.phase, c.take_away.ensures.stays);
  refused = λ is. tt;
  idle = tt;
  late = tt;
  stopped = tt;
  asks = tt;
  sends = tt;
  readiness = c.take_away.ensures.readiness;
  watch = watch;
  notes = c.note.ensures.makes;
  noted = c.note.ensures.phase;
  code = c.note.ensures.code;
  up = c.note.ensures.server_up;
  told = λ was down. c.note.ensures.told (c.take_away.ensures.told was) down;
  same = c.note.ensures.readiness;
  watched = c.note.ensures.watch;
  counted = c.note.ensures.counted;
}

pub returns-clause-wrote : goal.returns-clause-wrote
returns-clause-wrote g c =
    wrote_noted c.args.count c.args.self.now c.take_away.new.self c.note.new.self
    c.take_away.ensures.wrote c.note.ensures.makes c.note.ensures.phase c.note.ensures.down
    c.take_away.ensures.phase

pub returns-clause-up : goal.returns-clause-up
returns-clause-up g c =
    noted_up c.args.count c.args.self.now c.take_away.new.self c.note.new.self
    c.take_away.ensures.up c.note.ensures.up c.note.ensures.phase
