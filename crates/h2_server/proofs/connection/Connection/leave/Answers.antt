use Rattle.h2_server.proofs.ConnectionSteps.{own_counted}
use Rattle.h2_server.proofs.Changed.{counted_away, told_counted}
use Rattle.h2_server.proofs.FailingCodes.{up_counted}
use Rattle.h2_server.proofs.connection.Connection.leave.Goals as goal

pub returns : goal.returns
returns g c =
    let same = c.count.ensures.rest in record {
      makes = own_counted c.args.self.now c.go_away.new.self c.count.new.self
          same c.go_away.ensures.makes;
      goes_away = counted_away c.args.self.now c.go_away.new.self c.count.new.self
          same c.go_away.ensures.goes_away;
      kept = rw same c.go_away.ensures.kept;
      rest = λ closed. rw (c.go_away.ensures.rest closed) at c.count.ensures.rest;
      told = told_counted c.args.self.now c.go_away.new.self c.count.new.self
          same c.go_away.ensures.told;
      phase = rw same c.go_away.ensures.phase;
      up = λ values end is was.
          up_counted c.go_away.new.self c.count.new.self same
          (c.go_away.ensures.up values end is was);
      readiness = rw same c.go_away.ensures.readiness;
      watch = rw same c.go_away.ensures.watch;
      counted = c.count.ensures.counted;
    }
