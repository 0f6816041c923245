use Rattle.std.proofs.Common.{◌∙◌, ◌+◌, ◌-◌, ◌^◌, ℕ, ap, min}
use Rattle.h2_server.specs.declared.watch.Watch.{Watch}
use Rattle.h2_server.proofs.Changed.{own_watched_after}
use Rattle.h2_server.proofs.TurnsMade.{wrote_watched}
use Rattle.h2_server.proofs.connection.Connection.take_away.Goals as goal

pub returns-clause-makes : goal.returns-clause-makes
returns-clause-makes g c =
    let watch = c.args.self.now.watch in
    let (gone, makes, gives, size) = c.remove-gone.ensures.makes in (
      gone,
      own_watched_after c.args.self.now c.remove-gone.new.self c.count.new.self makes,
      gives,
      c.count.ensures
          ∙ ap (λ (w : Watch). record w {
            went = min (2 ^ 64 - 1) (w.went + c.remove-gone.result);
          }) c.remove-gone.ensures.watch
          ∙ ap (λ (n : ℕ). record watch { went = min (2 ^ 64 - 1) (watch.went + n) }) size,
    )

pub returns-clause-wrote : goal.returns-clause-wrote
returns-clause-wrote g c =
    wrote_watched c.args.count c.args.self.now c.remove-gone.new.self c.count.new.self
    c.remove-gone.ensures.wrote
