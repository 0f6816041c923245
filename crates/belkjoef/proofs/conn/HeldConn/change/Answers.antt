use Rattle.std.proofs.Common.{◌∙◌, subst}
use Rattle.h2_spec_log.specs.Acts.{Values, ChangeSettings}
use Rattle.belkjoef.specs.Conns.{ActsOnConn}
use Rattle.belkjoef.proofs.Bounds.{within_bounds}
use Rattle.belkjoef.proofs.OnPlaces.{read_back}
use Rattle.belkjoef.proofs.conn.HeldConn.change.Goals as goal

pub returns-in-Ok : goal.returns-in-Ok
returns-in-Ok c = within_bounds _ _ _ _ c.in-Ok.ensures.good record {
  outcome = c.change_settings.result;
  told = read_back c.of_answer.type_inv ∙ c.of_answer.ensures;
  does = subst (λ (values : Values). ActsOnConn (ChangeSettings values) c.args.self.now.conn
      c.change_settings.result c.change_settings.new.self)
      c.in-Ok.ensures.values c.change_settings.ensures;
}
