use Rattle.std.proofs.Common.{sym, subst}
use Rattle.h2_spec_log.specs.Acts.{ChangeSettings}
use Rattle.h2_flow.specs.ConfigValues.{values_of}
use Rattle.belkjoef.specs.Calls.{ActsOnEnd}
use Rattle.belkjoef.specs.declared.held.Side.{Side}
use Rattle.belkjoef.specs.Helds.{end_in}
use Rattle.belkjoef.proofs.held.Held.change_settings.Goals as goal

pub returns-in-Client-clause-does : goal.returns-in-Client-clause-does
returns-in-Client-clause-does c =
    subst (λ (s : Side). ActsOnEnd (ChangeSettings (values_of c.args.config))
    (end_in s) c.change_settings.result
    c.change_settings.new.self.end) (sym c.in-Client.is) c.change_settings.ensures

pub returns-in-Server-clause-does : goal.returns-in-Server-clause-does
returns-in-Server-clause-does c =
    subst (λ (s : Side). ActsOnEnd (ChangeSettings (values_of c.args.config))
    (end_in s) c.change_settings-in-Server.result
    c.change_settings-in-Server.new.self.end)
    (sym c.in-Server.is) c.change_settings-in-Server.ensures
