use Rattle.std.proofs.Common.{◌∙◌, sym}
use Rattle.h2_spec_log.specs.declared.role.Role.TheVariants as roles
use Rattle.belkjoef.specs.Configs.{values_given}
use Rattle.hpack.proofs.Tests.{none_since}
use Rattle.belkjoef.proofs.MadeEnds.{made_new}
use Rattle.belkjoef.proofs.OnPlaces.{read_back}
use Rattle.belkjoef.proofs.making.bj_server_new.Goals as goal

pub returns-in-Some : goal.returns-in-Some
returns-in-Some c = made_new roles.Server (values_given c.args.config.now)
    c.make.new.end.held (read_back c.make.type_inv)
    (none_since c.args.end.now.held (sym c.is_held.ensures.value ∙ c.if-is_held.false))
    c.in-Ok.ensures.good c.in-Ok.ensures.values c.in-Some.ensures c.make.ensures
