use Rattle.std.proofs.Common.{◌≡◌, ◌∙◌, sym, ap}
use Rattle.std.specs.Prelude.{None}
use Rattle.h2_spec_log.specs.declared.role.Role.TheVariants as roles
use Rattle.belkjoef.specs.Configs.{values_given}
use Rattle.belkjoef.specs.declared.conn.BjConn.{BjConn}
use Rattle.belkjoef.proofs.MadeConns.{made_conn}
use Rattle.hpack.proofs.Tests.{none_since}
use Rattle.belkjoef.proofs.OnPlaces.{read_back}
use Rattle.belkjoef.proofs.conn.bj_conn_server.Goals as goal

pub returns-in-Ok-server : goal.returns-in-Ok-server
returns-in-Ok-server c =
    let none : c.args.conn.now.held ≡ None = none_since c.args.conn.now.held
    (sym c.is_held.ensures.value ∙ c.if-is_held.false) in
    made_conn roles.Server (values_given c.args.config.now) c.in-Ok-server.made c.make.new.place.held
    (read_back c.make.type_inv) none
    (ap (λ (place : BjConn). place.held) c.is_held.ensures.same ∙ none)
    c.in-Ok.ensures.good c.in-Ok.ensures.values c.in-Ok-server.ensures.ok c.make.ensures

pub make-requires : goal.make-requires
make-requires c =
    let none : c.args.conn.now.held ≡ None = none_since c.args.conn.now.held
    (sym c.is_held.ensures.value ∙ c.if-is_held.false) in
    ap (λ (place : BjConn). place.held) c.is_held.ensures.same ∙ none
