-- A new connection in its place.
use Rattle.std.proofs.Common.{◌≡◌, sym, subst, ℤ}
use Rattle.std.specs.Prelude.{Option, None, Some}
use Rattle.h2_spec_log.specs.Acts.{Values}
use Rattle.h2_spec_log.specs.LogCalls.{opened}
use Rattle.h2_spec_log.specs.declared.role.Role.{Role}
use Rattle.h2_flow.specs.declared.config.BadConfig.{BadConfig}
use Rattle.h2_flow.specs.Configs.{first_bad}
use Rattle.h2_conn.specs.declared.conn.Conn.{Conn}
use Rattle.h2_conn.specs.Conn.{ConnRepresents}
use Rattle.belkjoef.specs.declared.conn.HeldConn.{HeldConn}
use Rattle.belkjoef.specs.Conns.{MakesConn, MakesConnWithin}
use Rattle.belkjoef.specs.Making.{MakesHeld}

-- A connection that was put there is a new one.
put_conn : (role : Role) (values : Values) (conn : Conn)
    → ConnRepresents values conn (opened role values) → (answer : ℤ) (new : Option HeldConn)
    → MakesHeld (λ held. held.conn ≡ conn) answer None new
    → MakesConnWithin None role values answer new
put_conn role values conn is answer None put = put
put_conn role values conn is answer (Some made) put =
    (put.0, subst (λ (c : Conn). ConnRepresents values c (opened role values)) (sym put.1) is)

-- It is made, where no value is out of its bounds and the place holds none.
pub made_conn : (role : Role) (given : Values) {values : Values} (conn : Conn)
    {old seen : Option HeldConn} (new : Option HeldConn) {told answer : ℤ} → told ≡ answer
    → old ≡ None → seen ≡ None → first_bad given ≡ None → values ≡ given
    → ConnRepresents values conn (opened role values)
    → MakesHeld (λ held. held.conn ≡ conn) answer seen new → MakesConn role given told old new
made_conn role given conn {seen = seen} new {told = told} {answer = answer} same none so good are is
    put =
    subst (λ (o : Option HeldConn). MakesConn role given told o new) (sym none)
    (subst (λ (b : Option BadConfig). MakesConnWithin b role given told new) (sym good)
    (put_conn role given conn
    (subst (λ (v : Values). ConnRepresents v conn (opened role v)) are is)
    told new (subst (λ (z : ℤ). MakesHeld (λ held. held.conn ≡ conn) z None new) (sym same)
    (subst (λ (o : Option HeldConn). MakesHeld (λ held. held.conn ≡ conn) answer o new) so put))))
