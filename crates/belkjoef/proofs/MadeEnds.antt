-- A new end in its place.
use Rattle.std.proofs.Common.{◌≡◌, sym, subst, ℤ}
use Rattle.std.specs.Prelude.{Option, None, Some}
use Rattle.h2_spec_log.specs.Acts.{Values}
use Rattle.h2_spec_log.specs.declared.role.Role.{Role}
use Rattle.h2_flow.specs.declared.config.BadConfig.{BadConfig}
use Rattle.h2_flow.specs.Configs.{first_bad}
use Rattle.belkjoef.specs.declared.held.Held.{Held}
use Rattle.belkjoef.specs.declared.held.Side.{Side}
use Rattle.belkjoef.specs.Making.{HoldsNew, IsNewSide, MakesEnd, MakesWithin, PutsNew}

-- A new side that was put there.
put_new : (role : Role) (values : Values) {side : Side} → IsNewSide role values side
    → (answer : ℤ) (new : Option Held) → PutsNew side answer new → HoldsNew role values answer new
put_new role values is answer None put = put
put_new role values is answer (Some made) put =
    (put.0, subst (λ (s : Side). IsNewSide role values s) (sym put.1) is, put.2)

-- It is made, where no value is out of its bounds and the place holds none.
pub made_new : (role : Role) (given : Values) {values : Values} {side : Side} {old : Option Held}
    (new : Option Held) {told answer : ℤ} → told ≡ answer → old ≡ None → first_bad given ≡ None
    → values ≡ given → IsNewSide role values side → PutsNew side answer new
    → MakesEnd role given told old new
made_new role given {side = side} new {told = told} same none good are is put =
    subst (λ (o : Option Held). MakesEnd role given told o new) (sym none)
    (subst (λ (b : Option BadConfig). MakesWithin b role given told new) (sym good)
    (put_new role given (subst (λ (v : Values). IsNewSide role v side) are is) told new
    (subst (λ (z : ℤ). PutsNew side z new) (sym same) put)))
