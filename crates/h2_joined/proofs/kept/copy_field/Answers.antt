-- The octets that were copied are those of slices.
use Rattle.h2_joined.proofs.Names.{[], ◌∷◌, Result, Ok, Err, AllByRecursion, AreOctets, Field, ◌≡◌}
use Rattle.h2_joined.proofs.Names.{ℕ, Bool, List, IfOk, all_octets}
use Rattle.hpack_text.specs.Bits.{IsOctet}
use Rattle.h2_joined.proofs.kept.copy_field.Goals as goal

field_octets : {E : Type 0} (result : Result Field E) (name value : List ℕ) (sensitive : Bool)
    → AllByRecursion IsOctet name → AllByRecursion IsOctet value
    → IfOk result (λ field. field ≡ record { name = name; value = value; sensitive = sensitive })
    → IfOk result (λ field. AreOctets (field ∷ []))
field_octets (Ok field) name value sensitive names values same = rw same ((names, values), tt)
field_octets (Err error) name value sensitive names values same = tt

pub returns-clause-octets : goal.returns-clause-octets
returns-clause-octets c =
    field_octets c.copy_of.result c.args.name.now c.args.value.now c.args.sensitive
    (all_octets c.args.name.now c.type_inv.name) (all_octets c.args.value.now c.type_inv.value)
    c.copy_of.ensures
