use Rattle.hpack.proofs.Names.{arith}
use Rattle.hpack.proofs.FieldListLemmas.{length-fields_of}
use Rattle.hpack.proofs.types.field_list.FieldList.len.Goals as goal

pub returns : goal.returns
returns c =
    rw (← c.self.view_is) (omega (
      arith,
      c.len.ensures,
      length-fields_of c.self.inside.octets.items c.self.inside.places.items,
      c.self.inside.places.ok.0,
    ))
