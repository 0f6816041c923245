use Rattle.hpack.proofs.Names.{◌≡◌, ℕ, ◌==◌, length, ap, ◌∙◌, arith, fields_of}
use Rattle.std.proofs.Common.{vec_len}
use Rattle.hpack.proofs.FieldListLemmas.{length-fields_of}
use Rattle.hpack.proofs.types.field_list.FieldList.is_empty.Goals as goal

pub returns : goal.returns
returns c =
    let inside = c.self.inside in
    let count : vec_len inside.places ≡ length (fields_of inside.octets.items inside.places.items) =
    omega (arith, length-fields_of inside.octets.items inside.places.items, inside.places.ok.0) in
    rw (← c.self.view_is) (c.is_empty.ensures ∙ ap (λ (n : ℕ). n == 0) count)
