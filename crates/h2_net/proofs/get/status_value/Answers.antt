-- The first field that has the name.
use Rattle.std.proofs.Common.{◌≡◌, true, false, length, refl, sym, ◌∙◌, codes, arith}
use Rattle.std.proofs.lemmas.Option.{slice_get_read}
use Rattle.std.specs.Str.{bytes_eq}
use Rattle.h2_net.proofs.FieldValues.{value_left, value_none}
use Rattle.h2_net.proofs.get.status_value.Goals as goal

pub returns-then-eq : goal.returns-then-eq
returns-then-eq c =
    let equal : bytes_eq c.as_slice.result.now c.as_slice-in-loop-field.result.now ≡ true =
    sym c.if-eq.ensures in
    let named = rw c.as_slice-in-loop-field.ensures at equal in
    let same = rw c.as_slice.ensures at named in
    c.as_slice-then-eq.ensures
    ∙ sym (value_left (codes ":status") c.args.head.now c.loop-field.field-index
    c.field-item.result (slice_get_read c.args.head.now (length c.args.head.now)
    c.loop-field.field-index c.field-item.result refl (omega arith) c.field-item.is) same)
    ∙ c.loop-field.invariant

pub loop-field-preserved : goal.loop-field-preserved
loop-field-preserved c =
    let equal : bytes_eq c.as_slice.result.now c.as_slice-in-loop-field.result.now ≡ false =
    sym c.if-eq.ensures in
    let named = rw c.as_slice-in-loop-field.ensures at equal in
    let other = rw c.as_slice.ensures at named in
    sym (value_left (codes ":status") c.args.head.now c.loop-field.field-index
    c.field-item.result (slice_get_read c.args.head.now (length c.args.head.now)
    c.loop-field.field-index c.field-item.result refl (omega arith) c.field-item.is) other)
    ∙ c.loop-field.invariant

pub returns : goal.returns
returns c =
    sym (value_none (codes ":status") c.args.head.now c.loop-field.field-index (omega arith))
    ∙ c.loop-field.invariant
