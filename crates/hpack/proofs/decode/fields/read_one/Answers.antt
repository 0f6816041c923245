use Rattle.hpack.proofs.Names.{List, ℕ, length, ap, refl, length-append, arith, ◌++◌, IfOk-weaker}
use Rattle.hpack.proofs.FieldListBuilderLemmas.{too_large_stays}
use Rattle.hpack.proofs.decode.fields.read_one.Goals as goal

pub returns-then-is_too_large-clause-ok : goal.returns-then-is_too_large-clause-ok
returns-then-is_too_large-clause-ok c =
    IfOk-weaker c.skip_at.result _ _ (λ count h. (
      h.0,
      h.1,
      h.2,
      too_large_stays c.args.builder.now _ h.0
          (c.is_too_large.ensures.0 c.if-is_too_large.true) refl refl,
    )) c.skip_at.ensures.ok

pub add-requires : goal.add-requires
add-requires c =
    let read = c.in_ok-read.ensures.ok in
    let field = read.0 in
    omega (
      arith,
      ap (λ (xs : List ℕ). length xs) read.1.joined,
      length-append c.args.builder.now.octets.items (field.name ++ field.value),
      length-append field.name field.value,
      read.1.named,
      c.len-start.ensures,
      c.args.builder.now.octets.ok.0,
      c.field_at.new.out.ok.0,
    )

pub returns-clause-ok : goal.returns-clause-ok
returns-clause-ok c =
    let read = c.in_ok-read.ensures.ok in (
      read.0,
      read.2,
      read.3,
      c.in_ok-add.ensures.ok c.args.builder.now read.0 (read.1, refl, refl)
          (omega (arith, c.len-start.ensures, c.args.builder.now.octets.ok.0)),
    )
