use Rattle.hpack.proofs.Names.{refl, arith}
use Rattle.hpack.proofs.FieldListBuilderLemmas.{read_within_limit}
use Rattle.hpack.proofs.decode.field_list_builder.FieldListBuilder.add.Goals as goal

pub returns-clause-ok : goal.returns-clause-ok
returns-clause-ok c =
    let builder = c.args.self.now in
    let size =
    rw (c.deref.ensures.value, c.deref-2.ensures.value) at c.size_of_octets-size.ensures.size in
    read_within_limit builder _ c.args.read c.args.start c.size_of_octets-size.result
    c.unwrap_or-remaining.result c.len.result size c.unwrap_or-remaining.ensures
    c.if-size-remaining.false (omega arith)
    (omega (arith, c.len.ensures, builder.octets.ok.0)) refl c.in_ok-push.ensures.items refl
