-- A line without octets, or one with them.
use Rattle.h2_follow.proofs.Names.{◌∙◌, sym}
use Rattle.h2_follow.proofs.TextLemmas.{read_other, read_piece}
use Rattle.h2_follow.proofs.text.read_line.Goals as goal

pub returns-then-passes-clause-ok : goal.returns-then-passes-clause-ok
returns-then-passes-clause-ok c = λ lines pieces read.
    rw c.after.ensures (read_other c.args.part lines pieces c.args.line.now
    (sym c.passes.ensures ∙ c.if-passes.true) read)

pub returns : goal.returns
returns c = record {
  ok = λ lines pieces read. read_piece c.args.part lines pieces c.args.line.now
      c.node_of-node.result c.in_ok-octets.octets.items c.in_default.not-Last
      (sym c.passes.ensures ∙ c.if-passes.false)
      (sym c.starts_with.ensures.value ∙ c.if-starts_with.false) c.node_of-node.ensures c.in_ok-octets.ensures read;
  err = λ is. absurd (cc);
}
