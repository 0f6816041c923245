use Rattle.hpack.proofs.Names.{◌∙◌, arith}
use Rattle.hpack.proofs.LookupLemmas.{entry-static, entry-dynamic, entry-zero, entry-no_static}
use Rattle.hpack.proofs.LookupLemmas.{entry-no_dynamic, option_weaker}
use Rattle.hpack.proofs.table.lookup.joined_at.Goals as goal

pub returns-then-index-eq0 : goal.returns-then-index-eq0
returns-then-index-eq0 c = rw c.if-index-eq0.true (entry-zero c.args.table.now.entries)

pub returns-then-index-le-STATIC_COUNT : goal.returns-then-index-le-STATIC_COUNT
returns-then-index-le-STATIC_COUNT c =
    option_weaker c.static_joined.result
    (entry-no_static c.args.table.now.entries c.args.index c.if-index-le-STATIC_COUNT.true)
    (λ found e. (
      e.0,
      entry-static c.args.table.now.entries c.args.index (omega arith)
          c.if-index-le-STATIC_COUNT.true ∙ e.1,
    )) c.static_joined.ensures

pub returns : goal.returns
returns c =
    option_weaker c.joined.result (entry-no_dynamic c.args.table.now.entries c.args.index
    c.if-index-le-STATIC_COUNT.false)
    (λ found e. (
      e.1,
      entry-dynamic c.args.table.now.entries c.args.index
          c.if-index-le-STATIC_COUNT.false ∙ e.2,
    )) c.joined.ensures
