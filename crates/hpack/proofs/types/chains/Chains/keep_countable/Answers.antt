use Rattle.hpack.proofs.Names.{◌^◌, arith}
use Rattle.hpack.proofs.ChainLemmas.{heads_lowered}
use Rattle.hpack.proofs.types.chains.Chains.keep_countable.Goals as goal

pub returns-then-self-clause-chains : goal.returns-then-self-clause-chains
returns-then-self-clause-chains c = λ bucket entries chains few. record {
  heads = heads_lowered bucket entries c.args.self.now.newest.items c.lower.new.newest.items
      c.args.self.now.pushed (2 ^ 31) c.lower.ensures.len (omega arith)
      (omega (arith, few, c.args.self.now.few_entries, c.if-self.true)) c.lower.ensures.lowered
      chains.heads;
  linked = chains.linked;
}
