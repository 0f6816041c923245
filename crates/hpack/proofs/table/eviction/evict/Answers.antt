use Rattle.hpack.proofs.Names.{◌∙◌, sym, ap, arith, Buffer, Entry, table_size}
use Rattle.hpack.proofs.SizeLemmas.{popped, fit-all, table_size-push}
use Rattle.hpack.proofs.RingLemmas.{popped_oldest}
use Rattle.hpack.proofs.table.eviction.evict.Goals as goal

pub overflow_sub-remaining : goal.overflow_sub-remaining
overflow_sub-remaining c =
    let split = popped_oldest c.loop-remaining.ring c.pop_back.new.self c.pop_back.result
    c.in-Some.oldest c.pop_back.ensures.value c.in-Some.is c.pop_back.ensures.items in
    omega (
      arith,
      c.size_of-remaining.ensures,
      c.loop-remaining.invariant.counted,
      ap table_size split,
      table_size-push c.pop_back.new.self.items c.in-Some.oldest,
    )

pub loop-remaining-preserved : goal.loop-remaining-preserved
loop-remaining-preserved c =
    let split = popped_oldest c.loop-remaining.ring c.pop_back.new.self c.pop_back.result
    c.in-Some.oldest c.pop_back.ensures.value c.in-Some.is c.pop_back.ensures.items in
    let step = popped c.loop-remaining.remaining c.args.bound c.loop-remaining.ring.items
    c.pop_back.new.self.items c.in-Some.oldest c.loop-remaining.invariant.counted
    c.loop-remaining-test.true (omega arith) split in
    record {
      counted = omega (arith, step.counted, c.size_of-remaining.ensures);
      fitting = step.fitting ∙ c.loop-remaining.invariant.fitting;
      capacity = ap (λ (b : Buffer Entry). b.capacity) c.pop_back.ensures.items
          ∙ c.loop-remaining.invariant.capacity;
    }

pub returns-clause-fitting : goal.returns-clause-fitting
returns-clause-fitting c =
    sym (fit-all c.loop-remaining.ring.items c.args.bound (omega arith))
    ∙ c.loop-remaining.invariant.fitting
