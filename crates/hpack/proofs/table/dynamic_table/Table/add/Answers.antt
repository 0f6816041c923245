use Rattle.hpack.proofs.Names.{◌≡◌, ℕ, ◌-◌, ap, ◌∙◌, arith, Buffer, Entry, entry_size, table_size}
use Rattle.hpack.proofs.Names.{fit, Entries}
use Rattle.hpack.proofs.SizeLemmas.{table_size-cons, fit-none, added}
use Rattle.hpack.proofs.RingLemmas.{one_more_fits, pushed_newest}
use Rattle.hpack.proofs.table.dynamic_table.Table.add.Goals as goal

pub returns-then-size-maximum : goal.returns-then-size-maximum
returns-then-size-maximum c =
    let maximum : c.self.inside.maximum ≡ c.args.self.now.maximum =
    ap (λ (table : Entries). table.maximum) c.self.view_is in
    rw (fit-none c.args.entry c.args.self.now.entries c.args.self.now.maximum
    (omega (arith, maximum, c.size_of-size.ensures, c.if-size-maximum.true))) c.clear.ensures

pub invariant_of-self : goal.invariant_of-self
invariant_of-self c =
    let exact : c.size_of-size.result ≡ entry_size c.args.entry =
    omega (arith, c.size_of-size.ensures, c.if-size-maximum.false) in
    let capacity = c.evict.ensures.capacity ∙ c.self.invariant.capacity in
    let room = one_more_fits c.evict.new.ring.items c.self.inside.maximum c.size_of-size.result
    c.evict.new.ring.capacity (omega (arith, c.evict.ensures.size, c.evict.ensures.within))
    (omega (arith, exact)) c.if-size-maximum.false capacity in
    let items = pushed_newest c.evict.new.ring c.push_front.new.self c.args.entry room
    c.push_front.ensures.items in
    record {
      counted = omega (
        arith,
        exact,
        c.evict.ensures.size,
        ap table_size items
            ∙ table_size-cons c.args.entry c.evict.new.ring.items,
      );
      within = omega (arith, c.evict.ensures.within, c.if-size-maximum.false);
      capacity = ap (λ (b : Buffer Entry). b.capacity) c.push_front.ensures.items ∙ capacity;
    }

pub returns : goal.returns
returns c =
    let exact : c.size_of-size.result ≡ entry_size c.args.entry =
    omega (arith, c.size_of-size.ensures, c.if-size-maximum.false) in
    let capacity = c.evict.ensures.capacity ∙ c.self.invariant.capacity in
    let room = one_more_fits c.evict.new.ring.items c.self.inside.maximum c.size_of-size.result
    c.evict.new.ring.capacity (omega (arith, c.evict.ensures.size, c.evict.ensures.within))
    (omega (arith, exact)) c.if-size-maximum.false capacity in
    let items = pushed_newest c.evict.new.ring c.push_front.new.self c.args.entry room
    c.push_front.ensures.items in
    rw (← c.self.view_is) (added c.self.inside.ring.items c.push_front.new.self.items
    c.evict.new.ring.items c.args.entry c.self.inside.maximum
    (omega (arith, exact, c.if-size-maximum.false)) (c.evict.ensures.fitting
    ∙ ap (λ (n : ℕ). fit c.self.inside.ring.items (c.self.inside.maximum - n)) exact) items)
