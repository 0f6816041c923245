use Rattle.hpack.proofs.Names.{◌++◌, List, ap, sym, ◌∙◌, arith, append-nil, refl, Entry}
use Rattle.hpack.proofs.RingLemmas.{IsMoved, moved_oldest, no_oldest}
use Rattle.hpack.proofs.table.eviction.move_entries.Goals as goal
use Rattle.hpack.proofs.table.eviction.move_entries.Goals.{After-push_front}

pub loop-oldest-init : goal.loop-oldest-init
loop-oldest-init c = record {
  items = ap (λ (es : List Entry). c.args.from.now.items ++ es) c.requires.empty
      ∙ append-nil c.args.from.now.items;
  capacity = refl;
}

-- The oldest entry is moved.
moved : (c : After-push_front)
    → IsMoved c.loop-oldest.from c.loop-oldest.to c.pop_back.new.self c.push_front.new.self
    c.args.from.now.items
moved c =
    moved_oldest _ _ _ _ _ _ c.in-Some.oldest c.loop-oldest.invariant.items
    (omega (arith, c.requires.room, c.loop-oldest.invariant.capacity)) c.pop_back.ensures.value
    c.in-Some.is c.pop_back.ensures.items c.push_front.ensures.items

pub loop-oldest-smaller-in-Some : goal.loop-oldest-smaller-in-Some
loop-oldest-smaller-in-Some c =
    (moved (goal.at.loop-oldest-smaller-in-Some c).After-push_front).shorter

pub loop-oldest-preserved-in-Some : goal.loop-oldest-preserved-in-Some
loop-oldest-preserved-in-Some c =
    let is = moved (goal.at.loop-oldest-preserved-in-Some c).After-push_front in
    record { items = is.items; capacity = is.capacity ∙ c.loop-oldest.invariant.capacity }

pub loop-oldest-smaller : goal.loop-oldest-smaller
loop-oldest-smaller c = (moved (goal.at.loop-oldest-smaller c).After-push_front).shorter

pub loop-oldest-preserved : goal.loop-oldest-preserved
loop-oldest-preserved c =
    let is = moved (goal.at.loop-oldest-preserved c).After-push_front in
    record { items = is.items; capacity = is.capacity ∙ c.loop-oldest.invariant.capacity }

pub returns-clause-items : goal.returns-clause-items
returns-clause-items c =
    let empty = no_oldest c.loop-oldest.from.items c.pop_back.result c.pop_back.ensures.value
    c.in_default.is in
    sym (ap (λ (es : List Entry). es ++ c.loop-oldest.to.items) empty)
    ∙ c.loop-oldest.invariant.items

pub returns-clause-capacity : goal.returns-clause-capacity
returns-clause-capacity c = c.loop-oldest.invariant.capacity
