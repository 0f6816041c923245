use Rattle.std.proofs.Common.{length, rules, subst, sym, ◌≡◌, ◌+◌, ◌<◌}
use Rattle.h2_host.specs.Moves.{IsGreatestBelow}
use Rattle.h2_host.proofs.Greatest.{greatest_begins, greatest_kept, greatest_named, greatest_on}
use Rattle.h2_host.proofs.state.HostState.greatest_holder.Goals as goal
use Rattle.h2_host.proofs.state.HostState.greatest_holder.Goals.{else-held-most, then-held-most}

pub loop-place-init : goal.loop-place-init
loop-place-init g c = greatest_begins g.P.Party.held_of c.args.self.now.table.slots.items

pub loop-place-preserved : goal.loop-place-preserved
loop-place-preserved g c =
    let held = g.P.Party.held_of in
    let slots = c.args.self.now.table.slots.items in
    let place = c.loop-place.place in
    let within : place < length slots = search rules in
    elim c.if-held-most.branch [
      | then-held-most w ↦
          subst (λ n. IsGreatestBelow held slots (place + 1) c.if-held-most.greatest n)
          (sym w.most-is)
          (subst (λ n. IsGreatestBelow held slots (place + 1) n c.held_at-held.result)
          (sym w.greatest-is)
          (greatest_on held slots place c.loop-place.greatest c.loop-place.most
          c.held_at-held.result c.loop-place.invariant c.held_at-held.ensures within
          w.if-held-most.true))
      | else-held-most w ↦
          subst (λ n. IsGreatestBelow held slots (place + 1) c.if-held-most.greatest n)
          (sym w.most-is)
          (subst (λ n. IsGreatestBelow held slots (place + 1) n c.loop-place.most)
          (sym w.greatest-is)
          (greatest_kept held slots place c.loop-place.greatest c.loop-place.most
          c.held_at-held.result c.loop-place.invariant c.held_at-held.ensures
          w.if-held-most.false))
    ]

pub returns : goal.returns
returns g c =
    let held = g.P.Party.held_of in
    let slots = c.args.self.now.table.slots.items in
    let at_end : c.loop-place.place ≡ length slots = search rules in
    greatest_named held slots c.loop-place.greatest c.loop-place.most c.token_at.result
    (subst (λ n. IsGreatestBelow held slots n c.loop-place.greatest c.loop-place.most) at_end
    c.loop-place.invariant) (subst (λ n. 0 < n) c.requires.steady.sum c.requires.some)
    c.token_at.ensures
