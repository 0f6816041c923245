use Rattle.std.proofs.Common.{sym, ◌∙◌}
use Rattle.std.proofs.lemmas.Bool.{eqb-true}
use Rattle.h2_host.proofs.Places.{is_now_read, is_not_now, none_now, slot_lent}
use Rattle.h2_host.proofs.table.Table.is_now.Goals as goal

pub returns-then-slot-token : goal.returns-then-slot-token
returns-then-slot-token g c =
    let both = is_now_read c.args.self.now.slots.items c.args.token c.in-Some.slot.now
    (slot_lent c.args.self.now.slots.items c.deref.result.now c.args.token.place
    c.in-Some.slot.now c.deref.ensures.value c.in-Some.ensures.lookup.3) c.if-slot-token.true in
    ((λ some. both.0 (sym c.is_some.ensures ∙ some)), (λ now. c.is_some.ensures ∙ both.1 now))

pub returns-else-slot-token : goal.returns-else-slot-token
returns-else-slot-token g c = (
  (λ same. absurd (c.if-slot-token.false (eqb-true _ _ same))),
  (λ now. absurd (is_not_now c.args.self.now.slots.items c.args.token c.in-Some.slot.now
      (slot_lent c.args.self.now.slots.items c.deref.result.now c.args.token.place
      c.in-Some.slot.now c.deref.ensures.value c.in-Some.ensures.lookup.3)
      c.if-slot-token.false now)),
)

pub returns-in-None : goal.returns-in-None
returns-in-None g c = (
  (λ no. cc),
  (λ now. absurd (none_now c.args.self.now.slots.items c.deref.result.now c.args.token
      c.deref.ensures.value c.in-None.ensures.lookup.0 now)),
)
