use Rattle.std.proofs.Common.{rules, refl, sym, subst, Some, ◌≡◌}
use Rattle.h2_host.specs.Tokens.{slot_at}
use Rattle.h2_host.proofs.Places.{slot_lent}
use Rattle.h2_host.proofs.state.HostState.token_at.Goals as goal

pub returns-in-Some : goal.returns-in-Some
returns-in-Some g c =
    let same : c.args.place ≡ c.in_ok-number.number = search rules in (
      (
        c.in-Some.field-0,
        record {
          slot = c.in_ok-slot.slot.now;
          at = subst (λ place. slot_at c.args.self.now.table.slots.items place
              ≡ Some c.in_ok-slot.slot.now) same
              (slot_lent c.args.self.now.table.slots.items c.deref.result.now c.args.place
              c.in_ok-slot.slot.now c.deref.ensures.value c.in_ok-slot.ensures.lookup.3);
          generation = refl;
          taken = c.in-Some.is;
        },
      ),
      sym same,
    )
