-- There was nothing to return, the output was full, or a call was made for it.
use Rattle.std.proofs.Common.{◌∙◌, ◌-◌, ap, sym}
use Rattle.h2_laws_end.proofs.Names.{both_ways}
use Rattle.h2_server.specs.Credit.{unused_at}
use Rattle.h2_server.specs.Exchanges.{handling_of}
use Rattle.h2_server.proofs.CreditSteps.{full_on, kept_on, returned_on}
use Rattle.h2_server.proofs.exchanges.Exchanges.release_used.Goals as goal

pub returns-then-count-eq0-clause-returns : goal.returns-then-count-eq0-clause-returns
returns-then-count-eq0-clause-returns g c =
    let exchanges = c.args.self.now in
    kept_on (handling_of exchanges) c.args.id (unused_at c.args.id exchanges.kept.entries)
    c.owed-owed.result (λ values log is. c.owed-owed.ensures values log (rw (← c.conn.ensures) at is))
    (ap (λ n. c.owed-owed.result - n) (sym c.unused_on.ensures)
    ∙ sym c.saturating_sub-count.ensures ∙ c.if-count-eq0.true)

pub returns-then-is_full-clause-returns : goal.returns-then-is_full-clause-returns
returns-then-is_full-clause-returns g c =
    let exchanges = c.args.self.now in
    full_on (handling_of exchanges) c.args.id (unused_at c.args.id exchanges.kept.entries)
    (λ values log is. (c.is_full.ensures values log is).0 c.if-is_full.true)

pub returns-clause-returns : goal.returns-clause-returns
returns-clause-returns g c =
    let exchanges = c.args.self.now in
    returned_on (handling_of exchanges) c.args.id (unused_at c.args.id exchanges.kept.entries)
    c.owed-owed.result c.release-released.result c.unless_full.result
    (λ values log is. c.owed-owed.ensures values log (rw (← c.conn.ensures) at is))
    (λ values log is full.
    both_ways _ c.if-is_full.false ((c.is_full.ensures values log is).1 full))
    (rw (c.saturating_sub-count.ensures, c.unused_on.ensures) at c.release-released.ensures)
    c.unless_full.ensures
