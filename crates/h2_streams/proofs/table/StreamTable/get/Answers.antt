use Rattle.h2_streams.proofs.Names.{sym, refl, ◌∙◌}
use Rattle.h2_streams.proofs.KeptEntries.{get_kept, nothing_kept}
use Rattle.h2_streams.proofs.TableSteps.{reset_test}
use Rattle.h2_numbers.specs.Tables.{all_of}
use Rattle.h2_streams.proofs.table.StreamTable.get.Goals as goal

pub returns-in-None : goal.returns-in-None
returns-in-None c =
    let t = c.self.inside in
    let e = get_kept t.send_initial t.recv_initial c.args.id (all_of t.active) t.resets.keys in
    let reset = sym (reset_test c.args.id t.resets.keys) ∙ sym c.if-contains.ensures in
    rw (← c.self.view_is, e, reset) refl

pub returns-in-None-2 : goal.returns-in-None-2
returns-in-None-2 c =
    let t = c.self.inside in
    sym (rw (← c.self.view_is)
    (nothing_kept t.send_initial t.recv_initial c.args.id (all_of t.active) t.resets.keys
    (sym (reset_test c.args.id t.resets.keys) ∙ sym c.if-contains.ensures) (sym (rw (←
    c.self.view_is) at c.in-None-2.ensures))))
