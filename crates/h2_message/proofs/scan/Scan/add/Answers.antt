use Rattle.h2_message.proofs.Names.{refl, sym, ◌∙◌}
use Rattle.h2_message.proofs.ScanAdds.{colon-from, pseudo-added, regular-added}
use Rattle.h2_message.proofs.scan.Scan.add.Goals as goal

pub returns-then-eq : goal.returns-then-eq
returns-then-eq c fields sensitive scan =
    pseudo-added c.args.kind fields c.args.name.now c.args.value.now sensitive c.args.self.now
    c.add_pseudo-known.new.self c.is_bad_unless_known.result c.is_bad_value.result scan
    (c.is_bad_unless_known.ensures c.add_pseudo-known.ensures.known) c.is_bad_value.ensures
    (sym (colon-from c.args.name.now c.first.result _ c.eq.result c.eq.ensures refl
    c.first.ensures.value) ∙ c.if-eq.true)
    (c.add_pseudo-known.ensures.seen fields sensitive) c.add_pseudo-known.ensures.of_all
    c.add_pseudo-known.ensures.of_regular

pub returns-else-eq : goal.returns-else-eq
returns-else-eq c fields sensitive scan =
    let regular = sym (colon-from c.args.name.now c.first.result _ c.eq.result c.eq.ensures refl
    c.first.ensures.value) ∙ c.if-eq.false in
    regular-added c.args.kind fields c.args.name.now c.args.value.now sensitive c.args.self.now
    c.add_regular.new.self c.is_bad_regular_name.result c.is_bad_value.result scan
    (c.is_bad_regular_name.ensures regular) c.is_bad_value.ensures regular
    (c.add_regular.ensures.seen fields sensitive) c.add_regular.ensures.of_all
    c.add_regular.ensures.of_pseudo
