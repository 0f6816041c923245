-- The pairs are those of the role, with the greatest frame where it isn't the one that was sent
-- last.
use Rattle.h2_core.proofs.Names.{◌≡◌, ◌==◌, true, false, sym, ◌∙◌, changed_pairs, with_max_frame}
use Rattle.std.proofs.Common.{eq-eqb, ne_eqb}
use Rattle.h2_core.proofs.settings_frame.add_changed_settings.Goals as goal

pub returns-in-Client-true-clause-waiting : goal.returns-in-Client-true-clause-waiting
unfolding changed_pairs with_max_frame
returns-in-Client-true-clause-waiting c =
    let same : (c.args.config.max_frame == c.args.written) ≡ true =
    eq-eqb _ _ (sym c.max_frame-2.ensures ∙ c.in-Client-true.is-1) in
    rw (c.in-Client-true.is-0, same, ← c.table_limit.ensures, ← c.initial_window.ensures)
    c.add_settings.ensures.waiting

pub returns-in-Client-false-clause-waiting : goal.returns-in-Client-false-clause-waiting
unfolding changed_pairs with_max_frame
returns-in-Client-false-clause-waiting c =
    let other : (c.args.config.max_frame == c.args.written) ≡ false =
    ne_eqb _ _ (λ same. c.in-Client-false.is-1 (c.max_frame-2.ensures ∙ same)) in
    rw (
      c.in-Client-false.is-0,
      other,
      ← c.table_limit.ensures,
      ← c.initial_window.ensures,
      ← c.max_frame.ensures,
    ) c.add_settings-in-Client-false.ensures.waiting

pub returns-in-Server-true-clause-waiting : goal.returns-in-Server-true-clause-waiting
unfolding changed_pairs with_max_frame
returns-in-Server-true-clause-waiting c =
    let same : (c.args.config.max_frame == c.args.written) ≡ true =
    eq-eqb _ _ (sym c.max_frame-2.ensures ∙ c.in-Server-true.is-1) in
    rw (
      c.in-Server-true.is-0,
      same,
      ← c.table_limit.ensures,
      ← c.max_streams.ensures,
      ← c.initial_window.ensures,
    ) c.add_settings-in-Server-true.ensures.waiting

pub returns-in-Server-false-clause-waiting : goal.returns-in-Server-false-clause-waiting
unfolding changed_pairs with_max_frame
returns-in-Server-false-clause-waiting c =
    let other : (c.args.config.max_frame == c.args.written) ≡ false =
    ne_eqb _ _ (λ same. c.in-Server-false.is-1 (c.max_frame-2.ensures ∙ same)) in
    rw (
      c.in-Server-false.is-0,
      other,
      ← c.table_limit.ensures,
      ← c.max_streams.ensures,
      ← c.initial_window.ensures,
      ← c.max_frame.ensures,
    ) c.add_settings-in-Server-false.ensures.waiting
