-- The pairs are those of the role, with the greatest frame where it isn't 16,384.
use Rattle.h2_core.proofs.Names.{◌≡◌, ◌==◌, true, false, sym, ◌∙◌, with_max_frame}
use Rattle.h2_spec_log.specs.CallRules.{opening_pairs}
use Rattle.std.proofs.Common.{eq-eqb, ne_eqb}
use Rattle.h2_core.proofs.settings_frame.add_opening_settings.Goals.{in-Client, in-Server}
use Rattle.h2_core.proofs.settings_frame.add_opening_settings.Goals as goal

pub returns-then-max_frame-eq-LEAST_MAX_FRAME-clause-waiting :
    goal.returns-then-max_frame-eq-LEAST_MAX_FRAME-clause-waiting
unfolding opening_pairs with_max_frame
returns-then-max_frame-eq-LEAST_MAX_FRAME-clause-waiting c =
    let same : (c.args.config.max_frame == 16384) ≡ true =
    eq-eqb _ _ (sym c.max_frame-2.ensures ∙ c.if-max_frame-eq-LEAST_MAX_FRAME.true) in
    elim c.match-role.branch [
      | in-Client w ↦
          rw (
            w.in-Client.is,
            same,
            ← w.second-is,
            ← c.table_limit.ensures,
            ← c.initial_window.ensures,
          ) c.add_settings.ensures.waiting
      | in-Server w ↦
          rw (
            w.in-Server.is,
            same,
            ← w.max_streams.ensures,
            ← w.second-is,
            ← c.table_limit.ensures,
            ← c.initial_window.ensures,
          ) c.add_settings.ensures.waiting
    ]

pub returns-else-max_frame-eq-LEAST_MAX_FRAME-clause-waiting :
    goal.returns-else-max_frame-eq-LEAST_MAX_FRAME-clause-waiting
unfolding opening_pairs with_max_frame
returns-else-max_frame-eq-LEAST_MAX_FRAME-clause-waiting c =
    let other : (c.args.config.max_frame == 16384) ≡ false =
    ne_eqb _ _ (λ same. c.if-max_frame-eq-LEAST_MAX_FRAME.false (c.max_frame-2.ensures ∙ same)) in
    elim c.match-role.branch [
      | in-Client w ↦
          rw (
            w.in-Client.is,
            other,
            ← w.second-is,
            ← c.table_limit.ensures,
            ← c.initial_window.ensures,
            ← c.max_frame.ensures,
          ) c.add_settings-else-max_frame-eq-LEAST_MAX_FRAME.ensures.waiting
      | in-Server w ↦
          rw (
            w.in-Server.is,
            other,
            ← w.max_streams.ensures,
            ← w.second-is,
            ← c.table_limit.ensures,
            ← c.initial_window.ensures,
            ← c.max_frame.ensures,
          ) c.add_settings-else-max_frame-eq-LEAST_MAX_FRAME.ensures.waiting
    ]
