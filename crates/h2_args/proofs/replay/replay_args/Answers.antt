use Rattle.h2_args.proofs.Names.{◌∙◌, IfErr, map, string_bytes, refl, ap, sym, rules, Some}
use Rattle.h2_args.proofs.Names.{IfErr-weaker, HasKind, replay_app, sides, replay_faults}
use Rattle.h2_args.specs.Words.{replay_options_in}
use Rattle.h2_args.proofs.GivenLemmas.{given_by-Ok}
use Rattle.h2_args.proofs.replay.replay_args.Goals as goal

pub returns-clause-ok : goal.returns-clause-ok
returns-clause-ok c =
    let is = c.in_ok-command.ensures in (
      is.0,
      is.1,
      given_by-Ok (replay_app is.0) replay_options_in _ c.in_ok-command.command
          c.in_ok-matches.matches is.2 refl refl c.in_ok-matches.ensures.matches
          c.in_ok-matches.ensures.kinds ∙ ap Some (sym c.options_of.ensures),
    )

pub returns-in_err-command-clause-err : goal.returns-in_err-command-clause-err
returns-in_err-command-clause-err c =
    let words = map string_bytes c.args.words.now in
    let fails : IfErr c.from_residual.result (HasKind (replay_faults sides words)) = search rules in
    IfErr-weaker c.from_residual.result _ _ (λ e h. (sides, refl, h)) fails

pub returns-in_err-matches-clause-err : goal.returns-in_err-matches-clause-err
returns-in_err-matches-clause-err c =
    let is = c.in_ok-command.ensures in
    let words = map string_bytes c.args.words.now in
    let fails : IfErr c.from_residual-in_err-matches.result (HasKind (replay_faults is.0 words)) =
    search rules in
    IfErr-weaker c.from_residual-in_err-matches.result _ _ (λ e h. (is.0, is.1, h)) fails
