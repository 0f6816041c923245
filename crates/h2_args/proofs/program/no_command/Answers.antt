use Rattle.h2_args.proofs.Names.{◌∙◌, ap, sym, IfErr, map, string_bytes, refl, rules, IfErr-weaker}
use Rattle.h2_args.proofs.Names.{App, HasKind, fault_of, is_simple_and_free, show_names, sides}
use Rattle.h2_args.proofs.Names.{program_faults}
use Rattle.h2_args.proofs.Names.{subst}
use Rattle.std.proofs.lemmas.Result.{err_from_is_err_and}
use Rattle.h2_args.proofs.program.no_command.Goals as goal

pub returns-clause-ok : goal.returns-clause-ok
returns-clause-ok c =
    let is = c.in_ok-command.ensures in
    let words = map string_bytes c.args.words.now in (
      is.0,
      is.1,
      is.2,
      is.3,
      ap (λ (a : App). fault_of a words) (sym is.4)
          ∙ c.in_ok-try_get_matches_from.ensures.kinds (ap is_simple_and_free is.4),
    )

pub returns-in_err-command-clause-err : goal.returns-in_err-command-clause-err
returns-in_err-command-clause-err c =
    let words = map string_bytes c.args.words.now in
    let fails : IfErr c.from_residual.result (HasKind (program_faults show_names sides words)) =
    search rules in
    IfErr-weaker c.from_residual.result _ _ (λ e h. (show_names, sides, (refl, refl), refl, h))
    fails

pub returns-in_err-try_get_matches_from-clause-err
    : goal.returns-in_err-try_get_matches_from-clause-err
returns-in_err-try_get_matches_from-clause-err c =
    let is = c.in_ok-command.ensures in
    let words = map string_bytes c.args.words.now in
    let error = c.in_err-try_get_matches_from.field-0.0 in
    let kinds = c.in_err-try_get_matches_from.ensures.kinds (ap is_simple_and_free is.4) in
    let faults : HasKind (program_faults is.0 is.1 words) error =
    subst (λ (a : App). HasKind (fault_of a words) error) is.4 kinds in
    let answer = err_from_is_err_and c.from_residual-in_err-try_get_matches_from.result
    c.from_residual-in_err-try_get_matches_from.ensures.1 in
    rw (answer.1, answer.2) (is.0, is.1, is.2, is.3, faults)
