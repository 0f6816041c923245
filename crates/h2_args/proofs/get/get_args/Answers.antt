-- The options of the matches are those that the words ask for.
use Rattle.h2_args.proofs.Names.{◌≡◌, ◌∙◌, refl, ap, Some, App, HasKind, fault_of, get_app}
use Rattle.h2_args.proofs.Names.{found_of, is_simple_and_free, map, rows_of, string_bytes, subst}
use Rattle.std.proofs.lemmas.Result.{IfErr-weaker, IfOk-weaker, err_from_is_err_and}
use Rattle.std.proofs.Common.{[], inl, inr}
use Rattle.clap.specs.Words.{Kinds}
use Rattle.clap.specs.declared.error.Error.{Error}
use Rattle.h2_args.specs.Words.{asked_by, get_faults, get_words_in, get_words_of}
use Rattle.h2_args.proofs.GivenLemmas.{given_by-Ok}
use Rattle.h2_args.proofs.get.get_args.Goals as goal

pub returns-clause-ok : goal.returns-clause-ok
returns-clause-ok c =
    let words = map string_bytes c.args.words.now in
    let read = get_words_in (rows_of (found_of c.in_ok-matches.matches)) in
    let given : get_words_of words ≡ Some read = given_by-Ok get_app get_words_in words
    c.in_ok-command.command c.in_ok-matches.matches c.in_ok-command.ensures refl refl
    c.in_ok-matches.ensures.matches c.in_ok-matches.ensures.kinds in
    IfOk-weaker c.options_of.result (λ options. read ≡ asked_by options)
    (λ options. get_words_of words ≡ Some (asked_by options)) (λ options is. given ∙ ap Some is)
    c.options_of.ensures.ok

-- that memory ran out is among all kinds
among : (kinds : Kinds) (error : Error) → HasKind [] error → HasKind kinds error
among kinds error (inl memory) = inl memory
among kinds error (inr none) = absurd none

pub returns-clause-err : goal.returns-clause-err
returns-clause-err c =
    IfErr-weaker c.options_of.result _ _ (among (get_faults (map string_bytes c.args.words.now)))
    c.options_of.ensures.err

pub returns-in_err-matches-clause-err : goal.returns-in_err-matches-clause-err
returns-in_err-matches-clause-err c =
    let words = map string_bytes c.args.words.now in
    let is = c.in_ok-command.ensures in
    let kinds = c.in_err-matches.ensures.kinds (ap is_simple_and_free is) in
    let faults : HasKind (get_faults words) c.in_err-matches.field-0.0 =
    subst (λ (a : App). HasKind (fault_of a words) c.in_err-matches.field-0.0) is kinds in
    let answer = err_from_is_err_and c.from_residual-in_err-matches.result
    c.from_residual-in_err-matches.ensures.1 in
    rw (answer.1, answer.2) faults
