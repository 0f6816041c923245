-- A word that is refused is one of the words.
use Rattle.std.proofs.Common.{◌≡◌, ◌∙◌, ◌<◌, ℕ, List, map, length, get_or, ap, sym, subst, arith}
use Rattle.std.specs.Borrow.{Bor}
use Rattle.std.proofs.lemmas.List.{get_or-map, length-map}
use Rattle.std.proofs.lemmas.List.Folds.{list_all_at}
use Rattle.std.proofs.lemmas.Result.{err_from_is_err_and}
use Rattle.h2_get.specs.declared.request.RequestFault.{RequestFault}
use Rattle.h2_get.specs.declared.request.RequestFault.TheVariants as faults
use Rattle.h2_get.specs.Requests.{AreRefusedWords, IsRefusedWord, has_colon}
use Rattle.h2_get.proofs.request.add_fields.Goals as goal

refused_words : (words : List (Bor (List ℕ))) (place : ℕ) (other : Bor (List ℕ)) (word : List ℕ)
    (fault : RequestFault) → place < length words → word ≡ (get_or words place other).now
    → IsRefusedWord word fault → AreRefusedWords (map (λ one. one.now) words) fault
refused_words words place other word faults.NoColon within is refused =
    list_all_at has_colon (map (λ one. one.now) words) place other.now
    (subst (λ (n : ℕ). place < n) (sym (length-map words (λ one. one.now))) within)
    (ap has_colon (get_or-map (λ one. one.now) words place other other.now within ∙ sym is)
    ∙ refused)
refused_words words place other word faults.Host within is refused = absurd refused
refused_words words place other word (faults.Malformed rule) within is refused = absurd refused
refused_words words place other word faults.Memory within is refused = tt

pub returns-in_err-field-clause-err : goal.returns-in_err-field-clause-err
returns-in_err-field-clause-err c =
    let answer = err_from_is_err_and c.from_residual.result c.from_residual.ensures.1 in
    rw (answer.1, answer.2)
    (refused_words c.args.words.now c.loop-word.word-index _ c.as_bytes.result.now _ (omega arith)
    c.as_bytes.ensures.value c.in_err-field.ensures.err)
