use Rattle.std.proofs.Common.{◌≡◌, ◌∙◌, ℕ, Bool, List, Some, ap, sym, codes}
use Rattle.std.proofs.lemmas.Result.{IfOk-weaker}
use Rattle.h2_files.specs.Faults.{status_of_fault}
use Rattle.h2_files.specs.Methods.{file_method}
use Rattle.h2_files.specs.Paths.{names_of, texts, IsFaultOrMemory}
use Rattle.h2_folder.specs.Answering.{AnswersMethod, value_in}
use Rattle.h2_folder.specs.Heads.{short_message}
use Rattle.h2_folder.specs.Lines.{asked_in}
use Rattle.h2_folder.proofs.AnswerLemmas.{named_file, refused_path}
use Rattle.std.specs.Prelude.{Ok}
use Rattle.std.proofs.Common.{subst}
use Rattle.h2_folder.proofs.answer.Folder.answer.Goals as goal

pub returns-in_ok-message-in-Err : goal.returns-in_ok-message-in-Err
returns-in_ok-message-in-Err g c =
    let list = c.args.list.now in
    let date = c.date_in-date.result in
    let fault = c.in-Err.fault in
    let method : file_method (value_in (codes ":method") list) ≡ Some c.in-Some.method =
    ap file_method (sym c.value_in-name.ensures) ∙ sym c.of.ensures ∙ c.in-Some.is in
    let refused : IsFaultOrMemory fault (names_of (value_in (codes ":path") list)) =
    subst (λ path. IsFaultOrMemory fault (names_of path)) c.value_in-path.ensures
    c.in-Err.ensures.exact in
    let short = c.in_ok-message-in-Err.ensures
    ∙ ap (λ (s : ℕ). short_message s date c.has_content-has_body.result) c.status.ensures
    ∙ ap (λ (b : Bool). short_message (status_of_fault fault) date b)
    c.has_content-has_body.ensures in
    refused_path _ c.in-Some.method _ _ fault _ method refused (date, short)

pub returns-in-Ok : goal.returns-in-Ok
returns-in-Ok g c =
    let list = c.args.list.now in
    let items = texts c.in-Ok.names.items in
    let method : file_method (value_in (codes ":method") list) ≡ Some c.in-Some.method =
    ap file_method (sym c.value_in-name.ensures) ∙ sym c.of.ensures ∙ c.in-Some.is in
    let named : names_of (value_in (codes ":path") list) ≡ Ok items =
    ap names_of (sym c.value_in-path.ensures) ∙ c.in-Ok.ensures.exact in
    let same : texts c.deref.result.now ≡ items = ap texts c.deref.ensures.value in
    IfOk-weaker c.answer_named.result _ _ (λ answered answers. named_file
    (file_method (value_in (codes ":method") list)) c.in-Some.method
    (names_of (value_in (codes ":path") list)) items (asked_in list) answered method named
    (subst (λ (names : List (List ℕ)). AnswersMethod (Some c.in-Some.method) (Ok names)
    (asked_in list) answered) same answers)) c.answer_named.ensures
