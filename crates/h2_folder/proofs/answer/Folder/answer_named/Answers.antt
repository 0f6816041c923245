-- A file that is kept or was found is answered by its names, and one that is not by the reason.
use Rattle.std.proofs.Common.{◌∙◌, ℕ, Bool, ap, inl, inr}
use Rattle.std.proofs.lemmas.Result.{IfOk-weaker}
use Rattle.h2_folder.specs.Heads.{short_message}
use Rattle.h2_folder.specs.Refusals.{status_of_missing}
use Rattle.h2_folder.proofs.answer.Folder.answer_named.Goals as goal

pub returns-in_ok-message-in-Err : goal.returns-in_ok-message-in-Err
returns-in_ok-message-in-Err g c =
    let date = c.date_in-date.result in
    let missing = c.in-Err.missing in
    let short = c.in_ok-message-in-Err.ensures
    ∙ ap (λ (s : ℕ). short_message s date c.has_content-has_body.result) c.status.ensures
    ∙ ap (λ (b : Bool). short_message (status_of_missing missing) date b) c.has_content-has_body.ensures in
    inl (missing, (date, short))

pub returns-in-Ok : goal.returns-in-Ok
returns-in-Ok g c =
    IfOk-weaker c.answer_at.result _ _ (λ _ found. inr found) c.answer_at.ensures
