use Rattle.std.proofs.Common.{◌∙◌, ap, inl}
use Rattle.std.proofs.lemmas.Result.{IfOk-weaker}
use Rattle.h2_folder.specs.LogLines.{log_time}
use Rattle.h2_folder.proofs.log.time_text.Goals as goal

pub returns-in-Ok : goal.returns-in-Ok
returns-in-Ok c =
    IfOk-weaker c.stamp_of.result _ _
    (λ text is. inl (c.in-Ok.date, c.in-Ok.ensures.value, is ∙ ap log_time c.to_bytes.ensures))
    c.stamp_of.ensures
