use Rattle.h2_message.proofs.Names.{sym, ◌∙◌}
use Rattle.h2_message.proofs.BodyLengths.{sound_fields, broken_fields}
use Rattle.h2_message.proofs.parts.BodyLength.check_trailers.Goals as goal

pub returns-in-None : goal.returns-in-None
returns-in-None c =
    let both = sound_fields _ _ _ c.check.result
    (sym (c.broken_by_trailers.ensures _ c.scan_fields-scan.ensures) ∙ c.in-None.is)
    c.check.ensures.ok c.check.ensures.err in
    record { ok = both.0; err = both.1 }

pub returns-in-Some-clause-err : goal.returns-in-Some-clause-err
returns-in-Some-clause-err c =
    broken_fields _ _ _ _ (sym (c.broken_by_trailers.ensures _ c.scan_fields-scan.ensures)
    ∙ c.in-Some.is)
