-- The encoder of every log that comes about.
use Rattle.h2_laws_log.proofs.Names.{IsValidEncoder, Role, Values, value_read, Log, with_sent}
use Rattle.h2_laws_log.proofs.Names.{with_reported, opened, IsLog, ◌≡◌, min, rules}
use Rattle.h2_laws_log.proofs.EncoderSteps.{LogIsLimited, wrote_limited, reports_limited}
use Rattle.h2_laws_log.proofs.EncoderSteps.{read_limited, call_limited}
use Rattle.h2_laws_log.proofs.LogInduction.{IsLogInvariant, kept_by_logs}

-- The encoder of a new end.
begins_limited : (role : Role) (values : Values) → LogIsLimited (opened role values)
unfolding opened value_read
begins_limited role values = search (rules, wrote_limited)

-- Each change of a log keeps an encoder that writes blocks, with the limit that was read last.
encoder_is_kept : (role : Role) (values : Values) → IsLogInvariant role values LogIsLimited
unfolding with_sent with_reported
encoder_is_kept role values =
    search (rules, begins_limited, wrote_limited, read_limited, reports_limited, call_limited)

-- The encoder of every log.
pub encoder_is_limited : (role : Role) (values : Values) (log : Log) → IsLog role values log
    → IsValidEncoder log.encoder × (log.encoder.limit ≡ min (value_read 1 4096 log.received) 4096)
encoder_is_limited role values log is =
    let limited = kept_by_logs role values LogIsLimited (encoder_is_kept role values) log is in
    (limited.writing, limited.limit)
