use Rattle.std.proofs.Common.{refl}
use Rattle.h2_spec_log.specs.Acts.{Refused}
use Rattle.h2_spec_log.specs.declared.refusal.Refusal.TheVariants as reasons
use Rattle.h2_server.proofs.Resetting.{one_too_many}
use Rattle.h2_server.proofs.giving.reset.Goals as goal

pub returns-in-Err-NoSuchStream : goal.returns-in-Err-NoSuchStream
returns-in-Err-NoSuchStream c = λ to_head refused values end is.
    let made = rw (c.number.ensures, c.in-Err-NoSuchStream.field-0-is)
    at (c.in-Err-NoSuchStream.ensures values end is) in
    (_, (Refused reasons.NoSuchStream, made.0, c.well-in-Err-NoSuchStream.ensures, refl), made.1)

pub returns-in-Err-OutputFull : goal.returns-in-Err-OutputFull
returns-in-Err-OutputFull c = λ to_head refused values end is.
    let made = rw (c.number.ensures, c.in-Err-OutputFull.field-0-is)
    at (c.in-Err-OutputFull.ensures values end is) in
    (_, (Refused reasons.OutputFull, made.0, c.well-in-Err-OutputFull.ensures, refl), made.1)

pub returns-in-Err-TooManyResets : goal.returns-in-Err-TooManyResets
returns-in-Err-TooManyResets c = λ to_head refused values end is.
    let made = rw (c.number.ensures, c.in-Err-TooManyResets.field-0-is)
    at (c.in-Err-TooManyResets.ensures values end is) in (
      _,
      (
        Refused reasons.TooManyResets,
        made.0,
        one_too_many c.args.code c.after_too_many.result c.after_too_many.ensures.ok,
        refl,
      ),
      made.1,
    )

pub returns-in-Err-Memory : goal.returns-in-Err-Memory
returns-in-Err-Memory c = λ to_head refused values end is.
    let made = rw (c.number.ensures, c.in-Err-Memory.field-0-is)
    at (c.in-Err-Memory.ensures values end is) in
    (_, (Refused reasons.Memory, made.0, tt, refl), made.1)

pub returns-in-Err : goal.returns-in-Err
returns-in-Err c = λ to_head refused values end is.
    let made = rw c.number.ensures at (c.in-Err.ensures values end is) in
    (_, (Refused c.in-Err.field-0, made.0, tt, refl), made.1)
