-- A connection that was served ends so.
use Rattle.std.proofs.Common.{◌≡◌, ℕ, Result, Ok, Err, refl, inl, inr}
use Rattle.h2_link.specs.declared.error.LinkError.{LinkError}
use Rattle.h2_link.specs.declared.error.LinkError.TheVariants as errors
use Rattle.h2_net.specs.Endings.{EndsStream}
use Rattle.h2_net.proofs.DefaultValues.{are_defaults}
use Rattle.h2_net.proofs.serving.serve_stream.Goals as goal

device_ends : (served : Result ℕ LinkError) → EndsStream served (Err errors.Device)
device_ends (Ok count) = refl
device_ends (Err reason) = inr refl

pub returns-then-is_err-clause-serves : goal.returns-then-is_err-clause-serves
returns-then-is_err-clause-serves g c = (
  c.serve_link_why-served.result,
  device_ends c.serve_link_why-served.result,
  rw (c.flush.ensures.stalled, ← are_defaults c.default.result c.default.ensures)
      c.serve_link_why-served.ensures.serves,
)

pub returns-in-Ok-clause-serves : goal.returns-in-Ok-clause-serves
returns-in-Ok-clause-serves g c = (
  Ok c.in-Ok.field-0,
  tt,
  rw (c.flush.ensures.stalled, ← are_defaults c.default.result c.default.ensures)
      c.in-Ok.ensures.serves,
)

pub returns-then-matches-clause-serves : goal.returns-then-matches-clause-serves
returns-then-matches-clause-serves g c = (
  Err c.in-Err.error,
  inl refl,
  rw (c.drain.ensures, c.flush.ensures.stalled, ← are_defaults c.default.result c.default.ensures)
      c.in-Err.ensures.serves,
)

pub returns-else-matches-clause-serves : goal.returns-else-matches-clause-serves
returns-else-matches-clause-serves g c = (
  Err c.in-Err.error,
  inl refl,
  rw (c.flush.ensures.stalled, ← are_defaults c.default.result c.default.ensures)
      c.in-Err.ensures.serves,
)
