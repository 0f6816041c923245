-- The octets of DATA are the payload without padding.
use Rattle.std.proofs.Common.{refl}
use Rattle.h2_frame.specs.Frames.{pad_of, is_padded}
use Rattle.h2_frame.proofs.HeadLemmas.{stream-Data}
use Rattle.h2_frame.proofs.payload.payload_frame.Goals as goal

pub returns-in-Data : goal.returns-in-Data
unfolding pad_of is_padded
returns-in-Data c = (
  c.in-Data.is,
  refl,
  stream-Data c.args.head.now c.in-Data.is c.requires.form,
  refl,
  c.without_padding.ensures.padded _ (rw c.in-Data.is at c.requires.pad),
)
