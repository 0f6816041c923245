-- The body is the payload without padding.
use Rattle.std.proofs.Common.{refl}
use Rattle.h2_frame.specs.Frames.{pad_of, is_padded}
use Rattle.h2_frame.proofs.HeadLemmas.{stream-Headers}
use Rattle.h2_frame.proofs.payload.headers.Goals as goal

pub returns : goal.returns
unfolding pad_of is_padded
returns c = (
  c.requires.kind,
  refl,
  stream-Headers c.args.head.now c.requires.kind c.requires.form,
  refl,
  refl,
  c.without_padding-body.result.now,
  c.without_padding-body.ensures.padded _ (rw c.requires.kind at c.requires.pad),
  c.without_priority-priority.ensures,
)
