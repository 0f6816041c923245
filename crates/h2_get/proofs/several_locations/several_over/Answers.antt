-- The responses went over the link itself, or over one that is watched.
use Rattle.h2_args.specs.Words.{asked_by}
use Rattle.h2_get.proofs.SeveralInOrder.{over_some_link}
use Rattle.h2_get.proofs.several_locations.several_over.Goals as goal

pub returns-then-not-options : goal.returns-then-not-options
returns-then-not-options g c =
    over_some_link (asked_by c.args.options.now) c.args.begun.now.ids.items _ _
    c.args.begun.now.fetch _ _ _ c.stream_several.result
    (rw c.deref.ensures.value at c.stream_several.ensures)

pub returns : goal.returns
returns g c =
    over_some_link (asked_by c.args.options.now) c.args.begun.now.ids.items _ _
    c.args.begun.now.fetch _ _ _ c.stream_several-streamed.result
    (rw c.deref-2.ensures.value at c.stream_several-streamed.ensures)
