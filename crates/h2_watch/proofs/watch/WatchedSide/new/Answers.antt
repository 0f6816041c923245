-- Nothing was shown.
use Rattle.std.proofs.Common.{refl}
use Rattle.h2_show.proofs.PrintedText.{printed_none}
use Rattle.h2_watch.specs.Watches.{goes_on, options_of}
use Rattle.h2_watch.proofs.watch.WatchedSide.new.Goals as goal

pub returns : goal.returns
returns c =
    goes_on refl (printed_none c.in_ok-new.field-0 (options_of c.args.side)
    c.in_ok-new.ensures.shows c.in_ok-new.ensures.style c.in_ok-new.ensures.first)
