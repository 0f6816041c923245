-- The requests for the first location and for the others so far were made.
use Rattle.std.proofs.Common.{map, take}
use Rattle.h2_args.specs.Words.{asked_by}
use Rattle.h2_message.specs.Values.{message_value}
use Rattle.h2_tool.proofs.SeveralLemmas.{HaveRequests}
use Rattle.h2_tool.proofs.get_several.requests_of.Given as goal

abbrev pub invariant-loop-location : goal.invariant-loop-location
invariant-loop-location l =
    HaveRequests (asked_by l.fn.options) l.fn.body l.fn.first (take l.location-index l.others)
    (map message_value l.messages.items)
