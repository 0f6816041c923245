-- The messages so far were accepted, if the connection was new.
use Rattle.std.proofs.Common.{map}
use Rattle.h2_spec_log.specs.Acts.{Values}
use Rattle.h2_fetch.specs.Several.{BeginsConnection}
use Rattle.h2_message.specs.Values.{message_value}
use Rattle.h2_get.proofs.RequestsMade.{HasRequestedAll}
use Rattle.h2_get.proofs.begin.request_each.Given as goal

abbrev pub invariant-loop-message : goal.invariant-loop-message
invariant-loop-message l =
    (values : Values) → BeginsConnection values l.initial.fetch
    → HasRequestedAll values (map message_value l.yielded) l.fetch l.ids.items
