-- The fields so far have another name.
use Rattle.std.proofs.Common.{◌≡◌, drop, codes}
use Rattle.h2_message.specs.Fields.{status_of, value_or_nothing}
use Rattle.h2_net.proofs.get.status_value.Given as goal

abbrev pub invariant-loop-field : goal.invariant-loop-field
invariant-loop-field l =
    value_or_nothing (codes ":status") (drop l.field-index l.head) ≡ status_of l.head
