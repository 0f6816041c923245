-- None of the fields so far is named so: what is left decides.
use Rattle.std.proofs.Common.{◌≡◌, drop}
use Rattle.h2_get.specs.Requests.{has_host}
use Rattle.h2_get.proofs.request.has_host.Given as goal

abbrev pub invariant-loop-field : goal.invariant-loop-field
invariant-loop-field l = has_host (drop l.field-index l.fields) ≡ has_host l.fields
