-- The words of the line, the status, and the line's end.
use Rattle.std.proofs.Common.{codes}
use Rattle.std.proofs.KnownBytes.{Appends-trans}
use Rattle.h2_net.proofs.Printing.{on_good}
use Rattle.h2_get.proofs.response.write_failure.Goals as goal

pub returns : goal.returns
returns g c =
    let status = rw c.status_value.ensures at c.in_ok-write_all-2.ensures.bytes in
    let value = rw c.deref.ensures.value at status in
    on_good c.write_all-3.result _ _
    (λ last. Appends-trans _ _ _ (codes "error: status ") _ c.in_ok-write_all.ensures.bytes
    (Appends-trans _ _ _ _ (codes "\n") value last)) c.write_all-3.ensures.bytes
