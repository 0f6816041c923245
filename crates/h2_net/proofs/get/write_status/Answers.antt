-- The status is printed, and then its phrase.
use Rattle.std.proofs.Common.{Some, None}
use Rattle.std.proofs.KnownBytes.{Appends-trans}
use Rattle.h2_net.proofs.Printing.{on_good}
use Rattle.h2_net.proofs.get.write_status.Goals as goal

pub returns-in-Some : goal.returns-in-Some
returns-in-Some g c =
    let known = rw c.in-Some.is at c.phrase_of.ensures in
    on_good c.writeln.result _ _
    (λ more. (
      Some c.in-Some.phrase.now,
      known,
      Appends-trans _ _ _ c.args.value.now _ c.in_ok-write_all.ensures.bytes more,
    ))
    c.writeln.ensures.bytes

pub returns-in-None : goal.returns-in-None
returns-in-None g c =
    let known = rw c.in-None.is at c.phrase_of.ensures in
    on_good c.writeln-in-None.result _ _
    (λ more. (
      None,
      known,
      Appends-trans _ _ _ c.args.value.now _ c.in_ok-write_all.ensures.bytes more,
    ))
    c.writeln-in-None.ensures.bytes
