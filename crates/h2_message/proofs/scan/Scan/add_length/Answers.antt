use Rattle.h2_message.proofs.Names.{sym, or-false}
use Rattle.h2_message.proofs.ScanRegular.{bad-length-added, length-added}
use Rattle.h2_message.proofs.scan.Scan.add_length.Goals as goal

pub returns-in-None-default-clause-seen : goal.returns-in-None-default-clause-seen
returns-in-None-default-clause-seen c fields sensitive seen =
    bad-length-added fields c.args.value.now sensitive c.args.self.now c.length_number.result
    c.length_number.ensures c.in-None-default.is-0 seen

pub returns-in-Some-None-clause-seen : goal.returns-in-Some-None-clause-seen
returns-in-Some-None-clause-seen c fields sensitive seen =
    length-added fields c.args.value.now sensitive c.args.self.now _ c.length_number.result
    c.in-Some-None.number c.length_number.ensures c.in-Some-None.is-0
    (rw c.in-Some-None.is-1 (sym (or-false c.args.self.now.bad_length)))
    (rw c.in-Some-None.is-1) seen

pub returns-in-Some-Some-clause-seen : goal.returns-in-Some-Some-clause-seen
returns-in-Some-Some-clause-seen c fields sensitive seen =
    length-added fields c.args.value.now sensitive c.args.self.now _ c.length_number.result
    c.in-Some-Some.number c.length_number.ensures c.in-Some-Some.is-0
    (rw c.in-Some-Some.is-1) (rw c.in-Some-Some.is-1) seen
