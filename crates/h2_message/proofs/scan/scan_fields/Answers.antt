use Rattle.h2_message.proofs.Names.{take}
use Rattle.h2_message.proofs.ScanAdds.{scan-step, scan-end}
use Rattle.h2_message.proofs.scan.scan_fields.Goals as goal

pub loop-field-init : goal.loop-field-init
loop-field-init c = c.empty-scan.ensures c.args.kind

pub loop-field-preserved : goal.loop-field-preserved
loop-field-preserved c =
    let fields = c.args.fields.now in
    let index = c.loop-field.field-index in
    scan-step c.args.kind fields index c.field-item.result c.as_slice.result.now
    c.as_slice-in-loop-field.result.now c.add.new.self c.loop-field-test.true c.field-item.is
    c.as_slice.ensures c.as_slice-in-loop-field.ensures
    (c.add.ensures (take index fields) c.field-item.result.sensitive c.loop-field.invariant)

pub returns : goal.returns
returns c =
    scan-end c.args.kind c.args.fields.now c.loop-field.field-index c.loop-field.scan
    c.loop-field-test.false c.loop-field.invariant
