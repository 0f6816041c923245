use Rattle.h2_message.proofs.Names.{◌<◌, ◌≤◌, length, take, refl, arith, Field}
use Rattle.h2_message.proofs.ScanAdds.{scan-step, scan-end, field-at}
use Rattle.h2_message.proofs.scan.scan_list.Goals as goal
use Rattle.h2_message.proofs.scan.scan_list.Goals.{in-Some, in_default}

pub loop-place-init : goal.loop-place-init
loop-place-init c = c.empty-scan.ensures c.args.kind

pub loop-place-preserved : goal.loop-place-preserved
loop-place-preserved c =
    let fields = c.args.list.now in
    let place = c.loop-place.place in
    let within : place < length fields = omega arith in
    elim c.match-get.branch [
      | in-Some w ↦ (let found = w.in-Some.field in
          let field : Field = record {
            name = found.name.now;
            value = found.value.now;
            sensitive = found.sensitive;
          } in
          rw w.scan-is (scan-step c.args.kind fields place field found.name.now found.value.now
          w.add.new.self within (field-at fields place field within w.in-Some.ensures) refl refl
          (w.add.ensures (take place fields) found.sensitive c.loop-place.invariant)))
      | in_default w ↦ (let past : length fields ≤ place = w.in_default.ensures in
          absurd (omega arith))
    ]

pub returns : goal.returns
returns c =
    scan-end c.args.kind c.args.list.now c.loop-place.place c.loop-place.scan
    (omega arith) c.loop-place.invariant
