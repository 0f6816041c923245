use Rattle.h2_message.proofs.Names.{take, IsScan}
use Rattle.h2_message.proofs.scan.scan_fields.Given as goal

abbrev pub invariant-loop-field : goal.invariant-loop-field
invariant-loop-field l = IsScan l.kind (take l.field-index l.fields) l.scan
