use Rattle.h2_message.proofs.Names.{take, IsScan}
use Rattle.h2_message.proofs.scan.scan_list.Given as goal

abbrev pub invariant-loop-place : goal.invariant-loop-place
invariant-loop-place l = IsScan l.kind (take l.place l.list) l.scan
