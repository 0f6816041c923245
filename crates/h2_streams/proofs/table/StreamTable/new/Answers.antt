use Rattle.h2_streams.proofs.Names.{ap}
use Rattle.h2_streams.proofs.TableSteps.{table_with, new_streams}
use Rattle.h2_numbers.specs.Tables.{all_of}
use Rattle.h2_streams.proofs.table.StreamTable.new.Goals as goal

pub returns : goal.returns
returns c =
    ap (table_with c.args.send_initial c.args.recv_initial)
    (new_streams c.args.send_initial c.args.recv_initial (all_of c.new.result) c.new-2.result.keys
    c.new.ensures.empty c.new-2.ensures.empty)
