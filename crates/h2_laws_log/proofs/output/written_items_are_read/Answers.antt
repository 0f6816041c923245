-- By the lemmas on what is written of items.
use Rattle.h2_laws_log.proofs.OutputRead.{items_read, items_grouped, items_read_by}
use Rattle.h2_laws_log.proofs.OutputRead.{items_grouped_by}
use Rattle.h2_laws_log.proofs.output.written_items_are_read.Goals as goal

pub returns : goal.returns
returns c = record {
  frames = items_read;
  items = items_grouped;
  frames_by = λ bound expects limits payloads items bounded high between sendable.
      items_read_by expects limits bound payloads items bounded high between sendable;
  items_by = items_grouped_by;
}
