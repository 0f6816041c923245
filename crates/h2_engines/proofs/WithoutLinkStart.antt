-- A new server without a link.
use Rattle.h2_engines.proofs.Names.{◌≡◌, [], Server, Values, AreInRange, EndRepresents, new_end_log}
use Rattle.h2_engines.proofs.Names.{Responder, begins, IsServingAlone}
use Rattle.h2_numbers.specs.Tables.{all_of}
use Rattle.h2_engines.proofs.AnswerRequests.{kept_none}
use Rattle.h2_engines.proofs.ServeEnds.{new_up}

-- A new server serves.
pub new_serves : {values : Values} (responder : Responder) → AreInRange values
    → EndRepresents values responder.server.end (new_end_log Server values)
    → all_of responder.requests.kept ≡ [] → responder.answered ≡ 0
    → IsServingAlone values responder (new_end_log Server values)
new_serves {values} responder range represents none zero =
    record {
      responding = begins range;
      represents = represents;
      up = new_up values;
      keeps = kept_none responder.requests none values;
      count = zero;
    }
