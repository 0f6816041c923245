-- The fetch begins, and the connection is widened.
use Rattle.h2_get.proofs.begin.begin_fetch.Goals as goal

pub returns-in-Ok-widen_fetch-clause-ok : goal.returns-in-Ok-widen_fetch-clause-ok
returns-in-Ok-widen_fetch-clause-ok c =
    let values = c.in-Ok.ensures.values in
    record {
      begun = c.in-Ok-new.fetch;
      begins = rw (values.0, values.1, values.2, values.3) at c.in-Ok-new.ensures.ok;
      widened = c.in-Ok-widen_fetch.ensures.ok;
    }
