-- The response was printed, and its status is the one that the words give it.
use Rattle.std.proofs.Common.{refl}
use Rattle.h2_args.specs.Words.{asked_by}
use Rattle.h2_tool.proofs.GetLemmas.{ends_with_fetch}
use Rattle.h2_tool.proofs.get.end_fetched.Goals as goal

pub returns : goal.returns
returns g c =
    rw c.end_response.ensures (ends_with_fetch (asked_by c.args.options.now) _ _
    c.args.fetched.now _ refl c.in_default.ensures.prints)
