-- The words are refused, or what they ask for is served.
use Rattle.std.proofs.Common.{inl, inr}
use Rattle.h2_args.specs.Words.{host_asked_by}
use Rattle.h2_tool.proofs.WordLemmas.{ends_by_words}
use Rattle.h2_tool.proofs.host.cmd_host.Goals as goal

pub returns-in-Err : goal.returns-in-Err
returns-in-Err g c =
    inr (ends_by_words c.in-Err.error _ _ _ c.answer.result c.in-Err.ensures.err c.answer.ensures)

pub returns-in-Ok : goal.returns-in-Ok
returns-in-Ok g c =
    inl (host_asked_by c.in-Ok.asked, c.in-Ok.ensures.ok, c.serve_asked.ensures)
