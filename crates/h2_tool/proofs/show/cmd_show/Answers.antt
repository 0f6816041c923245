-- Both sides are shown; or the words are refused, or what is asked for is shown, or can't be.
use Rattle.std.proofs.Common.{◌∙◌, sym}
use Rattle.h2_args.specs.Words.{show_asked_by}
use Rattle.h2_tool.proofs.WordLemmas.{show_fails}
use Rattle.h2_tool.proofs.InputLemmas.{show_ends_so}
use Rattle.h2_tool.proofs.show.cmd_show.Goals as goal

pub returns-then-asks_follow : goal.returns-then-asks_follow
returns-then-asks_follow g c =
    rw (sym c.asks_follow.ensures ∙ c.if-asks_follow.true) c.cmd_follow.ensures

pub returns-in-Err : goal.returns-in-Err
returns-in-Err g c =
    rw (sym c.asks_follow.ensures ∙ c.if-asks_follow.false)
    (show_fails c.args.colored _ _ _ _ c.in-Err.error c.answer.result c.in-Err.ensures.err
    c.answer.ensures)

pub returns-in-Ok : goal.returns-in-Ok
returns-in-Ok g c =
    rw (sym c.asks_follow.ensures ∙ c.if-asks_follow.false)
    (show_ends_so c.args.colored (show_asked_by c.in-Ok.asked) _ _ _ _ _ c.show_asked.result
    c.in-Ok.ensures.ok c.show_asked.ensures)
