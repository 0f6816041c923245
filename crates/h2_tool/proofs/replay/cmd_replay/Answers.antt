-- The input is handed to an end of messages; or the words are refused, or the input is replayed, or
-- can't be.
use Rattle.std.proofs.Common.{◌∙◌, sym}
use Rattle.h2_tool.proofs.WordLemmas.{replay_fails}
use Rattle.h2_tool.proofs.InputLemmas.{replay_ends_so}
use Rattle.h2_tool.proofs.replay.cmd_replay.Goals as goal

pub returns-then-asks_messages : goal.returns-then-asks_messages
returns-then-asks_messages g c =
    rw (sym c.asks_messages.ensures ∙ c.if-asks_messages.true) c.cmd_messages.ensures

pub returns-in-Err : goal.returns-in-Err
returns-in-Err g c =
    rw (sym c.asks_messages.ensures ∙ c.if-asks_messages.false)
    (replay_fails _ _ _ _ c.in-Err.error c.answer.result c.in-Err.ensures.err c.answer.ensures)

pub returns : goal.returns
returns g c =
    rw (sym c.asks_messages.ensures ∙ c.if-asks_messages.false)
    (replay_ends_so c.in-Ok.options _ _ _ _ _ c.replay_input-shown.result c.end_input.result
    c.in-Ok.ensures.ok c.replay_input-shown.ensures.reports c.replay_input-shown.ensures.bad_hex
    c.end_input.ensures)
