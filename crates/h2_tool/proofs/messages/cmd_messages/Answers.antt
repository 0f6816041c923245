-- The words are refused, or the input is handed to an end, or can't be.
use Rattle.h2_tool.proofs.WordLemmas.{messages_fail}
use Rattle.h2_tool.proofs.InputLemmas.{messages_end_so}
use Rattle.h2_tool.proofs.messages.cmd_messages.Goals as goal

pub returns-in-Err : goal.returns-in-Err
returns-in-Err g c =
    messages_fail _ _ _ _ c.in-Err.error c.answer.result c.in-Err.ensures.err c.answer.ensures

pub returns : goal.returns
returns g c =
    messages_end_so c.in-Ok.options _ _ _ _ _ c.messages_input-replayed.result c.end_messages.result
    c.in-Ok.ensures.ok c.messages_input-replayed.ensures.prints
    c.messages_input-replayed.ensures.bad_hex c.end_messages.ensures
