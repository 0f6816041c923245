-- DATA by its flow.
use Rattle.h2_conn.proofs.Names.{◌∙◌, ap, refl}
use Rattle.std.proofs.Common.{pos}
use Rattle.h2_core.proofs.DataFlow.{exceeds_connection, within_connection}
use Rattle.h2_conn.proofs.why_of_frame.rule_of_windows.Goals as goal

pub returns-then-flow_of-recv_window : goal.returns-then-flow_of-recv_window
returns-then-flow_of-recv_window c = λ view sees.
    let more = exceeds_connection c.flow_of.result c.recv_window.result c.if-flow_of-recv_window.true in
    let same = ap pos c.recv_window.ensures ∙ sees.window in
    rw (c.in-Data.is, ← (c.flow_of.ensures c.in-Data.stream c.in-Data.end), ← same, more) refl

pub returns-else-flow_of-recv_window : goal.returns-else-flow_of-recv_window
returns-else-flow_of-recv_window c = λ view sees.
    let few = within_connection c.flow_of.result c.recv_window.result c.if-flow_of-recv_window.false in
    let same = ap pos c.recv_window.ensures ∙ sees.window in
    rw (c.in-Data.is, ← (c.flow_of.ensures c.in-Data.stream c.in-Data.end), ← same, few) refl
