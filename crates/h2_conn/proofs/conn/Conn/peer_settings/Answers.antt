-- The machine's values are the log's, as long as the connection is up.
use Rattle.h2_conn.proofs.Names.{◌∙◌}
use Rattle.h2_conn.proofs.conn.Conn.peer_settings.Goals as goal

pub returns-clause-window : goal.returns-clause-window
returns-clause-window c values log parts up =
    c.peer_settings-settings.ensures.window
    ∙ (parts.machine.running (parts.machine.failed ∙ up)).peer.initial_window

pub returns-clause-frame : goal.returns-clause-frame
returns-clause-frame c values log parts up =
    c.peer_settings-settings.ensures.frame
    ∙ (parts.machine.running (parts.machine.failed ∙ up)).peer.max_frame
