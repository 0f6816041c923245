-- A replay that is under way.
use Rattle.std.specs.Prelude.{List, ◌∷◌}
use Rattle.h2_spec_log.specs.declared.role.Role.{Role}
use Rattle.h2_spec_log.specs.Acts as logs
use Rattle.h2_spec_log.specs.Acts.{Values}
use Rattle.h2_spec_log.specs.Log.{Log}
use Rattle.h2_laws_end.specs.Replays.{ReplayAct}
use Rattle.h2_conn.specs.declared.conn.Conn.{Conn}
use Rattle.h2_conn.specs.Conn.{ConnRepresents}
use Rattle.h2_replay.specs.declared.turns.Turn.{Turn}
use Rattle.h2_replay.specs.Replay.{KeepsReplay}

-- The turns are those of a replay of these acts, and the connection represents its log.
pub record Records (role : Role) (values : Values) (acts : List ReplayAct) (conn : Conn)
    (kept : List Turn) : Type 0 where
  pub log : Log
  pub turns : List logs.Turn
  pub keeps : KeepsReplay role values acts kept log turns
  pub represents : ConnRepresents values conn log

-- Whatever replay it was: it is that replay with the act.
abbrev pub ReplaysAct : Conn → List Turn → ReplayAct → Conn → List Turn → Type 0
ReplaysAct old turns act new kept =
    (role : Role) (values : Values) (acts : List ReplayAct) → Records role values acts old turns
    → Records role values (act ∷ acts) new kept
