-- What the turns of a replay say together, and the last act of a replay.
use Rattle.std.specs.Prelude.{◌≡◌, ℕ, List, [], ◌∷◌, ◌++◌}
use Rattle.h2_spec_log.specs.declared.role.Role.{Role}
use Rattle.h2_spec_log.specs.Events.{Event}
use Rattle.h2_spec_log.specs.Acts.{Values, Act, Answer, Turn, In, Out, Happened}
use Rattle.h2_spec_log.specs.Log.{Log}
use Rattle.h2_spec_log.specs.LogCalls.{MayAnswer, with_call}
use Rattle.h2_laws_end.specs.Replays.{ReplayAct, IsReplay}
use Rattle.h2_replay.specs.declared.turns.Turn as code
use Rattle.h2_replay.specs.Values.{turn_value}

-- the octets of a turn that were used, those that joined the output, and its event
abbrev pub used_in : Turn → List ℕ
used_in (In octets) = octets
used_in _ = []

abbrev pub written_in : Turn → List ℕ
written_in (Out octets) = octets
written_in _ = []

abbrev pub event_in : Turn → List Event
event_in (Happened event) = event ∷ []
event_in _ = []

-- what the turns have of that, in order
unfoldable pub joined : {A : Type 0} → (Turn → List A) → List code.Turn → List A
joined of [] = []
joined of (turn ∷ turns) = of (turn_value turn) ++ joined of turns

-- The last act was this call: it may have had this answer, and the log is that with it.
pub record EndsWithCall (role : Role) (values : Values) (acts : List ReplayAct) (act : Act)
    (after : Log) : Type 0 where
  pub log : Log
  pub turns : List Turn
  pub answer : Answer
  pub before : IsReplay role values acts log turns
  pub may : MayAnswer log act answer
  pub is : after ≡ with_call log act answer
