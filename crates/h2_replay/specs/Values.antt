-- The acts, the events and the turns of a replay's code, as those of the definitions of an end.
use Rattle.std.specs.Prelude.{ℕ, List, [], ◌∷◌, ◌++◌, Some, Vec}
use Rattle.std.specs.declared.alloc.Global.{Global}
use Rattle.hpack.specs.declared.types.field.Field.{Field}
use Rattle.h2_flow.specs.ConfigValues.{values_of}
use Rattle.h2_spec_log.specs.Events as log
use Rattle.h2_spec_log.specs.Acts as logs
use Rattle.h2_laws_end.specs.Replays.{ReplayAct, Take, Make}
use Rattle.h2_core.specs.declared.event.Event.{Event}
use Rattle.h2_core.specs.Events.{event_value}
use Rattle.h2_replay.specs.declared.acts.Act.{Act}
use Rattle.h2_replay.specs.declared.acts.Act.TheVariants as acts
use Rattle.h2_replay.specs.declared.turns.Answer.{Answer}
use Rattle.h2_replay.specs.declared.turns.Answer.TheVariants as answers
use Rattle.h2_replay.specs.declared.turns.Turn.{Turn}
use Rattle.h2_replay.specs.declared.turns.Turn.TheVariants as turns

-- an act
abbrev pub act_value : Act → ReplayAct
act_value (acts.Take octets) = Take octets.items
act_value (acts.Open fields end) = Make (logs.Open fields.items end)
act_value (acts.Fields id fields end) = Make (logs.SendFields id fields.items end)
act_value (acts.Data id octets end) = Make (logs.SendData id octets.items end)
act_value (acts.Release id count) = Make (logs.Release id count)
act_value (acts.Widen count) = Make (logs.Widen count)
act_value (acts.Reset id code) = Make (logs.ResetStream id code)
act_value (acts.Refuse id code) = Make (logs.Refuse id code)
act_value (acts.Ping octets) = Make (logs.SendPing octets)
act_value acts.GoAway = Make logs.SendGoAway
act_value (acts.Fail code) = Make (logs.Fail code)
act_value (acts.PutOut count) = Make (logs.PutOut count)
act_value (acts.ChangeSettings config) = Make (logs.ChangeSettings (values_of config))

-- a list of acts, of which the last one comes first
unfoldable pub acts_made : List Act → List ReplayAct
acts_made [] = []
acts_made (act ∷ acts) = acts_made acts ++ act_value act ∷ []

-- an event that is kept, with its fields and octets
abbrev pub KeptEvent : Type 0
KeptEvent = Event (Vec Field Global) (Vec ℕ Global)

abbrev pub kept_event_value : KeptEvent → log.Event
kept_event_value event = event_value (λ list. list.items) (λ octets. octets.items) event

-- the turn in which an act begins
abbrev pub call_turn : ReplayAct → logs.Turn
call_turn (Take octets) = logs.TakeCalled octets
call_turn (Make act) = logs.Called act

-- the turn in which it ends; octets that were taken without a fault are answered as a call is
abbrev pub answer_turn : Answer → logs.Turn
answer_turn (answers.Id id) = logs.Answered (logs.Number id)
answer_turn (answers.Count count) = logs.Answered (logs.Count count)
answer_turn answers.Done = logs.Answered logs.Done
answer_turn (answers.Refused refusal) = logs.Answered (logs.Refused refusal)
answer_turn (answers.Fault code) = logs.TakeAnswered (Some code)

-- a turn
abbrev pub turn_value : Turn → logs.Turn
turn_value (turns.In octets) = logs.In octets.items
turn_value (turns.Out octets) = logs.Out octets.items
turn_value (turns.Call act) = call_turn (act_value act)
turn_value (turns.Answer answer) = answer_turn answer
turn_value (turns.Event event) = logs.Happened (kept_event_value event)
