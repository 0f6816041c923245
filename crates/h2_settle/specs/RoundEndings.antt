-- How the functions that make a round of acts end.
use Rattle.std.specs.Prelude.{◌≡◌, true, false, List, ◌++◌, Option, Some, None}
use Rattle.h2_spec_log.specs.Acts.{Values}
use Rattle.h2_joined.specs.declared.act.Acted.{Acted}
use Rattle.h2_joined.specs.declared.act.JointAct.{JointAct}
use Rattle.h2_joined.specs.declared.act.Side.{Side}
use Rattle.h2_joined.specs.declared.joined.Joined.{Joined}
use Rattle.h2_joined.specs.Joints.{JointEnd, Made}
use Rattle.h2_joined.specs.Kept.{JoinedRepresents, MakesAct, made_of}
use Rattle.h2_joined.specs.Runs.{GotMemory}
use Rattle.h2_laws_quiet.specs.Rounds.{IsRound}
use Rattle.h2_settle.specs.declared.rounds.Ending.{Ending}
use Rattle.h2_settle.specs.declared.rounds.Ending.TheVariants.{Whole, Failed, NoMemory}
use Rattle.h2_settle.specs.Settling.{BothUp, NamesFailed, StopsRound}

-- This end is named as failed, or neither end has failed.
abbrev pub FailedIs : Option Side → (client server : JointEnd) → Type 0
FailedIs None client server = BothUp client server
FailedIs (Some side) client server = NamesFailed side client server

-- So it is of the two ends, whatever has happened at them.
abbrev pub FindsFailed : Joined → Option Side → Type 0
FindsFailed joined failed =
    (client_values server_values : Values) (made : List Made) (client server : JointEnd)
    → JoinedRepresents client_values server_values joined made client server
    → FailedIs failed client server

-- What is known of the two ends after an act with this result, by how it has ended.
abbrev pub EndsWith : Ending → Acted → (new : Joined) → Type 0
EndsWith Whole acted new = GotMemory acted × FindsFailed new None
EndsWith (Failed side) acted new = GotMemory acted × FindsFailed new (Some side)
EndsWith NoMemory acted new = GotMemory acted → ⊥

-- The act was made, and has ended so.
abbrev pub EndsAct : (old : Joined) → JointAct → Ending → (new : Joined) → Type 0
EndsAct old act ending new =
    (acted : Acted) × MakesAct old (made_of act acted) new × EndsWith ending acted new

-- These acts lead from two ends to two others, by how a round has ended.
abbrev pub EndsRound : Ending → (client server : JointEnd) → List Made
    → (new_client new_server : JointEnd) → Type 0
EndsRound Whole client server acts new_client new_server =
    BothUp client server × BothUp new_client new_server
    × (round : IsRound client server new_client new_server) × (round.acts ≡ acts)
EndsRound (Failed side) client server acts new_client new_server =
    StopsRound client server acts (Some side) false new_client new_server
EndsRound NoMemory client server acts new_client new_server =
    StopsRound client server acts None true new_client new_server

-- The round was made, or its first acts, and has ended so, whatever had happened at the two ends.
abbrev pub MakesRound : (old : Joined) → Ending → (new : Joined) → Type 0
MakesRound old ending new =
    (client_values server_values : Values) (before : List Made) (client server : JointEnd)
    → JoinedRepresents client_values server_values old before client server
    → (acts : List Made) × (new_client : JointEnd) × (new_server : JointEnd)
    × JoinedRepresents client_values server_values new (acts ++ before) new_client new_server
    × EndsRound ending client server acts new_client new_server
