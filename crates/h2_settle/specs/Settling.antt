-- How driving two joined ends until they are quiet ends.
use Rattle.std.specs.Prelude.{map as each, ◌≡◌, ◌≢◌, ◌⊎◌, ℕ, suc, ◌<◌, ◌≤◌, Bool, true, false}
use Rattle.std.specs.Prelude.{List, [], ◌∷◌, ◌++◌, Option, Some, None}
use Rattle.std.specs.List.{AllByRecursion}
use Rattle.h2_spec_log.specs.Acts.{Values}
use Rattle.h2_joined.specs.declared.act.Side.{Side}
use Rattle.h2_joined.specs.declared.act.Side.TheVariants.{Client, Server}
use Rattle.h2_joined.specs.declared.joined.Joined.{Joined}
use Rattle.h2_joined.specs.Headline.{AreQuiet}
use Rattle.h2_joined.specs.Joints.{Doing, JointEnd, Made, IsNextAct}
use Rattle.h2_joined.specs.Kept.{JoinedRepresents}
use Rattle.h2_joined.specs.Runs.{ActsLeadTo, GotMemory, act_made}
use Rattle.h2_laws_quiet.specs.Rounds.{IsRound, round_doings}
use Rattle.h2_laws_quiet.specs.Work.{work_left}
use Rattle.h2_laws_quiet.specs.MostRounds.{most_rounds}
use Rattle.h2_settle.specs.declared.settling.Settled.{Settled}

-- The acts, newest first, are the first ones of a round: none, some or all of its eight.
abbrev pub BeginRound : List Made → Type 0
BeginRound acts = (later : List (Side × Doing)) × (round_doings ≡ later ++ each act_made acts)

-- Neither end has failed.
abbrev pub BothUp : (client server : JointEnd) → Type 0
BothUp client server = (client.happened.log.failed ≡ None) × (server.happened.log.failed ≡ None)

-- The end that is named where one has failed: the client, if both have.
abbrev pub NamesFailed : Side → (client server : JointEnd) → Type 0
NamesFailed Client client server = client.happened.log.failed ≢ None
NamesFailed Server client server =
    (client.happened.log.failed ≡ None) × (server.happened.log.failed ≢ None)

-- So many rounds, which are these acts, the newest first, lead from two ends to two others. Each was
-- needed: it was made between two ends that were not quiet. No end had failed before it, and none
-- has failed in it.
-- rule: joined (own) settle makes rounds until the ends are quiet or one has failed
pub data AreNeeded (client server : JointEnd) : (count : ℕ) → (acts : List Made)
    → (new_client new_server : JointEnd) → Type 0 where
  none_needed : AreNeeded client server 0 [] client server
  one_needed : {count : ℕ} → {acts : List Made}
      → {mid_client mid_server new_client new_server : JointEnd}
      → AreNeeded client server count acts mid_client mid_server → BothUp mid_client mid_server
      → (AreQuiet mid_client mid_server → ⊥)
      → (round : IsRound mid_client mid_server new_client new_server)
      → BothUp new_client new_server
      → AreNeeded client server (suc count) (round.acts ++ acts) new_client new_server

-- These acts, the newest first, lead from two ends to two others. Each got its memory, and neither
-- end had failed before them, or has since.
pub record GoWell (client server : JointEnd) (acts : List Made) (new_client new_server : JointEnd)
    : Type 0 where
  pub up_before : BothUp client server
  pub leads : ActsLeadTo client server acts new_client new_server
  pub memory : AllByRecursion (λ act. GotMemory act.acted) acts
  pub up : BothUp new_client new_server

-- A round is not made whole, but these acts of it, the newest first. An end had failed before it,
-- and none is made; or its first acts went well, some or none, and the next one is the last that is
-- made: an end fails in it, or it is refused memory. Then that is answered, and no end is named.
-- rule: joined (own) settle makes rounds until the ends are quiet or one has failed
pub data StopsRound (client server : JointEnd) : (acts : List Made) (failed : Option Side)
    (memory : Bool) → (new_client new_server : JointEnd) → Type 0 where
  had_failed : {side : Side} → NamesFailed side client server
      → StopsRound client server [] (Some side) false client server
  fails : {side : Side} → {mid_client mid_server new_client new_server : JointEnd}
      → (others : List Made) → GoWell client server others mid_client mid_server → (act : Made)
      → BeginRound (act ∷ others) → IsNextAct mid_client mid_server act new_client new_server
      → GotMemory act.acted → NamesFailed side new_client new_server
      → StopsRound client server (act ∷ others) (Some side) false new_client new_server
  refused : {mid_client mid_server new_client new_server : JointEnd}
      → (others : List Made) → GoWell client server others mid_client mid_server → (act : Made)
      → BeginRound (act ∷ others) → IsNextAct mid_client mid_server act new_client new_server
      → (GotMemory act.acted → ⊥)
      → StopsRound client server (act ∷ others) None true new_client new_server

-- Two ends were driven by these acts, the newest first: so many rounds, each of which was needed;
-- and then they are quiet, or they are not, and the next round is not made whole.
-- rule: joined (own) settle makes rounds until the ends are quiet or one has failed
pub data HasSettled (client server : JointEnd) : (rounds : ℕ) (failed : Option Side)
    (memory : Bool) → (acts : List Made) → (new_client new_server : JointEnd) → Type 0 where
  settles : {rounds : ℕ} → {acts : List Made} → {new_client new_server : JointEnd}
      → AreNeeded client server rounds acts new_client new_server → AreQuiet new_client new_server
      → HasSettled client server rounds None false acts new_client new_server
  stops : {rounds : ℕ} → {failed : Option Side} → {memory : Bool} → {acts later : List Made}
      → {mid_client mid_server new_client new_server : JointEnd}
      → AreNeeded client server rounds acts mid_client mid_server
      → (AreQuiet mid_client mid_server → ⊥)
      → StopsRound mid_client mid_server later failed memory new_client new_server
      → HasSettled client server rounds failed memory (later ++ acts) new_client new_server

-- As many rounds were made as were asked for, which are these acts, and each was needed. It does not
-- say whether the ends are quiet then.
-- rule: joined (own) settle makes rounds until the ends are quiet or one has failed
pub record MadeMost (client server : JointEnd) (most : ℕ) (settled : Settled) (acts : List Made)
    (new_client new_server : JointEnd) : Type 0 where
  pub rounds : settled.rounds ≡ most
  pub failed : settled.failed ≡ None
  pub memory : settled.memory ≡ false
  pub are_needed : AreNeeded client server most acts new_client new_server

-- Two ends were driven by rounds, whatever had happened at them: fewer were made than were asked
-- for, and driving has ended as `HasSettled` says; or as many. There are no more rounds than the
-- work that was left, and one, and no more than the few that what waited at first needs.
-- rule: joined (own) settle makes rounds until the ends are quiet or one has failed
abbrev pub Settles : (old : Joined) → (most : ℕ) → Settled → (new : Joined) → Type 0
Settles old most settled new =
    (client_values server_values : Values) (before : List Made) (client server : JointEnd)
    → JoinedRepresents client_values server_values old before client server
    → (acts : List Made) × (new_client : JointEnd) × (new_server : JointEnd)
    × JoinedRepresents client_values server_values new (acts ++ before) new_client new_server
    × (((settled.rounds < most) × HasSettled client server settled.rounds settled.failed
    settled.memory acts new_client new_server)
    ⊎ MadeMost client server most settled acts new_client new_server)
    × (settled.rounds ≤ suc (work_left client.happened server.happened))
    × (settled.rounds ≤ most_rounds client.happened server.happened)
