-- A round of driving two joined ends.
use Rattle.std.specs.Prelude.{map as each, ◌≡◌, ◌-◌, ◌^◌, ℕ, suc, List, [], ◌∷◌}
use Rattle.std.specs.List.{AllByRecursion}
use Rattle.h2_joined.specs.declared.act.Side.{Side}
use Rattle.h2_joined.specs.declared.act.Side.TheVariants.{Client, Server}
use Rattle.h2_joined.specs.Joints.{Doing, JointEnd, Made, Pumps, ReleasesAll, Moves, Delivers}
use Rattle.h2_joined.specs.Runs.{ActsLeadTo, GotMemory, act_made}

-- how many octets are asked for where all are meant: the greatest number of 64 bits
abbrev pub all_octets : ℕ
all_octets = 2 ^ 64 - 1

-- what is done in a round, the newest first: both ends release all that they owe, both pump, both
-- put their output on the pipes, and what is on the pipes is delivered
abbrev pub round_doings : List (Side × Doing)
round_doings =
    (Client, Delivers all_octets) ∷ (Server, Delivers all_octets) ∷ (Server, Moves all_octets)
    ∷ (Client, Moves all_octets) ∷ (Server, Pumps) ∷ (Client, Pumps) ∷ (Server, ReleasesAll)
    ∷ (Client, ReleasesAll) ∷ []

-- A round, in which each act got its memory, and no delivery stopped for the number of its calls,
-- leads from two ends to two others. After it the pipes are empty, which they are where each held
-- fewer than 2^64 octets. A release may be refused in it since the output is full.
-- rule (law): joined (own) Two ends that are driven get quiet, and all that was accepted arrives
pub record IsRound (client server new_client new_server : JointEnd) : Type 0 where
  pub acts : List Made
  pub leads : ActsLeadTo client server acts new_client new_server
  pub acts_are : each act_made acts ≡ round_doings
  pub memory : AllByRecursion (λ act. GotMemory act.acted) acts
  pub to_client : new_client.incoming ≡ []
  pub to_server : new_server.incoming ≡ []

-- So many rounds lead from two ends to two others, one after another.
pub data AreRounds (client server : JointEnd) : (count : ℕ) → (new_client new_server : JointEnd)
    → Type 0 where
  no_round : AreRounds client server 0 client server
  one_more : {count : ℕ} → {mid_client mid_server new_client new_server : JointEnd}
      → AreRounds client server count mid_client mid_server
      → IsRound mid_client mid_server new_client new_server
      → AreRounds client server (suc count) new_client new_server
