-- Worked examples of how driving two joined ends ends.
use Rattle.std.proofs.Common.{◌≡◌, ◌≢◌, false, List, [], ◌∷◌, Some, None, refl, ap, ◌∙◌, drop}
use Rattle.std.proofs.Common.{reverse}
use Rattle.std.proofs.lemmas.List.{reverse-append}
use Rattle.h2_joined.specs.declared.act.Acted.TheVariants.{Done}
use Rattle.h2_joined.specs.declared.act.Side.{Side}
use Rattle.h2_joined.specs.declared.act.Side.TheVariants.{Client, Server}
use Rattle.h2_joined.specs.Headline.{AreQuiet}
use Rattle.h2_joined.specs.Joints.{Doing, JointEnd, Made, Delivers, Moves, Pumps, ReleasesAll}
use Rattle.h2_laws_quiet.specs.Rounds.{all_octets, round_doings}
use Rattle.h2_settle.specs.Settling.{AreNeeded, BeginRound, HasSettled, MadeMost, NamesFailed}
use Rattle.h2_settle.specs.Settling.{had_failed, none_needed, one_needed, settles, stops}

-- Of two ends of which the client has failed the client is named, whatever has become of the
-- server, and no act is made.
client_named : (client server : JointEnd) → client.happened.log.failed ≢ None
    → HasSettled client server 0 (Some Client) false [] client server
client_named client server failed =
    stops none_needed (λ quiet. failed quiet.quiet_client.up) (had_failed failed)

-- The server is not.
server_not_named : (client server : JointEnd) → client.happened.log.failed ≢ None
    → NamesFailed Server client server → ⊥
server_not_named client server failed named = failed named.0

-- Quiet ends have settled, without an act.
quiet_at_once : (client server : JointEnd) → AreQuiet client server
    → HasSettled client server 0 None false [] client server
quiet_at_once client server quiet = settles none_needed quiet

-- Between quiet ends no round was needed: none comes before the first.
none_between_quiet : (client server new_client new_server : JointEnd) (acts : List Made)
    → AreQuiet client server → AreNeeded client server 1 acts new_client new_server → ⊥
none_between_quiet client server new_client new_server _ quiet
    (one_needed none_needed up busy round still_up) = busy quiet

-- Where none is asked for no act is made, whether the ends are quiet or have failed.
none_asked : (client server : JointEnd)
    → MadeMost client server 0 (record { rounds = 0; failed = None; memory = false }) [] client
    server
none_asked client server =
    record { rounds = refl; failed = refl; memory = refl; are_needed = none_needed }

-- A round begins with no act, or with a release at the client.
begins_with_release :
    BeginRound []
    × BeginRound (record { side = Client; doing = ReleasesAll; acted = Done } ∷ [])
begins_with_release = (
  (round_doings, refl),
  (
    (Client, Delivers all_octets) ∷ (Server, Delivers all_octets) ∷ (Server, Moves all_octets)
        ∷ (Client, Moves all_octets) ∷ (Server, Pumps) ∷ (Client, Pumps) ∷ (Server, ReleasesAll)
        ∷ [],
    refl,
  ),
)

-- It does not begin with a pump.
begins_with_no_pump : BeginRound (record { side = Client; doing = Pumps; acted = Done } ∷ []) → ⊥
begins_with_no_pump (later, is) =
    release_first (reverse later) (ap reverse is ∙ reverse-append later ((Client, Pumps) ∷ []))
  where
    release_first : (others : List (Side × Doing))
        → (Client, ReleasesAll) ∷ drop 1 (reverse round_doings) ≡ (Client, Pumps) ∷ others → ⊥
    release_first others same =
        let first : ◌≡◌ {A = Side × Doing} (Client, ReleasesAll) (Client, Pumps) = cc in
        let alike : ReleasesAll ≡ Pumps = ap (λ (one : Side × Doing). one.1) first in absurd (cc)
