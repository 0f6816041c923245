-- At two quiet ends no work is left; so after more rounds than the work that was left two joined
-- ends are quiet.
use Rattle.std.proofs.Common.{◌≡◌, ◌⊎◌, inl, inr, ℕ, suc, ◌+◌, ◌≤◌, ◌<◌, true}
use Rattle.std.proofs.Common.{List, [], ◌++◌, length, None, refl, ap, arith}
use Rattle.std.proofs.lemmas.Bool.{cases_Bool}
use Rattle.h2_spec_log.specs.Acts.{Values}
use Rattle.h2_spec_log.specs.Items.{total}
use Rattle.h2_spec_log.specs.Log.{active, owed}
use Rattle.h2_laws_pair.proofs.Arrived.{all_arrived}
use Rattle.h2_laws_pair.proofs.BothWays.{to_server, to_client, ends_of}
use Rattle.h2_laws_pair.proofs.CarriedOctets.{carried}
use Rattle.h2_ends.specs.Ends.{EndLog, tokens_waiting}
use Rattle.h2_joined.specs.Joints.{JointEnd, Made, IsJoint, half_of}
use Rattle.h2_joined.specs.Joints as joints
use Rattle.h2_joined.specs.Headline.{AreQuiet}
use Rattle.h2_joined.specs.Runs.{ActsLeadTo, leads_nowhere, leads_on}
use Rattle.h2_joined.proofs.JointActs.{joint_holds}
use Rattle.h2_laws_quiet.specs.Rounds.{IsRound, AreRounds, no_round, one_more}
unfoldable use Rattle.h2_laws_quiet.specs.Work.{tokens_on}
use Rattle.h2_laws_quiet.specs.Work.{above_streams, tokens_left, work_left}
use Rattle.h2_laws_quiet.specs.Work.{work_of_item}
use Rattle.h2_laws_quiet.proofs.QuietMessages.{at_client, at_server}
use Rattle.h2_laws_pair.proofs.HeardQuiet.{none_sum}
use Rattle.h2_laws_quiet.proofs.RoundQuiet.{after_a_round, up_before}

-- Where nothing waits on an active stream no token is left.
none_on : (end : EndLog) (i : ℕ) → (active end.log i ≡ true → tokens_waiting end i ≡ [])
    → tokens_on end i ≡ 0
unfolding tokens_on
none_on end i none = elim (cases_Bool (active end.log i)) [
  | inl alive ↦ rw alive (ap length (none alive))
  | inr over ↦ rw over refl
]

no_tokens : (end : EndLog) → ((i : ℕ) → active end.log i ≡ true → tokens_waiting end i ≡ [])
    → tokens_left end ≡ 0
no_tokens end none =
    none_sum (above_streams end.log) (tokens_on end) (λ i. none_on end i (none i))

module _ (client_values server_values : Values) (made : List Made) (client server : JointEnd)
    (joint : IsJoint client_values server_values made client server)
    (quiet : AreQuiet client server) where
  -- What was sent was read.
  server_read : server.happened.log.received ≡ client.happened.log.sent
  server_read =
      let stays = (joint_holds client_values server_values made client server joint).stays in
      let one = half_of client stays.lost in
      let two = half_of server stays.other_lost in
      all_arrived one two (ends_of one two (to_server stays.pair.0))
      (carried one two (to_server stays.pair.0)) quiet.quiet_server.up quiet.to_server
      quiet.quiet_client.given

  client_read : client.happened.log.received ≡ server.happened.log.sent
  client_read =
      let stays = (joint_holds client_values server_values made client server joint).stays in
      let one = half_of client stays.lost in
      let two = half_of server stays.other_lost in
      all_arrived two one (ends_of two one (to_client stays.pair.0))
      (carried two one (to_client stays.pair.0)) quiet.quiet_client.up quiet.to_client
      quiet.quiet_server.given

  -- So no work is left.
  pub no_work : work_left client.happened server.happened ≡ 0
  no_work =
      let client_tokens = no_tokens client.happened (λ i alive.
      (at_client client_values server_values made client server i joint quiet
      (inl alive)).none_waits)
      in
      let server_tokens = no_tokens server.happened (λ i alive.
      (at_server client_values server_values made client server i joint quiet
      (inl alive)).none_waits)
      in
      let client_owes = none_sum (above_streams client.happened.log) (owed client.happened.log)
      quiet.quiet_client.none_owed in
      let server_owes = none_sum (above_streams server.happened.log) (owed server.happened.log)
      quiet.quiet_server.none_owed in
      let one = quiet.quiet_client.none_unreturned in
      let two = quiet.quiet_server.none_unreturned in
      let to_server_none = ap (total work_of_item) server_read in
      let to_client_none = ap (total work_of_item) client_read in
      omega (
        arith,
        client_tokens,
        server_tokens,
        client_owes,
        server_owes,
        one,
        two,
        to_server_none,
        to_client_none,
      )

-- Acts that lead from two joined ends to two others make joined ends of them.
pub joint_after : (client_values server_values : Values) (made : List Made)
    (client server : JointEnd) (acts : List Made) (new_client new_server : JointEnd)
    → IsJoint client_values server_values made client server
    → ActsLeadTo client server acts new_client new_server
    → IsJoint client_values server_values (acts ++ made) new_client new_server
joint_after client_values server_values made client server _ _ _ joint leads_nowhere = joint
joint_after client_values server_values made client server _ new_client new_server joint
    (leads_on {acts = acts} {client = mid_client} {server = mid_server} leads act next) =
    joints.continues (joint_after client_values server_values made client server acts mid_client
    mid_server joint leads) act next

-- After some rounds two joined ends are quiet, or as much less work is left.
record HasCome (client_values server_values : Values) (count work : ℕ)
    (client server : JointEnd) : Type 0 where
  made : List Made
  joint : IsJoint client_values server_values made client server
  come : AreQuiet client server ⊎ (work_left client.happened server.happened + count ≤ work)

one_round : (client_values server_values : Values) (count work : ℕ)
    (client server new_client new_server : JointEnd)
    → HasCome client_values server_values count work client server
    → IsRound client server new_client new_server
    → new_client.happened.log.failed ≡ None → new_server.happened.log.failed ≡ None
    → HasCome client_values server_values (suc count) work new_client new_server
one_round client_values server_values count work client server new_client new_server has round
    client_up server_up = record {
      made = round.acts ++ has.made;
      joint = joint_after client_values server_values has.made client server round.acts new_client
          new_server has.joint round.leads;
      come = elim (after_a_round client_values server_values has.made client server new_client
          new_server has.joint round client_up server_up) [
            | inl quiet ↦ inl quiet
            | inr less ↦ elim has.come [
              | inl quiet ↦
                  let none = no_work client_values server_values has.made client server has.joint
                  quiet
                  in absurd (omega (arith, none, less))
              | inr few ↦ inr (omega (arith, few, less))
            ]
          ];
    }

-- Rounds make joined ends of joined ends.
pub record IsCome (client_values server_values : Values) (client server : JointEnd) : Type 0
  where
    pub made : List Made
    pub joint : IsJoint client_values server_values made client server

pub come_by : (client_values server_values : Values) (made : List Made)
    (client server : JointEnd) (count : ℕ) (new_client new_server : JointEnd)
    → IsJoint client_values server_values made client server
    → AreRounds client server count new_client new_server
    → IsCome client_values server_values new_client new_server
come_by client_values server_values made client server _ _ _ joint no_round =
    record { made = made; joint = joint }
come_by client_values server_values made client server _ new_client new_server joint
    (one_more {count = count} {mid_client = mid_client} {mid_server = mid_server} rounds round) =
    let before = come_by client_values server_values made client server count mid_client mid_server
    joint rounds in
    record {
      made = round.acts ++ before.made;
      joint = joint_after client_values server_values before.made mid_client mid_server round.acts
          new_client new_server before.joint round.leads;
    }

after_rounds : (client_values server_values : Values) (made : List Made)
    (client server : JointEnd) (count : ℕ) (new_client new_server : JointEnd)
    → IsJoint client_values server_values made client server
    → AreRounds client server count new_client new_server
    → new_client.happened.log.failed ≡ None → new_server.happened.log.failed ≡ None
    → HasCome client_values server_values count (work_left client.happened server.happened)
    new_client new_server
after_rounds client_values server_values made client server _ _ _ joint no_round client_up
    server_up = record { made = made; joint = joint; come = inr (omega arith) }
after_rounds client_values server_values made client server _ new_client new_server joint
    (one_more {count = count} {mid_client = mid_client} {mid_server = mid_server} rounds round)
    client_up server_up =
    let come = come_by client_values server_values made client server count mid_client mid_server
    joint rounds in
    let up = up_before client_values server_values come.made mid_client mid_server new_client
    new_server come.joint round client_up server_up in
    one_round client_values server_values count (work_left client.happened server.happened)
    mid_client mid_server new_client new_server
    (after_rounds client_values server_values made client server count mid_client mid_server joint
    rounds up.0 up.1) round client_up server_up

pub get_quiet : (client_values server_values : Values) (made : List Made) (count : ℕ)
    (client server new_client new_server : JointEnd)
    → IsJoint client_values server_values made client server
    → AreRounds client server count new_client new_server
    → new_client.happened.log.failed ≡ None → new_server.happened.log.failed ≡ None
    → work_left client.happened server.happened < count → AreQuiet new_client new_server
get_quiet client_values server_values made count client server new_client new_server joint rounds
    client_up server_up enough =
    elim (after_rounds client_values server_values made client server count new_client new_server
    joint rounds client_up server_up).come [
      | inl quiet ↦ quiet
      | inr few ↦ absurd (omega (arith, few, enough))
    ]
