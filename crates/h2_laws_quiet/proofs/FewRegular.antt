-- Two joined ends after some rounds, and what one round more makes of them.
use Rattle.std.proofs.Common.{◌≡◌, ◌≢◌, ◌⊎◌, inl, inr, ℕ, zero, suc, ◌+◌, ◌≤◌, ◌<◌, List, ◌++◌}
use Rattle.std.proofs.Common.{None}
use Rattle.std.proofs.Common.{arith}
use Rattle.h2_spec_log.specs.declared.role.Role.TheVariants.{Client, Server}
use Rattle.h2_spec_log.specs.Acts.{Values}
use Rattle.h2_spec_log.specs.Limits.{full_output}
use Rattle.h2_ends.specs.Ends.{EndLog}
use Rattle.h2_joined.specs.Joints.{JointEnd, Made, IsJoint}
use Rattle.h2_laws_quiet.specs.MostRounds.{octets_left, pieces_left, shares_left}
use Rattle.h2_laws_quiet.specs.Rounds.{IsRound, AreRounds, no_round, one_more}
use Rattle.h2_laws_quiet.specs.Work.{tokens_left, work_left}
use Rattle.h2_laws_quiet.proofs.FewEnds.{none_waits_then, quiet_reader}
use Rattle.h2_laws_quiet.proofs.FewEnds.{none_under_way}
use Rattle.h2_laws_quiet.proofs.FewFills.{with_owed}
use Rattle.h2_laws_quiet.proofs.FewPieces.{turn_octets, turn_pieces, turn_sends, turn_piece_goes}
use Rattle.h2_laws_quiet.proofs.FewProgress.{progress, shares_kept}
use Rattle.h2_laws_quiet.proofs.FewRounds.{HasCome, has_come}
use Rattle.h2_laws_quiet.proofs.FewSteps.{r_room, r_more_room, r_returned, r_stays, w_returns}
use Rattle.h2_laws_quiet.proofs.FewTurns.{Turn, client_turn, server_turn}
use Rattle.h2_laws_quiet.proofs.ManyRounds.{come_by, joint_after}
use Rattle.h2_laws_quiet.proofs.RoundQuiet.{up_before}

-- how much waits at both
abbrev pub shares_both : (client server : JointEnd) → ℕ
shares_both client server =
    shares_left client.happened server.happened.log
    + shares_left server.happened client.happened.log

-- A writer sends trailers, an end or 17,200 octets.
abbrev pub Loses : (before after : EndLog) → Type 0
Loses before after =
    (pieces_left after + 1 ≤ pieces_left before)
    ⊎ (octets_left after + 17200 ≤ octets_left before)

-- The first of some rounds, and the others.
pub record FirstRound (client server : JointEnd) (count : ℕ) (new_client new_server : JointEnd)
    : Type 0 where
  pub mid_client : JointEnd
  pub mid_server : JointEnd
  pub round : IsRound client server mid_client mid_server
  pub rest : AreRounds mid_client mid_server count new_client new_server

pub first_round : (client server : JointEnd) (count : ℕ) (new_client new_server : JointEnd)
    → AreRounds client server (suc count) new_client new_server
    → FirstRound client server count new_client new_server
first_round client server zero new_client new_server (one_more no_round round) =
    record {
      mid_client = new_client;
      mid_server = new_server;
      round = round;
      rest = no_round;
    }
first_round client server (suc count) new_client new_server
    (one_more {mid_client = mid_client} {mid_server = mid_server} rounds round) =
    let first = first_round client server count mid_client mid_server rounds in
    record {
      mid_client = first.mid_client;
      mid_server = first.mid_server;
      round = first.round;
      rest = one_more first.rest round;
    }

-- Ends that are up after some rounds were so before.
pub up_then : (client_values server_values : Values) (made : List Made)
    (client server : JointEnd) (count : ℕ) (new_client new_server : JointEnd)
    → IsJoint client_values server_values made client server
    → AreRounds client server count new_client new_server
    → new_client.happened.log.failed ≡ None → new_server.happened.log.failed ≡ None
    → (client.happened.log.failed ≡ None) × (server.happened.log.failed ≡ None)
up_then client_values server_values made client server _ _ _ joint no_round client_up server_up =
    (client_up, server_up)
up_then client_values server_values made client server _ new_client new_server joint
    (one_more {count = count} {mid_client = mid_client} {mid_server = mid_server} rounds round)
    client_up server_up =
    let come = come_by client_values server_values made client server count mid_client mid_server
    joint rounds in
    let up = up_before client_values server_values come.made mid_client mid_server new_client
    new_server come.joint round client_up server_up in
    up_then client_values server_values made client server count mid_client mid_server joint rounds
    up.0 up.1

-- Two joined ends after which all that was sent in the round before has come, and in whose outputs
-- there is room.
pub record Regular (client_values server_values : Values) (client server : JointEnd) : Type 0 where
  pub made : List Made
  pub joint : IsJoint client_values server_values made client server
  pub to_server : HasCome client.happened.log server.happened.log
  pub to_client : HasCome server.happened.log client.happened.log
  pub client_room : with_owed client.happened.log ≤ 39273
  pub server_room : with_owed server.happened.log ≤ 39273

module _ (client_values server_values : Values) (made : List Made)
    (c0 s0 c1 s1 : JointEnd) (joint : IsJoint client_values server_values made c0 s0)
    (round : IsRound c0 s0 c1 s1) (client_up : c1.happened.log.failed ≡ None)
    (server_up : s1.happened.log.failed ≡ None) where
  abbrev pub of_client : Turn Client Server client_values server_values c0.happened s0.happened
      c1.happened s1.happened
  of_client = client_turn client_values server_values made c0 s0 c1 s1 joint round client_up
      server_up

  abbrev pub of_server : Turn Server Client server_values client_values s0.happened c0.happened
      s1.happened c1.happened
  of_server = server_turn client_values server_values made c0 s0 c1 s1 joint round client_up
      server_up

  pub next_joint : IsJoint client_values server_values (round.acts ++ made) c1 s1
  next_joint = joint_after client_values server_values made c0 s0 round.acts c1 s1 joint
      round.leads

  -- After it all that was sent has come,
  pub come_to_server : HasCome c1.happened.log s1.happened.log
  come_to_server = has_come Client Server client_values server_values c0.happened s0.happened
      c1.happened s1.happened of_client

  pub come_to_client : HasCome s1.happened.log c1.happened.log
  come_to_client = has_come Server Client server_values client_values s0.happened c0.happened
      s1.happened c1.happened of_server

  -- and no more waits.
  pub both_kept : shares_both c1 s1 ≤ shares_both c0 s0
  both_kept =
      let one = shares_kept Client Server client_values server_values c0.happened s0.happened
      c1.happened s1.happened of_client in
      let two = shares_kept Server Client server_values client_values s0.happened c0.happened
      s1.happened c1.happened of_server in
      omega (arith, one, two)

  module _ (to_server : HasCome c0.happened.log s0.happened.log)
      (to_client : HasCome s0.happened.log c0.happened.log) where
    -- There is room where all had come before,
    pub client_room : with_owed c1.happened.log < full_output
    client_room = r_room Server Client server_values client_values s0.happened c0.happened
        s1.happened c1.happened of_server to_client

    pub server_room : with_owed s1.happened.log < full_output
    server_room = r_room Client Server client_values server_values c0.happened s0.happened
        c1.happened s1.happened of_client to_server

    -- and more where there was room.
    pub next_regular : with_owed c0.happened.log < full_output
        → with_owed s0.happened.log < full_output
        → Regular client_values server_values c1 s1
    next_regular client_had server_had = record {
      made = round.acts ++ made;
      joint = next_joint;
      to_server = come_to_server;
      to_client = come_to_client;
      client_room = r_more_room Server Client server_values client_values s0.happened c0.happened
          s1.happened c1.happened of_server to_client client_had;
      server_room = r_more_room Client Server client_values server_values c0.happened s0.happened
          c1.happened s1.happened of_client to_server server_had;
    }

module _ (client_values server_values : Values) (c0 s0 c1 s1 : JointEnd)
    (regular : Regular client_values server_values c0 s0) (round : IsRound c0 s0 c1 s1)
    (client_up : c1.happened.log.failed ≡ None) (server_up : s1.happened.log.failed ≡ None) where
  abbrev pub client_does : Turn Client Server client_values server_values c0.happened s0.happened
      c1.happened s1.happened
  client_does = of_client client_values server_values regular.made c0 s0 c1 s1 regular.joint round
      client_up server_up

  abbrev pub server_does : Turn Server Client server_values client_values s0.happened c0.happened
      s1.happened c1.happened
  server_does = of_server client_values server_values regular.made c0 s0 c1 s1 regular.joint round
      client_up server_up

  client_has : with_owed c0.happened.log < full_output
  client_has = let room = regular.client_room in omega (arith, room)

  server_has : with_owed s0.happened.log < full_output
  server_has = let room = regular.server_room in omega (arith, room)

  pub regular_then : Regular client_values server_values c1 s1
  regular_then = next_regular client_values server_values regular.made c0 s0 c1 s1 regular.joint
      round client_up server_up regular.to_server regular.to_client client_has server_has

  pub kept_then : shares_both c1 s1 ≤ shares_both c0 s0
  kept_then = both_kept client_values server_values regular.made c0 s0 c1 s1 regular.joint round
      client_up server_up

  -- What is returned stays so.
  pub client_stays : c0.happened.log.unreturned ≡ 0 → c1.happened.log.unreturned ≡ 0
  client_stays none = r_stays Server Client server_values client_values s0.happened c0.happened
      s1.happened c1.happened server_does regular.to_client client_has none

  pub server_stays : s0.happened.log.unreturned ≡ 0 → s1.happened.log.unreturned ≡ 0
  server_stays none = r_stays Client Server client_values server_values c0.happened s0.happened
      c1.happened s1.happened client_does regular.to_server server_has none

  -- Each end returns all, or sends much.
  pub client_returns : (c1.happened.log.unreturned ≡ 0) ⊎ Loses c0.happened c1.happened
  client_returns =
      let room = regular_then.client_room in
      let sends = turn_sends Client Server client_values server_values c0.happened s0.happened
      c1.happened s1.happened client_does in
      elim (w_returns Client Server client_values server_values c0.happened s0.happened
      c1.happened s1.happened client_does regular.to_server regular.client_room
      (omega (arith, room))) [
        | inl none ↦ inl none
        | inr (inl much) ↦ inr (inr (omega (arith, much, sends)))
        | inr (inr (id, alive, fewer)) ↦ inr (inl (turn_piece_goes Client Server client_values
            server_values c0.happened s0.happened c1.happened s1.happened client_does id alive
            fewer))
      ]

  pub server_returns : (s1.happened.log.unreturned ≡ 0) ⊎ Loses s0.happened s1.happened
  server_returns =
      let room = regular_then.server_room in
      let sends = turn_sends Server Client server_values client_values s0.happened c0.happened
      s1.happened c1.happened server_does in
      elim (w_returns Server Client server_values client_values s0.happened c0.happened
      s1.happened c1.happened server_does regular.to_client regular.server_room
      (omega (arith, room))) [
        | inl none ↦ inl none
        | inr (inl much) ↦ inr (inr (omega (arith, much, sends)))
        | inr (inr (id, alive, fewer)) ↦ inr (inl (turn_piece_goes Server Client server_values
            client_values s0.happened c0.happened s1.happened c1.happened server_does id alive
            fewer))
      ]

  -- No more octets wait, and no more pieces.
  pub client_less : (octets_left c1.happened ≤ octets_left c0.happened)
      × (pieces_left c1.happened ≤ pieces_left c0.happened)
  client_less = (
    turn_octets Client Server client_values server_values c0.happened s0.happened c1.happened
        s1.happened client_does,
    turn_pieces Client Server client_values server_values c0.happened
        s0.happened c1.happened s1.happened client_does,
  )

  pub server_less : (octets_left s1.happened ≤ octets_left s0.happened)
      × (pieces_left s1.happened ≤ pieces_left s0.happened)
  server_less = (
    turn_octets Server Client server_values client_values s0.happened c0.happened s1.happened
        c1.happened server_does,
    turn_pieces Server Client server_values client_values s0.happened
        c0.happened s1.happened c1.happened server_does,
  )

  -- Where nothing waits and nothing is unreturned, no work is left after the round.
  pub no_work_then : c0.happened.log.unreturned ≡ 0 → s0.happened.log.unreturned ≡ 0
      → tokens_left c0.happened ≡ 0 → tokens_left s0.happened ≡ 0
      → work_left c1.happened s1.happened ≡ 0
  no_work_then client_none server_none client_empty server_empty =
      let server_back = r_returned Client Server client_values server_values c0.happened
      s0.happened c1.happened s1.happened client_does regular.to_server server_has server_none in
      let client_back = r_returned Server Client server_values client_values s0.happened
      c0.happened s1.happened c1.happened server_does regular.to_client client_has client_none in
      let server_quiet = quiet_reader Client Server client_values server_values c0.happened
      s0.happened c1.happened s1.happened client_does regular.to_server client_empty server_back in
      let client_quiet = quiet_reader Server Client server_values client_values s0.happened
      c0.happened s1.happened c1.happened server_does regular.to_client server_empty client_back in
      let to_client = none_under_way Client Server client_values server_values c0.happened
      s0.happened c1.happened s1.happened client_does regular.to_server client_empty server_back in
      let to_server = none_under_way Server Client server_values client_values s0.happened
      c0.happened s1.happened c1.happened server_does regular.to_client server_empty client_back in
      let client_then = none_waits_then Client Server client_values server_values c0.happened
      s0.happened c1.happened s1.happened client_does regular.to_server client_empty server_back in
      let server_then = none_waits_then Server Client server_values client_values s0.happened
      c0.happened s1.happened c1.happened server_does regular.to_client server_empty client_back in
      omega (arith, server_quiet.0, client_quiet.0, to_client, to_server, client_then, server_then)

module _ (client_values server_values : Values) (c0 s0 c1 s1 c2 s2 : JointEnd)
    (regular : Regular client_values server_values c0 s0) (one : IsRound c0 s0 c1 s1)
    (two : IsRound c1 s1 c2 s2) (client_up : c1.happened.log.failed ≡ None)
    (server_up : s1.happened.log.failed ≡ None)
    (client_still : c2.happened.log.failed ≡ None)
    (server_still : s2.happened.log.failed ≡ None) where
  between : Regular client_values server_values c1 s1
  between = regular_then client_values server_values c0 s0 c1 s1 regular one client_up server_up

  -- In two rounds a share fewer waits at an end where something does, and its credit comes back.
  pub client_progress : s0.happened.log.unreturned ≡ 0 → tokens_left c0.happened ≢ 0
      → shares_both c2 s2 + 1 ≤ shares_both c0 s0
  client_progress none some =
      let room = regular.client_room in
      let room_then = between.client_room in
      let server_room = regular.server_room in
      let goes = progress Client Server client_values server_values c0.happened s0.happened
      c1.happened s1.happened c2.happened s2.happened
      (client_does client_values server_values c0 s0 c1 s1 regular one client_up server_up)
      (client_does client_values server_values c1 s1 c2 s2 between two client_still server_still)
      regular.to_server (r_returned Client Server client_values server_values c0.happened
      s0.happened c1.happened s1.happened (client_does client_values server_values c0 s0 c1 s1
      regular one client_up server_up) regular.to_server (omega (arith, server_room)) none)
      (omega (arith, room)) (omega (arith, room_then)) some in
      let kept = shares_kept Server Client server_values client_values s0.happened c0.happened
      s1.happened c1.happened (server_does client_values server_values c0 s0 c1 s1 regular one
      client_up server_up) in
      let kept_later = shares_kept Server Client server_values client_values s1.happened
      c1.happened s2.happened c2.happened (server_does client_values server_values c1 s1 c2 s2
      between two client_still server_still) in
      omega (arith, goes, kept, kept_later)

  pub server_progress : c0.happened.log.unreturned ≡ 0 → tokens_left s0.happened ≢ 0
      → shares_both c2 s2 + 1 ≤ shares_both c0 s0
  server_progress none some =
      let room = regular.server_room in
      let room_then = between.server_room in
      let client_room = regular.client_room in
      let goes = progress Server Client server_values client_values s0.happened c0.happened
      s1.happened c1.happened s2.happened c2.happened
      (server_does client_values server_values c0 s0 c1 s1 regular one client_up server_up)
      (server_does client_values server_values c1 s1 c2 s2 between two client_still server_still)
      regular.to_client (r_returned Server Client server_values client_values s0.happened
      c0.happened s1.happened c1.happened (server_does client_values server_values c0 s0 c1 s1
      regular one client_up server_up) regular.to_client (omega (arith, client_room)) none)
      (omega (arith, room)) (omega (arith, room_then)) some in
      let kept = shares_kept Client Server client_values server_values c0.happened s0.happened
      c1.happened s1.happened (client_does client_values server_values c0 s0 c1 s1 regular one
      client_up server_up) in
      let kept_later = shares_kept Client Server client_values server_values c1.happened
      s1.happened c2.happened s2.happened (client_does client_values server_values c1 s1 c2 s2
      between two client_still server_still) in
      omega (arith, goes, kept, kept_later)
