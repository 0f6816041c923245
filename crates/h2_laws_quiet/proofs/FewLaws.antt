-- The law of two rounds, for each of two joined ends.
use Rattle.std.proofs.Common.{◌≡◌, ◌≢◌, inl, inr, ℕ, ◌-◌, ◌≤◌, ◌<◌, List}
use Rattle.std.proofs.Common.{None, arith}
use Rattle.std.proofs.lemmas.Bool.{cases_eq}
use Rattle.h2_spec_log.specs.declared.role.Role.{Role}
use Rattle.h2_spec_log.specs.declared.role.Role.TheVariants.{Client, Server}
use Rattle.h2_spec_log.specs.Acts.{Values}
use Rattle.h2_spec_log.specs.Limits.{full_output}
use Rattle.h2_spec_log.specs.Log.{waiting}
use Rattle.h2_ends.specs.Ends.{EndLog, tokens_waiting}
unfoldable use Rattle.h2_ends.specs.EndCalls.{octets_among, unsent_on}
use Rattle.h2_joined.specs.Joints.{JointEnd, Made, IsJoint}
use Rattle.h2_laws_quiet.specs.Room.{CreditHasRoom, window_ahead}
use Rattle.h2_laws_quiet.specs.Rounds.{all_octets, IsRound}
use Rattle.h2_laws_quiet.specs.Work.{credit_left}
unfoldable use Rattle.h2_laws_quiet.specs.Work.{tokens_on}
use Rattle.h2_laws_quiet.proofs.FewReleases.{release_all_waits, none_left, owes_none}
use Rattle.h2_laws_quiet.proofs.FewReleases.{none_unreturned_moved}
use Rattle.h2_laws_quiet.proofs.FewRounds.{HasCome, has_come, some_first, window_goes}
use Rattle.h2_laws_quiet.proofs.FewPieces.{unsent_none, unsent_alive}
use Rattle.h2_laws_quiet.proofs.FewTurns.{Turn, client_turn, server_turn}
use Rattle.h2_laws_quiet.proofs.FewWindows.{alive_by}
use Rattle.h2_laws_quiet.proofs.ManyRounds.{joint_after}
use Rattle.h2_laws_quiet.proofs.RoundQuiet.{up_before}
use Rattle.h2_laws_quiet.proofs.RoundSides.{put_out_end}

module _ (role other : Role) (values others : Values) (w0 r0 w1 r1 w2 r2 : EndLog)
    (a : Turn role other values others w0 r0 w1 r1)
    (b : Turn role other values others w1 r1 w2 r2) (i : ℕ) (come : HasCome w0.log r0.log)
    (w_room : CreditHasRoom w0.log) (r_room : CreditHasRoom r0.log)
    (mid_room : CreditHasRoom w1.log)
    (none : (j : ℕ) → j < i → tokens_on w0 j ≡ 0) where
  -- The outputs have room as the writer pumps,
  room_first : waiting a.w_released.log < full_output
  room_first =
      let waits = release_all_waits role values w0 a.w_released a.writes.release a.writes.releases
      a.w_log in
      let room = w_room.output in
      omega (arith, waits.0, room)

  room_then : waiting b.w_released.log < full_output
  room_then =
      let waits = release_all_waits role values w1 b.w_released b.writes.release b.writes.releases
      b.w_log in
      let room = mid_room.output in
      omega (arith, waits.0, room)

  -- and all credit comes back in the first round.
  all_back : credit_left (put_out_end a.r_pumped all_octets a.back).log ≡ 0
  all_back =
      let owes = owes_none other others r0 a.r_released a.r_pumped a.reads.release a.reads.pump
      all_octets a.back a.reads.releases a.reads.release_had a.reads.up_first a.r_log
      a.reads.log_released a.reads.log_pumped r_room.output a.reads.pumps a.typed a.reads.moves in
      none_left other others (put_out_end a.r_pumped all_octets a.back).log owes.1
      (none_unreturned_moved other others r0 a.r_released a.r_pumped a.reads.release a.reads.pump
      all_octets a.back a.reads.releases a.r_log a.reads.log_released a.reads.pumps owes.0
      r_room.none_unreturned)

  unsent_first : tokens_on w2 i ≢ 0 → unsent_on w0 i ≡ octets_among (tokens_waiting w0 i)
  unsent_first some =
      unsent_alive w0 i (alive_by w0 i (some_first role other values others w0 r0 w1 r1 a i
      (some_first role other values others w1 r1 w2 r2 b i some)))

  two_turns : unsent_on w2 i ≤ unsent_on w0 i - window_ahead r0.log
  two_turns = elim (cases_eq (tokens_on w2 i) 0) [
    | inl nothing ↦ let zero_left = unsent_none w2 i nothing in omega (arith, zero_left)
    | inr some ↦
        let goes = window_goes role other values others w0 r0 w1 r1 w2 r2 a b i come all_back
        room_first room_then none some in
        let last = unsent_alive w2 i (alive_by w2 i some) in
        let first = unsent_first some in
        omega (arith, goes, last, first)
  ]

-- What is known of three rounds, one after another.
record ThreeRounds (client_values server_values : Values)
    (old_client old_server client server mid_client mid_server new_client new_server : JointEnd)
    : Type 0 where
  made : List Made
  made_first : List Made
  made_then : List Made
  joint : IsJoint client_values server_values made old_client old_server
  joint_first : IsJoint client_values server_values made_first client server
  joint_then : IsJoint client_values server_values made_then mid_client mid_server
  client_up : client.happened.log.failed ≡ None
  server_up : server.happened.log.failed ≡ None
  mid_client_up : mid_client.happened.log.failed ≡ None
  mid_server_up : mid_server.happened.log.failed ≡ None

module _ (client_values server_values : Values) (made : List Made)
    (old_client old_server client server mid_client mid_server new_client new_server : JointEnd)
    (joint : IsJoint client_values server_values made old_client old_server)
    (before : IsRound old_client old_server client server)
    (one : IsRound client server mid_client mid_server)
    (two : IsRound mid_client mid_server new_client new_server)
    (client_up : new_client.happened.log.failed ≡ None)
    (server_up : new_server.happened.log.failed ≡ None) where
  three : ThreeRounds client_values server_values old_client old_server client server mid_client
      mid_server new_client new_server
  three =
      let first = joint_after client_values server_values made old_client old_server before.acts
      client server joint before.leads in
      let then = joint_after client_values server_values _ client server one.acts mid_client
      mid_server first one.leads in
      let mid_up = up_before client_values server_values _ mid_client mid_server new_client
      new_server then two client_up server_up in
      let up = up_before client_values server_values _ client server mid_client mid_server first
      one mid_up.0 mid_up.1 in
      record {
        made = made;
        made_first = _;
        made_then = _;
        joint = joint;
        joint_first = first;
        joint_then = then;
        client_up = up.0;
        server_up = up.1;
        mid_client_up = mid_up.0;
        mid_server_up = mid_up.1;
      }

  pub window_to_server : (i : ℕ) → CreditHasRoom client.happened.log
      → CreditHasRoom server.happened.log → CreditHasRoom mid_client.happened.log
      → ((j : ℕ) → j < i → tokens_on client.happened j ≡ 0)
      → unsent_on new_client.happened i
      ≤ unsent_on client.happened i - window_ahead server.happened.log
  window_to_server i room other_room mid_room none =
      two_turns Client Server client_values server_values client.happened server.happened
      mid_client.happened mid_server.happened new_client.happened new_server.happened
      (client_turn client_values server_values three.made_first client server mid_client mid_server
      three.joint_first one three.mid_client_up three.mid_server_up)
      (client_turn client_values server_values three.made_then mid_client mid_server new_client
      new_server three.joint_then two client_up server_up) i
      (has_come Client Server client_values server_values old_client.happened
      old_server.happened client.happened server.happened (client_turn client_values server_values
      made old_client old_server client server joint before three.client_up three.server_up))
      room other_room mid_room none

  pub window_to_client : (i : ℕ) → CreditHasRoom server.happened.log
      → CreditHasRoom client.happened.log → CreditHasRoom mid_server.happened.log
      → ((j : ℕ) → j < i → tokens_on server.happened j ≡ 0)
      → unsent_on new_server.happened i
      ≤ unsent_on server.happened i - window_ahead client.happened.log
  window_to_client i room other_room mid_room none =
      two_turns Server Client server_values client_values server.happened client.happened
      mid_server.happened mid_client.happened new_server.happened new_client.happened
      (server_turn client_values server_values three.made_first client server mid_client mid_server
      three.joint_first one three.mid_client_up three.mid_server_up)
      (server_turn client_values server_values three.made_then mid_client mid_server new_client
      new_server three.joint_then two client_up server_up) i
      (has_come Server Client server_values client_values old_server.happened
      old_client.happened server.happened client.happened (server_turn client_values server_values
      made old_client old_server client server joint before three.client_up three.server_up))
      room other_room mid_room none
