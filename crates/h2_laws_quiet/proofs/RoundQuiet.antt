-- After a round in which memory sufficed and neither end failed, two joined ends are quiet, or
-- less work is left.
use Rattle.std.proofs.Common.{◌≡◌, ◌⊎◌, inl, inr, ◌+◌, ◌≤◌, ◌<◌, nat_lt, List, []}
use Rattle.std.proofs.Common.{length, None, sym, ap, ◌∙◌, arith, subst, ltb-true, ltb-false}
use Rattle.std.proofs.lemmas.Bool.{cases_Bool}
use Rattle.h2_block.specs.Grouping.{Item}
use Rattle.h2_spec_log.specs.declared.role.Role.TheVariants as roles
use Rattle.h2_spec_log.specs.Acts.{Values, PutOut, Count}
use Rattle.h2_spec_log.specs.LogCalls.{MayAnswer}
use Rattle.h2_laws_pair.proofs.Arrived.{all_arrived}
use Rattle.h2_laws_pair.proofs.BothWays.{to_server, to_client, ends_of}
use Rattle.h2_laws_pair.proofs.CarriedItems.{way_of}
use Rattle.h2_laws_pair.proofs.CarriedOctets.{carried}
use Rattle.h2_ends.specs.Ends.{EndLog}
use Rattle.h2_ends.specs.EndCalls.{MayPump, MayReleaseAll}
use Rattle.h2_joined.specs.declared.act.Side.TheVariants.{Client, Server}
use Rattle.h2_joined.specs.Headline.{AreQuiet}
use Rattle.h2_joined.specs.Joints.{JointEnd, Made, IsJoint, MayDo, Delivers, half_of}
use Rattle.h2_joined.proofs.JointHolds.{turned}
use Rattle.h2_laws_quiet.specs.Rounds.{all_octets, IsRound}
use Rattle.h2_laws_quiet.specs.Work.{work_left}
use Rattle.h2_laws_quiet.proofs.OutputGiven.{all_given, all_put_out, waits_as}
use Rattle.h2_laws_quiet.proofs.RoundActs.{Released, released_by, Pumped, pumped_by, Moved}
use Rattle.h2_laws_quiet.proofs.RoundActs.{moved_by}
use Rattle.h2_laws_quiet.proofs.RoundActs.{DeliveredTo, delivered_by, delivers_beside, other_kept}
use Rattle.h2_laws_quiet.proofs.RoundSides.{IsPath, IsStill, put_out_end, last_owes}
use Rattle.h2_laws_quiet.proofs.RoundSides.{last_unreturned, last_stuck}
use Rattle.h2_laws_quiet.proofs.RoundSteps.{Steps, steps_of, KnownSteps, known_steps}
use Rattle.h2_laws_quiet.proofs.RoundWork.{Stages, whole, ReadsNone, reads_none, SendsNone}
use Rattle.h2_laws_quiet.proofs.RoundWork.{sends_none, both_fall}
use Rattle.h2_laws_quiet.proofs.WorkOfActs.{carried_work, delivered_takes}
use Rattle.h2_laws_quiet.proofs.WorkOfDeliveries.{EndTakes}
use Rattle.h2_laws_quiet.proofs.WorkOfEnds.{EndDrives, release_all_falls, pump_falls}
use Rattle.h2_laws_quiet.proofs.WorkOfEnds.{put_out_falls}
use Rattle.h2_laws_quiet.proofs.WorkOfLogs.{credit_is}

module _ (client_values server_values : Values) (made : List Made) (c0 s0 c8 s8 : JointEnd)
    (steps : Steps c0 s0 c8 s8)
    (k : KnownSteps client_values server_values made c0 s0 c8 s8 steps)
    (client_empty : c8.incoming ≡ []) (server_empty : s8.incoming ≡ []) where
  -- What each act has done.
  r1 : Released c0 s0 steps.c1 steps.s1
  r1 = released_by c0 s0 steps.c1 steps.s1 steps.a1 steps.client_releases steps.got1

  r2 : Released steps.s1 steps.c1 steps.s2 steps.c2
  r2 = released_by steps.s1 steps.c1 steps.s2 steps.c2 steps.a2 steps.server_releases steps.got2

  p3 : Pumped steps.c2 steps.s2 steps.c3 steps.s3
  p3 = pumped_by steps.c2 steps.s2 steps.c3 steps.s3 steps.a3 steps.client_pumps steps.got3

  p4 : Pumped steps.s3 steps.c3 steps.s4 steps.c4
  p4 = pumped_by steps.s3 steps.c3 steps.s4 steps.c4 steps.a4 steps.server_pumps steps.got4

  pub m5 : Moved steps.c4 steps.s4 steps.c5 steps.s5 all_octets
  m5 = moved_by steps.c4 steps.s4 all_octets steps.c5 steps.s5 steps.a5 steps.client_moves
      steps.got5

  pub m6 : Moved steps.s5 steps.c5 steps.s6 steps.c6 all_octets
  m6 = moved_by steps.s5 steps.c5 all_octets steps.s6 steps.c6 steps.a6 steps.server_moves
      steps.got6

  d7 : DeliveredTo steps.s6 steps.c6 steps.s7 steps.c7 all_octets
  d7 = delivered_by steps.s6 steps.c6 all_octets steps.s7 steps.c7 steps.a7 steps.server_takes
      steps.got7 k.known7.server_up

  pub d8 : DeliveredTo steps.c7 steps.s7 c8 s8 all_octets
  d8 = delivered_by steps.c7 steps.s7 all_octets c8 s8 steps.a8 steps.client_takes steps.got8
      k.known8.client_up

  -- the ends once their output was given out
  abbrev pub client_moved : EndLog
  client_moved = put_out_end steps.c3.happened all_octets m5.given

  abbrev pub server_moved : EndLog
  server_moved = put_out_end steps.s4.happened all_octets m6.given

  pub client_put : steps.c6.happened ≡ client_moved
  client_put =
      m6.other_same ∙ (m5.happened
      ∙ ap (λ (end : JointEnd). put_out_end end.happened all_octets m5.given) p4.other_same)

  pub client_moved_is : steps.c7.happened ≡ client_moved
  client_moved_is = ap (λ (end : JointEnd). end.happened) d7.other_same ∙ client_put

  pub server_moved_is : steps.s6.happened ≡ server_moved
  server_moved_is = m6.happened
      ∙ ap (λ (end : EndLog). put_out_end end all_octets m6.given) m5.other_same

  client_may : MayAnswer steps.c3.happened.log (PutOut all_octets) (Count m5.given)
  client_may = subst (λ (end : JointEnd).
      MayAnswer end.happened.log (PutOut all_octets) (Count m5.given)) p4.other_same m5.may

  server_may : MayAnswer steps.s4.happened.log (PutOut all_octets) (Count m6.given)
  server_may = subst (λ (end : EndLog).
      MayAnswer end.log (PutOut all_octets) (Count m6.given)) m5.other_same m6.may

  client_pump : MayPump steps.c1.happened p3.result steps.c3.happened
  client_pump = subst (λ (end : JointEnd). MayPump end.happened p3.result steps.c3.happened)
      r2.other_same p3.may

  server_pump : MayPump steps.s2.happened p4.result steps.s4.happened
  server_pump = subst (λ (end : JointEnd). MayPump end.happened p4.result steps.s4.happened)
      p3.other_same p4.may

  server_release : MayReleaseAll s0.happened r2.result steps.s2.happened
  server_release = subst (λ (end : JointEnd).
      MayReleaseAll end.happened r2.result steps.s2.happened) r1.other_same r2.may

  client_takes : EndTakes client_moved c8.happened
  client_takes = subst (λ (end : EndLog). EndTakes end c8.happened) client_moved_is
      (delivered_takes Client client_values server_values k.made7 steps.c7 steps.s7
      k.known7.holds k.known7.had all_octets c8.happened d8.delivered)

  server_takes : EndTakes server_moved s8.happened
  server_takes = subst (λ (end : JointEnd). EndTakes server_moved end.happened) (sym d8.other_same)
      (subst (λ (end : EndLog). EndTakes end steps.s7.happened) server_moved_is
      (delivered_takes Server client_values server_values k.made6 steps.s6 steps.c6
      (turned Client client_values server_values k.made6 steps.c6 steps.s6 k.known6.holds)
      k.known6.had all_octets steps.s7.happened d7.delivered))

  -- What both ends do.
  pub client_stages : Stages c0.happened steps.c1.happened steps.c3.happened client_moved
      c8.happened
  client_stages = record {
    releases = release_all_falls roles.Client client_values c0.happened steps.c1.happened r1.result
        r1.may k.known0.client_log;
    pumps = pump_falls roles.Client client_values steps.c1.happened steps.c3.happened p3.result
        client_pump k.known1.client_log;
    moves = put_out_falls roles.Client client_values steps.c3.happened all_octets m5.given
        k.known3.client_log m5.typed client_may;
    takes = client_takes;
  }

  pub server_stages : Stages s0.happened steps.s2.happened steps.s4.happened server_moved
      s8.happened
  server_stages = record {
    releases = release_all_falls roles.Server server_values s0.happened steps.s2.happened r2.result
        server_release k.known0.server_log;
    pumps = pump_falls roles.Server server_values steps.s2.happened steps.s4.happened p4.result
        server_pump k.known2.server_log;
    moves = put_out_falls roles.Server server_values steps.s4.happened all_octets m6.given
        k.known4.server_log m6.typed server_may;
    takes = server_takes;
  }

  pub client_path : IsPath roles.Client client_values all_octets m5.given c0.happened
      steps.c1.happened steps.c3.happened c8.happened
  client_path = record {
    release = r1.result;
    releases = r1.may;
    release_had = r1.had;
    pump = p3.result;
    pumps = client_pump;
    pump_had = p3.had;
    moves = client_may;
    takes = client_takes;
    log_released = k.known1.client_log;
    log_pumped = k.known3.client_log;
    log_last = k.known8.client_log;
    up_first = k.known0.client_up;
    up_released = k.known1.client_up;
    up_pumped = k.known3.client_up;
    up_last = k.known8.client_up;
  }

  pub server_path : IsPath roles.Server server_values all_octets m6.given s0.happened
      steps.s2.happened steps.s4.happened s8.happened
  server_path = record {
    release = r2.result;
    releases = server_release;
    release_had = r2.had;
    pump = p4.result;
    pumps = server_pump;
    pump_had = p4.had;
    moves = server_may;
    takes = server_takes;
    log_released = k.known2.server_log;
    log_pumped = k.known4.server_log;
    log_last = k.known8.server_log;
    up_first = k.known0.server_up;
    up_released = k.known2.server_up;
    up_pumped = k.known4.server_up;
    up_last = k.known8.server_up;
  }

  -- No more work is left.
  abbrev client_drives : EndDrives c0.happened c8.happened
  client_drives = whole c0.happened steps.c1.happened steps.c3.happened client_moved c8.happened
      client_stages

  abbrev server_drives : EndDrives s0.happened s8.happened
  server_drives = whole s0.happened steps.s2.happened steps.s4.happened server_moved s8.happened
      server_stages

  round_falls : work_left c8.happened s8.happened
      + ((client_drives.drives.margin + length client_drives.drives.read)
      + (server_drives.drives.margin + length server_drives.drives.read))
      ≤ work_left c0.happened s0.happened
  round_falls =
      let first = k.known0 in
      let last = k.known8 in
      both_fall c0.happened s0.happened c8.happened s8.happened client_drives server_drives
      (credit_is roles.Client client_values c0.happened.log first.client_log first.client_up)
      (credit_is roles.Client client_values c8.happened.log last.client_log last.client_up)
      (credit_is roles.Server server_values s0.happened.log first.server_log first.server_up)
      (credit_is roles.Server server_values s8.happened.log last.server_log last.server_up)
      (carried_work (half_of c0 first.client_lost) (half_of s0 first.server_lost)
      (to_server first.pair))
      (carried_work (half_of s0 first.server_lost) (half_of c0 first.client_lost)
      (to_client first.pair))
      (carried_work (half_of c8 last.client_lost) (half_of s8 last.server_lost)
      (to_server last.pair))
      (carried_work (half_of s8 last.server_lost) (half_of c8 last.client_lost)
      (to_client last.pair))

  -- What arrives.
  pub server_arrived : steps.s7.happened.log.received ≡ steps.c7.happened.log.sent
  server_arrived =
      let one = half_of steps.c7 k.known7.client_lost in
      let two = half_of steps.s7 k.known7.server_lost in
      all_arrived one two (ends_of one two (to_server k.known7.pair))
      (carried one two (to_server k.known7.pair)) k.known7.server_up
      (ap (λ (end : JointEnd). end.incoming) (sym d8.other_same) ∙ server_empty)
      (subst (λ (end : EndLog). end.log.given ≡ length end.log.written) (sym client_moved_is)
      (all_put_out roles.Client client_values steps.c3.happened.log all_octets m5.given
      k.known3.client_log (omega arith) client_may))

  pub client_arrived : c8.happened.log.received ≡ steps.s6.happened.log.sent
  client_arrived =
      let one = half_of steps.s6 k.known_beside.server_lost in
      let two = half_of c8 k.known_beside.client_lost in
      all_arrived one two (ends_of one two (to_client k.known_beside.pair))
      (carried one two (to_client k.known_beside.pair)) k.known_beside.client_up client_empty
      (subst (λ (end : EndLog). end.log.given ≡ length end.log.written) (sym server_moved_is)
      (all_put_out roles.Server server_values steps.s4.happened.log all_octets m6.given
      k.known4.server_log (omega arith) server_may))

  module _ (client_reads : ReadsNone c0.happened steps.c1.happened steps.c3.happened client_moved
      c8.happened) (server_reads : ReadsNone s0.happened steps.s2.happened steps.s4.happened
      server_moved s8.happened) where
    -- What the ends have read is as at first.
    client_received : c8.happened.log.received ≡ c0.happened.log.received
    client_received = client_reads.last_received ∙ (client_reads.pumped_received
        ∙ client_reads.released_received)

    server_received : s8.happened.log.received ≡ s0.happened.log.received
    server_received = server_reads.last_received ∙ (server_reads.pumped_received
        ∙ server_reads.released_received)

    -- So all that was sent was read at first, and nothing was sent.
    client_all : client_moved.log.sent ≡ s0.happened.log.received
    client_all =
        ap (λ (end : EndLog). end.log.sent) (sym client_moved_is) ∙ (sym server_arrived
        ∙ (ap (λ (end : JointEnd). end.happened.log.received) (sym d8.other_same)
        ∙ server_received))

    server_all : server_moved.log.sent ≡ c0.happened.log.received
    server_all = ap (λ (end : EndLog). end.log.sent) (sym server_moved_is)
        ∙ (sym client_arrived ∙ client_received)

    abbrev client_way : List Item
    client_way = (way_of (half_of c0 k.known0.client_lost) (half_of s0 k.known0.server_lost)
        (to_server k.known0.pair)).0

    abbrev server_way : List Item
    server_way = (way_of (half_of s0 k.known0.server_lost) (half_of c0 k.known0.client_lost)
        (to_client k.known0.pair)).0

    client_sends : SendsNone c0.happened steps.c1.happened steps.c3.happened client_moved
        client_way
    client_sends = sends_none c0.happened steps.c1.happened steps.c3.happened client_moved
        c8.happened client_way s0.happened.log.received client_stages
        (way_of (half_of c0 k.known0.client_lost) (half_of s0 k.known0.server_lost)
        (to_server k.known0.pair)).1 client_all

    server_sends : SendsNone s0.happened steps.s2.happened steps.s4.happened server_moved
        server_way
    server_sends = sends_none s0.happened steps.s2.happened steps.s4.happened server_moved
        s8.happened server_way c0.happened.log.received server_stages
        (way_of (half_of s0 k.known0.server_lost) (half_of c0 k.known0.client_lost)
        (to_client k.known0.pair)).1 server_all

    -- What the ends have sent is what the others had read at first.
    client_pumped : steps.c3.happened.log.sent ≡ s0.happened.log.received
    client_pumped = sym client_sends.moved_sent ∙ client_all

    client_released : steps.c1.happened.log.sent ≡ s0.happened.log.received
    client_released = sym client_sends.pumped_sent ∙ client_pumped

    server_pumped : steps.s4.happened.log.sent ≡ c0.happened.log.received
    server_pumped = sym server_sends.moved_sent ∙ server_all

    server_released : steps.s2.happened.log.sent ≡ c0.happened.log.received
    server_released = sym server_sends.pumped_sent ∙ server_pumped

    client_last : c8.happened.log.sent ≡ s8.happened.log.received
    client_last = client_reads.last_sent ∙ (client_all ∙ sym server_received)

    server_last : s8.happened.log.sent ≡ c8.happened.log.received
    server_last = server_reads.last_sent ∙ (server_all ∙ sym client_received)

    -- Nothing waits in the outputs.
    client_still : IsStill steps.c1.happened steps.c3.happened client_moved c8.happened
    client_still = record {
      sent_moved = client_sends.moved_sent;
      sent_last = client_reads.last_sent ∙ client_sends.moved_sent;
      received_last = client_reads.last_received;
      none_released = waits_as steps.c1.happened.log 0 (omega (
        arith,
        (all_given (half_of steps.c1 k.known1.client_lost)
            (half_of steps.s1 k.known1.server_lost)
            (to_server k.known1.pair) k.known1.server_up (client_released
            ∙ ap (λ (end : JointEnd). end.happened.log.received) (sym r1.other_same))).0,
      ));
      none_pumped = waits_as steps.c3.happened.log 0 (omega (
        arith,
        (all_given (half_of steps.c3 k.known3.client_lost)
            (half_of steps.s3 k.known3.server_lost)
            (to_server k.known3.pair) k.known3.server_up (client_pumped
            ∙ (sym server_reads.released_received
            ∙ ap (λ (end : JointEnd). end.happened.log.received) (sym p3.other_same)))).0,
      ));
    }

    server_still : IsStill steps.s2.happened steps.s4.happened server_moved s8.happened
    server_still = record {
      sent_moved = server_sends.moved_sent;
      sent_last = server_reads.last_sent ∙ server_sends.moved_sent;
      received_last = server_reads.last_received;
      none_released = waits_as steps.s2.happened.log 0 (omega (
        arith,
        (all_given (half_of steps.s2 k.known2.server_lost)
            (half_of steps.c2 k.known2.client_lost)
            (to_client k.known2.pair) k.known2.client_up (server_released
            ∙ (sym client_reads.released_received
            ∙ ap (λ (end : JointEnd). end.happened.log.received) (sym r2.other_same)))).0,
      ));
      none_pumped = waits_as steps.s4.happened.log 0 (omega (
        arith,
        (all_given (half_of steps.s4 k.known4.server_lost)
            (half_of steps.c4 k.known4.client_lost)
            (to_client k.known4.pair) k.known4.client_up (server_pumped
            ∙ (sym (client_reads.pumped_received ∙ client_reads.released_received)
            ∙ ap (λ (end : JointEnd). end.happened.log.received) (sym p4.other_same)))).0,
      ));
    }

    -- So both are quiet.
    both_quiet : AreQuiet c8 s8
    both_quiet =
        let one = half_of c8 k.known8.client_lost in
        let two = half_of s8 k.known8.server_lost in
        record {
          quiet_client = record {
            up = k.known8.client_up;
            given = (all_given one two (to_server k.known8.pair) k.known8.server_up client_last).0;
            none_owed = last_owes roles.Client client_values all_octets m5.given c0.happened
                steps.c1.happened steps.c3.happened c8.happened client_path client_still;
            none_unreturned = last_unreturned roles.Client client_values all_octets m5.given
                c0.happened steps.c1.happened steps.c3.happened c8.happened client_path
                client_still;
            stuck = last_stuck roles.Client client_values all_octets m5.given c0.happened
                steps.c1.happened steps.c3.happened c8.happened client_path client_still;
          };
          quiet_server = record {
            up = k.known8.server_up;
            given = (all_given two one (to_client k.known8.pair) k.known8.client_up server_last).0;
            none_owed = last_owes roles.Server server_values all_octets m6.given s0.happened
                steps.s2.happened steps.s4.happened s8.happened server_path server_still;
            none_unreturned = last_unreturned roles.Server server_values all_octets m6.given
                s0.happened steps.s2.happened steps.s4.happened s8.happened server_path
                server_still;
            stuck = last_stuck roles.Server server_values all_octets m6.given s0.happened
                steps.s2.happened steps.s4.happened s8.happened server_path server_still;
          };
          to_client = client_empty;
          to_server = server_empty;
          finished_client = d8.finished;
          finished_server = ap (λ (end : JointEnd). end.unfinished) d8.other_same ∙ d7.finished;
        }

  -- Where no less work is left, nothing was read.
  quiet_or_less : AreQuiet c8 s8
      ⊎ (work_left c8.happened s8.happened < work_left c0.happened s0.happened)
  quiet_or_less = elim (cases_Bool (nat_lt (work_left c8.happened s8.happened)
      (work_left c0.happened s0.happened))) [
        | inl less ↦ inr (ltb-true _ _ less)
        | inr no_less ↦
            let most = ltb-false (work_left c8.happened s8.happened)
            (work_left c0.happened s0.happened) no_less in
            inl (both_quiet
            (reads_none c0.happened steps.c1.happened steps.c3.happened client_moved c8.happened
            client_stages (omega (arith, round_falls, most)) (omega (arith, round_falls, most)))
            (reads_none s0.happened steps.s2.happened steps.s4.happened server_moved s8.happened
            server_stages (omega (arith, round_falls, most)) (omega (arith, round_falls, most))))
      ]

-- What is known of the ends between the acts.
pub steps_known : (client_values server_values : Values) (made : List Made)
    (c0 s0 c8 s8 : JointEnd) → IsJoint client_values server_values made c0 s0
    → c8.happened.log.failed ≡ None → s8.happened.log.failed ≡ None
    → (steps : Steps c0 s0 c8 s8)
    → KnownSteps client_values server_values made c0 s0 c8 s8 steps
steps_known client_values server_values made c0 s0 c8 s8 joint client_up server_up steps =
    known_steps client_values server_values made c0 s0 c8 s8 steps joint client_up server_up
    (subst (λ (end : JointEnd). MayDo end steps.s6 (Delivers all_octets) steps.a8 c8 steps.s6)
    (other_kept steps.s6 steps.c6 steps.s7 steps.c7 steps.a7 steps.server_takes)
    (delivers_beside steps.c7 steps.s7 steps.s6 all_octets c8 s8 steps.a8 steps.client_takes))

-- So it is after each round.
pub after_a_round : (client_values server_values : Values) (made : List Made)
    (client server new_client new_server : JointEnd)
    → IsJoint client_values server_values made client server
    → IsRound client server new_client new_server
    → new_client.happened.log.failed ≡ None → new_server.happened.log.failed ≡ None
    → AreQuiet new_client new_server
    ⊎ (work_left new_client.happened new_server.happened
    < work_left client.happened server.happened)
after_a_round client_values server_values made client server new_client new_server joint round
    client_up server_up =
    quiet_or_less client_values server_values made client server new_client new_server
    (steps_of client server new_client new_server round)
    (steps_known client_values server_values made client server new_client new_server joint
    client_up server_up (steps_of client server new_client new_server round))
    round.to_client round.to_server

-- Ends that are up after a round were so before it.
pub up_before : (client_values server_values : Values) (made : List Made)
    (client server new_client new_server : JointEnd)
    → IsJoint client_values server_values made client server
    → IsRound client server new_client new_server
    → new_client.happened.log.failed ≡ None → new_server.happened.log.failed ≡ None
    → (client.happened.log.failed ≡ None) × (server.happened.log.failed ≡ None)
up_before client_values server_values made client server new_client new_server joint round
    client_up server_up =
    let known = (steps_known client_values server_values made client server new_client new_server
    joint client_up server_up (steps_of client server new_client new_server round)).known0 in
    (known.client_up, known.server_up)
