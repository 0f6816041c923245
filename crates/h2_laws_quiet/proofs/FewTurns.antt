-- One direction of a round: what the writer and the reader do in it.
use Rattle.std.proofs.Common.{◌≡◌, ℕ, List, None, refl, ap, sym, ◌∙◌, subst, not}
use Rattle.h2_spec_log.specs.declared.role.Role.{Role}
use Rattle.h2_spec_log.specs.declared.role.Role.TheVariants as roles
use Rattle.h2_spec_log.specs.Acts.{Values, IsTypedAct, PutOut}
use Rattle.h2_spec_log.specs.Histories.{IsLog}
use Rattle.h2_spec_log.specs.Log.{next_unprocessed}
use Rattle.h2_spec_log.specs.Settings.{is_server}
use Rattle.h2_laws_pair.specs.Pairs.{Half}
use Rattle.h2_laws_pair.proofs.BothWays.{IsDirection, to_server, to_client}
use Rattle.h2_ends.specs.Ends.{EndLog}
use Rattle.h2_ends.proofs.EndOrder.{KeepsOrder}
use Rattle.h2_joined.specs.Joints.{JointEnd, Made, IsJoint}
use Rattle.h2_laws_quiet.specs.Rounds.{all_octets, IsRound}
use Rattle.h2_laws_quiet.proofs.RoundQuiet.{client_path, server_path, client_stages, server_stages}
use Rattle.h2_laws_quiet.proofs.RoundQuiet.{server_arrived, client_arrived, client_moved_is}
use Rattle.h2_laws_quiet.proofs.RoundQuiet.{client_put}
use Rattle.h2_laws_quiet.proofs.RoundQuiet.{server_moved_is, m5, m6, d8, steps_known}
use Rattle.h2_laws_quiet.proofs.RoundSides.{IsPath, put_out_end}
use Rattle.h2_laws_quiet.proofs.RoundSteps.{Steps, steps_of, KnownSteps}
use Rattle.h2_laws_quiet.proofs.RoundWork.{Stages}

-- the end as half of a pair
abbrev pub half_with : EndLog → (incoming lost : List ℕ) → Half
half_with end incoming lost = record { log = end.log; incoming = incoming; lost = lost }

-- Two ends of a pair, of which the reader is up.
pub record Between (writer reader : EndLog) : Type 0 where
  pub incoming : List ℕ
  pub lost : List ℕ
  pub reader_incoming : List ℕ
  pub reader_lost : List ℕ
  pub direction : IsDirection (half_with writer incoming lost)
      (half_with reader reader_incoming reader_lost)
  pub up : reader.log.failed ≡ None

-- What two ends do in a round, as the one that writes sees it.
pub record Turn (role other : Role) (values others : Values) (w0 r0 w1 r1 : EndLog) : Type 0 where
  pub given : ℕ
  pub back : ℕ
  pub w_released : EndLog
  pub w_pumped : EndLog
  pub r_released : EndLog
  pub r_pumped : EndLog
  pub writes : IsPath role values all_octets given w0 w_released w_pumped w1
  pub reads : IsPath other others all_octets back r0 r_released r_pumped r1
  pub w_stages : Stages w0 w_released w_pumped (put_out_end w_pumped all_octets given) w1
  pub r_stages : Stages r0 r_released r_pumped (put_out_end r_pumped all_octets back) r1
  -- what was sent and read
  pub came : r1.log.received ≡ (put_out_end w_pumped all_octets given).log.sent
  pub returned : w1.log.received ≡ (put_out_end r_pumped all_octets back).log.sent
  -- the two ends at first, and once all output is on the pipes
  pub first : Between w0 r0
  pub moved : Between (put_out_end w_pumped all_octets given)
      (put_out_end r_pumped all_octets back)
  pub typed : IsTypedAct (PutOut all_octets)
  pub opposite : is_server other ≡ not (is_server role)
  pub order : KeepsOrder w1
  pub w_log : IsLog role values w0.log
  pub r_log : IsLog other others r0.log
  pub reported : role ≡ roles.Client → next_unprocessed w1.log ≡ 0

module _ (client_values server_values : Values) (made : List Made) (c0 s0 c8 s8 : JointEnd)
    (joint : IsJoint client_values server_values made c0 s0) (round : IsRound c0 s0 c8 s8)
    (client_up : c8.happened.log.failed ≡ None) (server_up : s8.happened.log.failed ≡ None) where
  abbrev steps : Steps c0 s0 c8 s8
  steps = steps_of c0 s0 c8 s8 round

  abbrev k : KnownSteps client_values server_values made c0 s0 c8 s8 steps
  k = steps_known client_values server_values made c0 s0 c8 s8 joint client_up server_up steps

  abbrev put5 : ℕ
  put5 = (m5 client_values server_values made c0 s0 c8 s8 steps k round.to_client
      round.to_server).given

  abbrev put6 : ℕ
  put6 = (m6 client_values server_values made c0 s0 c8 s8 steps k round.to_client
      round.to_server).given

  abbrev client_out : EndLog
  client_out = put_out_end steps.c3.happened all_octets put5

  abbrev server_out : EndLog
  server_out = put_out_end steps.s4.happened all_octets put6

  client_is : steps.c6.happened ≡ client_out
  client_is = client_put client_values server_values made c0 s0 c8 s8 steps k round.to_client
      round.to_server

  server_is : steps.s6.happened ≡ server_out
  server_is = server_moved_is client_values server_values made c0 s0 c8 s8 steps k round.to_client
      round.to_server

  moved_to_server : IsDirection (half_with client_out steps.c6.incoming k.known6.client_lost)
      (half_with server_out steps.s6.incoming k.known6.server_lost)
  moved_to_server =
      subst (λ (one : EndLog). IsDirection
      (half_with one steps.c6.incoming k.known6.client_lost)
      (half_with server_out steps.s6.incoming k.known6.server_lost)) client_is
      (subst (λ (other : EndLog). IsDirection
      (half_with steps.c6.happened steps.c6.incoming k.known6.client_lost)
      (half_with other steps.s6.incoming k.known6.server_lost)) server_is
      (to_server k.known6.pair))

  moved_to_client : IsDirection (half_with server_out steps.s6.incoming k.known6.server_lost)
      (half_with client_out steps.c6.incoming k.known6.client_lost)
  moved_to_client =
      subst (λ (one : EndLog). IsDirection
      (half_with server_out steps.s6.incoming k.known6.server_lost)
      (half_with one steps.c6.incoming k.known6.client_lost)) client_is
      (subst (λ (other : EndLog). IsDirection
      (half_with other steps.s6.incoming k.known6.server_lost)
      (half_with steps.c6.happened steps.c6.incoming k.known6.client_lost)) server_is
      (to_client k.known6.pair))

  came_to_server : s8.happened.log.received ≡ client_out.log.sent
  came_to_server =
      ap (λ (end : JointEnd). end.happened.log.received)
      (d8 client_values server_values made c0 s0 c8 s8 steps k round.to_client
      round.to_server).other_same
      ∙ (server_arrived client_values server_values made c0 s0 c8 s8 steps k round.to_client
      round.to_server
      ∙ ap (λ (end : EndLog). end.log.sent) (client_moved_is client_values server_values made c0
      s0 c8 s8 steps k round.to_client round.to_server))

  came_to_client : c8.happened.log.received ≡ server_out.log.sent
  came_to_client =
      client_arrived client_values server_values made c0 s0 c8 s8 steps k round.to_client
      round.to_server ∙ ap (λ (end : EndLog). end.log.sent) server_is

  -- A round, as the client sees it,
  pub client_turn : Turn roles.Client roles.Server client_values server_values c0.happened
      s0.happened c8.happened s8.happened
  client_turn = record {
    given = put5;
    back = put6;
    w_released = steps.c1.happened;
    w_pumped = steps.c3.happened;
    r_released = steps.s2.happened;
    r_pumped = steps.s4.happened;
    writes = client_path client_values server_values made c0 s0 c8 s8 steps k round.to_client
        round.to_server;
    reads = server_path client_values server_values made c0 s0 c8 s8 steps k round.to_client
        round.to_server;
    w_stages = client_stages client_values server_values made c0 s0 c8 s8 steps k round.to_client
        round.to_server;
    r_stages = server_stages client_values server_values made c0 s0 c8 s8 steps k round.to_client
        round.to_server;
    came = came_to_server;
    returned = came_to_client;
    first = record {
      incoming = c0.incoming;
      lost = k.known0.client_lost;
      reader_incoming = s0.incoming;
      reader_lost = k.known0.server_lost;
      direction = to_server k.known0.pair;
      up = k.known0.server_up;
    };
    moved = record {
      incoming = steps.c6.incoming;
      lost = k.known6.client_lost;
      reader_incoming = steps.s6.incoming;
      reader_lost = k.known6.server_lost;
      direction = moved_to_server;
      up = ap (λ (end : EndLog). end.log.failed) (sym server_is) ∙ k.known6.server_up;
    };
    typed = (m5 client_values server_values made c0 s0 c8 s8 steps k round.to_client
        round.to_server).typed;
    opposite = refl;
    order = k.known8.holds.order;
    w_log = k.known0.client_log;
    r_log = k.known0.server_log;
    reported = λ is. (k.known8.holds.stays.calm k.known8.had).reported
        (d8 client_values server_values made c0 s0 c8 s8 steps k round.to_client
        round.to_server).finished;
  }

  -- and as the server does.
  pub server_turn : Turn roles.Server roles.Client server_values client_values s0.happened
      c0.happened s8.happened c8.happened
  server_turn = record {
    given = put6;
    back = put5;
    w_released = steps.s2.happened;
    w_pumped = steps.s4.happened;
    r_released = steps.c1.happened;
    r_pumped = steps.c3.happened;
    writes = server_path client_values server_values made c0 s0 c8 s8 steps k round.to_client
        round.to_server;
    reads = client_path client_values server_values made c0 s0 c8 s8 steps k round.to_client
        round.to_server;
    w_stages = server_stages client_values server_values made c0 s0 c8 s8 steps k round.to_client
        round.to_server;
    r_stages = client_stages client_values server_values made c0 s0 c8 s8 steps k round.to_client
        round.to_server;
    came = came_to_client;
    returned = came_to_server;
    first = record {
      incoming = s0.incoming;
      lost = k.known0.server_lost;
      reader_incoming = c0.incoming;
      reader_lost = k.known0.client_lost;
      direction = to_client k.known0.pair;
      up = k.known0.client_up;
    };
    moved = record {
      incoming = steps.s6.incoming;
      lost = k.known6.server_lost;
      reader_incoming = steps.c6.incoming;
      reader_lost = k.known6.client_lost;
      direction = moved_to_client;
      up = ap (λ (end : EndLog). end.log.failed) (sym client_is) ∙ k.known6.client_up;
    };
    typed = (m5 client_values server_values made c0 s0 c8 s8 steps k round.to_client
        round.to_server).typed;
    opposite = refl;
    order = k.known8.holds.other_order;
    w_log = k.known0.server_log;
    r_log = k.known0.client_log;
    reported = λ is. cc;
  }
