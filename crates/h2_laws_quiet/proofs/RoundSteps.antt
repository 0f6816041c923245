-- The acts of a round, one after another, and what is known of the ends between them.
use Rattle.std.proofs.Common.{◌≡◌, List, [], ◌∷◌, None, subst, ℕ, map as each}
use Rattle.std.specs.List.{AllByRecursion}
use Rattle.h2_spec_log.specs.declared.role.Role.TheVariants as roles
use Rattle.h2_spec_log.specs.Acts.{Values}
use Rattle.h2_spec_log.specs.Histories.{IsLog}
use Rattle.h2_laws_pair.specs.Pairs.{IsPair}
use Rattle.h2_joined.specs.declared.act.Side.{Side}
use Rattle.h2_joined.specs.declared.act.Side.TheVariants.{Client, Server}
use Rattle.h2_joined.specs.declared.act.Acted.{Acted}
use Rattle.h2_joined.specs.Joints.{JointEnd, Made, Doing, MayDo, IsNextAct, IsJoint, Pumps}
use Rattle.h2_joined.specs.Joints.{ReleasesAll, Moves, Delivers, half_of}
use Rattle.h2_joined.specs.Joints as joints
use Rattle.h2_joined.specs.Runs.{ActsLeadTo, GotMemory, act_made}
use Rattle.h2_joined.proofs.HoldsSides.{faultless_at}
use Rattle.h2_joined.proofs.JointActs.{joint_holds}
use Rattle.h2_joined.proofs.JointHolds.{JointHolds, AllHadMemory, log_of, turned}
use Rattle.h2_joined.proofs.JointMemory.{had_memory, none_was_ended}
use Rattle.h2_laws_quiet.specs.Rounds.{all_octets, round_doings, IsRound}
use Rattle.h2_laws_quiet.proofs.RoundActs.{made_as, last_act, no_act, client_act, server_act}
use Rattle.h2_laws_quiet.proofs.WorkOfActs.{up_had_memory}

-- The ends after each act of a round, and the acts.
pub record Steps (c0 s0 c8 s8 : JointEnd) : Type 0 where
  pub c1 : JointEnd
  pub s1 : JointEnd
  pub c2 : JointEnd
  pub s2 : JointEnd
  pub c3 : JointEnd
  pub s3 : JointEnd
  pub c4 : JointEnd
  pub s4 : JointEnd
  pub c5 : JointEnd
  pub s5 : JointEnd
  pub c6 : JointEnd
  pub s6 : JointEnd
  pub c7 : JointEnd
  pub s7 : JointEnd
  pub a1 : Acted
  pub a2 : Acted
  pub a3 : Acted
  pub a4 : Acted
  pub a5 : Acted
  pub a6 : Acted
  pub a7 : Acted
  pub a8 : Acted
  pub client_releases : MayDo c0 s0 ReleasesAll a1 c1 s1
  pub server_releases : MayDo s1 c1 ReleasesAll a2 s2 c2
  pub client_pumps : MayDo c2 s2 Pumps a3 c3 s3
  pub server_pumps : MayDo s3 c3 Pumps a4 s4 c4
  pub client_moves : MayDo c4 s4 (Moves all_octets) a5 c5 s5
  pub server_moves : MayDo s5 c5 (Moves all_octets) a6 s6 c6
  pub server_takes : MayDo s6 c6 (Delivers all_octets) a7 s7 c7
  pub client_takes : MayDo c7 s7 (Delivers all_octets) a8 c8 s8
  pub got1 : GotMemory a1
  pub got2 : GotMemory a2
  pub got3 : GotMemory a3
  pub got4 : GotMemory a4
  pub got5 : GotMemory a5
  pub got6 : GotMemory a6
  pub got7 : GotMemory a7
  pub got8 : GotMemory a8

-- Two ends to which an act has led from ends of which this is known.
record Then (P : JointEnd → JointEnd → Type 0) (side : Side) (doing : Doing)
    (client server : JointEnd) : Type 0 where
  mid_client : JointEnd
  mid_server : JointEnd
  before : P mid_client mid_server
  answer : Acted
  next : IsNextAct mid_client mid_server (made_as side doing answer) client server
  got : GotMemory answer

-- the ends at first
record StartsAt (c0 s0 client server : JointEnd) : Type 0 where
  client_is : client ≡ c0
  server_is : server ≡ s0

module _ (c0 s0 : JointEnd) where
  -- What acts of these kinds lead to.
  abbrev LeadsBy : List (Side × Doing) → (JointEnd → JointEnd → Type 0) → Type 0
  LeadsBy doings P =
      (client server : JointEnd) (acts : List Made) → ActsLeadTo c0 s0 acts client server
      → each act_made acts ≡ doings → AllByRecursion (λ act. GotMemory act.acted) acts
      → P client server

  start_of : LeadsBy [] (StartsAt c0 s0)
  start_of client server acts leads are memory =
      let same = no_act c0 s0 client server acts leads are in
      record { client_is = same.0; server_is = same.1 }

  then_of : (P : JointEnd → JointEnd → Type 0) (side : Side) (doing : Doing)
      (others : List (Side × Doing)) → LeadsBy others P
      → LeadsBy ((side, doing) ∷ others) (Then P side doing)
  then_of P side doing others leads_by client server acts leads are memory =
      let last = last_act c0 s0 client server acts side doing others leads are memory in
      record {
        mid_client = last.mid_client;
        mid_server = last.mid_server;
        before = leads_by last.mid_client last.mid_server last.rest last.leads last.rest_are
            last.rest_memory;
        answer = last.answer;
        next = last.next;
        got = last.memory;
      }

  -- the acts of a round, one after another
  abbrev After1 : JointEnd → JointEnd → Type 0
  After1 = Then (StartsAt c0 s0) Client ReleasesAll

  abbrev After2 : JointEnd → JointEnd → Type 0
  After2 = Then After1 Server ReleasesAll

  abbrev After3 : JointEnd → JointEnd → Type 0
  After3 = Then After2 Client Pumps

  abbrev After4 : JointEnd → JointEnd → Type 0
  After4 = Then After3 Server Pumps

  abbrev After5 : JointEnd → JointEnd → Type 0
  After5 = Then After4 Client (Moves all_octets)

  abbrev After6 : JointEnd → JointEnd → Type 0
  After6 = Then After5 Server (Moves all_octets)

  abbrev After7 : JointEnd → JointEnd → Type 0
  After7 = Then After6 Server (Delivers all_octets)

  abbrev After8 : JointEnd → JointEnd → Type 0
  After8 = Then After7 Client (Delivers all_octets)

  after_round : LeadsBy round_doings After8
  after_round =
      then_of After7 Client (Delivers all_octets) _
      (then_of After6 Server (Delivers all_octets) _
      (then_of After5 Server (Moves all_octets) _
      (then_of After4 Client (Moves all_octets) _
      (then_of After3 Server Pumps _
      (then_of After2 Client Pumps _
      (then_of After1 Server ReleasesAll _
      (then_of (StartsAt c0 s0) Client ReleasesAll [] start_of)))))))

  -- The first act is made with the ends at first.
  from_start : (client server new_client new_server : JointEnd) (answer : Acted)
      → StartsAt c0 s0 client server → MayDo client server ReleasesAll answer new_client new_server
      → MayDo c0 s0 ReleasesAll answer new_client new_server
  from_start client server new_client new_server answer starts may =
      subst (λ (one : JointEnd). MayDo one s0 ReleasesAll answer new_client new_server)
      starts.client_is (subst (λ (other : JointEnd).
      MayDo client other ReleasesAll answer new_client new_server) starts.server_is may)

  flat : (c8 s8 : JointEnd) → After8 c8 s8 → Steps c0 s0 c8 s8
  flat c8 s8 r8 =
      let r7 : After7 r8.mid_client r8.mid_server = r8.before in
      let r6 : After6 r7.mid_client r7.mid_server = r7.before in
      let r5 : After5 r6.mid_client r6.mid_server = r6.before in
      let r4 : After4 r5.mid_client r5.mid_server = r5.before in
      let r3 : After3 r4.mid_client r4.mid_server = r4.before in
      let r2 : After2 r3.mid_client r3.mid_server = r3.before in
      let r1 : After1 r2.mid_client r2.mid_server = r2.before in
      record {
        c1 = r2.mid_client;
        s1 = r2.mid_server;
        c2 = r3.mid_client;
        s2 = r3.mid_server;
        c3 = r4.mid_client;
        s3 = r4.mid_server;
        c4 = r5.mid_client;
        s4 = r5.mid_server;
        c5 = r6.mid_client;
        s5 = r6.mid_server;
        c6 = r7.mid_client;
        s6 = r7.mid_server;
        c7 = r8.mid_client;
        s7 = r8.mid_server;
        a1 = r1.answer;
        a2 = r2.answer;
        a3 = r3.answer;
        a4 = r4.answer;
        a5 = r5.answer;
        a6 = r6.answer;
        a7 = r7.answer;
        a8 = r8.answer;
        client_releases = from_start r1.mid_client r1.mid_server r2.mid_client r2.mid_server
            r1.answer r1.before (client_act r1.mid_client r1.mid_server r2.mid_client
            r2.mid_server ReleasesAll r1.answer r1.next);
        server_releases = server_act r2.mid_client r2.mid_server r3.mid_client r3.mid_server
            ReleasesAll r2.answer r2.next;
        client_pumps = client_act r3.mid_client r3.mid_server r4.mid_client r4.mid_server Pumps
            r3.answer r3.next;
        server_pumps = server_act r4.mid_client r4.mid_server r5.mid_client r5.mid_server Pumps
            r4.answer r4.next;
        client_moves = client_act r5.mid_client r5.mid_server r6.mid_client r6.mid_server
            (Moves all_octets) r5.answer r5.next;
        server_moves = server_act r6.mid_client r6.mid_server r7.mid_client r7.mid_server
            (Moves all_octets) r6.answer r6.next;
        server_takes = server_act r7.mid_client r7.mid_server r8.mid_client r8.mid_server
            (Delivers all_octets) r7.answer r7.next;
        client_takes = client_act r8.mid_client r8.mid_server c8 s8 (Delivers all_octets)
            r8.answer r8.next;
        got1 = r1.got;
        got2 = r2.got;
        got3 = r3.got;
        got4 = r4.got;
        got5 = r5.got;
        got6 = r6.got;
        got7 = r7.got;
        got8 = r8.got;
      }

-- A round has these.
pub steps_of : (c0 s0 c8 s8 : JointEnd) → IsRound c0 s0 c8 s8 → Steps c0 s0 c8 s8
steps_of c0 s0 c8 s8 round =
    flat c0 s0 c8 s8 (after_round c0 s0 c8 s8 round.acts round.leads round.acts_are round.memory)

-- What is known of two joined ends between the acts.
pub record Known (client_values server_values : Values) (made : List Made)
    (client server : JointEnd) : Type 0 where
  pub holds : JointHolds client_values server_values made client server
  pub had : AllHadMemory made
  pub client_log : IsLog roles.Client client_values client.happened.log
  pub server_log : IsLog roles.Server server_values server.happened.log
  pub client_up : client.happened.log.failed ≡ None
  pub server_up : server.happened.log.failed ≡ None
  pub client_lost : List ℕ
  pub server_lost : List ℕ
  pub pair : IsPair client_values server_values (half_of client client_lost)
      (half_of server server_lost)

pub known : (client_values server_values : Values) (made : List Made) (client server : JointEnd)
    → IsJoint client_values server_values made client server → AllHadMemory made
    → Known client_values server_values made client server
known client_values server_values made client server joint had =
    let holds = joint_holds client_values server_values made client server joint in
    let stays = holds.stays in
    let turned_holds = turned Client client_values server_values made client server holds in
    record {
      holds = holds;
      had = had;
      client_log = log_of Client client_values server_values made client server stays;
      server_log = log_of Server client_values server_values made server client
          turned_holds.stays;
      client_up = (faultless_at Client client_values server_values (half_of client stays.lost)
          (half_of server stays.other_lost) (AllHadMemory made) stays.pair had).up;
      server_up = (faultless_at Server client_values server_values
          (half_of server turned_holds.stays.lost) (half_of client turned_holds.stays.other_lost)
          (AllHadMemory made) turned_holds.stays.pair had).up;
      client_lost = stays.lost;
      server_lost = stays.other_lost;
      pair = stays.pair.0;
    }

-- The same after each act of a round.
pub record KnownSteps (client_values server_values : Values) (made : List Made)
    (c0 s0 c8 s8 : JointEnd) (steps : Steps c0 s0 c8 s8) : Type 0 where
  pub made1 : List Made
  pub made2 : List Made
  pub made3 : List Made
  pub made4 : List Made
  pub made6 : List Made
  pub made7 : List Made
  pub made8 : List Made
  pub beside : List Made
  pub known0 : Known client_values server_values made c0 s0
  pub known1 : Known client_values server_values made1 steps.c1 steps.s1
  pub known2 : Known client_values server_values made2 steps.c2 steps.s2
  pub known3 : Known client_values server_values made3 steps.c3 steps.s3
  pub known4 : Known client_values server_values made4 steps.c4 steps.s4
  pub known6 : Known client_values server_values made6 steps.c6 steps.s6
  pub known7 : Known client_values server_values made7 steps.c7 steps.s7
  pub known8 : Known client_values server_values made8 c8 s8
  -- the delivery to the client made first
  pub known_beside : Known client_values server_values beside c8 steps.s6

pub known_steps : (client_values server_values : Values) (made : List Made)
    (c0 s0 c8 s8 : JointEnd) (steps : Steps c0 s0 c8 s8)
    → IsJoint client_values server_values made c0 s0 → c8.happened.log.failed ≡ None
    → s8.happened.log.failed ≡ None
    → MayDo steps.c6 steps.s6 (Delivers all_octets) steps.a8 c8 steps.s6
    → KnownSteps client_values server_values made c0 s0 c8 s8 steps
known_steps client_values server_values made c0 s0 c8 s8 steps joint client_up server_up beside =
    let m1 = made_as Client ReleasesAll steps.a1 ∷ made in
    let m2 = made_as Server ReleasesAll steps.a2 ∷ m1 in
    let m3 = made_as Client Pumps steps.a3 ∷ m2 in
    let m4 = made_as Server Pumps steps.a4 ∷ m3 in
    let m5 = made_as Client (Moves all_octets) steps.a5 ∷ m4 in
    let m6 = made_as Server (Moves all_octets) steps.a6 ∷ m5 in
    let m7 = made_as Server (Delivers all_octets) steps.a7 ∷ m6 in
    let m8 = made_as Client (Delivers all_octets) steps.a8 ∷ m7 in
    let mb = made_as Client (Delivers all_octets) steps.a8 ∷ m6 in
    let j1 : IsJoint client_values server_values m1 steps.c1 steps.s1 =
    joints.continues joint _ (joints.at_client ReleasesAll steps.a1 steps.client_releases) in
    let j2 : IsJoint client_values server_values m2 steps.c2 steps.s2 =
    joints.continues j1 _ (joints.at_server ReleasesAll steps.a2 steps.server_releases) in
    let j3 : IsJoint client_values server_values m3 steps.c3 steps.s3 =
    joints.continues j2 _ (joints.at_client Pumps steps.a3 steps.client_pumps) in
    let j4 : IsJoint client_values server_values m4 steps.c4 steps.s4 =
    joints.continues j3 _ (joints.at_server Pumps steps.a4 steps.server_pumps) in
    let j5 : IsJoint client_values server_values m5 steps.c5 steps.s5 =
    joints.continues j4 _ (joints.at_client (Moves all_octets) steps.a5 steps.client_moves) in
    let j6 : IsJoint client_values server_values m6 steps.c6 steps.s6 =
    joints.continues j5 _ (joints.at_server (Moves all_octets) steps.a6 steps.server_moves) in
    let j7 : IsJoint client_values server_values m7 steps.c7 steps.s7 =
    joints.continues j6 _ (joints.at_server (Delivers all_octets) steps.a7 steps.server_takes) in
    let j8 : IsJoint client_values server_values m8 c8 s8 =
    joints.continues j7 _ (joints.at_client (Delivers all_octets) steps.a8 steps.client_takes) in
    let jb : IsJoint client_values server_values mb c8 steps.s6 =
    joints.continues j6 _ (joints.at_client (Delivers all_octets) steps.a8 beside) in
    let had : AllHadMemory m8 = had_memory client_values server_values m8 c8 s8 j8
    (up_had_memory c8 s8 client_up server_up)
    (none_was_ended client_values server_values m8 c8 s8 j8 client_up server_up) in
    record {
      made1 = m1;
      made2 = m2;
      made3 = m3;
      made4 = m4;
      made6 = m6;
      made7 = m7;
      made8 = m8;
      beside = mb;
      known0 = known client_values server_values made c0 s0 joint had.1.1.1.1.1.1.1.1;
      known1 = known client_values server_values m1 steps.c1 steps.s1 j1 had.1.1.1.1.1.1.1;
      known2 = known client_values server_values m2 steps.c2 steps.s2 j2 had.1.1.1.1.1.1;
      known3 = known client_values server_values m3 steps.c3 steps.s3 j3 had.1.1.1.1.1;
      known4 = known client_values server_values m4 steps.c4 steps.s4 j4 had.1.1.1.1;
      known6 = known client_values server_values m6 steps.c6 steps.s6 j6 had.1.1;
      known7 = known client_values server_values m7 steps.c7 steps.s7 j7 had.1;
      known8 = known client_values server_values m8 c8 s8 j8 had;
      known_beside = known client_values server_values mb c8 steps.s6 jb (had.0, had.1.1);
    }
