-- An act that drives two joined ends leaves no more work, as long as neither has failed.
use Rattle.h2_laws_quiet.proofs.WorkOfLogs.{KeepsCredit}
use Rattle.std.proofs.Common.{◌≡◌, ◌≢◌, ℕ, ◌+◌, ◌-◌, ◌≤◌, List, ◌∷◌, ◌++◌, length}
use Rattle.std.proofs.Common.{take, drop, None, refl, sym, ap, ◌∙◌}
use Rattle.std.proofs.Common.{arith, subst, length-append, ◌==◌, false}
use Rattle.std.proofs.lemmas.Bool.{both_ways, eq-eqb}
use Rattle.h2_spec_log.specs.declared.role.Role.{Role}
use Rattle.h2_spec_log.specs.Acts.{Values, Act, Answer, Release, PutOut, Done}
use Rattle.h2_spec_log.specs.Acts.{IsTypedAct}
use Rattle.h2_spec_log.specs.declared.refusal.Refusal.TheVariants.{Memory}
unfoldable use Rattle.h2_spec_log.specs.CallRules.{conditions, may_fail_for_memory}
use Rattle.h2_spec_log.specs.Histories.{IsLog}
use Rattle.h2_spec_log.specs.Items.{data_of, increment_on, total}
use Rattle.h2_spec_log.specs.Log.{Log}
use Rattle.h2_spec_log.specs.LogCalls.{MayAnswer, with_call, accepts, refuses, lacks, fails}
use Rattle.h2_laws_log.proofs.CallConditions.{none_holds, neither_one}
use Rattle.h2_laws_log.proofs.WindowsOfTwoEnds.{total-append}
use Rattle.h2_laws_pair.specs.Pairs.{Half}
use Rattle.h2_wire.proofs.ReadingLemmas.{none_some}
use Rattle.h2_laws_pair.proofs.BothWays.{IsDirection, to_server, to_client}
use Rattle.h2_laws_pair.proofs.CarriedItems.{way_of}
use Rattle.h2_ends.specs.Ends.{EndLog}
use Rattle.h2_ends.specs.EndTakes.{end_with_log}
use Rattle.h2_joined.proofs.HoldsLater.{starts}
use Rattle.h2_joined.specs.declared.act.Side.{Side}
use Rattle.h2_joined.specs.declared.act.Side.TheVariants.{Client, Server}
use Rattle.h2_joined.specs.declared.act.Acted.{Acted}
use Rattle.h2_joined.specs.Joints.{JointEnd, Made, Doing, MayDo, IsJoint, IsNextAct, half_of}
use Rattle.h2_joined.specs.Joints.{IsDelivered, Whole, Fails, Stops, MemorySufficed}
use Rattle.h2_joined.specs.Joints as joints
use Rattle.h2_joined.proofs.HoldsSides.{faultless_at, role_at, values_at}
use Rattle.h2_joined.proofs.HoldsTakes.{Around, HoldsIn}
use Rattle.h2_joined.proofs.JointActs.{joint_holds}
use Rattle.h2_joined.proofs.JointHolds.{HoldsAt, AllHadMemory, log_of, turned}
use Rattle.h2_joined.proofs.JointMemory.{delivery_fails, had_memory, none_was_ended}
unfoldable use Rattle.h2_laws_quiet.specs.Driving.{IsDriving}
use Rattle.h2_laws_quiet.specs.Driving.{received_since}
use Rattle.h2_laws_quiet.specs.Work.{work_of_item, credit_left}
use Rattle.h2_laws_quiet.specs.Work.{work_left}
use Rattle.h2_laws_quiet.proofs.WorkOfDeliveries.{EndTakes, delivery_falls}
use Rattle.h2_laws_quiet.proofs.WorkOfEnds.{EndDrives, pump_falls, release_all_falls}
use Rattle.h2_laws_quiet.proofs.WorkOfEnds.{release_falls, put_out_falls, refused_falls}
use Rattle.h2_laws_quiet.proofs.WorkOfPasses.{pump_some_falls}
use Rattle.h2_laws_quiet.proofs.WorkOfLogs.{credit_is, drives_work}

-- What an act makes of the two ends: the one drives on, and of the other nothing has happened.
record ActDrives (one other new_one new_other : JointEnd) : Type 0 where
  drives : EndDrives one.happened new_one.happened
  same : new_other.happened ≡ other.happened

-- A release is of some octets, where it was not refused.
some_released : (log : Log) (id count : ℕ) → MayAnswer log (Release id count) Done → count ≢ 0
unfolding conditions
some_released log id count (accepts none is) zero =
    let owes = (none_holds _ none).1.1.1.0 in
    both_ways _ (neither_one (count == 0) _ owes) (eq-eqb count 0 zero)
some_released log id count (refuses refusal holds is) zero = cc
some_released log id count (lacks none may is) zero = cc
some_released log id count (fails none may is) zero = cc

-- the end after a call of its connection
abbrev called_end : EndLog → Act → Answer → EndLog
called_end end act answer = end_with_log end (with_call end.log act answer)

module _ (role : Role) (values : Values) where
  -- A release of some of what is owed, whatever it answers.
  release_drives : (end : EndLog) (id count : ℕ) (answer : Answer) → IsLog role values end.log
      → IsTypedAct (Release id count) → MayAnswer end.log (Release id count) answer
      → EndDrives end (called_end end (Release id count) answer)
  unfolding may_fail_for_memory
  release_drives end id count answer is typed (accepts none same) =
      let may : MayAnswer end.log (Release id count) Done = accepts none refl in
      subst (λ (a : Answer). EndDrives end (called_end end (Release id count) a)) (sym same)
      (release_falls role values end id count (some_released end.log id count may) is typed may)
  release_drives end id count answer is typed (refuses refusal holds same) =
      subst (λ (a : Answer). EndDrives end (called_end end (Release id count) a)) (sym same)
      (refused_falls end (Release id count) refusal (refuses refusal holds refl))
  release_drives end id count answer is typed (lacks none may same) =
      subst (λ (a : Answer). EndDrives end (called_end end (Release id count) a)) (sym same)
      (refused_falls end (Release id count) Memory (lacks none may refl))
  release_drives end id count answer is typed (fails none may same) =
      absurd (both_ways false refl may)

  -- Output that is put out.
  moved_drives : (end : EndLog) (count : ℕ) (answer : Answer) → IsLog role values end.log
      → IsTypedAct (PutOut count) → MayAnswer end.log (PutOut count) answer
      → EndDrives end (called_end end (PutOut count) answer)
  unfolding may_fail_for_memory
  moved_drives end count answer is typed (accepts none same) =
      subst (λ (a : Answer). EndDrives end (called_end end (PutOut count) a)) (sym same)
      (put_out_falls role values end count _ is typed (accepts none refl))
  moved_drives end count answer is typed (refuses refusal holds same) =
      subst (λ (a : Answer). EndDrives end (called_end end (PutOut count) a)) (sym same)
      (refused_falls end (PutOut count) refusal (refuses refusal holds refl))
  moved_drives end count answer is typed (lacks none may same) =
      subst (λ (a : Answer). EndDrives end (called_end end (PutOut count) a)) (sym same)
      (refused_falls end (PutOut count) Memory (lacks none may refl))
  moved_drives end count answer is typed (fails none may same) =
      absurd (both_ways false refl may)

module _ (side : Side) (client_values server_values : Values) (made : List Made)
    (one other : JointEnd) (holds : HoldsAt side client_values server_values made one other)
    (had : AllHadMemory made) where
  -- the role of the end and its settings at first; and its log, which comes about
  abbrev own_role : Role
  own_role = role_at side

  abbrev own_values : Values
  own_values = values_at side client_values server_values

  own_log : IsLog own_role own_values one.happened.log
  own_log = log_of side client_values server_values made one other holds.stays

  -- what stays as it is while octets are delivered to the end
  abbrev around : Around
  around = record {
    side = side;
    client_values = client_values;
    server_values = server_values;
    made = made;
    other = other;
  }

  -- What holds as a delivery begins.
  abbrev begins : (count : ℕ)
      → HoldsIn around one.happened (take count one.incoming ++ drop count one.incoming)
  begins count = starts side client_values server_values made one other holds count

  -- A delivery that has used all.
  pub delivered_takes : (count : ℕ) (after : EndLog)
      → IsDelivered 0 one.happened (take count one.incoming) Whole after
      → EndTakes one.happened after
  delivered_takes count after delivered =
      delivery_falls around had holds.other_order 0 one.happened after (take count one.incoming)
      (drop count one.incoming) Whole (λ code is. cc) holds.order (begins count) delivered

  -- An act that drives.
  act_drives : (new_one new_other : JointEnd) (doing : Doing) (answer : Acted)
      → MayDo one other doing answer new_one new_other → IsDriving doing
      → new_one.happened.log.failed ≡ None → ActDrives one other new_one new_other
  unfolding IsDriving
  act_drives _ _ _ _ (joints.pumps result after may) driving up =
      record {
        drives = pump_falls own_role own_values one.happened after result may own_log;
        same = refl;
      }
  act_drives _ _ _ _ (joints.pumps_some most result after may) driving up =
      record {
        drives = pump_some_falls own_role own_values most one.happened after result may own_log;
        same = refl;
      }
  act_drives _ _ _ _ (joints.releases_all result after may) driving up =
      record {
        drives = release_all_falls own_role own_values one.happened after result may own_log;
        same = refl;
      }
  act_drives _ _ _ _ (joints.calls (Release id count) answer control typed may) driving up =
      record {
        drives = release_drives own_role own_values one.happened id count answer own_log
            typed may;
        same = refl;
      }
  act_drives _ _ _ _ (joints.moves count answer typed may) driving up =
      record {
        drives = moved_drives own_role own_values one.happened count answer own_log typed may;
        same = refl;
      }
  act_drives _ _ _ _ (joints.delivers count after was_up delivered) driving up =
      record {
        drives = (delivery_falls around had holds.other_order 0 one.happened after
            (take count one.incoming) (drop count one.incoming) Whole (λ code is. cc) holds.order
            (begins count) delivered).ends;
        same = refl;
      }
  act_drives _ _ _ _ (joints.delivery_fails count code after was_up delivered) driving up =
      absurd (none_some code (sym up ∙ delivery_fails 0 one.happened after
      (take count one.incoming) (Fails code) code delivered refl))
  act_drives _ _ _ _ (joints.has_failed count code failed) driving up =
      absurd (none_some code (sym up ∙ failed))
  act_drives _ _ _ _ (joints.delivery_stops count unused after was_up delivered) driving up =
      record {
        drives = (delivery_falls around had holds.other_order 0 one.happened after
            (take count one.incoming) (drop count one.incoming) (Stops unused) (λ code is. cc)
            holds.order (begins count) delivered).ends;
        same = refl;
      }
  act_drives _ _ _ _ may driving up = absurd driving

-- What an end has read counts no more than what the other has sent.
pub carried_work : (writer reader : Half) → IsDirection writer reader
    → total work_of_item reader.log.received ≤ total work_of_item writer.log.sent
carried_work writer reader is =
    let way = way_of writer reader is in
    omega (
      arith,
      ap (total work_of_item) way.1,
      total-append work_of_item way.0
          reader.log.received,
    )

-- So the work that is left falls by what is read.
work_falls : (one other new : EndLog) (drives : EndDrives one new)
    → KeepsCredit one.log
    → KeepsCredit new.log
    → total work_of_item other.log.received ≤ total work_of_item one.log.sent
    → total work_of_item new.log.received ≤ total work_of_item other.log.sent
    → work_left new other + (length new.log.received - length one.log.received)
    ≤ work_left one other
work_falls one other new drives was is sent reads =
    let step = drives_work one.log new.log drives.gone drives.drives was is in
    let tokens = drives.tokens in
    let more = ap (total work_of_item) drives.drives.sent
    ∙ total-append work_of_item drives.drives.written one.log.sent in
    let read = ap (total work_of_item) drives.drives.received
    ∙ total-append work_of_item drives.drives.read one.log.received in
    let count = ap length drives.drives.received
    ∙ length-append drives.drives.read one.log.received in
    omega (arith, step, tokens, more, read, count, sent, reads)

-- Which end is named first doesn't matter.
work_turned : (one other : EndLog) → work_left one other ≡ work_left other one
work_turned one other = omega arith

-- What is known of two joined ends that are up: what each owes and has not returned, and what of
-- each was read.
pub record AreKept (client server : EndLog) : Type 0 where
  pub client_credit : KeepsCredit client.log
  pub server_credit : KeepsCredit server.log
  pub to_server : total work_of_item server.log.received ≤ total work_of_item client.log.sent
  pub to_client : total work_of_item client.log.received ≤ total work_of_item server.log.sent

pub ends_kept : (client_values server_values : Values) (made : List Made)
    (client server : JointEnd)
    → HoldsAt Client client_values server_values made client server → AllHadMemory made
    → AreKept client.happened server.happened
ends_kept client_values server_values made client server holds had =
    let stays = holds.stays in
    let one = half_of client stays.lost in
    let two = half_of server stays.other_lost in
    let turned_holds = turned Client client_values server_values made client server holds in
    record {
      client_credit = credit_is (role_at Client) (values_at Client client_values server_values)
          client.happened.log
          (log_of Client client_values server_values made client server stays)
          (faultless_at Client client_values server_values one two (AllHadMemory made) stays.pair
          had).up;
      server_credit = credit_is (role_at Server) (values_at Server client_values server_values)
          server.happened.log
          (log_of Server client_values server_values made server client turned_holds.stays)
          (faultless_at Server client_values server_values
          (half_of server turned_holds.stays.lost) (half_of client turned_holds.stays.other_lost)
          (AllHadMemory made) turned_holds.stays.pair had).up;
      to_server = carried_work one two (to_server stays.pair.0);
      to_client = carried_work two one (to_client stays.pair.0);
    }

-- Two ends that are up were refused no memory.
pub up_had_memory : (client server : JointEnd) → client.happened.log.failed ≡ None
    → server.happened.log.failed ≡ None → MemorySufficed client server
up_had_memory client server client_up server_up =
    record { client_went_on = λ failed. cc; server_went_on = λ failed. cc }

-- Nothing is read where nothing has happened.
read_none : (before after : JointEnd) → after.happened ≡ before.happened
    → received_since before after ≡ 0
read_none before after same =
    omega (arith, ap (λ (end : EndLog). length end.log.received) same)

module _ (client_values server_values : Values) (made : List Made)
    (client server new_client new_server : JointEnd) (act : Made)
    (joint : IsJoint client_values server_values made client server)
    (next : IsNextAct client server act new_client new_server)
    (client_up : new_client.happened.log.failed ≡ None)
    (server_up : new_server.happened.log.failed ≡ None) where
  after_joint : IsJoint client_values server_values (act ∷ made) new_client new_server
  after_joint = joints.continues joint act next

  all_had : AllHadMemory (act ∷ made)
  all_had = had_memory client_values server_values (act ∷ made) new_client new_server after_joint
      (up_had_memory new_client new_server client_up server_up)
      (none_was_ended client_values server_values (act ∷ made) new_client new_server after_joint
      client_up server_up)

  kept_before : AreKept client.happened server.happened
  kept_before = ends_kept client_values server_values made client server
      (joint_holds client_values server_values made client server joint) all_had.1

  kept_after : AreKept new_client.happened new_server.happened
  kept_after = ends_kept client_values server_values (act ∷ made) new_client new_server
      (joint_holds client_values server_values (act ∷ made) new_client new_server after_joint)
      all_had

-- The work that is left falls by what is read, in an act of one of the ends with the other.
work_after : (one other new new_other : EndLog) → EndDrives one new → new_other ≡ other
    → KeepsCredit one.log
    → KeepsCredit new.log
    → total work_of_item other.log.received ≤ total work_of_item one.log.sent
    → total work_of_item new.log.received ≤ total work_of_item new_other.log.sent
    → work_left new new_other + (length new.log.received - length one.log.received)
    ≤ work_left one other
work_after one other new new_other drives same was is sent reads =
    rw same (work_falls one other new drives was is sent (rw same at reads))

pub driving_falls : (client_values server_values : Values) (made : List Made)
    (client server new_client new_server : JointEnd) (act : Made)
    → IsJoint client_values server_values made client server
    → IsNextAct client server act new_client new_server → IsDriving act.doing
    → new_client.happened.log.failed ≡ None → new_server.happened.log.failed ≡ None
    → work_left new_client.happened new_server.happened
    + (received_since client new_client + received_since server new_server)
    ≤ work_left client.happened server.happened
driving_falls client_values server_values made client server new_client new_server _ joint
    (joints.at_client doing answer may) driving client_up server_up =
    let next = joints.at_client doing answer may in
    let had = all_had client_values server_values made client server new_client new_server _ joint
    next client_up server_up in
    let before = kept_before client_values server_values made client server new_client new_server _
    joint next client_up server_up in
    let after = kept_after client_values server_values made client server new_client new_server _
    joint next client_up server_up in
    let acts = act_drives Client client_values server_values made client server
    (joint_holds client_values server_values made client server joint) had.1 new_client new_server
    doing answer may driving client_up in
    let none = read_none server new_server acts.same in
    let falls = work_after client.happened server.happened new_client.happened new_server.happened
    acts.drives acts.same before.client_credit after.client_credit before.to_server
    after.to_client in
    omega (arith, falls, none)
driving_falls client_values server_values made client server new_client new_server _ joint
    (joints.at_server doing answer may) driving client_up server_up =
    let next = joints.at_server doing answer may in
    let had = all_had client_values server_values made client server new_client new_server _ joint
    next client_up server_up in
    let before = kept_before client_values server_values made client server new_client new_server _
    joint next client_up server_up in
    let after = kept_after client_values server_values made client server new_client new_server _
    joint next client_up server_up in
    let acts = act_drives Server client_values server_values made server client
    (turned Client client_values server_values made client server
    (joint_holds client_values server_values made client server joint)) had.1 new_server new_client
    doing answer may driving server_up in
    let none = read_none client new_client acts.same in
    let falls = work_after server.happened client.happened new_server.happened new_client.happened
    acts.drives acts.same before.server_credit after.server_credit before.to_client
    after.to_server in
    let was = work_turned client.happened server.happened in
    let is = work_turned new_client.happened new_server.happened in
    omega (arith, falls, none, was, is)
