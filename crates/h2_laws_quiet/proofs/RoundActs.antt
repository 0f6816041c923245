-- What is known of each act of a round that got its memory, where neither end has failed.
use Rattle.std.proofs.Common.{◌≡◌, ◌≢◌, ℕ, List, [], ◌∷◌, take}
use Rattle.std.proofs.Common.{None, Result, Err, false, refl, sym, ap}
use Rattle.std.proofs.Common.{◌∙◌, subst, map as each}
use Rattle.std.proofs.lemmas.Bool.{both_ways}
use Rattle.std.specs.List.{AllByRecursion}
use Rattle.h2_wire.proofs.ReadingLemmas.{none_some}
use Rattle.h2_spec_log.specs.declared.refusal.Refusal.TheVariants.{Memory}
use Rattle.h2_spec_log.specs.Acts.{Answer, PutOut, Count, IsTypedAct}
unfoldable use Rattle.h2_spec_log.specs.CallRules.{conditions, first_of, may_fail_for_memory}
use Rattle.h2_spec_log.specs.LogCalls.{MayAnswer, accepts, refuses, lacks, fails}
use Rattle.h2_ends.specs.declared.refusal.EndRefusal.{EndRefusal}
use Rattle.h2_ends.specs.declared.refusal.EndRefusal.TheVariants as refusals
use Rattle.h2_ends.specs.EndCalls.{MayPump, MayReleaseAll}
use Rattle.h2_joined.specs.declared.act.Side.{Side}
use Rattle.h2_joined.specs.declared.act.Side.TheVariants.{Client, Server}
use Rattle.h2_joined.specs.declared.act.Acted.{Acted}
use Rattle.h2_joined.specs.declared.act.Acted.TheVariants as acted
use Rattle.h2_joined.specs.Joints.{JointEnd, Made, Doing, MayDo, IsNextAct, IsDelivered, Whole}
use Rattle.h2_joined.specs.Joints.{Fails}
use Rattle.h2_joined.specs.Joints.{Pumps, ReleasesAll, Moves, Delivers, acted_by, acted_as}
use Rattle.h2_joined.specs.Joints as joints
use Rattle.h2_joined.specs.Runs.{ActsLeadTo, leads_nowhere, leads_on, GotMemory, act_made}
use Rattle.h2_joined.proofs.JointMemory.{delivery_fails}
use Rattle.h2_laws_quiet.specs.Rounds.{all_octets}
use Rattle.h2_laws_quiet.proofs.RoundSides.{put_out_end}

-- the act of a side, with its result
abbrev pub made_as : Side → Doing → Acted → Made
made_as side doing answer = record { side = side; doing = doing; acted = answer }

-- The last of some acts, and those before it.
pub record LastAct (client server new_client new_server : JointEnd) (side : Side) (doing : Doing)
    (others : List (Side × Doing)) : Type 0 where
  pub mid_client : JointEnd
  pub mid_server : JointEnd
  pub answer : Acted
  pub rest : List Made
  pub leads : ActsLeadTo client server rest mid_client mid_server
  pub next : IsNextAct mid_client mid_server (made_as side doing answer) new_client new_server
  pub rest_are : each act_made rest ≡ others
  pub memory : GotMemory answer
  pub rest_memory : AllByRecursion (λ act. GotMemory act.acted) rest

same_made : (act : Made) (side : Side) (doing : Doing) → act.side ≡ side → act.doing ≡ doing
    → act ≡ made_as side doing act.acted
same_made act side doing one two = rw (← one, ← two) refl

pub last_act : (client server new_client new_server : JointEnd) (acts : List Made) (side : Side)
    (doing : Doing) (others : List (Side × Doing))
    → ActsLeadTo client server acts new_client new_server
    → each act_made acts ≡ (side, doing) ∷ others
    → AllByRecursion (λ act. GotMemory act.acted) acts
    → LastAct client server new_client new_server side doing others
last_act client server _ _ _ side doing others leads_nowhere are memory = absurd (cc)
last_act client server new_client new_server _ side doing others
    (leads_on {acts = acts} {client = mid_client} {server = mid_server} leads act next) are
    memory =
    let pair : act_made act ≡ (side, doing) = cc in
    let one : act.side ≡ side = ap (λ (both : Side × Doing). both.0) pair in
    let two : act.doing ≡ doing = ap (λ (both : Side × Doing). both.1) pair in
    let later : each act_made acts ≡ others = cc in
    record {
      mid_client = mid_client;
      mid_server = mid_server;
      answer = act.acted;
      rest = acts;
      leads = leads;
      next = subst (λ (it : Made). IsNextAct mid_client mid_server it new_client new_server)
          (same_made act side doing one two) next;
      rest_are = later;
      memory = memory.0;
      rest_memory = memory.1;
    }

-- No act at all.
pub no_act : (client server new_client new_server : JointEnd) (acts : List Made)
    → ActsLeadTo client server acts new_client new_server → each act_made acts ≡ []
    → (new_client ≡ client) × (new_server ≡ server)
no_act client server _ _ _ leads_nowhere are = (refl, refl)
no_act client server _ _ _ (leads_on leads act next) are = absurd (cc)

-- An act of the client is made with it, and one of the server with that.
pub client_act : (client server new_client new_server : JointEnd) (doing : Doing) (answer : Acted)
    → IsNextAct client server (made_as Client doing answer) new_client new_server
    → MayDo client server doing answer new_client new_server
client_act client server new_client new_server doing answer (joints.at_client _ _ may) = may

pub server_act : (client server new_client new_server : JointEnd) (doing : Doing) (answer : Acted)
    → IsNextAct client server (made_as Server doing answer) new_client new_server
    → MayDo server client doing answer new_server new_client
server_act client server new_client new_server doing answer (joints.at_server _ _ may) = may

-- A release of all that got its memory.
pub record Released (one other new new_other : JointEnd) : Type 0 where
  pub result : Result (Unit {0}) EndRefusal
  pub may : MayReleaseAll one.happened result new.happened
  pub had : result ≢ Err (refusals.Conn Memory)
  pub other_same : new_other ≡ other

pub released_by : (one other new new_other : JointEnd) (answer : Acted)
    → MayDo one other ReleasesAll answer new new_other → GotMemory answer
    → Released one other new new_other
released_by one other _ _ _ (joints.releases_all result after may) got = record {
  result = result;
  may = may;
  had = λ is. got.call (ap (acted_by (λ done. acted.Done)) is);
  other_same = refl;
}

-- So is a pump,
pub record Pumped (one other new new_other : JointEnd) : Type 0 where
  pub result : Result ℕ EndRefusal
  pub may : MayPump one.happened result new.happened
  pub had : result ≢ Err (refusals.Conn Memory)
  pub other_same : new_other ≡ other

pub pumped_by : (one other new new_other : JointEnd) (answer : Acted)
    → MayDo one other Pumps answer new new_other → GotMemory answer
    → Pumped one other new new_other
pumped_by one other _ _ _ (joints.pumps result after may) got = record {
  result = result;
  may = may;
  had = λ is. got.call (ap (acted_by acted.Count) is);
  other_same = refl;
}

-- octets that are moved,
pub record Moved (one other new new_other : JointEnd) (count : ℕ) : Type 0 where
  pub given : ℕ
  pub typed : IsTypedAct (PutOut count)
  pub may : MayAnswer one.happened.log (PutOut count) (Count given)
  pub happened : new.happened ≡ put_out_end one.happened count given
  pub other_same : new_other.happened ≡ other.happened

moved_as : (one other : JointEnd) (count : ℕ) (answer : Answer) → IsTypedAct (PutOut count)
    → MayAnswer one.happened.log (PutOut count) answer → GotMemory (acted_as answer)
    → Moved one other (joints.with_answer one (PutOut count) answer)
    (joints.with_given other one (PutOut count) answer) count
unfolding conditions first_of may_fail_for_memory
moved_as one other count (Count given) typed may got =
    record { given = given; typed = typed; may = may; happened = refl; other_same = refl }
moved_as one other count answer typed (accepts none is) got = absurd (cc)
moved_as one other count answer typed (refuses refusal holds is) got = absurd (cc)
moved_as one other count answer typed (lacks none may is) got =
    absurd (got.call (ap acted_as is))
moved_as one other count answer typed (fails none may is) got = absurd (both_ways false refl may)

pub moved_by : (one other : JointEnd) (count : ℕ) (new new_other : JointEnd) (answer : Acted)
    → MayDo one other (Moves count) answer new new_other → GotMemory answer
    → Moved one other new new_other count
moved_by one other count _ _ _ (joints.moves _ answer typed may) got =
    moved_as one other count answer typed may got

-- and a delivery.
pub record DeliveredTo (one other new new_other : JointEnd) (count : ℕ) : Type 0 where
  pub delivered : IsDelivered 0 one.happened (take count one.incoming) Whole new.happened
  pub finished : new.unfinished ≡ false
  pub other_same : new_other ≡ other

pub delivered_by : (one other : JointEnd) (count : ℕ) (new new_other : JointEnd) (answer : Acted)
    → MayDo one other (Delivers count) answer new new_other → GotMemory answer
    → new.happened.log.failed ≡ None → DeliveredTo one other new new_other count
delivered_by one other count _ _ _ (joints.delivers _ after was_up delivered) got up =
    record { delivered = delivered; finished = refl; other_same = refl }
delivered_by one other count _ _ _ (joints.delivery_fails _ code after was_up delivered) got up =
    absurd (none_some code (sym up ∙ delivery_fails 0 one.happened after
    (take count one.incoming) (Fails code) code delivered refl))
delivered_by one other count _ _ _ (joints.has_failed _ code failed) got up =
    absurd (none_some code (sym up ∙ failed))
delivered_by one other count _ _ _ (joints.delivery_stops _ unused after was_up delivered) got up =
    absurd (got.act refl)

-- A delivery doesn't look at the other end.
pub delivers_beside : (one other beside : JointEnd) (count : ℕ) (new new_other : JointEnd)
    (answer : Acted)
    → MayDo one other (Delivers count) answer new new_other
    → MayDo one beside (Delivers count) answer new beside
delivers_beside one other beside count _ _ _ (joints.delivers _ after was_up delivered) =
    joints.delivers count after was_up delivered
delivers_beside one other beside count _ _ _
    (joints.delivery_fails _ code after was_up delivered) =
    joints.delivery_fails count code after was_up delivered
delivers_beside one other beside count _ _ _ (joints.has_failed _ code failed) =
    joints.has_failed count code failed
delivers_beside one other beside count _ _ _
    (joints.delivery_stops _ unused after was_up delivered) =
    joints.delivery_stops count unused after was_up delivered

-- And leaves it.
pub other_kept : (one other new new_other : JointEnd) (answer : Acted)
    → MayDo one other (Delivers all_octets) answer new new_other → new_other ≡ other
other_kept one other _ _ _ (joints.delivers _ after was_up delivered) = refl
other_kept one other _ _ _ (joints.delivery_fails _ code after was_up delivered) = refl
other_kept one other _ _ _ (joints.has_failed _ code failed) = refl
other_kept one other _ _ _ (joints.delivery_stops _ unused after was_up delivered) = refl
