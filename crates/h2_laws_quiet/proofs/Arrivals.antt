-- After more rounds than the work that was left all that was accepted has arrived, on each stream
-- that was not reset.
use Rattle.std.proofs.Common.{map as each, ◌≡◌, ◌≢◌, inl, inr, ℕ, ◌<◌, List, [], ◌∷◌, ◌++◌, None}
use Rattle.std.proofs.Common.{subst, ap, refl}
use Rattle.std.proofs.lemmas.List.Elements.{Contains-append_cases}
use Rattle.std.specs.List.{Contains}
use Rattle.h2_spec_log.specs.Acts.{Values, ResetStream}
use Rattle.h2_laws_pair.proofs.Lists.{none_in, one_of_all, first_in, later_in, first_or_later}
use Rattle.h2_joined.specs.declared.act.Side.{Side}
use Rattle.h2_joined.specs.Joints.{Doing, JointEnd, Made, IsJoint, Calls}
use Rattle.h2_joined.specs.Headline.{AreQuiet, WasResetAt, WasResetIn}
use Rattle.h2_joined.specs.Runs.{act_made}
use Rattle.h2_laws_quiet.specs.Arrived.{HasArrived}
use Rattle.h2_laws_quiet.specs.Rounds.{AreRounds, round_doings, no_round, one_more}
use Rattle.h2_laws_quiet.specs.Work.{work_left}
use Rattle.h2_laws_quiet.proofs.ManyRounds.{get_quiet, joint_after}
use Rattle.h2_laws_quiet.proofs.QuietMessages.{at_client, at_server}

-- What is among acts is, without its result, among what was done.
done_in : (acts : List Made) (act : Made) → Contains acts act
    → Contains (each act_made acts) (act_made act)
done_in [] act here = absurd (none_in act here)
done_in (first ∷ others) act here = elim (first_or_later first others act here) [
  | inl is ↦ subst (λ (one : Made). Contains (each act_made (first ∷ others)) (act_made one)) is
      (first_in (act_made first) (each act_made others))
  | inr later ↦ later_in (act_made first) (each act_made others) (act_made act)
      (done_in others act later)
]

-- No Reset is made in a round.
no_reset : (side : Side) (id code : ℕ)
    → Contains round_doings (side, Calls (ResetStream id code)) → ⊥
no_reset side id code here =
    one_of_all (λ (one : Side × Doing). one ≢ (side, Calls (ResetStream id code))) round_doings
    (side, Calls (ResetStream id code)) (
      differ (λ is. cc),
      (
        differ (λ is. cc),
        (
          differ (λ is. cc),
          (
            differ (λ is. cc),
            (differ (λ is. cc), (differ (λ is. cc), (differ (λ is. cc), (differ (λ is. cc), tt)))),
          ),
        ),
      ),
    )
    here refl
  where
    differ : {by : Side} → {done : Doing} → (done ≡ Calls (ResetStream id code) → ⊥)
        → ◌≢◌ {A = Side × Doing} (by, done) (side, Calls (ResetStream id code))
    differ other is = other (ap (λ (one : Side × Doing). one.1) is)

-- So one that was made before a round and in it was made before it.
reset_before : (acts made : List Made) (side : Side) (id code : ℕ)
    → each act_made acts ≡ round_doings → WasResetAt (acts ++ made) side id code
    → WasResetAt made side id code
reset_before acts made side id code are here =
    elim (Contains-append_cases acts made _ here) [
      | inl within ↦ absurd (no_reset side id code
          (subst (λ (list : List (Side × Doing)).
          Contains list (side, Calls (ResetStream id code))) are (done_in acts _ within)))
      | inr before ↦ before
    ]

-- Rounds make joined ends of joined ends, and no Reset is made in them.
record ComesWithout (client_values server_values : Values) (made : List Made)
    (client server : JointEnd) : Type 0 where
  all : List Made
  joint : IsJoint client_values server_values all client server
  resets : (side : Side) (id code : ℕ) → WasResetAt all side id code
      → WasResetAt made side id code

comes_without : (client_values server_values : Values) (made : List Made)
    (client server : JointEnd) (count : ℕ) (new_client new_server : JointEnd)
    → IsJoint client_values server_values made client server
    → AreRounds client server count new_client new_server
    → ComesWithout client_values server_values made new_client new_server
comes_without client_values server_values made client server _ _ _ joint no_round =
    record { all = made; joint = joint; resets = λ side id code here. here }
comes_without client_values server_values made client server _ new_client new_server joint
    (one_more {count = count} {mid_client = mid_client} {mid_server = mid_server} rounds round) =
    let before = comes_without client_values server_values made client server count mid_client
    mid_server joint rounds in
    record {
      all = round.acts ++ before.all;
      joint = joint_after client_values server_values before.all mid_client mid_server round.acts
          new_client new_server before.joint round.leads;
      resets = λ side id code here.
          before.resets side id code (reset_before round.acts before.all side id code round.acts_are
          here);
    }

-- At quiet ends to which rounds have led all has arrived.
module _ (client_values server_values : Values) (made : List Made) (count : ℕ)
    (client server new_client new_server : JointEnd) (i : ℕ)
    (joint : IsJoint client_values server_values made client server)
    (rounds : AreRounds client server count new_client new_server)
    (quiet : AreQuiet new_client new_server) (unreset : WasResetIn made new_client i → ⊥)
  where
    come : ComesWithout client_values server_values made new_client new_server
    come =
        comes_without client_values server_values made client server count new_client new_server
        joint rounds

    spared : WasResetIn come.all new_client i → ⊥
    spared (inl (side, code, here)) = unreset (inl (side, code, come.resets side i code here))
    spared (inr reported) = unreset (inr reported)

    pub client_has_arrived : HasArrived new_client.happened new_server.happened i
    client_has_arrived =
        at_client client_values server_values come.all new_client new_server i come.joint quiet
        (inr spared)

    pub server_has_arrived : HasArrived new_server.happened new_client.happened i
    server_has_arrived =
        at_server client_values server_values come.all new_client new_server i come.joint quiet
        (inr spared)

-- More rounds than the work that was left have led to quiet ends.
module _ (client_values server_values : Values) (made : List Made) (count : ℕ)
    (client server new_client new_server : JointEnd) (i : ℕ)
    (joint : IsJoint client_values server_values made client server)
    (rounds : AreRounds client server count new_client new_server)
    (client_up : new_client.happened.log.failed ≡ None)
    (server_up : new_server.happened.log.failed ≡ None)
    (enough : work_left client.happened server.happened < count)
    (unreset : WasResetIn made new_client i → ⊥)
  where
    quiet : AreQuiet new_client new_server
    quiet =
        get_quiet client_values server_values made count client server new_client new_server joint
        rounds client_up server_up enough

    pub client_arrives : HasArrived new_client.happened new_server.happened i
    client_arrives =
        client_has_arrived client_values server_values made count client server new_client
        new_server i joint rounds quiet unreset

    pub server_arrives : HasArrived new_server.happened new_client.happened i
    server_arrives =
        server_has_arrived client_values server_values made count client server new_client
        new_server i joint rounds quiet unreset
