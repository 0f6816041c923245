-- Calls of an end are acts of two joined ends.
use Rattle.h2_joined.proofs.Names.{Result, IsTypedAct, with_call, EndRefusal, EndAnswers, acted_by}
use Rattle.h2_joined.proofs.Names.{refl, sym, Act, Side, Calls, pumps, made, ◌≡◌, ℕ, subst, Answer}
use Rattle.h2_joined.proofs.Names.{Acted, Joined, Doing, acted_as, MakesAct, end_at, end_with_log}
use Rattle.h2_joined.proofs.Names.{EndPumps, EndReleases, IsControlCall, releases_all}
use Rattle.h2_joined.specs.Joints.{Pumps, PumpsSome, ReleasesAll, calls, pumps_some}
use Rattle.h2_ends.specs.Represents.{EndPumpsSome}
use Rattle.h2_joined.proofs.KeptActs.{ChangesEnd, acts_on_end}
use Rattle.h2_joined.proofs.KeptEnds.{pumped_says, passed_says, released_says}
use Rattle.h2_joined.specs.declared.act.Acted.TheVariants as acted

-- The answer is this one.
answered_as : (side : Side) (old new : Joined) (doing : Doing) (one other : Acted) → one ≡ other
    → MakesAct old (made side doing other) new → MakesAct old (made side doing one) new
answered_as side old new doing one other same acts =
    subst (λ (answer : Acted). MakesAct old (made side doing answer) new) (sym same) acts

pub pump_acts : (side : Side) (old new : Joined) (result : Result ℕ EndRefusal) (answer : Acted)
    → answer ≡ acted_by acted.Count result
    → ChangesEnd side old new → EndPumps (end_at side old) result (end_at side new)
    → MakesAct old (made side Pumps answer) new
pump_acts side old new result answer same changes does =
    answered_as side old new Pumps answer _ same
    (acts_on_end side old new Pumps (acted_by acted.Count result) changes
    (λ values one other represents.
    let (after, may, now) = does values one.happened represents in
    let says = pumped_says one.happened result after may in
    record {
      after = after;
      may = pumps result after may;
      represents = now;
      accepted = says.accepted;
      handed = says.handed;
    }))

pub pump_some_acts : (side : Side) (old new : Joined) (most : ℕ) (result : Result ℕ EndRefusal)
    (answer : Acted) → answer ≡ acted_by acted.Count result → ChangesEnd side old new
    → EndPumpsSome (end_at side old) most result (end_at side new)
    → MakesAct old (made side (PumpsSome most) answer) new
pump_some_acts side old new most result answer same changes does =
    answered_as side old new (PumpsSome most) answer _ same
    (acts_on_end side old new (PumpsSome most) (acted_by acted.Count result) changes
    (λ values one other represents.
    let (after, may, now) = does values one.happened represents in
    let says = passed_says most one.happened result after may in
    record {
      after = after;
      may = pumps_some most result after may;
      represents = now;
      accepted = says.accepted;
      handed = says.handed;
    }))

pub release_acts : (side : Side) (old new : Joined) (result : Result (Unit {0}) EndRefusal)
    (answer : Acted) → answer ≡ acted_by (λ done. acted.Done) result
    → ChangesEnd side old new → EndReleases (end_at side old) result (end_at side new)
    → MakesAct old (made side ReleasesAll answer) new
release_acts side old new result answer same changes does =
    answered_as side old new ReleasesAll answer _ same
    (acts_on_end side old new ReleasesAll (acted_by (λ done. acted.Done) result) changes
    (λ values one other represents.
    let (after, may, now) = does values one.happened represents in
    let says = released_says one.happened result after may in
    record {
      after = after;
      may = releases_all result after may;
      represents = now;
      accepted = says.accepted;
      handed = says.handed;
    }))

pub call_acts : (side : Side) (old new : Joined) (act : Act) (answered : Answer) (answer : Acted)
    → answer ≡ acted_as answered → IsControlCall act → IsTypedAct act
    → ChangesEnd side old new → EndAnswers (end_at side old) act answered (end_at side new)
    → MakesAct old (made side (Calls act) answer) new
call_acts side old new act answered answer same is typed changes does =
    answered_as side old new (Calls act) answer _ same
    (acts_on_end side old new (Calls act) (acted_as answered) changes
    (λ values one other represents.
    let (may, now) = does values one.happened represents in
    record {
      after = end_with_log one.happened (with_call one.happened.log act answered);
      may = calls act answered is typed may;
      represents = now;
      accepted = refl;
      handed = refl;
    }))
