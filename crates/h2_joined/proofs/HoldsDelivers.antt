-- What delivering octets makes of an end: call after call of `take`, until all octets are used and
-- nothing is handed out, the connection has failed, or there is no room before a call.
use Rattle.h2_joined.proofs.Names
use Names.{suc, drop, refl, subst, EndLog, Whole, Fails, Stops, ◌≡◌, ℕ, List, None, fails, passes}
use Names.{◌++◌, length, EndAnswer, EndFailed, EndMayTake, hands_out, KeepsOrder, Delivery, refuses}
use Names.{next_unprocessed, EndTook, hands_nothing, refusal_fails, runs_out_of_memory, IsDelivered}
use Rattle.std.proofs.Math.Seq.{drop-length}
use Rattle.h2_laws_pair.proofs.StepUnprocessed.{take_reports_all}
use Rattle.h2_joined.proofs.HoldsTakes.{Around, HoldsIn, FallsIn, take_leads}
use Rattle.h2_joined.specs.Joints as joints

-- A call of `take` that hands out nothing leaves no stream that the peer does not process and that
-- was not reported.
reports_all : (end : EndLog) (piece : List ℕ) (answer : EndAnswer) (after : EndLog) (count : ℕ)
    → EndMayTake end piece answer after → answer ≡ EndTook count None
    → next_unprocessed after.log ≡ 0
reports_all end piece answer after count (fails code log may answers same) none = absurd (cc)
reports_all end piece answer after count (hands_nothing used log may answers same) none =
    rw same (take_reports_all end.log log piece used may)
reports_all end piece answer after count (passes used event log may unread answers same) none =
    absurd (cc)
reports_all end piece answer after count
    (hands_out used event log may id part of readable answers same) none = absurd (cc)
reports_all end piece answer after count
    (refuses used event log may id part of stops refused answers_it up answers same) none =
    absurd (cc)
reports_all end piece answer after count
    (refusal_fails used event log may id part of stops refused answers_it code down answers same)
    none = absurd (cc)
reports_all end piece answer after count
    (runs_out_of_memory used id list ends log may role first readable refused answers_it answers
    same) none = absurd (cc)

-- What holds after a delivery, by how it ends.
abbrev pub DeliversIn : Around → (later : List ℕ) → Delivery → EndLog → Type 0
DeliversIn around later Whole after =
    HoldsIn around after later × (next_unprocessed after.log ≡ 0)
DeliversIn around later (Fails code) after = FallsIn around code after later
DeliversIn around later (Stops unused) after = HoldsIn around after (unused ++ later)

-- After each call it holds, and so after the delivery.
pub delivery_leads : (around : Around) (calls : ℕ) (end : EndLog) (octets later : List ℕ)
    (delivery : Delivery) (after : EndLog) → KeepsOrder around.other.happened
    → HoldsIn around end (octets ++ later) → IsDelivered calls end octets delivery after
    → DeliversIn around later delivery after
delivery_leads around _ end _ later _ after order is (joints.is_whole calls octets few may) = (
  subst (λ (left : List ℕ). HoldsIn around after (left ++ later)) (drop-length octets)
      (take_leads around end octets later (EndTook (length octets) None) after order is may),
  reports_all end octets (EndTook (length octets) None) after (length octets) may refl,
)
delivery_leads around _ end _ later _ after order is
    (joints.goes_on {between = between} calls octets count handed delivery few may more
    delivered) =
    delivery_leads around (suc calls) between (drop count octets) later delivery after order
    (take_leads around end octets later (EndTook count handed) between order is may) delivered
delivery_leads around _ end _ later _ after order is (joints.fails calls octets code few may) =
    take_leads around end octets later (EndFailed code) after order is may
delivery_leads around _ end _ later _ _ order is (joints.stops calls octets) = is
