-- What holds of two joined ends is kept where octets are delivered.
use Rattle.h2_joined.proofs.Names.{true, [], ◌∷◌, ◌++◌, length, take, drop, ap, take-append-drop}
use Rattle.h2_joined.proofs.Names.{Values, EndLog, Side, Acted, Delivers, Delivery, Whole, Fails}
use Rattle.h2_joined.proofs.Names.{Stops, IsDelivered, JointEnd, Made, ℕ, Bool, false, List}
use Rattle.h2_joined.proofs.Names.{other_side}
use Rattle.h2_joined.proofs.HoldsDelivers.{delivery_leads, DeliversIn}
use Rattle.h2_joined.proofs.HoldsTakes.{Around, HoldsIn, IsCalmIn}
use Rattle.h2_joined.proofs.JointHolds.{HoldsAt, end_holds_more, reported_by, AllHadMemory}
use Rattle.h2_joined.proofs.JointHolds.{HasReported, IsCalm, StaysAt}
use Rattle.h2_joined.proofs.HoldsSteps.{where_at}
use Rattle.h2_joined.specs.declared.act.Acted.TheVariants as acted

-- how a delivery is answered
abbrev pub answer_of_delivery : List ℕ → Delivery → Acted
answer_of_delivery octets Whole = acted.Count (length octets)
answer_of_delivery octets (Fails code) = acted.Failed code
answer_of_delivery octets (Stops unused) = acted.Memory

-- what is left on the pipe of the octets that were delivered
abbrev pub left_of_delivery : Delivery → List ℕ
left_of_delivery Whole = []
left_of_delivery (Fails code) = []
left_of_delivery (Stops unused) = unused

-- whether it has stopped
abbrev pub is_unfinished : Delivery → Bool
is_unfinished Whole = false
is_unfinished (Fails code) = false
is_unfinished (Stops unused) = true

module _ (side : Side) (client_values server_values : Values) (made : List Made)
    (one other : JointEnd) (holds : HoldsAt side client_values server_values made one other) where
  -- the delivery at this end
  abbrev pub around : Around
  around = record {
    side = side;
    client_values = client_values;
    server_values = server_values;
    made = made;
    other = other;
  }

  -- What holds at the start of a delivery.
  pub starts : (count : ℕ)
      → HoldsIn around one.happened (take count one.incoming ++ drop count one.incoming)
  starts count =
      let stays = holds.stays in
      rw (take-append-drop count one.incoming) (record {
        lost = stays.lost;
        other_lost = stays.other_lost;
        pair = stays.pair;
        calm = λ had. let calm = stays.calm had in
            record { holds = calm.holds; accepted = calm.accepted };
      })

  -- The act that delivers is made.
  calm_after : (act : Made) (new : JointEnd) → AllHadMemory made → IsCalmIn around new.happened
      → HasReported new → IsCalm side (act ∷ made) new other
  calm_after act new had calm reported =
      let was = holds.stays.calm had in
      record {
        holds = end_holds_more act made side new.happened calm.holds;
        other_holds = end_holds_more act made (other_side side) other.happened was.other_holds;
        accepted = calm.accepted;
        reported = reported_by side one other new other (λ before. reported) (λ same. same)
            was.reported;
      }

  abbrev delivered_act : ℕ → Acted → Made
  delivered_act count answer = record { side = side; doing = Delivers count; acted = answer }

  abbrev delivered_end : (later : List ℕ) → Delivery → EndLog → JointEnd
  delivered_end later delivery after = record {
    happened = after;
    incoming = left_of_delivery delivery ++ later;
    unfinished = is_unfinished delivery;
  }

  delivery_made : (count : ℕ) (octets later : List ℕ) (delivery : Delivery) (after : EndLog)
      → DeliversIn around later delivery after
      → StaysAt side client_values server_values
      (delivered_act count (answer_of_delivery octets delivery) ∷ made)
      (delivered_end later delivery after) other
  delivery_made count octets later Whole after leads =
      record {
        lost = leads.0.lost;
        other_lost = leads.0.other_lost;
        pair = where_at side client_values server_values _ _ _ _ leads.0.pair (λ had. had.1);
        calm = λ had. calm_after _ _ had.1 (leads.0.calm had.1) (λ finished. leads.1);
      }
  delivery_made count octets later (Fails code) after leads =
      record {
        lost = leads.lost;
        other_lost = leads.other_lost;
        pair = where_at side client_values server_values _ _ _ _ leads.pair
            (λ had. leads.calm had.1 (λ is. had.0.connection (ap acted.Failed is)));
        calm = λ had. absurd (leads.calm had.1 (λ is. had.0.connection (ap acted.Failed is)));
      }
  delivery_made count octets later (Stops unused) after leads =
      record {
        lost = leads.lost;
        other_lost = leads.other_lost;
        pair = where_at side client_values server_values _ _ _ _ leads.pair (λ had. had.1);
        calm = λ had. calm_after _ _ had.1 (leads.calm had.1) (λ finished. absurd (cc));
      }

  -- So a delivery keeps what holds.
  pub delivery_stays : (count : ℕ) (delivery : Delivery) (after : EndLog)
      → IsDelivered 0 one.happened (take count one.incoming) delivery after
      → StaysAt side client_values server_values
      (delivered_act count (answer_of_delivery (take count one.incoming) delivery) ∷ made)
      (delivered_end (drop count one.incoming) delivery after) other
  delivery_stays count delivery after delivered =
      delivery_made count (take count one.incoming) (drop count one.incoming) delivery after
      (delivery_leads around 0 one.happened (take count one.incoming) (drop count one.incoming)
      delivery after holds.other_order (starts count) delivered)
