-- The octets that are lent are those that lie there.
use Rattle.h2_ends.proofs.Names.{◌≡◌, ℕ, List, [], Bool, false, Some, refl, ap, both_ways, Field}
use Rattle.h2_ends.proofs.Names.{End, EndTook, Handed, LocatedPart, end_event_with_parts}
use Rattle.h2_ends.specs.Loans.{handed_value, BodyLiesIn, IsBodyIn, event_handed}
use Rattle.h2_wire.specs.Cutter.{body_at}
use Rattle.h2_wire.specs.declared.cut.Complete.{Complete}
use Rattle.std.specs.Borrow.{Bor}
use Rattle.h2_ends.proofs.lending.lend.Goals.{in-Body+in-Some-octets, in_default-handed}
use Rattle.h2_ends.specs.declared.event.EndEvent.TheVariants as events
use Rattle.h2_ends.proofs.lending.lend.Goals as goal

-- An event is lent with the fields that are kept, and the octets of its body, if it is one.
lent_as : (end : End) (piece : List ℕ) (fields : Bor (List Field)) (octets : Bor (List ℕ))
    (one : LocatedPart) → fields.now ≡ end.conn.end.list
    → ((id : ℕ) (frame : Complete) (last : Bool) → one ≡ events.Body id frame last
    → body_at end.conn.cutter piece frame ≡ Some octets.now)
    → IsBodyIn end piece octets.now (Some one)
    × (event_handed (end_event_with_parts fields octets one)
    ≡ handed_value end.conn.end.list octets.now one)
unfolding IsBodyIn
lent_as end piece fields octets (events.Interim id list) same lies = (tt, rw same refl)
lent_as end piece fields octets (events.Head id list last) same lies = (tt, rw same refl)
lent_as end piece fields octets (events.Body id frame last) same lies =
    (lies id frame last refl, refl)
lent_as end piece fields octets (events.Trailers id list) same lies = (tt, rw same refl)
lent_as end piece fields octets (events.Reset id code ours) same lies = (tt, refl)
lent_as end piece fields octets (events.Unprocessed id) same lies = (tt, refl)
lent_as end piece fields octets (events.GoAway last code) same lies = (tt, refl)
lent_as end piece fields octets events.Acked same lies = (tt, refl)
lent_as end piece fields octets (events.Pong ping) same lies = (tt, refl)

pub returns-in_default : goal.returns-in_default
unfolding IsBodyIn
returns-in_default c = ([], rw c.in_default.is tt, rw c.in_default.is refl)

pub unreachable-requires : goal.unreachable-requires
unfolding BodyLiesIn
unreachable-requires c =
    both_ways false refl
    (rw c.in-None.ensures at (rw (c.in-Some.is, c.in-Body.is) at c.requires.lies))

pub returns : goal.returns
unfolding IsBodyIn
returns c = elim c.match-handed.branch [
  | in-Body+in-Some-octets w ↦ (
    w.in-Some-octets.bytes.now,
    rw (c.in-Some.is, w.in-Body.is) w.in-Some-octets.ensures,
    rw (w.event-is, c.in-Some.is, w.in-Body.is) refl,
  )
  | in_default-handed w ↦
      let lent = lent_as c.args.end.now c.args.piece.now w.list.result w.as_slice.result
      c.in-Some.handed w.list.ensures
      (λ id frame last is. absurd (w.in_default-handed.not-Body _ _ _ is)) in (
        w.as_slice.result.now,
        rw c.in-Some.is lent.0,
        rw (w.event-is, w.with_parts-event.ensures, c.in-Some.is)
            (ap (λ (one : Handed). EndTook c.args.progress.used (Some one)) lent.1),
      )
]
