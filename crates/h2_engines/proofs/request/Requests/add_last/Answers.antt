-- The last octets are added to what was kept.
use Rattle.h2_engines.proofs.Names.{None, sym, refl, inl, inr, arith, AddsOctets, EndsRequest}
use Rattle.h2_engines.proofs.RequestTable.{changes_one}
use Rattle.h2_engines.proofs.request.Requests.add_last.Goals as goal

pub returns-in_default : goal.returns-in_default
unfolding AddsOctets
returns-in_default c =
    rw (sym c.in_default.ensures.value)
    (refl, changes_one c.args.self.now _ c.args.id None c.take.ensures.updates)

pub returns-then-bytes-room : goal.returns-then-bytes-room
unfolding AddsOctets
returns-then-bytes-room c =
    rw (sym c.in-Some.ensures.value) (inl (
      omega (arith, c.room.ensures),
      refl,
      changes_one c.args.self.now _ c.args.id None c.take.ensures.updates,
    ))

pub returns : goal.returns
unfolding AddsOctets EndsRequest
returns c =
    rw (sym c.in-Some.ensures.value) (inr (
      omega (arith, c.room.ensures),
      (
        c.extend.new.self,
        c.in_ok-extend.ensures,
        (refl, changes_one c.args.self.now _ c.args.id None c.take.ensures.updates),
      ),
    ))
