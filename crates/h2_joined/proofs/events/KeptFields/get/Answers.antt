-- A field of a list, by its place.
use Rattle.h2_joined.proofs.Names.{arith, stored_field}
use Rattle.h2_joined.proofs.KeptPlaces.{made_at}
use Rattle.h2_joined.proofs.events.KeptFields.get.Goals as goal

pub returns : goal.returns
unfolding stored_field
returns c =
    let list = c.args.self.now in
    rw (c.octets_at.ensures, c.octets_at-2.ensures)
    (made_at (stored_field list.octets.now) list.places.now c.args.place _
    (omega (arith, c.if-place-self.false)))
