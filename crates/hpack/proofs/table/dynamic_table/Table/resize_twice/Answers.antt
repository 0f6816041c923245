use Rattle.hpack.proofs.Names.{◌≡◌, ◌/◌, [], max, ap, arith, Buffer, buffer, Entry}
use Rattle.std.proofs.lemmas.Option.{MatchOption-at_some}
use Rattle.hpack.proofs.RingLemmas.{entries_fit}
use Rattle.hpack.proofs.table.dynamic_table.Table.resize_twice.Goals as goal

pub move_entries-requires-clause-room : goal.move_entries-requires-clause-room
move_entries-requires-clause-room c =
    let made : c.in-Some.ring ≡ buffer [] (max (c.args.last / 32) 1) =
    MatchOption-at_some (max (c.args.last / 32) 1 ≡ max (c.args.self.now.maximum / 32) 1)
    (λ (ring : Buffer Entry). ring ≡ buffer [] (max (c.args.last / 32) 1)) c.in-Some.ring
    c.in-Some.is c.in_ok-ring.ensures.ring in
    entries_fit c.evict-self-inside.new.ring.items c.args.last c.in-Some.ring.capacity
    (omega (arith, c.evict-self-inside.ensures.size, c.evict-self-inside.ensures.within))
    (ap (λ (b : Buffer Entry). b.capacity) made)
