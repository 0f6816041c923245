-- The octets are added to what is kept.
use Rattle.h2_engines.proofs.Names.{ap, sym, Some, None, refl, inl, inr, arith, Request}
use Rattle.h2_engines.proofs.Names.{AddsOctets, EndsRequest, Requests}
use Rattle.h2_numbers.specs.Tables.{TableEntries, all_of}
use Rattle.std.specs.Option.{is_some}
use Rattle.h2_engines.proofs.RequestTable.{changes_one, changes_none, changes_twice}
use Rattle.h2_engines.proofs.request.Requests.add.Goals as goal

pub returns-then-end : goal.returns-then-end
returns-then-end c = rw c.if-end.true c.add_last.ensures

pub returns-in_default : goal.returns-in_default
unfolding AddsOctets
returns-in_default c =
    let none = sym c.in_default.ensures.value in
    rw none (
      refl,
      changes_none c.args.self.now _ c.args.id none
          (ap (λ (table : TableEntries Request). all_of table)
          c.get_mut.follows.holds-at-none),
    )

pub returns-then-bytes-room : goal.returns-then-bytes-room
unfolding AddsOctets
returns-then-bytes-room c =
    let request = c.in-Some.request.now in
    let found = sym c.in-Some.ensures.value in
    let before : Requests = record c.args.self.now { kept = c.get_mut.follows.lender request } in
    rw found (inl (
      omega (arith, c.room.ensures),
      refl,
      changes_twice
          (changes_one c.args.self.now before c.args.id (Some request)
          ((c.get_mut.follows.holds request).changes (ap is_some found)))
          (changes_one before _ c.args.id None c.remove.ensures.updates),
    ))

pub returns : goal.returns
unfolding AddsOctets EndsRequest
returns c =
    let found = sym c.in-Some.ensures.value in
    let longer : Request = c.extend.new.self in
    let next : Requests = record c.args.self.now { kept = c.get_mut.follows.lender longer } in
    rw (c.if-end.false, found) (inr (
      omega (arith, c.room.ensures),
      (
        longer,
        c.in_ok-extend.ensures,
        (
          refl,
          changes_one c.args.self.now next c.args.id (Some longer)
              ((c.get_mut.follows.holds longer).changes (ap is_some found)),
        ),
      ),
    ))
