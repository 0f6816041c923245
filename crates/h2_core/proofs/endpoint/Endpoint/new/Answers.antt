-- Part by part, as each is made.
use Rattle.h2_core.proofs.Names.{◌≡◌, [], Option, Some, None, length, refl, ap, arith}
use Rattle.h2_core.proofs.Names.{length-append, Begun, Groups, encoding_of_items, encoding_of_item}
use Rattle.h2_spec_machine.specs.Machine.{new_end}
use Rattle.h2_core.proofs.endpoint.Endpoint.new.Goals as goal

-- Before any frame no block has begun.
none_begun : (begun : Option Begun) → Groups [] [] begun → begun ≡ None
none_begun None groups = refl
none_begun (Some begun) groups =
    let sizes = simp length-append at (ap length groups.joined) in
    let opened = ap length groups.unfinished.0.opened in
    absurd (omega (arith, sizes, opened))

pub returns-clause-ok : goal.returns-clause-ok
unfolding new_end encoding_of_items encoding_of_item
returns-clause-ok c =
    let begun : c.new-3.result.begun ≡ None = none_begun _ c.new-3.ensures.split in
    rw (
      begun,
      c.first.ensures,
      c.in-Ok-Ok.ensures.ok,
      c.in-Ok-Ok.ensures'.ok,
      c.new-5.ensures,
      c.max_streams.ensures,
      c.in-Ok.ensures.1,
    )
    refl
