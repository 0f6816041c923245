-- The part there, or none.
use Rattle.std.proofs.Common.{ap, sym, ◌∙◌, arith, take, drop_of_length-le}
use Rattle.std.specs.Io.Slices.{io_slices_bytes}
use Rattle.h2_net.proofs.PartsSent.{part_there}
use Rattle.h2_net.proofs.parts.part_at.Goals as goal

pub returns-then-at-parts : goal.returns-then-at-parts
returns-then-at-parts c = part_there c.args.parts.now c.args.at _ c.if-at-parts.true

pub returns : goal.returns
returns c =
    c.new.ensures ∙ sym (ap (λ rest. io_slices_bytes (take 1 rest))
    (drop_of_length-le c.args.parts.now (omega (arith, c.if-at-parts.false))))
