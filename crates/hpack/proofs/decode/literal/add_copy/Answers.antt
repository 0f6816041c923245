use Rattle.hpack.proofs.Names.{arith, take, drop, length-take-le, length-drop, Entry}
use Rattle.hpack.proofs.SizeLemmas.{fit-none}
use Rattle.hpack.proofs.decode.literal.add_copy.Goals as goal

pub returns-then-joined-maximum : goal.returns-then-joined-maximum
returns-then-joined-maximum c =
    let joined = c.args.joined.now in
    let one : Entry = record {
      name = take c.args.name_len joined;
      value = drop c.args.name_len joined;
    } in
    rw (fit-none one c.args.table.now.entries c.args.table.now.maximum (omega (
      arith,
      length-take-le c.args.name_len joined c.requires,
      length-drop c.args.name_len joined,
      c.maximum.ensures,
      c.if-joined-maximum.true,
    ))) c.clear.ensures
