-- There is capacity for the octets of the remaining pairs.
use Rattle.std.proofs.Common.{◌≡◌, ◌+◌, ◌≤◌, ℕ, List, length, take, flat_map, ap, ◌∙◌, arith}
use Rattle.std.proofs.Common.{length-append}
use Rattle.std.proofs.lemmas.List.Folds.{length-flat_map-take}
use Rattle.h2_frame.specs.Encoding.{pair_octets}
use Rattle.h2_frame.proofs.appending.append_pairs.Goals as goal

pub unwrap-requires : goal.unwrap-requires
unwrap-requires c =
    let pairs = c.args.pairs.now in
    let i = c.loop-id.id-index in
    let done = flat_map pair_octets (take i pairs) in
    let so_far : length c.loop-id.out.items ≡ length c.args.out.now.items + length done =
    ap (λ (xs : List ℕ). length xs) c.loop-id.invariant.items
    ∙ length-append c.args.out.now.items done in
    let more : length done + 6 ≤ length (flat_map pair_octets pairs) =
    length-flat_map-take pair_octets pairs i (0, 0) (omega arith) in
    c.extend_from_slice.ensures.succeeds
    (rw (c.write_u32.ensures, c.write_u16.ensures)
    (omega (
      arith,
      so_far,
      more,
      c.requires,
      c.loop-id.invariant.capacity,
      c.loop-id.out.ok.0,
      c.args.out.now.ok.0,
    )))
