use Rattle.hpack.proofs.Names.{List, ℕ, ◌++◌, take, drop, sym, ap, ◌∙◌, length-take-le}
use Rattle.std.proofs.lemmas.List.{take-append-drop}
use Rattle.hpack.proofs.PrefixLemmas.{octets_after, split_at_count, index_no_entry}
use Rattle.hpack.proofs.decode.literal.indexed_at.Goals as goal

pub returns-in_default-clause-fault : goal.returns-in_default-clause-fault
returns-in_default-clause-fault c =
    let octets = c.args.octets.now in
    let count = c.in_ok-index.count in
    index_no_entry c.args.table.now.entries c.in_ok-index.index octets (take count octets)
    (octets_after octets count) (split_at_count octets count) c.in_ok-index.ensures.ok.1
    c.in_default.ensures

pub returns-clause-ok : goal.returns-clause-ok
returns-clause-ok c =
    let joined = c.in-Some.joined.now in
    let name_len = c.in-Some.name_len in (
      take name_len joined,
      drop name_len joined,
      c.in_ok-extend_from_slice.ensures.items ∙ ap (λ (xs : List ℕ). c.args.out.now.items ++ xs)
          (sym (take-append-drop name_len joined)),
      sym (length-take-le name_len joined c.in-Some.ensures.0),
      c.in_ok-index.ensures.ok.0,
      record {
        index = c.in_ok-index.index;
        encoded = c.in_ok-index.ensures.ok.1;
        named = c.in-Some.ensures.1;
      },
    )
