use Rattle.hpack.proofs.Names.{List, ℕ, ◌++◌, length, take, ap, ◌∙◌, length-append, append_assoc}
use Rattle.hpack.proofs.Names.{arith, err_from_is_err_and, IsInt, IsStr, IsName, IsLiteral}
use Rattle.hpack.proofs.PrefixLemmas.{fault_moves, octets_after, split_at_count, literal_no_name}
use Rattle.hpack.proofs.PrefixLemmas.{literal_no_head, literal_no_value, literal_found}
use Rattle.hpack.proofs.decode.literal.parts_at.Goals as goal

pub returns-in_err-index-clause-fault : goal.returns-in_err-index-clause-fault
returns-in_err-index-clause-fault c =
    let p = err_from_is_err_and c.from_residual.result c.from_residual.ensures.1 in
    rw (p.1, p.2) (fault_moves (IsInt c.args.prefix_bits)
    (IsLiteral c.args.table.now.entries c.args.prefix_bits) c.args.octets.now c.args.octets.now _
    (literal_no_head c.args.table.now.entries c.args.prefix_bits c.args.octets.now)
    c.in_err-index.ensures.fault)

pub returns-in_err-name_octets-clause-fault : goal.returns-in_err-name_octets-clause-fault
returns-in_err-name_octets-clause-fault c =
    let p = err_from_is_err_and c.from_residual-in_err-name_octets.result
    c.from_residual-in_err-name_octets.ensures.1 in
    let entries = c.args.table.now.entries in
    let octets = c.args.octets.now in
    let head_len = c.in_ok-index.head_len in
    let index = c.in_ok-index.index in
    rw (p.1, p.2) (fault_moves (IsName entries index) (IsLiteral entries c.args.prefix_bits)
    (octets_after octets head_len) octets _
    (literal_no_name entries c.args.prefix_bits index octets (take head_len octets)
    (octets_after octets head_len) (split_at_count octets head_len) c.in_ok-index.ensures.ok.1)
    c.in_err-name_octets.ensures.fault)

pub returns-in_err-value_octets-clause-fault : goal.returns-in_err-value_octets-clause-fault
returns-in_err-value_octets-clause-fault c =
    let p = err_from_is_err_and c.from_residual-in_err-value_octets.result
    c.from_residual-in_err-value_octets.ensures.1 in
    let entries = c.args.table.now.entries in
    let octets = c.args.octets.now in
    let head_len = c.in_ok-index.head_len in
    let index = c.in_ok-index.index in
    let following = octets_after octets head_len in
    let name_octets = c.in_ok-name_octets.name_octets in
    let joined = split_at_count octets head_len
    ∙ ap (λ (xs : List ℕ). take head_len octets ++ xs) (split_at_count following name_octets) in
    rw (p.1, p.2) (fault_moves IsStr (IsLiteral entries c.args.prefix_bits)
    (octets_after following name_octets) octets _
    (literal_no_value entries c.args.prefix_bits index octets (take head_len octets)
    (take name_octets following) c.in_ok-name_octets.ensures.ok.0
    (octets_after following name_octets) joined
    c.in_ok-index.ensures.ok.1 c.in_ok-name_octets.ensures.ok.3)
    c.in_err-value_octets.ensures.fault)

pub returns-clause-ok : goal.returns-clause-ok
returns-clause-ok c =
    let name = c.in_ok-name_octets.ensures.ok in
    let value = c.in_ok-value_octets.ensures.ok in
    let found =
    literal_found c.args.table.now.entries c.args.prefix_bits c.in_ok-index.index c.args.octets.now
    name.0 value.0 c.in_ok-index.head_len c.in_ok-name_octets.name_octets
    c.in_ok-value_octets.value_octets
    c.in_ok-index.ensures.ok.0 c.in_ok-index.ensures.ok.1 name.2 name.3 value.2 value.3 in (
      name.0,
      value.0,
      value.1 ∙ (ap (λ (xs : List ℕ). xs ++ value.0) name.1
          ∙ append_assoc c.args.out.now.items name.0 value.0),
      omega (
        arith,
        ap (λ (xs : List ℕ). length xs) name.1,
        length-append c.args.out.now.items name.0,
        c.args.out.now.ok.0,
        c.name_at.new.out.ok.0,
        c.len-start.ensures,
        c.len.ensures,
      ),
      found.0,
      found.1,
    )
