use Rattle.hpack.proofs.Names.{rules, ℕ, List, ap₂, ◌∙◌, arith, after_literal}
use Rattle.hpack.proofs.FieldListLemmas.{joined_after, halves_of}
use Rattle.hpack.proofs.decode.literal.literal_at.Goals as goal

pub returns-clause-ok : goal.returns-clause-ok
returns-clause-ok c =
    let parts = c.in_ok-name_len.ensures.ok in
    let name = parts.0 in
    let value = parts.1 in
    let table = c.args.table.now in
    let out = c.parts_at.new.out in
    let whole = joined_after c.args.out.now.items out.items name value
    c.len-start.result parts.2 (omega (arith, c.len-start.ensures, c.args.out.now.ok.0)) in
    let both = halves_of name value _ c.in_ok-name_len.name_len whole parts.3 in (
      name,
      value,
      parts.2,
      parts.3,
      parts.4,
      rw c.index_prefix_bits.ensures at parts.5,
      search rules,
      rw c.deref.ensures.value at c.in_ok-add_literal.ensures
          ∙ ap₂ (λ (n v : List ℕ). after_literal c.args.kind table (record { name = n; value = v }))
          both.0 both.1,
    )
