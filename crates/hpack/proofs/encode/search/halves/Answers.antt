use Rattle.hpack.proofs.Names.{◌∙◌, ℕ, List, ap}
use Rattle.std.specs.Int.{w32, from_le_bytes}
use Rattle.hpack.proofs.encode.search.halves.Goals as goal

pub returns-clause-first : goal.returns-clause-first
returns-clause-first c = c.from_le_bytes.ensures
    ∙ ap (λ (os : List ℕ). from_le_bytes w32 os) c.in-Some-Some.ensures.cases.same

pub returns-clause-last : goal.returns-clause-last
returns-clause-last c = c.from_le_bytes-2.ensures
    ∙ ap (λ (os : List ℕ). from_le_bytes w32 os) c.in-Some-Some.ensures'.cases.1.same
