use Rattle.hpack.proofs.Names.{◌∙◌, ℕ, List, length, ap, sym, subst, AreOctetsByPlace, same_octets}
use Rattle.hpack.proofs.WordLemmas.{last_same, last_differs}
use Rattle.hpack.proofs.encode.search.have_same_words.Goals as goal

pub returns-in_default : goal.returns-in_default
returns-in_default c =
    c.have_same_halves.ensures
    ∙ ap (λ (os : List ℕ). same_octets c.args.octets.now os) c.of_length-others.ensures

pub returns-then-from_le_bytes : goal.returns-then-from_le_bytes
returns-then-from_le_bytes c =
    last_differs c.args.octets.now c.of_length-others.result.now c.in-Some-Some.last.now
    c.in-Some-Some.others_last.now c.from_le_bytes.result c.from_le_bytes-2.result
    c.in-Some-Some.ensures.cases.1.same c.in-Some-Some.ensures'.cases.1.same
    c.from_le_bytes.ensures c.from_le_bytes-2.ensures c.if-from_le_bytes.true
    ∙ ap (λ (os : List ℕ). same_octets c.args.octets.now os) c.of_length-others.ensures

pub have_same_beginnings-requires-clause-last : goal.have_same_beginnings-requires-clause-last
have_same_beginnings-requires-clause-last c =
    last_same c.args.octets.now c.of_length-others.result.now c.in-Some-Some.last.now
    c.in-Some-Some.others_last.now c.from_le_bytes.result c.from_le_bytes-2.result
    c.in-Some-Some.ensures.cases.0
    (c.requires.length ∙ ap (λ (os : List ℕ). length os) (sym c.of_length-others.ensures))
    c.in-Some-Some.ensures.cases.1.same c.in-Some-Some.ensures'.cases.1.same c.requires.octets
    (subst AreOctetsByPlace (sym c.of_length-others.ensures) c.requires.others)
    c.from_le_bytes.ensures c.from_le_bytes-2.ensures c.if-from_le_bytes.false
