use Rattle.hpack.proofs.Names.{◌∙◌}
use Rattle.hpack.proofs.SearchLemmas.{same_octets-pointwise}
use Rattle.hpack.proofs.WordLemmas.{halves_differ, halves_decide}
use Rattle.hpack.proofs.encode.search.have_same_halves.Goals as goal

pub returns-then-octets-lt4 : goal.returns-then-octets-lt4
returns-then-octets-lt4 c =
    c.eq.ensures ∙ same_octets-pointwise c.args.octets.now c.args.others.now

pub returns-then-first-others_first : goal.returns-then-first-others_first
returns-then-first-others_first c =
    halves_differ c.args.octets.now c.args.others.now c.halves-first.result.0
    c.halves-others_first.result.0 c.halves-first.ensures.first
    c.halves-others_first.ensures.first c.if-first-others_first.true

pub returns : goal.returns
returns c =
    halves_decide c.args.octets.now c.args.others.now c.halves-first.result.0
    c.halves-others_first.result.0 c.halves-first.result.1 c.halves-others_first.result.1
    c.if-octets-lt4.false c.requires.few c.requires.length c.requires.octets c.requires.others
    c.halves-first.ensures.first c.halves-others_first.ensures.first c.halves-first.ensures.last
    c.halves-others_first.ensures.last c.if-first-others_first.false
