use Rattle.hpack.proofs.Names.{◌∙◌, ap, take_all, word_of}
use Rattle.hpack.proofs.HashLemmas.{word_tiny, word_short}
use Rattle.hpack.proofs.encode.hash.short_word.Goals as goal

pub returns-then-octets-lt4 : goal.returns-then-octets-lt4
returns-then-octets-lt4 c =
    word_tiny c.loop-octet.word c.args.octets.now c.if-octets-lt4.true
    (c.loop-octet.invariant ∙ ap word_of
    (take_all c.loop-octet.octet-index c.args.octets.now c.loop-octet-test.false))

pub returns : goal.returns
returns c =
    word_short c.args.octets.now c.in-Some-Some.first.now c.in-Some-Some.last.now c.from-2.result
    c.from-3.result c.if-octets-lt4.false c.in-Some-Some.ensures.cases.same
    c.in-Some-Some.ensures'.cases.1.same
    (c.from-2.ensures ∙ c.from_le_bytes.ensures) (c.from-3.ensures ∙ c.from_le_bytes-2.ensures)
