use Rattle.hpack.proofs.Names.{◌∙◌, ℕ, sym, ap, arith, mixed}
use Rattle.hpack.proofs.HashLemmas.{hash_words_more, hash_words_none, hash_long, hash_short}
use Rattle.hpack.proofs.encode.hash.hash_from.Goals as goal

pub returns-in_default : goal.returns-in_default
returns-in_default c =
    c.mixed.ensures ∙ hash_short c.args.hash c.short_word.result c.args.octets.now
    c.in_default.ensures.cases c.short_word.ensures

pub returns-then-octets-eq8 : goal.returns-then-octets-eq8
returns-then-octets-eq8 c =
    c.mixed-then-octets-eq8.ensures
    ∙ (ap (λ (n : ℕ). mixed c.args.hash n) c.from_le_bytes-last.ensures
    ∙ hash_long c.args.hash c.args.hash c.args.octets.now c.in-Some.last.now
    c.in-Some.ensures.cases.0 (sym (hash_words_none c.args.hash c.args.octets.now (omega arith)))
    c.in-Some.ensures.cases.1.same)

pub loop-rest-init : goal.loop-rest-init
loop-rest-init c =
    hash_words_more c.args.hash c.mixed-before_last.result c.args.octets.now
    c.in-Some-split_first_chunk.first.now c.in-Some-split_first_chunk.after_first.now
    (omega (arith, c.in-Some-split_first_chunk.ensures.cases.2, c.if-octets-eq8.false))
    c.in-Some-split_first_chunk.ensures.cases.0 c.in-Some-split_first_chunk.ensures.cases.1
    c.in-Some-split_first_chunk.ensures.cases.2 (c.mixed-before_last.ensures
    ∙ ap (λ (n : ℕ). mixed c.args.hash n) c.from_le_bytes.ensures)

pub loop-rest-preserved : goal.loop-rest-preserved
loop-rest-preserved c =
    hash_words_more c.loop-rest.before_last c.mixed-before_last-in-loop-rest.result
    c.loop-rest.rest.now c.in-Some-split_first_chunk-2.word.now
    c.in-Some-split_first_chunk-2.more.now c.loop-rest-test.true
    c.in-Some-split_first_chunk-2.ensures.cases.0 c.in-Some-split_first_chunk-2.ensures.cases.1
    c.in-Some-split_first_chunk-2.ensures.cases.2 (c.mixed-before_last-in-loop-rest.ensures
    ∙ ap (λ (n : ℕ). mixed c.loop-rest.before_last n) c.from_le_bytes-in-loop-rest.ensures)
    ∙ c.loop-rest.invariant

pub returns : goal.returns
returns c =
    c.mixed-2.ensures
    ∙ (ap (λ (n : ℕ). mixed c.loop-rest.before_last n) c.from_le_bytes-last.ensures
    ∙ hash_long c.args.hash c.loop-rest.before_last c.args.octets.now c.in-Some.last.now
    c.in-Some.ensures.cases.0
    (sym (hash_words_none c.loop-rest.before_last c.loop-rest.rest.now c.loop-rest-test.false)
    ∙ c.loop-rest.invariant) c.in-Some.ensures.cases.1.same)
