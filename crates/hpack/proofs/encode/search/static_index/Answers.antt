use Rattle.hpack.proofs.Names.{◌≡◌, ◌∙◌, ◌<◌, ◌+◌, sym, refl, length, arith, static_entries}
use Rattle.hpack.proofs.Names.{is_sought, bucket_of, name_bucket}
use Rattle.hpack.proofs.ChainLemmas.{reached_first, reached_next, reached_here, reached_end}
use Rattle.hpack.proofs.StaticChainLemmas.{name_in_bucket, static_length}
use Rattle.hpack.proofs.encode.search.static_index.Goals as goal

pub loop-place-init : goal.loop-place-init
loop-place-init c =
    reached_first name_bucket (bucket_of 128 c.args.hash) (is_sought c.args.sought c.args.field.now)
    1 static_entries c.first_place-place.result
    (name_in_bucket c.args.sought c.args.field.now c.args.hash c.requires)
    c.first_place-place.ensures

pub returns-then-is_static_match : goal.returns-then-is_static_match
returns-then-is_static_match c =
    let short : c.loop-place.place < length static_entries =
    omega (arith, c.loop-place-test.true, static_length) in
    let number : c.loop-place.place + 1 ≡ 1 + c.loop-place.place = omega arith in
    number ∙ reached_here name_bucket (bucket_of 128 c.args.hash)
    (is_sought c.args.sought c.args.field.now) 1 static_entries c.loop-place.place
    c.loop-place.invariant short
    (λ other. sym (c.is_static_match.ensures other) ∙ c.if-is_static_match.true)

pub loop-place-preserved : goal.loop-place-preserved
loop-place-preserved c =
    let short : c.loop-place.place < length static_entries =
    omega (arith, c.loop-place-test.true, static_length) in
    reached_next name_bucket (bucket_of 128 c.args.hash) (is_sought c.args.sought c.args.field.now)
    1 static_entries c.loop-place.place c.skip_after.result _
    (name_in_bucket c.args.sought c.args.field.now c.args.hash c.requires)
    c.loop-place.invariant short
    (λ other. sym (c.is_static_match.ensures other) ∙ c.if-is_static_match.false)
    c.skip_after.ensures.leads refl

pub returns : goal.returns
returns c =
    reached_end name_bucket (bucket_of 128 c.args.hash) (is_sought c.args.sought c.args.field.now) 1
    static_entries c.loop-place.place c.loop-place.invariant
    (omega (arith, c.loop-place-test.false, static_length))
