use Rattle.std.proofs.Common.{◌∙◌, ◌<◌, ◌+◌, sym, refl, length, take, arith}
use Rattle.hpack.specs.Sought.{is_sought}
use Rattle.hpack.specs.PendingTable.{newest_first}
use Rattle.hpack.specs.Chains.{bucket_by}
use Rattle.hpack.specs.Hashes.{bucket_of}
use Rattle.hpack.proofs.ChainLemmas.{reached_first, reached_next}
use Rattle.hpack.proofs.IndexLemmas.{sought_bucket}
use Rattle.hpack.proofs.PendingTableLemmas.{live_is_small, pending_end, pending_found}
use Rattle.hpack.proofs.PendingTableLemmas.{pending_missed}
use Rattle.hpack.proofs.PendingTableLemmas.{live_length}
use Rattle.hpack.proofs.encode.pending_table.PendingTable.dynamic_index.Goals as goal

pub loop-place-init : goal.loop-place-init
loop-place-init c =
    let entries = take c.args.self.now.live (newest_first c.args.self.now c.args.table.now) in
    let count = length c.chains-chains.result.now.newest.items in
    reached_first (bucket_by c.args.sought count) (bucket_of count c.args.hash)
    (is_sought c.args.sought c.args.field.now) 62 entries c.first-place.result
    (sought_bucket c.args.sought c.args.field.now count c.args.hash c.requires.hash)
    (c.first-place.ensures (bucket_by c.args.sought count) entries
    (c.chains-chains.ensures entries c.requires.pending.index))

pub overflow_add-result : goal.overflow_add-result
overflow_add-result c =
    omega (arith, live_is_small c.args.self.now c.args.table.now c.requires.pending)

pub returns-then-is_match_at : goal.returns-then-is_match_at
returns-then-is_match_at c =
    pending_found (is_sought c.args.sought c.args.field.now) c.args.self.now c.args.table.now
    c.loop-place.place c.is_match_at.result c.requires.pending c.loop-place-test.true
    c.is_match_at.ensures c.if-is_match_at.true ∙ c.loop-place.invariant.none_before

pub overflow_add-place-in-loop-place : goal.overflow_add-place-in-loop-place
overflow_add-place-in-loop-place c =
    omega (
      arith,
      c.skip.ensures.small,
      live_is_small c.args.self.now c.args.table.now c.requires.pending,
    )

pub loop-place-preserved : goal.loop-place-preserved
loop-place-preserved c =
    let newest = newest_first c.args.self.now c.args.table.now in
    let entries = take c.args.self.now.live newest in
    let count = length c.chains-chains.result.now.newest.items in
    let short : c.loop-place.place < length entries = omega (
      arith,
      c.loop-place-test.true,
      live_length c.args.self.now c.args.table.now c.requires.pending,
    ) in
    reached_next (bucket_by c.args.sought count) (bucket_of count c.args.hash)
    (is_sought c.args.sought c.args.field.now) 62 entries c.loop-place.place c.skip.result _
    (sought_bucket c.args.sought c.args.field.now count c.args.hash c.requires.hash)
    c.loop-place.invariant short
    (pending_missed (is_sought c.args.sought c.args.field.now) c.args.self.now c.args.table.now
    c.loop-place.place c.is_match_at.result c.requires.pending c.loop-place-test.true
    c.is_match_at.ensures c.if-is_match_at.false)
    (λ other. c.skip.ensures.leads (bucket_by c.args.sought count) entries other
    (c.chains-chains.ensures entries c.requires.pending.index) short) refl

pub returns : goal.returns
returns c =
    sym (pending_end (is_sought c.args.sought c.args.field.now) c.args.self.now c.args.table.now
    (62 + c.loop-place.place) c.loop-place.place c.requires.pending c.loop-place-test.false)
    ∙ c.loop-place.invariant.none_before
