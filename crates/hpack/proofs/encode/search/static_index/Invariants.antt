use Rattle.hpack.proofs.Names.{◌-◌, static_entries, is_sought, bucket_of, name_bucket}
use Rattle.hpack.proofs.ChainLemmas.{IsReached}
use Rattle.hpack.proofs.encode.search.static_index.Given as goal

abbrev pub invariant-loop-place : goal.invariant-loop-place
invariant-loop-place l =
    IsReached name_bucket (bucket_of 128 l.hash) (is_sought l.sought l.field) 1 static_entries
    l.place

abbrev pub decreases-loop-place : goal.decreases-loop-place
decreases-loop-place l = 61 - l.place
