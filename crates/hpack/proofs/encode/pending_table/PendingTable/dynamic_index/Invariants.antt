use Rattle.hpack.proofs.Names.{◌-◌, length, take, is_sought, newest_first, bucket_by, bucket_of}
use Rattle.hpack.proofs.ChainLemmas.{IsReached}
use Rattle.hpack.proofs.encode.pending_table.PendingTable.dynamic_index.Given as goal

abbrev pub invariant-loop-place : goal.invariant-loop-place
invariant-loop-place l =
    IsReached (bucket_by l.sought (length l.chains.newest.items))
    (bucket_of (length l.chains.newest.items) l.hash) (is_sought l.sought l.field) 62
    (take l.self.live (newest_first l.self l.table)) l.place

abbrev pub decreases-loop-place : goal.decreases-loop-place
decreases-loop-place l = l.self.live - l.place
