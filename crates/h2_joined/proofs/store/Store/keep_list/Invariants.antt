-- The fields so far are kept.
use Rattle.h2_joined.proofs.KeptStore.{ListSoFar}
use Rattle.h2_joined.proofs.store.Store.keep_list.Given as goal

abbrev pub invariant-loop-place : goal.invariant-loop-place
invariant-loop-place l = ListSoFar l.fn.self l.list l.place l.self
