-- The second part begins where the first ends.
use Rattle.std.proofs.Common.{refl}
use Rattle.belkjoef.proofs.OnPlaces.{on_place}
use Rattle.belkjoef.proofs.FirstParts.{first_wait}
use Rattle.belkjoef.proofs.conn_output.bj_conn_waiting.Goals as goal

pub returns-clause-call : goal.returns-clause-call
returns-clause-call c =
    let held = c.in-Some.held.value in
    on_place _ _ c.in-Some.ensures.value c.keep.ensures record {
      one = c.waiting_from-one.result;
      two = c.waiting_from.result;
      told = refl;
      first_is = c.say.ensures;
      second_is = c.say-2.ensures;
      wait = first_wait held.conn c.waiting_from-one.result.now c.waiting_from.result.now _ refl
          (rw c.deref.ensures at c.waiting_from-one.ensures.lends)
          (rw c.deref-2.ensures at c.waiting_from.ensures.lends);
      same = refl;
    }
