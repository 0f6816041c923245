-- Each part has the octets that follow those given before it.
use Rattle.std.proofs.Common.{◌≡◌, ◌+◌, ◌≤◌, ◌++◌, take, drop, length, ap, sym, ◌∙◌, arith}
use Rattle.std.proofs.Common.{length-take, take-take, take-add, append_assoc, vec_len}
use Rattle.std.specs.Vec.{vec_capacity}
use Rattle.h2_output.proofs.queue.Queue.put_out.Goals as goal

pub loop-given-preserved : goal.loop-given-preserved
loop-given-preserved c =
    let kept = c.loop-given.invariant in
    let items = c.args.self.now.items in
    let given = c.loop-given.given in
    let some = c.min-some.result in
    let part = c.part_from-part.result.now in
    let added = rw c.unwrap.ensures at c.extend_from_slice.ensures.items in
    let long : vec_len c.extend_from_slice.new.self
    ≡ vec_len c.loop-given.out + length (take some part) =
    rw c.unwrap.ensures at c.extend_from_slice.ensures.len in
    let more : vec_capacity c.loop-given.out ≤ vec_capacity c.extend_from_slice.new.self =
    c.extend_from_slice.ensures.capacity in
    let same : take some part ≡ take some (drop given items) =
    ap (take some) (sym c.part_from-part.ensures.part)
    ∙ take-take some (length part) (drop given items) (omega arith) in
    record {
      within = omega arith;
      given = added ∙ ap (λ xs. xs ++ take some part) kept.given
          ∙ append_assoc c.args.out.now.items (take given items) (take some part)
          ∙ ap (λ xs. c.args.out.now.items ++ xs)
          (ap (λ xs. take given items ++ xs) same ∙ sym (take-add given some items));
      room = omega (arith, long, more, length-take some part, kept.room);
      capacity = omega (arith, more, kept.capacity);
    }
