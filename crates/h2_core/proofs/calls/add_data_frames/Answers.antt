-- The first frame of what is left is added, and the last one once the loop ends.
use Rattle.h2_core.proofs.Names.{◌≡◌, ◌+◌, ◌++◌, false, None, length, ap, sym, ◌∙◌, append_assoc}
use Rattle.h2_core.proofs.Names.{arith, Data, encoding_of}
use Rattle.h2_core.proofs.CallData.{data_octets, data_first, data_last}
use Rattle.h2_core.proofs.calls.add_data_frames.Goals as goal

pub loop-rest-preserved : goal.loop-rest-preserved
loop-rest-preserved c =
    let rest = c.loop-rest.rest.now in
    let left : length c.split_at.result.1.now + c.args.most ≡ length rest = omega arith in
    let first = data_first c.args.most c.args.id rest c.args.end (omega arith) (omega arith) in
    let split : data_octets c.args.most c.args.id rest c.args.end
    ≡ encoding_of (Data c.args.id false c.split_at.result.0.now None)
    ++ data_octets c.args.most c.args.id c.split_at.result.1.now c.args.end =
    rw (c.split_at.ensures.front, c.split_at.ensures.back) first in
    record {
      up = c.add_data.ensures.ended;
      written = ap (λ octets. octets ++ data_octets c.args.most c.args.id c.split_at.result.1.now
          c.args.end) c.add_data.ensures.waiting
          ∙ append_assoc c.loop-rest.output.waiting _ _
          ∙ ap (λ octets. c.loop-rest.output.waiting ++ octets) (sym split)
          ∙ c.loop-rest.invariant.written;
      room = omega arith;
      spare = omega arith;
    }

pub returns-clause-waiting : goal.returns-clause-waiting
returns-clause-waiting c =
    let last = data_last c.args.most c.args.id c.loop-rest.rest.now c.args.end (omega arith) in
    c.add_data-2.ensures.waiting
    ∙ ap (λ octets. c.loop-rest.output.waiting ++ octets) (sym last)
    ∙ c.loop-rest.invariant.written
