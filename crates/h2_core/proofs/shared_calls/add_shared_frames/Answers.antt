-- The first frame of what is left is added, and the last one once the loop ends.
use Rattle.h2_core.proofs.Names.{◌≡◌, ◌+◌, ◌<◌, ◌++◌, false, None, length, take, drop, ap}
use Rattle.h2_core.proofs.Names.{sym, ◌∙◌, append_assoc, arith, Data, encoding_of}
use Rattle.std.proofs.Common.{length-drop, length-take}
use Rattle.h2_core.proofs.CallData.{data_octets, data_first, data_last}
use Rattle.h2_core.proofs.shared_calls.add_shared_frames.Goals as goal

pub loop-rest-preserved-in-Ok : goal.loop-rest-preserved-in-Ok
loop-rest-preserved-in-Ok c =
    let rest = c.loop-rest.rest in
    let most = c.args.most in
    let id = c.args.id in
    let end = c.args.end in
    let others = c.split_to.new.self in
    let size = c.len.ensures.value in
    let more : most < length rest = omega (arith, size, c.loop-rest-test.true) in
    let back : others ≡ drop most rest = c.in-Ok.ensures.rest in
    let front : c.in-Ok.first ≡ take most rest = c.in-Ok.ensures.front in
    let left : length others + most ≡ length rest =
    omega (arith, ap length back, length-drop most rest, more) in
    let sent : length c.in-Ok.first ≡ most =
    omega (arith, ap length front, length-take most rest, more) in
    let split : data_octets most id rest end
    ≡ encoding_of (Data id false c.in-Ok.first None) ++ data_octets most id others end =
    rw (front, back) (data_first most id rest end (omega arith) more) in
    record {
      up = c.add_shared_data.ensures.ended;
      written = ap (λ octets. octets ++ data_octets most id others end)
          c.add_shared_data.ensures.waiting
          ∙ append_assoc c.loop-rest.output.waiting _ _
          ∙ ap (λ octets. c.loop-rest.output.waiting ++ octets) (sym split)
          ∙ c.loop-rest.invariant.written;
      room = omega (
        arith,
        left,
        sent,
        c.add_shared_data.ensures.spare,
        c.loop-rest.invariant.room,
        c.requires.most,
      );
      spare = omega (
        arith,
        left,
        sent,
        c.add_shared_data.ensures.spare,
        c.loop-rest.invariant.spare,
        c.requires.most,
      );
    }

pub loop-rest-preserved : goal.loop-rest-preserved
loop-rest-preserved c =
    let rest = c.loop-rest.rest in
    let most = c.args.most in
    let id = c.args.id in
    let end = c.args.end in
    let others = c.advance.new.self in
    let size = c.len.ensures.value in
    let more : most < length rest = omega (arith, size, c.loop-rest-test.true) in
    let kept : c.split_to.new.self ≡ rest = c.in-Err.ensures.err in
    let back : others ≡ drop most rest = c.advance.ensures ∙ ap (drop most) kept in
    let front : take most c.as_slice.result.now ≡ take most rest =
    ap (take most) (c.as_slice.ensures ∙ kept) in
    let left : length others + most ≡ length rest =
    omega (arith, ap length back, length-drop most rest, more) in
    let sent : length (take most c.as_slice.result.now) ≡ most =
    omega (arith, ap length front, length-take most rest, more) in
    let split : data_octets most id rest end
    ≡ encoding_of (Data id false (take most c.as_slice.result.now) None)
    ++ data_octets most id others end =
    rw (front, back) (data_first most id rest end (omega arith) more) in
    record {
      up = c.add_data.ensures.ended;
      written = ap (λ octets. octets ++ data_octets most id others end)
          c.add_data.ensures.waiting
          ∙ append_assoc c.loop-rest.output.waiting _ _
          ∙ ap (λ octets. c.loop-rest.output.waiting ++ octets) (sym split)
          ∙ c.loop-rest.invariant.written;
      room = omega (
        arith,
        left,
        sent,
        c.add_data.ensures.spare,
        c.loop-rest.invariant.room,
        c.requires.most,
      );
      spare = omega (
        arith,
        left,
        sent,
        c.add_data.ensures.spare,
        c.loop-rest.invariant.spare,
        c.requires.most,
      );
    }

pub returns-clause-waiting : goal.returns-clause-waiting
returns-clause-waiting c =
    let size = c.len.ensures.value in
    let last = data_last c.args.most c.args.id c.loop-rest.rest c.args.end
    (omega (arith, size, c.loop-rest-test.false)) in
    c.add_shared_data-2.ensures.waiting
    ∙ ap (λ octets. c.loop-rest.output.waiting ++ octets) (sym last)
    ∙ c.loop-rest.invariant.written
