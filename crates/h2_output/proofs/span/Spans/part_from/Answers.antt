-- By the lemmas on taking from the front of what is woven.
use Rattle.std.proofs.Common.{◌≡◌, ◌+◌, ◌-◌, ◌<◌, ◌≤◌, [], ◌∷◌, length, take, drop, ap, sym}
use Rattle.std.proofs.Common.{◌∙◌, arith, length-drop, take_all, drop_of_length-le}
use Rattle.std.specs.Io.{StartsWith}
use Rattle.h2_output.specs.Woven.{weave, octets_before}
use Rattle.h2_output.proofs.WovenLemmas.{early-part, inside-part, weave-passed, drop-min}
use Rattle.h2_output.proofs.WovenLemmas.{spans-from}
use Rattle.h2_output.proofs.span.Spans.part_from.Goals as goal

pub split_at-requires : goal.split_at-requires
unfolding octets_before
split_at-requires c =
    let all = c.args.self.now.all in
    let i = c.loop-i.i in
    let span = c.index-span.result.now in
    let in_range : i < length all.items = omega (arith, c.loop-i-test.true, all.ok.0) in
    let next = spans-from all.items i span in_range c.index-span.ensures in
    let ahead : octets_before (drop i all.items)
    ≡ span.before + octets_before (drop (i + 1) all.items) = ap octets_before next in
    omega (arith, ahead, c.loop-i.invariant.fits)

pub returns-then-left-first-clause-part : goal.returns-then-left-first-clause-part
returns-then-left-first-clause-part c =
    let all = c.args.self.now.all in
    let i = c.loop-i.i in
    let left = c.loop-i.left in
    let span = c.index-span.result.now in
    let first = c.split_at.result.0.now in
    let in_range : i < length all.items = omega (arith, c.loop-i-test.true, all.ok.0) in
    let next = spans-from all.items i span in_range c.index-span.ensures in
    let fits : octets_before (span ∷ drop (i + 1) all.items) ≤ length c.loop-i.rest.now =
    rw next at c.loop-i.invariant.fits in
    let some : left ≤ span.before = omega (arith, c.if-left-first.true, c.split_at.ensures.front_len) in
    let part = early-part span (drop (i + 1) all.items) c.loop-i.rest.now left some fits in
    let whole : take (length first - left) (drop left first) ≡ drop left first =
    take_all (length first - left) (drop left first) (omega (arith, length-drop left first)) in
    rw (whole, c.loop-i.invariant.woven, next, c.split_at.ensures.front) part

pub returns-then-left-octets-clause-part : goal.returns-then-left-octets-clause-part
returns-then-left-octets-clause-part c =
    let all = c.args.self.now.all in
    let i = c.loop-i.i in
    let left = c.loop-i.left in
    let span = c.index-span.result.now in
    let octets = c.as_slice-octets.result.now in
    let past = left - span.before in
    let in_range : i < length all.items = omega (arith, c.loop-i-test.true, all.ok.0) in
    let next = spans-from all.items i span in_range c.index-span.ensures in
    let fits : octets_before (span ∷ drop (i + 1) all.items) ≤ length c.loop-i.rest.now =
    rw next at c.loop-i.invariant.fits in
    let size = c.split_at.ensures.front_len in
    let same : octets ≡ span.octets = c.as_slice-octets.ensures in
    let long = ap length same in
    let part = inside-part span (drop (i + 1) all.items) c.loop-i.rest.now left
    (omega (arith, c.if-left-first.false, size))
    (omega (arith, c.if-left-octets.true, size, long)) fits in
    let whole : take (length octets - past) (drop past octets) ≡ drop past octets =
    take_all (length octets - past) (drop past octets) (omega (arith, length-drop past octets)) in
    rw (size, whole, c.loop-i.invariant.woven, next, same) part

pub loop-i-preserved : goal.loop-i-preserved
unfolding octets_before
loop-i-preserved c =
    let all = c.args.self.now.all in
    let i = c.loop-i.i in
    let left = c.loop-i.left in
    let rest = c.loop-i.rest.now in
    let span = c.index-span.result.now in
    let octets = c.as_slice-octets.result.now in
    let others = drop (i + 1) all.items in
    let in_range : i < length all.items = omega (arith, c.loop-i-test.true, all.ok.0) in
    let next = spans-from all.items i span in_range c.index-span.ensures in
    let ahead : octets_before (drop i all.items) ≡ span.before + octets_before others =
    ap octets_before next in
    let fits : octets_before (span ∷ others) ≤ length rest =
    rw next at c.loop-i.invariant.fits in
    let size = c.split_at.ensures.front_len in
    let same : octets ≡ span.octets = c.as_slice-octets.ensures in
    let long = ap length same in
    let back = c.split_at.ensures.back in
    record {
      fits = omega (
        arith,
        ahead,
        c.loop-i.invariant.fits,
        ap length back,
        length-drop span.before rest,
      );
      woven = c.loop-i.invariant.woven ∙ ap (λ s. drop left (weave s rest)) next
          ∙ weave-passed span others rest left (omega (arith, c.if-left-first.false, size))
          (omega (arith, c.if-left-octets.false, size, long)) fits
          ∙ ap (λ n. drop (left - span.before - n) (weave others (drop span.before rest)))
          (sym long)
          ∙ ap (λ n. drop (left - n - length octets) (weave others (drop span.before rest)))
          (sym size)
          ∙ ap (λ q. drop (left - length c.split_at.result.0.now - length octets)
          (weave others q)) (sym back);
    }

pub returns-clause-part : goal.returns-clause-part
unfolding weave
returns-clause-part c =
    let all = c.args.self.now.all in
    let left = c.loop-i.left in
    let rest = c.loop-i.rest.now in
    let m = c.min.result in
    let none : drop c.loop-i.i all.items ≡ [] =
    drop_of_length-le all.items (omega (arith, c.loop-i-test.false, all.ok.0)) in
    let is : drop c.args.at (weave all.items c.args.queue.now) ≡ drop m rest =
    c.loop-i.invariant.woven ∙ ap (λ s. drop left (weave s rest)) none
    ∙ sym (drop-min left rest) ∙ ap (λ n. drop n rest) (sym c.min.ensures) in
    let whole : take (length rest - m) (drop m rest) ≡ drop m rest =
    take_all (length rest - m) (drop m rest) (omega (arith, length-drop m rest)) in
    let part : StartsWith (drop m rest) (drop m rest) =
    take_all (length (drop m rest)) (drop m rest) (omega arith) in
    let starts : StartsWith (drop c.args.at (weave all.items c.args.queue.now))
    (take (length rest - m) (drop m rest)) = rw (whole, is) part in starts

pub returns-clause-some : goal.returns-clause-some
unfolding weave
returns-clause-some c = λ within.
    let all = c.args.self.now.all in
    let left = c.loop-i.left in
    let rest = c.loop-i.rest.now in
    let m = c.min.result in
    let none : drop c.loop-i.i all.items ≡ [] =
    drop_of_length-le all.items (omega (arith, c.loop-i-test.false, all.ok.0)) in
    let is : drop c.args.at (weave all.items c.args.queue.now) ≡ drop m rest =
    c.loop-i.invariant.woven ∙ ap (λ s. drop left (weave s rest)) none
    ∙ sym (drop-min left rest) ∙ ap (λ n. drop n rest) (sym c.min.ensures) in
    let whole : take (length rest - m) (drop m rest) ≡ drop m rest =
    take_all (length rest - m) (drop m rest) (omega (arith, length-drop m rest)) in
    let some : 0 < length (take (length rest - m) (drop m rest)) =
    omega (
      arith,
      within,
      ap length whole,
      ap length is,
      length-drop c.args.at (weave all.items c.args.queue.now),
    ) in some
