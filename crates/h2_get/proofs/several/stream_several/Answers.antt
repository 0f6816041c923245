-- By the lemmas on how several responses are printed one after another.
use Rattle.std.proofs.Common.{◌≡◌, ◌∙◌, ◌++◌, ◌∷◌, [], sym, refl, arith}
use Rattle.std.proofs.Common.{length-append, false, take_all}
use Rattle.h2_args.specs.Words.{asked_by}
use Rattle.h2_get.specs.Several.{ends_all}
use Rattle.h2_get.proofs.SeveralInOrder.{more_go, prints_all, prints_first, prints_last}
use Rattle.h2_get.proofs.SeveralInOrder.{prints_more}
use Rattle.h2_get.proofs.several.stream_several.Goals as goal
use goal.{else-loop-place-test, then-loop-place-test+in_ok-push+then-is_last}

pub loop-place-init : goal.loop-place-init
loop-place-init g c =
    rw c.new-results.ensures.items (record {
      failures = refl;
      count = refl;
      good = tt;
      prints = prints_first (asked_by c.args.options.now) _ c.args.fetch.now _;
    })

pub loop-place-preserved : goal.loop-place-preserved
loop-place-preserved g c =
    let was = c.loop-place.invariant in
    let on = c.stream_on-result.ensures in
    let result = c.stream_on-result.result in
    let goes : ends_all result ≡ false = sym c.if-is_last.ensures in
    let items : c.push.new.self.items ≡ c.loop-place.results.items ++ result ∷ [] =
    c.in_ok-push.ensures.items in
    let ids = c.args.ids.now in
    rw items (record {
      failures = on.failures goes ∙ was.failures;
      count = omega (arith, length-append c.loop-place.results.items (result ∷ []), was.count);
      good = more_go (asked_by c.args.options.now) _ _ _ c.args.fetch.now c.loop-place.fetch _
          _ _ _ ids c.loop-place.place _ was.prints was.good was.count c.loop-place-test.true result
          on.streams goes;
      prints = prints_more (asked_by c.args.options.now) _ _ _ c.args.fetch.now
          c.loop-place.fetch _ _ _ _ ids c.loop-place.place _ was.prints was.good was.count
          c.loop-place-test.true result on.streams goes;
    })

pub returns : goal.returns
returns g c =
    let was = c.loop-place.invariant in
    elim c.loop-place-test.branch [
      | else-loop-place-test w ↦ rw (w.fetch-is, w.link-is, w.out-is, w.results-is)
          (prints_all (asked_by c.args.options.now) _ _ c.args.fetch.now c.loop-place.fetch _ _
          c.args.ids.now _ _ (sym (take_all c.loop-place.place c.args.ids.now
          w.loop-place-test.false)) was.good was.prints)
      | then-loop-place-test+in_ok-push+then-is_last w ↦
          rw (w.fetch-is, w.link-is, w.out-is, w.results-is, w.in_ok-push.ensures.items)
          (prints_last (asked_by c.args.options.now) _ _ _ c.args.fetch.now c.loop-place.fetch _
          _ _ _ c.args.ids.now c.loop-place.place _ was.prints was.good was.count
          w.loop-place-test.true w.stream_on-result.result
          w.stream_on-result.ensures.streams (sym w.if-is_last.ensures))
    ]
