-- By the lemma on the status of one response more.
use Rattle.std.proofs.Common.{ap, map, map-id, sym, ◌≡◌, ◌∙◌, List, length, arith}
use Rattle.std.proofs.lemmas.Iterator.Adapters.{YieldsList-from_vec}
use Rattle.std.proofs.lemmas.Iterator.Consumers.{YieldsList-end}
use Rattle.h2_args.specs.Words.{asked_by}
use Rattle.h2_tool.specs.GetsSeveral.{first_failed, status_of_one}
use Rattle.h2_tool.proofs.SeveralLemmas.{status_more}
use Rattle.h2_tool.proofs.get_several.end_each.Goals as goal

pub loop-got-preserved : goal.loop-got-preserved
loop-got-preserved g c =
    status_more (asked_by c.args.options.now) c.loop-got.yielded c.in-Some.got _
    c.loop-got.status c.end_stream-next.result c.first_failed-status.result c.loop-got.invariant
    c.end_stream-next.ensures c.with_cause.ensures c.first_failed-status.ensures

pub returns : goal.returns
returns g c =
    let results = c.args.several.results in
    let iterator = c.into_iter-got-iterator.result in
    let gives : iterator.rest.items ≡ results.items =
    c.into_iter-got-iterator.ensures.into_iter_gives.0 in
    let long : iterator.rest.len ≡ length results.items =
    omega (arith, iterator.rest.ok.0, ap length gives) in
    let ended = YieldsList-end (YieldsList-from_vec results.items gives long)
    c.loop-got.yielded c.loop-got.got-iterator c.loop-got.yielded_by c.next.result
    c.next.new.self c.in-None.is c.next.ensures.steps in
    c.loop-got.invariant
    ∙ ap (λ given. first_failed (map (status_of_one (asked_by c.args.options.now)) given))
    (sym (map-id c.loop-got.yielded) ∙ ended.0)
