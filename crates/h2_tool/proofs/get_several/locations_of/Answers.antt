-- By the lemmas on the location of one URL more.
use Rattle.std.proofs.Common.{◌≡◌, ◌++◌, ◌∷◌, [], arith, false, rules, true}
use Rattle.h2_tool.specs.GetsSeveral.{is_same_host}
use Rattle.h2_tool.proofs.SeveralLemmas.{names_next, other_host_at, same_more, url_unread_at}
use Rattle.h2_tool.proofs.get_several.locations_of.Goals as goal

pub returns-then-not-is_same_host-clause-err : goal.returns-then-not-is_same_host-clause-err
returns-then-not-is_same_host-clause-err c =
    let differs : is_same_host c.args.first.now c.in-Ok.location ≡ false = search rules in
    other_host_at c.args.urls.now c.args.port c.args.first.now c.loop-url.url-index _ (omega arith)
    c.as_bytes.result.now c.as_bytes.ensures.value c.in-Ok.location c.in-Ok.ensures.ok differs

pub returns-then-is_err-clause-err : goal.returns-then-is_err-clause-err
returns-then-is_err-clause-err c =
    url_unread_at c.args.urls.now c.args.port c.args.first.now c.loop-url.url-index _ (omega arith)
    c.as_bytes.result.now c.as_bytes.ensures.value

pub loop-url-preserved : goal.loop-url-preserved
loop-url-preserved c =
    let same : is_same_host c.args.first.now c.in-Ok.location ≡ true = search rules in
    let pushed : c.push.new.self.items ≡ c.loop-url.locations.items ++ c.in-Ok.location ∷ [] =
    search rules in
    rw pushed (record {
      name = names_next c.args.urls.now c.args.port c.args.first.now c.loop-url.url-index _
          (omega arith) c.as_bytes.result.now c.as_bytes.ensures.value c.loop-url.locations.items
          c.in-Ok.location c.loop-url.invariant.name c.in-Ok.ensures.ok;
      same = same_more c.args.first.now c.loop-url.locations.items c.in-Ok.location
          c.loop-url.invariant.same same;
    })
