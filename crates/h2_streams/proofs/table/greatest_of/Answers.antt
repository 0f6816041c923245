use Rattle.h2_streams.proofs.Names.{◌≡◌, length, ◌∙◌, rules, w64, SFits, values_of, deref}
use Rattle.h2_streams.proofs.Names.{to_z-of_z, length_push, iter_turn, iter_end, greater_of, Kept}
use Rattle.h2_streams.proofs.GreatestWindows.{greatest_more, greatest_of_all}
use Rattle.h2_streams.proofs.table.greatest_of.Goals as goal

pub loop-kept-preserved : goal.loop-kept-preserved
loop-kept-preserved c =
    let values = values_of c.args.streams.now.entries in
    let start : c.into_iter-kept-iterator.result ≡ values =
    c.into_iter-kept-iterator.ensures.into_iter_gives ∙ c.values-kept-items.ensures.rest in
    let turn = iter_turn (deref {X = Kept}) values c.loop-kept.yielded
    c.into_iter-kept-iterator.result c.loop-kept.kept-iterator c.next.new.self c.next.result start
    c.loop-kept.yielded_by c.in-Some.kept c.in-Some.is c.next.ensures.steps in
    let fits : SFits w64 c.greater_of.result = search rules in
    let offset_fits : SFits w64 c.in-Some.kept.now.send_offset = search rules in
    let more = greatest_more (length c.loop-kept.yielded) values c.loop-kept.greatest
    c.in-Some.kept.now c.loop-kept.invariant turn.1 in
    let is : c.greater_of.result ≡ greater_of c.loop-kept.greatest c.in-Some.kept.now.send_offset =
    rw (to_z-of_z w64 c.in-Some.kept.now.send_offset offset_fits) at c.greater_of.ensures in
    rw (length_push c.loop-kept.yielded c.in-Some.kept, to_z-of_z w64 c.greater_of.result fits, is)
    more

pub returns : goal.returns
returns c =
    let values = values_of c.args.streams.now.entries in
    let start : c.into_iter-kept-iterator.result ≡ values =
    c.into_iter-kept-iterator.ensures.into_iter_gives ∙ c.values-kept-items.ensures.rest in
    let end = iter_end (deref {X = Kept}) values c.loop-kept.yielded
    c.into_iter-kept-iterator.result c.loop-kept.kept-iterator c.next.new.self c.next.result start
    c.loop-kept.yielded_by c.in-None.is c.next.ensures.steps in
    greatest_of_all c.args.streams.now (length c.loop-kept.yielded) c.loop-kept.greatest
    c.values-kept-items.ensures.unique end.1 c.loop-kept.invariant
