use Rattle.h2_streams.proofs.Names.{◌≡◌, ℕ, ◌^◌, ◌<◌, ◌∙◌, length, rules, keys_of, deref}
use Rattle.h2_streams.proofs.Names.{length_push, iter_turn, iter_end}
use Rattle.h2_streams.proofs.ActiveNumbers.{least_more, none_of_all, least_of_all}
use Rattle.h2_streams.proofs.table.least_of.Goals as goal

pub loop-number-preserved : goal.loop-number-preserved
loop-number-preserved c =
    let numbers = keys_of c.args.streams.now.entries in
    let start : c.into_iter-number-iterator.result ≡ numbers =
    c.into_iter-number-iterator.ensures.into_iter_gives ∙ c.keys-number-items.ensures.rest in
    let turn = iter_turn (deref {X = ℕ}) numbers c.loop-number.yielded
    c.into_iter-number-iterator.result c.loop-number.number-iterator c.next.new.self c.next.result
    start c.loop-number.yielded_by c.in-Some.number c.in-Some.is c.next.ensures.steps in
    let fits : c.args.above < 2 ^ 32 = search rules in
    let small : c.in-Some.number.now < 2 ^ 32 = search rules in
    rw (length_push c.loop-number.yielded c.in-Some.number, c.min-least.ensures)
    (least_more (length c.loop-number.yielded) c.args.above c.in-Some.number.now
    c.loop-number.least numbers fits small c.loop-number.invariant turn.1)

pub returns-then-least-rest : goal.returns-then-least-rest
returns-then-least-rest c =
    let numbers = keys_of c.args.streams.now.entries in
    let start : c.into_iter-number-iterator.result ≡ numbers =
    c.into_iter-number-iterator.ensures.into_iter_gives ∙ c.keys-number-items.ensures.rest in
    let end = iter_end (deref {X = ℕ}) numbers c.loop-number.yielded
    c.into_iter-number-iterator.result c.loop-number.number-iterator c.next.new.self c.next.result
    start c.loop-number.yielded_by c.in-None.is c.next.ensures.steps in
    least_of_all c.args.streams.now (length c.loop-number.yielded) c.args.above c.loop-number.least
    c.keys-number-items.ensures.unique end.1 c.loop-number.invariant
    c.if-least-rest.true

pub returns-else-least-rest : goal.returns-else-least-rest
returns-else-least-rest c =
    let numbers = keys_of c.args.streams.now.entries in
    let start : c.into_iter-number-iterator.result ≡ numbers =
    c.into_iter-number-iterator.ensures.into_iter_gives ∙ c.keys-number-items.ensures.rest in
    let end = iter_end (deref {X = ℕ}) numbers c.loop-number.yielded
    c.into_iter-number-iterator.result c.loop-number.number-iterator c.next.new.self c.next.result
    start c.loop-number.yielded_by c.in-None.is c.next.ensures.steps in
    none_of_all c.args.streams.now.entries (length c.loop-number.yielded) c.args.above
    c.loop-number.least end.1 c.loop-number.invariant
    c.if-least-rest.false
