-- By the lemmas on requests that are made one after another.
use Rattle.std.proofs.Common.{ap, ◌≡◌, ◌∙◌, ◌++◌, ◌∷◌, [], List, length, map, map-id, sym, subst}
use Rattle.std.proofs.Common.{arith, rules}
use Rattle.std.proofs.lemmas.Iterator.Adapters.{YieldsList-from_vec}
use Rattle.std.proofs.lemmas.Iterator.Consumers.{YieldsList-end}
use Rattle.std.proofs.lemmas.List.{map_push}
use Rattle.std.proofs.lemmas.Result.{err_from_is_err_and}
use Rattle.h2_message.specs.Messages.{SentMessage}
use Rattle.h2_message.specs.Values.{message_value}
use Rattle.h2_message.specs.declared.message.Message.{Message}
use Rattle.h2_get.proofs.RequestsMade.{HasRequestedAll, begins_several, refuses_one, requests_more}
use Rattle.h2_get.proofs.RequestsMade.{requests_none, yields_next}
use Rattle.h2_get.proofs.begin.request_each.Goals as goal

pub loop-message-init : goal.loop-message-init
loop-message-init c values begins =
    requests_none values c.args.fetch.now c.new-ids.result.items begins c.new-ids.ensures.items

pub returns-in_err-id-clause-err : goal.returns-in_err-id-clause-err
returns-in_err-id-clause-err c =
    let answer = err_from_is_err_and c.from_residual.result c.from_residual.ensures.1 in
    rw (answer.1, answer.2) (λ values begins. refuses_one c.request_next.new.fetch
    (c.loop-message.invariant values begins)
    (message_value c.in-Some.message) c.in_err-id.field-0.0
    (map message_value c.args.messages.items) _ (yields_next c.args.messages.items
    c.into_iter-message-iterator.result c.loop-message.yielded c.loop-message.message-iterator
    c.next.new.self c.in-Some.message
    c.into_iter-message-iterator.ensures.into_iter_gives.0 c.loop-message.yielded_by
    c.in-Some.ensures.steps.0) c.in_err-id.ensures)

pub loop-message-preserved : goal.loop-message-preserved
loop-message-preserved c values begins =
    let pushed : c.push.new.self.items ≡ c.loop-message.ids.items ++ c.in_ok-id.id ∷ [] =
    search rules in
    subst (λ (messages : List SentMessage). HasRequestedAll values messages
    c.request_next.new.fetch c.push.new.self.items)
    (sym (map_push message_value c.loop-message.yielded c.in-Some.message))
    (rw pushed (requests_more c.request_next.new.fetch (c.loop-message.invariant values begins)
    (message_value c.in-Some.message) c.in_ok-id.id c.in_ok-id.ensures))

pub returns-clause-ok : goal.returns-clause-ok
returns-clause-ok c values begins =
    let iterator = c.into_iter-message-iterator.result in
    let gives : iterator.rest.items ≡ c.args.messages.items =
    c.into_iter-message-iterator.ensures.into_iter_gives.0 in
    let long : iterator.rest.len ≡ length c.args.messages.items =
    omega (arith, iterator.rest.ok.0, ap length gives) in
    let ended = YieldsList-end (YieldsList-from_vec c.args.messages.items gives long)
    c.loop-message.yielded c.loop-message.message-iterator c.loop-message.yielded_by c.next.result
    c.next.new.self c.in-None.is c.next.ensures.steps in
    let all : c.loop-message.yielded ≡ c.args.messages.items =
    sym (map-id c.loop-message.yielded) ∙ ended.0 in
    begins_several (subst (λ (messages : List Message). HasRequestedAll
    values (map message_value messages) c.loop-message.fetch
    c.loop-message.ids.items) all (c.loop-message.invariant values begins))
