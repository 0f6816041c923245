-- The words, a URL, the body or a request are refused, or the requests were made.
use Rattle.std.proofs.Common.{◌≡◌, ◌∙◌, ℕ, List, inl, is_some, map, rules, subst, sym}
use Rattle.h2_args.specs.Words.{asked_by}
use Rattle.h2_message.specs.Values.{message_value}
use Rattle.h2_get.specs.Ports.{IsRefusedAtPort, NamesAtPort}
use Rattle.h2_net.specs.declared.location.Location.{Location}
use Rattle.h2_tool.proofs.SeveralLemmas.{HaveRequests, first_unfit, others_unfit}
use Rattle.h2_tool.proofs.SeveralLemmas.{several_asks_nothing}
use Rattle.h2_tool.proofs.SeveralLemmas.{no_output, output_named, several_has_no_body}
use Rattle.h2_tool.proofs.SeveralLemmas.{several_into_file, several_so, several_too_many}
use Rattle.h2_tool.proofs.get_several.get_several.Goals as goal

pub returns-then-is_some-clause-ends : goal.returns-then-is_some-clause-ends
returns-then-is_some-clause-ends g c =
    let named : c.is_some.result ≡ is_some c.args.options.now.output = search rules in
    inl (several_into_file (asked_by c.args.options.now) _ _ c.refuse_words.result
    (output_named c.args.options.now.output c.is_some.result named ∙ c.if-is_some.true)
    c.refuse_words.ensures)

pub returns-then-has_too_many-clause-ends : goal.returns-then-has_too_many-clause-ends
returns-then-has_too_many-clause-ends g c =
    inl (several_too_many (asked_by c.args.options.now) _ _
    c.refuse_words-then-has_too_many.result
    (sym c.has_too_many.ensures ∙ c.if-has_too_many.true) c.refuse_words-then-has_too_many.ensures)

pub returns-in-Err-clause-ends : goal.returns-in-Err-clause-ends
returns-in-Err-clause-ends g c =
    let words = asked_by c.args.options.now in
    inl (first_unfit words _ _ c.in-Err.fault c.refuse_url.result
    (subst (λ (url : List ℕ). IsRefusedAtPort url words.port c.in-Err.fault)
    c.as_bytes.ensures.value c.in-Err.ensures.err) c.refuse_url.ensures)

pub returns-in-Err-locations_of-clause-ends : goal.returns-in-Err-locations_of-clause-ends
returns-in-Err-locations_of-clause-ends g c =
    let words = asked_by c.args.options.now in
    let urls : c.deref.result.now ≡ c.args.options.now.others.items = search rules in
    inl (others_unfit words _ _ c.in-Ok.location
    (subst (λ (url : List ℕ). NamesAtPort url words.port c.in-Ok.location)
    c.as_bytes.ensures.value c.in-Ok.ensures.ok) c.in-Err-locations_of.fault
    c.refuse_locations.result (rw urls at c.in-Err-locations_of.ensures.err)
    c.refuse_locations.ensures)

pub returns-in-Err-body_of-clause-ends : goal.returns-in-Err-body_of-clause-ends
returns-in-Err-body_of-clause-ends g c =
    inl (several_has_no_body (asked_by c.args.options.now) _ _ c.in-Err-body_of.fault
    c.refuse_body.result c.in-Err-body_of.ensures.err c.refuse_body.ensures)

pub returns-in-Err-requests_of-clause-ends : goal.returns-in-Err-requests_of-clause-ends
returns-in-Err-requests_of-clause-ends g c =
    let words = asked_by c.args.options.now in
    let urls : c.deref.result.now ≡ c.args.options.now.others.items = search rules in
    let given : c.deref-2.result.now ≡ c.in-Ok-locations_of.locations.items = search rules in
    let read : c.deref-3.result.now ≡ c.in-Ok-body_of.body.items = search rules in
    inl (several_asks_nothing words _ _ c.in-Ok.location c.in-Ok-locations_of.locations.items
    (subst (λ (url : List ℕ). NamesAtPort url words.port c.in-Ok.location)
    c.as_bytes.ensures.value c.in-Ok.ensures.ok) (rw urls at c.in-Ok-locations_of.ensures.ok)
    c.in-Ok-body_of.body.items c.in-Ok-body_of.ensures.body c.in-Err-requests_of.fault
    c.refuse_request.result (rw (given, read) at c.in-Err-requests_of.ensures.err)
    c.refuse_request.ensures)

pub returns-clause-ends : goal.returns-clause-ends
returns-clause-ends g c =
    let words = asked_by c.args.options.now in
    let urls : c.deref.result.now ≡ c.args.options.now.others.items = search rules in
    let named : c.is_some.result ≡ is_some c.args.options.now.output = search rules in
    let given : c.deref-2.result.now ≡ c.in-Ok-locations_of.locations.items = search rules in
    let read : c.deref-3.result.now ≡ c.in-Ok-body_of.body.items = search rules in
    let first = c.in-Ok.location in
    let messages = map message_value c.in-Ok-requests_of.messages.items in
    let made : HaveRequests words c.deref-3.result.now first c.deref-2.result.now messages =
    (c.in-Ok-requests_of.ensures.ok, c.in-Ok-requests_of.ensures.asked) in
    let all : HaveRequests words c.in-Ok-body_of.body.items first
    c.in-Ok-locations_of.locations.items messages =
    subst (λ (body : List ℕ). HaveRequests words body first c.in-Ok-locations_of.locations.items
    messages) read
    (subst (λ (others : List Location). HaveRequests words c.deref-3.result.now first others
    messages) given made) in
    several_so words _ _ c.in-Ok.location c.in-Ok-locations_of.locations.items
    (subst (λ (url : List ℕ). NamesAtPort url words.port c.in-Ok.location)
    c.as_bytes.ensures.value c.in-Ok.ensures.ok) (rw urls at c.in-Ok-locations_of.ensures.ok)
    c.in-Ok-body_of.body.items c.in-Ok-body_of.ensures.body _ c.ask_several_in_time.result
    c.in-Ok-locations_of.ensures.same all.1
    (no_output words
    (output_named c.args.options.now.output c.is_some.result named ∙ c.if-is_some.false))
    (sym c.has_too_many.ensures ∙ c.if-has_too_many.false) _ all.0 c.ask_several_in_time.ensures
