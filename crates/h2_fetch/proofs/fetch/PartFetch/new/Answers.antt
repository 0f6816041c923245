-- By the lemmas on a new client's request.
use Rattle.h2_engines.proofs.Names.{◌≡◌, rules, Malformed, message_value, error_after, ◌≢◌, refl}
use Rattle.h2_engines.proofs.FetcherStart.{refused_as_broken, refused_as_large}
use Rattle.h2_engines.proofs.FetcherStart.{refused_otherwise}
use Rattle.h2_engines.proofs.ResponderFaults.{call_ends_client}
use Rattle.h2_fetch.proofs.Beginning.{begins_fetch}
use Rattle.h2_spec_log.specs.declared.refusal.Refusal.TheVariants as reasons
use Rattle.h2_ends.specs.declared.refusal.EndRefusal.TheVariants as refusals
use Rattle.h2_fetch.proofs.fetch.PartFetch.new.Goals as goal

pub returns-in-Ok-request-clause-ok : goal.returns-in-Ok-request-clause-ok
returns-in-Ok-request-clause-ok c =
    begins_fetch (message_value c.args.message) _ c.args.config.in_range c.in-Ok.ensures.ok
    c.in-Ok-request.ensures refl

pub returns-in-Err-default-BadMessage-clause-refused :
    goal.returns-in-Err-default-BadMessage-clause-refused
returns-in-Err-default-BadMessage-clause-refused c =
    refused_as_broken (message_value c.args.message) c.request.new.self.end
    c.in-Err-default-BadMessage.field-0-0 c.in-Err-default-BadMessage.field-0-1-0
    c.in-Ok.ensures.ok c.in-Err-default-BadMessage.field-0-1-is
    c.in-Err-default-BadMessage.ensures

pub returns-in-Err-default-Conn-ListTooLarge-clause-refused :
    goal.returns-in-Err-default-Conn-ListTooLarge-clause-refused
returns-in-Err-default-Conn-ListTooLarge-clause-refused c =
    refused_as_large (message_value c.args.message) c.request.new.self.end
    c.in-Err-default-Conn-ListTooLarge.field-0-0 c.in-Err-default-Conn-ListTooLarge.field-0-1-0
    c.in-Ok.ensures.ok c.in-Err-default-Conn-ListTooLarge.field-0-1-is (rw
    c.in-Err-default-Conn-ListTooLarge.field-0-1-is at
    c.in-Err-default-Conn-ListTooLarge.field-0-1-0-is)
    c.in-Err-default-Conn-ListTooLarge.ensures

pub returns-clause-refused : goal.returns-clause-refused
returns-clause-refused c =
    let kept : (rule : Malformed) → c.in-Err.refusal ≢ refusals.BadMessage rule =
    λ rule. search rules in
    let small : c.in-Err.refusal ≢ refusals.Conn reasons.ListTooLarge = search rules in
    let ends : c.error_of_refusal.result ≡ error_after c.in-Err.refusal = search rules in
    refused_otherwise (message_value c.args.message) c.request.new.self.end c.in-Err.field-0-0
    c.in-Err.refusal c.in-Ok.ensures.ok kept small ends c.in-Err.ensures

pub returns-clause-err : goal.returns-clause-err
returns-clause-err c =
    call_ends_client c.error_of_refusal.result c.error_of_refusal.ensures.kind
