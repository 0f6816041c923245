use Rattle.h2_message.proofs.Names.{sym, ◌∙◌, codes}
use Rattle.h2_message.proofs.OctetLemmas.{known_name, good_method, good_scheme, good_path}
use Rattle.h2_message.proofs.OctetLemmas.{good_authority}
use Rattle.h2_message.proofs.ScanRequests.{method-added, scheme-added, path-added, authority-added}
use Rattle.h2_message.proofs.ScanRequests.{unknown-added}
use Rattle.h2_message.proofs.scan.Scan.add_of_request.Goals as goal

pub returns-then-is_text-clause-seen : goal.returns-then-is_text-clause-seen
returns-then-is_text-clause-seen c fields sensitive colon seen =
    method-added fields c.args.name.now c.args.value.now sensitive c.args.self.now
    c.is_some.result c.method_class.result c.or-self.result
    (sym c.is_text.ensures ∙ c.if-is_text.true) colon
    c.is_some.ensures c.method_class.ensures c.or-self.ensures seen

pub returns-then-is_text-2-clause-seen : goal.returns-then-is_text-2-clause-seen
returns-then-is_text-2-clause-seen c fields sensitive colon seen =
    scheme-added fields c.args.name.now c.args.value.now sensitive c.args.self.now
    (sym c.is_text-else-is_text.ensures ∙ c.if-is_text-2.true) colon seen

pub returns-then-is_text-3-clause-seen : goal.returns-then-is_text-3-clause-seen
returns-then-is_text-3-clause-seen c fields sensitive colon seen =
    path-added fields c.args.name.now c.args.value.now sensitive c.args.self.now
    c.is_some-then-is_text-3.result c.path_class.result c.or-self-then-is_text-3.result
    (sym c.is_text-else-is_text-2.ensures ∙ c.if-is_text-3.true) colon
    c.is_some-then-is_text-3.ensures c.path_class.ensures c.or-self-then-is_text-3.ensures seen

pub returns-then-is_text-4-clause-seen : goal.returns-then-is_text-4-clause-seen
returns-then-is_text-4-clause-seen c fields sensitive colon seen =
    authority-added fields c.args.name.now c.args.value.now sensitive c.args.self.now
    (sym c.is_text-else-is_text-3.ensures ∙ c.if-is_text-4.true) colon seen

pub returns-else-is_text-4-clause-seen : goal.returns-else-is_text-4-clause-seen
returns-else-is_text-4-clause-seen c fields sensitive colon seen =
    unknown-added fields c.args.name.now c.args.value.now sensitive c.args.self.now
    (sym c.is_text.ensures ∙ c.if-is_text.false)
    (sym c.is_text-else-is_text.ensures ∙ c.if-is_text-2.false)
    (sym c.is_text-else-is_text-2.ensures ∙ c.if-is_text-3.false)
    (sym c.is_text-else-is_text-3.ensures ∙ c.if-is_text-4.false) colon seen

pub returns-then-is_text-clause-known : goal.returns-then-is_text-clause-known
returns-then-is_text-clause-known c known =
    known_name c.args.name.now (codes ":method")
    (sym c.is_text.ensures ∙ c.if-is_text.true) good_method

pub returns-then-is_text-2-clause-known : goal.returns-then-is_text-2-clause-known
returns-then-is_text-2-clause-known c known =
    known_name c.args.name.now (codes ":scheme")
    (sym c.is_text-else-is_text.ensures ∙ c.if-is_text-2.true) good_scheme

pub returns-then-is_text-3-clause-known : goal.returns-then-is_text-3-clause-known
returns-then-is_text-3-clause-known c known =
    known_name c.args.name.now (codes ":path")
    (sym c.is_text-else-is_text-2.ensures ∙ c.if-is_text-3.true) good_path

pub returns-then-is_text-4-clause-known : goal.returns-then-is_text-4-clause-known
returns-then-is_text-4-clause-known c known =
    known_name c.args.name.now (codes ":authority")
    (sym c.is_text-else-is_text-3.ensures ∙ c.if-is_text-4.true) good_authority
