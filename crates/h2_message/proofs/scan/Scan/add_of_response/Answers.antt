use Rattle.h2_message.proofs.Names.{sym, ◌∙◌, codes}
use Rattle.h2_message.proofs.OctetLemmas.{known_name, good_status}
use Rattle.h2_message.proofs.ScanResponses.{status-added, unknown-added}
use Rattle.h2_message.proofs.scan.Scan.add_of_response.Goals as goal

pub returns-then-is_text-clause-seen : goal.returns-then-is_text-clause-seen
returns-then-is_text-clause-seen c fields sensitive colon seen =
    status-added fields c.args.name.now c.args.value.now sensitive c.args.self.now
    c.is_some.result c.status_class.result c.or-self.result
    (sym c.is_text.ensures ∙ c.if-is_text.true) colon
    c.is_some.ensures c.status_class.ensures c.or-self.ensures seen

pub returns-else-is_text-clause-seen : goal.returns-else-is_text-clause-seen
returns-else-is_text-clause-seen c fields sensitive colon seen =
    unknown-added fields c.args.name.now c.args.value.now sensitive c.args.self.now
    (sym c.is_text.ensures ∙ c.if-is_text.false)
    colon seen

pub returns-then-is_text-clause-known : goal.returns-then-is_text-clause-known
returns-then-is_text-clause-known c known =
    known_name c.args.name.now (codes ":status")
    (sym c.is_text.ensures ∙ c.if-is_text.true) good_status
