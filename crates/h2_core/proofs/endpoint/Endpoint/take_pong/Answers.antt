-- The answer to a PING is reported where it is awaited.
use Rattle.h2_core.proofs.Names.{◌≡◌, true, false, refl, Ping, is_awaited_ping, NoEvent, end_view}
use Rattle.h2_core.proofs.Names.{end_of, verdict_by_rules, replies_to, events_of, after_reported}
use Rattle.h2_core.proofs.Names.{after_ignored}
use Rattle.h2_core.proofs.ItemVerdicts.{quiet_verdict, report_stands, report_taken, ignored_taken}
use Rattle.h2_core.proofs.ItemPings.{awaited_is}
use Rattle.h2_core.proofs.endpoint.Endpoint.take_pong.Goals as goal

pub returns-then-ne : goal.returns-then-ne
unfolding verdict_by_rules after_ignored replies_to
returns-then-ne c =
    let e = end_of c.args.self.now in
    let frame = Ping true c.args.octets in
    let same : is_awaited_ping c.args.octets c.args.self.now.ping ≡ false =
    awaited_is c.args.octets c.args.self.now.ping true c.ne.ensures c.if-ne.true in
    ignored_taken e frame c.args.self.now.list _
    (quiet_verdict (end_view e) frame NoEvent (rw same refl) refl refl) refl

pub returns : goal.returns
unfolding verdict_by_rules after_reported events_of
returns c =
    let e = end_of c.args.self.now in
    let frame = Ping true c.args.octets in
    let same : is_awaited_ping c.args.octets c.args.self.now.ping ≡ true =
    awaited_is c.args.octets c.args.self.now.ping false c.ne.ensures c.if-ne.false in
    report_taken e frame c.args.self.now.list _ _
    (report_stands (end_view e) frame (rw same refl)) refl refl
