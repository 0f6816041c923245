-- By the lemmas on what is sent before output is put out.
use Rattle.h2_engines.proofs.Names.{◌≡◌, ◌≢◌, ◌⊎◌, Ok, Err, rules, sym, ◌∙◌, inl, inr}
use Rattle.h2_engines.proofs.WithoutLinkSends.{failed_sends, not_returned, sends_so}
use Rattle.h2_engines.proofs.sending.send_waiting.Goals.{in-Ok-1, in-Err+in-Conn+in-OutputFull-1}
use Rattle.h2_spec_log.specs.declared.refusal.Refusal.TheVariants as reasons
use Rattle.h2_ends.specs.declared.refusal.EndRefusal.TheVariants as refusals
use Rattle.h2_engines.proofs.sending.send_waiting.Goals as goal

pub returns-then-is_some-clause-sends : goal.returns-then-is_some-clause-sends
returns-then-is_some-clause-sends g c =
    failed_sends c.args.credit c.args.end.now.end c.failed.result tt
    (rw c.conn.ensures at c.failed.ensures)
    (sym c.is_some.ensures ∙ c.if-is_some.true)

pub returns-in_default-clause-sends : goal.returns-in_default-clause-sends
returns-in_default-clause-sends g c =
    let some : c.return_credit-released.result ≢ Ok tt = search rules in
    let other : c.return_credit-released.result ≢ Err (refusals.Conn reasons.OutputFull) =
    search rules in
    not_returned c.args.credit c.args.end.now.end c.failed.result
    (rw c.conn.ensures at c.failed.ensures) (sym c.is_some.ensures ∙ c.if-is_some.false)
    c.return_credit-released.new.end.end c.return_credit-released.result
    c.unless_refused.result some other c.unless_refused.ensures.ok c.unless_refused.ensures.err
    c.return_credit-released.ensures

pub returns-in-Ok-clause-sends : goal.returns-in-Ok-clause-sends
returns-in-Ok-clause-sends g c =
    let all : (c.return_credit-released.result ≡ Ok tt)
    ⊎ (c.return_credit-released.result ≡ Err (refusals.Conn reasons.OutputFull)) =
    elim c.in-Ok-1.branch [
      | in-Ok-1 w ↦ inl (search rules)
      | in-Err+in-Conn+in-OutputFull-1 w ↦ inr (search rules)
    ] in
    sends_so c.args.credit c.args.end.now.end c.failed.result
    (rw c.conn.ensures at c.failed.ensures) (sym c.is_some.ensures ∙ c.if-is_some.false)
    c.return_credit-released.new.end.end c.pump.new.end.end c.return_credit-released.result
    c.pump.result c.return_credit-released.ensures all c.pump.ensures.pumps
