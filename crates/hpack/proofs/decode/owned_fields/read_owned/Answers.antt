use Rattle.hpack.proofs.Names.{IfOk-weaker}
use Rattle.hpack.proofs.OwnedListLemmas.{owned_too_large_stays}
use Rattle.hpack.proofs.decode.owned_fields.read_owned.Goals as goal

pub returns-then-is_too_large-clause-ok : goal.returns-then-is_too_large-clause-ok
returns-then-is_too_large-clause-ok c =
    let builder = c.args.builder.now in
    IfOk-weaker c.skip_at.result _ _ (λ count h. (
      h.0,
      h.1,
      h.2,
      owned_too_large_stays builder.list builder.remaining h.0
          (c.is_too_large.ensures c.if-is_too_large.true),
    )) c.skip_at.ensures.ok

pub returns-clause-ok : goal.returns-clause-ok
returns-clause-ok c =
    let read = c.in_ok-field.ensures.ok in
    (c.in_ok-field.field, read.0, read.1, c.in_ok-push.ensures.ok)
