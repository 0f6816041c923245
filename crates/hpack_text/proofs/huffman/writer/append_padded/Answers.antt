use Rattle.hpack_text.proofs.Names.{arith}
use Rattle.hpack_text.proofs.WriteLemmas.{padded_octet, AppendsPadded-push, AppendsPadded-none}
use Rattle.hpack_text.proofs.huffman.writer.append_padded.Goals as goal

pub overflow_cast-last : goal.overflow_cast-last
overflow_cast-last c =
    let last = c.args.last in
    omega (
      arith,
      (padded_octet last.count last.value c.if-last-gt0.true last.few
          last.within).small,
    )

pub returns-in_ok-push-clause-ok : goal.returns-in_ok-push-clause-ok
returns-in_ok-push-clause-ok c =
    let last = c.args.last in
    AppendsPadded-push _ _ last.count last.value _ c.if-last-gt0.true
    (padded_octet last.count last.value c.if-last-gt0.true last.few last.within)
    c.in_ok-push.ensures.items

pub returns-else-last-gt0-clause-ok : goal.returns-else-last-gt0-clause-ok
returns-else-last-gt0-clause-ok c =
    AppendsPadded-none _ c.args.last.count c.args.last.value c.if-last-gt0.false
