-- Each part has the octets that follow those appended before it.
use Rattle.std.proofs.Common.{◌+◌, ◌++◌, drop, length, ap, sym, ◌∙◌, drop-drop, append_assoc}
use Rattle.std.proofs.KnownBytes.{starts_with_rest}
use Rattle.h2_conn.specs.Conn.{octets_queued}
use Rattle.h2_conn.proofs.conn.Conn.append_waiting.Goals as goal

pub loop-at-preserved : goal.loop-at-preserved
loop-at-preserved c =
    let queue = octets_queued c.args.self.now in
    let at = c.loop-at.at in
    let part = c.waiting_from-part.result.now in
    let out = c.loop-at.out.items in
    ap (λ xs. xs ++ drop (at + length part) queue) c.in_ok-extend_from_slice.ensures.items
    ∙ append_assoc out part (drop (at + length part) queue)
    ∙ ap (λ xs. out ++ xs) (ap (λ xs. part ++ xs) (sym (drop-drop (length part) at queue))
    ∙ sym (starts_with_rest (drop at queue) part c.waiting_from-part.ensures.part))
    ∙ c.loop-at.invariant
