-- Each part is copied behind those before it.
use Rattle.std.proofs.Common.{◌≡◌, ◌≤◌, ◌∙◌, ap, ◌-◌, List, ℕ, ◌++◌, length, take, drop, arith}
use Rattle.std.proofs.Common.{append-nil, length-append, length-take, length-drop}
use Rattle.std.specs.Prelude.{min}
use Rattle.std.proofs.lemmas.List.{drop_all, take_rest}
use Rattle.h2_conn.specs.Conn.{octets_queued}
use Rattle.h2_conn.proofs.WaitingParts.{within_queue}
use Rattle.belkjoef.proofs.FirstParts.{copied_on}
use Rattle.belkjoef.proofs.output.copy_waiting.Goals as goal

pub loop-count-preserved : goal.loop-count-preserved
loop-count-preserved c =
    let queue = octets_queued c.args.conn.now in
    let count = c.loop-count.count in
    let once = c.loop-count.buffer in
    let part = c.waiting_from.result.now in
    let new = c.copy-count.new.buffer in
    let all = take_rest once count in
    let before = c.args.buffer.now in
    let room : count ≤ length before =
    omega (arith, c.loop-count.invariant.within, c.min-most.ensures) in
    let waits : count ≤ length queue =
    omega (arith, c.loop-count.invariant.within, c.min-most.ensures, c.waiting.ensures.queued) in
    let size : length once ≡ length before =
    ap (λ (xs : List ℕ). length xs) c.loop-count.invariant.copied
    ∙ omega (
      arith,
      length-append (take count queue) (drop count before),
      length-take count queue,
      length-drop count before,
      room,
      waits,
    ) in
    let inner = within_queue queue count part c.waiting_from.ensures.part waits in
    record {
      within = omega (
        arith,
        c.copy-count.ensures.count,
        length-drop count once,
        size,
        inner,
        c.min-most.ensures,
        c.waiting.ensures.queued,
      );
      copied = ap (λ (rest : List ℕ). take count once ++ (new ++ rest))
          (drop_all (length once - count) (drop count once)
          (omega (arith, length-drop count once)))
          ∙ (ap (λ (rest : List ℕ). take count once ++ rest) (append-nil new)
          ∙ copied_on queue before once new part count c.copy-count.result room waits
          c.waiting_from.ensures.part c.loop-count.invariant.copied
          (c.copy-count.ensures.count ∙ ap (λ (xs : List ℕ). min (length xs) (length part)) all)
          (c.copy-count.ensures.copied
          ∙ ap (λ (xs : List ℕ). take c.copy-count.result part ++ drop c.copy-count.result xs) all));
    }
