-- What was put out comes before the queued output.
use Rattle.h2_replay.proofs.Names.{◌∙◌, ◌++◌, ◌-◌, ℕ, List, ap, sym, drop, drop-parts}
use Rattle.h2_replay.proofs.Octets.{rest_of}
use Rattle.h2_replay.proofs.waiting.joined_output.Goals as goal

pub returns : goal.returns
returns c values log represents =
    let rest = drop log.given log.written in
    let seen = c.min-seen.result in
    c.in_ok-append_waiting.ensures values log represents
    ∙ ap (λ (o : List ℕ). o ++ drop (c.args.waited - seen) rest)
    (c.in_ok-joined.ensures.items ∙ rest_of seen c.args.given.now)
    ∙ sym (drop-parts c.args.waited seen c.args.given.now rest c.min-seen.ensures)
