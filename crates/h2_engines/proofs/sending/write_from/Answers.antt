-- What four parts have are the first octets of what waits there.
use Rattle.h2_engines.proofs.Names.{arith, refl, ◌∙◌}
use Rattle.std.proofs.Common.{drop, length, [], ◌∷◌}
use Rattle.std.specs.Io.Slices.{io_slices_bytes}
use Rattle.h2_conn.specs.Conn.{octets_queued}
use Rattle.h2_conn.proofs.WaitingParts.{within_queue}
use Rattle.h2_link.proofs.PartsLemmas.{takes_part}
use Rattle.h2_engines.proofs.WritesParts.{slices_four, slices_some, stalled_at_none}
use Rattle.h2_engines.proofs.sending.write_from.Goals as goal

pub overflow_add-past_first : goal.overflow_add-past_first
overflow_add-past_first g c =
    let within = within_queue (octets_queued c.args.conn.now) c.args.at _
    c.waiting_from-first.ensures.part (omega (arith, c.requires.some)) in
    omega (arith, within, c.requires.fits)

pub overflow_add-past_second : goal.overflow_add-past_second
overflow_add-past_second g c =
    let queue = octets_queued c.args.conn.now in
    let first = within_queue queue c.args.at _ c.waiting_from-first.ensures.part
    (omega (arith, c.requires.some)) in
    let within = within_queue queue _ _ c.waiting_from-second.ensures.part (omega (arith, first)) in
    omega (arith, within, c.requires.fits)

pub overflow_add-past_third : goal.overflow_add-past_third
overflow_add-past_third g c =
    let queue = octets_queued c.args.conn.now in
    let first = within_queue queue c.args.at _ c.waiting_from-first.ensures.part
    (omega (arith, c.requires.some)) in
    let second = within_queue queue _ _ c.waiting_from-second.ensures.part (omega (arith, first)) in
    let within = within_queue queue _ _ c.waiting_from-third.ensures.part (omega (arith, second)) in
    omega (arith, within, c.requires.fits)

pub returns-clause-takes : goal.returns-clause-takes
returns-clause-takes g c =
    takes_part _ _ (drop c.args.at (octets_queued c.args.conn.now)) _ c.write_parts.result
    (slices_four (octets_queued c.args.conn.now) c.args.at _ _ _ _ _ _ _ c.new.result
    c.new-2.result c.new-3.result c.new-4.result c.new.ensures c.new-2.ensures c.new-3.ensures
    c.new-4.ensures refl refl refl
    c.waiting_from-first.ensures.part c.waiting_from-second.ensures.part
    c.waiting_from-third.ensures.part c.waiting_from-fourth.ensures.part)
    c.write_parts.ensures.takes

pub returns-clause-stalled : goal.returns-clause-stalled
returns-clause-stalled g c none =
    let others = c.new-2.result ∷ c.new-3.result ∷ c.new-4.result ∷ [] in
    c.write_parts.ensures.stalled
    ∙ stalled_at_none (g.L.Link.stalled c.args.link.now)
    (length (io_slices_bytes (c.new.result ∷ others))) c.write_parts.result
    (slices_some c.waiting_from-first.result.now c.new.result others c.new.ensures
    (c.waiting_from-first.ensures.some c.requires.some))
    none
