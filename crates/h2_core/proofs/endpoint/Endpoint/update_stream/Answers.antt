-- A stream that is over is removed; what was set of it before doesn't count.
use Rattle.h2_core.proofs.Names.{◌-◌, refl, sym, ap, ◌∙◌, End, add_unreturned, stream_view}
use Rattle.h2_core.proofs.Names.{TableState, end_of}
use Rattle.h2_core.proofs.StepEnds.{with_table}
use Rattle.h2_core.proofs.StepStreams.{updated-over}
use Rattle.h2_core.proofs.endpoint.Endpoint.update_stream.Goals as goal

-- an end with one stream less
abbrev with_one_less : End → End
with_one_less e = record e {
  streams = record e.streams { active_count = e.streams.active_count - 1 };
}

pub returns-then-stream-2-clause-after : goal.returns-then-stream-2-clause-after
returns-then-stream-2-clause-after c =
    let e = end_of c.args.self.now in
    c.add_unreturned.ensures.after
    ∙ ap (λ (table : TableState). add_unreturned c.args.stream.owed
    (with_table (with_one_less e) table)) c.close.ensures
    ∙ sym (updated-over e c.args.id (stream_view c.args.stream)
    (rw (c.if-stream.true, c.if-stream-2.true) refl))
