-- RST_STREAM is written, and the table, the counts and the credit are the machine's.
use Rattle.h2_core.proofs.Names.{ℕ, ◌≤◌, ◌+◌, ◌-◌, arith, sym, ap, ap₂, List, [], ◌∷◌, ◌∙◌}
use Rattle.h2_core.proofs.Names.{option_map, alone, End, end_view, queue_output, add_unreturned}
use Rattle.h2_core.proofs.Names.{stream_view, TableState, Endpoint, end_of}
use Rattle.h2_frame.specs.Frames.{Reset as ResetFrame}
use Rattle.h2_core.proofs.StepFrames.{reset-written, length-reset}
use Rattle.h2_core.proofs.StepEnds.{with_table, with_waiting, item-added}
use Rattle.h2_core.proofs.StepStreams.{reset-active, reset-inactive}
use Rattle.h2_core.proofs.endpoint.Endpoint.reset_stream.Goals.{in-Some, in_default}
use Rattle.h2_core.proofs.endpoint.Endpoint.reset_stream.Goals as goal

pub add_frame-requires-clause-writable : goal.add_frame-requires-clause-writable
add_frame-requires-clause-writable c =
    reset-written c.args.id c.args.code c.requires.number.0 c.requires.number.1

pub add_frame-requires-clause-short : goal.add_frame-requires-clause-short
add_frame-requires-clause-short c = omega (arith, length-reset c.args.id c.args.code)

pub add_frame-requires-clause-room : goal.add_frame-requires-clause-room
add_frame-requires-clause-room c =
    omega (arith, length-reset c.args.id c.args.code, c.in_ok-reserve.ensures.ok)

pub add_unreturned-requires-clause-room : goal.add_unreturned-requires-clause-room
add_unreturned-requires-clause-room c = λ returns.
    let left : 13 ≤ c.add_frame.new.self.spare =
    omega (
      arith,
      length-reset c.args.id c.args.code,
      c.in_ok-reserve.ensures.ok,
      c.add_frame.ensures.spare,
    ) in
    elim c.match-stream.branch [
      | in-Some w ↦ rw (w.self-is) left
      | in_default w ↦ rw (w.self-is) left
    ]

-- an end with one more reset, and `count` active streams
abbrev with_counts : End → ℕ → End
with_counts e count =
    record e {
      streams = record e.streams { active_count = count; resets = e.streams.resets + 1 };
    }

pub returns-clause-ok : goal.returns-clause-ok
returns-clause-ok c =
    let old = end_of c.args.self.now in
    let e = queue_output old (alone (ResetFrame c.args.id c.args.code) ∷ []) in
    let waiting =
    item-added (end_view old).max_payload (ResetFrame c.args.id c.args.code) old.output.waiting
    c.reserve.new.self.waiting c.add_frame.new.self.waiting c.reserve.ensures.waiting
    c.add_frame.ensures.waiting in
    elim c.match-stream.branch [
      | in-Some w ↦
          c.add_unreturned.ensures.after
          ∙ ap₂ (λ (owed : ℕ) (self : Endpoint). add_unreturned (c.args.more + owed) (end_of self))
          w.owed-is w.self-is
          ∙ ap₂ (λ (table : TableState) (octets : List ℕ).
          add_unreturned (c.args.more + w.in-Some.stream.owed)
          (with_table (with_waiting (with_counts old (old.streams.active_count - 1)) octets) table))
          c.in_ok-reset.ensures.ok waiting
          ∙ sym (reset-active e c.args.id c.args.more (stream_view w.in-Some.stream)
          (c.requires.active ∙ ap (option_map stream_view) w.in-Some.is))
      | in_default w ↦
          c.add_unreturned.ensures.after
          ∙ ap₂ (λ (owed : ℕ) (self : Endpoint). add_unreturned (c.args.more + owed) (end_of self))
          w.owed-is w.self-is
          ∙ ap₂ (λ (table : TableState) (octets : List ℕ). add_unreturned (c.args.more + 0)
          (with_table (with_waiting (with_counts old old.streams.active_count) octets) table))
          c.in_ok-reset.ensures.ok waiting
          ∙ sym (reset-inactive e c.args.id c.args.more
          (c.requires.active ∙ ap (option_map stream_view) w.in_default.is))
    ]
