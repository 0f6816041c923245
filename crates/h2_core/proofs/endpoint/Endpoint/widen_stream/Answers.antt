-- WINDOW_UPDATE of an active stream widens its window, or resets it.
use Rattle.h2_core.proofs.Names.{◌≡◌, ◌≢◌, ℤ, false, true, arith, None, sym, ap, ◌∙◌, [], ◌∷◌}
use Rattle.h2_core.proofs.Names.{WindowUpdate, alone, StreamFault, verdict_by_rules, overflows_by}
use Rattle.h2_core.proofs.Names.{stream_view, is_far, End, end_view, set_stream, widen_send_window}
use Rattle.h2_core.proofs.Names.{reset_stream, queue_output, code_number, end_of, stream_of}
use Rattle.h2_core.proofs.Names.{stream_of_item, after_ignored, after_stream_fault}
use Rattle.h2_frame.specs.Frames.{Reset}
use Rattle.h2_core.proofs.SoundFacts.{send_near, recv_near}
use Rattle.h2_core.proofs.ItemVerdicts.{ignored_taken, fault_item}
use Rattle.h2_core.proofs.StepEnds.{with_table}
use Rattle.h2_core.proofs.StepStreams.{narrow_none}
use Rattle.h2_core.proofs.ItemWindows.{widened_fits, widened_is, widened_near, passes_as}
use Rattle.h2_core.proofs.ItemUpdates.{empty_resets, great_resets, widens_stream}
use Rattle.h2_core.proofs.endpoint.Endpoint.widen_stream.Goals.{then-increment-eq0}
use Rattle.h2_core.proofs.endpoint.Endpoint.widen_stream.Goals.{else-increment-eq0+then-window-from}
use Rattle.h2_core.proofs.endpoint.Endpoint.widen_stream.Goals as goal

pub overflow_add-window : goal.overflow_add-window
overflow_add-window c =
    let near = send_near (end_of c.args.self.now) c.args.id (stream_view c.args.stream)
    c.requires.sound c.requires.active in
    widened_fits c.args.stream.send_window c.from.result c.args.increment near c.from.ensures
    c.requires.increment

pub set-requires-clause-send : goal.set-requires-clause-send
set-requires-clause-send c =
    let window = c.args.stream.send_window in
    let more = c.args.increment in
    let near : is_far window ≡ false = send_near (end_of c.args.self.now) c.args.id
    (stream_view c.args.stream) c.requires.sound c.requires.active in
    let few : overflows_by more window ≡ false =
    passes_as window c.from.result c.from-else-increment-eq0.result more false near c.from.ensures
    c.requires.increment c.from-else-increment-eq0.ensures c.if-window-from.false in
    rw (widened_is window c.from.result more near c.from.ensures c.requires.increment)
    (widened_near window more near few)

pub set-requires-clause-recv : goal.set-requires-clause-recv
set-requires-clause-recv c =
    recv_near (end_of c.args.self.now) c.args.id (stream_view c.args.stream) c.requires.sound
    c.requires.active

pub returns-else-window-from : goal.returns-else-window-from
unfolding after_ignored
returns-else-window-from c =
    let e = end_of c.args.self.now in
    let id = c.args.id in
    let more = c.args.increment in
    let stream = stream_view c.args.stream in
    let near : is_far stream.send_window ≡ false = send_near e id stream c.requires.sound
    c.requires.active in
    let few : overflows_by more stream.send_window ≡ false =
    passes_as stream.send_window c.from.result c.from-else-increment-eq0.result more false near
    c.from.ensures c.requires.increment c.from-else-increment-eq0.ensures c.if-window-from.false in
    ignored_taken e (WindowUpdate id more) c.args.self.now.list _
    (widens_stream e id more stream (omega arith) c.requires.active c.if-increment-eq0.false few)
    (ap (with_table e) c.set.ensures
    ∙ ap (λ (window : ℤ). set_stream e id (record stream { send_window = window }))
    (widened_is stream.send_window c.from.result more near c.from.ensures c.requires.increment)
    ∙ sym (ap (widen_send_window e id more) c.requires.active))

pub returns : goal.returns
unfolding after_stream_fault stream_of_item stream_of
returns c =
    let e = end_of c.args.self.now in
    let id = c.args.id in
    let more = c.args.increment in
    let stream = stream_view c.args.stream in
    let code = c.if-increment-eq0.code in
    let some : id ≢ 0 = omega arith in
    let near : is_far stream.send_window ≡ false = send_near e id stream c.requires.sound
    c.requires.active in
    let rule : verdict_by_rules (end_view e) None (alone (WindowUpdate id more))
    ≡ StreamFault code =
    elim c.if-increment-eq0.branch [
      | then-increment-eq0 w ↦
          empty_resets e id more stream code some c.requires.active w.if-increment-eq0.true
          w.code-is
      | else-increment-eq0+then-window-from w ↦
          great_resets e id more stream code some c.requires.active w.if-increment-eq0.false
          (passes_as stream.send_window c.from.result w.from-else-increment-eq0.result more true
          near c.from.ensures c.requires.increment w.from-else-increment-eq0.ensures
          w.if-window-from.true)
          w.code-is
    ] in
    fault_item c.args.self.now c.reset_for_fault.new.self (WindowUpdate id more) code 0
    c.reset_for_fault.result rule
    (ap (λ (x : End). reset_stream (queue_output x
    (alone (Reset id (code_number code)) ∷ [])) id 0) (sym (narrow_none e)))
    c.reset_for_fault.ensures
