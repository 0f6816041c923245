use Rattle.h2_streams.proofs.Names.{◌≡◌, ◌^◌, ◌<◌, false, None, Some, rules, is_far_offset}
use Rattle.h2_streams.proofs.GreatestWindows.{above_same, greatest_near}
use Rattle.h2_streams.proofs.Offsets.{window_is}
use Rattle.h2_numbers.specs.Tables.{all_of}
use Rattle.h2_streams.proofs.table.StreamTable.greatest_send_window.Goals as goal

pub returns-in_err-offset : goal.returns-in_err-offset
returns-in_err-offset c = λ initial.
    let t = c.self.inside in
    rw (← c.self.view_is, c.from_residual.ensures)
    (above_same t.send_initial t.recv_initial initial (all_of t.active) t.resets.keys None
    c.self.invariant.well c.in_err-offset.ensures)

pub returns : goal.returns
returns c = λ initial.
    let t = c.self.inside in
    let offset = c.in_ok-offset.offset in
    let near : is_far_offset offset ≡ false =
    greatest_near (all_of t.active) t.resets.keys offset c.self.invariant.well
    c.in_ok-offset.ensures in
    let small : t.send_initial < 2 ^ 32 = search rules in
    rw (← c.self.view_is, c.from.ensures, window_is offset t.send_initial near small)
    (above_same t.send_initial t.recv_initial initial (all_of t.active) t.resets.keys (Some offset)
    c.self.invariant.well c.in_ok-offset.ensures)
