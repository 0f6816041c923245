use Rattle.h2_streams.proofs.Names.{◌^◌, ◌<◌, sym, rules, IsNearKept}
use Rattle.h2_streams.proofs.KeptEntries.{stream_kept, near_found}
use Rattle.h2_streams.proofs.Offsets.{window_is}
use Rattle.h2_numbers.specs.Tables.{all_of}
use Rattle.h2_streams.proofs.table.StreamTable.stream.Goals as goal

pub returns-in_err-kept : goal.returns-in_err-kept
returns-in_err-kept c =
    let t = c.self.inside in
    let e = stream_kept t.send_initial t.recv_initial c.args.id (all_of t.active) t.resets.keys
    c.self.invariant.well in
    rw (← c.self.view_is, e, c.from_residual.ensures, ← c.in_err-kept.ensures.value)

pub returns : goal.returns
returns c =
    let t = c.self.inside in
    let e = stream_kept t.send_initial t.recv_initial c.args.id (all_of t.active) t.resets.keys
    c.self.invariant.well in
    let kept = c.in_ok-kept.kept.now in
    let near : IsNearKept kept =
    near_found c.args.id kept (all_of t.active) t.resets.keys c.self.invariant.well
    (sym c.in_ok-kept.ensures.value) in
    let send_small : t.send_initial < 2 ^ 32 = search rules in
    let recv_small : t.recv_initial < 2 ^ 32 = search rules in
    rw (
      ← c.self.view_is,
      e,
      ← c.in_ok-kept.ensures.value,
      c.from.ensures,
      c.from-2.ensures,
      window_is kept.send_offset t.send_initial near.0 send_small,
      window_is kept.recv_offset t.recv_initial near.1 recv_small,
    )
