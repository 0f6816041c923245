use Rattle.h2_streams.proofs.Names.{◌^◌, ◌<◌, ◌-ℤ◌, pos, refl, rules}
use Rattle.h2_streams.proofs.KeptEntries.{stream_back}
use Rattle.h2_streams.proofs.Offsets.{offset_is}
use Rattle.h2_streams.proofs.table.StreamTable.kept.Goals as goal

pub returns-clause-view : goal.returns-clause-view
returns-clause-view c =
    let t = c.self.inside in
    let stream = c.args.stream in
    let send_small : t.send_initial < 2 ^ 32 = search rules in
    let recv_small : t.recv_initial < 2 ^ 32 = search rules in
    rw (
      ← c.self.view_is,
      c.from-send_initial.ensures,
      c.from-recv_initial.ensures,
      offset_is stream.send_window t.send_initial c.requires.send send_small,
      offset_is stream.recv_window t.recv_initial c.requires.recv recv_small,
    )
    (stream_back t.send_initial t.recv_initial stream (stream.send_window -ℤ pos t.send_initial)
    (stream.recv_window -ℤ pos t.recv_initial) refl refl)
