-- The stream's windows stay near zero, and DATA leaves what is counted and owed.
use Rattle.h2_core.proofs.Names.{length, ap, arith, End, end_of}
use Rattle.h2_core.proofs.CallWindows.{narrowed_near, narrowed_value}
use Rattle.h2_core.proofs.SoundFacts.{counted, owed_fits, send_near, recv_near}
use Rattle.h2_core.proofs.endpoint.Endpoint.write_shared_data.Goals as goal

pub update_stream-requires-clause-near : goal.update_stream-requires-clause-near
update_stream-requires-clause-near c =
    let e = end_of c.args.self.now in
    let near = send_near e c.args.id _ c.requires.sound c.requires.active in
    let left = narrowed_near c.args.stream.send_window (length c.args.octets) near
    c.requires.window in
    let is = narrowed_value c.args.stream.send_window (length c.args.octets) near
    c.requires.count left in
    rw c.len-count.ensures.value record {
      send = rw is left;
      recv = recv_near e c.args.id _ c.requires.sound c.requires.active;
    }

pub update_stream-requires-clause-counted : goal.update_stream-requires-clause-counted
update_stream-requires-clause-counted c =
    omega (
      arith,
      ap (λ (e : End). e.streams.active_count) c.add_shared_data.ensures.after,
      counted (end_of c.args.self.now) c.args.id _ c.requires.sound c.requires.active,
    )

pub update_stream-requires-clause-window : goal.update_stream-requires-clause-window
update_stream-requires-clause-window c =
    omega (
      arith,
      ap (λ (e : End). e.windows.recv) c.add_shared_data.ensures.after,
      ap (λ (e : End). e.windows.unreturned) c.add_shared_data.ensures.after,
      owed_fits (end_of c.args.self.now) c.args.id _ c.requires.sound c.requires.active,
    )
