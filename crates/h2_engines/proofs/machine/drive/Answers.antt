-- Each return, by what the rounds before it and the last one have made of the machine and the link.
use Rattle.h2_engines.proofs.Names.{refl, sym, ◌∙◌, take, drop, length, arith, err_from_is_err_and}
use Rattle.std.specs.List.{length_refill}
use Rattle.h2_engines.proofs.MachineDrives.{drives_first, going_ends, no_round, waiting_on}
use Rattle.h2_engines.proofs.MachineDrives.{waiting_last, written_on, sent_on, sent_last, read_on}
use Rattle.h2_engines.proofs.MachineDrives.{read_ends, read_fails, taken_on, taken_whole}
use Rattle.h2_engines.proofs.MachineDrives.{taken_last, gives_none, gives_piece, meets_end}
use Rattle.h2_engines.proofs.machine.drive.Goals as goal

pub returns-in_err-input-clause-drives : goal.returns-in_err-input-clause-drives
returns-in_err-input-clause-drives g c course end is sent =
    let answer = err_from_is_err_and c.from_residual.result c.from_residual.ensures.1 in
    let old = g.M.Machine.held c.args.machine.now in
    rw (answer.1, answer.2)
    (going_ends _ old _ c.in_err-input.ensures.err (drives_first _ old course end is sent).going)

pub returns-in_err-write_all-clause-drives : goal.returns-in_err-write_all-clause-drives
returns-in_err-write_all-clause-drives g c course end is sent =
    let answer = err_from_is_err_and c.from_residual-in_err-write_all.result
    c.from_residual-in_err-write_all.ensures.1 in
    rw (answer.1, answer.2) (sent_last _ (g.M.Machine.held c.write_all.new.self)
    c.in_err-write_all.field-0.0 (c.loop.invariant.drives course end is sent)
    c.in_err-write_all.ensures.kept c.in_err-write_all.ensures.writes
    c.in_err-write_all.ensures.err)

pub returns-in_err-send-clause-drives : goal.returns-in_err-send-clause-drives
returns-in_err-send-clause-drives g c course end is sent =
    let answer = err_from_is_err_and c.from_residual-in_err-send.result
    c.from_residual-in_err-send.ensures.1 in
    let go = written_on (g.M.Machine.held c.write_all.new.self)
    (c.loop.invariant.drives course end is sent) c.in_ok-write_all.ensures.kept
    c.in_ok-write_all.ensures.writes in
    rw (answer.1, answer.2) (waiting_last (g.M.Machine.held c.send.new.self) go
    c.in_err-send.ensures.kept c.in_err-send.field-0.0
    c.in_err-send.ensures.sends)

pub loop-preserved-then-is_full : goal.loop-preserved-then-is_full
loop-preserved-then-is_full g c =
    record {
      failures = c.in_ok-write_all.ensures.failures ∙ c.loop.invariant.failures;
      room = c.loop.invariant.room;
      drives = λ course end is sent. waiting_on (g.M.Machine.held c.send.new.self)
          (written_on (g.M.Machine.held c.write_all.new.self)
          (c.loop.invariant.drives course end is sent) c.in_ok-write_all.ensures.kept
          c.in_ok-write_all.ensures.writes) c.in_ok-send.ensures.kept
          c.in_ok-send.ensures.sends;
    }

pub returns-then-count-eq0-clause-drives : goal.returns-then-count-eq0-clause-drives
returns-then-count-eq0-clause-drives g c course end is sent =
    let self = g.M.Machine.held c.write_all.new.self in
    let all = sent_on self (rw c.conn.ensures at c.waiting-is_full.ensures.count)
    c.if-is_full.false (c.loop.invariant.drives course end is sent)
    c.in_ok-write_all.ensures.kept c.in_ok-write_all.ensures.writes in
    read_ends _ self all (gives_none _ _ c.read.new.buffer c.in_ok-count.count
    c.if-count-eq0.true c.in_ok-count.ensures.gives.1) c.in_ok-count.ensures.takes_none

pub returns-then-count-eq0-clause-ended : goal.returns-then-count-eq0-clause-ended
returns-then-count-eq0-clause-ended g c =
    meets_end (g.L.Link.ended c.write_all.new.link) c.in_ok-count.ensures.ended
    c.if-count-eq0.true
    (c.deref_mut.ensures.len ∙ c.loop.input.ok.0 ∙ c.loop.invariant.room)

pub returns-in_err-count-clause-drives : goal.returns-in_err-count-clause-drives
returns-in_err-count-clause-drives g c course end is sent =
    let answer = err_from_is_err_and c.from_residual-in_err-count.result
    c.from_residual-in_err-count.ensures.1 in
    let self = g.M.Machine.held c.write_all.new.self in
    let go = written_on self (c.loop.invariant.drives course end is sent)
    c.in_ok-write_all.ensures.kept c.in_ok-write_all.ensures.writes in
    rw (answer.1, answer.2)
    (read_fails _ self go c.in_err-count.ensures.gives c.in_err-count.ensures.takes_none)

pub returns-in_err-is_whole-clause-drives : goal.returns-in_err-is_whole-clause-drives
returns-in_err-is_whole-clause-drives g c course end is sent =
    let answer = err_from_is_err_and c.from_residual-in_err-is_whole.result
    c.from_residual-in_err-is_whole.ensures.1 in
    let go = written_on (g.M.Machine.held c.write_all.new.self)
    (c.loop.invariant.drives course end is sent) c.in_ok-write_all.ensures.kept
    c.in_ok-write_all.ensures.writes in
    rw (answer.1, answer.2) (taken_last _ (g.M.Machine.held c.take_all.new.machine)
    (take c.in_ok-count.count c.deref.result.now) c.in_err-is_whole.field-0.0 (read_on _ go
    (gives_piece _ _ c.in_ok-count.count c.loop.input.len c.read.new.buffer
    (drop (length c.read.new.buffer) c.loop.input.items) c.deref.result.now
    c.deref.ensures.value (c.in_ok-count.ensures.length ∙ c.deref_mut.ensures.len)
    c.in_ok-count.ensures.gives.1) c.in_ok-count.ensures.takes_none)
    c.in_err-is_whole.ensures.takes)

pub returns-then-is_whole-clause-drives : goal.returns-then-is_whole-clause-drives
returns-then-is_whole-clause-drives g c course end is sent =
    let go = written_on (g.M.Machine.held c.write_all.new.self)
    (c.loop.invariant.drives course end is sent) c.in_ok-write_all.ensures.kept
    c.in_ok-write_all.ensures.writes in
    taken_whole _ (g.M.Machine.held c.take_all.new.machine)
    (take c.in_ok-count.count c.deref.result.now) c.if-is_whole.true (read_on _ go
    (gives_piece _ _ c.in_ok-count.count c.loop.input.len c.read.new.buffer
    (drop (length c.read.new.buffer) c.loop.input.items) c.deref.result.now c.deref.ensures.value
    (c.in_ok-count.ensures.length ∙ c.deref_mut.ensures.len) c.in_ok-count.ensures.gives.1)
    c.in_ok-count.ensures.takes_none) c.in_ok-is_whole.ensures.takes

pub returns-in_err-send-2-clause-drives : goal.returns-in_err-send-2-clause-drives
returns-in_err-send-2-clause-drives g c course end is sent =
    let answer = err_from_is_err_and c.from_residual-in_err-send-2.result
    c.from_residual-in_err-send-2.ensures.1 in
    let go = written_on (g.M.Machine.held c.write_all.new.self)
    (c.loop.invariant.drives course end is sent) c.in_ok-write_all.ensures.kept
    c.in_ok-write_all.ensures.writes in
    rw (answer.1, answer.2) (waiting_last (g.M.Machine.held c.send-in-loop.new.self)
    (taken_on c.if-is_whole.false (read_on _ go (gives_piece _ _ c.in_ok-count.count
    c.loop.input.len c.read.new.buffer (drop (length c.read.new.buffer) c.loop.input.items)
    c.deref.result.now c.deref.ensures.value (c.in_ok-count.ensures.length
    ∙ c.deref_mut.ensures.len) c.in_ok-count.ensures.gives.1) c.in_ok-count.ensures.takes_none)
    c.in_ok-is_whole.ensures.takes) c.in_err-send-2.ensures.kept
    c.in_err-send-2.field-0.0 c.in_err-send-2.ensures.sends)

pub returns-clause-drives : goal.returns-clause-drives
returns-clause-drives g c course end is sent =
    no_round _ (g.M.Machine.held c.loop.machine) (omega arith)
    (c.loop.invariant.drives course end is sent).going

pub loop-init : goal.loop-init
loop-init g c =
    record {
      failures = refl;
      room = c.in_ok-input.ensures.ok;
      drives = drives_first _ (g.M.Machine.held c.args.machine.now);
    }

pub loop-preserved : goal.loop-preserved
loop-preserved g c =
    record {
      failures = c.in_ok-is_whole.ensures.failures ∙ c.in_ok-count.ensures.failures
          ∙ c.in_ok-write_all.ensures.failures ∙ c.loop.invariant.failures;
      room = sym
          (length_refill c.loop.input.len c.loop.input.items c.read.new.buffer c.loop.input.ok.0)
          ∙ c.loop.input.ok.0 ∙ c.loop.invariant.room;
      drives = λ course end is sent.
          let go = written_on (g.M.Machine.held c.write_all.new.self)
          (c.loop.invariant.drives course end is sent) c.in_ok-write_all.ensures.kept
          c.in_ok-write_all.ensures.writes in
          waiting_on (g.M.Machine.held c.send-in-loop.new.self) (taken_on
          c.if-is_whole.false (read_on _ go (gives_piece _ _ c.in_ok-count.count c.loop.input.len
          c.read.new.buffer (drop (length c.read.new.buffer) c.loop.input.items)
          c.deref.result.now c.deref.ensures.value (c.in_ok-count.ensures.length
          ∙ c.deref_mut.ensures.len) c.in_ok-count.ensures.gives.1)
          c.in_ok-count.ensures.takes_none)
          c.in_ok-is_whole.ensures.takes) c.in_ok-send-2.ensures.kept
          c.in_ok-send-2.ensures.sends;
    }
