-- What was lent of the map is written back as sending left it.
use Rattle.h2_ends.proofs.Names.{ℕ, sym, err_from_is_err_and, with_outgoing}
use Rattle.h2_ends.proofs.SendingStreams.{unwritten, none_goes, all_goes, not_idle, all_as}
use Rattle.h2_ends.proofs.SendingStreams.{some_goes, full_there, memory_lacks, other_here}
use Rattle.h2_ends.specs.declared.outgoing.Outgoing.TheVariants as outgoings
use Rattle.h2_ends.proofs.end.End.pump_stream.Goals as goal

pub returns-in_default-outgoing : goal.returns-in_default-outgoing
returns-in_default-outgoing c =
    let old = c.args.self.now in
    let one = c.in-Some.stream.now in
    let streams = c.get_mut.follows.lender one in
    let here = sym c.in-Some.ensures.value in
    let same = λ (i : ℕ). unwritten old.streams streams c.args.id one i here
    (c.get_mut.follows.holds one) in
    record {
      waits = all_as old old.conn streams c.args.id same;
      pumps = none_goes old c.args.id c.args.count.now streams same
          (other_here old c.args.id one here c.in_default-outgoing.not-Waiting);
    }

pub returns-in_err-send-clause-pumps : goal.returns-in_err-send-clause-pumps
returns-in_err-send-clause-pumps c =
    let next = with_outgoing c.in-Some.stream.now (outgoings.Waiting c.send.new.waiting) in
    let answer = err_from_is_err_and c.from_residual.result c.from_residual.ensures.1 in
    rw (answer.1, answer.2) (memory_lacks c.args.self.now c.args.id c.args.count.now
    c.in-Some.stream.now c.in-Waiting.waiting (sym c.in-Some.ensures.value) c.in-Waiting.is
    c.send.new.conn c.send.new.waiting c.send.new.count (c.get_mut.follows.lender next)
    (c.get_mut.follows.holds next) c.in_err-send.field-0.0 c.in_err-send.ensures)

pub returns-in-Sent-clause-pumps : goal.returns-in-Sent-clause-pumps
returns-in-Sent-clause-pumps c =
    let next = with_outgoing c.in-Some.stream.now outgoings.Sent in
    all_goes c.args.self.now c.args.id c.args.count.now c.in-Some.stream.now c.in-Waiting.waiting
    (sym c.in-Some.ensures.value) c.in-Waiting.is c.send.new.conn c.send.new.waiting
    c.send.new.count (c.get_mut.follows.lender next) c.in_ok-send.field-0 c.in-Sent.is
    c.in_ok-send.ensures (c.get_mut.follows.holds next)

pub returns-in-Idle-clause-pumps : goal.returns-in-Idle-clause-pumps
returns-in-Idle-clause-pumps c =
    let next = with_outgoing c.in-Some.stream.now (outgoings.Waiting c.send.new.waiting) in
    not_idle c.args.self.now c.args.id c.args.count.now c.in-Some.stream.now c.in-Waiting.waiting
    (sym c.in-Some.ensures.value) c.in-Waiting.is c.send.new.conn c.send.new.waiting
    c.send.new.count (c.get_mut.follows.lender next) c.in_ok-send.field-0 c.in-Idle.is
    c.in_ok-send.ensures

pub returns-in-Stuck-clause-pumps : goal.returns-in-Stuck-clause-pumps
returns-in-Stuck-clause-pumps c =
    let next = with_outgoing c.in-Some.stream.now (outgoings.Waiting c.send.new.waiting) in
    some_goes c.args.self.now c.args.id c.args.count.now c.in-Some.stream.now c.in-Waiting.waiting
    (sym c.in-Some.ensures.value) c.in-Waiting.is c.send.new.conn c.send.new.waiting
    c.send.new.count (c.get_mut.follows.lender next) (c.get_mut.follows.holds next)
    c.in_ok-send.field-0 c.in-Stuck.is c.in_ok-send.ensures

pub returns-in-Full-clause-pumps : goal.returns-in-Full-clause-pumps
returns-in-Full-clause-pumps c =
    let next = with_outgoing c.in-Some.stream.now (outgoings.Waiting c.send.new.waiting) in
    full_there c.args.self.now c.args.id c.args.count.now c.in-Some.stream.now c.in-Waiting.waiting
    (sym c.in-Some.ensures.value) c.in-Waiting.is c.send.new.conn c.send.new.waiting
    c.send.new.count (c.get_mut.follows.lender next) (c.get_mut.follows.holds next)
    c.in_ok-send.field-0 c.in-Full.is c.in_ok-send.ensures
