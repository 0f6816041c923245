-- By what is kept of the stream, and by the windows.
use Rattle.h2_ends.proofs.Names.{arith}
use Rattle.h2_ends.proofs.QuietSends.{sends_trailers, sends_octets, stuck_by_all, stuck_by_one}
use Rattle.h2_ends.proofs.QuietSends.{stuck_without}
use Rattle.h2_ends.proofs.end.End.could_send_on.Goals as goal

pub returns-in_default-outgoing : goal.returns-in_default-outgoing
returns-in_default-outgoing c = record {
  some = λ values end is alive no. cc;
  none = λ values end is up no.
      stuck_without c.args.self.now c.args.id c.in-Some.stream.now c.in-Some.ensures.value
      c.in_default-outgoing.not-Waiting values end is;
}

pub returns-then-waiting-len-clause-some : goal.returns-then-waiting-len-clause-some
returns-then-waiting-len-clause-some c = λ values end is alive yes.
    sends_trailers c.args.self.now c.args.id c.in-Some.stream.now c.in-Some.ensures.value
    c.in-Waiting.waiting c.in-Waiting.is values end is (omega (arith, c.if-waiting-len.true))
    alive

pub returns-then-has_room-clause-some : goal.returns-then-has_room-clause-some
returns-then-has_room-clause-some c = λ values end is alive yes.
    sends_octets c.args.self.now c.args.id c.in-Some.stream.now c.in-Some.ensures.value
    c.in-Waiting.waiting c.in-Waiting.is values end is (omega (arith, c.if-waiting-len.false))
    c.has_room.result c.has_room-then-has_room.result c.has_room.ensures
    c.has_room-then-has_room.ensures c.if-has_room.true yes alive

pub returns-then-has_room-clause-none : goal.returns-then-has_room-clause-none
returns-then-has_room-clause-none c = λ values end is up no.
    stuck_by_one c.args.self.now c.args.id c.in-Some.stream.now c.in-Some.ensures.value
    c.in-Waiting.waiting c.in-Waiting.is values end is (omega (arith, c.if-waiting-len.false))
    c.has_room-then-has_room.result c.has_room-then-has_room.ensures no up

pub returns-else-has_room-clause-none : goal.returns-else-has_room-clause-none
returns-else-has_room-clause-none c = λ values end is up no.
    stuck_by_all c.args.self.now c.args.id c.in-Some.stream.now c.in-Some.ensures.value
    c.in-Waiting.waiting c.in-Waiting.is values end is (omega (arith, c.if-waiting-len.false))
    c.has_room.result c.has_room.ensures no up
