-- The octets are one piece.
use Rattle.h2_messages.proofs.InputLemmas.{octets_told, piece_told, piece_fails_told}
use Rattle.h2_messages.proofs.messages.hand_all.Goals as goal
use Rattle.h2_messages.proofs.messages.hand_all.Goals.{in-Ok, in-Err-Fault}

pub returns-clause-prints : goal.returns-clause-prints
returns-clause-prints g c =
    octets_told c.args.role c.args.octets.now c.match-take_piece.ended.fault
    c.match-take_piece.ended.why _ _ _ c.finish.result
    (elim c.match-take_piece.branch [
      | in-Ok w ↦
          rw w.ended-is (
          piece_told c.args.role c.args.end.now c.take_piece.new.end c.args.octets.now _ _
          c.requires w.in-Ok.ensures.ok
          )
      | in-Err-Fault w ↦
          let (fails, theirs) = rw w.in-Err-Fault.field-0-is at w.in-Err-Fault.ensures.err in
          rw w.ended-is (
          piece_fails_told c.args.role c.args.end.now c.take_piece.new.end c.args.octets.now
          w.in-Err-Fault.code w.why.result _ _ c.requires fails theirs w.why.ensures
          )
    ]) c.finish.ensures.status c.finish.ensures.why c.finish.ensures.written
