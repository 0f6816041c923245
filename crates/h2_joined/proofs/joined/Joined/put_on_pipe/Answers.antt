-- By the lemma on octets that are put on a pipe.
use Rattle.h2_joined.proofs.Names.{refl, arith}
use Rattle.h2_joined.proofs.CodeMoves.{MovesAt, moves_acts}
use Rattle.h2_joined.proofs.joined.Joined.put_on_pipe.Goals.{in-Client, in-Server}
use Rattle.h2_joined.proofs.joined.Joined.put_on_pipe.Goals as goal

pub returns : goal.returns
returns c =
    let old = c.args.self.now in
    let new = c.match-from.self in
    let does : MovesAt c.args.from old c.args.count c.match-from.moved new =
    elim c.match-from.branch [
      | in-Client w ↦ rw (w.in-Client.is, w.self-is, w.moved-is)
          (record {
            answers = w.put_out.ensures.answers;
            other_end = refl;
            kept = refl;
            accepted = refl;
            handed = refl;
            used = refl;
            unfinished = refl;
            gives = w.put_out.ensures.ok;
            gives_none = w.put_out.ensures.err;
          })
      | in-Server w ↦ rw (w.in-Server.is, w.self-is, w.moved-is)
          (record {
            answers = w.put_out-in-Server.ensures.answers;
            other_end = refl;
            kept = refl;
            accepted = refl;
            handed = refl;
            used = refl;
            unfinished = refl;
            gives = w.put_out-in-Server.ensures.ok;
            gives_none = w.put_out-in-Server.ensures.err;
          })
    ] in
    moves_acts c.args.from old new c.args.count c.match-from.moved c.moved.result
    c.moved.ensures (omega arith) does
