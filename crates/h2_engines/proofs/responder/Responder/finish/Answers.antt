-- By the lemmas on what is left at the end of the input.
use Rattle.h2_engines.proofs.Names.{sym, ◌∙◌}
use Rattle.h2_engines.proofs.ResponderFinishes.{finishes_at_rest, finishes_held, finishes_active}
use Rattle.h2_engines.proofs.responder.Responder.finish.Goals.{then-held-gt0-via-then-held-gt0}
use Rattle.h2_engines.proofs.responder.Responder.finish.Goals as goal
use Rattle.h2_engines.proofs.responder.Responder.finish.Goals.{
  then-held-gt0-via-else-held-gt0+then-is_some,
}

pub returns-then-held-gt0-clause-finishes : goal.returns-then-held-gt0-clause-finishes
returns-then-held-gt0-clause-finishes c values end is =
    elim c.then-held-gt0.branch [
      | then-held-gt0-via-then-held-gt0 w ↦
          let reads = rw c.conn-conn.ensures at c.held.ensures.value in
          finishes_held end c.args.self.now.answered (reads values end.log is.streams.conn)
          w.if-held-gt0.true
      | then-held-gt0-via-else-held-gt0+then-is_some w ↦
          let reads = rw c.conn-conn.ensures at w.next_live.ensures.number in
          finishes_active end c.args.self.now.answered (reads values end.log is.streams.conn)
          (sym w.is_some.ensures ∙ w.if-is_some.true)
    ]

pub returns-clause-finishes : goal.returns-clause-finishes
returns-clause-finishes c values end is =
    let holds = rw c.conn-conn.ensures at c.held.ensures.value in
    let reads = rw c.conn-conn.ensures at c.next_live.ensures.number in
    finishes_at_rest end c.args.self.now.answered (holds values end.log is.streams.conn)
    (reads values end.log is.streams.conn) c.if-held-gt0.false
    (sym c.is_some.ensures ∙ c.if-is_some.false)
