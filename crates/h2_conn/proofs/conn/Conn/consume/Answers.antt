-- By the lemmas on putting output out.
use Rattle.h2_conn.proofs.Names.{refl, Count, PutOut}
use Rattle.h2_conn.proofs.Names.{length, min, ◌∙◌, end_view, end_of, returns_before_put_out}
use Rattle.h2_conn.proofs.Names.{IsTypedAct, may_lack_memory}
use Rattle.h2_conn.proofs.AskMemory.{returns_alike}
use Rattle.h2_conn.proofs.AskOutput.{put_out_answers, lacks_by}
use Rattle.h2_conn.proofs.AskSound.{put_out_kept}
use Rattle.h2_conn.proofs.WhyCalls.{represented, plain}
use Rattle.h2_conn.proofs.conn.Conn.consume.Goals as goal

pub invariant_of-self : goal.invariant_of-self
unfolding IsTypedAct
invariant_of-self c =
    assumption (put_out_kept c.consume.result _ _ c.args.count _ c.ranges.count.fits
    c.args.self.now.sound c.args.self.now.cuts
    c.consume.ensures.ok c.consume.ensures.err)

pub returns-clause-answers : goal.returns-clause-answers
unfolding IsTypedAct may_lack_memory
returns-clause-answers c =
    let e = end_of c.args.self.now.end in
    represented (plain (PutOut c.args.count) Count c.consume.result (λ given. refl))
    c.ranges.count.fits
    (put_out_answers c.consume.result _ _ _ _ c.ranges.count.fits
    (lacks_by c.consume.result (returns_before_put_out (end_view e))
    (min c.args.count (length e.output.waiting)) (λ none few. c.consume.ensures.nothing none))
    c.consume.ensures.ok c.consume.ensures.err)

pub returns-clause-room : goal.returns-clause-room
returns-clause-room c = λ values log parts none.
    c.consume.ensures.nothing
    (returns_alike values (end_of c.args.self.now.end) log parts.machine ∙ none)
