-- By the lemmas on putting output out.
use Rattle.h2_conn.proofs.Names.{refl, Count, PutOut}
use Rattle.h2_conn.proofs.Names.{length, min, ◌∙◌, returns_before_put_out, end_view, end_of}
use Rattle.h2_conn.proofs.Names.{waiting_alike, IsTypedAct, may_lack_memory}
use Rattle.h2_conn.proofs.AskMemory.{returns_alike}
use Rattle.h2_conn.proofs.AskOutput.{put_out_answers, lacks_by, given_out, ok_as, consumed_by}
use Rattle.h2_conn.proofs.AskOutput.{same_by}
use Rattle.h2_conn.proofs.AskSound.{put_out_kept}
use Rattle.h2_conn.proofs.WhyCalls.{represented, plain}
use Rattle.h2_conn.proofs.conn.Conn.put_out.Goals as goal

pub invariant_of-self : goal.invariant_of-self
unfolding IsTypedAct
invariant_of-self c =
    assumption (put_out_kept c.put_out.result _ _ c.args.count _ c.ranges.count.fits
    c.args.self.now.sound c.args.self.now.cuts
    (consumed_by c.put_out.result _ _ _ _ _ c.put_out.ensures.ok)
    (same_by c.put_out.result _ _ _ c.put_out.ensures.err))

pub returns-clause-answers : goal.returns-clause-answers
unfolding IsTypedAct may_lack_memory
returns-clause-answers c =
    let e = end_of c.args.self.now.end in
    represented (plain (PutOut c.args.count) Count c.put_out.result (λ given. refl))
    c.ranges.count.fits
    (put_out_answers c.put_out.result _ _ _ _ c.ranges.count.fits
    (lacks_by c.put_out.result (returns_before_put_out (end_view e))
    (min c.args.count (length e.output.waiting)) c.put_out.ensures.nothing)
    (consumed_by c.put_out.result _ _ _ _ _ c.put_out.ensures.ok)
    (same_by c.put_out.result _ _ _ c.put_out.ensures.err))

pub returns-clause-ok : goal.returns-clause-ok
returns-clause-ok c =
    ok_as _ _ c.put_out.result (λ given puts values log parts. given_out values _ _ log _ given _ _
    parts.machine puts) c.put_out.ensures.ok

pub returns-clause-room : goal.returns-clause-room
returns-clause-room c = λ values log parts none enough.
    let e = end_of c.args.self.now.end in
    c.put_out.ensures.room (returns_alike values e log parts.machine ∙ none)
    (rw (waiting_alike values e log parts.machine) enough)
