-- By the lemma on calls.
use Rattle.h2_replay.proofs.Names.{refl, ◌∙◌, ap, ◌++◌, List, ℕ, drop}
use Rattle.h2_replay.proofs.RecordLemmas.{call_records}
use Rattle.h2_replay.proofs.run.keep_call.Goals as goal

pub returns : goal.returns
returns c role values acts before =
    let given = c.make_call-answer.new.out.items in
    let waited = c.waiting-waited.result in
    call_records role values acts c.args.act c.make_call-answer.result c.args.turns.now.items
    c.push.new.self.items c.push-2.new.self.items c.push-3.new.self.items c.args.conn.now
    c.make_call-answer.new.conn _ _ _ waited given c.in_ok-joined.joined.items c.requires
    c.make_call-answer.ensures.typed refl refl refl c.in_ok-push.ensures.items
    c.in_ok-push-2.ensures.items c.in_ok-push-3.ensures.items c.waiting-waited.ensures.count
    (λ values log represents. c.in_ok-joined.ensures values log represents
    ∙ ap (λ (o : List ℕ). drop waited (o ++ drop log.given log.written)) c.deref.ensures.value)
    c.make_call-answer.ensures.makes before
