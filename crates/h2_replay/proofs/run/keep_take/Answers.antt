-- By the lemma on octets that are taken.
use Rattle.h2_replay.proofs.Names.{refl, subst, List, ℕ, [], ReplayTakesOctets}
use Rattle.h2_replay.specs.declared.turns.Turn.{Turn}
use Rattle.h2_replay.proofs.RecordLemmas.{take_records}
use Rattle.h2_replay.proofs.run.keep_take.Goals as goal

pub returns : goal.returns
returns c role values acts before =
    let conn = c.args.conn.now in
    let answer = c.in_ok-answer.answer in
    let news = c.take_all.new.turns.items in
    let octets = c.args.octets.items in
    let first : ReplayTakesOctets conn octets c.new-news.result.items answer news
    c.take_all.new.conn =
    subst (λ (o : List ℕ). ReplayTakesOctets conn o c.new-news.result.items answer news
    c.take_all.new.conn) c.deref.ensures.value c.in_ok-answer.ensures in
    let made : ReplayTakesOctets conn octets [] answer news c.take_all.new.conn =
    subst (λ (t : List Turn). ReplayTakesOctets conn octets t answer news c.take_all.new.conn)
    c.new-news.ensures.items first in
    take_records role values acts octets answer c.args.turns.now.items c.push.new.self.items
    c.append.new.self.items c.push-2.new.self.items news conn c.take_all.new.conn _ _ refl refl
    c.in_ok-push.ensures.items c.in_ok-append.ensures.items c.in_ok-push-2.ensures.items made
    before
