-- By the lemma on a call of the connection.
use Rattle.h2_joined.proofs.Names.{refl, rules, Done, answer_by, EndAnswers, end_at}
use Rattle.h2_joined.proofs.Names.{IsTypedAct}
use Rattle.h2_spec_log.specs.Acts.{Widen}
use Rattle.h2_joined.proofs.KeptActs.{ChangesEnd, changes_end}
use Rattle.h2_joined.proofs.CodeCalls.{call_acts}
use Rattle.h2_joined.proofs.joined.Joined.widen.Goals.{in-Client, in-Server}
use Rattle.h2_joined.proofs.joined.Joined.widen.Goals as goal

pub returns : goal.returns
unfolding IsTypedAct
returns c =
    let old = c.args.self.now in
    let new = c.match-side.self in
    let act = Widen c.args.count in
    let does : ChangesEnd c.args.side old new
    × EndAnswers (end_at c.args.side old) act (answer_by (λ done. Done) c.match-side.done)
    (end_at c.args.side new) =
    elim c.match-side.branch [
      | in-Client w ↦ rw (w.in-Client.is, w.self-is, w.done-is)
          (changes_end _ _ _ refl refl refl refl refl refl, w.widen.ensures)
      | in-Server w ↦ rw (w.in-Server.is, w.self-is, w.done-is)
          (changes_end _ _ _ refl refl refl refl refl refl, w.widen-in-Server.ensures)
    ] in
    call_acts c.args.side old new act _ c.done.result c.done.ensures tt (search rules)
    does.0 does.1
