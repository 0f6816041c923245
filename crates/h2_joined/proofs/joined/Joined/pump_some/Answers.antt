-- By the lemma on a pass.
use Rattle.h2_joined.proofs.Names.{refl, end_at}
use Rattle.h2_ends.specs.Represents.{EndPumpsSome}
use Rattle.h2_joined.proofs.KeptActs.{ChangesEnd, changes_end}
use Rattle.h2_joined.proofs.CodeCalls.{pump_some_acts}
use Rattle.h2_joined.proofs.joined.Joined.pump_some.Goals.{in-Client, in-Server}
use Rattle.h2_joined.proofs.joined.Joined.pump_some.Goals as goal

pub returns : goal.returns
returns c =
    let old = c.args.self.now in
    let new = c.match-side.self in
    let does : ChangesEnd c.args.side old new
    × EndPumpsSome (end_at c.args.side old) c.args.most c.match-side.counted
    (end_at c.args.side new) =
    elim c.match-side.branch [
      | in-Client w ↦ rw (w.in-Client.is, w.self-is, w.counted-is)
          (changes_end _ _ _ refl refl refl refl refl refl, w.pump_some.ensures)
      | in-Server w ↦ rw (w.in-Server.is, w.self-is, w.counted-is)
          (changes_end _ _ _ refl refl refl refl refl refl, w.pump_some-in-Server.ensures)
    ] in
    pump_some_acts c.args.side old new c.args.most c.match-side.counted c.counted.result
    c.counted.ensures
    does.0 does.1
