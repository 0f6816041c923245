-- By the lemma on a pump.
use Rattle.h2_joined.proofs.Names.{refl, EndPumps, end_at}
use Rattle.h2_joined.proofs.KeptActs.{ChangesEnd, changes_end}
use Rattle.h2_joined.proofs.CodeCalls.{pump_acts}
use Rattle.h2_joined.proofs.joined.Joined.pump.Goals.{in-Client, in-Server}
use Rattle.h2_joined.proofs.joined.Joined.pump.Goals as goal

pub returns : goal.returns
returns c =
    let old = c.args.self.now in
    let new = c.match-side.self in
    let does : ChangesEnd c.args.side old new
    × EndPumps (end_at c.args.side old) c.match-side.counted (end_at c.args.side new) =
    elim c.match-side.branch [
      | in-Client w ↦ rw (w.in-Client.is, w.self-is, w.counted-is)
          (changes_end _ _ _ refl refl refl refl refl refl, w.pump.ensures)
      | in-Server w ↦ rw (w.in-Server.is, w.self-is, w.counted-is)
          (changes_end _ _ _ refl refl refl refl refl refl, w.pump-in-Server.ensures)
    ] in
    pump_acts c.args.side old new c.match-side.counted c.counted.result c.counted.ensures
    does.0 does.1
