-- By the lemma on `release_all`.
use Rattle.h2_joined.proofs.Names.{refl, EndReleases, end_at}
use Rattle.h2_joined.proofs.KeptActs.{ChangesEnd, changes_end}
use Rattle.h2_joined.proofs.CodeCalls.{release_acts}
use Rattle.h2_joined.proofs.joined.Joined.release_all.Goals.{in-Client, in-Server}
use Rattle.h2_joined.proofs.joined.Joined.release_all.Goals as goal

pub returns : goal.returns
returns c =
    let old = c.args.self.now in
    let new = c.match-side.self in
    let does : ChangesEnd c.args.side old new
    × EndReleases (end_at c.args.side old) c.match-side.released (end_at c.args.side new) =
    elim c.match-side.branch [
      | in-Client w ↦ rw (w.in-Client.is, w.self-is, w.released-is)
          (changes_end _ _ _ refl refl refl refl refl refl, w.release_all.ensures)
      | in-Server w ↦ rw (w.in-Server.is, w.self-is, w.released-is)
          (changes_end _ _ _ refl refl refl refl refl refl, w.release_all-in-Server.ensures)
    ] in
    release_acts c.args.side old new c.match-side.released c.released.result c.released.ensures
    does.0 does.1
