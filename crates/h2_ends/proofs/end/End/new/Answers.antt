use Rattle.h2_ends.proofs.Names.{refl}
use Rattle.h2_flow.specs.ConfigValues.{values_of}
use Rattle.h2_ends.proofs.ControlStart.{starts}
use Rattle.h2_ends.proofs.end.End.new.Goals.{in-Client+in_ok-conn-in-Client}
use Rattle.h2_ends.proofs.end.End.new.Goals.{in-Server+in_ok-conn-in-Server}
use Rattle.h2_ends.proofs.end.End.new.Goals as goal

pub returns-clause-ok : goal.returns-clause-ok
returns-clause-ok c =
    elim c.match-role.branch [
      | in-Client+in_ok-conn-in-Client w ↦
          let is = w.in_ok-conn-in-Client.ensures.ok in
          starts c.args.role (values_of c.args.config) _ (rw (w.conn-is, w.in-Client.is) is) refl
          c.new.ensures.empty refl refl
      | in-Server+in_ok-conn-in-Server w ↦
          let is = w.in_ok-conn-in-Server.ensures.ok in
          starts c.args.role (values_of c.args.config) _ (rw (w.conn-is, w.in-Server.is) is) refl
          c.new.ensures.empty refl refl
    ]
