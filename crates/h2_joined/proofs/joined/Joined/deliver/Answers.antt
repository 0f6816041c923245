-- By the lemmas on octets that are delivered.
use Rattle.h2_joined.proofs.Names.{length, drop, Option, sym, ap, subst, Code, Acted, Delivers}
use Rattle.h2_joined.proofs.Names.{MakesAct, HoldsOctets, made, PutsPipe, ◌≡◌, ℕ, Bool, List}
use Rattle.h2_joined.proofs.CodeDelivers.{used_by, answered_by, unfinished_by, HasFailed}
use Rattle.h2_joined.proofs.CodeDelivers.{delivers_acts, none_delivered}
use Rattle.h2_joined.proofs.joined.Joined.deliver.Goals.{in-Client, in-Server, in-Whole, in-Failed}
use Rattle.h2_joined.proofs.joined.Joined.deliver.Goals.{in-Stopped}
use Rattle.h2_joined.proofs.joined.Joined.deliver.Goals as goal

pub returns-in-Some : goal.returns-in-Some
returns-in-Some c =
    let failed : HasFailed c.args.to c.args.self.now c.match-to.failed =
    elim c.match-to.branch [
      | in-Client w ↦ rw (w.in-Client.is, w.failed-is, ← w.conn.ensures) w.failed-failed.ensures
      | in-Server w ↦ rw (w.in-Server.is, w.failed-is, ← w.conn-in-Server.ensures)
          w.failed-failed-in-Server.ensures
    ] in
    none_delivered c.args.to c.args.self.now c.args.count c.in-Some.code
    (subst (λ (f : Option Code). HasFailed c.args.to c.args.self.now f) c.in-Some.is failed)

pub returns : goal.returns
returns c =
    let old = c.args.self.now in
    let of = c.take_all.result in
    let octets = c.first-octets.result.now in
    let failed : HasFailed c.args.to old c.match-to.failed =
    elim c.match-to.branch [
      | in-Client w ↦ rw (w.in-Client.is, w.failed-is, ← w.conn.ensures) w.failed-failed.ensures
      | in-Server w ↦ rw (w.in-Server.is, w.failed-is, ← w.conn-in-Server.ensures)
          w.failed-failed-in-Server.ensures
    ] in
    let up = subst (λ (f : Option Code). HasFailed c.args.to old f) c.in_default.is failed in
    let is : c.match-take_all.used
    ≡ (used_by of (length octets), answered_by of (length octets), unfinished_by of) =
    elim c.match-take_all.branch [
      | in-Whole w ↦ rw w.in-Whole.is w.used-is
      | in-Failed w ↦ rw w.in-Failed.is w.used-is
      | in-Stopped w ↦ rw w.in-Stopped.is w.used-is
    ] in
    subst (λ (a : Acted). MakesAct old (made c.args.to (Delivers c.args.count) a)
    c.put_pipe.new.self)
    (sym (ap (λ (p : ℕ × Acted × Bool). p.1) is))
    (delivers_acts c.args.to old c.put_pipe.new.self c.args.count octets of
    (record {
      pipe = c.take_pipe-pipe.result;
      left = c.deliver.new.self;
      before = c.take_pipe-pipe.new.self;
      after = c.take_all.new.self;
      up = up;
      out = c.take_pipe-pipe.ensures;
      first = c.first-octets.ensures;
      takes = c.take_all.ensures;
      rest = subst (λ (n : ℕ). (all : List ℕ) → HoldsOctets c.take_pipe-pipe.result all
          → HoldsOctets c.deliver.new.self (drop n all)) (ap (λ (p : ℕ × Acted × Bool). p.0) is)
          c.deliver.ensures.holds;
      back = subst (λ (b : Bool). PutsPipe c.args.to c.take_all.new.self c.deliver.new.self b
          c.put_pipe.new.self) (ap (λ (p : ℕ × Acted × Bool). p.2) is) c.put_pipe.ensures;
    }))
