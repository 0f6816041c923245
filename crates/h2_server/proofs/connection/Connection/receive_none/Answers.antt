use Rattle.std.proofs.Common.{[], ap, false, inl, refl, true}
use Rattle.h2_server.specs.declared.exchanges.Exchanges.{Exchanges}
use Rattle.h2_server.specs.Exchanges.{handling_of}
use Rattle.h2_server.proofs.ConnectionSteps.{own_handles, own_makes}
use Rattle.h2_server.proofs.FailingPhase.{same_failing}
use Rattle.h2_server.proofs.StepsMade.{nothing_handles}
use Rattle.h2_server.proofs.connection.Connection.receive_none.Goals as goal

pub returns-clause-calls : goal.returns-clause-calls
returns-clause-calls g c = record {
  mid = record c.args.self.now {
    readiness = record c.args.self.now.readiness { reads = false };
    exchanges = record c.args.self.now.exchanges { more = true };
  };
  gone = [];
  makes = own_makes _ _
      (own_handles _ _
      (nothing_handles c.args.self.now.server.end (handling_of c.args.self.now.exchanges))
      (inl refl) (same_failing _ _ (λ down. refl) refl));
  gives = refl;
  over = λ is. refl;
  made = λ is. refl;
  refused = λ is. tt;
  idle = tt;
  late = tt;
  stopped = tt;
  asks = tt;
  sends = refl;
  readiness = refl;
  watch = refl;
  notes = c.note.ensures.makes;
  noted = c.note.ensures.phase;
  code = c.note.ensures.code;
  up = c.note.ensures.server_up;
  told = c.note.ensures.told;
  same = c.note.ensures.readiness;
  watched = c.note.ensures.watch;
  counted = c.note.ensures.counted;
}

pub returns-clause-turn : goal.returns-clause-turn
returns-clause-turn g c =
    λ up. ap (λ (e : Exchanges _ _). e.more) (c.note.ensures.up up).1.0
