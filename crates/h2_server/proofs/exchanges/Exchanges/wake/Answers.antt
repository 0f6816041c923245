use Rattle.std.proofs.Common.{refl}
use Rattle.h2_server.specs.Exchanges.{awake, exchange_kept}
use Rattle.h2_server.proofs.Asked.{changed_at, changed_none}
use Rattle.h2_server.proofs.KeptMaps.{found_kept, none_kept, same_map, written_awake}
use Rattle.h2_server.proofs.StepsMade.{noted_handles, woke_handles}
use Rattle.h2_server.proofs.exchanges.Exchanges.wake.Goals as goal

pub returns-in-Some : goal.returns-in-Some
returns-in-Some g c =
    let one = c.in-Some.exchange.now in
    let next = c.wake.new.self in
    let found = found_kept c.args.id c.args.self.now.kept.entries one c.in-Some.ensures.value in
    let set = written_awake c.args.id c.args.self.now.kept _ one next c.in-Some.ensures.value
    (c.get_mut.follows.holds next) c.wake.ensures in record {
      handles = λ end. woke_handles end c.args.id (exchange_kept one) found set refl;
      at = changed_at awake c.args.id _ _ (exchange_kept one) found set.at;
      others = set.others;
    }

pub returns-in_default : goal.returns-in_default
returns-in_default g c =
    let same = same_map c.args.self.now.kept _ c.get_mut.follows.holds-at-none in record {
      handles = λ end. noted_handles end (record { handler = refl; kept = same });
      at = changed_none awake c.args.id _ _
          (none_kept c.args.id c.args.self.now.kept.entries c.in_default.ensures.value)
          (same c.args.id);
      others = λ i other. same i;
    }
