use Rattle.std.proofs.Common.{refl}
use Rattle.h2_server.specs.Exchanges.{exchange_kept}
use Rattle.h2_server.specs.Giving.{stage_given}
use Rattle.h2_server.proofs.KeptMaps.{found_kept, same_map, written_kept}
use Rattle.h2_server.proofs.StepsMade.{gave_handles, noted_handles}
use Rattle.h2_server.proofs.exchanges.Exchanges.give_next.Goals as goal

pub returns-in_default : goal.returns-in_default
returns-in_default g c =
    noted_handles c.args.server.now.end (record {
      handler = refl;
      kept = same_map c.args.self.now.kept _ c.get_mut.follows.holds-at-none;
    })

pub returns-in_err-given : goal.returns-in_err-given
returns-in_err-given g c =
    let one = c.in-Some.exchange.now in
    let next = record one { stage = c.replace-stage.new.dest } in
    gave_handles c.args.id (exchange_kept one) (stage_given c.give.result)
    c.replace-stage.new.dest
    (found_kept c.args.id c.args.self.now.kept.entries one c.in-Some.ensures.value)
    (rw c.replace-stage.ensures.value at c.give.ensures)
    (rw c.in_err-given.was c.replace-stage.ensures.after) refl
    (written_kept c.args.id c.args.self.now.kept _ one next c.in-Some.ensures.value
    (c.get_mut.follows.holds next))

pub returns : goal.returns
returns g c =
    let one = c.in-Some.exchange.now in
    let next = record one { stage = c.in_ok-given.given.stage } in
    gave_handles c.args.id (exchange_kept one) (stage_given c.give.result)
    c.in_ok-given.given.stage
    (found_kept c.args.id c.args.self.now.kept.entries one c.in-Some.ensures.value)
    (rw c.replace-stage.ensures.value at c.give.ensures) (rw c.in_ok-given.was refl) refl
    (written_kept c.args.id c.args.self.now.kept _ one next c.in-Some.ensures.value
    (c.get_mut.follows.holds next))
