use Rattle.std.proofs.Common.{refl}
use Rattle.h2_frame.specs.declared.code.Code.TheVariants.{NoError}
use Rattle.h2_server.specs.Exchanges.{exchange_kept}
use Rattle.h2_server.specs.declared.exchange.Stage.TheVariants.{Resets}
use Rattle.h2_server.proofs.KeptMaps.{found_kept, same_map, written_kept}
use Rattle.h2_server.proofs.StepsMade.{noted_handles, stops_handles}
use Rattle.h2_server.proofs.exchanges.Exchanges.ask_to_stop.Goals as goal

pub returns-in-Some : goal.returns-in-Some
returns-in-Some g c =
    let one = c.in-Some.exchange.now in
    let next = record one { stage = Resets NoError } in
    let found = found_kept c.args.id c.args.self.now.kept.entries one
    c.in-Some.ensures.value in
    stops_handles c.args.server.now.end c.args.id (exchange_kept one) found
    (λ values end is. c.requires values end is (exchange_kept one) found)
    (written_kept c.args.id c.args.self.now.kept _ one next c.in-Some.ensures.value
    (c.get_mut.follows.holds next)) refl

pub returns-in_default : goal.returns-in_default
returns-in_default g c =
    noted_handles c.args.server.now.end (record {
      handler = refl;
      kept = same_map c.args.self.now.kept _ c.get_mut.follows.holds-at-none;
    })
