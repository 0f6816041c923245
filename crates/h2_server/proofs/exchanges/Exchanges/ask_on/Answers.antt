use Rattle.std.proofs.Common.{refl, ◌∙◌}
use Rattle.h2_server.specs.Exchanges.{handling_of, exchange_kept}
use Rattle.h2_server.proofs.KeptMaps.{found_kept, none_kept, same_map, written_kept}
use Rattle.h2_server.proofs.StepsMade.{asked_handles, unasked_handles, unasked_same}
use Rattle.h2_server.proofs.exchanges.Exchanges.ask_on.Goals as goal

pub returns-in-Some-clause-handles : goal.returns-in-Some-clause-handles
returns-in-Some-clause-handles g c =
    let one = c.in-Some.exchange.now in
    let next = record one { stage = c.send_part-result.result.given.stage } in
    asked_handles (handling_of c.part-part.new.self) c.args.id c.part-part.new.room
    c.part-part.result c.send_part-result.result.given.stage (exchange_kept one)
    (rw c.part-part.ensures.length c.requires) c.part-part.ensures.asks
    c.send_part-result.ensures
    (found_kept c.args.id c.part-part.new.self.kept.entries one c.in-Some.ensures.value) refl
    (written_kept c.args.id c.part-part.new.self.kept _ one next c.in-Some.ensures.value
    (c.get_mut.follows.holds next))

pub returns-in_default-clause-handles : goal.returns-in_default-clause-handles
returns-in_default-clause-handles g c =
    let never = unasked_same g.H.Handler (handling_of c.part-part.new.self) c.args.id
    c.part-part.new.room
    c.part-part.result c.part-part.ensures.asks
    (none_kept c.args.id c.part-part.new.self.kept.entries c.in_default.ensures.value) in
    unasked_handles c.args.id c.part-part.new.room c.send_part-result.result.given.stage
    (rw (c.part-part.ensures.none never.0) at c.send_part-result.ensures) (record {
      handler = never.1.handler;
      kept = λ i. same_map c.part-part.new.self.kept _ c.get_mut.follows.holds-at-none i
          ∙ never.1.kept i;
    })
