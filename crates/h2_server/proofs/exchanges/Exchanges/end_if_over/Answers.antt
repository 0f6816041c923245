use Rattle.std.proofs.Common.{◌∙◌, refl, sym, true}
use Rattle.h2_server.specs.Exchanges.{handling_of}
use Rattle.h2_server.specs.declared.handler.Cause.TheVariants.{Done, Reset}
use Rattle.h2_server.specs.declared.exchange.Stage.TheVariants.{Given, Gone}
use Rattle.h2_server.proofs.KeptMaps.{stage_found}
use Rattle.h2_server.proofs.StepsMade.{ended_handles, nothing_handles}
use Rattle.h2_server.proofs.exchanges.Exchanges.end_if_over.Goals as goal

pub returns-in_default : goal.returns-in_default
returns-in_default g c =
    nothing_handles c.args.server.now.end (handling_of c.args.self.now)

pub returns-in-Given : goal.returns-in-Given
returns-in-Given g c =
    ended_handles c.args.server.now.end c.args.id Done Given c.end.ensures
    (λ kept was. stage_found c.args.id c.args.self.now.kept.entries
    c.in-Some.exchange.now c.in-Some.ensures.value kept was ∙ c.in-Given.is)
    (λ values end is. (
      refl,
      sym (c.if-not-is_active.ensures values end.log (rw (← c.conn.ensures) at is.streams.conn)),
    ))

pub returns-else-not-is_active : goal.returns-else-not-is_active
returns-else-not-is_active g c =
    nothing_handles c.args.server.now.end (handling_of c.args.self.now)

pub returns-in-Gone : goal.returns-in-Gone
returns-in-Gone g c =
    ended_handles c.args.server.now.end c.args.id (Reset c.in-Gone.code true)
    (Gone c.in-Gone.code) c.end-in-Gone.ensures
    (λ kept was. stage_found c.args.id c.args.self.now.kept.entries
    c.in-Some.exchange.now c.in-Some.ensures.value kept was ∙ c.in-Gone.is)
    (λ values end is. (refl, refl))

pub returns-in-Some : goal.returns-in-Some
returns-in-Some g c =
    nothing_handles c.args.server.now.end (handling_of c.args.self.now)
