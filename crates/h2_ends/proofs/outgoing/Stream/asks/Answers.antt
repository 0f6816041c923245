-- What is kept of the stream says which refusal comes first.
use Rattle.h2_ends.proofs.Names.{sym, ◌∙◌, both_ways, ◌≡◌}
use Rattle.h2_ends.proofs.RequestSends.{is_client}
use Rattle.h2_ends.proofs.RespondHeads.{client_asked, asked_here, accepted_by, not_accepted}
use Rattle.h2_ends.proofs.RespondHeads.{asks_alike}
use Rattle.h2_ends.proofs.outgoing.Stream.asks.Goals.{in-NotGiven, in_default}
use Rattle.h2_ends.specs.declared.outgoing.Outgoing.TheVariants as outgoings
use Rattle.h2_ends.proofs.outgoing.Stream.asks.Goals as goal

pub returns-then-eq : goal.returns-then-eq
returns-then-eq c = λ values now end id is role was.
    client_asked end id (sym is.streams.role ∙ role
    ∙ is_client c.args.role (sym c.eq.ensures ∙ c.if-eq.true))

pub returns-then-not-matches : goal.returns-then-not-matches
returns-then-not-matches c = λ values now end id is role was.
    let stream = c.args.self.now in
    let asked = asked_here values now end id stream was is
    (rw role (sym c.eq.ensures ∙ c.if-eq.false)) in (
      asked.0,
      accepted_by end id stream.outgoing (λ given. elim c.match-matches.branch [
        | in-NotGiven w ↦ both_ways _ c.if-not-matches.true w.matches-is
        | in_default w ↦ w.in_default.not-NotGiven given
      ]) asked.1.outgoing,
    )

pub returns : goal.returns
returns c = λ values now end id is role was.
    let stream = c.args.self.now in
    let asked = asked_here values now end id stream was is
    (rw role (sym c.eq.ensures ∙ c.if-eq.false)) in
    let given : stream.outgoing ≡ outgoings.NotGiven = elim c.match-matches.branch [
      | in-NotGiven w ↦ w.in-NotGiven.is
      | in_default w ↦ absurd (both_ways _ w.matches-is c.if-not-matches.false)
    ] in (
      asked.0,
      not_accepted end id stream.outgoing given asked.1.outgoing,
      c.asks_head.ensures ∙ asks_alike end id stream asked.0 asked.1,
    )
