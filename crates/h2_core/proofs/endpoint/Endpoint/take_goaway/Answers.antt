-- GOAWAY is reported, with the least of the last streams.
use Rattle.h2_core.proofs.Names.{◌≡◌, ℕ, List, [], ◌∷◌, Some, refl, ap, rules, GoAway, end_view}
use Rattle.h2_core.proofs.Names.{end_of, verdict_by_rules, events_of, after_reported}
use Rattle.h2_spec_log.specs.ItemEffects.{least_last}
use Rattle.h2_spec_log.specs.Events.{GoAwayEvent}
use Rattle.h2_core.proofs.ItemVerdicts.{report_stands, report_taken}
use Rattle.h2_core.proofs.endpoint.Endpoint.take_goaway.Goals.{in-Some, in-None}
use Rattle.h2_core.proofs.endpoint.Endpoint.take_goaway.Goals as goal

pub returns : goal.returns
unfolding verdict_by_rules after_reported events_of
returns c =
    let e = end_of c.args.self.now in
    let least : c.match-self.least ≡ least_last c.args.last c.args.self.now.goaway_received =
    elim c.match-self.branch [ in-Some w ↦ search rules | in-None w ↦ search rules ] in
    λ (debug : List ℕ).
    report_taken e (GoAway c.args.last c.args.code debug) c.args.self.now.list _ _
    (report_stands (end_view e) (GoAway c.args.last c.args.code debug) refl)
    (ap (λ (one : ℕ). record e { goaway = record e.goaway { received = Some one } }) least)
    (ap (λ (one : ℕ). GoAwayEvent one c.args.code ∷ []) least)
