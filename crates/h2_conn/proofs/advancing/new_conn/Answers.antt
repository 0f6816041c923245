-- A new end represents the log of one.
use Rattle.h2_conn.proofs.Names.{◌∙◌, ℕ, Bool, [], subst, ap, CutterState, CutterRepresents}
use Rattle.h2_conn.proofs.Names.{CutterLimited, values_of}
use Rattle.h2_conn.proofs.TakeStart.{is_a_server, new_sound, new_parts, first_limits}
use Rattle.h2_conn.proofs.TakeStart.{opened_up}
use Rattle.h2_conn.proofs.PartsFit.{with_reason}
use Rattle.h2_conn.proofs.advancing.new_conn.Goals as goal

pub invariant_of-result : goal.invariant_of-result
invariant_of-result c =
    record {
      sound = λ up. new_sound _ c.args.role (values_of c.args.config) c.args.config.in_range
          c.in_ok-end.ensures.ok;
      cuts = λ up. ap (λ (state : CutterState). state.fault) c.set_limit.ensures.same
          ∙ c.new-cutter.ensures.represents.sound;
    }

pub returns-clause-ok : goal.returns-clause-ok
returns-clause-ok c =
    let cutter : CutterState = c.new-cutter.result in
    let limited : CutterState = c.set_limit.new.self in
    with_reason (values_of c.args.config) limited _ _ _ _
    (new_parts cutter limited _ c.args.role (values_of c.args.config) c.args.config.in_range
    c.in_ok-end.ensures.ok
    (subst (λ (expects : Bool). CutterRepresents cutter expects first_limits [] [])
    (c.eq.ensures ∙ is_a_server c.args.role) c.new-cutter.ensures.represents)
    c.new-cutter.ensures.greatest
    (subst (λ (limit : ℕ). CutterLimited cutter limit limited) c.payload_limit.ensures
    c.set_limit.ensures) c.new-2.ensures) (opened_up c.args.role (values_of c.args.config))
