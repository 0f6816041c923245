-- By how it was driven, and by what the connection answers of itself then.
use Rattle.h2_engines.proofs.Names.{ℕ, refl, sym, ◌∙◌, err_from_is_err_and, traffic}
use Rattle.h2_flow.specs.ConfigValues.{values_of}
use Rattle.h2_engines.proofs.MachineDrives.{failures_same}
use Rattle.h2_serve.specs.Serving.{Beginning, has_stopped, lacks_memory}
use Rattle.h2_serve.proofs.ServedEnds.{counted_cut, counted_ends, counted_none, driving_cut}
use Rattle.h2_serve.proofs.ServedEnds.{driving_ends, ends_well, has_served, is_lost, serving_first}
use Rattle.h2_serve.proofs.serve.serve_handler.Goals as goal

pub returns-in_default-clause-serves : goal.returns-in_default-clause-serves
returns-in_default-clause-serves g c = lacks_memory refl

pub returns-in_err-input-clause-serves : goal.returns-in_err-input-clause-serves
returns-in_err-input-clause-serves g c =
    let answer = err_from_is_err_and c.from_residual.result c.from_residual.ensures.1 in
    rw (answer.1, answer.2) (lacks_memory refl)

pub returns-in_err-input-clause-cut_off : goal.returns-in_err-input-clause-cut_off
returns-in_err-input-clause-cut_off g c =
    let answer = err_from_is_err_and c.from_residual.result c.from_residual.ensures.1 in
    rw (answer.1, answer.2) tt

pub returns-in_err-input-clause-failures : goal.returns-in_err-input-clause-failures
returns-in_err-input-clause-failures g c =
    let answer = err_from_is_err_and c.from_residual.result c.from_residual.ensures.1 in
    rw (answer.1, answer.2) refl

pub returns-in_err-input-clause-err : goal.returns-in_err-input-clause-err
returns-in_err-input-clause-err g c =
    let answer = err_from_is_err_and c.from_residual.result c.from_residual.ensures.1 in
    rw (answer.1, answer.2) tt

pub returns-in_err-room-clause-serves : goal.returns-in_err-room-clause-serves
returns-in_err-room-clause-serves g c =
    let answer = err_from_is_err_and c.from_residual-in_err-room.result
    c.from_residual-in_err-room.ensures.1 in
    rw (answer.1, answer.2) (lacks_memory refl)

pub returns-in_err-room-clause-cut_off : goal.returns-in_err-room-clause-cut_off
returns-in_err-room-clause-cut_off g c =
    let answer = err_from_is_err_and c.from_residual-in_err-room.result
    c.from_residual-in_err-room.ensures.1 in
    rw (answer.1, answer.2) tt

pub returns-in_err-room-clause-failures : goal.returns-in_err-room-clause-failures
returns-in_err-room-clause-failures g c =
    let answer = err_from_is_err_and c.from_residual-in_err-room.result
    c.from_residual-in_err-room.ensures.1 in
    rw (answer.1, answer.2) refl

pub returns-in_err-room-clause-err : goal.returns-in_err-room-clause-err
returns-in_err-room-clause-err g c =
    let answer = err_from_is_err_and c.from_residual-in_err-room.result
    c.from_residual-in_err-room.ensures.1 in
    rw (answer.1, answer.2) tt

pub returns-in_err-driven-clause-serves : goal.returns-in_err-driven-clause-serves
returns-in_err-driven-clause-serves g c =
    let link = c.args.link.now in
    let answer = err_from_is_err_and c.from_residual-in_err-driven.result
    c.from_residual-in_err-driven.ensures.1 in
    let begin : Beginning g.row.H.Denot = record {
      values = values_of c.args.config;
      handler = c.args.handler;
      start = traffic (g.L.Link.given link) (g.L.Link.taken link) (g.L.Link.stalled link);
    } in
    let first = serving_first begin c.in-Ok.connection c.in-Ok.ensures.end c.in-Ok.ensures.none
    c.in-Ok.ensures.kept c.in-Ok.ensures.phase in
    let stopped = c.in_err-driven.ensures.drives begin first in
    rw (answer.1, answer.2) (has_stopped c.drive-driven.new.connection c.lose.new.self
    c.in_err-driven.field-0.0 stopped (is_lost c.drive-driven.new.connection c.lose.new.self
    c.lose.ensures.calls c.lose.ensures.loses c.lose.ensures.over stopped.told))

pub returns-in_err-driven-clause-cut_off : goal.returns-in_err-driven-clause-cut_off
returns-in_err-driven-clause-cut_off g c =
    let answer = err_from_is_err_and c.from_residual-in_err-driven.result
    c.from_residual-in_err-driven.ensures.1 in
    rw (answer.1, answer.2) (driving_cut ℕ c.in_err-driven.field-0.0
    (g.L.Link.ended c.drive-driven.new.link) c.in_err-driven.ensures.err)

pub returns-in_err-driven-clause-failures : goal.returns-in_err-driven-clause-failures
returns-in_err-driven-clause-failures g c =
    let answer = err_from_is_err_and c.from_residual-in_err-driven.result
    c.from_residual-in_err-driven.ensures.1 in
    rw (answer.1, answer.2) (c.in_err-driven.ensures.failures
    ∙ failures_same (Unit {0}) ℕ (g.L.Link.faults c.args.link.now) c.in_err-driven.field-0.0)

pub returns-in_err-driven-clause-err : goal.returns-in_err-driven-clause-err
returns-in_err-driven-clause-err g c =
    let answer = err_from_is_err_and c.from_residual-in_err-driven.result
    c.from_residual-in_err-driven.ensures.1 in
    rw (answer.1, answer.2) (driving_ends c.in_err-driven.field-0.0 c.in_err-driven.ensures.err)

pub returns-clause-serves : goal.returns-clause-serves
returns-clause-serves g c =
    let link = c.args.link.now in
    let begin : Beginning g.row.H.Denot = record {
      values = values_of c.args.config;
      handler = c.args.handler;
      start = traffic (g.L.Link.given link) (g.L.Link.taken link) (g.L.Link.stalled link);
    } in
    let first = serving_first begin c.in-Ok.connection c.in-Ok.ensures.end c.in-Ok.ensures.none
    c.in-Ok.ensures.kept c.in-Ok.ensures.phase in
    let written = c.in_ok-driven.ensures.drives begin first in
    has_served c.drive-driven.new.connection c.lose.new.self written
    (is_lost c.drive-driven.new.connection c.lose.new.self c.lose.ensures.calls c.lose.ensures.loses
    c.lose.ensures.over written.serving.told) c.count_of-served.result c.count_of-served.ensures

pub returns-clause-ended : goal.returns-clause-ended
returns-clause-ended g c = ends_well c.count_of-served.result _ c.in_ok-driven.ensures.ended

pub returns-clause-cut_off : goal.returns-clause-cut_off
returns-clause-cut_off g c =
    counted_cut c.drive-driven.new.connection c.count_of-served.result _ c.count_of-served.ensures
    c.in_ok-driven.ensures.ended

pub returns-clause-failures : goal.returns-clause-failures
returns-clause-failures g c =
    c.in_ok-driven.ensures.failures
    ∙ sym (counted_none c.drive-driven.new.connection c.count_of-served.result _
    c.count_of-served.ensures)

pub returns-clause-err : goal.returns-clause-err
returns-clause-err g c =
    counted_ends c.drive-driven.new.connection c.count_of-served.result c.count_of-served.ensures
