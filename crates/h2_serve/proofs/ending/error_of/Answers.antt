-- It has failed with this code.
use Rattle.h2_engines.proofs.Names.{sym, ◌∙◌}
use Rattle.h2_serve.proofs.Serving.{coded_error, of_driving}
use Rattle.h2_serve.proofs.ending.error_of.Goals as goal

pub returns-in-Some-clause-error : goal.returns-in-Some-clause-error
returns-in-Some-clause-error g c =
    coded_error c.args.connection.now c.in-Some.code c.error_of_code.result
    c.error_of_code.ensures.error
    (c.is_closed_for_memory.ensures.not c.if-is_closed_for_memory.false)
    (λ values log is. sym ((rw c.conn.ensures at c.failed.ensures) values log is) ∙ c.in-Some.is)

pub returns-in-Some-clause-err : goal.returns-in-Some-clause-err
returns-in-Some-clause-err g c =
    of_driving c.error_of_code.result c.error_of_code.ensures.kind c.error_of_code.ensures.goes
