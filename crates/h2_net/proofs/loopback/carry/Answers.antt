-- All was written, so no call has failed.
use Rattle.std.proofs.Common.{◌≡◌, ◌∙◌, arith}
use Rattle.std.proofs.lemmas.Result.{err_from_is_err_and}
use Rattle.h2_link.specs.Links.{WritesAll}
use Rattle.h2_net.proofs.PostingLemmas.{write_not_refused}
use Rattle.h2_net.proofs.loopback.carry.Goals as goal

pub flush-requires : goal.flush-requires
unfolding WritesAll
flush-requires g c =
    let kept : c.write_all.new.link.failures ≡ 0
    = c.in_ok-write_all.ensures.writes.1 ∙ c.requires.0 in
    omega (arith, kept)

pub returns-clause-failures : goal.returns-clause-failures
unfolding WritesAll
returns-clause-failures g c = (
  c.in_ok-flush.ensures.failures ∙ (c.in_ok-write_all.ensures.writes.1 ∙ c.requires.0),
  c.in_ok-read_all.ensures.failures ∙ c.requires.1,
)

pub returns-in_err-write_all-clause-err : goal.returns-in_err-write_all-clause-err
returns-in_err-write_all-clause-err g c =
    let answer = err_from_is_err_and c.from_residual.result c.from_residual.ensures.1 in
    rw (answer.1, answer.2) (write_not_refused _ _ _ _ c.in_err-write_all.field-0.0 _
    c.in_err-write_all.ensures.writes)
