-- By the lemmas on what is gathered of the rest.
use Rattle.h2_get.proofs.GatherLemmas.{no_rest, rest_cut, rest_gathered, rest_lost}
use Rattle.h2_get.proofs.gathering.gather_rest.Goals as goal

pub returns-then-is_whole-clause-rest : goal.returns-then-is_whole-clause-rest
returns-then-is_whole-clause-rest g c = rw c.if-is_whole.true (no_rest _ c.args.fetch.now _)

pub returns-in-Ok-clause-rest : goal.returns-in-Ok-clause-rest
returns-in-Ok-clause-rest g c =
    rw c.if-is_whole.false (rest_gathered _ _ _ _ _ _ c.in-Ok.trailers c.in-Ok.ensures.passes)

pub returns-in-Err-Link-clause-rest : goal.returns-in-Err-Link-clause-rest
returns-in-Err-Link-clause-rest g c =
    rw c.if-is_whole.false
    (rest_cut _ _ _ _ _ _ c.in-Err-Link.error
    (rw c.in-Err-Link.field-0-is at c.in-Err-Link.ensures.passes))

pub returns-in-Err-Output-clause-rest : goal.returns-in-Err-Output-clause-rest
returns-in-Err-Output-clause-rest g c =
    rw c.if-is_whole.false
    (rest_lost _ _ _ _ _ _ (rw c.in-Err-Output.field-0-is at c.in-Err-Output.ensures.passes))
