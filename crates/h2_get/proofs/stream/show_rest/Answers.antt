-- By the lemmas on what is shown of the rest.
use Rattle.std.proofs.Common.{true, false}
use Rattle.h2_get.proofs.StreamLemmas.{file_not_made, rest_filed, rest_filed_first, rest_is_none}
use Rattle.h2_get.proofs.StreamLemmas.{rest_printed_first, rest_printed_whole, rest_unfiled}
use Rattle.h2_get.proofs.StreamLemmas.{rest_unprinted}
use Rattle.h2_get.proofs.stream.show_rest.Goals as goal

pub returns-then-is_whole-clause-rest : goal.returns-then-is_whole-clause-rest
returns-then-is_whole-clause-rest g c =
    rw (c.in_default.is, c.if-is_whole.true) (rest_is_none false _ c.args.fetch.now _)

pub returns-in-Ok-clause-rest : goal.returns-in-Ok-clause-rest
returns-in-Ok-clause-rest g c =
    rw (c.in_default.is, c.if-is_whole.false)
    (rest_printed_whole _ _ _ _ _ _ c.in-Ok.trailers c.in-Ok.ensures.passes)

pub returns-in-Err-Link-clause-rest : goal.returns-in-Err-Link-clause-rest
returns-in-Err-Link-clause-rest g c =
    rw (c.in_default.is, c.if-is_whole.false)
    (rest_printed_first _ _ _ _ _ _ c.in-Err-Link.error
    (rw c.in-Err-Link.field-0-is at c.in-Err-Link.ensures.passes))

pub returns-in-Err-Output-clause-rest : goal.returns-in-Err-Output-clause-rest
returns-in-Err-Output-clause-rest g c =
    rw (c.in_default.is, c.if-is_whole.false)
    (rest_unprinted _ _ _ _ _ _ (rw c.in-Err-Output.field-0-is at c.in-Err-Output.ensures.passes))

pub returns-in_default-create-clause-rest : goal.returns-in_default-create-clause-rest
returns-in_default-create-clause-rest g c =
    rw c.in-Some.is (file_not_made c.args.is_whole _ c.args.fetch.now _)

pub returns-then-is_whole-2-clause-rest : goal.returns-then-is_whole-2-clause-rest
returns-then-is_whole-2-clause-rest g c =
    rw (c.in-Some.is, c.if-is_whole-2.true) (rest_is_none true _ c.args.fetch.now _)

pub returns-in-Ok-pass_counted-clause-rest : goal.returns-in-Ok-pass_counted-clause-rest
returns-in-Ok-pass_counted-clause-rest g c =
    let (written, written_now, passes) = c.in-Ok-pass_counted.ensures.passes in
    rw (c.in-Some.is, c.if-is_whole-2.false)
    (rest_filed _ _ _ _ written written_now c.in-Ok-pass_counted.last.trailers _ passes)

pub returns-in-Err-Link-pass_counted-clause-rest :
    goal.returns-in-Err-Link-pass_counted-clause-rest
returns-in-Err-Link-pass_counted-clause-rest g c =
    let (written, written_now, passes) =
    rw c.in-Err-Link-pass_counted.field-0-is at c.in-Err-Link-pass_counted.ensures.passes in
    rw (c.in-Some.is, c.if-is_whole-2.false)
    (rest_filed_first _ _ _ _ written written_now c.in-Err-Link-pass_counted.error _ passes)

pub returns-clause-rest : goal.returns-clause-rest
returns-clause-rest g c =
    let (written, written_now, passes) =
    rw c.in-Err-Output-pass_counted.field-0-is at c.in-Err-Output-pass_counted.ensures.passes in
    rw (c.in-Some.is, c.if-is_whole-2.false)
    (rest_unfiled _ _ _ _ written written_now _ passes)
