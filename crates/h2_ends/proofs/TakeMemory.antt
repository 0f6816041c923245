-- A client and a server don't run out of memory at a frame that needs none.
use Rattle.h2_ends.proofs.Names.{◌≡◌, ◌≢◌, ◌∙◌, ℕ, List, refl, sym, ap, InternalError, Failed}
use Rattle.h2_ends.proofs.Names.{FieldsPart, OctetsPart, EndLog, EndAnswer, EndFailed}
use Rattle.h2_ends.proofs.Names.{hands_nothing, passes, hands_out, refusal_fails, part_of_event}
use Rattle.h2_ends.specs.EndTakes.{EndMayTake, EndNeedsNoMemory, fails, refuses}
use Rattle.h2_ends.specs.EndTakes.{runs_out_of_memory}
use Rattle.h2_laws_end.proofs.Promised.{never_out_of_memory}

-- A call that took octets hasn't failed.
took_none : (count : ℕ) (answer : EndAnswer) (taken : EndAnswer) → answer ≡ taken
    → taken ≢ EndFailed InternalError → answer ≢ EndFailed InternalError
took_none count answer taken says other = λ is. other (sym says ∙ is)

pub never_at_ends : (end after : EndLog) (piece : List ℕ) (answer : EndAnswer)
    → EndMayTake end piece answer after → EndNeedsNoMemory end piece
    → answer ≢ EndFailed InternalError
unfolding part_of_event
never_at_ends end after piece answer (fails code log may says same) promised = λ is.
    let failed : EndFailed code ≡ EndFailed InternalError = sym says ∙ is in
    let wrong : code ≡ InternalError = cc in
    never_out_of_memory end.log log piece (Failed code) may promised.frame (ap Failed wrong)
never_at_ends end after piece answer (hands_nothing count log may says same) promised =
    took_none count answer _ says (λ is. cc)
never_at_ends end after piece answer (passes count event log may none says same) promised =
    took_none count answer _ says (λ is. cc)
never_at_ends end after piece answer
    (hands_out count event log may id part is_part readable says same) promised =
    took_none count answer _ says (λ is. cc)
never_at_ends end after piece answer
    (refuses count event log may id part is_part unreadable refused answered up says same)
    promised = took_none count answer _ says (λ is. cc)
never_at_ends end after piece answer
    (refusal_fails count event log may id part is_part unreadable refused answered code down says
    same) promised = λ is. unreadable (promised.reads count event log may id part is_part).2
never_at_ends end after piece answer
    (runs_out_of_memory count id list ends log may role first readable refused answered says same)
    promised = λ is.
    let (octets, part, reads) =
    promised.reads count _ log may id (FieldsPart list, ends) refl in
    let wrong : FieldsPart list ≡ OctetsPart octets = part in
    cc
