-- The status of several responses.
use Rattle.std.proofs.Common.{◌≡◌, [], ◌∷◌, refl, Ok, Err}
use Rattle.h2_cli.specs.declared.status.Status.TheVariants.{Good, Fault, Usage, Device, Memory}
use Rattle.h2_link.specs.declared.error.LinkError.TheVariants as errors
use Rattle.h2_args.specs.Words.{GetWords}
use Rattle.h2_get.specs.declared.pass_error.StreamError.TheVariants as streams
use Rattle.h2_tool.specs.GetsSeveral.{first_failed, status_of_several}

-- rule: engines (own) Several responses are printed in the order of their URLs
none_failed : first_failed (Good ∷ Good ∷ []) ≡ Good
none_failed = refl

first_that_failed : first_failed (Good ∷ Fault ∷ Good ∷ Device ∷ []) ≡ Fault
first_that_failed = refl

reset_precedes_what_ends_all : (words : GetWords) → status_of_several words
    (Ok (Err (streams.Link (errors.Reset 8)) ∷ Err (streams.Link errors.NoProgress) ∷ []))
    ≡ Fault
reset_precedes_what_ends_all words = refl

unwritten : (words : GetWords) → status_of_several words (Ok (Err streams.Output ∷ [])) ≡ Device
unwritten words = refl

too_many_fields : (words : GetWords) →
    status_of_several words (Err (streams.Link errors.Refused)) ≡ Usage
too_many_fields words = refl

lacks_memory : (words : GetWords) →
    status_of_several words (Err (streams.Link errors.Memory)) ≡ Memory
lacks_memory words = refl
