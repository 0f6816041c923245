-- What is held was sent, or the link has failed once more.
use Rattle.std.proofs.Common.{◌≡◌, ◌≤◌, ◌<◌, ◌⊎◌, ℕ, List, [], Option, Result, Ok, Err, inl, inr}
use Rattle.std.proofs.Common.{arith, le_refl}
use Rattle.h2_link.specs.declared.link.LinkFault.{LinkFault}
use Rattle.h2_link.specs.declared.error.LinkError.{LinkError}
use Rattle.h2_link.specs.declared.error.LinkError.TheVariants as errors
use Rattle.h2_link.specs.Links.{failures_after}
use Rattle.h2_net.specs.StreamLinks.{SendsThrough}
use Rattle.h2_engines.specs.Failures.{failures_at_end}

-- No call makes a link forget that it has failed.
fails_no_less : {T : Type 0} (start : ℕ) (result : Result T LinkError)
    → start ≤ failures_at_end start result
fails_no_less start (Ok value) = le_refl start
fails_no_less start (Err errors.Device) = omega arith
fails_no_less start (Err (errors.Stream code)) = le_refl start
fails_no_less start (Err errors.Memory) = le_refl start
fails_no_less start (Err errors.CutOff) = le_refl start
fails_no_less start (Err errors.NoProgress) = le_refl start
fails_no_less start (Err (errors.Reset code)) = le_refl start
fails_no_less start (Err errors.Refused) = le_refl start

pub sent_or_failed : {T : Type 0} (before after : Option (List ℕ))
    (result : Result (Unit {0}) LinkFault) (held held_now : List ℕ) (start middle now : ℕ)
    (came : Result T LinkError) → SendsThrough before after result held held_now
    → now ≡ failures_after middle result → middle ≡ failures_at_end start came
    → (held_now ≡ []) ⊎ (start < now)
sent_or_failed before after (Ok done) held held_now start middle now came sends counted of =
    inl sends.1
sent_or_failed before after (Err fault) held held_now start middle now came sends counted of =
    let no_less = fails_no_less start came in inr (omega (arith, counted, of, no_less))
