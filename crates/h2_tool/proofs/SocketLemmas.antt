-- How `loop` ends.
use Rattle.std.proofs.Common.{◌≡◌, inl, inr, ℕ, List, Option, Result, Ok, Err, refl, sym, IfErr}
use Rattle.std.proofs.Common.{OnOk, MatchResult, subst}
use Rattle.std.specs.Io.KnownBytes.{Appends}
use Rattle.h2_cli.specs.declared.status.Status.{Status}
use Rattle.h2_cli.specs.declared.status.Status.TheVariants.{Good, Device}
use Rattle.h2_link.specs.declared.error.LinkError.{LinkError}
use Rattle.h2_link.specs.declared.error.LinkError.TheVariants as errors
use Rattle.h2_engines.specs.declared.fetcher.Fetched.{Fetched}
use Rattle.h2_net.specs.Endings.{status_with}
use Rattle.h2_net.specs.Loopback.{ExchangesPost}
use Rattle.h2_net.specs.Printing.{exchange_line}
use Rattle.h2_tool.specs.Commands.{PostsSo}

-- The exchange has ended early.
pub loop_ends_early : (count : ℕ) (before : Option (List ℕ)) (error : LinkError)
    → ExchangesPost count (Err error) → PostsSo count before before (status_with error)
loop_ends_early count before errors.Device got =
    inl (record { error = errors.Device; got = got; status_is = refl; unwritten = refl })
loop_ends_early count before (errors.Stream code) got =
    record { error = errors.Stream code; got = got; status_is = refl; unwritten = refl }
loop_ends_early count before errors.Memory got =
    record { error = errors.Memory; got = got; status_is = refl; unwritten = refl }
loop_ends_early count before errors.CutOff got =
    record { error = errors.CutOff; got = got; status_is = refl; unwritten = refl }
loop_ends_early count before errors.NoProgress got =
    inl (record { error = errors.NoProgress; got = got; status_is = refl; unwritten = refl })
loop_ends_early count before (errors.Reset code) got =
    record { error = errors.Reset code; got = got; status_is = refl; unwritten = refl }
loop_ends_early count before errors.Refused got = got refl

-- What was posted, and what came back, was printed or not.
pub loop_prints : (count : ℕ) (before after : Option (List ℕ)) (fetched : Fetched)
    (printed : Result (Unit {0}) LinkError) (status : Status)
    → ExchangesPost count (Ok fetched)
    → OnOk printed (Appends before after (exchange_line count fetched))
    → IfErr printed (λ error. error ≡ errors.Device)
    → MatchResult printed (λ done. status ≡ Good) (λ error. status ≡ status_with error)
    → PostsSo count before after status
loop_prints count before after fetched (Ok done) status got prints device so =
    subst (PostsSo count before after) (sym so) (fetched, got, prints)
loop_prints count before after fetched (Err error) status got prints device so =
    let is : status ≡ Device = rw device at so in
    subst (PostsSo count before after) (sym is) (inr (fetched, got))
