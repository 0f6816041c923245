-- What is printed after other octets.
use Rattle.std.proofs.Common.{ℕ, List, Option, Some, None, Result, Ok, Err, ◌∙◌}
use Rattle.std.specs.Prelude.{OnOk}
use Rattle.std.specs.Io.KnownBytes.{Appends, Keeps}
use Rattle.std.proofs.KnownBytes.{Appends-trans}
use Rattle.h2_message.specs.Fields.{status_of}
use Rattle.h2_engines.specs.declared.fetcher.Fetched.{Fetched}
use Rattle.h2_net.specs.Printing.{IsPhraseOf, PrintsResponse, status_line}

-- Where a result is good, what follows holds.
pub on_good : {A E : Type 0} (result : Result A E) (P Q : Type 0) → (P → Q) → OnOk result P
    → OnOk result Q
on_good (Ok value) P Q follows is = follows is
on_good (Err error) P Q follows is = tt

-- What holds whatever the result is holds where it is good.
pub always_good : {A E : Type 0} (result : Result A E) (P : Type 0) → P → OnOk result P
always_good (Ok value) P is = is
always_good (Err error) P is = tt

-- Octets that stand after others stay there.
pub appends_keeps : (first second third : Option (List ℕ)) (octets : List ℕ)
    → Appends first second octets → Keeps second third → Appends first third octets
appends_keeps None second third octets appends keeps = tt
appends_keeps (Some one) None third octets appends keeps = absurd appends
appends_keeps (Some one) (Some two) None octets appends keeps = absurd keeps
appends_keeps (Some one) (Some two) (Some three) octets appends keeps = keeps ∙ appends

-- The line of the status, then the body, and then nothing more.
pub printed : (first second third last : Option (List ℕ)) (fetched : Fetched)
    → ((phrase : Option (List ℕ)) × IsPhraseOf (status_of fetched.head.items) phrase
    × Appends first second (status_line (status_of fetched.head.items) phrase))
    → Appends second third fetched.body.items → Keeps third last
    → PrintsResponse first last fetched
printed first second third last fetched line body keeps = (
  line.0,
  line.1,
  appends_keeps first third last _
      (Appends-trans first second third _ fetched.body.items line.2 body) keeps,
)
