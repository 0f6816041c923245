-- The line of the status is printed, then the fields, and then the body.
use Rattle.std.proofs.Common.{ℕ, List, Option}
use Rattle.std.specs.Io.KnownBytes.{Appends, Keeps}
use Rattle.std.proofs.KnownBytes.{Appends-trans}
use Rattle.h2_message.specs.Fields.{status_of}
use Rattle.h2_engines.specs.declared.fetcher.Fetched.{Fetched}
use Rattle.h2_net.specs.Printing.{IsPhraseOf, status_line}
use Rattle.h2_net.proofs.Printing.{always_good, appends_keeps}
use Rattle.h2_args.specs.Words.{GetWords, asked_by}
use Rattle.h2_get.specs.Responses.{PrintsAsked, fields_printed, rest_printed}
use Rattle.h2_get.proofs.response.write_asked.Goals as goal

asked_printed : (first second third fourth last : Option (List ℕ)) (words : GetWords)
    (fetched : Fetched)
    → ((phrase : Option (List ℕ)) × IsPhraseOf (status_of fetched.head.items) phrase
    × Appends first second (status_line (status_of fetched.head.items) phrase))
    → Appends second third (fields_printed words.include fetched)
    → Appends third fourth (rest_printed words fetched) → Keeps fourth last
    → PrintsAsked words first last fetched
asked_printed first second third fourth last words fetched line fields rest keeps = (
  line.0,
  line.1,
  appends_keeps first fourth last _
      (Appends-trans first second fourth _ _ line.2
      (Appends-trans second third fourth _ _ fields rest))
      keeps,
)

pub returns : goal.returns
returns g c =
    let line = rw c.status_value.ensures at c.in_ok-write_status.ensures in
    let status = rw c.deref.ensures.value at line in
    always_good c.flush.result _
    (asked_printed _ _ _ _ _ (asked_by c.args.options.now) c.args.fetched.now status
    c.in_ok-write_fields.ensures c.in_ok-write_rest.ensures c.flush.ensures.bytes)
