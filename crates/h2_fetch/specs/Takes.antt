-- What a call of `take` has made of a client whose response comes in parts.
use Rattle.std.specs.Prelude.{◌≡◌, ℕ, List, length, Option, Some, None, Result, Ok, Err}
use Rattle.h2_spec_log.specs.Acts.{Values}
use Rattle.h2_ends.specs.declared.end.End.{End}
use Rattle.h2_ends.specs.Ends.{EndLog, Handed, EndAnswer, EndTook}
use Rattle.h2_ends.specs.EndTakes.{EndMayTake}
use Rattle.h2_ends.specs.Represents.{EndRepresents}
use Rattle.h2_link.specs.declared.error.LinkError.{LinkError}
use Rattle.h2_engines.specs.ClientSteps.{ErrsFetching}
use Rattle.h2_fetch.specs.declared.fetch.PartTaken.{PartTaken}
use Rattle.h2_fetch.specs.declared.fetch.PartNext.{PartNext}
use Rattle.h2_fetch.specs.declared.fetch.PartNext.TheVariants as nexts
use Rattle.h2_fetch.specs.declared.part.ResponsePart.{ResponsePart}
use Rattle.h2_fetch.specs.Parts.{HandsPart}

-- the part of the response that is handed out, if one is
abbrev pub part_in : PartNext → Option ResponsePart
part_in (nexts.Part part) = Some part
part_in next = None

-- what came of the octets that were handed to it: a part, nothing with some octets left, or nothing
-- and all of them used
unfoldable pub TakesSo : EndLog → (piece : List ℕ) → EndLog → ℕ → Result PartTaken LinkError
    → Type 0
TakesSo end piece after id (Ok taken) =
    (handed : Option Handed) × EndMayTake end piece (EndTook taken.used handed) after
    × HandsPart id handed (part_in taken.next)
    × (taken.next ≡ nexts.Done → taken.used ≡ length piece)
TakesSo end piece after id (Err error) =
    (answer : EndAnswer) × EndMayTake end piece answer after × ErrsFetching answer id error

-- Whatever has happened at the client, octets were handed to `take` once.
abbrev pub TakesPartOnce : (old new : End) → (id : ℕ) → (piece : List ℕ)
    → Result PartTaken LinkError → Type 0
TakesPartOnce old new id piece result =
    (values : Values) (end : EndLog) → EndRepresents values old end
    → (after : EndLog) × EndRepresents values new after × TakesSo end piece after id result
