-- What waits is written, whatever has happened at a client that has made requests.
use Rattle.h2_engines.proofs.Names.{List, ℕ, Values, Result, End, EndLog, EndRepresents, Traffic}
use Rattle.h2_engines.proofs.Names.{IsLinked, LinkError, WritesOut, WritesOver}
use Rattle.h2_engines.specs.ClientHistories.{gives_out as one_gives_out}
use Rattle.h2_engines.proofs.MachineWrites.{written_out}
use Rattle.h2_engines.proofs.ResponderWrites.{MayPutOut}
use Rattle.h2_fetch.specs.Sends.{Asking, AsksOne, AsksSeveral, HasAsked}
use Rattle.h2_fetch.specs.Several.{gives_out}

-- Output may be put out at it.
puts_at : (values : Values) (asking : Asking) → MayPutOut (HasAsked values asking)
puts_at values (AsksOne message wide) end count answer was typed may =
    one_gives_out was count answer typed may
puts_at values (AsksSeveral asked wide) end count answer was typed may =
    gives_out was count answer typed may

-- So its requests stay once it was written out.
pub asked_written : {before now : Traffic} {old new : End} {result : Result (Unit {0}) LinkError}
    → WritesOver before now old new result → (values : Values) (asking : Asking) (start : Traffic)
    (end : EndLog) (unused : List ℕ) → EndRepresents values old end → HasAsked values asking end
    → IsLinked start before end.log unused
    → WritesOut (HasAsked values asking) values start now end new unused result
asked_written writes values asking start end unused is was linked =
    written_out (HasAsked values asking) (puts_at values asking) was
    (writes values start end unused is linked)
