-- The results of `take`, as events and answers of a log.
use Rattle.std.specs.Prelude.{ℕ, List, Result, Ok, Err}
use Rattle.std.specs.Borrow.{Bor}
use Rattle.std.specs.Option.{option_map}
use Rattle.hpack.specs.declared.types.field.Field.{Field}
use Rattle.h2_frame.specs.declared.code.Code.{Code}
use Rattle.h2_wire.specs.declared.cut.Complete.{Complete}
use Rattle.h2_spec_log.specs.Events as log
use Rattle.h2_laws_end.specs.Takes.{TakeAnswer, Took, Failed}
use Rattle.h2_core.specs.declared.event.Event.{Event}
use Rattle.h2_core.specs.Events.{event_value}
use Rattle.h2_conn.specs.declared.taken.Taken.{Taken}
use Rattle.h2_conn.specs.declared.taken.ConnFault.{ConnFault}
use Rattle.h2_conn.specs.declared.taken.Progress.{Progress}

-- what `take` reports: its fields and octets are lent
abbrev pub LentEvent : Type 0
LentEvent = Event (Bor (List Field)) (Bor (List ℕ))

-- what `advance` reports: the fields are kept, and the octets of a body lie in that frame
abbrev pub LocatedEvent : Type 0
LocatedEvent = Event Unit Complete

-- rule: calls (own) An event has the octets, the fields and the numbers of its frame
abbrev pub lent_value : LentEvent → log.Event
lent_value event = event_value (λ fields. fields.now) (λ octets. octets.now) event

-- what has happened, with the fields that are kept and the octets of the body
-- rule: calls (own) An event has the octets, the fields and the numbers of its frame
abbrev pub happened_value : List Field → List ℕ → LocatedEvent → log.Event
happened_value list octets event = event_value (λ _. list) (λ _. octets) event

-- a call's result, as an answer of a log
abbrev pub answer_taken : Result Taken ConnFault → TakeAnswer
answer_taken (Ok taken) = Took taken.used (option_map lent_value taken.event)
answer_taken (Err fault) = Failed fault.code

abbrev pub answer_progress : List Field → List ℕ → Result Progress Code → TakeAnswer
answer_progress list octets (Ok progress) =
    Took progress.used (option_map (happened_value list octets) progress.happened)
answer_progress list octets (Err code) = Failed code

-- the same result with the code alone
abbrev pub code_result : Result Progress ConnFault → Result Progress Code
code_result (Ok progress) = Ok progress
code_result (Err fault) = Err fault.code
