-- What a call of `take` may answer at a client or a server, and what has happened after it (RFC
-- 9113, sections 8.1 and 8.1.1).
use Rattle.std.specs.Prelude.{◌≡◌, ℕ, Bool, true, List, [], ◌∷◌, ◌++◌, Option, Some, None}
use Rattle.hpack.specs.declared.types.field.Field.{Field}
use Rattle.h2_frame.specs.declared.code.Code.{Code}
use Rattle.h2_frame.specs.declared.code.Code.TheVariants.{InternalError}
use Rattle.h2_spec_log.specs.declared.role.Role.TheVariants.{Server}
use Rattle.h2_spec_log.specs.Acts.{Answer, Refuse}
use Rattle.h2_spec_log.specs.Events.{Event, FieldsEvent, ResetEvent}
use Rattle.h2_spec_log.specs.Log.{Log}
use Rattle.h2_spec_log.specs.LogCalls.{MayAnswer, with_call}
use Rattle.h2_laws_end.specs.Promises.{NeedsNoMemory}
use Rattle.h2_laws_end.specs.Takes.{MayTake, Took, Failed}
use Rattle.h2_message.specs.declared.malformed.Malformed.{Malformed}
use Rattle.h2_message.specs.Broken.{broken_after}
use Rattle.h2_message.specs.Reading.{Part, FieldsPart, OctetsPart, IsReadable}
use Rattle.h2_ends.specs.Ends.{EndLog, Handed, Passed, EndAnswer, EndTook, EndFailed, parts_on}
use Rattle.h2_ends.specs.Ends.{reads_on, part_of_event, handed_as}

-- the end after a call of its connection
abbrev pub end_with_log : EndLog → Log → EndLog
end_with_log end log = record end { log = log }

-- the end after it has handed something out
abbrev pub end_with_handed : EndLog → Log → Handed → EndLog
end_with_handed end log handed = record end { log = log; handed = handed ∷ end.handed }

-- a rule with the stream on which it is broken
unfoldable pub named_on : ℕ → Option Malformed → Option (ℕ × Malformed)
named_on id None = None
named_on id (Some rule) = Some (id, rule)

-- the end once a part was refused on a stream, for this rule
abbrev pub with_malformed : EndLog → ℕ → Option Malformed → EndLog
with_malformed end id rule = record end { malformed = named_on id rule }

-- the rule that a part breaks after what was handed out of its stream, the least one of several
-- rule: 8.1.1 (own) A part that is refused breaks a rule, the least of which is named
abbrev pub rule_broken : EndLog → ℕ → (Part × Bool) → Option Malformed
rule_broken end id part = broken_after (reads_on end id) (parts_on id end.handed) part

-- What was read of a stream, with one part more, begins a message that breaks no rule.
-- rule: 8.1.1 A malformed message is a stream error PROTOCOL_ERROR
abbrev pub IsReadableWith : EndLog → ℕ → (Part × Bool) → Type 0
IsReadableWith end id part = IsReadable (reads_on end id) (parts_on id end.handed ++ part ∷ [])

-- The connection takes octets. What it reports is handed out; but a part of a message only where
-- what was read of the stream with it begins a message that breaks no rule. Else the stream is
-- refused with PROTOCOL_ERROR, and the answer is that this end has reset it (which the last octet
-- of the part may have closed already: then no RST_STREAM is sent); or the connection has failed.
-- The rule that the part breaks is kept. At a server the first field block of a stream takes
-- memory, and where that is refused the connection fails.
-- rule: 8.1.1 A malformed message is a stream error PROTOCOL_ERROR
-- rule: 8.1.1 (own) How the connection takes a refusal is what is answered
-- rule: 8.1 (own) A server without memory for a first block fails with INTERNAL_ERROR
pub data EndMayTake (end : EndLog) (piece : List ℕ) (answer : EndAnswer) (after : EndLog) : Type 0
  where
    fails : (code : Code) (log : Log) → MayTake end.log piece (Failed code) log
        → answer ≡ EndFailed code → after ≡ end_with_log end log
        → EndMayTake end piece answer after
    hands_nothing : (count : ℕ) (log : Log) → MayTake end.log piece (Took count None) log
        → answer ≡ EndTook count None → after ≡ end_with_log end log
        → EndMayTake end piece answer after
    passes : (count : ℕ) (event : Event) (log : Log)
        → MayTake end.log piece (Took count (Some event)) log → part_of_event event ≡ None
        → answer ≡ EndTook count (Some (Passed event))
        → after ≡ end_with_handed end log (Passed event)
        → EndMayTake end piece answer after
    hands_out : (count : ℕ) (event : Event) (log : Log)
        → MayTake end.log piece (Took count (Some event)) log
        → (id : ℕ) (part : Part × Bool) → part_of_event event ≡ Some (id, part)
        → IsReadableWith end id part
        → answer ≡ EndTook count
        (Some (handed_as (reads_on end id) (parts_on id end.handed) id part))
        → after ≡ end_with_handed end log
        (handed_as (reads_on end id) (parts_on id end.handed) id part)
        → EndMayTake end piece answer after
    refuses : (count : ℕ) (event : Event) (log : Log)
        → MayTake end.log piece (Took count (Some event)) log
        → (id : ℕ) (part : Part × Bool) → part_of_event event ≡ Some (id, part)
        → (IsReadableWith end id part → ⊥) → (refused : Answer)
        → MayAnswer log (Refuse id 1) refused
        → (with_call log (Refuse id 1) refused).failed ≡ None
        → answer ≡ EndTook count (Some (Passed (ResetEvent id 1 true)))
        → after ≡ with_malformed (end_with_handed end (with_call log (Refuse id 1) refused)
        (Passed (ResetEvent id 1 true))) id (rule_broken end id part)
        → EndMayTake end piece answer after
    refusal_fails : (count : ℕ) (event : Event) (log : Log)
        → MayTake end.log piece (Took count (Some event)) log
        → (id : ℕ) (part : Part × Bool) → part_of_event event ≡ Some (id, part)
        → (IsReadableWith end id part → ⊥) → (refused : Answer)
        → MayAnswer log (Refuse id 1) refused → (code : Code)
        → (with_call log (Refuse id 1) refused).failed ≡ Some code → answer ≡ EndFailed code
        → after ≡ with_malformed (end_with_log end (with_call log (Refuse id 1) refused)) id
        (rule_broken end id part)
        → EndMayTake end piece answer after
    runs_out_of_memory : (count id : ℕ) (list : List Field) (ends : Bool) (log : Log)
        → MayTake end.log piece (Took count (Some (FieldsEvent id list ends))) log
        → end.log.role ≡ Server → parts_on id end.handed ≡ []
        → IsReadableWith end id (FieldsPart list, ends)
        → (refused : Answer) → MayAnswer log (Refuse id 2) refused
        → answer ≡ EndFailed InternalError
        → after ≡ end_with_log end (with_call log (Refuse id 2) refused)
        → EndMayTake end piece answer after

-- A frame lies whole in the piece and needs no memory; and what it reports, if that is a part of a
-- message, is octets of a body with which the message still breaks no rule.
-- rule: 5.4 (own) A frame whole in its piece that needs no memory is never refused any
pub record EndNeedsNoMemory (end : EndLog) (piece : List ℕ) : Type 0 where
  pub frame : NeedsNoMemory end.log piece
  pub reads : (count : ℕ) (event : Event) (log : Log)
      → MayTake end.log piece (Took count (Some event)) log
      → (id : ℕ) (part : Part × Bool) → part_of_event event ≡ Some (id, part)
      → (octets : List ℕ) × (part.0 ≡ OctetsPart octets) × IsReadableWith end id part
