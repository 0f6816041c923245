-- What an end is asked to do, and what it answers.
use Rattle.std.specs.Prelude.{◌≡◌, ◌≤◌, ◌<◌, ◌^◌, ℕ, Bool, List, length, Option}
use Rattle.std.specs.List.{AllByRecursion}
use Rattle.hpack_text.specs.Bits.{IsOctet}
use Rattle.hpack.specs.declared.types.field.Field.{Field}
use Rattle.hpack.specs.Written.{AreOctets}
use Rattle.h2_frame.specs.declared.code.Code.{Code}
use Rattle.h2_spec_log.specs.declared.refusal.Refusal.{Refusal}
use Rattle.h2_spec_log.specs.Events.{Event}
use Rattle.h2_spec_log.specs.Windows.{greatest_window}
use Rattle.h2_spec_log.specs.Limits.{max_table_limit, least_max_streams, most_max_streams}
use Rattle.h2_spec_log.specs.Limits.{least_max_frame, most_max_frame}

-- the values of an end's own settings
pub record Values : Type 0 where
  pub table_limit : ℕ
  pub initial_window : ℕ
  pub max_streams : ℕ
  pub max_frame : ℕ

-- An end's values are within their bounds (own).
-- rule: calls (own) A configuration is made of values within their bounds
pub record AreInRange (values : Values) : Type 0 where
  pub table_limit : values.table_limit ≤ max_table_limit
  pub least_window : 1 ≤ values.initial_window
  pub initial_window : values.initial_window ≤ greatest_window
  pub least_streams : least_max_streams ≤ values.max_streams
  pub max_streams : values.max_streams ≤ most_max_streams
  pub least_frame : least_max_frame ≤ values.max_frame
  pub max_frame : values.max_frame ≤ most_max_frame

-- A call with its arguments. Taking octets isn't among them: what an end makes of those is said
-- frame by frame.
pub data Act : Type 0 where
  -- opens a stream with a field block; end: whether it is the last one, and no DATA follows
  -- (END_STREAM)
  Open : (fields : List Field) (end : Bool) → Act
  -- writes a further field block
  SendFields : (id : ℕ) (fields : List Field) (end : Bool) → Act
  -- writes octets of a body, as far as the windows go
  SendData : (id : ℕ) (octets : List ℕ) (end : Bool) → Act
  -- gives the peer as much of a stream's window, and of the connection's, back
  Release : (id count : ℕ) → Act
  -- resets a stream
  ResetStream : (id code : ℕ) → Act
  -- resets a stream for a fault of the peer that the layer above found, or, with code 2, ends the
  -- connection since it found no memory
  Refuse : (id code : ℕ) → Act
  SendPing : (octets : List ℕ) → Act
  -- says that no further streams are taken
  SendGoAway : Act
  -- ends the connection with a code of the caller's
  Fail : (code : Code) → Act
  -- takes octets of the output away
  PutOut : (count : ℕ) → Act
  -- changes this end's settings
  ChangeSettings : (values : Values) → Act
  -- lets the peer send so many octets more on the connection, for good
  Widen : (count : ℕ) → Act

pub data Answer : Type 0 where
  -- the number of the stream that was opened
  Number : (id : ℕ) → Answer
  -- how many octets were written, or given out
  Count : (count : ℕ) → Answer
  Done : Answer
  -- An allocation was refused in a call that can't be refused for it: the connection failed, and
  -- the call answers that it is done.
  OutOfMemory : Answer
  Refused : (refusal : Refusal) → Answer

-- The arguments of a call are those that its types hold: octets are below 256, numbers of streams
-- and codes below 2^32, as are the counts of `Release` and `Widen`, and that of `PutOut` below
-- 2^64; a PING has eight octets; values are within their bounds.
unfoldable pub IsTypedAct : Act → Type 0
IsTypedAct (Open fields end) = AreOctets fields
IsTypedAct (SendFields id fields end) = (id < 2 ^ 32) × AreOctets fields
IsTypedAct (SendData id octets end) = (id < 2 ^ 32) × AllByRecursion IsOctet octets
IsTypedAct (Release id count) = (id < 2 ^ 32) × (count < 2 ^ 32)
IsTypedAct (ResetStream id code) = (id < 2 ^ 32) × (code < 2 ^ 32)
IsTypedAct (Refuse id code) = (id < 2 ^ 32) × (code < 2 ^ 32)
IsTypedAct (SendPing octets) = (length octets ≡ 8) × AllByRecursion IsOctet octets
IsTypedAct SendGoAway = Unit {0}
IsTypedAct (Fail code) = Unit {0}
IsTypedAct (PutOut count) = count < 2 ^ 64
IsTypedAct (ChangeSettings values) = AreInRange values
IsTypedAct (Widen count) = count < 2 ^ 32

-- the answer that a call shows
abbrev pub shown : Answer → Answer
shown (Number id) = Number id
shown (Count count) = Count count
shown Done = Done
shown OutOfMemory = Done
shown (Refused refusal) = Refused refusal

-- A turn of a log. After octets that were used stands what is written for them, and then the event;
-- after a call its answer, and then what it writes.
pub data Turn : Type 0 where
  -- octets that were used
  In : (octets : List ℕ) → Turn
  -- octets as they join the waiting output
  Out : (octets : List ℕ) → Turn
  Called : (act : Act) → Turn
  Answered : (answer : Answer) → Turn
  Happened : (event : Event) → Turn
  -- Octets were handed to `take`, which is called until it has used them and reports no event; and
  -- it was done with them, or the connection failed with a code. Whoever replays a list of calls
  -- puts these two around what happens in between.
  TakeCalled : (octets : List ℕ) → Turn
  TakeAnswered : (fault : Option Code) → Turn
