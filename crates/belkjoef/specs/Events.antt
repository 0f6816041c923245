-- The event of C's that bj_take fills.
use Rattle.std.specs.Prelude.{◌≡◌, ℕ, ℤ, Bool, true, false, List, [], ◌∷◌, length, Option, Some}
use Rattle.std.specs.Prelude.{None, Result, Ok, Err}
use Rattle.std.specs.Borrow.{Bor}
use denote.RawPtr.{Ptr, block_ptr}
use Rattle.h2_frame.specs.Codes.{code_number}
use Rattle.h2_conn.specs.declared.taken.ConnFault.{ConnFault}
use Rattle.h2_ends.specs.declared.end.End.{End}
use Rattle.h2_ends.specs.declared.event.EndEvent.TheVariants as events
use Rattle.h2_ends.specs.declared.event.EndTaken.{EndTaken}
use Rattle.h2_ends.specs.EndEvents.{LentPart}
use Rattle.h2_ends.specs.Represents.{EndTakes}
use Rattle.belkjoef.specs.declared.event.BjEvent.{BjEvent}
use Rattle.belkjoef.specs.declared.held.Held.{Held}
use Rattle.belkjoef.specs.Helds.{held_end, user_at, KeepsAllElse}
use Rattle.belkjoef.specs.Numbers.{ok, failed}

-- where octets are
abbrev pub address_of : Bor (List ℕ) → Ptr
address_of octets = block_ptr octets.ref_ptr.0 octets.ref_ptr.1

-- 1 or 0
abbrev pub flag_of : Bool → ℕ
flag_of true = 1
flag_of false = 0

-- nothing yet, of a piece at this address
abbrev pub blank : Ptr → BjEvent
blank at = record {
  used = 0;
  kind = 0;
  stream = 0;
  code = 0;
  end = 0;
  ours = 0;
  ping = 0 ∷ 0 ∷ 0 ∷ 0 ∷ 0 ∷ 0 ∷ 0 ∷ 0 ∷ [];
  fields = 0;
  octets = at;
  length = 0;
  user = 0;
}

-- an event with this list
abbrev pub with_list : BjEvent → ℕ → ℕ → ℕ → Bool → BjEvent
with_list event kind id count end =
    record event { kind = kind; stream = id; fields = count; end = flag_of end }

-- an event that says what is handed out: the address of the octets of a body, and their number
-- rule: c (own) An event has what was handed out, as numbers and addresses
abbrev pub event_with : BjEvent → LentPart → BjEvent
event_with event (events.Interim id list) = with_list event 1 id (length list.now) false
event_with event (events.Head id list end) = with_list event 2 id (length list.now) end
event_with event (events.Trailers id list) = with_list event 4 id (length list.now) true
event_with event (events.Body id bytes end) = record event {
  kind = 3;
  stream = id;
  octets = address_of bytes;
  length = length bytes.now;
  end = flag_of end;
}
event_with event (events.Reset id code ours) =
    record event { kind = 5; stream = id; code = code; ours = flag_of ours }
event_with event (events.Unprocessed id) = record event { kind = 6; stream = id }
event_with event (events.GoAway last code) = record event { kind = 7; stream = last; code = code }
event_with event events.Acked = record event { kind = 8 }
event_with event (events.Pong octets) = record event { kind = 9; ping = octets }

abbrev pub event_with_handed : BjEvent → Option LentPart → BjEvent
event_with_handed event None = event
event_with_handed event (Some handed) = event_with event handed

-- an event that says what a call of `take` answers
abbrev pub event_said : BjEvent → Result EndTaken ConnFault → BjEvent
event_said event (Ok taken) = event_with_handed (record event { used = taken.used }) taken.event
event_said event (Err fault) = record event { code = code_number fault.code }

abbrev pub taken_number : Result EndTaken ConnFault → ℤ
taken_number (Ok taken) = ok
taken_number (Err fault) = failed

-- An end takes octets, and the event and the answer say what it answers.
-- rule: c (own) An event has what was handed out, as numbers and addresses
pub record TakesEvent (old : End) (piece : List ℕ) (before event : BjEvent) (answer : ℤ)
    (new : End)
    : Type 0 where
  pub outcome : Result EndTaken ConnFault
  pub takes : EndTakes old piece outcome new
  pub told : answer ≡ taken_number outcome
  pub said : event ≡ event_said before outcome

-- an event with the number of C's beside its stream
abbrev pub with_user : BjEvent → ℕ → BjEvent
with_user event user = record event { user = user }

-- The end in a place takes octets, and the event says beside that the number that C keeps for the
-- stream.
-- rule: c (own) An event has what was handed out, as numbers and addresses
pub record TakesHeld (piece : List ℕ) (before event : BjEvent) (answer : ℤ)
    (old new : Held) : Type 0
  where
    pub said : BjEvent
    pub takes : TakesEvent (held_end old) piece before said answer (held_end new)
    pub user : event ≡ with_user said (user_at new.users.entries said.stream)
    pub keeps : KeepsAllElse old new
