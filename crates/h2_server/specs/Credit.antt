-- When a server with a handler returns credit.
use Rattle.std.specs.Prelude.{◌≡◌, ◌⊎◌, ℕ, ◌-◌, ◌≤◌, Bool, false, List, [], ℤ, pos}
use Rattle.std.specs.Prelude.{Option, Some, None, Result, Ok, Err, OnOk}
use Rattle.h2_spec_log.specs.Acts.{Values}
use Rattle.h2_spec_log.specs.CallRules.{reader_due, reader_granted, reader_owed}
use Rattle.h2_spec_log.specs.Limits.{full_output}
use Rattle.h2_spec_log.specs.Log.{Log, waiting}
use Rattle.h2_spec_log.specs.LogView.{log_view}
use Rattle.h2_spec_log.specs.declared.refusal.Refusal.{Refusal}
use Rattle.h2_spec_log.specs.declared.refusal.Refusal.TheVariants.{OutputFull}
use Rattle.h2_flow.specs.Credit.{is_credit_due}
use Rattle.h2_conn.specs.PeerRoom.{reader_peer_room}
use Rattle.h2_numbers.specs.Entries.{value_at}
use Rattle.h2_ends.specs.declared.end.End.{End}
use Rattle.h2_ends.specs.declared.refusal.EndRefusal.{EndRefusal}
use Rattle.h2_ends.specs.declared.refusal.EndRefusal.TheVariants.{Conn}
use Rattle.h2_ends.specs.Ends.{EndLog}
use Rattle.h2_ends.specs.Represents.{EndRepresents}
use Rattle.h2_server.specs.declared.exchange.Exchange.{Exchange}
use Rattle.h2_server.specs.declared.stop.Stop.{Stop}
use Rattle.h2_server.specs.Exchanges.{Relations, Handling}
use Rattle.h2_server.specs.Sending.{nat_part}
use Rattle.h2_server.specs.Steps.{Steps}

-- how many octets are owed on all streams, but for these that the handler has not used: what was
-- granted and is neither unreturned nor left to the peer
abbrev pub used_in_all : Log → (left : ℤ) → (unused : ℕ) → ℕ
used_in_all log left unused =
    ((reader_granted (log_view log) - reader_due (log_view log)) - nat_part left) - unused

-- Whether credit is due in the connection's window, if there is one.
-- rule: 6.9 (own) Credit is returned by half of a window
abbrev pub is_due_in_all : (left : Option ℤ) → Log → (unused : ℕ) → Bool
is_due_in_all None log unused = false
is_due_in_all (Some left) log unused = is_credit_due (pos (used_in_all log left unused)) left

-- rule: 6.9 (own) Credit is returned by half of a window
abbrev pub is_credit_due_in_all : Log → (unused : ℕ) → Bool
is_credit_due_in_all log unused =
    is_due_in_all (reader_peer_room (log_view log) 0) log unused

-- how many octets of a request's body its handler has not used
abbrev pub unused_of : {W : Type 0} → Option (Exchange W) → ℕ
unused_of None = 0
unused_of (Some exchange) = exchange.unused

-- the same of the request on a stream
abbrev pub unused_at : {W : Type 0} → ℕ → List (ℕ × Exchange W) → ℕ
unused_at id entries = unused_of (value_at id entries)

-- No more than this is owed on each stream, unless 65,536 octets or more wait.
abbrev pub OwesAtMost : Log → (most : ℕ → ℕ) → Type 0
OwesAtMost log most =
    (full_output ≤ waiting log) ⊎ ((id : ℕ) → reader_owed (log_view log) id ≤ most id)

-- Credit has been returned for all that handlers have used: of each stream no more is owed than its
-- handler has not used, unless 65,536 octets or more wait.
-- rule: 6.9 (own) Before a read that may wait credit is returned for all that is used
abbrev pub HasReturnedUsed : {W : Type 0} → Log → List (ℕ × Exchange W) → Type 0
HasReturnedUsed log entries = OwesAtMost log (λ id. unused_at id entries)

-- Whatever has happened at the server, steps were made after which credit has been returned so.
abbrev pub HandlesCredit : {H W : Type 0} → Relations H W → (old_end : End)
    → (old : Handling H W) → (new_end : End) → (new : Handling H W) → Type 0
HandlesCredit rel old_end old new_end new =
    (values : Values) (end : EndLog) → EndRepresents values old_end end
    → (after : EndLog) × Steps rel false after new [] [] end old
    × EndRepresents values new_end after × HasReturnedUsed after.log new.entries

-- What is owed after credit for one stream was returned: on none more than before; and, where that
-- has ended well, on this one no more than so many octets, unless the output is full, as it is
-- where it was.
pub record ReturnsOn (id unused : ℕ) (before after : Log) (result : Result (Unit {0}) Stop)
    : Type 0 where
  pub less : (i : ℕ) → reader_owed (log_view after) i ≤ reader_owed (log_view before) i
  pub full : full_output ≤ waiting before → full_output ≤ waiting after
  pub on : OnOk result ((full_output ≤ waiting after)
      ⊎ (reader_owed (log_view after) id ≤ unused))

-- The same of the code: whatever has happened at the server, steps were made that return it so.
abbrev pub HandlesCreditOn : {H W : Type 0} → Relations H W → (id unused : ℕ) → (old_end : End)
    → Handling H W → (new_end : End) → Result (Unit {0}) Stop → Type 0
HandlesCreditOn rel id unused old_end handling new_end result =
    (values : Values) (end : EndLog) → EndRepresents values old_end end
    → (after : EndLog) × Steps rel false after handling [] [] end handling
    × EndRepresents values new_end after × ReturnsOn id unused end.log after.log result

-- A call of the connection was done, or the output was full.
abbrev pub IsDoneOrFull : Result (Unit {0}) Refusal → Type 0
IsDoneOrFull answer = (answer ≡ Ok (record {})) ⊎ (answer ≡ Err OutputFull)

-- The same of a call of the server.
abbrev pub IsEndDoneOrFull : Result (Unit {0}) EndRefusal → Type 0
IsEndDoneOrFull answer = (answer ≡ Ok (record {})) ⊎ (answer ≡ Err (Conn OutputFull))
