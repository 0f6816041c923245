-- One pass over the streams on which something waits, each of which gets a share (RFC 9113,
-- sections 5.2.1 and 8.1).
use Rattle.std.specs.Prelude.{◌≡◌, ◌≢◌, ◌⊎◌, ◌≤◌, ◌<◌, ◌^◌, ℕ, suc, ◌+◌, Bool, true, false, ◌&&◌}
use Rattle.std.specs.Prelude.{nat_le, nat_lt, ◌==◌, ◌-◌, min, if◌then◌else◌, max, List, [], length}
use Rattle.std.specs.Prelude.{take, Option, Some, None, Result, Ok, Err}
use Rattle.hpack.specs.declared.types.field.Field.{Field}
use Rattle.h2_spec_log.specs.declared.refusal.Refusal.{Refusal}
use Rattle.h2_spec_log.specs.declared.refusal.Refusal.TheVariants.{Closed, OutputFull, Memory}
use Rattle.h2_spec_log.specs.Acts.{Act, IsTypedAct, SendFields, SendData, Count, Done, Refused}
use Rattle.h2_spec_log.specs.CallRules.{reader_room}
use Rattle.h2_spec_log.specs.Limits.{full_output}
use Rattle.h2_spec_log.specs.Log.{Log, active, waiting}
use Rattle.h2_spec_log.specs.LogView.{log_view}
use Rattle.h2_spec_log.specs.LogCalls.{MayAnswer, with_call}
use Rattle.h2_ends.specs.declared.refusal.EndRefusal.{EndRefusal}
use Rattle.h2_ends.specs.declared.refusal.EndRefusal.TheVariants as refusals
use Rattle.h2_ends.specs.declared.span.Turn.{Turn}
use Rattle.h2_ends.specs.Ends.{EndLog, tokens_waiting}
use Rattle.h2_ends.specs.EndTakes.{end_with_log}
use Rattle.h2_ends.specs.EndCalls.{BodyWaits, TrailersWait}
use Rattle.h2_ends.specs.Quiet.{HasRoom}

-- Something waits on an active stream.
-- rule: 8.1 (own) pump_some gives each stream a share, in turn
pub record Waits (end : EndLog) (i : ℕ) : Type 0 where
  pub active : active end.log i ≡ true
  pub some : tokens_waiting end i ≢ []

-- How many octets of a body the share of a stream has at most: where a share of it was cut short,
-- no more than that had left; otherwise as many as this.
abbrev pub sizes_by : Turn → (most : ℕ) → ℕ → ℕ
sizes_by turn most i =
    if i == turn.id && nat_lt 0 turn.rest then min turn.rest most else most

-- how many octets a share has at most by what was asked for: one at least, and no more than go
-- with one call, so that a share that windows let through is not cut
-- rule: 8.1 (own) pump_some gives each stream a share, in turn
abbrev pub share_most : (most : ℕ) → ℕ
share_most most = max (min most full_output) 1

-- the size of a stream's share by that
-- rule: 8.1 (own) pump_some gives each stream a share, in turn
abbrev pub share_size : Turn → (most : ℕ) → ℕ → ℕ
share_size turn most i = sizes_by turn (share_most most) i

-- the call that hands over a share of what is left of a body: the first octets, so many at most.
-- The message ends with them where they are all of it and no trailers follow.
abbrev pub share_act : (most id : ℕ) → List ℕ → (ends : Bool) → Act
share_act most id octets ends =
    SendData id (take most octets) (ends && nat_le (length octets) most)

-- No more octets could go on any stream now: the output is full, or the connection's window is
-- used up.
abbrev pub IsSpent : Log → Type 0
IsSpent log = (full_output ≤ waiting log) ⊎ (HasRoom (reader_room (log_view log) 0) → ⊥)

-- why a pass ends at a stream, and how many octets its share has left
pub data Halt : Type 0 where
  -- fewer octets went than the share has, and no more could go on any stream
  CutShort : (rest : ℕ) → Halt
  -- a call was refused
  Stopped : (refusal : Refusal) (rest : ℕ) → Halt

abbrev pub rest_of : Halt → ℕ
rest_of (CutShort rest) = rest
rest_of (Stopped refusal rest) = rest

-- The calls of one share: octets of the body; and the trailers, once no octets wait. So many
-- octets were sent; and the pass ends there, or goes on to other streams.
-- rule: 8.1 (own) pump_some gives each stream a share, in turn
pub data Shares (most id : ℕ) : (end : EndLog) → (count : ℕ) → Option Halt → (after : EndLog)
    → Type 0 where
  -- all octets of the share went, and others wait; or the message has ended with them
  shares_octets : (end : EndLog) (octets : List ℕ) (ends : Bool) (sent : ℕ)
      → IsTypedAct (share_act most id octets ends) → BodyWaits end id octets ends
      → MayAnswer end.log (share_act most id octets ends) (Count sent)
      → sent ≡ length (take most octets) → (most < length octets) ⊎ (ends ≡ true)
      → Shares most id end sent None
      (end_with_log end (with_call end.log (share_act most id octets ends) (Count sent)))
  -- fewer went, since the stream's own window let no more through
  shares_some : (end : EndLog) (octets : List ℕ) (ends : Bool) (sent : ℕ)
      → IsTypedAct (share_act most id octets ends) → BodyWaits end id octets ends
      → MayAnswer end.log (share_act most id octets ends) (Count sent)
      → sent < length (take most octets)
      → (IsSpent (with_call end.log (share_act most id octets ends) (Count sent)) → ⊥)
      → Shares most id end sent None
      (end_with_log end (with_call end.log (share_act most id octets ends) (Count sent)))
  -- fewer went, and no more could go on any stream
  share_is_cut : (end : EndLog) (octets : List ℕ) (ends : Bool) (sent : ℕ)
      → IsTypedAct (share_act most id octets ends) → BodyWaits end id octets ends
      → MayAnswer end.log (share_act most id octets ends) (Count sent)
      → sent < length (take most octets)
      → IsSpent (with_call end.log (share_act most id octets ends) (Count sent))
      → Shares most id end sent (Some (CutShort (most - sent)))
      (end_with_log end (with_call end.log (share_act most id octets ends) (Count sent)))
  -- the rest of the body went, and trailers are next
  shares_rest : (end : EndLog) (octets : List ℕ) (halt : Option Halt) (after : EndLog)
      → IsTypedAct (share_act most id octets false) → BodyWaits end id octets false
      → MayAnswer end.log (share_act most id octets false) (Count (length octets))
      → length octets ≤ most
      → Shares most id (end_with_log end
      (with_call end.log (share_act most id octets false) (Count (length octets)))) 0 halt after
      → Shares most id end (length octets) halt after
  shares_trailers : (end : EndLog) (list : List Field) → IsTypedAct (SendFields id list true)
      → TrailersWait end id list → MayAnswer end.log (SendFields id list true) Done
      → Shares most id end 0 None
      (end_with_log end (with_call end.log (SendFields id list true) Done))
  octets_refused : (end : EndLog) (octets : List ℕ) (ends : Bool) (refusal : Refusal)
      → IsTypedAct (share_act most id octets ends) → BodyWaits end id octets ends
      → MayAnswer end.log (share_act most id octets ends) (Refused refusal)
      → Shares most id end 0 (Some (Stopped refusal most))
      (end_with_log end (with_call end.log (share_act most id octets ends) (Refused refusal)))
  list_refused : (end : EndLog) (list : List Field) (refusal : Refusal)
      → IsTypedAct (SendFields id list true) → TrailersWait end id list
      → MayAnswer end.log (SendFields id list true) (Refused refusal)
      → Shares most id end 0 (Some (Stopped refusal 0))
      (end_with_log end (with_call end.log (SendFields id list true) (Refused refusal)))

-- The stream is the first one of those from a number up to another on which something waits.
pub record IsFirst (end : EndLog) (low high id : ℕ) : Type 0 where
  pub waits : Waits end id
  pub from : low ≤ id
  pub below : id < high
  pub none : (j : ℕ) → low ≤ j → j < id → Waits end j → ⊥

-- The shares of the streams from a number up to another, in rising order, each of the size that
-- its stream has: so many octets were sent; and where the pass ended there, at which stream, and
-- why.
-- rule: 8.1 (own) pump_some gives each stream a share, in turn
pub data PassesOver (sizes : ℕ → ℕ) : (end : EndLog) → (low high count : ℕ) → Option (ℕ × Halt)
    → (after : EndLog) → Type 0 where
  passes_no_more : (end : EndLog) (low high : ℕ)
      → ((j : ℕ) → low ≤ j → j < high → Waits end j → ⊥) → PassesOver sizes end low high 0 None end
  passes_on : (end between : EndLog) (low high id sent more : ℕ) (halt : Option (ℕ × Halt))
      (after : EndLog) → IsFirst end low high id
      → Shares (sizes id) id end sent None between
      → PassesOver sizes between (suc id) high more halt after
      → PassesOver sizes end low high (sent + more) halt after
  passes_halt : (end : EndLog) (low high id sent : ℕ) (halt : Halt) (after : EndLog)
      → IsFirst end low high id → Shares (sizes id) id end sent (Some halt) after
      → PassesOver sizes end low high sent (Some (id, halt)) after

-- numbers of streams are below this
abbrev pub numbers : ℕ
numbers = 2 ^ 32

-- A pass: the streams from the turn up, and then those below it.
-- rule: 8.1 (own) pump_some gives each stream a share, in turn
pub data Passes (sizes : ℕ → ℕ) (end : EndLog) : (count : ℕ) → Option (ℕ × Halt) → (after : EndLog)
    → Type 0 where
  passes_part : (count id : ℕ) (halt : Halt) (after : EndLog)
      → PassesOver sizes end end.turn.id numbers count (Some (id, halt)) after
      → Passes sizes end count (Some (id, halt)) after
  passes_round : (above below : ℕ) (between : EndLog) (halt : Option (ℕ × Halt)) (after : EndLog)
      → PassesOver sizes end end.turn.id numbers above None between
      → PassesOver sizes between 0 end.turn.id below halt after
      → Passes sizes end (above + below) halt after

-- with which stream the next pass begins: with the one at which this one ended, which has this
-- left of its share; otherwise with the same as this one, which gets a whole share
-- rule: 8.1 (own) pump_some gives each stream a share, in turn
abbrev pub next_turn : Turn → Option (ℕ × Halt) → Turn
next_turn turn None = record { id = turn.id; rest = 0 }
next_turn turn (Some (id, halt)) = record { id = id; rest = rest_of halt }

-- the end after a pass that has ended so
abbrev pub end_with_turn : EndLog → Option (ℕ × Halt) → EndLog
end_with_turn end halt = record end { turn = next_turn end.turn halt }

-- The pass was over, or it ended since no more could go.
unfoldable pub IsNoError : Option (ℕ × Halt) → Type 0
IsNoError None = Unit {0}
IsNoError (Some (id, CutShort rest)) = Unit {0}
IsNoError (Some (id, Stopped refusal rest)) = refusal ≡ OutputFull

-- What `pump_some` may answer: how many octets of bodies were sent; or C1 at once; or C12 once the
-- connection has refused a call for it.
-- rule: 8.1 (own) pump_some gives each stream a share, in turn
unfoldable pub MayPumpSome : ℕ → EndLog → Result ℕ EndRefusal → EndLog → Type 0
MayPumpSome most end (Ok count) after =
    (end.log.failed ≡ None) × (halt : Option (ℕ × Halt)) × (passed : EndLog)
    × Passes (share_size end.turn most) end count halt passed × IsNoError halt
    × (after ≡ end_with_turn passed halt)
MayPumpSome most end (Err (refusals.Conn Closed)) after =
    (end.log.failed ≢ None) × (after ≡ end)
MayPumpSome most end (Err (refusals.Conn Memory)) after =
    (end.log.failed ≡ None) × (count id rest : ℕ) × (passed : EndLog)
    × Passes (share_size end.turn most) end count (Some (id, Stopped Memory rest)) passed
    × (after ≡ end_with_turn passed (Some (id, Stopped Memory rest)))
MayPumpSome most end (Err other) after = ⊥
