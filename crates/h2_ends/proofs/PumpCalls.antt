-- A pump, from its start to its end: what holds as it comes to a stream and passes it.
use Rattle.h2_ends.proofs.Names
use Names.{◌≡◌, ◌≢◌, ◌⊎◌, inl, inr, ℕ, ◌+◌, ◌-◌, ◌<◌, ◌≤◌, true, false, Option, Some, None, refl}
use Names.{sym, ap, ◌∙◌, subst, arith, both_ways, cases_eq, Role, OutputFull, Memory, Closed}
use Names.{Values, full_output, Log, active, waiting, IsOver, Conn, End, Stream, Waiting, Span}
use Names.{Spans, EndLog, IsStuckOn, Pumps, EndRepresents, IsKept, IsInStep, InSpan, WaitsWithin}
use Names.{KeepsActive, outgoing_in, IsPumping, KeepsActiveOnly, sends_nothing, PumpGoes}
use Names.{NoneWaits, WaitsAsBefore, keeps_of, MayPump, Ok, Err, IsStuckBelow}
use Rattle.h2_laws_machine.proofs.BoundedLogs.{few_wait}
use Rattle.h2_ends.proofs.PumpEnds.{by_end, to_end, stuck_unless_waiting}
use Rattle.h2_ends.proofs.PumpSteps.{IsNext, pumps_all, zero_inactive, up_to_or}
use Rattle.h2_ends.proofs.PumpStuck.{stuck_inactive}
use Rattle.h2_ends.specs.declared.outgoing.Outgoing.TheVariants as outgoings
use Rattle.h2_ends.specs.declared.refusal.EndRefusal.TheVariants as refusals

-- So few octets were sent that their count fits a number of 64 bits.
pub pump_is_short : (values : Values) (start : EndLog) (count : ℕ) (conn : Conn) (role : Role)
    (spans : Spans) (keeps : ℕ → Option Stream) (happened : EndLog) (id : ℕ)
    → IsPumping values start count conn role spans keeps happened id → count ≤ 262161
pump_is_short values start count conn role spans keeps happened id is =
    let few = few_wait _ values happened.log is.represents.represents.machine.came in
    let sum = is.sum in omega (arith, few, sum)

-- It is the same where the same is kept.
pub pump_keeps : (values : Values) (start : EndLog) (count : ℕ) (conn : Conn) (role : Role)
    (spans : Spans) (keeps other : ℕ → Option Stream) (happened : EndLog) (id : ℕ)
    → IsPumping values start count conn role spans keeps happened id
    → ((i : ℕ) → other i ≡ keeps i)
    → IsPumping values start count conn role spans other happened id
pump_keeps values start count conn role spans keeps other happened id is same =
    record {
      represents = record {
        represents = is.represents.represents;
        same_role = is.represents.same_role;
        streams = λ i. subst (λ (x : Option Stream). IsOver happened.log i ⊎ IsKept happened i x)
            (sym (same i)) (is.represents.streams i);
        sent = is.represents.sent;
      };
      in_step = λ i. subst (λ (x : Option Stream). IsInStep spans x happened i) (sym (same i))
          (is.in_step i);
      calls = is.calls;
      up = is.up;
      sum = is.sum;
      below = is.below;
    }

-- A pump passes a stream, once nothing could go on it.
stuck_to : (happened : EndLog) (id j : ℕ) → IsStuckBelow happened id → IsStuckOn happened id
    → j < id + 1 → IsStuckOn happened j
stuck_to happened id j below stuck low = elim (cases_eq j id) [
  | inl same ↦ subst (λ (i : ℕ). IsStuckOn happened i) (sym same) stuck
  | inr other ↦ below j (omega (arith, low, other))
]

pub pump_passes : (values : Values) (start : EndLog) (count : ℕ) (conn : Conn) (role : Role)
    (spans : Spans) (keeps : ℕ → Option Stream) (happened : EndLog) (id : ℕ)
    → IsPumping values start count conn role spans keeps happened id → IsStuckOn happened id
    → IsPumping values start count conn role spans keeps happened (id + 1)
pump_passes values start count conn role spans keeps happened id is stuck =
    record {
      represents = is.represents;
      in_step = is.in_step;
      calls = is.calls;
      up = is.up;
      sum = is.sum;
      below = λ j low. stuck_to happened id j is.below stuck low;
    }

-- On the streams below a number a message waits only in a span.
abbrev pub WaitsIn : Span → (ℕ → Option Stream) → ℕ → Type 0
WaitsIn span keeps id = (i : ℕ) → i < id → WaitsWithin span (keeps i) i

-- Where a message waits, something is kept.
kept_waits : (stream : Option Stream) (waits : Waiting)
    → outgoing_in stream ≡ outgoings.Waiting waits → stream ≢ None
kept_waits None waits is = absurd (wrong is)
  where
    wrong : outgoings.NotGiven ≡ outgoings.Waiting waits → ⊥
    wrong same = cc
kept_waits (Some stream) waits is = λ none. cc

-- The stream is active then.
pub active_waits : (log : Log) (i : ℕ) (stream : Option Stream) (waits : Waiting)
    → KeepsActive log stream i → outgoing_in stream ≡ outgoings.Waiting waits
    → active log i ≡ true
active_waits log i stream waits keeps is = keeps (kept_waits stream waits is)

-- So none waits on a stream that isn't.
none_inactive : (log : Log) (i : ℕ) (stream : Option Stream) (waits : Waiting)
    → KeepsActive log stream i → active log i ≡ false
    → outgoing_in stream ≢ outgoings.Waiting waits
none_inactive log i stream waits keeps over is =
    both_ways _ over (active_waits log i stream waits keeps is)

-- The span begins above the number at which the pump does, unless both are 0.
none_at_first : (values : Values) (end : End) (start : EndLog) (j : ℕ)
    → EndRepresents values end start → j < (end.spans.waiting.first - 1) + 1 → NoneWaits end j
none_at_first values end start j is low = λ waits waiting_is. elim (cases_eq j 0) [
  | inl zero ↦ none_inactive start.log j (keeps_of end j) waits (is.active j)
      (subst (λ (i : ℕ). active start.log i ≡ false) (sym zero) (zero_inactive start.log))
      waiting_is
  | inr some ↦ let here = ((is.in_step j).within waits waiting_is).first in
      omega (arith, here, low, some)
]

module _ (values : Values) (start : EndLog) where
  -- It begins where no message waits on any lower stream,
  pub pump_begins : (end : End) → EndRepresents values end start → start.log.failed ≡ None
      → PumpGoes values start 0 end start ((end.spans.waiting.first - 1) + 1)
  pump_begins end is up =
      record {
        represents = by_end values end start is.streams;
        in_step = is.in_step;
        calls = sends_nothing;
        up = up;
        sum = omega arith;
        below = λ j low. stuck_unless_waiting values end.conn end.role (keeps_of end) start j
            (by_end values end start is.streams) (none_at_first values end start j is low);
      }

  pub waits_at_first : (end : End) (left : Span) → EndRepresents values end start
      → WaitsIn left (keeps_of end) ((end.spans.waiting.first - 1) + 1)
  waits_at_first end left is = λ i low waits waiting_is.
      absurd (none_at_first values end start i is low waits waiting_is)

  -- comes to the next active stream,
  pub pump_comes : (count : ℕ) (end : End) (happened : EndLog) (last id : ℕ)
      → PumpGoes values start count end happened (last + 1)
      → IsNext happened.log last id → PumpGoes values start count end happened id
  pump_comes count end happened last id is next =
      record {
        represents = is.represents;
        in_step = is.in_step;
        calls = is.calls;
        up = is.up;
        sum = is.sum;
        below = λ j low. elim (up_to_or j last) [
          | inl here ↦ is.below j (omega (arith, here))
          | inr above ↦ stuck_inactive happened j (next.between j above low)
        ];
      }

  pub waits_between : (end : End) (left : Span) (happened : EndLog) (last id : ℕ)
      → KeepsActiveOnly happened.log (keeps_of end) → IsNext happened.log last id
      → WaitsIn left (keeps_of end) (last + 1) → WaitsIn left (keeps_of end) id
  waits_between end left happened last id active next before = λ i low waits waiting_is.
      elim (up_to_or i last) [
        | inl here ↦ before i (omega (arith, here)) waits waiting_is
        | inr above ↦ absurd (none_inactive happened.log i (keeps_of end i) waits (active i)
            (next.between i above low) waiting_is)
      ]

  -- and ends where none of the span is left,
  none_above : (count : ℕ) (end : End) (happened : EndLog) (last i : ℕ)
      → PumpGoes values start count end happened (last + 1)
      → KeepsActiveOnly happened.log (keeps_of end)
      → ((j : ℕ) → last < j → InSpan end.spans.waiting j → active happened.log j ≡ false)
      → last < i → NoneWaits end i
  none_above count end happened last i is active none above = λ waits waiting_is.
      none_inactive happened.log i (keeps_of end i) waits (active i)
      (none i above ((is.in_step i).within waits waiting_is)) waiting_is

  pub all_stuck : (count : ℕ) (end : End) (happened : EndLog) (last : ℕ)
      → PumpGoes values start count end happened (last + 1)
      → KeepsActiveOnly happened.log (keeps_of end)
      → ((j : ℕ) → last < j → InSpan end.spans.waiting j → active happened.log j ≡ false)
      → (i : ℕ) → IsStuckOn happened i
  all_stuck count end happened last is active none i = elim (up_to_or i last) [
    | inl here ↦ is.below i (omega (arith, here))
    | inr above ↦ stuck_unless_waiting values end.conn end.role (keeps_of end) happened i
        is.represents (none_above count end happened last i is active none above)
  ]

  pub pump_ends : (count : ℕ) (end : End) (happened : EndLog) (last : ℕ)
      → start.log.failed ≡ None → PumpGoes values start count end happened (last + 1)
      → KeepsActiveOnly happened.log (keeps_of end)
      → ((j : ℕ) → last < j → InSpan end.spans.waiting j → active happened.log j ≡ false)
      → MayPump start (Ok count) happened
  unfolding MayPump
  pump_ends count end happened last up is active none = (
    up,
    inr (
      pumps_all start happened count is.calls,
      all_stuck count end happened last is active none,
    ),
  )

  -- where what waits is in the span of those that are stuck,
  pub ends_represent : (count : ℕ) (end : End) (left : Span) (happened : EndLog) (last : ℕ)
      → PumpGoes values start count end happened (last + 1)
      → KeepsActiveOnly happened.log (keeps_of end)
      → ((j : ℕ) → last < j → InSpan end.spans.waiting j → active happened.log j ≡ false)
      → WaitsIn left (keeps_of end) (last + 1)
      → EndRepresents values (record end { spans = record end.spans { waiting = left } }) happened
  ends_represent count end left happened last is active none before =
      record {
        streams = to_end values (record end { spans = record end.spans { waiting = left } })
            (keeps_of end) happened is.represents (λ i. refl);
        in_step = λ i. record {
          all = (is.in_step i).all;
          handed = (is.in_step i).handed;
          within = λ waits waiting_is. elim (up_to_or i last) [
            | inl here ↦ before i (omega (arith, here)) waits waiting_is
            | inr above ↦ absurd (none_above count end happened last i is active none above waits
                waiting_is)
          ];
          owes = (is.in_step i).owes;
          turn = (is.in_step i).turn;
          malformed = (is.in_step i).malformed;
        };
        active = active;
      }

  -- where the output is full, or where memory was refused.
  pub pump_is_full : (count : ℕ) (after : EndLog) → start.log.failed ≡ None
      → Pumps start count (Some OutputFull) after → full_output ≤ waiting after.log
      → MayPump start (Ok count) after
  unfolding MayPump
  pump_is_full count after up calls full = (up, inl (calls, full))

  pub pump_lacks : (count : ℕ) (after : EndLog) → start.log.failed ≡ None
      → Pumps start count (Some Memory) after → MayPump start (Err (refusals.Conn Memory)) after
  unfolding MayPump
  pump_lacks count after up calls = (up, count, calls)

  pub pump_is_closed : start.log.failed ≢ None
      → MayPump start (Err (refusals.Conn Closed)) start
  unfolding MayPump
  pump_is_closed down = (down, refl)

-- Past a stream, what waits on the streams below is in the span still: no message waits on the
-- stream, or it is in the span.
pub waits_past : (old new : End) (left more : Span) (id : ℕ) → WaitsAsBefore old new id
    → WaitsIn left (keeps_of old) id → ((i : ℕ) → InSpan left i → InSpan more i)
    → WaitsWithin more (keeps_of new id) id → WaitsIn more (keeps_of new) (id + 1)
waits_past old new left more id as_before before wider here = λ i low. elim (cases_eq i id) [
  | inl same ↦ subst (λ (j : ℕ). WaitsWithin more (keeps_of new j) j) (sym same) here
  | inr other ↦ λ waits waiting_is. wider i (before i (omega (arith, low, other)) waits
      (ap outgoing_in (sym (as_before.others i other)) ∙ waiting_is))
]
