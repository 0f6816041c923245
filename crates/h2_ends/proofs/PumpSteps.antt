-- The calls of a pump, one more at their end; and which streams come next.
use Rattle.h2_ends.proofs.Names
use Names.{◌≡◌, ◌⊎◌, inl, inr, ℕ, ◌+◌, ◌<◌, ◌≤◌, true, false, Option, Some, None, subst, arith}
use Names.{ltb-true, ltb-false, eqb-true, cases_Bool, false_from_ne_true, Refusal, Log, active}
use Names.{End, EndLog, InSpan, IsInStep, KeepsActiveOnly, keeps_of, Pumps, sends_nothing}
use Names.{sends_data, Span, Spans, Stream, IsNextKept, nat_lt, sends_trailers, PumpsSoFar}
use Names.{active_parts}
use Rattle.h2_ends.specs.EndCalls.{pumps_no_more, pumps_data, pumps_trailers}

-- Calls after them are calls of the pump.
pub pumps_after : (start now after : EndLog) (count more : ℕ) (refused : Option Refusal)
    → PumpsSoFar start count now → Pumps now more refused after
    → Pumps start (count + more) refused after
pumps_after start _ after _ more refused sends_nothing pumps =
    let same : more ≡ 0 + more = omega arith in
    subst (λ (n : ℕ). Pumps start n refused after) same pumps
pumps_after start _ after _ more refused (sends_data {count = count} {now = now} sending id sent
    octets ends next typed waits may) pumps =
    let same : count + (sent + more) ≡ (count + sent) + more = omega arith in
    subst (λ (n : ℕ). Pumps start n refused after) same
    (pumps_after start now after count (sent + more) refused sending
    (pumps_data now id sent more octets ends refused after next typed waits may pumps))
pumps_after start _ after count more refused (sends_trailers {now = now} sending id list next typed
    wait may) pumps =
    pumps_after start now after count more refused sending
    (pumps_trailers now id more list refused after next typed wait may pumps)

-- So are they themselves,
pub pumps_all : (start now : EndLog) (count : ℕ) → PumpsSoFar start count now
    → Pumps start count None now
pumps_all start now count sending =
    let same : count + 0 ≡ count = omega arith in
    subst (λ (n : ℕ). Pumps start n None now) same
    (pumps_after start now now count 0 None sending (pumps_no_more now))

-- and with one that was refused.
pub pumps_until : (start now after : EndLog) (count : ℕ) (refusal : Refusal)
    → PumpsSoFar start count now → Pumps now 0 (Some refusal) after
    → Pumps start count (Some refusal) after
pumps_until start now after count refusal sending last =
    let same : count + 0 ≡ count = omega arith in
    subst (λ (n : ℕ). Pumps start n (Some refusal) after) same
    (pumps_after start now after count 0 (Some refusal) sending last)

-- A number is at most another one, or above it.
pub up_to_or : (j last : ℕ) → (j ≤ last) ⊎ (last < j)
up_to_or j last = elim (cases_Bool (nat_lt last j)) [
  | inl above ↦ inr (ltb-true last j above)
  | inr low ↦ inl (ltb-false last j low)
]

-- No stream has the number 0.
pub zero_inactive : (log : Log) → active log 0 ≡ false
zero_inactive log = false_from_ne_true _ (λ alive.
    let odd = (active_parts log.role 0 log.received log.sent log.reported alive).odd in
    let wrong : 0 ≡ 1 = eqb-true 0 1 odd in omega (arith, wrong))

-- The next stream is active, and none is between.
pub record IsNext (log : Log) (last id : ℕ) : Type 0 where
  pub alive : active log id ≡ true
  pub above : last < id
  pub between : (j : ℕ) → last < j → j < id → active log j ≡ false

-- Nothing is active of which nothing is kept, as long as the connection is up.
pub none_kept : (spans : Spans) (stream : Option Stream) (happened : EndLog) (i : ℕ)
    → IsInStep spans stream happened i → happened.log.failed ≡ None → stream ≡ None
    → active happened.log i ≡ false
none_kept spans stream happened i so up none =
    false_from_ne_true _ (λ alive. so.all up alive none)

-- The next stream of which something is kept is the next that is active.
pub next_kept : (spans : Spans) (end : End) (span : Span) (happened : EndLog) (last id : ℕ)
    → ((i : ℕ) → IsInStep spans (keeps_of end i) happened i)
    → KeepsActiveOnly happened.log (keeps_of end) → happened.log.failed ≡ None
    → IsNextKept end span last id → IsNext happened.log last id
next_kept spans end span happened last id in_step only up next =
    record {
      alive = only id next.kept;
      above = next.higher;
      between = λ j above below.
          none_kept spans (keeps_of end j) happened j (in_step j) up (next.between j above below);
    }

-- Where nothing of a span is kept above a number, nothing is active there.
pub none_active : (spans : Spans) (end : End) (happened : EndLog) (last : ℕ) (span : Span)
    → ((i : ℕ) → IsInStep spans (keeps_of end i) happened i) → happened.log.failed ≡ None
    → ((i : ℕ) → last < i → InSpan span i → keeps_of end i ≡ None)
    → (i : ℕ) → last < i → InSpan span i → active happened.log i ≡ false
none_active spans end happened last span in_step up none i above within =
    none_kept spans (keeps_of end i) happened i (in_step i) up (none i above within)
