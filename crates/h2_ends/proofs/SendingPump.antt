-- The loop of a pump, whatever had happened when it began.
use Rattle.h2_ends.proofs.Names.{◌≡◌, ◌⊎◌, inl, inr, ℕ, ◌+◌, ◌-◌, true, false, Option, Some, None}
use Rattle.h2_ends.proofs.Names.{refl, sym, ap, ◌∙◌, subst, Code, Refusal, Closed, Values, End}
use Rattle.h2_ends.proofs.Names.{SendState, Idle, Sent, Stuck, Full, Span, EndLog, Pumps, MayPump}
use Rattle.h2_ends.proofs.Names.{KeepsActiveOnly, EndRepresents, RepresentsBut, InSpan}
use Rattle.h2_ends.proofs.Names.{outgoing_in, PumpsOn, PumpGoes, NoneWaits, WaitsAsBefore}
use Rattle.h2_ends.proofs.Names.{IsNextIn, keeps_of, HasPumped, is_some, Ok, Err, EndPumps, Result}
use Rattle.h2_ends.proofs.PumpCalls.{WaitsIn, pump_begins, waits_at_first, pump_comes}
use Rattle.h2_ends.proofs.PumpCalls.{waits_between, waits_past, pump_ends, ends_represent}
use Rattle.h2_ends.proofs.PumpCalls.{pump_is_full, pump_lacks, pump_is_closed}
use Rattle.h2_ends.proofs.PumpEnds.{by_end, to_end}
use Rattle.h2_ends.proofs.PumpSteps.{next_kept, none_active}
use Rattle.h2_ends.proofs.SendingRelease.{ReadsFailed, up_by, down_by}
use Rattle.h2_ends.specs.declared.refusal.EndRefusal.TheVariants as refusals
use Rattle.h2_ends.specs.declared.outgoing.Outgoing.TheVariants as outgoings

-- The pump has sent so many octets, and nothing could go on streams up to a number; of these a
-- message waits only on those of a span.
pub record IsPast (values : Values) (start : EndLog) (count : ℕ) (now : End) (left : Span)
    (happened : EndLog) (last : ℕ) : Type 0 where
  pub goes : PumpGoes values start count now happened (last + 1)
  pub active : KeepsActiveOnly happened.log (keeps_of now)
  pub waits : WaitsIn left (keeps_of now) (last + 1)

abbrev pub PumpsTo : (old now : End) (left : Span) (count last : ℕ) → Type 0
PumpsTo old now left count last =
    (values : Values) (start : EndLog) → EndRepresents values old start
    → (start.log.failed ≡ None)
    × ((happened : EndLog) × IsPast values start count now left happened last)

-- The connection had failed from the start,
pub pump_closed : (old : End) (failed : Option Code) → ReadsFailed old.conn failed
    → true ≡ is_some failed → EndPumps old (Err (refusals.Conn Closed)) old
pump_closed old failed reads down = λ values start is. (
  start,
  pump_is_closed values start
      (λ none. down_by failed down (reads values start.log is.streams.conn ∙ none)),
  is,
)

-- or the pump begins,
pub begins_pump : (old : End) (failed : Option Code) → ReadsFailed old.conn failed
    → false ≡ is_some failed → (left : Span) (last : ℕ) → last ≡ old.spans.waiting.first - 1
    → PumpsTo old old left 0 last
begins_pump old failed reads up left last first = λ values start is.
    let none = sym (reads values start.log is.streams.conn) ∙ up_by failed up in (
      none,
      (
        start,
        subst (λ (n : ℕ). IsPast values start 0 old left start n) (sym first) (record {
          goes = pump_begins values start old is none;
          active = is.active;
          waits = waits_at_first values start old left is;
        }),
      ),
    )

-- No message waits where none did, or nothing is kept.
pub forgets_none : (new forgotten : End) (id : ℕ)
    → (keeps_of forgotten id ≡ keeps_of new id) ⊎ (keeps_of forgotten id ≡ None)
    → NoneWaits new id → NoneWaits forgotten id
forgets_none new forgotten id (inl same) none waits is =
    none waits (ap outgoing_in (sym same) ∙ is)
forgets_none new forgotten id (inr gone) none waits is = wrong (ap outgoing_in (sym gone) ∙ is)
  where
    wrong : outgoings.NotGiven ≡ outgoings.Waiting waits → ⊥
    wrong same = cc

module _ (old now : End) (left : Span) (count last : ℕ) (goes : PumpsTo old now left count last)
  where
    module _ (id : ℕ) (next : IsNextIn now now.spans.waiting last (Some id)) (new : End)
        (sum : ℕ) where
      -- comes to a stream, on which it sends,
      comes_there : (result : Result SendState Refusal) → PumpsOn now id count result new sum
          → (values : Values) (start : EndLog) → EndRepresents values old start
          → (start.log.failed ≡ None) × WaitsIn left (keeps_of now) id
          × ((after : EndLog) × HasPumped values start id result sum new after)
      comes_there result sends = λ values start is.
          let (up, (happened, so)) = goes values start is in
          let live = next_kept now.spans now now.spans.waiting happened last id so.goes.in_step
          so.active so.goes.up next.0 in (
            up,
            waits_between values start now left happened last id so.active live so.waits,
            sends values start happened
                (pump_comes values start count now happened last id so.goes live) so.active
                live.alive,
          )

      at_that : (progress other : SendState) → progress ≡ other
          → PumpsOn now id count (Ok progress) new sum → PumpsOn now id count (Ok other) new sum
      at_that progress other same sends =
          subst (λ (p : SendState). PumpsOn now id count (Ok p) new sum) same sends

      -- where nothing waits,
      pub past_idle : (progress : SendState) → progress ≡ Idle
          → PumpsOn now id count (Ok progress) new sum → WaitsAsBefore now new id
          → PumpsTo old new left sum id
      unfolding HasPumped
      past_idle progress same sends as_before = λ values start is.
          let (up, before, (after, gone)) = comes_there (Ok Idle)
          (at_that progress Idle same sends) values start is in (
            up,
            (
              after,
              record {
                goes = gone.0;
                active = gone.1;
                waits = waits_past now new left left id as_before before (λ i here. here)
                    (λ waits waiting_is. absurd (gone.2 waits waiting_is));
              },
            ),
          )

      -- no more can go,
      pub past_stuck : (progress : SendState) → progress ≡ Stuck
          → PumpsOn now id count (Ok progress) new sum → WaitsAsBefore now new id
          → (more : Span) → InSpan more id → ((i : ℕ) → InSpan left i → InSpan more i)
          → PumpsTo old new more sum id
      unfolding HasPumped
      past_stuck progress same sends as_before more here wider = λ values start is.
          let (up, before, (after, gone)) = comes_there (Ok Stuck)
          (at_that progress Stuck same sends) values start is in (
            up,
            (
              after,
              record {
                goes = gone.0;
                active = gone.1;
                waits = waits_past now new left more id as_before before wider
                    (λ waits waiting_is. here);
              },
            ),
          )

      -- or all is sent, and the stream may be forgotten,
      pub past_sent : (progress : SendState) → progress ≡ Sent
          → PumpsOn now id count (Ok progress) new sum → WaitsAsBefore now new id
          → (forgotten : End) → WaitsAsBefore new forgotten id
          → (keeps_of forgotten id ≡ keeps_of new id) ⊎ (keeps_of forgotten id ≡ None)
          → ((values : Values) (end : EndLog) → RepresentsBut values new end id
          → EndRepresents values forgotten end) → PumpsTo old forgotten left sum id
      unfolding HasPumped
      past_sent progress same sends as_before forgotten forgets one represents = λ values start is.
          let (up, before, (after, gone)) = comes_there (Ok Sent)
          (at_that progress Sent same sends) values start is in
          let there = represents values after (record {
            streams = to_end values new (keeps_of new) after gone.0.represents (λ i. refl);
            in_step = gone.0.in_step;
            active = gone.1;
          }) in (
            up,
            (
              after,
              record {
                goes = record {
                  represents = by_end values forgotten after there.streams;
                  in_step = there.in_step;
                  calls = gone.0.calls;
                  up = gone.0.up;
                  sum = gone.0.sum;
                  below = gone.0.below;
                };
                active = there.active;
                waits = waits_past now forgotten left left id (record {
                  spans = forgets.spans ∙ as_before.spans;
                  others = λ i other. forgets.others i other ∙ as_before.others i other;
                }) before (λ i here. here) (λ waits waiting_is. absurd
                    (forgets_none new forgotten id one gone.2 waits waiting_is));
              },
            ),
          )

      -- until the output is full,
      pub pump_full : (progress : SendState) → progress ≡ Full
          → PumpsOn now id count (Ok progress) new sum → EndPumps old (Ok sum) new
      unfolding HasPumped
      pump_full progress same sends = λ values start is.
          let (up, before, (after, ended)) = comes_there (Ok Full)
          (at_that progress Full same sends) values start is in (
            after,
            pump_is_full values start sum after up ended.0.calls ended.1,
            ended.0.represents,
          )

      -- memory is refused,
      pub pump_refused : (refusal : Refusal) → PumpsOn now id count (Err refusal) new sum
          → EndPumps old (Err (refusals.Conn refusal)) new
      unfolding HasPumped
      pump_refused refusal sends = λ values start is.
          let (up, before, (after, ended)) = comes_there (Err refusal) sends values start is in (
            after,
            subst (λ (r : Refusal). MayPump start (Err (refusals.Conn r)) after) (sym ended.1)
                (pump_lacks values start sum after up (subst (λ (r : Refusal).
                Pumps start sum (Some r) after) ended.1 ended.0.calls)),
            ended.0.represents,
          )

    -- or no stream of the span is left.
    pub pump_over : IsNextIn now now.spans.waiting last None
        → EndPumps old (Ok count) (record now { spans = record now.spans { waiting = left } })
    pump_over next = λ values start is.
        let (up, (happened, so)) = goes values start is in
        let none = none_active now.spans now happened last now.spans.waiting so.goes.in_step
        so.goes.up next.1 in (
          happened,
          pump_ends values start count now happened last up so.goes so.active none,
          ends_represent values start count now left happened last so.goes so.active none so.waits,
        )
