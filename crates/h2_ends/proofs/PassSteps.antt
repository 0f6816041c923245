-- A pass over a span of streams: what holds as it comes to a stream and passes it, and at its end.
use Rattle.h2_ends.proofs.Names
use Names.{◌≡◌, ◌≢◌, ◌⊎◌, inl, inr, ℕ, suc, ◌+◌, ◌<◌, ◌≤◌, true, false, Option, Some, None, refl}
use Names.{sym, ap, ◌∙◌, subst, arith, both_ways, cases_eq, Values, active, waiting, Refusal, End}
use Names.{Stream, Waiting, Span, EndLog, SendState, Idle, Sent, Stuck, Full, Result, Ok, Err}
use Names.{EndRepresents, RepresentsBut, InSpan, WaitsWithin, WaitsAsBefore, Spans, IsNextIn}
use Names.{keeps_of, outgoing_in}
use Rattle.std.specs.Prelude.{max}
use Rattle.h2_ends.specs.declared.passing.Pass.{Pass}
use Rattle.h2_ends.specs.Passes.{Waits, Halt, Stopped, Shares, PassesOver, IsFirst, passes_no_more}
use Rattle.h2_ends.specs.Passes.{passes_on, passes_halt}
unfoldable use Rattle.h2_ends.specs.Passing.{IsShared, IsPassed}
use Rattle.h2_ends.specs.Passing.{GivesShare, HasShare, IsSpanOf, HasHalted, PassesSpan, size_of}
use Rattle.h2_ends.proofs.PumpCalls.{active_waits}
use Rattle.h2_ends.proofs.PumpSteps.{none_kept, up_to_or, zero_inactive}
use Rattle.h2_ends.proofs.SendingPump.{forgets_none}
use Rattle.h2_ends.specs.declared.outgoing.Outgoing.TheVariants as outgoings
use Rattle.h2_ends.proofs.PassBegins.{halted_end, turned, same_pass, same_sizes, passes_from}
use Rattle.h2_ends.proofs.PassBegins.{IsWithin, PassGoes, within_by, above_zero}

module _ (old : End) (span : Span) (pass : Pass) (now : End) (then : Pass) (last : ℕ)
    (so : PassGoes old span pass now then last) where
  -- The pass comes to the next stream.
  module _ (id : ℕ) (next : IsNextIn now span last (Some id)) (result : Result SendState Refusal)
      (new : End) (given : Pass) (gives : GivesShare now id then result new given) where
    -- what holds there
    record Comes (values : Values) (happened : EndLog) (low high : ℕ) : Type 0 where
      pub so_far : EndLog
      pub is : IsWithin values old happened low high pass now then last so_far
      pub after : EndLog
      pub shared : IsShared values so_far id then result new given after
      pub from : low ≤ id
      pub below : id < high
      pub none : (j : ℕ) → last < j → j < id → Waits so_far j → ⊥

    comes : (values : Values) (happened : EndLog) (low high : ℕ)
        → EndRepresents values old happened → happened.log.failed ≡ None
        → pass.count ≤ waiting happened.log → IsSpanOf old.spans.waiting span low high
        → Comes values happened low high
    comes values happened low high is up few covers =
        let (so_far, within) = so.within values happened low high is up few covers in
        let one = next.0 in
        let alive = within.represents.active id one.kept in
        let (after, shared) = gives.shared values so_far within.represents within.up alive
        within.few in
        let higher = one.higher in
        let above = so.above in
        let here = covers.within id (omega (arith, higher)) (record {
          first = omega (arith, higher, above);
          last = one.within;
        }) in
        record {
          so_far = so_far;
          is = within;
          after = after;
          shared = shared;
          from = here.0;
          below = here.1;
          none = λ j upper lower waits. both_ways _
              (none_kept now.spans (keeps_of now j) so_far j (within.represents.in_step j)
              within.up (one.between j upper lower)) waits.active;
        }

    -- It is the first of those that are left.
    first_left : (values : Values) (happened : EndLog) (low high : ℕ)
        → (at : Comes values happened low high) → Waits at.so_far id
        → IsFirst at.so_far (max low (last + 1)) high id
    first_left values happened low high at waits =
        let higher = next.0.higher in
        let from = at.from in
        record {
          waits = waits;
          from = omega (arith, higher, from);
          below = at.below;
          none = λ j upper lower waits. at.none j (omega (arith, upper)) lower waits;
        }

    -- Of the streams up to it, those on which a message waits are in a span.
    left_past : (values : Values) (happened : EndLog) (low high : ℕ)
        → (at : Comes values happened low high) → (more : Span)
        → ((i : ℕ) → InSpan then.left i → InSpan more i) → (last_end : End)
        → ((i : ℕ) → i ≢ id → keeps_of last_end i ≡ keeps_of new i)
        → WaitsWithin more (keeps_of last_end id) id
        → (i : ℕ) → low ≤ i → i < high → i < id + 1 → WaitsWithin more (keeps_of last_end i) i
    left_past values happened low high at more wider last_end same here i above within lower =
        elim (cases_eq i id) [
          | inl one ↦ subst (λ (j : ℕ). WaitsWithin more (keeps_of last_end j) j) (sym one) here
          | inr other ↦ λ waits waiting_is.
              let was = ap outgoing_in (sym (same i other)) ∙ waiting_is in
              let before = ap outgoing_in (sym (gives.waits.others i other)) ∙ was in
              elim (up_to_or i last) [
                | inl past ↦ wider i (at.is.left i above within (omega (arith, past)) waits before)
                | inr upper ↦ absurd (nothing_there (next.0.between i upper
                    (omega (arith, lower, other))) before)
              ]
        ]
      where
        nothing_there : {kept : Option Stream} {waits : Waiting} → kept ≡ None
            → outgoing_in kept ≢ outgoings.Waiting waits
        nothing_there none is = cc

    -- The pass goes on past it, with its share.
    past_with : (values : Values) (happened : EndLog) (low high : ℕ)
        → (at : Comes values happened low high)
        → HasShare at.so_far id then given None at.after → (last_end : End) (more : Span)
        → EndRepresents values last_end at.after
        → ((i : ℕ) → i ≢ id → keeps_of last_end i ≡ keeps_of new i)
        → ((i : ℕ) → InSpan then.left i → InSpan more i)
        → WaitsWithin more (keeps_of last_end id) id → (end_pass : Pass)
        → end_pass.count ≡ given.count → end_pass.left ≡ more
        → IsWithin values old happened low high pass last_end end_pass id at.after
    past_with values happened low high at has last_end more represents same wider here end_pass
        count is_more =
        let sum = at.is.sum in
        let one = has.sum in
        let few = has.few in
        let from = at.from in
        let size = same_sizes so.same id in
        record {
          sent = at.is.sent + has.sent;
          goes = λ others halt after rest.
              let total : at.is.sent + (has.sent + others) ≡ (at.is.sent + has.sent) + others =
              omega arith in
              let start : max low (id + 1) ≡ suc id = omega (arith, from) in
              subst (λ (n : ℕ). PassesOver (size_of pass) happened low high n halt after) total
              (at.is.goes (has.sent + others) halt after
              (passes_on at.so_far at.after (max low (last + 1)) high id has.sent others halt after
              (first_left values happened low high at has.waits)
              (subst (λ (m : ℕ). Shares m id at.so_far has.sent None at.after) size has.shares)
              (subst (λ (n : ℕ). PassesOver (size_of pass) at.after n high others halt after) start
              rest)));
          sum = omega (arith, sum, one, count);
          few = omega (arith, few, count);
          up = has.up;
          represents = represents;
          others = λ i outside.
              let other : i ≢ id = λ same_one. elim outside [
                | inl under ↦ let f = at.from in omega (arith, under, f, same_one)
                | inr over ↦ let b = at.below in omega (arith, over, b, same_one)
              ] in same i other ∙ gives.waits.others i other ∙ at.is.others i outside;
          left = λ i above within lower. rw is_more
              (left_past values happened low high at more wider
              last_end same here i above within lower);
          wider = λ i inside. rw is_more (wider i (at.is.wider i inside));
        }

    -- Nothing waited there,
    pub past_idle : (state : SendState) → state ≡ Idle → result ≡ Ok state
        → PassGoes old span pass new given id
    unfolding IsShared
    past_idle state is answer =
        record {
          same = same_pass gives.same so.same;
          spans = gives.waits.spans ∙ so.spans;
          above = let higher = next.0.higher in let above = so.above in omega
              (arith, higher, above);
          within = λ values happened low high represents up few covers.
              let at = comes values happened low high represents up few covers in
              let shared = subst (λ (r : Result SendState Refusal).
              IsShared values at.so_far id then r new given at.after)
              (answer ∙ ap Ok is) at.shared in
              let before = at.is in
              let from = at.from in
              let sum = before.sum in
              let few_before = before.few in
              let count = shared.3 in (
                at.so_far,
                record {
                  sent = before.sent;
                  goes = λ more halt after rest. before.goes more halt after
                      (passes_from (size_of pass) at.so_far (max low (last + 1))
                      (max low (id + 1)) high
                      more halt after (let higher = next.0.higher in omega (arith, higher))
                      (λ j above lower within waits. elim (cases_eq j id) [
                        | inl same ↦ shared.1 (subst (λ (k : ℕ). Waits at.so_far k) same waits)
                        | inr other ↦ at.none j (omega (arith, above))
                            (omega (arith, lower, other, from)) waits
                      ]) rest);
                  sum = omega (arith, sum, count);
                  few = omega (arith, few_before, count);
                  up = before.up;
                  represents = shared.4;
                  others = λ i outside.
                      let other : i ≢ id = λ same_one. elim outside [
                        | inl under ↦ let f = at.from in omega (arith, under, f, same_one)
                        | inr over ↦ let b = at.below in omega (arith, over, b, same_one)
                      ] in gives.waits.others i other ∙ before.others i outside;
                  left = λ i above within lower. rw gives.left
                      (left_past values happened low high at
                      then.left (λ j here. here) new (λ j other. refl)
                      (λ waits waiting_is. absurd (shared.2 waits waiting_is)) i above within
                      lower);
                  wider = λ i inside. rw gives.left (before.wider i inside);
                },
              );
        }

    -- or its share was sent, and something waits still,
    pub past_stuck : (state : SendState) → state ≡ Stuck → result ≡ Ok state → (more : Span)
        → InSpan more id → ((i : ℕ) → InSpan given.left i → InSpan more i)
        → PassGoes old span pass new (record given { left = more }) id
    unfolding IsShared
    past_stuck state is answer more here wider =
        record {
          same =
              let one = same_pass gives.same so.same in
              record { most = one.most; turn = one.turn };
          spans = gives.waits.spans ∙ so.spans;
          above = let higher = next.0.higher in let above = so.above in omega
              (arith, higher, above);
          within = λ values happened low high represents up few covers.
              let at = comes values happened low high represents up few covers in
              let shared = subst (λ (r : Result SendState Refusal).
              IsShared values at.so_far id then r new given at.after)
              (answer ∙ ap Ok is) at.shared in (
                at.after,
                past_with values happened low high at shared.0 new more shared.1 (λ i other. refl)
                    (λ i inside. wider i (rw gives.left inside)) (λ waits waiting_is. here)
                    (record given { left = more }) refl refl,
              );
        }

    -- or all was sent, and the stream may be forgotten.
    pub past_sent : (state : SendState) → state ≡ Sent → result ≡ Ok state → (forgotten : End)
        → WaitsAsBefore new forgotten id
        → (keeps_of forgotten id ≡ keeps_of new id) ⊎ (keeps_of forgotten id ≡ None)
        → ((values : Values) (end : EndLog) → RepresentsBut values new end id
        → EndRepresents values forgotten end) → PassGoes old span pass forgotten given id
    unfolding IsShared
    past_sent state is answer forgotten forgets one represents_all =
        record {
          same = same_pass gives.same so.same;
          spans = forgets.spans ∙ gives.waits.spans ∙ so.spans;
          above = let higher = next.0.higher in let above = so.above in omega
              (arith, higher, above);
          within = λ values happened low high represents up few covers.
              let at = comes values happened low high represents up few covers in
              let shared = subst (λ (r : Result SendState Refusal).
              IsShared values at.so_far id then r new given at.after)
              (answer ∙ ap Ok is) at.shared in (
                at.after,
                past_with values happened low high at shared.0 forgotten then.left
                    (represents_all values at.after shared.2) forgets.others (λ i inside. inside)
                    (λ waits waiting_is.
                    absurd (forgets_none new forgotten id one shared.1 waits waiting_is)) given
                    refl gives.left,
              );
        }

    -- The pass ends there,
    halted : (values : Values) (happened : EndLog) (low high : ℕ) (halt : Halt)
        → (at : Comes values happened low high) → HasShare at.so_far id then given
        (Some halt) at.after
        → EndRepresents values new at.after
        → HasHalted values happened low high pass id halt (halted_end new id given) given at.after
    halted values happened low high halt at has represents =
        let sum = at.is.sum in
        let one = has.sum in
        let size = same_sizes so.same id in
        record {
          sent = at.is.sent + has.sent;
          passes = at.is.goes has.sent (Some (id, halt)) at.after
              (passes_halt at.so_far (max low (last + 1)) high id has.sent halt at.after
              (first_left values happened low high at has.waits)
              (subst (λ (m : ℕ). Shares m id at.so_far has.sent (Some halt) at.after) size
              has.shares));
          sum = omega (arith, sum, one);
          represents = subst (λ (n : ℕ). EndRepresents values (halted_end new id given)
              (record at.after { turn = record { id = id; rest = n } })) (has.rest halt refl)
              (turned values new at.after (record { id = id; rest = given.rest }) represents);
        }

    pub pass_halts : (state : SendState) → state ≡ Full → result ≡ Ok state
        → PassesSpan old span pass (Ok false) (halted_end new id given) given
    unfolding IsShared IsPassed
    pass_halts state is answer =
        record {
          same = same_pass gives.same so.same;
          passed = λ values happened low high represents up few covers.
              let at = comes values happened low high represents up few covers in
              let shared = subst (λ (r : Result SendState Refusal).
              IsShared values at.so_far id then r new given at.after)
              (answer ∙ ap Ok is) at.shared in (
                at.after,
                (
                  id,
                  shared.0,
                  shared.2,
                  halted values happened low high shared.0 at shared.1 shared.3,
                ),
              );
        }

    -- or memory was refused.
    pub pass_stops : (refusal : Refusal) → result ≡ Err refusal
        → PassesSpan old span pass (Err refusal) (halted_end new id given) given
    unfolding IsShared IsPassed
    pass_stops refusal answer =
        record {
          same = same_pass gives.same so.same;
          passed = λ values happened low high represents up few covers.
              let at = comes values happened low high represents up few covers in
              let shared = subst (λ (r : Result SendState Refusal).
              IsShared values at.so_far id then r new given at.after) answer at.shared in (
                at.after,
                (
                  id,
                  shared.0,
                  shared.2,
                  halted values happened low high (Stopped refusal shared.0) at shared.1 shared.3,
                ),
              );
        }

  -- It is over where none of the span is left.
  pub pass_is_over : IsNextIn now span last None → PassesSpan old span pass (Ok true) now then
  unfolding IsPassed
  pass_is_over next =
      record {
        same = so.same;
        passed = λ values happened low high represents up few covers.
            let (so_far, is) = so.within values happened low high represents up few covers in
            let none = none_of values happened low high so_far is covers in (
              so_far,
              record {
                sent = is.sent;
                passes = subst (λ (n : ℕ). PassesOver
                    (size_of pass) happened low high n None so_far)
                    (omega arith) (is.goes 0 None so_far
                    (passes_no_more so_far (max low (last + 1)) high
                    (λ j above within waits. within_by values now so_far j is.represents waits
                    (λ here. none j (above_zero so_far j waits) (omega (arith, above))
                    (omega (arith, above)) within here waits.active))));
                sum = is.sum;
                few = is.few;
                up = is.up;
                represents = is.represents;
                spans = so.spans;
                others = is.others;
                left = λ i above within waits waiting_is. elim (up_to_or i last) [
                  | inl past ↦ is.left i above within (omega (arith, past)) waits waiting_is
                  | inr upper ↦
                      let alive = active_waits so_far.log i (keeps_of now i) waits
                      (is.represents.active i) waiting_is in
                      absurd (none i (positive so_far i alive) above upper within
                      ((is.represents.in_step i).within waits waiting_is) alive)
                ];
                wider = is.wider;
              },
            );
      }
    where
      positive : (so_far : EndLog) (i : ℕ) → active so_far.log i ≡ true → 0 < i
      positive so_far i alive = elim (cases_eq i 0) [
        | inl zero ↦ absurd (both_ways _ (zero_inactive so_far.log)
            (subst (λ (j : ℕ). active so_far.log j ≡ true) zero alive))
        | inr some ↦ omega (arith, some)
      ]

      none_of : (values : Values) (happened : EndLog) (low high : ℕ) (so_far : EndLog)
          → IsWithin values old happened low high pass now then last so_far
          → IsSpanOf old.spans.waiting span low high → (j : ℕ) → 0 < j → low ≤ j → last < j
          → j < high → InSpan now.spans.waiting j → active so_far.log j ≡ true → ⊥
      none_of values happened low high so_far is covers j some above upper within here alive =
          let there = covers.all j some
          (subst (λ (spans : Spans). InSpan spans.waiting j) so.spans here) above within in
          both_ways _ (none_kept now.spans (keeps_of now j) so_far j (is.represents.in_step j)
          is.up (next.1 j upper there)) alive
