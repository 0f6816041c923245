-- A whole pass: the streams from the turn up, and then those below it.
use Rattle.h2_ends.proofs.Names
use Names.{◌≡◌, inl, inr, ℕ, ◌+◌, ◌<◌, ◌≤◌, ◌↔◌, true, false, Bool, Option, Some, None}
use Names.{refl, sym, ap, ◌∙◌, subst, arith, Values, Code, Refusal, Closed, Memory, End, Span}
use Names.{EndLog}
use Names.{Result, Ok, Err, EndRepresents, InSpan, WaitsWithin, keeps_of, is_some, Spans}
use Names.{outgoing_in}
use Rattle.h2_ends.specs.declared.passing.Pass.{Pass}
use Rattle.h2_ends.specs.Passes.{Halt, Stopped, PassesOver, Passes, passes_part, passes_round}
use Rattle.h2_ends.specs.Passes.{IsNoError, numbers, share_most, share_size, sizes_by}
use Rattle.h2_ends.specs.Passes.{end_with_turn}
use Rattle.h2_ends.specs.declared.span.Turn.{Turn}
use Rattle.h2_ends.proofs.PassBegins.{with_turn, turned}
unfoldable use Rattle.h2_ends.specs.Passes.{MayPumpSome}
unfoldable use Rattle.h2_ends.specs.Passing.{IsPassed}
use Rattle.h2_ends.specs.Passing.{IsSpanOf, HasPassed, HasHalted, PassesSpan}
use Rattle.h2_ends.specs.Represents.{EndPumpsSome}
use Rattle.h2_ends.proofs.PumpSteps.{up_to_or}
use Rattle.h2_ends.proofs.SendingRelease.{ReadsFailed, up_by, down_by}
use Rattle.h2_ends.specs.declared.refusal.EndRefusal.TheVariants as refusals

-- The connection had failed from the start.
pub some_closed : (old : End) (most : ℕ) (failed : Option Code) → ReadsFailed old.conn failed
    → true ≡ is_some failed → EndPumpsSome old most (Err (refusals.Conn Closed)) old
unfolding MayPumpSome
some_closed old most failed reads down = λ values start is. (
  start,
  (λ none. down_by failed down (reads values start.log is.streams.conn ∙ none), refl),
  is,
)

-- Two spans of the streams on which a message waits: from the turn up, and below it.
above_is : (waits above : Span) (turn : ℕ) → above.last < numbers
    → ((i : ℕ) → InSpan above i ↔ (InSpan waits i × (turn ≤ i)))
    → IsSpanOf waits above turn numbers
above_is waits above turn low both =
    record {
      within = λ i some here. (
        ((both i).0 here).1,
        let last = here.last in omega
            (arith, last, low),
      );
      all = λ i some here from below. (both i).1 (here, from);
    }

below_is : (waits below : Span) (turn : ℕ)
    → ((i : ℕ) → 0 < i → InSpan below i ↔ (InSpan waits i × (i < turn)))
    → IsSpanOf waits below 0 turn
below_is waits below turn both =
    record {
      within = λ i some here. (omega arith, ((both i some).0 here).1);
      all = λ i some here from under. (both i some).1 (here, under);
    }

-- The only refusal at which a pass ends with an error is for memory.
as_memory : (values : Values) (happened : EndLog) (low high : ℕ) (pass : Pass) (id : ℕ)
    (refusal : Refusal) (rest : ℕ) (new : End) (then : Pass) (after : EndLog) → refusal ≡ Memory
    → HasHalted values happened low high pass id (Stopped refusal rest) new then after
    → HasHalted values happened low high pass id (Stopped Memory rest) new then after
as_memory values happened low high pass id refusal rest new then after memory has =
    subst (λ (r : Refusal). HasHalted values happened low high pass id (Stopped r rest) new then
    after) memory has

-- Shares of the same size.
sized : {one other : Turn} → {m n : ℕ} → one ≡ other → m ≡ n → (end : EndLog)
    (low high count : ℕ) (halt : Option (ℕ × Halt)) (after : EndLog)
    → PassesOver (sizes_by one m) end low high count halt after
    → PassesOver (sizes_by other n) end low high count halt after
sized {one = one} {n = n} turns mosts end low high count halt after passes =
    subst (λ (t : Turn). PassesOver (sizes_by t n) end low high count halt after) turns
    (subst (λ (k : ℕ). PassesOver (sizes_by one k) end low high count halt after) mosts passes)

module _ (old : End) (most turn : ℕ) (same_turn : turn ≡ old.spans.turn.id) (above below : Span)
    (low : above.last < numbers)
    (is_above : (i : ℕ) → InSpan above i ↔ (InSpan old.spans.waiting i × (turn ≤ i)))
    (is_below : (i : ℕ) → 0 < i → InSpan below i ↔ (InSpan old.spans.waiting i × (i < turn)))
    (first : Pass) (size : first.most ≡ share_most most) (begun : first.turn ≡ old.spans.turn)
    (zero : first.count ≡ 0) (mid : End)
    (between : Pass) where
  module _ (failed : Option Code) (reads : ReadsFailed old.conn failed)
      (is_up : false ≡ is_some failed) where
    up_at : (values : Values) (start : EndLog) → EndRepresents values old start
        → start.log.failed ≡ None
    up_at values start is = sym (reads values start.log is.streams.conn) ∙ up_by failed is_up

    turn_at : (values : Values) (start : EndLog) → EndRepresents values old start
        → turn ≡ start.turn.id
    turn_at values start is = same_turn ∙ ap (λ (t : Turn). t.id) (is.in_step 0).turn

    sizes_at : (values : Values) (start : EndLog) → EndRepresents values old start
        → first.turn ≡ start.turn
    sizes_at values start is = begun ∙ (is.in_step 0).turn

    above_at : (result : Result Bool Refusal) → PassesSpan old above first result mid between
        → (values : Values) (start : EndLog) → EndRepresents values old start
        → (after : EndLog)
        × IsPassed values old start start.turn.id numbers first result mid between after
    above_at result passes values start is =
        subst (λ (t : ℕ). (after : EndLog)
        × IsPassed values old start t numbers first result mid between after)
        (turn_at values start is)
        (passes.passed values start turn numbers is (up_at values start is) (omega (arith, zero))
        (above_is old.spans.waiting above turn low is_above))

    -- The pass has ended at a stream from the turn up,
    pub halts_above : (result : Result Bool Refusal) → result ≡ Ok false
        → PassesSpan old above first result mid between
        → EndPumpsSome old most (Ok between.count) mid
    unfolding MayPumpSome IsPassed
    halts_above result answer passes = λ values start is.
        let (after, passed) = above_at (Ok false)
        (subst (λ (r : Result Bool Refusal). PassesSpan old above first r mid between) answer
        passes)
        values start is in
        let sum = passed.3.sum in
        let count : passed.3.sent ≡ between.count = omega (arith, sum, zero) in (
          end_with_turn after (Some (passed.0, passed.1)),
          (
            up_at values start is,
            Some (passed.0, passed.1),
            after,
            subst (λ (n : ℕ). Passes (share_size start.turn most) start n
                (Some (passed.0, passed.1)) after) count
                (passes_part passed.3.sent passed.0 passed.1 after
                (sized (sizes_at values start is) size start start.turn.id numbers passed.3.sent
                (Some (passed.0, passed.1)) after passed.3.passes)),
            passed.2,
            refl,
          ),
          passed.3.represents,
        )

    -- or memory was refused there,
    pub stops_above : (refusal : Refusal) → PassesSpan old above first (Err refusal) mid between
        → EndPumpsSome old most (Err (refusals.Conn refusal)) mid
    unfolding MayPumpSome IsPassed
    stops_above refusal passes = λ values start is.
        let (after, passed) = above_at (Err refusal) passes values start is in
        let has = as_memory values start start.turn.id numbers first passed.0 refusal passed.1 mid
        between after passed.2 passed.3 in
        rw passed.2 (
          end_with_turn after (Some (passed.0, Stopped Memory passed.1)),
          (
            up_at values start is,
            has.sent,
            passed.0,
            passed.1,
            after,
            passes_part has.sent passed.0 (Stopped Memory passed.1) after
                (sized (sizes_at values start is) size start start.turn.id numbers has.sent
                (Some (passed.0, Stopped Memory passed.1)) after has.passes),
            refl,
          ),
          has.represents,
        )

    -- or it goes on with those below.
    module _ (went : PassesSpan old above first (Ok true) mid between) (new : End) (last : Pass)
      where
        below_at : (result : Result Bool Refusal) → PassesSpan mid below between result new last
            → (values : Values) (start : EndLog) → EndRepresents values old start
            → (half : EndLog) × HasPassed values old start start.turn.id numbers first mid between
            half
            × ((after : EndLog)
            × IsPassed values mid half 0 start.turn.id between result new last after)
        unfolding IsPassed
        below_at result passes values start is =
            let (half, passed) = above_at (Ok true) went values start is in (
              half,
              passed,
              subst (λ (t : ℕ). (after : EndLog)
                  × IsPassed values mid half 0 t between result new last after)
                  (turn_at values start is)
                  (passes.passed values half 0 turn passed.represents passed.up passed.few
                  (subst (λ (waits : Span). IsSpanOf waits below 0 turn)
                  (ap (λ (s : Spans). s.waiting) (sym passed.spans))
                  (below_is old.spans.waiting below turn is_below))),
            )

        pub halts_below : (result : Result Bool Refusal) → result ≡ Ok false
            → PassesSpan mid below between result new last
            → EndPumpsSome old most (Ok last.count) new
        unfolding MayPumpSome IsPassed
        halts_below result answer passes = λ values start is.
            let (half, passed, (after, over)) = below_at (Ok false)
            (subst (λ (r : Result Bool Refusal). PassesSpan mid below between r new last) answer
            passes)
            values start is in
            let one = passed.sum in
            let two = over.3.sum in
            let halt : Option (ℕ × Halt) = Some (over.0, over.1) in
            let count : passed.sent + over.3.sent ≡ last.count = omega (arith, one, two, zero) in (
              end_with_turn after halt,
              (
                up_at values start is,
                halt,
                after,
                subst (λ (n : ℕ). Passes (share_size start.turn most) start n halt after) count
                    (passes_round passed.sent over.3.sent half halt after
                    (sized (sizes_at values start is) size start start.turn.id numbers passed.sent
                    None half passed.passes)
                    (sized (went.same.turn ∙ sizes_at values start is)
                    (went.same.most ∙ size) half 0
                    start.turn.id over.3.sent halt after over.3.passes)),
                over.2,
                refl,
              ),
              over.3.represents,
            )

        pub stops_below : (refusal : Refusal) → PassesSpan mid below between (Err refusal) new last
            → EndPumpsSome old most (Err (refusals.Conn refusal)) new
        unfolding MayPumpSome IsPassed
        stops_below refusal passes = λ values start is.
            let (half, passed, (after, over)) = below_at (Err refusal) passes values start is in
            let has = as_memory values half 0 start.turn.id between over.0 refusal over.1 new last
            after over.2 over.3 in
            rw over.2 (
              end_with_turn after (Some (over.0, Stopped Memory over.1)),
              (
                up_at values start is,
                passed.sent + has.sent,
                over.0,
                over.1,
                after,
                passes_round passed.sent has.sent half (Some (over.0, Stopped Memory over.1)) after
                    (sized (sizes_at values start is) size start start.turn.id numbers passed.sent
                    None half passed.passes)
                    (sized (went.same.turn ∙ sizes_at values start is)
                    (went.same.most ∙ size) half 0
                    start.turn.id has.sent (Some (over.0, Stopped Memory over.1)) after
                    has.passes),
                refl,
              ),
              has.represents,
            )

        -- It was all: what waits still is in the span of those that had a share.
        pub pass_round : PassesSpan mid below between (Ok true) new last
            → EndPumpsSome old most (Ok last.count)
            (with_turn (record new { spans = record new.spans { waiting = last.left } })
            (record new.spans.turn { rest = 0 }))
        unfolding MayPumpSome IsPassed IsNoError
        pass_round passes = λ values start is.
            let (half, passed, (after, over)) = below_at (Ok true) passes values start is in
            let one = passed.sum in
            let two = over.sum in
            let count : passed.sent + over.sent ≡ last.count = omega (arith, one, two, zero) in
            let number = ap (λ (t : Turn). t.id) (over.represents.in_step 0).turn in (
              end_with_turn after None,
              (
                up_at values start is,
                None,
                after,
                subst (λ (n : ℕ). Passes (share_size start.turn most) start n None after) count
                    (passes_round passed.sent over.sent half None after
                    (sized (sizes_at values start is) size start start.turn.id numbers passed.sent
                    None half passed.passes)
                    (sized (went.same.turn ∙ sizes_at values start is)
                    (went.same.most ∙ size) half 0
                    start.turn.id over.sent None after over.passes)),
                tt,
                refl,
              ),
              subst (λ (n : ℕ). EndRepresents values
                  (with_turn (record new { spans = record new.spans { waiting = last.left } })
                  (record new.spans.turn { rest = 0 }))
                  (record after { turn = record { id = n; rest = 0 } })) number
                  (turned values (record new { spans = record new.spans { waiting = last.left } })
                  after (record new.spans.turn { rest = 0 })
                  (left_represents values start half after is passed over)),
            )
          where
            left_in : (values : Values) (start half after : EndLog)
                → EndRepresents values old start
                → HasPassed values old start start.turn.id numbers first mid between half
                → HasPassed values mid half 0 start.turn.id between new last after
                → (i : ℕ) → WaitsWithin last.left (keeps_of new i) i
            left_in values start half after is passed over i = elim (up_to_or start.turn.id i) [
              | inl above_it ↦ λ waits waiting_is.
                  let before = ap outgoing_in (sym (over.others i (inr above_it))) ∙ waiting_is in
                  let here = (passed.represents.in_step i).within waits before in
                  let was = subst (λ (s : Spans). InSpan s.waiting i) passed.spans here in
                  let turn_is = turn_at values start is in
                  let last = ((is_above i).1 (was, omega (arith, above_it, turn_is))).last in
                  over.wider i (passed.left i above_it (omega (arith, last, low)) waits before)
              | inr under ↦ over.left i (omega arith) under
            ]

            left_represents : (values : Values) (start half after : EndLog)
                → EndRepresents values old start
                → HasPassed values old start start.turn.id numbers first mid between half
                → HasPassed values mid half 0 start.turn.id between new last after
                → EndRepresents values
                (record new { spans = record new.spans { waiting = last.left } }) after
            left_represents values start half after is passed over =
                record {
                  streams = record {
                    conn = over.represents.streams.conn;
                    role = over.represents.streams.role;
                    streams = over.represents.streams.streams;
                    sent = over.represents.streams.sent;
                  };
                  in_step = λ i. record {
                    all = (over.represents.in_step i).all;
                    handed = (over.represents.in_step i).handed;
                    within = left_in values start half after is passed over i;
                    owes = (over.represents.in_step i).owes;
                    turn = (over.represents.in_step i).turn;
                    malformed = (over.represents.in_step i).malformed;
                  };
                  active = over.represents.active;
                }
