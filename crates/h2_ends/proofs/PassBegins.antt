-- A pass over a span of streams: what holds once it has come so far, and at its start.
use Rattle.h2_ends.proofs.Names
use Names.{◌≡◌, ◌⊎◌, inl, inr, ℕ, ◌+◌, ◌-◌, ◌<◌, ◌≤◌, true, Option, None, refl, ◌∙◌, subst, arith}
use Names.{both_ways, cases_eq, Values, active, waiting, End, Waiting, Span, EndLog, EndRepresents}
use Names.{InSpan, WaitsWithin, keeps_of, outgoing_in}
use Rattle.std.specs.Prelude.{max}
use Rattle.h2_ends.specs.declared.passing.Pass.{Pass}
use Rattle.h2_ends.specs.declared.span.Turn.{Turn}
use Rattle.h2_ends.specs.Passes.{Waits, Halt, PassesOver, passes_no_more, passes_on, passes_halt}
use Rattle.h2_ends.specs.Passing.{IsSpanOf, IsSamePass, size_of}
use Rattle.h2_ends.proofs.EndSteps.{all_same}
use Rattle.h2_ends.proofs.InSteps.{handed_by}
use Rattle.h2_ends.proofs.PumpCalls.{active_waits}
use Rattle.h2_ends.proofs.PumpSteps.{up_to_or, zero_inactive}
use Rattle.h2_ends.proofs.ShareIdle.{none_waits}
use Rattle.h2_ends.proofs.ShareSteps.{below_or}
use Rattle.h2_ends.specs.declared.outgoing.Outgoing.TheVariants as outgoings

-- Where nothing waits before it, a pass may begin at a lower number.
pub passes_from : (sizes : ℕ → ℕ) (end : EndLog) (low from high count : ℕ)
    (halt : Option (ℕ × Halt)) (after : EndLog) → low ≤ from
    → ((j : ℕ) → low ≤ j → j < from → j < high → Waits end j → ⊥)
    → PassesOver sizes end from high count halt after →
    PassesOver sizes end low high count halt after
passes_from sizes end low from high _ _ _ below none (passes_no_more _ _ _ rest) =
    passes_no_more end low high (λ j above within waits. elim (below_or j from) [
      | inl lower ↦ none j above lower within waits
      | inr upper ↦ rest j upper within waits
    ])
passes_from sizes end low from high _ halt after below none
    (passes_on _ between _ _ id sent more _ _ first shares rest) =
    passes_on end between low high id sent more halt after (record {
      waits = first.waits;
      from = omega (arith, below, first.from);
      below = first.below;
      none = λ j above lower waits. elim (up_to_or from j) [
        | inl upper ↦ first.none j upper lower waits
        | inr under ↦ none j above under (omega (arith, lower, first.below)) waits
      ];
    }) shares rest
passes_from sizes end low from high _ _ after below none
    (passes_halt _ _ _ id sent halt _ first shares) =
    passes_halt end low high id sent halt after (record {
      waits = first.waits;
      from = omega (arith, below, first.from);
      below = first.below;
      none = λ j above lower waits. elim (up_to_or from j) [
        | inl upper ↦ first.none j upper lower waits
        | inr under ↦ none j above under (omega (arith, lower, first.below)) waits
      ];
    }) shares

-- The next pass begins with this stream.
abbrev pub with_turn : End → Turn → End
with_turn end turn = record end { spans = record end.spans { turn = turn } }

-- The next pass begins with the stream at which this one has ended.
abbrev pub halted_end : End → ℕ → Pass → End
halted_end end id pass = with_turn end (record { id = id; rest = pass.rest })

pub turned : (values : Values) (end : End) (happened : EndLog) (id : Turn)
    → EndRepresents values end happened
    → EndRepresents values (with_turn end id) (record happened { turn = id })
turned values end happened id is =
    let after = record happened { turn = id } in
    record {
      streams = all_same values end (with_turn end id) happened after is.streams is.streams.conn
          refl refl (λ i past. past) (λ i. record {
            handed = refl;
            accepted = refl;
            sent = refl;
            role = refl;
            used_still = λ was. was;
          });
      in_step = λ i. record {
        all = (is.in_step i).all;
        handed = handed_by happened after i refl refl (is.in_step i).handed;
        within = (is.in_step i).within;
        owes = (is.in_step i).owes;
        turn = refl;
        malformed = (is.in_step i).malformed;
      };
      active = is.active;
    }

-- A pass that is the same has shares of the same size.
pub same_pass : {pass then given : Pass} → IsSamePass then given → IsSamePass pass then
    → IsSamePass pass given
same_pass one other =
    record { most = one.most ∙ other.most; turn = one.turn ∙ other.turn }

pub same_sizes : {pass then : Pass} → IsSamePass pass then → (i : ℕ)
    → size_of then i ≡ size_of pass i
same_sizes same i = rw (same.most, same.turn) refl

-- The pass has come so far: the streams up to the last one had their shares.
pub record IsWithin (values : Values) (old : End) (happened : EndLog) (low high : ℕ)
    (pass : Pass) (now : End) (then : Pass) (last : ℕ) (so_far : EndLog) : Type 0 where
  pub sent : ℕ
  pub goes : (more : ℕ) (halt : Option (ℕ × Halt)) (after : EndLog)
      → PassesOver (size_of pass) so_far (max low (last + 1)) high more halt after
      → PassesOver (size_of pass) happened low high (sent + more) halt after
  pub sum : then.count ≡ pass.count + sent
  pub few : then.count ≤ waiting so_far.log
  pub up : so_far.log.failed ≡ None
  pub represents : EndRepresents values now so_far
  pub others : (i : ℕ) → (i < low) ⊎ (high ≤ i) → keeps_of now i ≡ keeps_of old i
  pub left : (i : ℕ) → low ≤ i → i < high → i < last + 1
      → WaitsWithin then.left (keeps_of now i) i
  pub wider : (i : ℕ) → InSpan pass.left i → InSpan then.left i

pub record PassGoes (old : End) (span : Span) (pass : Pass) (now : End) (then : Pass)
    (last : ℕ) : Type 0 where
  pub same : IsSamePass pass then
  pub spans : now.spans ≡ old.spans
  pub above : span.first ≤ last + 1
  pub within : (values : Values) (happened : EndLog) (low high : ℕ)
      → EndRepresents values old happened → happened.log.failed ≡ None
      → pass.count ≤ waiting happened.log → IsSpanOf old.spans.waiting span low high
      → (so_far : EndLog) × IsWithin values old happened low high pass now then last so_far

-- A stream on which something waits has a message that waits.
pub within_by : (values : Values) (end : End) (happened : EndLog) (i : ℕ)
    → EndRepresents values end happened → Waits happened i
    → (InSpan end.spans.waiting i → ⊥) → ⊥
within_by values end happened i is waits outside =
    none_waits values end happened i is
    (λ waiting same. outside ((is.in_step i).within waiting same)) waits

-- No stream has the number 0.
pub above_zero : (happened : EndLog) (i : ℕ) → Waits happened i → 0 < i
above_zero happened i waits = elim (cases_eq i 0) [
  | inl zero ↦ absurd (both_ways _ (zero_inactive happened.log)
      (subst (λ (j : ℕ). active happened.log j ≡ true) zero waits.active))
  | inr some ↦ omega (arith, some)
]

-- The pass begins below the span.
pub pass_begins : (old : End) (span : Span) (pass : Pass) (last : ℕ) → last ≡ span.first - 1
    → PassGoes old span pass old pass last
pass_begins old span pass last first =
    record {
      same = record { most = refl; turn = refl };
      spans = refl;
      above = omega (arith, first);
      within = λ values happened low high is up few covers. (
        happened,
        record {
          sent = 0;
          goes = λ more halt after rest. subst (λ (n : ℕ).
              PassesOver (size_of pass) happened low high n halt after) (omega arith)
              (passes_from (size_of pass) happened low (max low (last + 1)) high more halt after
              (omega arith) (λ j above lower within waits.
              within_by values old happened j is waits (λ here.
              let there = (covers.all j (above_zero happened j waits) here above within).first in
              let some = above_zero happened j waits in
              omega (arith, there, lower, first, above, some))) rest);
          sum = omega arith;
          few = few;
          up = up;
          represents = is;
          others = λ i other. refl;
          left = λ i above within lower waits waiting_is.
              absurd (let here = (is.in_step i).within waits waiting_is in
              let some = zero_or old happened values i is waits waiting_is in
              let there = (covers.all i some here above within).first in
              omega (arith, there, lower, first, some));
          wider = λ i here. here;
        },
      );
    }
  where
    zero_or : (end : End) (happened : EndLog) (values : Values) (i : ℕ)
        → EndRepresents values end happened → (waits : Waiting)
        → outgoing_in (keeps_of end i) ≡ outgoings.Waiting waits → 0 < i
    zero_or end happened values i is waits waiting_is = elim (cases_eq i 0) [
      | inl zero ↦ absurd (both_ways _ (zero_inactive happened.log)
          (subst (λ (j : ℕ). active happened.log j ≡ true) zero
          (active_waits happened.log i (keeps_of end i) waits (is.active i) waiting_is)))
      | inr some ↦ omega (arith, some)
    ]
