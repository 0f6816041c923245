-- Exchanges that end, stream by stream, until none is left.
use Rattle.std.proofs.Common.{◌≡◌, ◌<◌, ◌≤◌, ◌==◌, ℕ, Some, None, Option, ap, ◌∙◌}
use Rattle.std.proofs.Common.{inl, inr, arith}
use Rattle.std.proofs.lemmas.Bool.{cases_Bool, eqb-true, eqb-false, cases_lt}
use Rattle.std.specs.Prelude.{option_map}
use Rattle.h2_numbers.specs.Entries.{IsNextAbove, value_at}
use Rattle.h2_server.specs.declared.exchange.Exchange.{Exchange}
use Rattle.h2_server.specs.declared.handler.Cause.TheVariants.{Closed}
use Rattle.h2_server.specs.Exchanges.{Relations, Handling, IsEmptied, exchange_at, exchange_kept}
use Rattle.h2_server.specs.Telling.{EndsAny, EndsEach, no_more, goes_on, ends_one}

module _ {H W : Type 0} (rel : Relations H W) where
  -- One more has ended, or there was none.
  ends_then : {mid new old : Handling H W} (id : ℕ) → EndsEach rel mid old
      → EndsAny rel id Closed mid new → EndsEach rel new old
  ends_then id no_more (inl over) = ends_one id over no_more
  ends_then id no_more (inr never) = goes_on never.1 no_more
  ends_then id (goes_on so rest) then = goes_on so (ends_then id rest then)
  ends_then id (ends_one other over rest) then = ends_one other over (ends_then id rest then)

  -- Nothing is kept of it then.
  gone_at : (mid new : Handling H W) (id : ℕ) → EndsAny rel id Closed mid new
      → exchange_at id new.entries ≡ None
  gone_at mid new id (inl over) = over.gone.at
  gone_at mid new id (inr never) = never.1.kept id ∙ never.0

  -- And where nothing was kept, nothing is.
  gone_still : (mid new : Handling H W) (id i : ℕ) → EndsAny rel id Closed mid new
      → exchange_at i mid.entries ≡ None → exchange_at i new.entries ≡ None
  gone_still mid new id i any none = elim (cases_Bool (i == id)) [
    | inl here ↦ ap (λ n. exchange_at n new.entries) (eqb-true i id here) ∙ gone_at mid new id any
    | inr there ↦ elim any [
      | inl over ↦ over.gone.others i (eqb-false i id there) ∙ none
      | inr never ↦ never.1.kept i ∙ none
    ]
  ]

  -- So far those up to this stream have ended.
  pub record EndsTo (start now : Handling H W) (above : ℕ) : Type 0 where
    pub ends : EndsEach rel now start
    pub none : (i : ℕ) → 0 < i → i ≤ above → exchange_at i now.entries ≡ None

  pub ends_begin : (start : Handling H W) → EndsTo start start 0
  ends_begin start =
      record { ends = no_more; none = λ i some none. absurd (omega (arith, some, none)) }

  none_of : (now : Handling H W) (i : ℕ) → value_at i now.entries ≡ None
      → exchange_at i now.entries ≡ None
  none_of now i none = ap (λ (v : Option (Exchange W)). option_map exchange_kept v) none

  -- One more.
  pub ends_on : (start now next : Handling H W) (above id : ℕ) → EndsTo start now above
      → IsNextAbove now.entries above (Some id) → EndsAny rel id Closed now next
      → EndsTo start next id
  ends_on start now next above id so_far is any = record {
    ends = ends_then id so_far.ends any;
    none = λ i some within. elim (cases_Bool (i == id)) [
      | inl here ↦
          ap (λ n. exchange_at n next.entries) (eqb-true i id here) ∙ gone_at now next id any
      | inr there ↦ gone_still now next id i any (elim (cases_lt above i) [
        | inl later ↦ none_of now i (is.2 i later
            (omega (arith, within, eqb-false i id there)))
        | inr before ↦ so_far.none i some (omega (arith, before))
      ])
    ];
  }

  -- All.
  pub ends_over : (start now new : Handling H W) (above : ℕ) → EndsTo start now above
      → IsNextAbove now.entries above None → EndsAny rel 0 Closed now new
      → EndsEach rel new start × IsEmptied new
  ends_over start now new above so_far is any = (
    ends_then 0 so_far.ends any,
    (λ i. elim (cases_Bool (i == 0)) [
      | inl zero_one ↦
          ap (λ n. exchange_at n new.entries) (eqb-true i 0 zero_one) ∙ gone_at now new 0 any
      | inr some ↦ gone_still now new 0 i any (elim (cases_lt above i) [
        | inl later ↦ none_of now i (is i later)
        | inr before ↦ so_far.none i (omega (arith, eqb-false i 0 some)) (omega (arith, before))
      ])
    ]),
  )
