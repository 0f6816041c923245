-- Which deferred answers are too late, as time passes for one exchange after another.
use Rattle.std.proofs.Common.{◌≡◌, ◌≢◌, ◌<◌, ◌==◌, ◌⊎◌, ℕ, Bool, List, true, false, Some, None}
use Rattle.std.proofs.Common.{Option, ap, sym, refl, ◌∙◌, inl, inr, arith}
use Rattle.std.proofs.lemmas.Bool.{cases_Bool, eqb-true, eqb-false, cases_lt}
use Rattle.std.specs.Prelude.{◌&&◌, is_none, option_map}
use Rattle.h2_numbers.specs.Entries.{IsNextAbove, value_at}
use Rattle.h2_server.specs.declared.exchange.Exchange.{Exchange}
use Rattle.h2_server.specs.Deadlines.{is_late}
use Rattle.h2_server.specs.Deferring.{is_expired_at, kept_in_time}
use Rattle.h2_server.specs.Exchanges.{Kept, exchange_at, exchange_kept}
use Rattle.h2_server.proofs.Asked.{ChangedTo, NoneTo}

-- What has not been waited for yet is not too late.
pub not_since : (deferred : Bool) (since : Option ℕ) (limit now : ℕ) → is_none since ≡ true
    → (deferred && is_late since limit now) ≡ false
unfolding is_late
not_since true None limit now is = refl
not_since false None limit now is = refl
not_since deferred (Some at) limit now is = absurd (cc)

module _ {W : Type 0} (limit now : ℕ) where
  abbrev late : Option (Kept W) → Bool
  late kept = is_expired_at limit now kept

  -- Where nothing is kept now of a stream that has not had its turn, nothing was.
  not_late : (start after : List (ℕ × Exchange W)) (above i : ℕ)
      → ChangedTo (kept_in_time limit now) start after above → above < i → value_at i after ≡ None
      → is_expired_at limit now (exchange_at i start) ≡ false
  not_late start after above i so_far later none =
      ap late (sym (so_far.others i (inr later))
      ∙ ap (λ (v : Option (Exchange W)). option_map exchange_kept v) none)

  -- None up to this stream was too late, where the one on it is not,
  pub none_expired_on : (start after : List (ℕ × Exchange W)) (above id : ℕ)
      → ChangedTo (kept_in_time limit now) start after above → IsNextAbove after above (Some id)
      → NoneTo (is_expired_at limit now) refl start above
      → is_expired_at limit now (exchange_at id after) ≡ false
      → NoneTo (is_expired_at limit now) refl start id
  none_expired_on start after above id so_far is before this i other within =
      elim (cases_Bool (i == id)) [
        | inl here ↦
            ap (λ (n : ℕ). late (exchange_at n start)) (eqb-true i id here)
            ∙ ap late (sym (so_far.others id (inr is.0))) ∙ this
        | inr there ↦ elim (cases_lt above i) [
          | inl later ↦ not_late start after above i so_far later (is.2 i later
              (omega (arith, within, eqb-false i id there)))
          | inr earlier ↦ before i other (omega (arith, earlier))
        ]
      ]

  -- and none at all.
  pub none_expired_all : (start after : List (ℕ × Exchange W)) (above : ℕ)
      → ChangedTo (kept_in_time limit now) start after above → IsNextAbove after above None
      → NoneTo (is_expired_at limit now) refl start above
      → (i : ℕ) → i ≢ 0 → is_expired_at limit now (exchange_at i start) ≡ false
  none_expired_all start after above so_far is before i other = elim (cases_lt above i) [
    | inl later ↦ not_late start after above i so_far later (is i later)
    | inr earlier ↦ before i other (omega (arith, earlier))
  ]
