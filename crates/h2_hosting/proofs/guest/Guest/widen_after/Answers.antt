-- Nothing was done, or the window was widened after octets of a body have come.
use Rattle.std.proofs.Common.{◌≡◌, ◌⊎◌, ◌∙◌, ◌<◌, ◌-◌, ◌^◌, ℕ, Bool, true, false, min, inl, inr}
use Rattle.std.proofs.Common.{refl, sym, subst, arith}
use Rattle.h2_host.specs.declared.party.Own.TheVariants.{Came}
use Rattle.h2_hosting.specs.Guests.{WidensAfter, lacking_of}
use Rattle.h2_hosting.specs.Guests.{is_widened, nothing_left, receives_none, was_widened, none_came}
use Rattle.h2_hosting.proofs.guest.Guest.widen_after.Goals as goal

-- What was taken, and is some, is what the connection lacks.
taken_is_lacking : (window taken count : ℕ) → (taken ≡ 0) ⊎ (taken ≡ lacking_of window)
    → taken < 2 ^ 32 → count ≡ min (2 ^ 32 - 1) taken → 0 < count → count ≡ lacking_of window
taken_is_lacking window taken count (inl none) fits is some =
    absurd (omega (arith, none, is, some))
taken_is_lacking window taken count (inr all) fits is some = omega (arith, all, fits, is)

module _ {P : Type 0} {receives : P → Bool → Type 0} {widens : P → ℕ → Bool → P → Type 0} where
  -- It is widened by what was taken, as octets of a body have come.
  widened_by : (window taken count : ℕ) (old new : P) (done : Bool)
      → (taken ≡ 0) ⊎ (taken ≡ lacking_of window) → taken < 2 ^ 32
      → count ≡ min (2 ^ 32 - 1) taken → 0 < count → receives old true → widens old count done new
      → WidensAfter receives widens window Came false old done new
  widened_by window taken count old new done one fits is some receiving wider =
      let lacks = taken_is_lacking window taken count one fits is some in
      is_widened old new done receiving (omega (arith, lacks, some))
      (subst (λ n. widens old n done new) lacks wider)

pub returns-in_default : goal.returns-in_default
returns-in_default g c = record {
  asked = refl;
  windows = refl;
  widened = none_came _ _ _ c.in_default.not-Came;
}

pub returns-then-is_some-clause-widened : goal.returns-then-is_some-clause-widened
returns-then-is_some-clause-widened g c =
    elim c.then-is_some.branch [
      | goal.then-is_some-via-then-is_some w ↦
          rw (sym c.is_some.ensures ∙ w.if-is_some.true) (was_widened _ _)
      | goal.then-is_some-via-else-is_some+then-not-is_receiving w ↦
          rw (c.in-Came.is, sym c.is_some.ensures ∙ w.if-is_some.false)
          (receives_none _ (rw w.deref.ensures at w.if-not-is_receiving.ensures))
    ]

pub returns-then-widen-clause-widened : goal.returns-then-widen-clause-widened
returns-then-widen-clause-widened g c =
    rw (c.in-Came.is, sym c.is_some.ensures ∙ c.if-is_some.false)
    (widened_by _ _ _ _ _ _ c.take-widened.ensures (omega (arith, c.take-widened.type_inv))
    c.count-count.ensures c.if-count-gt0.true
    (rw c.deref.ensures at c.if-not-is_receiving.ensures)
    (rw c.deref_mut.ensures.value at c.if-widen.ensures))

pub returns-else-count-gt0-clause-widened : goal.returns-else-count-gt0-clause-widened
returns-else-count-gt0-clause-widened g c =
    elim c.else-count-gt0.branch [
      | goal.else-count-gt0-via-then-count-gt0+else-widen w ↦
          rw (w.self-is, c.in-Came.is, sym c.is_some.ensures ∙ c.if-is_some.false)
          (widened_by _ _ _ _ _ _ c.take-widened.ensures (omega (arith, c.take-widened.type_inv))
          c.count-count.ensures w.if-count-gt0.true
          (rw c.deref.ensures at c.if-not-is_receiving.ensures)
          (rw w.deref_mut.ensures.value at w.if-widen.ensures))
      | goal.else-count-gt0-via-else-count-gt0 w ↦
          rw (w.self-is, c.in-Came.is, sym c.is_some.ensures ∙ c.if-is_some.false)
          (nothing_left _ (rw c.deref.ensures at c.if-not-is_receiving.ensures))
    ]
