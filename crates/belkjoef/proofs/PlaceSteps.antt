-- What a place of C's owns, at a walk.
use Rattle.std.proofs.Common.{◌≡◌, ℕ, Bool, true, false, List, [], ◌∷◌, ap, ◌==◌}
use Rattle.std.specs.Prelude.{Option, None, Some}
use Rattle.std.specs.Option.{is_some}
use seplogic.Ra.Ura.{Ura}
use base.Logic.{ent, sep, emp}
use base.Fml.{feq, fsep}
use types.Logic.{Logic, sem}
use contract.Monad.{fact, fact_i}
use types.Kit.{‵, raw, ◌$◌, ◌∵◌, !, qed, done, use0, fsplit, fjoin}
use types.Kit.{feq_i, feq_l}
use base.Logic.{via, guard_i}
use mir.Syntax.{int_big, w64}
use mir.Val.{Fits, vint}
use prog.Wp.{Env}
use types.Kit.{Item}
use types.Run.{Opd}
use Rattle.std.proofs.Common.{lit<}
use denote.RattleType.{RattleType}
use denote.RawPtr.{Ptr}
use Rattle.libc.specs.Heap.{chunk}
use Rattle.std_alloc.specs.Box.Ownership.{box_owns}
use Rattle.belkjoef.specs.Places.{place_owns, holds_one}

holds_fits : Fits w64 holds_one
holds_fits = record { fits = lit< tt }

-- The state of a place that holds an end, as a constant of the code.
module _ {M : Type 1} {𝓤 : Ura M} {𝓛 : Logic 𝓤} {K : Type 0} {Γ : List (Item 𝓤)} {E : Env 𝓤 𝓛.H}
  where
    pub holds_lit : K → Opd K 𝓛 Γ E (int_big w64 holds_one) (vint w64 holds_one)
    holds_lit t = record {
      go = λ Kt h. via 𝓤 (Kt (vint w64 holds_one)) h
          (guard_i 𝓤 (Fits w64 holds_one) (Kt (vint w64 holds_one)) holds_fits);
    }

-- The state says whether there is one.
module _ {M : Type 1} {𝓤 : Ura M} (𝓛 : Logic 𝓤) (R : RattleType) (p : Ptr) (n : ℕ) where
  pub state_tells : (o : Option R.Denot)
      → ent 𝓤 (sem 𝓛 (place_owns R p n o)) (sep 𝓤 (fact 𝓤 ((n == holds_one) ≡ is_some o))
      (sem 𝓛 (place_owns R p n o)))
  state_tells None = qed 𝓛 (‵ (feq Bool (n == holds_one) false) ∷ []) ∵ feq_l ! (λ e.
      feq_i ! Bool (n == holds_one) false e $
      use0 𝓛 (raw (fact 𝓤 ((n == holds_one) ≡ false)))
      (fact_i 𝓤 ((n == holds_one) ≡ false) (emp 𝓤) e) $ done !)
  state_tells (Some v) = qed 𝓛 (‵ (fsep (feq ℕ n holds_one) (box_owns chunk R p v)) ∷ []) ∵
      fsplit ! $ feq_l ! (λ e. feq_i ! ℕ n holds_one e $ fjoin ! $
      use0 𝓛 (raw (fact 𝓤 ((n == holds_one) ≡ true)))
      (fact_i 𝓤 ((n == holds_one) ≡ true) (emp 𝓤) (ap (λ (k : ℕ). k == holds_one) e)) $ done !)
