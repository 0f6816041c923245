-- What is done only where no value of a configuration is out of its bounds.
use Rattle.std.proofs.Common.{◌≡◌, sym, subst, ℤ}
use Rattle.std.specs.Prelude.{Option, None, Some}
use Rattle.h2_flow.specs.declared.config.BadConfig.{BadConfig}
use Rattle.belkjoef.specs.Configs.{WithinBounds}
use Rattle.belkjoef.specs.Numbers.{config_number}

module _ {A : Type 0} (answer : ℤ) (Does : A → A → Type 0) (old new : A) where
  -- None is.
  pub within_bounds : {first : Option BadConfig} → first ≡ None → Does old new
      → WithinBounds first answer Does old new
  within_bounds none done =
      subst (λ (o : Option BadConfig). WithinBounds o answer Does old new) (sym none) done

  -- One is.
  pub beyond_bounds : {first : Option BadConfig} {bad : BadConfig} → first ≡ Some bad
      → answer ≡ config_number bad → new ≡ old → WithinBounds first answer Does old new
  beyond_bounds some told same =
      subst (λ (o : Option BadConfig). WithinBounds o answer Does old new) (sym some) (told, same)
