-- A pair comes about with more steps at either end, and is undisturbed where it was and they are.
use Rattle.h2_laws_pair.proofs.Names.{Values, Half, IsPair, client_steps, server_steps}
use Rattle.h2_laws_pair.proofs.Names.{IsUndisturbed}
use Rattle.h2_laws_pair.specs.Steps.{HalfSteps, no_step, then_step, AreUndisturbed}

module _ (client_values server_values : Values) (client server : Half) where
  -- What steps at the client make of a pair.
  pub client_goes_on : (new_client new_server : Half)
      → (pair : IsPair client_values server_values client server)
      → (steps : HalfSteps client server new_client new_server)
      → (after : IsPair client_values server_values new_client new_server)
      × (IsUndisturbed pair → AreUndisturbed steps → IsUndisturbed after)
  unfolding AreUndisturbed IsUndisturbed
  client_goes_on _ _ pair (no_step _ _) = (pair, λ was none. was)
  client_goes_on new_client new_server pair
      (then_step {mid = mid} {mid_other = mid_other} before step) =
      let both = client_goes_on mid mid_other pair before
      in (client_steps both.0 step, λ was are. (both.1 was are.0, are.1))

  -- What steps at the server make of it.
  pub server_goes_on : (new_client new_server : Half)
      → (pair : IsPair client_values server_values client server)
      → (steps : HalfSteps server client new_server new_client)
      → (after : IsPair client_values server_values new_client new_server)
      × (IsUndisturbed pair → AreUndisturbed steps → IsUndisturbed after)
  unfolding AreUndisturbed IsUndisturbed
  server_goes_on _ _ pair (no_step _ _) = (pair, λ was none. was)
  server_goes_on new_client new_server pair
      (then_step {mid = mid} {mid_other = mid_other} before step) =
      let both = server_goes_on mid_other mid pair before
      in (server_steps both.0 step, λ was are. (both.1 was are.0, are.1))
