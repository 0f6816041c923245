-- Where the output of a connection is ready, no memory is taken as octets of it are.
use Rattle.std.proofs.Common.{◌≡◌, ◌∙◌, sym, subst, ℤ}
use Rattle.std.specs.Prelude.{ℕ, Option, Some, Result, Ok, Err, OnOk}
use Rattle.h2_spec_log.specs.declared.refusal.Refusal.{Refusal}
use Rattle.belkjoef.specs.declared.conn.HeldConn.{HeldConn}
use Rattle.belkjoef.specs.ConnOutput.{HoldsReadyConn, IsReadyConn, ConnFineIfReady, ConnOkIfReady}
use Rattle.belkjoef.specs.Numbers.{ok, answer_number}
use Rattle.belkjoef.proofs.ReadyPlaces.{no_refusal, fine_number}

-- What was made ready is in the place.
pub holds_ready_conn : {A : Type 0} (outcome : Result A Refusal) {told : ℤ} {held : HeldConn}
    {new : Option HeldConn} → told ≡ answer_number outcome → told ≡ ok → new ≡ Some held
    → OnOk outcome (IsReadyConn held.conn) → HoldsReadyConn new
holds_ready_conn (Ok value) same is at so =
    subst (λ (o : Option HeldConn). HoldsReadyConn o) (sym at) so
holds_ready_conn (Err refusal) same is at so = absurd (no_refusal refusal (sym same ∙ is))

pub conn_fine_if_ready : (outcome : Result ℕ Refusal) {told : ℤ} {held : HeldConn}
    {old : Option HeldConn} → told ≡ answer_number outcome → old ≡ Some held
    → ConnOkIfReady held.conn outcome → ConnFineIfReady old told
conn_fine_if_ready outcome {told = told} same at so =
    subst (λ (o : Option HeldConn). ConnFineIfReady o told) (sym at)
    (λ values log represents none. same ∙ fine_number outcome (so values log represents none))
