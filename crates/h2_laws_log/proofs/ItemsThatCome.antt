-- What is known of a log at which an item comes: the connection is up, and what was decoded of the
-- item is what it says.
use Rattle.std.proofs.Common.{◌≡◌, ◌∷◌, [], ◌++◌, Option, None, sym}
use Rattle.h2_laws_log.proofs.Names.{subst, Item, Role, Values, Log, Decoded, FrameStep, completes}
use Rattle.h2_laws_log.proofs.Names.{frame_step, used, IsDecodedIn}
use Rattle.h2_laws_log.proofs.LogInduction.{Comes}

module _ {role : Role} {values : Values} {decoded : Option Decoded} {item : Item} {log : Log}
    (comes : Comes role values decoded item log) where
  -- What holds of the log before the item's last frame, but for its octets, holds of it.
  pub comes_as_before : (P : Log → Type 0)
      → P (record (used comes.before comes.octets []) {
        frames = (used comes.before comes.octets []).frames ++ comes.frame ∷ [];
        begun = None;
      }) → P log
  comes_as_before P is = subst P (sym comes.now) is

  -- The connection is up.
  pub comes_up : log.failed ≡ None
  unfolding used
  comes_up = comes_as_before (λ next. next.failed ≡ None) comes.takes.up

  -- What was decoded is what the item says.
  pub comes_decoded : IsDecodedIn log decoded (completes item)
  unfolding used frame_step
  comes_decoded =
      comes_as_before (λ next. IsDecodedIn next decoded (completes item))
      (subst (λ (step : FrameStep). IsDecodedIn comes.before decoded step) comes.step comes.sees)
