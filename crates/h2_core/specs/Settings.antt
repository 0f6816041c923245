-- SETTINGS that are checked before they are applied.
use Rattle.std.specs.Prelude.{◌≡◌, ℕ, ℤ, Bool, List, [], ◌∷◌, Option, Some, None, Result, Ok, Err}
use Rattle.std.specs.FinMap as map
use Rattle.h2_flow.specs.declared.settings.Settings.{Settings}
use Rattle.h2_flow.specs.Settings.{with_value}
use Rattle.h2_spec_log.specs.ItemRules.{settings_fault}
use Rattle.h2_spec_machine.specs.End.{end_view, any_above}
use Rattle.h2_streams.specs.Streams.{is_above_by_shift}
use Rattle.h2_streams.specs.Table.{TableState}
use Rattle.h2_core.specs.declared.endpoint.Endpoint.{Endpoint}
use Rattle.h2_core.specs.declared.receive_settings.GreatestWindow.{GreatestWindow}
use Rattle.h2_core.specs.declared.step_error.StepError.{StepError}
use Rattle.h2_core.specs.declared.step_error.StepError.TheVariants.{Fault, OutOfMemory}
use Rattle.h2_core.specs.Endpoint.{end_of}

-- settings with these values, in order
unfoldable pub with_values : Settings → List (ℕ × ℕ) → Settings
with_values settings [] = settings
with_values settings (pair ∷ pairs) = with_values (with_value settings pair) pairs

-- the settings after the pairs, or the first fault of one
abbrev pub AppliesSettings : Endpoint → List (ℕ × ℕ) → Result Settings StepError → Type 0
AppliesSettings one pairs (Ok settings) =
    (settings_fault (end_view (end_of one)) pairs ≡ None) × (settings ≡ with_values one.peer pairs)
AppliesSettings one pairs (Err (Fault code opened)) =
    (settings_fault (end_view (end_of one)) pairs ≡ Some code) × (opened ≡ 0)
AppliesSettings one pairs (Err OutOfMemory) = ⊥

-- The greatest of the send windows isn't known yet, or is known: whether an initial window brings
-- one of them above the greatest can be decided by it.
abbrev pub KnowsGreatest : TableState → Option (Option ℤ) → Type 0
KnowsGreatest table None = Unit {0}
KnowsGreatest table (Some greatest) = (initial : ℕ)
    → any_above table.send_initial initial (map.entries table.entries)
    ≡ is_above_by_shift table.send_initial initial greatest

-- whether another initial window brings the greatest of the send windows above 2^31 - 1 (section
-- 6.9.2)
abbrev pub shifts_too_far : GreatestWindow → (initial : ℕ) → Bool
shifts_too_far greatest initial = is_above_by_shift greatest.initial initial greatest.window
