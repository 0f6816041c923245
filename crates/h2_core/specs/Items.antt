-- The end after a step that takes an item, and the step's result.
use Rattle.std.specs.Prelude.{◌≡◌, ◌≢◌, ℕ, true, List, [], ◌∷◌, Option, Some, None}
use Rattle.std.specs.Prelude.{Result, Ok, Err, length}
use Rattle.hpack.specs.declared.types.field.Field.{Field}
use Rattle.h2_frame.specs.declared.code.Code.{Code}
use Rattle.h2_block.specs.Grouping.{Item}
use Rattle.h2_spec_log.specs.Events.{Event}
use Rattle.h2_spec_log.specs.Verdicts.{ConnectionFault}
use Rattle.h2_spec_log.specs.ItemRules.{Decoded, verdict_of, opened_by}
use Rattle.h2_spec_log.specs.ItemEffects.{events_of}
use Rattle.h2_spec_log.specs.CallRules.{returns_credit}
use Rattle.h2_spec_log.specs.Memory.{needs_memory}
use Rattle.h2_spec_machine.specs.End.{End, end_view}
use Rattle.h2_spec_machine.specs.Machine.{after_item, add_unreturned, narrow_recv_window}
use Rattle.h2_core.specs.declared.step_error.StepError.{StepError}
use Rattle.h2_core.specs.declared.step_error.StepError.TheVariants.{Fault, OutOfMemory}
use Rattle.h2_core.specs.Events.{FrameEvent, event_of}

-- what is reported of a frame, as events; the fields are those of the list that the end keeps
abbrev pub events_reported : List Field → Option FrameEvent → List Event
events_reported list None = []
events_reported list (Some reported) = event_of list reported ∷ []

-- what is reported of an item that comes next
abbrev pub item_events : End → Option Decoded → Item → List Event
item_events e decoded item = events_of (end_view e) decoded (verdict_of (end_view e) decoded item)
    item

-- The item's verdict isn't that the connection fails; the end is the machine after the item, and
-- what is reported of the item is returned.
pub record ItemTaken (e : End) (decoded : Option Decoded) (item : Item) (list : List Field)
    (reported : Option FrameEvent) (new : End) : Type 0 where
  pub goes_on : (code : Code) → verdict_of (end_view e) decoded item ≢ ConnectionFault code
  pub after : new ≡ after_item e decoded item
  pub events : events_reported list reported ≡ item_events e decoded item

-- The end after a step that takes an item. A step that stops, for a fault or for refused memory,
-- has changed nothing.
abbrev pub TakesItem : End → Option Decoded → Item → List Field
    → Result (Option FrameEvent) StepError → End → Type 0
TakesItem e decoded item list (Ok reported) new = ItemTaken e decoded item list reported new
TakesItem e decoded item list (Err (Fault code opened)) new =
    (verdict_of (end_view e) decoded item ≡ ConnectionFault code)
    × (opened ≡ opened_by (end_view e) decoded item) × (new ≡ e)
TakesItem e decoded item list (Err OutOfMemory) new =
    (needs_memory (end_view e) (verdict_of (end_view e) decoded item) item ≡ true) × (new ≡ e)

-- DATA of `flow` octets was discarded, on a stream that this end has closed; or memory was refused
-- for the credit that is returned, and nothing has changed.
abbrev pub DiscardsData : End → ℕ → Result (Option FrameEvent) StepError → End → Type 0
DiscardsData e flow (Ok reported) new =
    (reported ≡ None) × (new ≡ add_unreturned flow (narrow_recv_window e flow))
DiscardsData e flow (Err stop) new =
    (stop ≡ OutOfMemory) × (returns_credit flow (length e.output.waiting) ≡ true) × (new ≡ e)
