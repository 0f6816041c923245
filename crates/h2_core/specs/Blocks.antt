-- What steps do with a field block that is received.
use Rattle.std.specs.Prelude.{◌≡◌, ◌⊎◌, ℕ, Bool, false, List, nat_lt}
use Rattle.std.specs.Prelude.{Option, Some, None, Result, Ok, Err}
use Rattle.hpack.specs.declared.types.field.Field.{Field}
use Rattle.hpack.specs.Blocks.{Block as BlockSays}
use Rattle.hpack.specs.Lists.{NoBlock, list_size}
use Rattle.hpack.specs.declared.types.fault.Fault.{Fault}
use Rattle.hpack.specs.declared.types.fault.Fault.TheVariants as faults
use Rattle.h2_frame.specs.declared.code.Code.{Code}
use Rattle.h2_frame.specs.declared.code.Code.TheVariants.{CompressionError, InternalError}
use Rattle.h2_block.specs.Grouping.{block}
use Rattle.h2_spec_log.specs.ItemRules.{Decoded}
use Rattle.h2_spec_log.specs.Limits.{max_list}
use Rattle.h2_spec_machine.specs.End.{End}
use Rattle.h2_spec_machine.specs.Machine.{after_item}
use Rattle.h2_core.specs.declared.endpoint.Endpoint.{Endpoint}
use Rattle.h2_core.specs.declared.step_error.StepError.{StepError}
use Rattle.h2_core.specs.Endpoint.{end_of}
use Rattle.h2_core.specs.Events.{FrameEvent}
use Rattle.h2_core.specs.Failure.{FailsAlike}
use Rattle.h2_core.specs.Items.{TakesItem, events_reported, item_events}
use Rattle.h2_core.specs.Frames.{FailsWithoutMemory}

-- A block was decoded, and what it decodes to is the end's table and, unless it is too large, its
-- list: whatever that is, the step takes the block so.
abbrev pub TakesDecoded : Endpoint → ℕ → Bool → Bool → Result (Option FrameEvent) StepError
    → Endpoint → Type 0
TakesDecoded one id end too_large result new =
    (decoded : Decoded) (octets : List ℕ) → decoded.after ≡ one.decoder.table
    → nat_lt max_list (list_size decoded.fields) ≡ too_large
    → (too_large ≡ false → one.list ≡ decoded.fields)
    → TakesItem (end_of one) (Some decoded) (block id end octets) new.list result (end_of new)

-- `decoded` is what the block says at the end's table and limit, or nothing where it says nothing.
abbrev pub IsDecodedOf : End → List ℕ → Option Decoded → Type 0
IsDecodedOf e octets None = NoBlock e.reading.table e.own.in_force.table_limit octets
IsDecodedOf e octets (Some decoded) =
    BlockSays e.reading.table e.own.in_force.table_limit octets decoded.fields decoded.after

-- The code with which the connection ends where a block isn't decoded: what is no block is a
-- COMPRESSION_ERROR (RFC 9113, section 4.3), and lack of memory an INTERNAL_ERROR.
-- rule: 4.3 A block that does not decode is COMPRESSION_ERROR, of the connection
abbrev pub decode_fault_code : Fault → Code
decode_fault_code faults.Compression = CompressionError
decode_fault_code faults.Memory = InternalError
decode_fault_code faults.Failed = InternalError

-- The end is the machine after the block, and what is reported of the block is returned.
pub record BlockTaken (e : End) (id : ℕ) (end : Bool) (octets : List ℕ) (list : List Field)
    (reported : Option FrameEvent) (new : End) : Type 0 where
  pub decoded : Option Decoded
  pub says : IsDecodedOf e octets decoded
  pub after : new ≡ after_item e decoded (block id end octets)
  pub up : new.failed ≡ None
  pub events : events_reported list reported ≡ item_events e decoded (block id end octets)

-- The machine fails with the block, and so does the end, with the same code.
pub record BlockFails (e : End) (id : ℕ) (end : Bool) (octets : List ℕ) (code : Code) (new : End)
    : Type 0 where
  pub decoded : Option Decoded
  pub says : IsDecodedOf e octets decoded
  pub fails : (after_item e decoded (block id end octets)).failed ≡ Some code
  pub after : FailsAlike (after_item e decoded (block id end octets)) new

-- the result of a complete block, and the end after it
abbrev pub TakesBlock : End → ℕ → Bool → List ℕ → List Field → Result (Option FrameEvent) Code → End
    → Type 0
TakesBlock e id end octets list (Ok reported) new = BlockTaken e id end octets list reported new
TakesBlock e id end octets list (Err code) new =
    BlockFails e id end octets code new ⊎ FailsWithoutMemory e code new
