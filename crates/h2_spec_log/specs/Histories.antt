-- The logs that come about: whatever octets come and whatever calls are made, an end's log is one
-- of these.
use Rattle.std.specs.Prelude.{◌≡◌, ◌≢◌, ◌==◌, ◌&&◌, not, Bool, true, false, ℕ, List, [], ◌∷◌, ◌++◌}
use Rattle.std.specs.Prelude.{length, Option, Some, None}
use Rattle.hpack.specs.Blocks.{Block}
use Rattle.hpack.specs.Lists.{NoBlock}
use Rattle.h2_frame.specs.Frames.{Frame}
use Rattle.h2_wire.specs.declared.fault.WireFault.{WireFault}
use Rattle.h2_wire.specs.Streams.{Frames, WireFaultAt}
use Rattle.h2_block.specs.Grouping.{alone, block}
use Rattle.h2_spec_log.specs.declared.role.Role.{Role}
use Rattle.h2_spec_log.specs.Acts.{Values, AreInRange, Act, Answer, IsTypedAct}
use Rattle.h2_spec_log.specs.Settings.{is_server, own_value}
use Rattle.h2_spec_log.specs.Log.{Log, acked, next_unprocessed}
use Rattle.h2_spec_log.specs.LogView.{log_view}
use Rattle.h2_spec_log.specs.ItemRules.{Decoded, FrameStep, fails_with, begins_block, completes}
use Rattle.h2_spec_log.specs.ItemRules.{frame_step}
use Rattle.h2_spec_log.specs.LogSteps.{limits_from, took_part, took_frame, took_fault}
use Rattle.h2_spec_log.specs.LogSteps.{took_out_of_memory, took_none}
use Rattle.h2_spec_log.specs.LogCalls.{MayAnswer, with_call, opened}
use Rattle.h2_spec_log.specs.Memory.{credit_needs_memory, frame_needs_memory, KeepsOctets}

-- the limit of the peer's table of fields: the own value 1 that is in force (RFC 9113, section
-- 4.3.1)
abbrev pub table_limit : Log → ℕ
table_limit log = own_value 1 4096 (acked log) log.sent

-- What was seen of a block is what it says at its place, after all blocks before it; nothing was
-- seen where it says nothing.
-- rule: 4.3 Each received block is decoded, also one that is ignored
abbrev pub IsDecoded : Log → List ℕ → Option Decoded → Type 0
IsDecoded log octets None = NoBlock log.table (table_limit log) octets
IsDecoded log octets (Some decoded) = Block log.table
    (table_limit log) octets decoded.fields decoded.after

-- The same of the item, if there is one, that a frame completes. Nothing is decoded of anything
-- else.
abbrev pub IsDecodedIn : Log → Option Decoded → FrameStep → Type 0
IsDecodedIn log decoded (completes (block stream end octets)) = IsDecoded log octets decoded
IsDecodedIn log decoded (completes (alone frame)) = decoded ≡ None
IsDecodedIn log decoded (begins_block begun) = decoded ≡ None
IsDecodedIn log decoded (fails_with code) = decoded ≡ None

abbrev pub IsDecodedFor : Log → Option Decoded → Frame → Type 0
IsDecodedFor log decoded frame = IsDecodedIn log decoded (frame_step (log_view log) frame)

-- Octets are taken as long as the connection hasn't failed, and once all unprocessed streams were
-- reported.
pub record TakesOctets (log : Log) : Type 0 where
  pub up : log.failed ≡ None
  pub all_reported : next_unprocessed log ≡ 0

-- Octets came, and no frame ended: the frames are those before, and these are left.
abbrev pub TakesPart : Role → Log → List ℕ → List ℕ → Type 0
TakesPart role log octets unparsed = Frames (is_server role) (limits_from log) (log.input
    ++ octets) log.frames unparsed

-- Octets came, and with the last of them a frame ended.
abbrev pub TakesFrame : Role → Log → List ℕ → Frame → Type 0
TakesFrame role log octets frame = Frames (is_server role) (limits_from log) (log.input ++ octets)
    (log.frames ++ frame ∷ []) []

-- Octets came, and the last of them made a fault.
abbrev pub TakesFault : Role → Log → List ℕ → WireFault → Type 0
TakesFault role log octets fault =
    WireFaultAt (is_server role) (limits_from log) (log.input ++ octets) log.frames (length
    (log.input ++ octets)) fault

-- For what memory is refused, where these octets are used with that and these are not: to return
-- credit for a stream that is reported as unprocessed, or to keep octets of a frame that is cut in
-- two, before any octet is used; or for what a frame makes of the end, with the octets of that
-- frame.
-- rule: 5.4 (own) Out of memory is INTERNAL_ERROR
-- rule: 5.4 (own) Being out of memory hides no other fault of the connection
pub data LacksMemory (role : Role) (log : Log) (octets unused : List ℕ) : Type 0 where
  to_report : octets ≡ [] → next_unprocessed log ≢ 0
      → credit_needs_memory (log_view log) (next_unprocessed log) ≡ true
      → LacksMemory role log octets unused
  to_keep : octets ≡ [] → TakesOctets log → KeepsOctets log unused
      → LacksMemory role log octets unused
  to_take : TakesOctets log → (frame : Frame) → TakesFrame role log octets frame
      → frame_needs_memory log frame ≡ true → LacksMemory role log octets unused

-- Memory may be refused with these octets, of those that have come.
abbrev pub MayRunOutOfMemory : Role → Log → List ℕ → Type 0
MayRunOutOfMemory role log octets = (unused : List ℕ) × LacksMemory role log octets unused

pub data IsLog (role : Role) (values : Values) : Log → Type 0 where
  begins : AreInRange values → IsLog role values (opened role values)
  took_some : {log : Log} → IsLog role values log → TakesOctets log → (octets unparsed : List ℕ)
      → TakesPart role log octets unparsed
      → IsLog role values (took_part log octets unparsed)
  took_one : {log : Log} → IsLog role values log → TakesOctets log
      → (octets : List ℕ) (frame : Frame) (decoded : Option Decoded)
      → TakesFrame role log octets frame → IsDecodedFor log decoded frame
      → IsLog role values (took_frame log octets decoded frame)
  met_fault : {log : Log} → IsLog role values log → TakesOctets log
      → (octets : List ℕ) (fault : WireFault) → TakesFault role log octets fault
      → IsLog role values (took_fault log octets fault)
  ran_out_of_memory : {log : Log} → IsLog role values log → log.failed ≡ None → (octets : List ℕ)
      → MayRunOutOfMemory role log octets
      → IsLog role values (took_out_of_memory log octets)
  -- a stream was reported that the peer doesn't process
  reported_one : {log : Log} → IsLog role values log → log.failed ≡ None
      → next_unprocessed log ≢ 0 → IsLog role values (took_none log)
  called_one : {log : Log} → IsLog role values log → (act : Act) (answer : Answer)
      → IsTypedAct act → MayAnswer log act answer
      → IsLog role values (with_call log act answer)
