-- Items that don't fail the connection leave it up; and what stands where it fails.
use Rattle.h2_core.proofs.Names.{◌≡◌, ◌≢◌, ◌<◌, ◌^◌, ℕ, ◌==◌, ◌&&◌, not, Bool, true, false, max}
use Rattle.h2_core.proofs.Names.{if◌then◌else◌, List, [], ◌++◌, length, Option, Some, None, ◌⊎◌}
use Rattle.h2_core.proofs.Names.{inl, inr, refl, sym, ap, subst, ◌∙◌, ◌||◌, arith, le-ltb, lt-ltb}
use Rattle.h2_core.proofs.Names.{DecoderState, list_size, sameb, max_list, Entries, Field, Code}
use Rattle.h2_core.proofs.Names.{InternalError, code_number, encoding_of, Data, Ping, GoAway}
use Rattle.h2_core.proofs.Names.{WindowUpdate, Item, alone, block, returns_credit, Values}
use Rattle.h2_core.proofs.Names.{StreamView, Verdict, ConnectionFault, StreamFault, NoEvent}
use Rattle.h2_core.proofs.Names.{Reported, Decoded, is_idle, is_at_capacity, peer_opens, End}
use Rattle.h2_core.proofs.Names.{end_view, stream_at, after_item, return_credit, more_unreturned}
use Rattle.h2_core.proofs.Names.{update_stream, close_stream, set_stream, widen_send_window}
use Rattle.h2_core.proofs.Names.{receive_block, apply_own_settings, fail, narrow_recv_window}
use Rattle.h2_core.proofs.Names.{IsSoundEnd, FailsAlike, ItemTaken, TakesItem, FailsWithoutMemory}
use Rattle.h2_core.proofs.Names.{IsSmall, FailsBy, FrameEvent, StepError, Fault, OutOfMemory}
use Rattle.h2_core.proofs.Names.{encoding_of_items, encoding_of_item, opened_by, verdict_of}
use Rattle.h2_core.proofs.Names.{verdict_by_rules, over_limits, replies_to, after_verdict}
use Rattle.h2_core.proofs.Names.{after_stream_fault, after_ignored, after_reported, add_unreturned}
use Rattle.h2_core.proofs.Names.{◌≤◌, StreamIsInRange}
use Rattle.h2_spec_machine.specs.Machine.{receive_data, with_flow}
use Rattle.std.proofs.Common.{nat_lt, Err, is_some}
use Rattle.hpack.specs.Blocks.{Block as BlockSays}
use Rattle.hpack.specs.Lists.{NoBlock, HoldsList, DecodeFault}
use Rattle.hpack.specs.declared.types.fault.Fault.{Fault as DecodingFault}
use Rattle.hpack.specs.declared.types.field.Decoded.{Decoded as Answered}
use Rattle.hpack.specs.contracts.types.field.Decoded.{the_type}
use Rattle.h2_frame.specs.declared.code.Code.TheVariants.{CompressionError}
use Rattle.h2_frame.specs.Frames.{Reset, Settings}
use Rattle.h2_core.specs.Blocks.{BlockTaken, BlockFails, decode_fault_code}
use Rattle.h2_laws_machine.proofs.TableRanges.{block_within}
use Rattle.h2_laws_log.proofs.StreamNumbers.{number_or_none as opens_by}
use Rattle.hpack.specs.declared.types.fault.Fault.TheVariants as decoding
use Rattle.hpack.specs.declared.types.field.Decoded.TheVariants as answered
use Rattle.h2_core.proofs.Names.{rules}

-- Credit that is returned fails nothing.
credit_by : (b : Bool) (e : End) (more : ℕ)
    → (if b then return_credit (more_unreturned e more) else more_unreturned e more).failed
    ≡ e.failed
credit_by true e more = refl
credit_by false e more = refl

credit_up : (e : End) (more : ℕ) → (add_unreturned more e).failed ≡ e.failed
unfolding add_unreturned
credit_up e more = credit_by (returns_credit more (length e.output.waiting)) e more

-- Nor does a stream that is changed.
changed_by : (b : Bool) (e : End) (i : ℕ) (stream : StreamView)
    → (if b then close_stream (set_stream e i stream) i 0 else set_stream e i stream).failed
    ≡ e.failed
changed_by true e i stream = credit_up _ _
changed_by false e i stream = refl

changed_up : (e : End) (i : ℕ) (stream : StreamView) → (update_stream e i stream).failed ≡ e.failed
changed_up e i stream = changed_by (stream.ended_in && stream.ended_out) e i stream

data_up : (e : End) (i count : ℕ) (end : Bool) (stream : Option StreamView)
    → (receive_data e i count end stream).failed ≡ e.failed
data_up e i count end None = refl
data_up e i count end (Some stream) = changed_up (narrow_recv_window e count) i
    (with_flow stream count end)

block_up : (e : End) (i : ℕ) (end : Bool) (stream : Option StreamView)
    → (receive_block e i end stream).failed ≡ e.failed
block_up e i end None = refl
block_up e i end (Some stream) = changed_up e i
    (record stream { ended_in = stream.ended_in || end })

own_up : (e : End) (values : Option Values) → (apply_own_settings e values).failed ≡ e.failed
own_up e None = refl
own_up e (Some values) = refl

connection_up : (b : Bool) (e other : End) → other.failed ≡ e.failed
    → (if b then other else e).failed ≡ e.failed
connection_up true e other same = same
connection_up false e other same = refl

widened_up : (e : End) (i increment : ℕ) (stream : Option StreamView)
    → (widen_send_window e i increment stream).failed ≡ e.failed
widened_up e i increment None = connection_up (i == 0) e _ refl
widened_up e i increment (Some stream) = refl

reported_up : (e : End) (decoded : Option Decoded) (item : Item)
    → (after_reported e decoded item).failed ≡ e.failed
unfolding after_reported
reported_up e decoded (block i end octets) = block_up _ i end (stream_at e i)
reported_up e decoded (alone (Data i end octets pad)) = data_up e i _ end (stream_at e i)
reported_up e decoded (alone (Reset i code)) = credit_up _ _
reported_up e decoded (alone (Settings ack pairs)) = own_up e e.own.awaited
reported_up e decoded (alone frame) = refl

ignored_up : (e : End) (decoded : Option Decoded) (item : Item)
    → (after_ignored e decoded item).failed ≡ e.failed
unfolding after_ignored
ignored_up e decoded (alone (Data i end octets pad)) = credit_up _ _
ignored_up e decoded (alone (WindowUpdate i increment)) = widened_up e i increment (stream_at e i)
ignored_up e decoded (alone (Settings false pairs)) = refl
ignored_up e decoded (alone (Ping false octets)) = refl
ignored_up e decoded item = refl

refused_up : (e : End) (decoded : Option Decoded) (item : Item) (code : Code)
    → (after_stream_fault e decoded item code).failed ≡ e.failed
unfolding after_stream_fault
refused_up e decoded (alone (Data i end octets pad)) code = credit_up _ _
refused_up e decoded item code = credit_up _ _

-- An item whose verdict isn't that the connection fails leaves it as it is.
pub verdict_up : (e : End) (decoded : Option Decoded) (item : Item) (verdict : Verdict)
    → ((code : Code) → verdict ≢ ConnectionFault code)
    → (after_verdict e decoded item verdict).failed ≡ e.failed
unfolding after_verdict
verdict_up e decoded item (ConnectionFault code) goes_on = absurd (goes_on code refl)
verdict_up e decoded item (StreamFault code) goes_on = refused_up e decoded item code
verdict_up e decoded item NoEvent goes_on = ignored_up e decoded item
verdict_up e decoded item Reported goes_on = reported_up e decoded item

-- an end with another table of the peer's
abbrev pub with_table : End → Entries → End
with_table e table = record e { reading = record e.reading { table = table } }

-- An end with the table after a block is sound.
pub table_sound : (e : End) (octets : List ℕ) (fields : List Field) (after : Entries) → IsSoundEnd e
    → BlockSays e.reading.table e.own.in_force.table_limit octets fields after
    → IsSoundEnd (with_table e after)
table_sound e octets fields after sound says =
    let within = block_within e.reading.table e.own.in_force.table_limit octets fields after says
    sound.ranges.table in
    let maximum : after.maximum ≤ 65536 = omega (arith, within.1, sound.ranges.table_limit) in
    let streams : (i : ℕ) (stream : StreamView) → stream_at e i ≡ Some stream
    → StreamIsInRange (with_table e after) stream =
    λ i stream active. assumption (sound.ranges.streams i stream active) in
    assumption (within.0, maximum, streams, sound)

-- What fails with the code and the last stream, and keeps what counts, fails alike.
pub alike : (e new : End) (code : Code) (last : ℕ) → new.role ≡ e.role → new.failed ≡ Some code
    → new.streams ≡ e.streams → new.windows ≡ e.windows → new.peer ≡ e.peer
    → new.output.waiting ≡ e.output.waiting ++ encoding_of (GoAway last (code_number code) [])
    → FailsAlike (fail code last e) new
unfolding encoding_of_items encoding_of_item
alike e new code last role failed streams windows peer waiting = search rules

-- A failure at another table is alike.
pub table_alike : (e : End) (table : Entries) (code : Code) (last : ℕ)
    → FailsAlike (fail code last e) (fail code last (with_table e table))
table_alike e table code last = search rules

module _ (e : End) (id : ℕ) (end : Bool) (octets : List ℕ) (decoded : Decoded) where
  -- A block changes an end as it changes the one with its table already, unless it fails.
  block_after : (verdict : Verdict) → ((code : Code) → verdict ≢ ConnectionFault code)
      → after_verdict (with_table e decoded.after) (Some decoded) (block id end octets) verdict
      ≡ after_verdict e (Some decoded) (block id end octets) verdict
  unfolding after_verdict after_stream_fault after_ignored after_reported
  block_after (ConnectionFault code) goes_on = absurd (goes_on code refl)
  block_after verdict goes_on = refl

  -- The block is taken by the end whose table is the one after it.
  pub block_taken : (list : List Field) (reported : Option FrameEvent) (new : End) → e.failed ≡ None
      → BlockSays e.reading.table e.own.in_force.table_limit octets decoded.fields decoded.after
      → ItemTaken (with_table e decoded.after) (Some decoded) (block id end octets) list reported
      new
      → BlockTaken e id end octets list reported new
  block_taken list reported new up says taken =
      let after : new ≡ after_item e (Some decoded) (block id end octets) = taken.after
      ∙ block_after (verdict_of (end_view e) (Some decoded) (block id end octets)) taken.goes_on in
      record {
        decoded = Some decoded;
        says = says;
        after = after;
        up = ap (λ (x : End). x.failed) after ∙ verdict_up e (Some decoded) (block id end octets)
            (verdict_of (end_view e) (Some decoded) (block id end octets)) taken.goes_on ∙ up;
        events = taken.events;
      }

-- One that is no block fails the connection.
pub no_block_fails : (e new : End) (id : ℕ) (end : Bool) (octets : List ℕ)
    → NoBlock e.reading.table e.own.in_force.table_limit octets
    → FailsAlike (fail CompressionError e.streams.last_processed e) new
    → BlockFails e id end octets CompressionError new
unfolding after_verdict verdict_of verdict_by_rules over_limits replies_to encoding_of_items
    opened_by
no_block_fails e new id end octets none failed = search rules

-- What stops a block fails the connection.
pub block_stopped : (e mid new : End) (id : ℕ) (end : Bool) (octets : List ℕ) (decoded : Decoded)
    (list : List Field) (stop : StepError) (answer : Code)
    → BlockSays e.reading.table e.own.in_force.table_limit octets decoded.fields decoded.after
    → TakesItem (with_table e decoded.after) (Some decoded) (block id end octets) list (Err stop)
    mid
    → FailsBy mid stop answer new
    → BlockFails e id end octets answer new ⊎ FailsWithoutMemory e answer new
unfolding after_verdict
block_stopped e mid new id end octets decoded list (Fault code opened) answer says stopped fails =
    let item : Item = block id end octets in
    let verdict : verdict_of (end_view e) (Some decoded) item ≡ ConnectionFault code = stopped.0 in
    let opens : opened ≡ opened_by (end_view e) (Some decoded) item = stopped.1 in
    let same : mid ≡ with_table e decoded.after = stopped.2 in
    let after : after_item e (Some decoded) item ≡ fail code (max e.streams.last_processed opened) e
    = ap (after_verdict e (Some decoded) item) verdict ∙ ap (λ (n : ℕ). fail code
    (max e.streams.last_processed n) e) (sym opens) in
    let became : new ≡ fail code (max e.streams.last_processed opened) (with_table e decoded.after)
    = fails.1 ∙ ap (λ (x : End). fail code (max x.streams.last_processed opened) x) same in
    search rules
block_stopped e mid new id end octets decoded list OutOfMemory answer says stopped fails =
    search rules

pub opens_small : (e : End) (id : ℕ) (end : Bool) (octets : List ℕ) (decoded : Option Decoded)
    → id < 2 ^ 31 → opened_by (end_view e) decoded (block id end octets) < 2 ^ 31
unfolding opened_by
opens_small e id end octets None small = omega arith
opens_small e id end octets (Some decoded) small = search rules

-- the same, for a code that is known to be that
pub decode_fails : (e new : End) (id : ℕ) (end : Bool) (octets : List ℕ) (code : Code)
    → code ≡ CompressionError → NoBlock e.reading.table e.own.in_force.table_limit octets
    → FailsAlike (fail code e.streams.last_processed e) new → BlockFails e id end octets code new
decode_fails e new id end octets code is none failed =
    subst (λ (x : Code). BlockFails e id end octets x new) (sym is)
    (no_block_fails e new id end octets none
    (subst (λ (x : Code). FailsAlike (fail x e.streams.last_processed e) new) is failed))

-- Where memory was refused, the connection fails for that.
pub memory_fails : (e new : End) (code : Code) → code ≡ InternalError
    → FailsAlike (fail code e.streams.last_processed e) new → FailsWithoutMemory e code new
memory_fails e new code is failed = search rules

-- A block that isn't decoded fails the connection: it is none, or memory was refused.
pub undecoded_fails : (e new : End) (id : ℕ) (end : Bool) (octets : List ℕ) (fault : DecodingFault)
    (code : Code) → code ≡ decode_fault_code fault
    → DecodeFault e.reading.table e.own.in_force.table_limit octets fault
    → FailsAlike (fail code e.streams.last_processed e) new
    → BlockFails e id end octets code new ⊎ FailsWithoutMemory e code new
undecoded_fails e new id end octets decoding.Compression code is says failed =
    inl (decode_fails e new id end octets code is says failed)
undecoded_fails e new id end octets decoding.Memory code is says failed = search rules
undecoded_fails e new id end octets decoding.Failed code is says failed = absurd says

-- an end with another decoder
abbrev pub with_decoder : End → DecoderState → End
with_decoder e state =
    record e {
      reading = record e.reading { table = state.table };
      own = record e.own { in_force = record e.own.in_force { table_limit = state.limit } };
    }

-- A decoder after a block has the table after it, and the limit.
pub at_table : (e : End) (state : DecoderState) (after : Entries) (P : End → Type 0)
    → state ≡ record { table = after; limit = e.own.in_force.table_limit; failed = false }
    → P (with_decoder e state) → P (with_table e after)
at_table e state after P same h = subst (λ (s : DecoderState). P (with_decoder e s)) same h

pub from_table : (e : End) (state : DecoderState) (after : Entries) (P : End → Type 0)
    → state ≡ record { table = after; limit = e.own.in_force.table_limit; failed = false }
    → P (with_table e after) → P (with_decoder e state)
from_table e state after P same h = subst (λ (s : DecoderState). P (with_decoder e s)) (sym same) h

-- What stops a step has changed nothing.
pub stopped_same : (e mid : End) (decoded : Option Decoded) (item : Item) (list : List Field)
    (stop : StepError) → TakesItem e decoded item list (Err stop) mid → mid ≡ e
stopped_same e mid decoded item list (Fault code opened) h = h.2
stopped_same e mid decoded item list OutOfMemory h = h.1

-- What a block opens that stops has a number of 31 bits.
pub stopped_small : (e mid : End) (decoded : Option Decoded) (id : ℕ) (end : Bool)
    (octets : List ℕ) (list : List Field) (stop : StepError) → id < 2 ^ 31
    → TakesItem e decoded (block id end octets) list (Err stop) mid → IsSmall stop
stopped_small e mid decoded id end octets list (Fault code opened) small h =
    subst (λ (n : ℕ). n < 2 ^ 31) (sym h.1) (opens_small e id end octets decoded small)
stopped_small e mid decoded id end octets list OutOfMemory small h = tt

-- The list that is kept is that of the block, unless it is too large.
pub record Held (fields list : List Field) (large : Bool) : Type 0 where
  pub size : nat_lt max_list (list_size fields) ≡ large
  pub same : large ≡ false → list ≡ fields

pub held : (answer : Answered) (fields list : List Field) → HoldsList max_list fields answer list
    → Held fields list (sameb the_type answer answered.TooLarge)
held answered.Whole fields list h = search (rules, le-ltb max_list (list_size fields) h.1)
held answered.TooLarge fields list h = search (rules, lt-ltb max_list (list_size fields) h.1)
