-- What an end's log is after what it reads: octets, frames and items.
use Rattle.std.specs.Prelude.{map as each, ℕ, ◌+◌, ◌&&◌, nat_le, not, max, Bool, true, false}
use Rattle.std.specs.Prelude.{if◌then◌else◌, List, [], ◌∷◌, ◌++◌, length, Option, Some, None}
use Rattle.h2_frame.specs.declared.code.Code.{Code}
use Rattle.h2_frame.specs.declared.code.Code.TheVariants.{InternalError}
use Rattle.h2_frame.specs.Frames.{Frame, GoAway, WindowUpdate}
use Rattle.h2_wire.specs.declared.fault.WireFault.{WireFault}
use Rattle.h2_wire.specs.Faults.{wire_fault_code}
use Rattle.h2_wire.specs.Streams.{Limits}
use Rattle.h2_block.specs.Grouping.{Item, alone}
use Rattle.h2_spec_log.specs.Items.{stream_of_item, encoding_of_items}
use Rattle.h2_spec_log.specs.Events.{Event, UnprocessedEvent}
use Rattle.h2_spec_log.specs.Acts.{In, Out, Happened}
use Rattle.h2_spec_log.specs.Settings.{payload_limit}
use Rattle.h2_spec_log.specs.Log.{Log, acked, active, last_processed, waiting, unreleased}
use Rattle.h2_spec_log.specs.Log.{max_payload_sent, next_unprocessed}
use Rattle.h2_spec_log.specs.LogView.{log_view}
use Rattle.h2_frame.specs.Codes.{code_number}
use Rattle.h2_spec_log.specs.Verdicts.{Verdict, ConnectionFault}
use Rattle.h2_spec_log.specs.ItemRules.{Decoded, replies_to, verdict_of, opened_by, FrameStep}
use Rattle.h2_spec_log.specs.ItemRules.{fails_with, begins_block, completes, frame_step}
use Rattle.h2_spec_log.specs.ItemEffects.{events_of, discarded_flow, table_after}
use Rattle.h2_spec_log.specs.ItemEffects.{encoder_after_item}
use Rattle.h2_spec_log.specs.CallRules.{returns_credit}

-- the log with an item that was read without a fault of the connection
abbrev pub read : Log → Option Decoded → Item → Log
read log decoded item =
    record log {
      received = item ∷ log.received;
      table = table_after log.table decoded item;
      encoder = encoder_after_item log.encoder item;
    }

-- the log with items that were written, with the greatest payload in force now
unfoldable pub with_sent : Log → List Item → Log
with_sent log [] = log
with_sent log (item ∷ items) =
    record log {
      sent = item ∷ items ++ log.sent;
      written = log.written ++ encoding_of_items (max_payload_sent log) (item ∷ items);
      payloads = each (λ one. max_payload_sent log) (item ∷ items) ++ log.payloads;
      turns = Out (encoding_of_items (max_payload_sent log) (item ∷ items)) ∷ log.turns;
    }

-- the log with events that were reported
unfoldable pub with_reported : Log → List Event → Log
with_reported log [] = log
with_reported log (event ∷ events) = record log {
  reported = event ∷ events
      ++ log.reported;
  turns = each Happened (event ∷ events) ++ log.turns;
}

-- what a stream still owes where it was active in the first log and isn't in the second
-- rule: 6.9 What a stream owes is returned when it is released or over
unfoldable pub owed_at_close : Log → Log → ℕ → ℕ
owed_at_close before after i = if active before i && not
    (active after i) then unreleased after i else 0

-- all that is due is returned, by one WINDOW_UPDATE on stream 0
-- rule: 6.9 Nothing of the window of the connection is lost
abbrev pub with_credit_returned : Log → Log
with_credit_returned log = with_sent (record log { unreturned = 0 }) (alone
    (WindowUpdate 0 log.unreturned) ∷ [])

-- So much more is due: it is returned at once, and with it what was due before, where less than the
-- full output waits. Where nothing more is due, nothing is written.
-- rule: 6.9 Nothing of the window of the connection is lost
unfoldable pub with_unreturned : ℕ → Log → Log
with_unreturned more log =
    if returns_credit more (waiting log) then with_credit_returned
    (record log { unreturned = log.unreturned + more })
    else record log { unreturned = log.unreturned + more }

-- the connection fails: GOAWAY with the greatest stream that was taken stands after what waits
-- (sections 5.4.1 and 6.8)
-- rule: 5.4.1 A connection error is answered by GOAWAY, and nothing is sent after
abbrev pub with_failure : Code → ℕ → Log → Log
with_failure code last log = record (with_sent log (alone (GoAway last
    (code_number code) []) ∷ [])) { failed = Some code }

-- the log after an item that has this verdict
-- rule: 5.4.1 A connection error is answered by GOAWAY, and nothing is sent after
unfoldable pub with_verdict : Log → Option Decoded → Item → Verdict → Log
with_verdict log decoded item (ConnectionFault code) = with_failure code (max (last_processed log)
    (opened_by (log_view log) decoded item)) log
with_verdict log decoded item verdict =
    let events = events_of (log_view log) decoded verdict item in
    let replied = with_sent (read log decoded item) (replies_to verdict item) in
    let closed = owed_at_close log (with_reported replied events) (stream_of_item item) in
    with_reported (with_unreturned (discarded_flow verdict item + closed) replied) events

-- the log after an item that comes next
abbrev pub with_item : Log → Option Decoded → Item → Log
with_item log decoded item = with_verdict log decoded item (verdict_of (log_view log) decoded item)

-- the limits of payloads, from the next octet on those that are in force now
-- rule: 4.2 The limit of an end is its greatest MAX_FRAME_SIZE of those in force
abbrev pub limits_from : Log → Limits
limits_from log = λ place. if nat_le place (length log.input) then log.limits place
    else payload_limit (acked log) log.sent

-- the log with octets that were used, after whose last frame these are left
unfoldable pub used : Log → List ℕ → List ℕ → Log
used log octets unparsed =
    record log {
      input = log.input
          ++ octets;
      limits = limits_from log;
      unparsed = unparsed;
      turns = In octets ∷ log.turns;
    }

-- the log after what a frame makes of the block that has begun
unfoldable pub with_step : Log → Option Decoded → FrameStep → Log
with_step log decoded (fails_with code) = with_failure code (last_processed log) log
with_step log decoded (begins_block begun) = record log { begun = Some begun }
with_step log decoded (completes item) = with_item (record log { begun = None }) decoded item

-- the log after a frame
-- rule: 3.4 A first frame other than SETTINGS without ACK is PROTOCOL_ERROR
unfoldable pub with_frame : Log → Option Decoded → Frame → Log
with_frame log decoded frame = with_step (record log {
  frames = log.frames
      ++ frame ∷ [];
}) decoded (frame_step (log_view log) frame)

-- A call of `take` used octets, and no frame ended with them.
abbrev pub took_part : Log → List ℕ → List ℕ → Log
took_part log octets unparsed = used log octets unparsed

-- It used octets, with whose last a frame ended.
abbrev pub took_frame : Log → List ℕ → Option Decoded → Frame → Log
took_frame log octets decoded frame = with_frame (used log octets []) decoded frame

-- It used octets, whose last makes a fault of the stream.
abbrev pub took_fault : Log → List ℕ → WireFault → Log
took_fault log octets fault = with_failure (wire_fault_code fault) (last_processed log)
    (used log octets [])

-- It used octets, and memory was refused.
-- rule: 5.4 (own) Out of memory is INTERNAL_ERROR
abbrev pub took_out_of_memory : Log → List ℕ → Log
took_out_of_memory log octets = with_failure InternalError (last_processed log) (used log octets [])

-- It used none, and reported the next stream that the peer doesn't process, which closes it.
-- rule: 6.8 Own streams above GOAWAY's last are reported as unprocessed
abbrev pub took_none : Log → Log
took_none log =
    let events = UnprocessedEvent (next_unprocessed log) ∷ [] in
    let closed = owed_at_close log (with_reported log events) (next_unprocessed log) in
    with_reported (with_unreturned closed log) events
