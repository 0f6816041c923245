-- What each frame and each call makes of an end as values. The rules decide, over its view.
use Rattle.std.specs.Prelude.{ℕ, ◌+◌, ◌-◌, ◌%◌, ◌==◌, nat_lt, not, ◌||◌, ◌&&◌, min, max, Bool, true}
use Rattle.std.specs.Prelude.{false, if◌then◌else◌, pos, ◌+ℤ◌, ◌-ℤ◌, List, [], ◌∷◌, ◌++◌, length}
use Rattle.std.specs.Prelude.{drop, Option, Some, None, is_some, map as each}
use Rattle.std.specs.FinMap as map
use Rattle.hpack.specs.Lists.{EncoderState, empty_table}
use Rattle.h2_frame.specs.declared.code.Code.{Code}
use Rattle.h2_frame.specs.declared.code.Code.TheVariants.{EnhanceYourCalm}
use Rattle.h2_frame.specs.Frames.{Frame, Data, Reset, Settings, Ping, GoAway, WindowUpdate}
use Rattle.h2_frame.specs.Encoding.{payload_of}
use Rattle.h2_wire.specs.Streams.{expected_preface}
use Rattle.h2_block.specs.Grouping.{Item, alone, block, Begun}
use Rattle.h2_spec_log.specs.declared.role.Role.{Role}
use Rattle.h2_spec_log.specs.declared.role.Role.TheVariants.{Client, Server}
use Rattle.h2_spec_log.specs.Items.{stream_of_item, encoding_of_items}
use Rattle.h2_spec_log.specs.Acts.{Values, Act, Answer, Open, SendFields, SendData, Release}
use Rattle.h2_spec_log.specs.Acts.{ResetStream, Refuse, SendPing, SendGoAway, PutOut}
use Rattle.h2_spec_log.specs.Acts.{ChangeSettings, Widen, Fail}
use Rattle.h2_spec_log.specs.Settings.{is_server, value_after}
use Rattle.h2_spec_log.specs.Windows.{first_window}
use Rattle.h2_spec_log.specs.View.{StreamView, ended_in}
use Rattle.h2_frame.specs.Codes.{code_number}
use Rattle.h2_spec_log.specs.Verdicts.{Verdict, ConnectionFault, StreamFault, NoEvent, Reported}
use Rattle.h2_spec_log.specs.ItemRules.{Decoded, FrameStep, fails_with, begins_block, completes}
use Rattle.h2_spec_log.specs.ItemRules.{verdict_of, opened_by, frame_step}
use Rattle.h2_spec_log.specs.ItemEffects.{least_last, table_after, encoder_after_item}
use Rattle.h2_spec_log.specs.CallRules.{returns_credit, returns_before_put_out, data_count}
use Rattle.h2_spec_log.specs.CallRules.{data_items, refuse_fault, items_of, answer_of}
use Rattle.h2_spec_log.specs.CallRules.{encoder_after_call, opening_pairs}
use Rattle.h2_spec_machine.specs.End.{StreamEntry, active_entry, reset_entry, StreamMap, End}
use Rattle.h2_spec_machine.specs.End.{stream_at, owed_entry, end_view}

-- an end with another table of the peer's, or block that has begun
abbrev pub with_begun : End → Option Begun → End
with_begun e begun = record e { reading = record e.reading { begun = begun } }

abbrev pub with_table_after : End → Option Decoded → Item → End
with_table_after e decoded item = record e {
  reading = record e.reading {
    table = table_after
        e.reading.table decoded item;
  };
}

-- an end with another encoder
abbrev pub with_encoder : End → EncoderState → End
with_encoder e encoder = record e { output = record e.output { encoder = encoder } }

-- so many octets less that the peer may send on the connection
abbrev pub narrow_recv_window : End → ℕ → End
narrow_recv_window e count = record e {
  windows = record e.windows { recv = e.windows.recv - count };
}

-- items join the output
abbrev pub queue_output : End → List Item → End
queue_output e items = record e {
  output = record e.output {
    waiting = e.output.waiting ++
        encoding_of_items (end_view e).max_payload items;
  };
}

-- all that is unreturned is returned, by WINDOW_UPDATE on stream 0
abbrev pub return_credit : End → End
return_credit e =
    record (queue_output e (alone (WindowUpdate 0 e.windows.unreturned) ∷ [])) {
      windows = record e.windows { recv = e.windows.recv + e.windows.unreturned; unreturned = 0 };
    }

abbrev pub more_unreturned : End → ℕ → End
more_unreturned e more = record e {
  windows = record e.windows {
    unreturned = e.windows.unreturned +
        more;
  };
}

-- so much more is unreturned
unfoldable pub add_unreturned : ℕ → End → End
add_unreturned more e =
    if returns_credit more (length e.output.waiting) then return_credit (more_unreturned e more)
    else more_unreturned e more

-- an active stream is kept
abbrev pub set_stream : End → ℕ → StreamView → End
set_stream e i stream =
    record e {
      streams = record e.streams {
        entries = map.insert e.streams.entries i
            (active_entry stream);
      };
    }

-- 1 where the test holds
abbrev pub is_one : Bool → ℕ
is_one test = if test then 1 else 0

-- An active stream is over, and nothing is kept of it; what it owes, and so much more, is
-- unreturned.
abbrev pub close_stream : End → ℕ → ℕ → End
close_stream e i more =
    add_unreturned (more + owed_entry (map.get e.streams.entries i))
    (record e {
      streams = record e.streams {
        entries = map.remove e.streams.entries i;
        active_count =
            e.streams.active_count - 1;
      };
    })

-- A number is reset by this end, and that is kept of it; what it owes, and so much more, is
-- unreturned.
abbrev pub reset_stream : End → ℕ → ℕ → End
reset_stream e i more =
    add_unreturned (more + owed_entry (map.get e.streams.entries i))
    (record e {
      streams = record e.streams {
        entries = map.insert e.streams.entries i reset_entry;
        active_count = e.streams.active_count - is_one (is_some (stream_at e i));
        resets = e.streams.resets + 1;
      };
    })

-- a stream was changed: it is over once both sides have ended it
abbrev pub update_stream : End → ℕ → StreamView → End
update_stream e i stream =
    if stream.ended_in && stream.ended_out then close_stream (set_stream e i stream) i 0 else
    set_stream e i stream

-- the connection fails: GOAWAY follows what waits
abbrev pub fail : Code → ℕ → End → End
fail code last e = record (queue_output e (alone (GoAway last (code_number code) []) ∷ []))
    { failed = Some code }

-- Frames.

-- a stream after DATA that is reported, with its flow
abbrev pub with_flow : StreamView → ℕ → Bool → StreamView
with_flow stream count end =
    record stream {
      recv_window = stream.recv_window -ℤ pos count;
      owed = stream.owed + count;
      ended_in = stream.ended_in || end;
    }

abbrev pub receive_data : End → ℕ → ℕ → Bool → Option StreamView → End
receive_data e i count end None = e
receive_data e i count end (Some stream) = update_stream (narrow_recv_window e count) i
    (with_flow stream count end)

-- a stream that is opened, by the peer or by this end
abbrev pub new_stream : End → (ended_in ended_out : Bool) → StreamView
new_stream e ended_in ended_out =
    record {
      send_window = pos e.peer.initial_window;
      recv_window = pos e.own.in_force.initial_window;
      owed = 0;
      ended_in = ended_in;
      ended_out = ended_out;
    }

-- a block that is reported: it opens a stream, or belongs to an active one
abbrev pub receive_block : End → ℕ → Bool → Option StreamView → End
receive_block e i end None =
    record e {
      streams = record e.streams {
        entries = map.insert e.streams.entries i (active_entry (new_stream e end false));
        active_count = e.streams.active_count + 1;
        highest = max i e.streams.highest;
        last_processed = i;
      };
    }
receive_block e i end (Some stream) = update_stream e i (record stream {
  ended_in = stream.ended_in
      || end;
})

-- a number is used, and perhaps processed, by a block that opens no stream or one that is closed at
-- once
abbrev pub mark_used : End → ℕ → (used processed : Bool) → End
mark_used e i used processed =
    record e {
      streams = record e.streams {
        highest = if used then i else e.streams.highest;
        last_processed = if processed then i else e.streams.last_processed;
      };
    }

-- windows of streams are shifted to another initial window
abbrev pub shifted_entry : (old new : ℕ) → StreamEntry → StreamEntry
shifted_entry old new reset_entry = reset_entry
shifted_entry old new (active_entry stream) =
    active_entry (record stream { send_window = (stream.send_window +ℤ pos new) -ℤ pos old })

abbrev pub recv_shifted_entry : (old new : ℕ) → StreamEntry → StreamEntry
recv_shifted_entry old new reset_entry = reset_entry
recv_shifted_entry old new (active_entry stream) =
    active_entry (record stream { recv_window = (stream.recv_window +ℤ pos new) -ℤ pos old })

abbrev pub each_entry : (StreamEntry → StreamEntry) → StreamMap → StreamMap
each_entry change streams = map.from_sorted (each (λ entry. (entry.0, change entry.1))
    (map.entries streams))

-- how many streams the peer allows, before the value that its SETTINGS name: after the first
-- SETTINGS 1,000
abbrev pub first_allowed : Bool → ℕ → ℕ
first_allowed started allowed = if started then allowed else 1000

-- the peer's SETTINGS are applied, in order
abbrev pub apply_settings : End → List (ℕ × ℕ) → End
apply_settings e pairs =
    record e {
      reading = record e.reading { started = true };
      streams = record e.streams {
        entries = each_entry (shifted_entry e.peer.initial_window
            (value_after 4 e.peer.initial_window pairs)) e.streams.entries;
      };
      peer = record {
        initial_window = value_after 4 e.peer.initial_window pairs;
        max_streams = min 1000 (value_after 3 (first_allowed e.reading.started e.peer.max_streams)
            pairs);
        max_frame = value_after 5 e.peer.max_frame pairs;
      };
    }

-- own values come into force
abbrev pub apply_own_settings : End → Option Values → End
apply_own_settings e None = e
apply_own_settings e (Some values) =
    record e {
      streams = record e.streams {
        entries = each_entry (recv_shifted_entry e.own.in_force.initial_window
            values.initial_window) e.streams.entries;
      };
      own = record { in_force = values; awaited = None };
    }

-- an increment of the connection's send window, or of a stream's
abbrev pub widen_send_window : End → ℕ → ℕ → Option StreamView → End
widen_send_window e i increment None =
    if i == 0 then record e { windows = record e.windows { send = e.windows.send + increment } }
    else e
widen_send_window e i increment (Some stream) =
    set_stream e i (record stream { send_window = stream.send_window +ℤ pos increment })

-- an item that is reported
unfoldable pub after_reported : End → Option Decoded → Item → End
after_reported e decoded (block stream end octets) =
    receive_block (with_table_after e decoded (block stream end octets)) stream end
    (stream_at e stream)
after_reported e decoded (alone (Data stream end octets pad)) =
    receive_data e stream (length (payload_of (Data stream end octets pad))) end
    (stream_at e stream)
after_reported e decoded (alone (Reset stream code)) = close_stream e stream 0
after_reported e decoded (alone (Settings ack pairs)) = apply_own_settings e e.own.awaited
after_reported e decoded (alone (Ping ack octets)) = record e { ping = None }
after_reported e decoded (alone (GoAway last code debug)) =
    record e { goaway = record e.goaway { received = Some (least_last last e.goaway.received) } }
after_reported e decoded (alone frame) = e

-- Whether a number is idle, and the peer may open it.
abbrev pub is_fresh : End → ℕ → Bool
is_fresh e i = is_server e.role && i % 2 == 1 && nat_lt e.streams.highest i

-- An item without an event: a block's table stands all the same, and a number that GOAWAY has
-- refused is used.
unfoldable pub after_ignored : End → Option Decoded → Item → End
after_ignored e decoded (block stream end octets) =
    mark_used (with_table_after e decoded (block stream end octets)) stream (is_fresh e stream)
    false
after_ignored e decoded (alone (Data stream end octets pad)) =
    add_unreturned (length (payload_of (Data stream end octets pad)))
    (narrow_recv_window e (length (payload_of (Data stream end octets pad))))
after_ignored e decoded (alone (Settings false pairs)) =
    apply_settings
    (queue_output (with_encoder e (encoder_after_item e.output.encoder
    (alone (Settings false pairs)))) (alone (Settings true []) ∷ []))
    pairs
after_ignored e decoded (alone (Ping false octets)) = queue_output e (alone (Ping true octets) ∷ [])
after_ignored e decoded (alone (WindowUpdate stream increment)) = widen_send_window e stream
    increment (stream_at e stream)
after_ignored e decoded (alone frame) = e

-- Whether the code is ENHANCE_YOUR_CALM: of the faults of a new stream the one with which it is
-- processed all the same.
abbrev pub is_calm : Code → Bool
is_calm code = code_number code == code_number EnhanceYourCalm

-- An item that resets its stream: RST_STREAM joins the output, a block's table stands, and a new
-- number is used, and processed
-- unless it was refused.
unfoldable pub after_stream_fault : End → Option Decoded → Item → Code → End
after_stream_fault e decoded (block stream end octets) code =
    reset_stream
    (queue_output
    (mark_used (with_table_after e decoded (block stream end octets)) stream (is_fresh e stream)
    (is_fresh e stream && is_calm code))
    (alone (Reset stream (code_number code)) ∷ []))
    stream 0
after_stream_fault e decoded (alone (Data stream end octets pad)) code =
    reset_stream
    (queue_output (narrow_recv_window e (length (payload_of (Data stream end octets pad))))
    (alone (Reset stream (code_number code)) ∷ []))
    stream (length (payload_of (Data stream end octets pad)))
after_stream_fault e decoded (alone frame) code =
    reset_stream (queue_output e (alone (Reset (stream_of_item (alone frame)) (code_number code)) ∷
    [])) (stream_of_item (alone frame)) 0

-- the end after an item, by its verdict
unfoldable pub after_verdict : End → Option Decoded → Item → Verdict → End
after_verdict e decoded item (ConnectionFault code) = fail code (max e.streams.last_processed
    (opened_by (end_view e) decoded item)) e
after_verdict e decoded item (StreamFault code) = after_stream_fault e decoded item code
after_verdict e decoded item NoEvent = after_ignored e decoded item
after_verdict e decoded item Reported = after_reported e decoded item

-- the end after an item that comes next
abbrev pub after_item : End → Option Decoded → Item → End
after_item e decoded item = after_verdict e decoded item (verdict_of (end_view e) decoded item)

-- the end after what a frame makes of the block that has begun
unfoldable pub after_step : End → Option Decoded → FrameStep → End
after_step e decoded (fails_with code) = fail code e.streams.last_processed e
after_step e decoded (begins_block begun) = with_begun e (Some begun)
after_step e decoded (completes item) = after_item (with_begun e None) decoded item

-- the end after a frame
unfoldable pub after_frame : End → Option Decoded → Frame → End
after_frame e decoded frame = after_step e decoded (frame_step (end_view e) frame)

-- Streams that the peer doesn't process.

abbrev pub is_active_entry : StreamEntry → Bool
is_active_entry (active_entry stream) = true
is_active_entry reset_entry = false

-- the least active number above another, or 0
-- rule: 5.1 (own) The next active stream is the least above a number
unfoldable pub first_active : ℕ → List (ℕ × StreamEntry) → ℕ
first_active above [] = 0
first_active above (entry ∷ entries) =
    if is_active_entry entry.1 && nat_lt above entry.0 then entry.0 else first_active above entries

-- the next stream that a client is to report as unprocessed, or 0
abbrev pub unprocessed_of_end : Role → StreamMap → Option ℕ → ℕ
unprocessed_of_end role streams None = 0
unprocessed_of_end Client streams (Some last) = first_active last (map.entries streams)
unprocessed_of_end Server streams (Some last) = 0

-- it is reported, and over
abbrev pub close_unprocessed : End → ℕ → End
close_unprocessed e i = close_stream e i 0

-- Calls.

-- a body's octets, so many, were written
abbrev pub after_data : End → ℕ → List ℕ → Bool → ℕ → Option StreamView → End
after_data e i octets end count None = e
after_data e i octets end count (Some stream) =
    if count == 0 && not (length octets == 0 && end) then e
    else
    update_stream
    (record (queue_output e (data_items (end_view e).max_payload i octets end count)) {
      windows = record e.windows
          { send = e.windows.send - count };
    })
    i (record stream {
      send_window = stream.send_window -ℤ pos count;
      ended_out = end && count ==
          length octets;
    })

-- a field block was written, on an active stream or a new one
abbrev pub after_fields_sent : End → ℕ → Bool → Option StreamView → End
after_fields_sent e i end None = e
after_fields_sent e i end (Some stream) = update_stream e i (record stream { ended_out = end })

abbrev pub open_stream : End → ℕ → Bool → End
open_stream e i end =
    record e {
      streams = record e.streams {
        entries = map.insert e.streams.entries i (active_entry (new_stream e false end));
        active_count = e.streams.active_count + 1;
        highest = i;
      };
    }

-- octets are released on a stream
abbrev pub after_release : End → ℕ → ℕ → Option StreamView → End
after_release e i count None = e
after_release e i count (Some stream) =
    record
    (set_stream e i
    (record stream {
      owed = stream.owed - count;
      recv_window = if stream.ended_in then stream.recv_window else stream.recv_window +ℤ pos count;
    }))
    { windows = record e.windows { recv = e.windows.recv + count } }

-- a layer above refuses a stream
abbrev pub after_refuse : End → ℕ → ℕ → Option Code → End
after_refuse e i code (Some fault) = fail fault e.streams.last_processed e
after_refuse e i code None = reset_stream (queue_output e (alone (Reset i code) ∷ [])) i 0

-- the end once it is ready to put output out
unfoldable pub before_put_out_at : End → End
before_put_out_at e = if returns_before_put_out (end_view e) then return_credit e else e

-- what a call writes, and the encoder after it
abbrev pub queue_call : End → Act → Answer → End
queue_call e act answer =
    queue_output (with_encoder e (encoder_after_call e.output.encoder act answer))
    (items_of (end_view e) act answer)

-- the end after a call that is accepted
unfoldable pub after_call : End → Act → End
after_call e (Open fields end) =
    open_stream (queue_call e (Open fields end) (answer_of (end_view e) (Open fields end)))
    (end_view e).next_number end
after_call e (SendFields id fields end) =
    after_fields_sent (queue_call e (SendFields id fields end) (answer_of (end_view e)
    (SendFields id fields end))) id end (stream_at e id)
after_call e (SendData id octets end) =
    after_data e id octets end (data_count (end_view e) (stream_at e id) (length octets))
    (stream_at e id)
after_call e (Release id count) =
    after_release (queue_call e (Release id count) (answer_of (end_view e) (Release id count))) id
    count (stream_at e id)
after_call e (ResetStream id code) =
    reset_stream (queue_call e (ResetStream id code) (answer_of (end_view e) (ResetStream id code)))
    id 0
after_call e (Refuse id code) = after_refuse e id code (refuse_fault (end_view e) code)
after_call e (SendPing octets) =
    record (queue_call e (SendPing octets) (answer_of (end_view e) (SendPing octets)))
    { ping = Some octets }
after_call e SendGoAway =
    record (queue_call e SendGoAway (answer_of (end_view e) SendGoAway)) {
      goaway = record e.goaway { sent = Some e.streams.last_processed };
    }
after_call e (Fail code) = fail code e.streams.last_processed e
after_call e (PutOut count) =
    record (before_put_out_at e) {
      output = record (before_put_out_at e).output {
        waiting = drop count
            (before_put_out_at e).output.waiting;
      };
    }
after_call e (ChangeSettings values) =
    record (queue_call e (ChangeSettings values) (answer_of (end_view e) (ChangeSettings values))) {
      own = record e.own { awaited = Some values };
    }
after_call e (Widen count) =
    record (queue_call e (Widen count) (answer_of (end_view e) (Widen count))) {
      windows = record e.windows {
        recv = e.windows.recv + count;
        granted = e.windows.granted + count;
      };
    }

-- a new end
unfoldable pub new_end : Role → Values → End
new_end role values =
    record {
      role = role;
      failed = None;
      reading = record { started = false; begun = None; table = empty_table 4096 };
      streams = record {
        entries = map.empty;
        active_count = 0;
        highest = 0;
        last_processed = 0;
        resets = 0;
      };
      windows = record {
        send = first_window;
        recv = first_window;
        granted = first_window;
        unreturned = 0;
      };
      peer = record { initial_window = first_window; max_streams = 100; max_frame = 16384 };
      own = record {
        in_force = record {
          table_limit = 4096;
          initial_window = first_window;
          max_streams =
              values.max_streams;
          max_frame = 16384;
        };
        awaited = Some values;
      };
      goaway = record { sent = None; received = None };
      ping = None;
      output = record {
        encoder = record { table = empty_table 4096; least = 4096; limit = 4096 };
        waiting = expected_preface (not (is_server role)) ++ encoding_of_items
            16384 (alone (Settings false (opening_pairs role values)) ∷ []);
      };
    }
