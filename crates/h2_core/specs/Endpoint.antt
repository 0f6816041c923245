-- An end's code as the machine: what it keeps is a machine's value.
use Rattle.std.specs.Prelude.{ℕ, min, Bool, true, false, Option, Some, None}
use Rattle.std.specs.Option.{option_map}
use Rattle.h2_flow.specs.ConfigValues.{values_of}
use Rattle.h2_spec_machine.specs.End.{End}
use Rattle.h2_laws_machine.specs.Bounds.{IsBounded, KeepsConnectionWindow}
use Rattle.h2_laws_machine.specs.Ranges.{ValuesAreInRange, CountsEntries}
use Rattle.h2_core.specs.declared.endpoint.Endpoint.{Endpoint}

-- the number of streams that a client may have active: 100 before the server's first SETTINGS,
-- then the number that these name, and 1,000 where they name none; never above 1,000
abbrev pub streams_allowed_by : Bool → Option ℕ → ℕ
streams_allowed_by false named = 100
streams_allowed_by true None = 1000
streams_allowed_by true (Some count) = min 1000 count

-- what an end keeps, as the machine's value
abbrev pub end_of : Endpoint → End
end_of one = record {
  role = one.role;
  failed = one.failed;
  reading = record {
    started = one.started;
    begun = one.gather.begun;
    table = one.decoder.table;
  };
  streams = record {
    entries = one.streams.entries;
    active_count = one.active_count;
    highest = one.highest;
    last_processed = one.last_processed;
    resets = one.resets;
  };
  windows = record {
    send = one.send_window;
    recv = one.recv_window;
    granted = one.granted;
    unreturned = one.unreturned;
  };
  peer = record {
    initial_window = one.streams.send_initial;
    max_streams = streams_allowed_by one.started one.peer.max_concurrent_streams;
    max_frame = one.peer.max_frame_size;
  };
  own = record {
    in_force = record {
      table_limit = one.decoder.limit;
      initial_window = one.streams.recv_initial;
      max_streams = one.max_streams;
      max_frame = one.max_frame;
    };
    awaited = option_map values_of one.awaited;
  };
  goaway = record { sent = one.goaway_sent; received = one.goaway_received };
  ping = one.ping;
  output = record { encoder = one.encoder; waiting = one.output.waiting };
}

-- The values of an end are bounded, counted and in the ranges that the machine's laws give, so that
-- they fit the numbers that the code keeps them in.
pub record IsSoundEnd (e : End) : Type 0 where
  pub bounded : IsBounded e
  pub window : KeepsConnectionWindow e
  pub ranges : ValuesAreInRange e
  pub counts : CountsEntries e
