-- What of a log says what an end keeps that hasn't failed, and when an end keeps it.
use Rattle.h2_laws_machine.proofs.Names
use Names.{◌≡◌, ℕ, ◌-◌, ◌==◌, not, nat_lt, Bool, if◌then◌else◌, List, length, Option, list_any}
use Names.{Entries, EncoderState, Item, Begun, Role, resets, one_ping, total, greatest_block, Event}
use Names.{flow_on, one_acked, one_pong, reported_total, greatest_processed, Act, Answer, is_server}
use Names.{openings, is_active, when, Log, released, newest_ping, StreamView, StreamMap, Streams}
use Names.{ConnectionWindows, PeerSettings, OwnSettings, GoAways, End, RepresentsReading}
use Names.{RepresentsWindows, RepresentsPeer, RepresentsOwn, RepresentsGoAways, RepresentsWhileUp}
use Rattle.h2_spec_machine.specs.Represents.{RepresentsStreams, StreamsRepresent, stream_by_items}
use Rattle.h2_spec_machine.specs.End.{ReadSoFar}

-- what of a log says what an end keeps that hasn't failed
pub record Core : Type 0 where
  pub role : Role
  pub begun : Option Begun
  pub received : List Item
  pub sent : List Item
  pub reported : List Event
  pub calls : List (Act × Answer)
  pub table : Entries
  pub encoder : EncoderState
  pub unreturned : ℕ

-- that of a log
abbrev pub core : Log → Core
core log = record {
  role = log.role;
  begun = log.begun;
  received = log.received;
  sent = log.sent;
  reported = log.reported;
  calls = log.calls;
  table = log.table;
  encoder = log.encoder;
  unreturned = log.unreturned;
}

-- how many of the own SETTINGS were acknowledged
abbrev pub confirmed : Core → ℕ
confirmed c = reported_total one_acked c.reported

-- whether a stream is active
abbrev pub active_by_items : Core → ℕ → Bool
active_by_items c i = is_active c.role i c.received c.sent c.reported

-- what was reported of a stream's flow and wasn't released
abbrev pub kept_back : Core → ℕ → ℕ
kept_back c i = reported_total (flow_on i) c.reported - released i c.calls

-- the greatest number that was used
abbrev pub greatest_used : Core → ℕ
greatest_used c = greatest_block (openings c.role c.received c.sent)

-- the greatest stream that was processed
abbrev pub processed : Core → ℕ
processed c = if is_server c.role then greatest_processed c.reported else 0

-- what an end keeps that hasn't failed, but for the output that waits
pub record CoreFacts : Type 0 where
  pub reading : ReadSoFar
  pub streams : Streams
  pub windows : ConnectionWindows
  pub peer : PeerSettings
  pub own : OwnSettings
  pub goaway : GoAways
  pub ping : Option (List ℕ)
  pub encoder : EncoderState

-- that of an end
abbrev pub core_facts : End → CoreFacts
core_facts e = record {
  reading = e.reading;
  streams = e.streams;
  windows = e.windows;
  peer = e.peer;
  own = e.own;
  goaway = e.goaway;
  ping = e.ping;
  encoder = e.output.encoder;
}

-- the stream that the log says of a number
abbrev pub said : Core → ℕ → StreamView
said c i = stream_by_items c.received c.sent c.reported c.calls i

-- The entries are kept as the log says.
abbrev pub AreSaid : StreamMap → Core → Type 0
AreSaid streams c = StreamsRepresent streams (active_by_items c) (λ i. list_any (resets i) c.sent)
    (said c)

-- So are the streams.
abbrev pub StreamsOf : Streams → Core → Type 0
StreamsOf streams c = RepresentsStreams streams c.role c.received c.sent c.reported c.calls

-- the own PING that awaits its answer
abbrev pub PingOf : Option (List ℕ) → Core → Type 0
PingOf ping c = ping ≡ when (nat_lt (reported_total one_pong c.reported) (total one_ping c.sent))
    (newest_ping c.sent)

-- An end keeps what a log says, but for whether it has begun.
pub record Advances (e : CoreFacts) (c : Core) : Type 0 where
  pub reading : RepresentsReading e.reading c.begun c.table
  pub encoder : e.encoder ≡ c.encoder
  pub streams : StreamsOf e.streams c
  pub windows : RepresentsWindows e.windows c.received c.sent c.calls c.unreturned
  pub peer : RepresentsPeer e.peer c.received
  pub own : RepresentsOwn e.own c.role (confirmed c) c.sent
  pub goaway : RepresentsGoAways e.goaway c.received c.sent
  pub ping : PingOf e.ping c

-- the same of an end
abbrev pub Going : End → Core → Type 0
Going e c = Advances (core_facts e) c

-- An end that keeps what a log says does so by its core.
pub going : (e : End) (log : Log) → StreamsOf e.streams (core log) → RepresentsWhileUp e log
    → Going e (core log)
going e log streams r = assumption (streams, r)

-- And the other way round.
pub runs : (e : End) (log : Log) → e.reading.started ≡ not (length log.frames == 0)
    → Going e (core log) → RepresentsWhileUp e log
runs e log started g = assumption (started, g)
