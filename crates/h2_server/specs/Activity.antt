-- What goes on at a connection, of which each part has a time limit.
use Rattle.std.specs.Prelude.{◌≡◌, ◌≢◌, ◌-◌, ◌^◌, ◌&&◌, ◌||◌, ℕ, Bool, true, false, List}
use Rattle.std.specs.Prelude.{Option, Some, None}
use Rattle.std.specs.Prelude.{if◌then◌else◌, is_some, length, min, nat_le, nat_lt}
use Rattle.h2_spec_log.specs.Acts.{Values}
use Rattle.h2_spec_log.specs.Log.{Log, reader_block_stream, reader_held}
use Rattle.h2_conn.specs.Conn.{ConnRepresents, octets_queued}
use Rattle.h2_server.specs.declared.connection.Connection.{Connection}
use Rattle.h2_server.specs.declared.deadlines.Activity.{Activity}
use Rattle.h2_server.specs.declared.exchange.Exchange.{Exchange}
use Rattle.h2_server.specs.declared.exchange.Stage.{Stage}
use Rattle.h2_server.specs.declared.exchange.Stage.TheVariants as stages
use Rattle.h2_server.specs.Exchanges.{Kept, exchange_at}

-- the octets of the connection preface and of a frame's header (RFC 9113, sections 3.4 and 4.1)
abbrev pub opening_length : ℕ
opening_length = 33

-- how many octets have come but for those of an incomplete frame
abbrev pub octets_of_frames : Log → ℕ
octets_of_frames log = min (length log.input) (2 ^ 64 - 1) - reader_held log

-- Whether the preface and the header of the first frame have come, with all of that frame.
abbrev pub is_opened : Log → Bool
is_opened log = nat_le opening_length (octets_of_frames log)

-- Whether a field block is incomplete.
abbrev pub is_in_block : Log → Bool
is_in_block log = is_some (reader_block_stream log)

-- What goes on, by what has happened at the connection: a frame has begun, or a field block, whose
-- frames do not count one by one.
pub record IsReceived (log : Log) (activity : Activity) : Type 0 where
  pub opened : activity.opened ≡ is_opened log
  pub in_frame : activity.in_frame
      ≡ (is_opened log && (nat_lt 0 (reader_held log) || is_in_block log))
  pub frames : activity.frames ≡ (if is_in_block log then 0 else octets_of_frames log)

-- Whether an answer to it has begun.
abbrev pub has_answer : Stage → Bool
has_answer stages.Asked = false
has_answer stage = true

-- Whether what is kept on a stream has an answer.
abbrev pub has_answer_at : {W : Type 0} → Option (Kept W) → Bool
has_answer_at (Some kept) = has_answer kept.stage
has_answer_at None = false

-- Whether some exchange has an answer.
abbrev pub IsAnswering : {W : Type 0} → List (ℕ × Exchange W) → Bool → Type 0
IsAnswering entries true = (id : ℕ) × (has_answer_at (exchange_at id entries) ≡ true)
IsAnswering entries false =
    (id : ℕ) → id ≢ 0 → has_answer_at (exchange_at id entries) ≡ false

-- Whether some exchange is kept.
abbrev pub IsBusy : {W : Type 0} → List (ℕ × Exchange W) → Bool → Type 0
IsBusy {W} entries true = (id : ℕ) × (kept : Kept W) × (exchange_at id entries ≡ Some kept)
IsBusy entries false = (id : ℕ) → id ≢ 0 → exchange_at id entries ≡ None

-- What goes on at a connection.
-- rule: hosts (own) A connection ends for what has taken too long
pub record IsActivity {H W : Type 0} (connection : Connection H W) (activity : Activity) : Type 0
  where
    pub received : (values : Values) (log : Log)
        → ConnRepresents values connection.server.end.conn log → IsReceived log activity
    pub reading : activity.reading ≡ nat_lt 0 connection.exchanges.totals.reading
    pub body : activity.body ≡ connection.exchanges.totals.body
    pub waits : activity.waits ≡ nat_lt 0 (length (octets_queued connection.server.end.conn))
    pub went : activity.went ≡ connection.watch.went
    pub answering : IsAnswering connection.exchanges.kept.entries activity.answering
    pub sent : activity.sent ≡ connection.exchanges.totals.sent
    pub busy : IsBusy connection.exchanges.kept.entries activity.busy
    pub requests : activity.requests ≡ connection.exchanges.totals.requests
