-- A machine that represents a log answers calls and readers as the log does.
use Rattle.h2_laws_machine.proofs.Names
use Names.{◌≡◌, ℕ, ℤ, ◌==◌, if◌then◌else◌, pos, Option, Some, None, is_some, ◌||◌, length, refl, ap}
use Names.{sym, ◌∙◌, Code, Values, Act, PutOut, answer_of, Log, waiting, next_active, log_view}
use Names.{View, owed_on, end_view, End, stream_at, first_active, Represents}
use Rattle.std.specs.Option.{option_map}
use Rattle.h2_spec_log.specs.CallRules.{reader_room, reader_owed, reader_due}
use Rattle.h2_spec_log.specs.Log.{reader_next_live}
use Rattle.h2_laws_machine.proofs.NextUnprocessed.{next_active_same}
use Rattle.h2_laws_machine.proofs.ViewsAgree.{view_beside, views_agree}
use Rattle.h2_laws_machine.proofs.WaitingOutput.{waits_much}
use Rattle.std.specs.FinMap as map

-- The view of a machine that hasn't failed is its log's, but for the parts that are its own.
pub views_alike : (values : Values) (e : End) (log : Log) → Represents values e log
    → e.failed ≡ None
    → end_view e ≡ view_beside e log
views_alike values e log represents up =
    views_agree e log represents.role represents.failed (waits_much e log represents.output)
    represents.streams (represents.running up)

-- No answer looks at states, or at windows that would overflow.
beside_answers : (e : End) (log : Log) (act : Act)
    → answer_of (view_beside e log) act ≡ answer_of (log_view log) act
beside_answers e log act = refl

-- A machine answers a call as its log does.
pub answer_alike : (values : Values) (e : End) (log : Log) (act : Act) → Represents values e log
    → e.failed ≡ None → answer_of (end_view e) act ≡ answer_of (log_view log) act
answer_alike values e log act represents up =
    ap (λ (view : View). answer_of view act) (views_alike values e log represents up)
    ∙ beside_answers e log act

-- Views that have failed, and of which as much waits, put as much out.
failed_puts_out : (view other : View) (count : ℕ) (code : Code) → view.failed ≡ Some code
    → other.failed ≡ Some code → view.waiting ≡ other.waiting
    → answer_of view (PutOut count) ≡ answer_of other (PutOut count)
failed_puts_out view other count code is too waits = rw (is, too, waits) refl

-- Output is put out alike, by whether the connection has failed.
put_out_by : (values : Values) (e : End) (log : Log) (count : ℕ) (failed : Option Code)
    → e.failed ≡ failed → Represents values e log
    → answer_of (end_view e) (PutOut count) ≡ answer_of (log_view log) (PutOut count)
put_out_by values e log count (Some code) is represents =
    failed_puts_out (end_view e) (log_view log) count code is (sym represents.failed ∙ is)
    (waits_much e log represents.output)
put_out_by values e log count None is represents = answer_alike _ _ _ (PutOut count) represents is

-- Output is put out alike, whether the connection has failed or not.
pub put_out_alike : (values : Values) (e : End) (log : Log) (count : ℕ) → Represents values e log
    → answer_of (end_view e) (PutOut count) ≡ answer_of (log_view log) (PutOut count)
put_out_alike values e log count represents = put_out_by values e log count e.failed refl represents

-- what a view says to the readers that answer 0 or nothing once the connection has failed
record Readings : Type 0 where
  pub room : Option ℤ
  pub owed : ℕ
  pub due : ℕ

abbrev readings : View → ℕ → Readings
readings view id =
    record { room = reader_room view id; owed = reader_owed view id; due = reader_due view }

module _ (values : Values) (e : End) (log : Log) where
  -- A machine and its log say the same to these readers, by whether the connection has failed.
  readings_by : (id : ℕ) (failed : Option Code) → e.failed ≡ failed → Represents values e log
      → readings (end_view e) id ≡ readings (log_view log) id
  readings_by id (Some code) is represents = rw (sym represents.failed ∙ is, is) refl
  readings_by id None is represents =
      ap (λ (view : View). readings view id) (views_alike values e log represents is)

  -- So they say the same to them.
  readings_alike : (id : ℕ) → Represents values e log
      → readings (end_view e) id ≡ readings (log_view log) id
  readings_alike id represents = readings_by id e.failed refl represents

  -- How much may be sent on the connection, or on a stream, is the same.
  pub room_alike : (id : ℕ) → Represents values e log
      → (if is_some e.failed then None else if id == 0 then Some (pos e.windows.send) else
      option_map (λ stream. stream.send_window) (stream_at e id)) ≡ reader_room (log_view log) id
  room_alike id represents = ap (λ (said : Readings). said.room) (readings_alike id represents)

  -- So is what is owed on a stream.
  pub owed_alike : (id : ℕ) → Represents values e log
      → (if is_some e.failed then 0 else owed_on (stream_at e id)) ≡ reader_owed (log_view log) id
  owed_alike id represents = ap (λ (said : Readings). said.owed) (readings_alike id represents)

  -- So is what is unreturned.
  pub due_alike : Represents values e log
      → (if is_some e.failed then 0 else e.windows.unreturned) ≡ reader_due (log_view log)
  due_alike represents = ap (λ (said : Readings). said.due) (readings_alike 0 represents)

  -- The next active stream is the log's, whether the connection has failed or not.
  pub next_alike : (id : ℕ) → Represents values e log
      → first_active id (map.entries e.streams.entries) ≡ next_active log id
  next_alike id represents = next_active_same e.streams log id represents.streams

  -- As much output waits as the log says.
  pub waiting_alike : Represents values e log → length e.output.waiting ≡ waiting log
  waiting_alike represents = waits_much e log represents.output

-- So the reader of the next active stream answers alike: nothing once the connection has failed.
pub live_alike : (values : Values) (e : End) (log : Log) (id : ℕ) → Represents values e log
    → (if is_some e.failed || first_active id (map.entries e.streams.entries) == 0 then None
    else Some (first_active id (map.entries e.streams.entries))) ≡ reader_next_live log id
live_alike values e log id represents = rw (represents.failed, next_alike _ _ _ id represents) refl
