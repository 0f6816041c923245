-- What an end answers of itself.
use Rattle.std.specs.Prelude.{◌≡◌, ◌↔◌, ◌≤◌, ℕ, ℤ, pos, Bool, true, false, Option, None}
use Rattle.std.specs.Prelude.{option_map}
use Rattle.h2_frame.specs.Codes.{code_number}
use Rattle.h2_spec_log.specs.Acts.{Values}
use Rattle.h2_spec_log.specs.CallRules.{reader_room, reader_owed, reader_granted}
use Rattle.h2_spec_log.specs.Counted.{counted, empty_among, resets_among}
use Rattle.h2_spec_log.specs.Counted.{pings_among, settings_among}
use Rattle.h2_spec_log.specs.Limits.{full_output}
use Rattle.h2_spec_log.specs.Log.{Log, waiting, active, reader_next_live}
use Rattle.h2_spec_log.specs.LogView.{log_view}
use Rattle.h2_spec_log.specs.Settings.{value_read}
use Rattle.h2_spec_log.specs.Windows.{first_window}
use Rattle.h2_conn.specs.Conn.{ConnRepresents}
use Rattle.h2_conn.specs.Counts.{last_flow}
use Rattle.h2_message.specs.declared.malformed.Malformed.{Malformed}
use Rattle.h2_ends.specs.declared.end.End.{End}
use Rattle.h2_ends.specs.Ends.{EndLog}
use Rattle.h2_ends.specs.EndCalls.{unsent_on}
use Rattle.h2_ends.specs.Quiet.{IsQuietEnd}
use Rattle.h2_ends.specs.Represents.{EndRepresents}
use Rattle.belkjoef.specs.declared.readers.BjSettings.{BjSettings}
use Rattle.belkjoef.specs.Numbers.{rule_number}

-- 1 for yes, 0 for no
abbrev pub truth : Bool → ℤ
truth true = pos 1
truth false = pos 0

-- Whatever has happened, it is so exactly where this is.
abbrev pub AnswersLog : (Log → Type 0) → End → Bool → Type 0
AnswersLog So end answer = (values : Values) (log : Log) → ConnRepresents values end.conn log
    → (answer ≡ true) ↔ So log

abbrev pub IsFull : Log → Type 0
IsFull log = full_output ≤ waiting log

abbrev pub IsDrained : Log → Type 0
IsDrained log = (waiting log ≡ 0) × (reader_next_live log 0 ≡ None)

abbrev pub AnswersQuiet : End → Bool → Type 0
AnswersQuiet end answer = (values : Values) (happened : EndLog) → EndRepresents values end happened
    → (answer ≡ true) ↔ IsQuietEnd happened

-- Whatever has happened, this is what a reader of the connection says.
abbrev pub SaysLog : {A : Type 0} → (Log → A) → End → A → Type 0
SaysLog reader end said = (values : Values) (log : Log) → ConnRepresents values end.conn log
    → said ≡ reader log

abbrev pub room_on : ℕ → Log → Option ℤ
room_on id log = reader_room (log_view log) id

abbrev pub owed_at : ℕ → Log → ℕ
owed_at id log = reader_owed (log_view log) id

abbrev pub granted_by : Log → ℕ
granted_by log = reader_granted (log_view log)

abbrev pub next_above : ℕ → Log → Option ℕ
next_above above log = reader_next_live log above

abbrev pub failed_with : Log → Option ℕ
failed_with log = option_map code_number log.failed

abbrev pub active_on : ℕ → Log → Bool
active_on id log = active log id

-- how many octets of a body wait
abbrev pub SaysUnsent : ℕ → End → ℕ → Type 0
SaysUnsent id end said = (values : Values) (happened : EndLog) → EndRepresents values end happened
    → said ≡ unsent_on happened id

abbrev pub flow_of_data : Log → ℕ
flow_of_data log = last_flow log.frames

-- a stream, and the number of the rule that a part broke there
abbrev pub malformed_number : ℕ × Malformed → ℕ × ℤ
malformed_number (id, rule) = (id, rule_number rule)

-- which part was refused last, if one was
-- rule: c (own) A reader says what the end in its place answers
abbrev pub SaysMalformed : End → Option (ℕ × ℤ) → Type 0
SaysMalformed end said = (values : Values) (happened : EndLog) → EndRepresents values end happened
    → said ≡ option_map malformed_number happened.malformed

abbrev pub resets_read : Log → ℕ
resets_read log = counted (resets_among log.frames)

abbrev pub empty_frames_read : Log → ℕ
empty_frames_read log = counted (empty_among log.frames)

abbrev pub pings_read : Log → ℕ
pings_read log = counted (pings_among log.frames)

abbrev pub settings_read : Log → ℕ
settings_read log = counted (settings_among log.frames)

-- Unless the connection has failed, these are the values of the peer's settings that were read
-- last, and those of the standard before.
-- rule: c (own) A reader says what the end in its place answers
pub record SaysPeerSettings (end : End) (said : BjSettings) : Type 0 where
  pub window : (values : Values) (log : Log) → ConnRepresents values end.conn log
      → log.failed ≡ None → said.initial_window ≡ value_read 4 first_window log.received
  pub frame : (values : Values) (log : Log) → ConnRepresents values end.conn log
      → log.failed ≡ None → said.max_frame ≡ value_read 5 16384 log.received
