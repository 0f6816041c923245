-- A connection without the rules of messages, in a place of C's.
use Rattle.std.specs.Prelude.{◌≡◌, ℕ, ℤ, Bool, List, Option, None, Some, Result, length}
use Rattle.std.specs.Prelude.{option_map}
use Rattle.std.specs.Borrow.{Bor}
use Rattle.hpack.specs.declared.types.field.Field.{Field}
use Rattle.h2_flow.specs.declared.config.BadConfig.{BadConfig}
use Rattle.h2_flow.specs.Configs.{first_bad}
use Rattle.h2_spec_log.specs.Acts.{Act, Done, Count, Number, PutOut, Open, SendData, Values}
use Rattle.h2_spec_log.specs.CallRules.{reader_due, refusal_of}
use Rattle.h2_spec_log.specs.Log.{Log}
use Rattle.h2_spec_log.specs.LogCalls.{opened}
use Rattle.h2_spec_log.specs.LogView.{log_view}
use Rattle.h2_spec_log.specs.Settings.{value_read}
use Rattle.h2_spec_log.specs.Windows.{first_window}
use Rattle.h2_spec_log.specs.declared.refusal.Refusal.{Refusal}
use Rattle.h2_spec_log.specs.declared.role.Role.{Role}
use Rattle.h2_wire.specs.Cutter.{saturated}
use Rattle.h2_conn.specs.declared.conn.Conn.{Conn}
use Rattle.h2_conn.specs.declared.why.Why.{Why}
use Rattle.h2_conn.specs.Conn.{ConnRepresents, ConnAnswers, ConnShows, answer_by}
use Rattle.h2_conn.specs.Why.{IsWhy}
use Rattle.belkjoef.specs.declared.conn.HeldConn.{HeldConn}
use Rattle.belkjoef.specs.declared.output.BjSpan.{BjSpan}
use Rattle.belkjoef.specs.declared.readers.BjSettings.{BjSettings}
use Rattle.belkjoef.specs.Calls.{found_number, found_or}
use Rattle.belkjoef.specs.Lent.{span_of}
use Rattle.belkjoef.specs.Numbers.{ok, held, no_memory, config_number, refusal_number}
use Rattle.belkjoef.specs.Output.{FirstWait}
use Rattle.belkjoef.specs.WhyNumbers.{why_number}

-- It is a new connection of this role, with these values.
abbrev pub IsNewConn : Role → Values → HeldConn → Type 0
IsNewConn role values made = ConnRepresents values made.conn (opened role values)

-- Where a value is out of its bounds the answer is the number of the first one, and the place
-- holds none; else a new one, or memory was refused, and it holds none.
abbrev pub MakesConnWithin : Option BadConfig → Role → Values → ℤ → Option HeldConn → Type 0
MakesConnWithin (Some bad) role values answer new = (answer ≡ config_number bad) × (new ≡ None)
MakesConnWithin None role values answer None = answer ≡ no_memory
MakesConnWithin None role values answer (Some made) = (answer ≡ ok) × IsNewConn role values made

-- What bj_conn_server and bj_conn_client do: a place that holds a connection still does.
-- rule: c (own) A new end is made in an empty place, of values within bounds
abbrev pub MakesConn : Role → Values → ℤ → (old new : Option HeldConn) → Type 0
MakesConn role values answer (Some old) new = (answer ≡ held) × (new ≡ Some old)
MakesConn role values answer None new =
    MakesConnWithin (first_bad values) role values answer new

-- The connection does this, with this outcome, which the answer is the number of.
-- rule: c (own) A call of C's is that of the end in its place
pub record DoesConn {A : Type 0} (number : A → ℤ) (Does : Conn → A → Conn → Type 0) (answer : ℤ)
    (old new : HeldConn) : Type 0 where
  pub outcome : A
  pub told : answer ≡ number outcome
  pub does : Does old.conn outcome new.conn

-- The same of a call that also says a value.
-- rule: c (own) A call of C's is that of the end in its place
pub record DoesConnWith {A B : Type 0} (number : A → ℤ) (out : A → B)
    (Does : Conn → A → Conn → Type 0) (answer : ℤ) (said : B) (old new : HeldConn)
    : Type 0 where
  pub outcome : A
  pub told : answer ≡ number outcome
  pub value : said ≡ out outcome
  pub does : Does old.conn outcome new.conn

abbrev pub ActsOnConn : Act → Conn → Result (Unit {0}) Refusal → Conn → Type 0
ActsOnConn act old outcome new = ConnAnswers old act (answer_by (λ done. Done) outcome) new

-- a reset for a fault that the layer above has found, after which the connection may have failed
abbrev pub ShowsOnConn : Act → Conn → Result (Unit {0}) Refusal → Conn → Type 0
ShowsOnConn act old outcome new = ConnShows old act (answer_by (λ done. Done) outcome) new

abbrev pub OpensOnConn : List Field → Bool → Conn → Result ℕ Refusal → Conn → Type 0
OpensOnConn fields end old outcome new =
    ConnAnswers old (Open fields end) (answer_by (λ id. Number id) outcome) new

abbrev pub SendsOnConn : ℕ → List ℕ → Bool → Conn → Result ℕ Refusal → Conn → Type 0
SendsOnConn id octets end old outcome new =
    ConnAnswers old (SendData id octets end) (answer_by (λ count. Count count) outcome) new

abbrev pub ReadiesConn : Conn → Result (Unit {0}) Refusal → Conn → Type 0
ReadiesConn old outcome new = ConnAnswers old (PutOut 0) (answer_by (λ done. Count 0) outcome) new

abbrev pub ConsumesConn : ℕ → Conn → Result ℕ Refusal → Conn → Type 0
ConsumesConn count old outcome new =
    ConnAnswers old (PutOut count) (answer_by (λ given. Count given) outcome) new

-- The first two parts of the output are lent, and nothing has changed.
-- rule: c (own) The output that waits is lent, or copied and taken away
pub record LendsConnOutput (answer : ℤ) (first second : BjSpan) (old new : HeldConn) : Type 0
  where
    pub one : Bor (List ℕ)
    pub two : Bor (List ℕ)
    pub told : answer ≡ ok
    pub first_is : first ≡ span_of one
    pub second_is : second ≡ span_of two
    pub wait : FirstWait old.conn one.now two.now
    pub same : new ≡ old

-- Whatever has happened, this is what a reader of the connection says.
abbrev pub SaysConnLog : {A : Type 0} → (Log → A) → Conn → A → Type 0
SaysConnLog reader conn said = (values : Values) (log : Log) → ConnRepresents values conn log
    → said ≡ reader log

-- The connection answers this value of itself, and is as it was.
-- rule: c (own) A reader says what the end in its place answers
pub record SaysOfConn {A : Type 0} (Is : Conn → A → Type 0) (answer : ℤ) (said : A)
    (old new : HeldConn) : Type 0 where
  pub told : answer ≡ ok
  pub is : Is old.conn said
  pub same : new ≡ old

-- The same, if there is such a value.
-- rule: c (own) A reader says what the end in its place answers
pub record FindsInConn {A : Type 0} (Is : Conn → Option A → Type 0) (answer : ℤ)
    (before said : A) (old new : HeldConn) : Type 0 where
  pub found : Option A
  pub told : answer ≡ found_number found
  pub value : said ≡ found_or before found
  pub is : Is old.conn found
  pub same : new ≡ old

-- The connection answers this of itself, and is as it was.
-- rule: c (own) A reader says what the end in its place answers
pub record AnswersOfConn {A : Type 0} (number : A → ℤ) (Is : Conn → A → Type 0) (answer : ℤ)
    (old new : HeldConn) : Type 0 where
  pub outcome : A
  pub told : answer ≡ number outcome
  pub is : Is old.conn outcome
  pub same : new ≡ old

abbrev pub due_of : Log → ℕ
due_of log = reader_due (log_view log)

-- how many octets of input were used, in 64 bits
abbrev pub conn_place : Log → ℕ
conn_place log = saturated (length log.input)

-- Whatever has happened, this is why a call of open would be refused, but for memory.
abbrev pub RefusesToOpen : List Field → Conn → Option Refusal → Type 0
RefusesToOpen fields conn found = (values : Values) (log : Log) → ConnRepresents values conn log
    → (end : Bool) → found ≡ refusal_of (log_view log) (Open fields end)

-- the number of a refusal, and 0 where there is none
abbrev pub refusal_answer : Option Refusal → ℤ
refusal_answer None = ok
refusal_answer (Some refusal) = refusal_number refusal

-- Whatever has happened, this is the number of why the connection has failed, if it has.
pub record SaysWhyOfConn (conn : Conn) (said : Option ℕ) : Type 0 where
  pub why : Option Why
  pub number : said ≡ option_map why_number why
  pub is : (values : Values) (log : Log) → ConnRepresents values conn log
      → IsWhy values log why

-- Unless the connection has failed, these are the values of the peer's settings in force.
pub record SaysSettingsOfConn (conn : Conn) (said : BjSettings) : Type 0 where
  pub window : (values : Values) (log : Log) → ConnRepresents values conn log
      → log.failed ≡ None → said.initial_window ≡ value_read 4 first_window log.received
  pub frame : (values : Values) (log : Log) → ConnRepresents values conn log
      → log.failed ≡ None → said.max_frame ≡ value_read 5 16384 log.received

-- This is so of the list that was reported last, and nothing has changed.
pub record OfReported (Is : List Field → Type 0) (old new : HeldConn) : Type 0 where
  pub is : Is old.conn.end.list
  pub same : new ≡ old
