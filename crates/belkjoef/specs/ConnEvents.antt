-- The event of C's that bj_conn_take fills.
use Rattle.std.specs.Prelude.{◌≡◌, ℕ, ℤ, List, [], ◌∷◌, length, Option, Some, None, Result}
use Rattle.std.specs.Prelude.{Ok, Err}
use denote.RawPtr.{Ptr}
use Rattle.h2_frame.specs.Codes.{code_number}
use Rattle.h2_core.specs.declared.event.Event.TheVariants as events
use Rattle.h2_conn.specs.declared.conn.Conn.{Conn}
use Rattle.h2_conn.specs.declared.taken.ConnFault.{ConnFault}
use Rattle.h2_conn.specs.declared.taken.Taken.{Taken}
use Rattle.h2_conn.specs.Conn.{ConnTakes}
use Rattle.h2_conn.specs.Events.{LentEvent}
use Rattle.belkjoef.specs.declared.conn.HeldConn.{HeldConn}
use Rattle.belkjoef.specs.declared.conn_event.BjReport.{BjReport}
use Rattle.belkjoef.specs.Events.{address_of, flag_of}
use Rattle.belkjoef.specs.Numbers.{ok, failed}

-- nothing yet, of a piece at this address
abbrev pub blank_report : Ptr → BjReport
blank_report at = record {
  used = 0;
  kind = 0;
  stream = 0;
  code = 0;
  end = 0;
  ours = 0;
  ping = 0 ∷ 0 ∷ 0 ∷ 0 ∷ 0 ∷ 0 ∷ 0 ∷ 0 ∷ [];
  fields = 0;
  octets = at;
  length = 0;
  flow = 0;
}

-- an event that says what is reported: the address of the octets of DATA, and their number
-- rule: c (own) An event has what was handed out, as numbers and addresses
abbrev pub report_with : BjReport → LentEvent → BjReport
report_with report (events.Fields id list end) =
    record report { kind = 10; stream = id; fields = length list.now; end = flag_of end }
report_with report (events.Data id bytes flow end) = record report {
  kind = 11;
  stream = id;
  octets = address_of bytes;
  length = length bytes.now;
  flow = flow;
  end = flag_of end;
}
report_with report (events.Reset id code ours) =
    record report { kind = 5; stream = id; code = code; ours = flag_of ours }
report_with report (events.Unprocessed id) = record report { kind = 6; stream = id }
report_with report (events.GoAway last code) =
    record report { kind = 7; stream = last; code = code }
report_with report events.Acked = record report { kind = 8 }
report_with report (events.Pong octets) = record report { kind = 9; ping = octets }

abbrev pub report_with_lent : BjReport → Option LentEvent → BjReport
report_with_lent report None = report
report_with_lent report (Some event) = report_with report event

-- an event that says what a call of `take` answers
abbrev pub report_said : BjReport → Result Taken ConnFault → BjReport
report_said report (Ok taken) =
    report_with_lent (record report { used = taken.used }) taken.event
report_said report (Err fault) = record report { code = code_number fault.code }

abbrev pub report_number : Result Taken ConnFault → ℤ
report_number (Ok taken) = ok
report_number (Err fault) = failed

-- A connection takes octets, and the event and the answer say what it answers.
-- rule: c (own) An event has what was handed out, as numbers and addresses
pub record TakesReport (old : Conn) (piece : List ℕ) (before report : BjReport) (answer : ℤ)
    (new : Conn) : Type 0 where
  pub outcome : Result Taken ConnFault
  pub takes : ConnTakes old piece outcome new
  pub told : answer ≡ report_number outcome
  pub said : report ≡ report_said before outcome

-- The same of the connection in a place.
abbrev pub TakesConn : List ℕ → (before report : BjReport) → ℤ → HeldConn → HeldConn → Type 0
TakesConn piece before report answer old new =
    TakesReport old.conn piece before report answer new.conn
