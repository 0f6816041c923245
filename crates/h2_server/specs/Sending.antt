-- What a server with a handler can send.
use Rattle.std.specs.Prelude.{◌≡◌, ◌<◌, ◌≤◌, ℕ, true, false, List, ℤ, pos, negsuc, min}
use Rattle.std.specs.Prelude.{Option, Some, None, if◌then◌else◌}
use Rattle.h2_spec_log.specs.Acts.{Values}
use Rattle.h2_spec_log.specs.CallRules.{reader_room}
use Rattle.h2_spec_log.specs.Limits.{full_output}
use Rattle.h2_spec_log.specs.Log.{Log, waiting}
use Rattle.h2_spec_log.specs.LogView.{log_view}
use Rattle.h2_conn.specs.declared.conn.Conn.{Conn}
use Rattle.h2_conn.specs.Conn.{ConnRepresents}
use Rattle.h2_host.specs.declared.party.Own.{Own}
use Rattle.h2_host.specs.declared.party.Own.TheVariants as owns
use Rattle.h2_server.specs.declared.exchange.Exchange.{Exchange}
use Rattle.h2_server.specs.declared.exchanges.Exchanges.{Exchanges}
use Rattle.h2_server.specs.Exchanges.{exchange_at, is_part_due_at}

-- a window, or nothing where it is below 0
abbrev pub nat_part : ℤ → ℕ
nat_part (pos number) = number
nat_part (negsuc number) = 0

-- how many octets a window allows: none where there is none, or it is below 0
abbrev pub window_part : Option ℤ → ℕ
window_part (Some window) = nat_part window
window_part None = 0

-- how many octets the windows of a stream and of the connection allow on it (RFC 9113, section
-- 6.9.1)
abbrev pub windows_allow : Log → ℕ → ℕ
windows_allow log id =
    min (window_part (reader_room (log_view log) id)) (window_part (reader_room (log_view log) 0))

-- how many octets the handler can be asked for, of the answer on a stream: as many as the windows
-- allow where a part is due, and else none
abbrev pub asked_on : {W : Type 0} → Log → ℕ → List (ℕ × Exchange W) → ℕ
asked_on log id entries =
    if is_part_due_at (exchange_at id entries) then windows_allow log id else 0

-- The handler may be asked for a part of so many octets on a stream: some, a part is due there, and
-- the windows allow them.
pub record IsAskedFor {W : Type 0} (conn : Conn) (id most : ℕ) (entries : List (ℕ × Exchange W))
    : Type 0 where
  pub some : 0 < most
  pub due : is_part_due_at (exchange_at id entries) ≡ true
  pub fits : (values : Values) (log : Log) → ConnRepresents values conn log
      → most ≤ windows_allow log id

-- It can be asked for none on any stream above this one.
abbrev pub NoneCanAsk : {W : Type 0} → Log → (above : ℕ) → List (ℕ × Exchange W) → Type 0
NoneCanAsk log above entries = (id : ℕ) → above < id → asked_on log id entries ≡ 0

-- It isn't noted that more may be sent of complete bodies; and the handler can be asked for no
-- part, unless 65,536 octets of output or more wait.
pub record HasNothing {H W : Type 0} (log : Log) (exchanges : Exchanges H W) : Type 0 where
  pub bodies : exchanges.more ≡ false
  pub parts : waiting log < full_output → NoneCanAsk log 0 exchanges.kept.entries

-- Once the transport has no more octets for now, it is noted that more can be sent: credit that was
-- held back.
-- rule: 6.9 (own) Before a read that may wait credit is returned for all that is used
abbrev pub SendsAgain : {H W : Type 0} → Own → Exchanges H W → Type 0
SendsAgain owns.NoneCame exchanges = exchanges.more ≡ true
SendsAgain own exchanges = Unit {0}
