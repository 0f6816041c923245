-- What a loop that reads and writes knows of a connection after a turn, and after a write.
use Rattle.std.specs.Prelude.{◌≡◌, ℕ, true, false, List, [], ◌++◌, length, min, take}
use Rattle.h2_spec_log.specs.Acts.{Count, PutOut, Values}
use Rattle.h2_spec_log.specs.CallRules.{returns_before_put_out}
use Rattle.h2_spec_log.specs.LogCalls.{MayAnswer, with_call}
use Rattle.h2_spec_log.specs.LogView.{log_view}
use Rattle.h2_conn.specs.Conn.{octets_queued}
use Rattle.h2_ends.specs.Ends.{EndLog}
use Rattle.h2_ends.specs.EndTakes.{end_with_log}
use Rattle.h2_ends.specs.Represents.{EndAnswers, EndRepresents}
use Rattle.h2_server.specs.declared.connection.Connection.{Connection}
use Rattle.h2_server.specs.Connections.{FailsSo, MadeOwn, input_kept}
use Rattle.h2_server.specs.Credit.{HasReturnedUsed}
use Rattle.h2_server.specs.Exchanges.{Relations, handling_of}
use Rattle.h2_server.specs.Phases.{is_phase_down, is_phase_over}
use Rattle.h2_server.specs.Steps.{Steps}
use Rattle.h2_server.specs.Telling.{EndsEach}

-- Of one that is up after it, nothing has changed of its server, its exchanges and its input. Of
-- one that was down, the server has not changed.
abbrev pub KeepsUp : {H W : Type 0} → (old new : Connection H W) → Type 0
KeepsUp old new = is_phase_down new.phase ≡ false
    → (new.server ≡ old.server) × ((new.exchanges ≡ old.exchanges)
    × (input_kept new ≡ input_kept old))

abbrev pub KeepsDown : {H W : Type 0} → (old new : Connection H W) → Type 0
KeepsDown old new = is_phase_down old.phase ≡ true → new.server ≡ old.server

-- What a loss of its transport makes of a connection: its server is as it was. If it was not
-- closed, its handler is told of each exchange that it is over, and nothing else; else nothing has
-- changed of its exchanges.
-- rule: handlers (own) Of each exchange a handler learns once that it is over, and why
pub record LosesSo {H W : Type 0} (rel : Relations H W) (old new : Connection H W) : Type 0 where
  pub server : new.server ≡ old.server
  pub ends : is_phase_over old.phase ≡ false
      → EndsEach rel (handling_of new.exchanges) (handling_of old.exchanges)
  pub same : is_phase_over old.phase ≡ true → new.exchanges ≡ old.exchanges

-- What was made in a turn of a connection that is up after it. First octets of those that were kept
-- were used, and the others are kept; steps of the server with its handler were made; and where the
-- transport has no more input for now, credit was returned for all that handlers have used. Last
-- the output was made ready: so what is written first can be given out without an allocation, and
-- no credit of the connection's window waits to be returned (RFC 9113, section 6.9) where little
-- output does.
-- rule: 6.9 (own) Before a read that may wait credit is returned for all that is used
pub record TurnedSo {H W : Type 0} (rel : Relations H W) (values : Values) (end : EndLog)
    (old new : Connection H W) : Type 0 where
  pub used : List ℕ
  pub order : input_kept old ≡ used ++ input_kept new
  pub before : EndLog
  pub steps : Steps rel false before (handling_of new.exchanges) used [] end
      (handling_of old.exchanges)
  pub credit : new.readiness.reads ≡ false
      → HasReturnedUsed before.log new.exchanges.kept.entries
  pub may : MayAnswer before.log (PutOut 0) (Count 0)
  pub represents : EndRepresents values new.server.end
      (end_with_log before (with_call before.log (PutOut 0) (Count 0)))
  pub ready : returns_before_put_out (log_view (with_call before.log (PutOut 0) (Count 0)))
      ≡ false

abbrev pub Turns : {H W : Type 0} → Relations H W → (old new : Connection H W) → Type 0
Turns rel old new = is_phase_down new.phase ≡ false
    → (values : Values) (end : EndLog) → EndRepresents values old.server.end end
    → TurnedSo rel values end old new

-- What was made of a connection of whose output so many octets were written: they were given out,
-- if the connection is not closed, and no credit had to be returned before. Of one that is closed,
-- or that has failed with its server, what was given out, and what waits now, are what waited.
-- rule: hosts (own) A connection gives out what has gone of its output, and nothing else
pub record WroteSo {H W : Type 0} (rel : Relations H W) (count : ℕ) (values : Values)
    (end : EndLog) (old new : Connection H W) : Type 0 where
  pub gone : List ℕ
  pub made : MadeOwn rel gone values end old new
  pub all : is_phase_over old.phase ≡ false → returns_before_put_out (log_view end.log) ≡ false
      → gone ≡ take count (octets_queued old.server.end.conn)
  pub split : is_phase_down old.phase ≡ true → FailsSo old.phase end
      → octets_queued old.server.end.conn ≡ gone ++ octets_queued new.server.end.conn

-- Of one that is up once so many octets were written, one call has given out as many as waited, at
-- most, and nothing has changed of its exchanges and its input.
-- rule: hosts (own) A connection gives out what has gone of its output, and nothing else
abbrev pub WroteUp : {H W : Type 0} → (count : ℕ) → (old new : Connection H W) → Type 0
WroteUp count old new = is_phase_down new.phase ≡ false
    → ((given : ℕ) × EndAnswers old.server.end
    (PutOut (min count (length (octets_queued old.server.end.conn)))) (Count given) new.server.end)
    × ((new.exchanges ≡ old.exchanges) × (input_kept new ≡ input_kept old))

abbrev pub Wrote : {H W : Type 0} → Relations H W → (count : ℕ) → (old new : Connection H W)
    → Type 0
Wrote rel count old new =
    (values : Values) (end : EndLog) → EndRepresents values old.server.end end
    → WroteSo rel count values end old new
