-- What a new end's log has, and each change keeps but a failure, every log has whose connection is
-- up, where it is said of what was read, sent, reported and called alone.
use Rattle.std.proofs.Common.{◌≡◌, List, ◌∷◌, ◌++◌, Option, Some, None}
use Rattle.h2_laws_log.proofs.Names.{WindowUpdate, Item, alone, Role, Event, Values, AreInRange}
use Rattle.h2_laws_log.proofs.Names.{Act, Answer, Log, log_view, Verdict, Decoded, replies_to}
use Rattle.h2_laws_log.proofs.Names.{answer_of, items_of, read, with_sent, opened, called, IsLog}
use Rattle.h2_laws_log.proofs.LogGrowth.{grows_wrote}
use Rattle.h2_laws_log.proofs.LogInduction.{Replies, MayReport, ReturnsCredit, Accepts, WritesNone}
use Rattle.h2_laws_log.proofs.LogInduction.{IsLogInvariant, kept_by_logs}

-- Of a log P says what it says of its parts.
abbrev pub OfLog : (Role → List Item → List Item → List Event → List (Act × Answer) → Type 0) → Log
    → Type 0
OfLog P log = P log.role log.received log.sent log.reported log.calls

-- What P needs to hold of the log before, whose connection is up, and of the log after. The log
-- after a failure isn't up; and all that changes no part of which P speaks keeps it.
pub record IsUpInvariant (role : Role) (values : Values)
    (P : Role → List Item → List Item → List Event → List (Act × Answer) → Type 0) : Type 0 where
  -- a new end's log
  pub opening : AreInRange values → OfLog P (opened role values)
  -- an item is read that is no fault of the connection, and replied to
  pub replied : (log : Log) (decoded : Option Decoded) (item : Item) (verdict : Verdict)
      → Replies role values log decoded item verdict → OfLog P log
      → OfLog P (with_sent (read log decoded item) (replies_to verdict item))
  -- an event is reported
  pub reported : (log : Log) (event : Event) (events : List Event)
      → MayReport role values log (event ∷ events) → OfLog P log
      → P log.role log.received log.sent (event ∷ events ++ log.reported) log.calls
  -- credit is returned, by WINDOW_UPDATE of the connection
  pub returned : (log : Log) → ReturnsCredit log → OfLog P log
      → P log.role log.received (alone (WindowUpdate 0 log.unreturned) ∷ log.sent) log.reported
      log.calls
  -- a call is accepted, and its items are sent
  pub sent : (log : Log) (act : Act) → Accepts role values log act → OfLog P log
      → OfLog P (with_sent (called log act (answer_of (log_view log) act))
      (items_of (log_view log) act (answer_of (log_view log) act)))
  -- a call is made that writes no items of its own
  pub called : (log : Log) (act : Act) (answer : Answer) → IsLog role values log
      → WritesNone act answer → OfLog P log
      → P log.role log.received log.sent log.reported ((act, answer) ∷ log.calls)

module _ (role : Role) (values : Values)
    (P : Role → List Item → List Item → List Event → List (Act × Answer) → Type 0)
    (kept : IsUpInvariant role values P) where
  -- What is sent leaves the connection up, or as it was.
  of_up : IsLogInvariant role values (λ log. log.failed ≡ None → OfLog P log)
  unfolding with_sent
  of_up =
      record {
        opening = λ in_range up. kept.opening in_range;
        used = λ log octets unparsed is. is;
        framed = λ log frames is. is;
        begun = λ log begun is. is;
        replied = λ log decoded item verdict replies is up.
            kept.replied log decoded item verdict replies
            (is ((grows_wrote (read log decoded item) _).up up));
        reported = λ log event events may is up. kept.reported log event events may (is up);
        unreturned = λ log count is. is;
        returned = λ log returns is up. kept.returned log returns (is up);
        failed = λ log code last names is up. let wrong : Some code ≡ None = up in cc;
        sent = λ log act accepted is up.
            kept.sent log act accepted
            (is ((grows_wrote (called log act (answer_of (log_view log) act)) _).up up));
        called = λ log act answer is_log none is up.
            kept.called log act answer is_log none (is up);
        given = λ log more is. is;
      }

  -- Every log whose connection is up has it.
  pub up_by_logs : (log : Log) → IsLog role values log → log.failed ≡ None → OfLog P log
  up_by_logs log is =
      kept_by_logs role values (λ next. next.failed ≡ None → OfLog P next) of_up log is
