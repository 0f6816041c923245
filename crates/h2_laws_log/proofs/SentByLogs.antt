-- What the opening has, and each reply, credit, GOAWAY and call keeps, all has that a log has sent.
use Rattle.std.proofs.Common.{ℕ, false, List, [], ◌∷◌, ◌++◌, Option}
use Rattle.h2_laws_log.proofs.Names.{Code, code_number, Settings, WindowUpdate, GoAway, Item, alone}
use Rattle.h2_laws_log.proofs.Names.{Role, Values, AreInRange, Act, Log, log_view, Verdict, Decoded}
use Rattle.h2_laws_log.proofs.Names.{replies_to, answer_of, items_of, opening_pairs, read}
use Rattle.h2_laws_log.proofs.Names.{with_sent, opened, called, IsLog}
use Rattle.h2_laws_log.proofs.LogInduction.{Replies, NamesLast, Accepts, ReturnsCredit}
use Rattle.h2_laws_log.proofs.LogInduction.{IsLogInvariant, kept_by_logs}

-- What P needs to hold of all that a log has sent, newest first.
pub record IsSentInvariant (role : Role) (values : Values) (P : List Item → Type 0) : Type 0 where
  -- the opening: SETTINGS
  pub opening : AreInRange values → P (alone (Settings false (opening_pairs role values)) ∷ [])
  -- the replies to an item that is no fault of the connection
  pub replied : (log : Log) (decoded : Option Decoded) (item : Item) (verdict : Verdict)
      → Replies role values log decoded item verdict → P log.sent
      → P (replies_to verdict item ++ log.sent)
  -- credit: WINDOW_UPDATE of the connection with all that is unreturned
  pub returned : (log : Log) → ReturnsCredit log → P log.sent
      → P (alone (WindowUpdate 0 log.unreturned) ∷ log.sent)
  -- GOAWAY of a failure
  pub failed : (log : Log) (code : Code) (last : ℕ) → NamesLast role values log last
      → P log.sent → P (alone (GoAway last (code_number code) []) ∷ log.sent)
  -- the items of a call that is accepted
  pub sent : (log : Log) (act : Act) → Accepts role values log act → P log.sent
      → P (items_of (log_view log) act (answer_of (log_view log) act) ++ log.sent)

-- What is sent stands before what was.
wrote : (P : List Item → Type 0) (log : Log) (items : List Item) → P (items ++ log.sent)
    → P (with_sent log items).sent
unfolding with_sent
wrote P log [] is = is
wrote P log (item ∷ items) is = is

module _ (role : Role) (values : Values) (P : List Item → Type 0)
    (kept : IsSentInvariant role values P) where
  -- No other change of a log changes what was sent.
  of_logs : IsLogInvariant role values (λ log. P log.sent)
  unfolding opened with_sent
  of_logs = record {
    opening = λ in_range. kept.opening in_range;
    used = λ log octets unparsed is. is;
    framed = λ log frames is. is;
    begun = λ log begun is. is;
    replied = λ log decoded item verdict replies is.
        wrote P (read log decoded item) (replies_to verdict item)
        (kept.replied log decoded item verdict replies is);
    reported = λ log event events may is. is;
    unreturned = λ log count is. is;
    returned = λ log returns is. kept.returned log returns is;
    failed = λ log code last names is. kept.failed log code last names is;
    called = λ log act answer is_log none is. is;
    sent = λ log act accepted is.
        wrote P (called log act (answer_of (log_view log) act)) _ (kept.sent log act accepted is);
    given = λ log more is. is;
  }

  -- It holds of all that a log has sent.
  pub sent_by_logs : (log : Log) → IsLog role values log → P log.sent
  sent_by_logs log is = kept_by_logs role values (λ log. P log.sent) of_logs log is
