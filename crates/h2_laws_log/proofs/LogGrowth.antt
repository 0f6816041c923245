-- What a log keeps of what it has read and reported: calls, output and faults put more in front of
-- what was written, and nothing else.
use Rattle.std.proofs.Common.{◌≡◌, ℕ, List, [], ◌∷◌, ◌++◌, Some, None, refl, sym, ◌∙◌, append_assoc}
use Rattle.h2_laws_log.proofs.Names.{ap, Code, Item, Act, Answer, Log, with_sent, with_unreturned}
use Rattle.h2_laws_log.proofs.Names.{with_failure, called, with_call, rules}
use Rattle.h2_laws_log.proofs.GrowthBySteps.{HoldsOfCalls, holds_unreturned, holds_call}

-- The second log has more in front of what was written, and is up only where the first is.
pub record Grows (old new : Log) : Type 0 where
  pub role : new.role ≡ old.role
  pub received : new.received ≡ old.received
  pub reported : new.reported ≡ old.reported
  pub items : List Item
  pub sent : new.sent ≡ items ++ old.sent
  pub up : new.failed ≡ None → old.failed ≡ None

-- A log that changes none of these grows by nothing.
grows_none : (old new : Log) → new.role ≡ old.role → new.received ≡ old.received
    → new.reported ≡ old.reported → new.sent ≡ old.sent → new.failed ≡ old.failed → Grows old new
grows_none old new role received reported sent failed = search rules

-- one step after another
pub grows_twice : (one two three : Log) → Grows one two → Grows two three → Grows one three
grows_twice one two three a b = record {
  role = b.role ∙ a.role;
  received = b.received ∙ a.received;
  reported = b.reported ∙ a.reported;
  items = b.items ++ a.items;
  sent = b.sent ∙ ap (λ (items : List Item). b.items ++ items) a.sent
      ∙ sym (append_assoc b.items a.items one.sent);
  up = λ h. a.up (b.up h);
}

-- Items are written.
pub grows_wrote : (log : Log) (items : List Item) → Grows log (with_sent log items)
unfolding with_sent
grows_wrote log [] = grows_none log log refl refl refl refl refl
grows_wrote log (item ∷ items) = record {
  role = refl;
  received = refl;
  reported = refl;
  items = item ∷ items;
  sent = refl;
  up = λ h. h;
}

-- A connection that fails isn't up.
pub fails_down : (code : Code) (last : ℕ) (log : Log) → (with_failure code last log).failed
    ≡ None → ⊥
fails_down code last log is = let wrong : Some code ≡ None = is in cc

-- Each change of a log by a call makes it grow.
grows_by_calls : HoldsOfCalls Grows
unfolding with_sent
grows_by_calls = record {
  failures = record {
    writes = record {
      none = λ log. grows_none log log refl refl refl refl refl;
      twice = grows_twice;
      sent = λ log item items. grows_wrote log (item ∷ items);
      unreturned = λ log count. grows_none log _ refl refl refl refl refl;
    };
    failed = λ log code. record {
      role = refl;
      received = refl;
      reported = refl;
      items = [];
      sent = refl;
      up = λ up. absurd (fails_down code 0 log up);
    };
  };
  given = λ log more. grows_none log _ refl refl refl refl refl;
}

-- What is due is settled.
pub grows_with_unreturned : (more : ℕ) (log : Log) → Grows log (with_unreturned more log)
grows_with_unreturned = holds_unreturned Grows grows_by_calls.failures.writes

-- After a call a log has grown.
pub grows_call : (log : Log) (act : Act) (answer : Answer) → Grows log (with_call log act answer)
grows_call log act answer =
    grows_twice log (called log act answer) _ (grows_none log _ refl refl refl refl refl)
    (holds_call Grows grows_by_calls log act answer)
