-- Steps of a log that read and report nothing: they leave what was read and the table after it, and
-- put more in front of what was sent.
use Rattle.h2_laws_pair.proofs.Names.{◌≡◌, List, [], ◌∷◌, ◌++◌, refl, ◌∙◌, append_assoc, Item, Log}
use Rattle.h2_laws_log.proofs.GrowthBySteps.{HoldsOfCalls}

-- The second log has read and reported what the first has.
pub record Stays (old new : Log) : Type 0 where
  pub received : new.received ≡ old.received
  pub table : new.table ≡ old.table
  pub reported : new.reported ≡ old.reported
  pub items : List Item
  pub sent : new.sent ≡ items ++ old.sent

-- Nothing was sent.
stays_same : (old new : Log) → new.received ≡ old.received → new.table ≡ old.table
    → new.reported ≡ old.reported → new.sent ≡ old.sent → Stays old new
stays_same old new received table reported sent =
    record { received = received; table = table; reported = reported; items = []; sent = sent }

-- Each change by a call is such a step.
pub stays_by_calls : HoldsOfCalls Stays
stays_by_calls = record {
  failures = record {
    writes = record {
      none = λ log. stays_same log log refl refl refl refl;
      twice = λ one two three a b. record {
        received = b.received ∙ a.received;
        table = b.table ∙ a.table;
        reported = b.reported ∙ a.reported;
        items = b.items ++ a.items;
        sent = rw (b.sent, a.sent, append_assoc) refl;
      };
      sent = λ log item items. record {
        received = refl;
        table = refl;
        reported = refl;
        items = item ∷ items;
        sent = refl;
      };
      unreturned = λ log count. stays_same log _ refl refl refl refl;
    };
    failed = λ log code. stays_same log _ refl refl refl refl;
  };
  given = λ log more. stays_same log _ refl refl refl refl;
}
