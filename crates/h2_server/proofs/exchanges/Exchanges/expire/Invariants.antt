use Rattle.std.proofs.Common.{◌≡◌, ◌-◌, ◌⊎◌, refl, true}
use Rattle.h2_server.specs.Deferring.{is_expired_at, kept_in_time}
use Rattle.h2_server.proofs.Asked.{ChangedTo, NoneTo}
use Rattle.h2_server.proofs.exchanges.Exchanges.expire.Given as goal

-- So far time has passed for those up to this stream, and where one is too late, that is noted.
abbrev pub invariant-loop-id : goal.invariant-loop-id
invariant-loop-id g l =
    record {
      handler : l.self.handler ≡ l.initial.self.handler;
      changed : ChangedTo (kept_in_time l.limit l.now) l.initial.self.kept.entries
          l.self.kept.entries l.above;
      sends : NoneTo (is_expired_at l.limit l.now) refl l.initial.self.kept.entries l.above
          ⊎ (l.self.more ≡ true);
      keeps : l.initial.self.more ≡ true → l.self.more ≡ true;
    }

abbrev pub decreases-loop-id : goal.decreases-loop-id
decreases-loop-id g l = 4294967296 - l.above
