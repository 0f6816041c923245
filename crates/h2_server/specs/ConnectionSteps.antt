-- What a call makes of a served connection beside what any makes: of its exchanges, and as time
-- passes; and the calls as the steps of a host.
use Rattle.std.specs.Prelude.{◌≡◌, ◌⊎◌, ℕ, true, List, [], if◌then◌else◌}
use Rattle.h2_host.specs.declared.party.Answer.{Answer}
use Rattle.h2_host.specs.declared.party.Answer.TheVariants as answers
use Rattle.h2_host.specs.declared.party.Own.{Own}
use Rattle.h2_host.specs.declared.party.Own.TheVariants as owns
use Rattle.h2_server.specs.declared.connection.Connection.{Connection}
use Rattle.h2_server.specs.declared.connection.Phase.{Phase}
use Rattle.h2_server.specs.Connections.{Calls, IsCounted, KeepsTold, octets_with}
use Rattle.h2_server.specs.Deferring.{ExpiresEach, NoneExpires}
use Rattle.h2_server.specs.Exchanges.{Handling, Relations, handling_of}
use Rattle.h2_server.specs.Phases.{is_phase_over}

-- Its exchanges have changed so, and nothing else of it but what is counted.
pub record ChangesExchanges {H W : Type 0} (changes : (old new : Handling H W) → Type 0)
    (old new : Connection H W) : Type 0 where
  pub so : changes (handling_of old.exchanges) (handling_of new.exchanges)
  pub rest : new ≡ record old {
    exchanges = new.exchanges;
    holds = new.holds;
    ready = new.ready;
  }
  pub told : KeepsTold old new
  pub counted : IsCounted new

-- The time has passed for each exchange whose answer is waited for. Where one is too late, that is
-- noted to be sent.
-- rule: handlers (own) An answer that was deferred for too long is status 504
pub record Expires {H W : Type 0} (old new : Connection H W) : Type 0 where
  pub each : ChangesExchanges
      (λ before after. ExpiresEach old.watch.limits.times.deferred old.watch.time before after)
      old new
  pub sends : NoneExpires old.watch.limits.times.deferred old.watch.time
      old.exchanges.kept.entries ⊎ (new.exchanges.more ≡ true)
  pub keeps : old.exchanges.more ≡ true → new.exchanges.more ≡ true

-- What the passing of time makes of a connection, and then of its exchanges.
pub record Ticks {H W : Type 0} (rel : Relations H W) (now : ℕ) (old new : Connection H W) : Type 0
  where
    pub mid : Connection H W
    pub calls : Calls rel (owns.Passed now) [] old mid
    pub expires : Expires mid new

-- A call that a host asks for was made.
abbrev pub CallsThen : {H W : Type 0} → Relations H W → Own → (octets : List ℕ)
    → (old new : Connection H W) → Type 0
CallsThen rel (owns.Passed now) octets old new = Ticks rel now old new
CallsThen rel own octets old new = Calls rel own octets old new

-- the answer of a connection to its host
abbrev pub answer_in : Phase → Answer
answer_in phase = if is_phase_over phase then answers.Over else answers.Goes

-- A step of a host: such a call was made, and this is its answer.
pub record ConnectionSteps {H W : Type 0} (rel : Relations H W) (old : Connection H W) (own : Own)
    (octets : List ℕ) (answer : Answer) (new : Connection H W) : Type 0 where
  pub calls : CallsThen rel own (octets_with own octets) old new
  pub answers : answer ≡ answer_in new.phase
