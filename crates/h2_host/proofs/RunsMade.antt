-- One more step after others.
use Rattle.std.specs.Prelude.{◌≡◌, ◌≤◌, ◌+◌, ◌++◌, ◌∷◌, [], ℕ, List, Bool}
use Rattle.h2_host.specs.declared.host.Made.{Made}
use Rattle.h2_host.specs.declared.host.Reply.{Reply}
use Rattle.h2_host.specs.declared.party.Answer.{Answer}
use Rattle.h2_host.specs.declared.party.Own.{Own}
use Rattle.h2_host.specs.declared.state.HostState.{HostState}
use Rattle.h2_host.specs.Runs.{IsRun, none_made, one_made}
use Rattle.h2_host.specs.Steps.{AnswersStep}

-- A step is made after those that were.
pub run_more : {P : Type 0} (steps : P → Own → List ℕ → Answer → P → Type 0) (held_of : P → ℕ)
    (ready_of : P → Bool) (mid new old : HostState P) (made : List (Made P))
    (answers : List (Reply P)) (one : Made P) (reply : Reply P)
    → IsRun steps held_of ready_of old mid made answers
    → AnswersStep steps held_of ready_of mid new one.step one.octets.items reply
    → IsRun steps held_of ready_of old new (made ++ one ∷ []) (answers ++ reply ∷ [])
run_more steps held_of ready_of mid new old made answers one reply (none_made held) is =
    one_made old new one [] reply [] tt is (none_made tt)
run_more steps held_of ready_of mid new old made answers one reply
    (one_made start next first more answer rest held was later) is =
    one_made old next first (more ++ one ∷ []) answer (rest ++ reply ∷ []) tt was
    (run_more steps held_of ready_of mid new next more rest one reply later is)

-- So many of the steps were made, and there is memory for the answers of the others.
pub record RunsSo {P : Type 0} (steps : P → Own → List ℕ → Answer → P → Type 0) (held_of : P → ℕ)
    (ready_of : P → Bool) (old now : HostState P) (all left : List (Made P))
    (answers : List (Reply P)) (waiting answered space : ℕ) : Type 0 where
  pub made : List (Made P)
  pub split : all ≡ made ++ left
  pub run : IsRun steps held_of ready_of old now made answers
  pub fits : waiting + answered ≤ space
