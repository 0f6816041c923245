-- What the steps of an end make of its calls.
use Rattle.h2_laws_pair.proofs.Names.{◌≡◌, List, [], ◌∷◌, ◌++◌, refl, Field, Act, Answer, Open}
use Rattle.h2_laws_pair.proofs.Names.{SendFields, Number, Done, Log, WritesNone, refused, no_memory}
use Rattle.h2_laws_pair.proofs.Names.{fails_instead, puts_out, lists_accepted, MachineStep}
use Rattle.h2_laws_pair.proofs.Names.{log_after, ends_connection}
use Rattle.h2_laws_pair.proofs.StepsOfLogs.{IsNoCall, step_holds}
use Rattle.h2_laws_log.proofs.PartsStay.{SameCalls, calls_read}
pub use Rattle.h2_laws_log.proofs.PartsStay.{call_calls, sent_calls}

-- A step that is no call adds none.
pub step_calls : (log : Log) (step : MachineStep) → IsNoCall step
    → (log_after log step).calls ≡ log.calls
step_calls = step_holds SameCalls calls_read

-- A call adds the list that it was given, or none.
pub lists_more : (act : Act) (answer : Answer) (calls : List (Act × Answer))
    → (more : List (List Field)) × (lists_accepted ((act, answer) ∷ calls)
    ≡ more ++ lists_accepted calls)
unfolding lists_accepted
lists_more (Open fields end) (Number id) calls = (fields ∷ [], refl)
lists_more (SendFields id fields end) Done calls = (fields ∷ [], refl)
lists_more act answer calls = ([], refl)

-- A call that writes no items of its own adds none.
pub silent_lists : (act : Act) (answer : Answer) (calls : List (Act × Answer))
    → WritesNone act answer → lists_accepted ((act, answer) ∷ calls) ≡ lists_accepted calls
unfolding lists_accepted
silent_lists _ _ calls (refused (Open fields end) refusal) = refl
silent_lists _ _ calls (refused act refusal) = refl
silent_lists _ _ calls (no_memory (Open fields end)) = refl
silent_lists _ _ calls (no_memory act) = refl
silent_lists _ _ calls (fails_instead id code) = refl
silent_lists _ _ calls (ends_connection code) = refl
silent_lists _ _ calls (puts_out count given) = refl
