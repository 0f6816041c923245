-- A call that leaves an end up keeps it without faults: each reset that it writes was asked for.
use Rattle.h2_laws_log.proofs.LogInduction.{kept_by_call, FailsWith, out_of_memory, refusal_fails}
use Rattle.h2_laws_log.proofs.LogInduction.{caller_fails}
use Rattle.h2_laws_pair.proofs.Names
use Names.{◌≢◌, inl, inr, List, ◌∷◌, sym, ◌∙◌, AllByRecursion, Code, none_some, Act, Answer}
use Names.{SendData, Release, ResetStream, Refuse, PutOut, Done, OutOfMemory, Log, log_view, View}
use Names.{ended_in, answer_of, items_of, called, with_call, MayAnswer, LeavesUp, Fail}
use Rattle.h2_laws_pair.proofs.DataItems.{data_all, updates_all}
use Rattle.h2_laws_pair.proofs.Lists.{all_mapped, first_in}
use Rattle.h2_laws_pair.proofs.FaultsInvariant.{IsAsked, asked_later, LogIsClean, clean_sent}
use Rattle.h2_laws_pair.proofs.FaultsInvariant.{clean_credit}

-- Each reset that an accepted call writes was asked for by that call.
items_asked : (view : View) (act : Act) (calls : List (Act × Answer))
    → AllByRecursion (IsAsked ((act, answer_of view act) ∷ calls))
    (items_of view act (answer_of view act))
unfolding items_of IsAsked
items_asked view (SendData id octets end) calls = data_all _ _ (λ last some. tt) _ _ end _
items_asked view (Release id count) calls =
    updates_all (IsAsked ((Release id count, Done) ∷ calls)) _ _ (ended_in (view.stream id)) tt tt
items_asked view (ResetStream id code) calls = (inl (first_in _ calls), tt)
items_asked view (Refuse id code) calls = (inr (first_in _ calls), tt)
items_asked view (Fail code) calls = tt
items_asked view (PutOut count) calls = tt
items_asked view act calls = (tt, tt)

-- What was asked for stays so where a call is added.
called_clean : (log : Log) (act : Act) (answer : Answer) → LogIsClean log
    → LogIsClean (called log act answer)
called_clean log act answer clean = record {
  up = clean.up;
  heard = clean.heard;
  asked = all_mapped (IsAsked log.calls) (IsAsked ((act, answer) ∷ log.calls)) log.sent
      (asked_later (act, answer) log.calls) clean.asked;
}

-- A call that fails either runs out of memory or doesn't leave the end up.
no_failure : (log : Log) (act : Act) (answer : Answer) (code : Code)
    → FailsWith log act answer code → answer ≢ OutOfMemory → LeavesUp log act → ⊥
no_failure log _ _ _ (out_of_memory act answer is) memory up = memory is
no_failure log _ _ _ (refusal_fails id code answer fault done none is) memory up =
    none_some fault (sym (up none) ∙ is)
no_failure log _ _ _ (caller_fails code answer done none) memory up = up none

-- A call that doesn't run out of memory and leaves the end up.
pub call_clean : (log : Log) (act : Act) (answer : Answer) → MayAnswer log act answer
    → answer ≢ OutOfMemory → LeavesUp log act → LogIsClean log
    → LogIsClean (with_call log act answer)
call_clean log act answer may memory up =
    kept_by_call LogIsClean log act answer (record {
      credit = clean_credit;
      given = λ next more clean. clean;
      failed = λ other code fails was. absurd (no_failure log act answer code fails memory up);
      sent = λ none stays clean. clean_sent (called log act (answer_of (log_view log) act)) _
          (items_asked (log_view log) act log.calls) (called_clean log act _ clean);
      called = λ other writes. called_clean log act other;
    }) may
