-- What is owed once credit was returned, stream by stream.
use Rattle.std.proofs.Common.{◌≡◌, ◌⊎◌, ◌∙◌, ◌≤◌, ◌<◌, ◌+◌, ◌-◌, ◌==◌, ◌||◌, ℕ, [], ◌∷◌}
use Rattle.std.proofs.Common.{Bool, true, false, Some, None, refl, sym, ap}
use Rattle.std.proofs.Common.{inl, inr, arith, is_some}
use Rattle.std.proofs.lemmas.Bool.{cases_Bool, eqb-true, leb-true}
use Rattle.std.specs.Prelude.{if◌then◌else◌}
use Rattle.std.specs.List.{list_any}
use Rattle.std.specs.Prelude.{◌+ℤ◌, ◌≤ℤ◌, pos, zero, suc, false}
use Rattle.h2_spec_log.specs.Items.{ends}
use Rattle.h2_spec_log.specs.Log.{acked, granted, recv_window}
use Rattle.h2_spec_log.specs.Settings.{own_value}
use Rattle.h2_spec_log.specs.Windows.{connection_recv_window, first_window}
use Rattle.h2_spec_log.specs.declared.role.Role.TheVariants.{Server}
use Rattle.h2_spec_machine.specs.End.{End}
use Rattle.h2_spec_machine.specs.Represents.{Represents}
use Rattle.h2_laws_log.specs.Sums.{sum_below}
use Rattle.h2_laws_machine.proofs.OwedOnStreams.{window_of_a_log}
use Rattle.h2_laws_end.proofs.ReceiveWindowCalls.{window_is_initial}
use Rattle.h2_server.specs.Credit.{OwesAtMost}
use Rattle.h2_spec_log.specs.Acts.{Values, Release, Done, Refused}
use Rattle.h2_spec_log.specs.CallRules.{conditions, first_of, reader_owed}
use Rattle.h2_spec_log.specs.Limits.{full_output}
use Rattle.h2_spec_log.specs.Log.{Log, active, next_active, owed, reader_next_live, released}
use Rattle.h2_spec_log.specs.Log.{unreleased, waiting}
use Rattle.h2_spec_log.specs.LogCalls.{MayAnswer, accepts, refuses, lacks, fails, with_call}
use Rattle.h2_spec_log.specs.LogView.{log_view, stream_of_log}
use Rattle.h2_spec_log.specs.States.{when}
use Rattle.h2_spec_log.specs.View.{StreamView, owed_on}
use Rattle.h2_spec_log.specs.declared.refusal.Refusal.{Refusal}
use Rattle.h2_spec_log.specs.declared.refusal.Refusal.TheVariants as reasons
use Rattle.h2_laws_log.proofs.CallConditions.{none_holds}
use Rattle.h2_laws_log.proofs.LogGrowth.{grows_call}
use Rattle.h2_laws_log.proofs.NextStreams.{next_found}
use Rattle.h2_laws_log.proofs.PartsStay.{call_calls}
use Rattle.h2_laws_log.proofs.ReleasedCredit.{released_here, unreleased_is}
use Rattle.h2_laws_end.proofs.Names.{IsLog, flow_on, ints, none_since, reported_total}
use Rattle.h2_laws_end.proofs.OverRoom.{none_owed_more, owed_active, owed_inactive, released_more}
use Rattle.h2_ends.proofs.PumpSteps.{zero_inactive}

-- What is owed is at most what was not released,
owed_within : (log : Log) (i : ℕ) → owed log i ≤ unreleased log i
owed_within log i = elim (cases_Bool (active log i)) [
  | inl alive ↦ omega (arith, owed_active log i alive)
  | inr over ↦ omega (arith, owed_inactive log i over)
]

-- and, as an end answers it, no more than is owed.
reader_if : (failed alive : Bool) (stream : StreamView)
    → (if failed then 0 else owed_on (when alive stream)) ≤ (if alive then stream.owed else 0)
reader_if true alive stream = omega arith
reader_if false true stream = omega arith
reader_if false false stream = omega arith

reader_within : (log : Log) (i : ℕ) → reader_owed (log_view log) i ≤ owed log i
unfolding owed
reader_within log i = reader_if (is_some log.failed) (active log i) (stream_of_log log i)

reader_down : (failed alive : Bool) (stream : StreamView) → failed ≡ false
    → (if alive then stream.owed else 0) ≡ (if failed then 0 else owed_on (when alive stream))
reader_down true alive stream up = cc
reader_down false true stream up = refl
reader_down false false stream up = refl

owed_as_read : (log : Log) (i : ℕ) → log.failed ≡ None
    → owed log i ≡ reader_owed (log_view log) i
unfolding owed
owed_as_read log i up =
    reader_down (is_some log.failed) (active log i) (stream_of_log log i) (ap is_some up)

-- After a release that was accepted: the connection is up,
release_up : (log : Log) (id count : ℕ) → MayAnswer log (Release id count) Done
    → log.failed ≡ None
unfolding conditions
release_up log id count (accepts none is) = none_since log.failed (none_holds _ none).0
release_up log id count (refuses refusal holds is) = cc
release_up log id count (lacks none may is) = cc
release_up log id count (fails none may is) = cc

-- so much less was not released,
left_done : (log : Log) (id count i : ℕ)
    → unreleased (with_call log (Release id count) Done) i
    ≡ reported_total (flow_on i) log.reported
    - released i ((Release id count, Done) ∷ log.calls)
unfolding unreleased
left_done log id count i =
    rw (
      (grows_call log (Release id count) Done).reported,
      call_calls log (Release id count) Done,
    ) refl

-- no more is owed on any stream,
done_owes : (log : Log) (id count i : ℕ)
    → owed (with_call log (Release id count) Done) i ≤ owed log i
done_owes log id count i =
    let after = with_call log (Release id count) Done in
    elim (cases_Bool (active log i)) [
      | inl alive ↦ omega (
        arith,
        owed_within after i,
        left_done log id count i,
        released_more i (Release id count) Done log.calls,
        owed_active log i alive,
        unreleased_is log i,
      )
      | inr over ↦
          omega (arith, none_owed_more log id count i Done (owed_inactive log i over))
    ]

-- and so much less on this one.
done_owes_less : (log : Log) (id count : ℕ)
    → owed (with_call log (Release id count) Done) id ≤ owed log id - count
done_owes_less log id count =
    let after = with_call log (Release id count) Done in
    elim (cases_Bool (active log id)) [
      | inl alive ↦ omega (
        arith,
        owed_within after id,
        left_done log id count id,
        released_here id count log.calls,
        owed_active log id alive,
        unreleased_is log id,
      )
      | inr over ↦
          omega (arith, none_owed_more log id count id Done (owed_inactive log id over))
    ]

pub released_less : (log : Log) (id count i : ℕ) → MayAnswer log (Release id count) Done
    → reader_owed (log_view (with_call log (Release id count) Done)) i
    ≤ reader_owed (log_view log) i
released_less log id count i may =
    omega (
      arith,
      reader_within (with_call log (Release id count) Done) i,
      done_owes log id count i,
      owed_as_read log i (release_up log id count may),
    )

pub released_on_it : (log : Log) (id count : ℕ) → MayAnswer log (Release id count) Done
    → reader_owed (log_view (with_call log (Release id count) Done)) id
    ≤ reader_owed (log_view log) id - count
released_on_it log id count may =
    omega (
      arith,
      reader_within (with_call log (Release id count) Done) id,
      done_owes_less log id count,
      owed_as_read log id (release_up log id count may),
    )

-- After one that was refused as much is owed as before, and as much waits.
pub refused_reads : (log : Log) (id count i : ℕ) (refusal : Refusal)
    → reader_owed (log_view (with_call log (Release id count) (Refused refusal))) i
    ≡ reader_owed (log_view log) i
unfolding with_call unreleased released
refused_reads log id count i refusal = refl

-- It is refused for a full output where that is full.
full_first : (failed gone full other : Bool)
    → first_of ((failed, reasons.Closed) ∷ (gone, reasons.NoSuchStream) ∷ (full, reasons.OutputFull)
    ∷ (other, reasons.NotOwed) ∷ []) ≡ Some reasons.OutputFull
    → full ≡ true
unfolding first_of
full_first false false true other is = refl
full_first false false false false is = cc
full_first false false false true is = cc
full_first false true full other is = cc
full_first true gone full other is = cc

pub full_by_refusal : (log : Log) (id count : ℕ)
    → MayAnswer log (Release id count) (Refused reasons.OutputFull) → full_output ≤ waiting log
unfolding conditions
full_by_refusal log id count (accepts none is) = cc
full_by_refusal log id count (refuses refusal holds is) =
    let same : refusal ≡ reasons.OutputFull = cc in
    leb-true full_output (waiting log) (full_first _ _ _ _ (holds ∙ ap Some same))
full_by_refusal log id count (lacks none may is) = cc
full_by_refusal log id count (fails none may is) = cc

-- Where a stream is not active, nothing is owed on it,
none_owed_there : (log : Log) (i : ℕ) → active log i ≡ false → reader_owed (log_view log) i ≡ 0
none_owed_there log i over = omega (arith, reader_within log i, owed_inactive log i over)

pub none_owed_at_zero : (log : Log) → reader_owed (log_view log) 0 ≡ 0
none_owed_at_zero log = none_owed_there log 0 (zero_inactive log)

-- so nothing is between one and the next that is active,
next_by : (b : Bool) (next id : ℕ) → (if b then None else Some next) ≡ Some id → next ≡ id
next_by true next id is = cc
next_by false next id is = cc

pub none_owed_between : (log : Log) (above id i : ℕ) → reader_next_live log above ≡ Some id
    → above < i → i < id → reader_owed (log_view log) i ≡ 0
none_owed_between log above id i is after before =
    let next = next_by (is_some log.failed || next_active log above == 0) _ id is in
    elim (cases_Bool (active log i)) [
      | inl alive ↦ absurd (omega (arith, (next_found log above i alive after).1, next, before))
      | inr over ↦ none_owed_there log i over
    ]

-- nor where there is none.
no_next_by : (failed none : Bool) (next : ℕ)
    → (if failed || none then None else Some next) ≡ None → (failed ≡ true) ⊎ (none ≡ true)
no_next_by true none next is = inl refl
no_next_by false true next is = inr refl
no_next_by false false next is = cc

failed_reads : (failed : Bool) (count : ℕ) → failed ≡ true → (if failed then 0 else count) ≡ 0
failed_reads true count is = refl
failed_reads false count is = cc

pub none_owed_above : (log : Log) (above i : ℕ) → reader_next_live log above ≡ None → above < i
    → reader_owed (log_view log) i ≡ 0
none_owed_above log above i is after =
    elim (no_next_by (is_some log.failed) (next_active log above == 0) _ is) [
      | inl failed ↦ failed_reads (is_some log.failed) _ failed
      | inr none ↦ elim (cases_Bool (active log i)) [
        | inl alive ↦
            absurd ((next_found log above i alive after).0
            (eqb-true (next_active log above) 0 none))
        | inr over ↦ none_owed_there log i over
      ]
    ]

pub nothing_owed : (log : Log) (i : ℕ) → owed log i ≡ 0 → reader_owed (log_view log) i ≡ 0
nothing_owed log i none = omega (arith, reader_within log i, none)

-- What the peer may send on a stream, and on the connection, where no more than this is owed.
owes_so : (log : Log) (unused : ℕ → ℕ) → waiting log < full_output → log.failed ≡ None
    → OwesAtMost log unused → (i : ℕ) → owed log i ≤ unused i
owes_so log unused few up (inl full) i = absurd (omega (arith, few, full))
owes_so log unused few up (inr owes) i = omega (arith, owes i, owed_as_read log i up)

pub stream_held : (values : Values) (log : Log) (unused : ℕ → ℕ) (id : ℕ)
    → IsLog Server values log → log.failed ≡ None → waiting log < full_output
    → OwesAtMost log unused → active log id ≡ true → list_any (ends id) log.received ≡ false
    → pos (own_value 4 first_window (acked log) log.sent)
    ≤ℤ (recv_window log id +ℤ pos (unused id))
stream_held values log unused id is up few owes alive goes =
    let whole = window_is_initial Server values log id is alive goes in
    let here = owes_so log unused few up owes id in
    grind (arith, ints)

sum_less : (n : ℕ) (f g : ℕ → ℕ) → ((i : ℕ) → f i ≤ g i) → sum_below n f ≤ sum_below n g
unfolding sum_below
sum_less zero f g less = omega arith
sum_less (suc n) f g less = omega (arith, less n, sum_less n f g less)

pub connection_held : (values : Values) (end : End) (log : Log) (unused : ℕ → ℕ) (n : ℕ)
    → Represents values end log → end.failed ≡ None → waiting log < full_output
    → OwesAtMost log unused → end.streams.highest < n
    → pos (granted log) ≤ℤ (connection_recv_window log.received log.sent
    +ℤ pos (sum_below n unused + log.unreturned))
connection_held values end log unused n is up few owes low =
    let whole = window_of_a_log values end log n is up low in
    let all = sum_less n (owed log) unused
    (owes_so log unused few (sym is.failed ∙ up) owes) in
    grind (arith, ints)
