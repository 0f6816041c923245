-- One end in a round: it releases all, pumps, gives out all, and takes what is delivered. Where
-- nothing is sent or read in it, the end is quiet after it.
unfoldable use Rattle.h2_spec_log.specs.Log.{widened}
use Rattle.h2_laws_log.proofs.PartsStay.{call_calls}
use Rattle.std.proofs.Common.{◌≡◌, ◌≢◌, inl, inr, ℕ, zero, suc, ◌≤◌, ◌<◌, true, false, List}
use Rattle.std.proofs.Common.{[], ◌∷◌, ◌++◌, length, Option, None, Some, Result, Ok, Err, refl}
use Rattle.std.proofs.Common.{sym, ap}
use Rattle.std.proofs.Common.{◌∙◌, arith, subst, nat_lt, ◌&&◌}
use Rattle.std.proofs.lemmas.Bool.{cases_Bool, cases_eq, or_parts}
use Rattle.std.proofs.lemmas.Bool.Decides.{nat_tests}
use Rattle.std.proofs.lemmas.List.Folds.{list_any-append}
use Rattle.std.specs.List.{list_any}
use Rattle.h2_spec_log.specs.declared.refusal.Refusal.{Refusal}
use Rattle.h2_spec_log.specs.declared.refusal.Refusal.TheVariants.{Closed, OutputFull, Memory}
use Rattle.h2_spec_log.specs.declared.role.Role.{Role}
use Rattle.h2_spec_log.specs.Acts.{Values, PutOut, Count, SendFields, SendData, Done}
use Rattle.h2_spec_log.specs.Events.{Event, reports_unprocessed}
use Rattle.h2_spec_log.specs.Histories.{IsLog, called_one}
use Rattle.h2_spec_log.specs.Items.{increment_on, data_of, total}
use Rattle.h2_spec_log.specs.Limits.{full_output}
use Rattle.h2_spec_log.specs.Log.{Log, active, owed, send_window}
unfoldable use Rattle.h2_spec_log.specs.Log.{waiting, output}
use Rattle.h2_spec_log.specs.LogCalls.{MayAnswer, called}
unfoldable use Rattle.h2_spec_log.specs.LogCalls.{with_call}
unfoldable use Rattle.h2_spec_log.specs.LogSteps.{with_sent}
use Rattle.h2_spec_log.specs.States.{is_active}
use Rattle.h2_spec_log.specs.Windows.{connection_send_window}
use Rattle.h2_spec_log.proofs.StreamLemmas.{stream_of_log}
use Rattle.h2_block.specs.Grouping.{Item}
unfoldable use Rattle.h2_laws_log.specs.Sums.{sum_below}
use Rattle.h2_laws_log.proofs.CreditCases.{put_out_cases}
use Rattle.h2_laws_log.proofs.LogGrowth.{grows_call}
use Rattle.h2_laws_log.proofs.ReaderStates.{active_parts, active_from}
use Rattle.h2_laws_log.proofs.StreamNumbers.{block_below}
use Rattle.h2_laws_end.proofs.ActivityOwed.{none_owed_by_call}
use Rattle.h2_laws_end.proofs.OverRoom.{owed_inactive}
use Rattle.h2_laws_pair.specs.Quiet.{NoneCouldGo}
use Rattle.h2_laws_pair.specs.Tokens.{Token}
use Rattle.h2_ends.specs.declared.refusal.EndRefusal.{EndRefusal}
use Rattle.h2_ends.specs.declared.refusal.EndRefusal.TheVariants as refusals
use Rattle.h2_ends.specs.Ends.{EndLog, tokens_waiting}
use Rattle.h2_ends.specs.EndTakes.{end_with_log}
use Rattle.h2_ends.specs.EndCalls.{IsStuckOn, Pumps, pumps_no_more, pumps_data, pumps_trailers}
use Rattle.h2_ends.specs.EndCalls.{data_refused, trailers_refused}
unfoldable use Rattle.h2_ends.specs.EndCalls.{MayPump, MayReleaseAll}
use Rattle.h2_ends.specs.Pumping.{end_after_call}
use Rattle.h2_ends.proofs.EndTokens.{no_part_tokens}
use Rattle.h2_ends.proofs.PumpStuck.{waiting_same}
use Rattle.h2_laws_quiet.specs.Work.{above_streams, credit_left}
use Rattle.h2_laws_quiet.proofs.PumpGoes.{could_still}
use Rattle.h2_laws_pair.proofs.HeardQuiet.{none_sum}
use Rattle.h2_laws_quiet.proofs.WorkOfDeliveries.{EndTakes}
use Rattle.h2_laws_quiet.proofs.WorkOfLogs.{credit_is}

-- the end after all that may be put out was
abbrev pub put_out_end : EndLog → (count given : ℕ) → EndLog
put_out_end end count given = end_with_log end (with_call end.log (PutOut count) (Count given))

-- What an end does in a round, and what it is after each of these: the first end, and the one
-- after its release, after its pump, once its output was given out, and once all was delivered.
pub record IsPath (role : Role) (values : Values) (count given : ℕ)
    (first released pumped last : EndLog) : Type 0 where
  pub release : Result (Unit {0}) EndRefusal
  pub releases : MayReleaseAll first release released
  pub release_had : release ≢ Err (refusals.Conn Memory)
  pub pump : Result ℕ EndRefusal
  pub pumps : MayPump released pump pumped
  pub pump_had : pump ≢ Err (refusals.Conn Memory)
  pub moves : MayAnswer pumped.log (PutOut count) (Count given)
  pub takes : EndTakes (put_out_end pumped count given) last
  pub log_released : IsLog role values released.log
  pub log_pumped : IsLog role values pumped.log
  pub log_last : IsLog role values last.log
  pub up_first : first.log.failed ≡ None
  pub up_released : released.log.failed ≡ None
  pub up_pumped : pumped.log.failed ≡ None
  pub up_last : last.log.failed ≡ None

-- Nothing was sent or read from the pump on, and nothing waits in the output.
pub record IsStill (released pumped moved last : EndLog) : Type 0 where
  pub sent_moved : moved.log.sent ≡ pumped.log.sent
  pub sent_last : last.log.sent ≡ pumped.log.sent
  pub received_last : last.log.received ≡ pumped.log.received
  pub none_released : waiting released.log ≡ 0
  pub none_pumped : waiting pumped.log ≡ 0

-- Nothing is owed after a release of all.
pub full_or_none : (log : Log) → full_output ≤ waiting log → waiting log ≡ 0 → ⊥
full_or_none log full none = omega (arith, full, none)

none_owed_released : (first released : EndLog) (release : Result (Unit {0}) EndRefusal)
    → MayReleaseAll first release released → release ≢ Err (refusals.Conn Memory)
    → first.log.failed ≡ None → waiting released.log ≡ 0 → (i : ℕ) → owed released.log i ≡ 0
unfolding MayReleaseAll
none_owed_released first released (Ok done) (up, releases, none) had was_up empty = none
none_owed_released first released (Err (refusals.Conn Closed)) (down, same) had was_up empty =
    absurd (down was_up)
none_owed_released first released (Err (refusals.Conn OutputFull)) (up, releases, full, some) had
    was_up empty = absurd (full_or_none released.log full empty)
none_owed_released first released (Err (refusals.Conn Memory)) may had was_up empty =
    absurd (had refl)
none_owed_released first released (Err other) may had was_up empty = absurd may

module _ (role : Role) (values : Values) where
  -- Nor is it after the calls of a pump.
  owed_pumps : (end after : EndLog) (count : ℕ) (refused : Option Refusal)
      → Pumps end count refused after → IsLog role values end.log
      → ((i : ℕ) → owed end.log i ≡ 0) → (i : ℕ) → owed after.log i ≡ 0
  owed_pumps end _ _ _ (pumps_no_more _) is none i = none i
  owed_pumps end _ _ _ (pumps_data _ id sent more octets ends refused after next typed waits may
      pumps) is none i =
      let act = SendData id octets ends in
      owed_pumps (end_after_call end act (Count sent)) after more refused pumps
      (called_one is act (Count sent) typed may)
      (λ j. none_owed_by_call role values end.log act (Count sent) j is may (none j)) i
  owed_pumps end _ _ _ (pumps_trailers _ id more list refused after next typed wait may pumps) is
      none i =
      let act = SendFields id list true in
      owed_pumps (end_after_call end act Done) after more refused pumps
      (called_one is act Done typed may)
      (λ j. none_owed_by_call role values end.log act Done j is may (none j)) i
  owed_pumps end _ _ _ (data_refused _ id octets ends refusal next typed waits may) is none i =
      none_owed_by_call role values end.log (SendData id octets ends) _ i is may (none i)
  owed_pumps end _ _ _ (trailers_refused _ id list refusal next typed wait may) is none i =
      none_owed_by_call role values end.log (SendFields id list true) _ i is may (none i)

  pub owed_pumped : (released pumped : EndLog) (pump : Result ℕ EndRefusal)
      → MayPump released pump pumped → IsLog role values released.log
      → ((i : ℕ) → owed released.log i ≡ 0) → (i : ℕ) → owed pumped.log i ≡ 0
  unfolding MayPump
  owed_pumped released pumped (Ok count) (up, inl full) is none =
      owed_pumps released pumped count (Some OutputFull) full.0 is none
  owed_pumped released pumped (Ok count) (up, inr done) is none =
      owed_pumps released pumped count None done.0 is none
  owed_pumped released pumped (Err (refusals.Conn Closed)) (down, same) is none =
      rw same none
  owed_pumped released pumped (Err (refusals.Conn Memory)) (up, count, pumps) is none =
      owed_pumps released pumped count (Some Memory) pumps is none
  owed_pumped released pumped (Err other) may is none = absurd may

-- Nothing could go after it.
stuck_pumped : (released pumped : EndLog) (pump : Result ℕ EndRefusal)
    → MayPump released pump pumped → pump ≢ Err (refusals.Conn Memory)
    → released.log.failed ≡ None → waiting pumped.log ≡ 0 → (i : ℕ) → IsStuckOn pumped i
unfolding MayPump
stuck_pumped released pumped (Ok count) (up, inl full) had was_up empty =
    absurd (full_or_none pumped.log full.1 empty)
stuck_pumped released pumped (Ok count) (up, inr done) had was_up empty = done.1
stuck_pumped released pumped (Err (refusals.Conn Closed)) (down, same) had was_up empty =
    absurd (down was_up)
stuck_pumped released pumped (Err (refusals.Conn Memory)) may had was_up empty = absurd (had refl)
stuck_pumped released pumped (Err other) may had was_up empty = absurd may

-- Where output is put out without credit, none was unreturned.
longer : (item : Item) (items : List Item) → item ∷ items ≢ items
longer item items same = omega (arith, ap length same)

pub none_by_tests : (unreturned waits : ℕ) → waits < full_output
    → (nat_lt 0 unreturned && nat_lt waits full_output) ≡ false → unreturned ≡ 0
none_by_tests unreturned waits few keeps = grind (arith, nat_tests, few, keeps)

none_unreturned : (log : Log) (count given : ℕ) → log.failed ≡ None → waiting log ≡ 0
    → (with_call log (PutOut count) (Count given)).sent ≡ log.sent → log.unreturned ≡ 0
unfolding with_call with_sent waiting output
none_unreturned log count given up empty =
    put_out_cases (λ (next : Log). next.sent ≡ log.sent → log.unreturned ≡ 0)
    (called log (PutOut count) (Count given)) (λ returns same. absurd (longer _ log.sent same))
    (λ keeps same. none_by_tests log.unreturned (waiting log) (rw empty (omega arith))
    (rw up at keeps))

-- What is owed on a stream is within the credit that is left.
each_within : (n : ℕ) (f : ℕ → ℕ) (i : ℕ) → i < n → f i ≤ sum_below n f
unfolding sum_below
each_within zero f i low = absurd (omega (arith, low))
each_within (suc n) f i low = elim (cases_eq i n) [
  | inl same ↦ rw same (omega arith)
  | inr other ↦ omega (arith, each_within n f i (omega (arith, low, other)))
]

pub owed_within : (log : Log) (i : ℕ) → owed log i ≤ credit_left log
owed_within log i = elim (cases_Bool (active log i)) [
  | inl alive ↦
      let low = block_below i _
      (active_parts log.role i log.received log.sent log.reported alive).opened in
      let within = each_within (above_streams log) (owed log) i (omega (arith, low)) in
      omega (arith, within)
  | inr over ↦ omega (arith, owed_inactive log i over)
]

-- So where no credit is left, nothing is owed.
pub none_owed_by_credit : (log : Log) → credit_left log ≡ 0 → (i : ℕ) → owed log i ≡ 0
none_owed_by_credit log none i = omega (arith, none, owed_within log i)

-- A stream that is active where more was reported was so before.
active_less : (role : Role) (i : ℕ) (received sent : List Item) (events reported : List Event)
    → is_active role i received sent (events ++ reported) ≡ true
    → is_active role i received sent reported ≡ true
active_less role i received sent events reported alive =
    let parts = active_parts role i received sent (events ++ reported) alive in
    active_from role i received sent reported (record {
      odd = parts.odd;
      opened = parts.opened;
      below = parts.below;
      lasts = parts.lasts;
      unnamed = (or_parts (list_any (reports_unprocessed i) events)
          (list_any (reports_unprocessed i) reported)
          (sym (list_any-append (reports_unprocessed i) events reported) ∙ parts.unnamed)).1;
    })

-- Where both windows are as they were, none goes that couldn't.
none_still : (log after : Log) (i : ℕ) (tokens : List Token)
    → send_window after i ≡ send_window log i
    → connection_send_window after.received after.sent
    ≡ connection_send_window log.received log.sent
    → NoneCouldGo log i tokens → NoneCouldGo after i tokens
none_still log after i [] stream connection never = tt
none_still log after i (token ∷ tokens) stream connection never = λ could.
    never (could_still after log i token (sym stream) (sym connection) could)

module _ (role : Role) (values : Values) (count given : ℕ)
    (first released pumped last : EndLog)
    (path : IsPath role values count given first released pumped last)
    (still : IsStill released pumped (put_out_end pumped count given) last) where
  moved : EndLog
  moved = put_out_end pumped count given

  owes_none : (i : ℕ) → owed pumped.log i ≡ 0
  owes_none = owed_pumped role values released pumped path.pump path.pumps path.log_released
      (none_owed_released first released path.release path.releases path.release_had path.up_first
      still.none_released)

  -- No credit is left.
  none_left : credit_left last.log ≡ 0
  unfolding widened
  none_left =
      let unreturned = none_unreturned pumped.log count given path.up_pumped still.none_pumped
      still.sent_moved in
      let sum = none_sum (above_streams pumped.log) (owed pumped.log) owes_none in
      let was = credit_is role values pumped.log path.log_pumped path.up_pumped in
      let is = credit_is role values last.log path.log_last path.up_last in
      let back = ap (total (increment_on 0)) still.sent_last in
      let came = ap (total data_of) still.received_last in
      let wide : widened last.log.calls ≡ widened pumped.log.calls = path.takes.ends.drives.as_wide
      ∙ ap widened (call_calls pumped.log (PutOut count) (Count given)) in
      omega (arith, unreturned, sum, was, is, back, came, wide)

  -- The role and what was reported.
  same_role : last.log.role ≡ pumped.log.role
  same_role = (stream_of_log role values last.log path.log_last).role
      ∙ sym (stream_of_log role values pumped.log path.log_pumped).role

  reported_more : last.log.reported ≡ path.takes.ends.drives.events ++ pumped.log.reported
  reported_more = path.takes.ends.drives.reported
      ∙ ap (λ (events : List Event). path.takes.ends.drives.events ++ events)
      (grows_call pumped.log (PutOut count) (Count given)).reported

  was_active : (i : ℕ) → active last.log i ≡ true → active pumped.log i ≡ true
  was_active i alive =
      active_less pumped.log.role i pumped.log.received pumped.log.sent
      path.takes.ends.drives.events pumped.log.reported
      (rw (same_role, still.received_last, still.sent_last, reported_more) at alive)

  -- What waits.
  same_waiting : (i : ℕ) → tokens_waiting last i ≡ tokens_waiting pumped i
  same_waiting i = path.takes.ends.same path.takes.none_gone i
      ∙ waiting_same pumped (PutOut count) (Count given) i
      (no_part_tokens i (PutOut count) (Count given) tt)

  -- So nothing is owed or unreturned, and nothing could go.
  pub last_owes : (i : ℕ) → owed last.log i ≡ 0
  last_owes = none_owed_by_credit last.log none_left

  pub last_unreturned : last.log.unreturned ≡ 0
  last_unreturned = omega (arith, none_left)

  pub last_stuck : (i : ℕ) → IsStuckOn last i
  last_stuck i = λ alive.
      let before = stuck_pumped released pumped path.pump path.pumps path.pump_had
      path.up_released still.none_pumped i (was_active i alive) in
      subst (λ (tokens : List Token). NoneCouldGo last.log i tokens) (sym (same_waiting i))
      (none_still pumped.log last.log i (tokens_waiting pumped i)
      (windows_same i) connection_same before)
    where
      windows_same : (j : ℕ) → send_window last.log j ≡ send_window pumped.log j
      windows_same j = rw (still.received_last, still.sent_last) refl

      connection_same : connection_send_window last.log.received last.log.sent
          ≡ connection_send_window pumped.log.received pumped.log.sent
      connection_same = rw (still.received_last, still.sent_last) refl
