-- A release of all that is owed makes the output longer by 26 octets at most for each stream that
-- owes something; and where nothing is unreturned before a round, nothing is left of credit once
-- output was given out in it.
use Rattle.std.proofs.Common.{◌≡◌, ◌≢◌, inl, inr, ℕ, ◌+◌, ◌*◌, ◌≤◌, ◌<◌, ◌==◌, ◌&&◌}
use Rattle.std.proofs.Common.{not, Bool, true, false, List, [], ◌∷◌, ◌++◌, length, length-append}
use Rattle.std.proofs.Common.{Option, None, Some, Result, Ok, Err, refl, sym, ap, ◌∙◌, arith}
use Rattle.std.proofs.Common.{if◌then◌else◌}
use Rattle.std.proofs.lemmas.Bool.{eq-eqb}
use Rattle.hpack.specs.declared.types.field.Field.{Field}
use Rattle.h2_frame.specs.Frames.{WindowUpdate}
use Rattle.h2_block.specs.Grouping.{Item, alone}
use Rattle.h2_spec_log.specs.declared.refusal.Refusal.{Refusal}
use Rattle.h2_spec_log.specs.declared.refusal.Refusal.TheVariants.{Closed, OutputFull, Memory}
use Rattle.h2_spec_log.specs.declared.role.Role.{Role}
use Rattle.h2_spec_log.specs.Acts.{Values, Act, Answer, SendFields, SendData, Release, PutOut}
use Rattle.h2_spec_log.specs.Acts.{Count, Done, IsTypedAct}
unfoldable use Rattle.h2_spec_log.specs.CallRules.{items_of, stream_of_act}
use Rattle.h2_spec_log.specs.Histories.{IsLog, called_one}
use Rattle.h2_spec_log.specs.Items.{encoding_of_items}
use Rattle.h2_spec_log.specs.Limits.{full_output}
use Rattle.h2_spec_log.specs.Log.{Log, active, owed, max_payload_sent}
unfoldable use Rattle.h2_spec_log.specs.Log.{waiting, output, released, unreleased}
use Rattle.h2_spec_log.specs.LogCalls.{MayAnswer, called}
unfoldable use Rattle.h2_spec_log.specs.LogCalls.{with_call, with_items}
unfoldable use Rattle.h2_spec_log.specs.LogSteps.{with_sent, with_unreturned, owed_at_close}
use Rattle.h2_spec_log.specs.LogView.{log_view}
unfoldable use Rattle.h2_spec_log.specs.States.{count_below}
use Rattle.h2_spec_log.specs.View.{ended_in}
use Rattle.h2_laws_log.proofs.CreditCases.{put_out_cases}
use Rattle.h2_laws_log.proofs.ItemSizes.{size-update, size-updates}
use Rattle.h2_laws_end.proofs.ActivityOwed.{none_owed_by_call}
use Rattle.h2_laws_end.proofs.OverRoom.{none_owed, owed_active}
use Rattle.h2_laws_machine.proofs.RepresentedSteps.{wrote_owes}
use Rattle.h2_laws_pair.proofs.HeardQuiet.{none_sum}
use Rattle.h2_ends.specs.declared.refusal.EndRefusal.{EndRefusal}
use Rattle.h2_ends.specs.declared.refusal.EndRefusal.TheVariants as refusals
use Rattle.h2_ends.specs.Ends.{EndLog}
use Rattle.h2_ends.specs.EndCalls.{Pumps, pumps_no_more, pumps_data, pumps_trailers}
use Rattle.h2_ends.specs.EndCalls.{data_refused, trailers_refused, Releases, releases_no_more}
use Rattle.h2_ends.specs.EndCalls.{releases_one, releases_refused}
unfoldable use Rattle.h2_ends.specs.EndCalls.{MayPump, MayReleaseAll}
use Rattle.h2_ends.specs.Pumping.{end_after_call}
use Rattle.h2_laws_quiet.specs.Room.{streams_owed}
use Rattle.h2_laws_quiet.specs.Work.{above_streams, credit_left}
use Rattle.h2_laws_quiet.proofs.FewCounts.{count_fewer, not_zero, owed_low, some_owed}
use Rattle.h2_laws_quiet.proofs.RoundSides.{put_out_end, owed_pumped, none_by_tests}

-- the log with what a call writes of its own
abbrev pub written : Log → Act → Answer → Log
written log act answer = with_sent (called log act answer) (items_of (log_view log) act answer)

-- Where nothing more is due with it, nothing is returned.
pub no_due : (log : Log) (act : Act) (answer : Answer)
    → owed_at_close log (written log act answer) (stream_of_act act) ≡ 0
    → with_items log act answer ≡ record (written log act answer) {
      unreturned = (written log act answer).unreturned + 0;
    }
unfolding with_items with_unreturned
no_due log act answer none = rw none refl

-- Items that are written leave what is unreturned.
sent_unreturned : (log : Log) (items : List Item)
    → (with_sent log items).unreturned ≡ log.unreturned
unfolding with_sent
sent_unreturned log [] = refl
sent_unreturned log (item ∷ items) = refl

closes_by : (was now : Bool) (n : ℕ) → (was ≡ true → n ≡ 0) → (if was && not now then n else 0) ≡ 0
closes_by true true n none = refl
closes_by true false n none = none refl
closes_by false now n none = refl

-- A stream on which all was released makes nothing due as it closes.
closes_none : (before after : Log) (i : ℕ) → (active before i ≡ true → unreleased after i ≡ 0)
    → owed_at_close before after i ≡ 0
unfolding owed_at_close
closes_none before after i none =
    closes_by (active before i) (active after i) (unreleased after i) none

-- So it is with a release of all that is owed,
release_due : (log : Log) (id : ℕ)
    → owed_at_close log (written log (Release id (owed log id)) Done) id ≡ 0
unfolding unreleased released
release_due log id =
    closes_none log (written log (Release id (owed log id)) Done) id (λ alive.
    wrote_owes (called log (Release id (owed log id)) Done) _ id
    ∙ released_all id (owed log id) (owed_active log id alive))
  where
    released_all : (i n : ℕ) → n ≡ unreleased log i
        → unreleased (called log (Release i n) Done) i ≡ 0
    released_all i n is = rw (eq-eqb i i refl) (omega (arith, is))

-- and with octets and trailers where nothing is owed.
pub data_due : (log : Log) (id : ℕ) (octets : List ℕ) (ends : Bool) (n : ℕ) → owed log id ≡ 0
    → owed_at_close log (written log (SendData id octets ends) (Count n)) id ≡ 0
unfolding unreleased released
data_due log id octets ends n none =
    closes_none log (written log (SendData id octets ends) (Count n)) id (λ alive.
    wrote_owes (called log (SendData id octets ends) (Count n)) _ id
    ∙ (sym (owed_active log id alive) ∙ none))

fields_due : (log : Log) (id : ℕ) (list : List Field) (ends : Bool) → owed log id ≡ 0
    → owed_at_close log (written log (SendFields id list ends) Done) id ≡ 0
unfolding unreleased released
fields_due log id list ends none =
    closes_none log (written log (SendFields id list ends) Done) id (λ alive.
    wrote_owes (called log (SendFields id list ends) Done) _ id
    ∙ (sym (owed_active log id alive) ∙ none))

-- So as much is unreturned after each as before.
due_stays : (log : Log) (act : Act) (answer : Answer)
    → owed_at_close log (written log act answer) (stream_of_act act) ≡ 0
    → (with_items log act answer).unreturned ≡ log.unreturned
due_stays log act answer none =
    let items = items_of (log_view log) act answer in
    let same = sent_unreturned (called log act answer) items in
    ap (λ (next : Log). next.unreturned) (no_due log act answer none) ∙ omega (arith, same)

release_stays : (log : Log) (id : ℕ)
    → (with_call log (Release id (owed log id)) Done).unreturned ≡ log.unreturned
unfolding with_call stream_of_act
release_stays log id = due_stays log (Release id (owed log id)) Done (release_due log id)

data_stays : (log : Log) (id : ℕ) (octets : List ℕ) (ends : Bool) (n : ℕ) → owed log id ≡ 0
    → (with_call log (SendData id octets ends) (Count n)).unreturned ≡ log.unreturned
unfolding with_call stream_of_act
data_stays log id octets ends n none =
    due_stays log (SendData id octets ends) (Count n) (data_due log id octets ends n none)

fields_stay : (log : Log) (id : ℕ) (list : List Field) → owed log id ≡ 0
    → (with_call log (SendFields id list true) Done).unreturned ≡ log.unreturned
unfolding with_call stream_of_act
fields_stay log id list none =
    due_stays log (SendFields id list true) Done (fields_due log id list true none)

-- A release writes 26 octets at most.
updates_size : (most id n : ℕ) (ended : Bool)
    → length (encoding_of_items most (alone (WindowUpdate 0 n)
    ∷ (if ended then [] else alone (WindowUpdate id n) ∷ []))) ≤ 26
updates_size most id n true = omega (arith, size-update most 0 n)
updates_size most id n false = omega (arith, size-updates most 0 n id n)

waits_after : (log after : Log) (octets : List ℕ) → length octets ≤ 26
    → after.written ≡ log.written ++ octets → after.given ≡ log.given
    → waiting after ≤ waiting log + 26
unfolding waiting output
waits_after log after octets few is given =
    omega (arith, few, ap length is, length-append log.written octets, given)

release_waits : (log : Log) (id : ℕ)
    → waiting (with_call log (Release id (owed log id)) Done) ≤ waiting log + 26
unfolding with_call with_sent items_of stream_of_act
release_waits log id =
    let act = Release id (owed log id) in
    let same = no_due log act Done (release_due log id) in
    waits_after log (with_items log act Done) (encoding_of_items (max_payload_sent log)
    (items_of (log_view log) act Done))
    (updates_size (max_payload_sent log) id (owed log id) (ended_in ((log_view log).stream id)))
    (ap (λ (next : Log). next.written) same) (ap (λ (next : Log). next.given) same)

-- how many streams below a number owe something
abbrev owing : Log → ℕ → ℕ
owing log bound = count_below bound (λ j. not (owed log j == 0))

module _ (role : Role) (values : Values) where
  -- A release that was made leaves one stream fewer that owes something.
  one_fewer : (log : Log) (id bound : ℕ) → IsLog role values log → id < bound
      → owed log id ≢ 0 → MayAnswer log (Release id (owed log id)) Done
      → owing (with_call log (Release id (owed log id)) Done) bound + 1 ≤ owing log bound
  one_fewer log id bound is low some may =
      let act = Release id (owed log id) in
      let after = with_call log act Done in
      count_fewer bound id (λ j. not (owed after j == 0)) (λ j. not (owed log j == 0)) low
      (λ j goes. some_owed log j (λ none. not_zero (owed after j) goes
      (none_owed_by_call role values log act Done j is may none)))
      (some_owed log id some) (ap (λ (n : ℕ). not (n == 0)) (none_owed log id))

  -- So each makes the output longer by 26 octets at most, and there is one for each stream that
  -- owes something.
  releases_wait : (end after : EndLog) (refused : Option Refusal) (bound : ℕ)
      → Releases end refused after → IsLog role values end.log
      → ((i : ℕ) → owed end.log i ≢ 0 → i < bound)
      → (waiting after.log ≤ waiting end.log + 26 * owing end.log bound)
      × (after.log.unreturned ≡ end.log.unreturned)
  unfolding with_call waiting output
  releases_wait end _ _ bound (releases_no_more _) is low = (omega arith, refl)
  releases_wait end _ _ bound (releases_one _ id refused after next typed may releases) is low =
      let act = Release id (owed end.log id) in
      let between = end_after_call end act Done in
      let rest = releases_wait between after refused bound releases
      (called_one is act Done typed may) (λ i some. low i (λ none. some
      (none_owed_by_call role values end.log act Done i is may none))) in
      let fewer = one_fewer end.log id bound is (low id next.some) next.some may in
      let waits = release_waits end.log id in
      (omega (arith, rest.0, fewer, waits), rest.1 ∙ release_stays end.log id)
  releases_wait end _ _ bound (releases_refused _ id refusal next typed may) is low =
      (omega arith, refl)

  -- A release of all in all: two WINDOW_UPDATE for each stream that owes something, and nothing
  -- more is unreturned.
  all_released : (end after : EndLog) (refused : Option Refusal) → Releases end refused after
      → IsLog role values end.log
      → (waiting after.log ≤ waiting end.log + 26 * streams_owed end.log)
      × (after.log.unreturned ≡ end.log.unreturned)
  all_released end after refused releases is =
      releases_wait end after refused (above_streams end.log) releases is (owed_low end.log)

  pub release_all_waits : (end after : EndLog) (result : Result (Unit {0}) EndRefusal)
      → MayReleaseAll end result after → IsLog role values end.log
      → (waiting after.log ≤ waiting end.log + 26 * streams_owed end.log)
      × (after.log.unreturned ≡ end.log.unreturned)
  unfolding MayReleaseAll
  release_all_waits end after (Ok done) (up, releases, none) is =
      all_released end after None releases is
  release_all_waits end after (Err (refusals.Conn Closed)) (down, same) is =
      rw same (omega arith, refl)
  release_all_waits end after (Err (refusals.Conn OutputFull)) (up, releases, full, some) is =
      all_released end after (Some OutputFull) releases is
  release_all_waits end after (Err (refusals.Conn Memory)) (up, releases) is =
      all_released end after (Some Memory) releases is
  release_all_waits end after (Err other) may is = absurd may

  -- So where these have room in the output, nothing is owed after it.
  pub none_owed_released : (end after : EndLog) (result : Result (Unit {0}) EndRefusal)
      → MayReleaseAll end result after → result ≢ Err (refusals.Conn Memory)
      → end.log.failed ≡ None → waiting after.log < full_output → (i : ℕ) → owed after.log i ≡ 0
  unfolding MayReleaseAll
  none_owed_released end after (Ok done) (up, releases, none) had was_up room = none
  none_owed_released end after (Err (refusals.Conn Closed)) (down, same) had was_up room =
      absurd (down was_up)
  none_owed_released end after (Err (refusals.Conn OutputFull)) (up, releases, full, some) had
      was_up room = absurd (omega (arith, full, room))
  none_owed_released end after (Err (refusals.Conn Memory)) may had was_up room =
      absurd (had refl)
  none_owed_released end after (Err other) may had was_up room = absurd may

  -- A pump of an end that owes nothing leaves as much unreturned.
  pumps_stay : (end after : EndLog) (count : ℕ) (refused : Option Refusal)
      → Pumps end count refused after → IsLog role values end.log
      → ((i : ℕ) → owed end.log i ≡ 0) → after.log.unreturned ≡ end.log.unreturned
  unfolding with_call
  pumps_stay end _ _ _ (pumps_no_more _) is none = refl
  pumps_stay end _ _ _ (pumps_data _ id sent more octets ends refused after next typed waits may
      pumps) is none =
      let act = SendData id octets ends in
      pumps_stay (end_after_call end act (Count sent)) after more refused pumps
      (called_one is act (Count sent) typed may)
      (λ j. none_owed_by_call role values end.log act (Count sent) j is may (none j))
      ∙ data_stays end.log id octets ends sent (none id)
  pumps_stay end _ _ _ (pumps_trailers _ id more list refused after next typed wait may pumps) is
      none =
      let act = SendFields id list true in
      pumps_stay (end_after_call end act Done) after more refused pumps
      (called_one is act Done typed may)
      (λ j. none_owed_by_call role values end.log act Done j is may (none j))
      ∙ fields_stay end.log id list (none id)
  pumps_stay end _ _ _ (data_refused _ id octets ends refusal next typed waits may) is none = refl
  pumps_stay end _ _ _ (trailers_refused _ id list refusal next typed wait may) is none = refl

  pump_stays : (end after : EndLog) (result : Result ℕ EndRefusal) → MayPump end result after
      → IsLog role values end.log → ((i : ℕ) → owed end.log i ≡ 0)
      → after.log.unreturned ≡ end.log.unreturned
  unfolding MayPump
  pump_stays end after (Ok count) (up, inl full) is none =
      pumps_stay end after count (Some OutputFull) full.0 is none
  pump_stays end after (Ok count) (up, inr done) is none =
      pumps_stay end after count None done.0 is none
  pump_stays end after (Err (refusals.Conn Closed)) (down, same) is none =
      ap (λ (one : EndLog). one.log.unreturned) same
  pump_stays end after (Err (refusals.Conn Memory)) (up, count, pumps) is none =
      pumps_stay end after count (Some Memory) pumps is none
  pump_stays end after (Err other) may is none = absurd may

  -- Nor does output that is put out make more unreturned.
  moved_none : (log : Log) (count given : ℕ) → log.unreturned ≡ 0
      → (with_call log (PutOut count) (Count given)).unreturned ≡ 0
  unfolding with_call with_sent
  moved_none log count given none =
      put_out_cases (λ (next : Log). next.unreturned ≡ 0) (called log (PutOut count) (Count given))
      (λ returns. refl) (λ keeps. none)

  -- Where it has less than the full output, all is returned.
  pub moved_returns : (log : Log) (count given : ℕ) → log.failed ≡ None
      → waiting log < full_output → (with_call log (PutOut count) (Count given)).unreturned ≡ 0
  unfolding with_call with_sent waiting output
  moved_returns log count given up few =
      put_out_cases (λ (next : Log). next.unreturned ≡ 0) (called log (PutOut count) (Count given))
      (λ returns. refl)
      (λ keeps. none_by_tests log.unreturned (waiting log) few (rw up at keeps))

  -- So nothing is owed once output was given out,
  pub owes_none : (first released pumped : EndLog) (release : Result (Unit {0}) EndRefusal)
      (pump : Result ℕ EndRefusal) (count given : ℕ)
      → MayReleaseAll first release released → release ≢ Err (refusals.Conn Memory)
      → first.log.failed ≡ None → IsLog role values first.log → IsLog role values released.log
      → IsLog role values pumped.log
      → waiting first.log + 26 * streams_owed first.log < full_output
      → MayPump released pump pumped → IsTypedAct (PutOut count)
      → MayAnswer pumped.log (PutOut count) (Count given)
      → ((i : ℕ) → owed released.log i ≡ 0)
      × ((i : ℕ) → owed (put_out_end pumped count given).log i ≡ 0)
  owes_none first released pumped release pump count given releases had up is is_released
      is_pumped room pumps typed moves =
      let waits = release_all_waits first released release releases is in
      let owes = none_owed_released first released release releases had up
      (omega (arith, waits.0, room)) in (
        owes,
        λ i. none_owed_by_call role values pumped.log (PutOut count) (Count given) i is_pumped
            moves (owed_pumped role values released pumped pump pumps is_released owes i),
      )

  -- and nothing is unreturned, where nothing was.
  pub none_unreturned_moved : (first released pumped : EndLog)
      (release : Result (Unit {0}) EndRefusal) (pump : Result ℕ EndRefusal) (count given : ℕ)
      → MayReleaseAll first release released → IsLog role values first.log
      → IsLog role values released.log → MayPump released pump pumped
      → ((i : ℕ) → owed released.log i ≡ 0) → first.log.unreturned ≡ 0
      → (put_out_end pumped count given).log.unreturned ≡ 0
  none_unreturned_moved first released pumped release pump count given releases is is_released
      pumps owes unreturned =
      let waits = release_all_waits first released release releases is in
      moved_none pumped.log count given
      (pump_stays released pumped pump pumps is_released owes ∙ (waits.1 ∙ unreturned))

  -- So no credit is left.
  pub none_left : (log : Log) → ((i : ℕ) → owed log i ≡ 0) → log.unreturned ≡ 0
      → credit_left log ≡ 0
  none_left log owes none =
      let sum = none_sum (above_streams log) (owed log) owes in omega (arith, sum, none)
