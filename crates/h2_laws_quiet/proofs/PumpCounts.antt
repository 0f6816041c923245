-- Where octets of a body could go on any stream, a pump sends some octets, or fills the output.
use Rattle.std.proofs.Common.{◌≡◌, ◌≢◌, ◌⊎◌, inl, inr, ℕ, ◌<◌, ◌≤◌, ◌==◌, Bool, true, List}
use Rattle.std.proofs.Common.{[], ◌++◌, Option, None, Ok, refl, sym, ap, ◌∙◌, arith, subst, pos}
use Rattle.std.proofs.Common.{◌-ℤ◌}
use Rattle.std.proofs.lemmas.Bool.{cases_eq, and_left, ne_eqb}
use Rattle.hpack.specs.declared.types.field.Field.{Field}
use Rattle.h2_block.specs.Grouping.{Item}
use Rattle.h2_spec_log.specs.declared.refusal.Refusal.{Refusal}
use Rattle.h2_spec_log.specs.Acts.{SendFields, SendData, Count, Done}
unfoldable use Rattle.h2_spec_log.specs.CallRules.{items_of}
unfoldable use Rattle.h2_spec_log.specs.Items.{data_on, data_of, total}
use Rattle.h2_spec_log.specs.Limits.{full_output}
use Rattle.h2_spec_log.specs.Log.{Log, active, waiting, send_window}
use Rattle.h2_spec_log.specs.LogView.{log_view}
use Rattle.h2_spec_log.specs.View.{View}
use Rattle.h2_spec_log.specs.Windows.{given_on, given_on_connection, connection_send_window}
use Rattle.h2_laws_log.proofs.WindowsOfTwoEnds.{total-append}
use Rattle.h2_laws_end.specs.Written.{IsCredit}
use Rattle.h2_laws_end.proofs.ActivityFrames.{active_added}
use Rattle.h2_laws_end.proofs.ActivityStays.{harmless_append, harmless_block, harmless_credit}
use Rattle.h2_laws_end.proofs.ActivityStays.{stays_active}
use Rattle.h2_laws_end.proofs.ActivitySteps.{AfterCall, was_refused, was_broken, was_accepted}
use Rattle.h2_laws_end.proofs.ActivitySteps.{call_after}
use Rattle.h2_ends.specs.Ends.{EndLog, tokens_waiting}
use Rattle.h2_ends.specs.EndCalls.{BodyWaits, IsStuckOn, Pumps, pumps_no_more}
use Rattle.h2_ends.specs.EndCalls.{pumps_data, pumps_trailers, data_refused, trailers_refused}
unfoldable use Rattle.h2_ends.specs.EndCalls.{MayPump}
use Rattle.h2_ends.specs.Pumping.{end_after_call}
use Rattle.h2_ends.proofs.PumpStuck.{waiting_same, fields_none}
use Rattle.h2_ends.proofs.PumpWindows.{data_failed, fields_failed}
use Rattle.h2_laws_quiet.specs.Going.{CouldGoOn}
use Rattle.h2_laws_quiet.proofs.PumpFirst.{not_stuck}
use Rattle.h2_laws_quiet.proofs.PumpGoes.{could_still, could_later, none_said, some_octets}
use Rattle.h2_laws_quiet.proofs.PumpGoes.{octets_no_list}

-- Neither credit nor trailers take of a window.
credit_takes : (i : ℕ) (credit : List Item) → IsCredit credit
    → (total (data_on i) credit ≡ 0) × (total data_of credit ≡ 0)
unfolding total data_on data_of
credit_takes i credit (inl none) = rw none (refl, refl)
credit_takes i credit (inr (count, is)) = rw is (refl, refl)

fields_take : (i j : ℕ) (list : List Field) (view : View)
    → (total (data_on i) (items_of view (SendFields j list true) Done) ≡ 0)
    × (total data_of (items_of view (SendFields j list true) Done) ≡ 0)
unfolding total data_on data_of items_of
fields_take i j list view = (refl, refl)

none_taken : (f : Item → ℕ) (credit items sent after : List Item) → total f credit ≡ 0
    → total f items ≡ 0 → after ≡ (credit ++ items) ++ sent → total f after ≡ total f sent
none_taken f credit items sent after none no_items is =
    let sum = total-append f (credit ++ items) sent in
    let first = total-append f credit items in
    let all = ap (total f) is in
    omega (arith, none, no_items, sum, first, all)

-- Trailers that go on another stream leave a stream active, and both its windows.
record Leaves (log after : Log) (i : ℕ) : Type 0 where
  alive : active log i ≡ true → active after i ≡ true
  stream : send_window after i ≡ send_window log i
  connection : connection_send_window after.received after.sent
      ≡ connection_send_window log.received log.sent

leaves_by : (log after : Log) (i j : ℕ) (list : List Field)
    → AfterCall log (SendFields j list true) Done after → after.failed ≡ None → i ≢ j
    → Leaves log after i
unfolding items_of
leaves_by log after i j list (was_refused refusal wrong adds) up other = cc
leaves_by log after i j list (was_broken code adds failed) up other = cc
leaves_by log after i j list (was_accepted credit is_credit none is adds) up other =
    let items = items_of (log_view log) (SendFields j list true) Done in
    let free = credit_takes i credit is_credit in
    let block = fields_take i j list (log_view log) in
    record {
      alive = λ was. active_added log after [] (credit ++ items) [] i adds
          ∙ stays_active log.role i [] (credit ++ items) log.received log.sent [] log.reported was
          refl refl (harmless_append log.role i credit items
          (harmless_credit log.role i credit is_credit) (
            harmless_block log.role i j true _
                (and_left (j == i) true (ne_eqb j i (λ same. other (sym same)))),
            tt,
          )) refl;
      stream =
          ap (λ (read : List Item). pos (given_on i read) -ℤ pos (total (data_on i) after.sent))
          adds.received
          ∙ ap (λ (n : ℕ). pos (given_on i log.received) -ℤ pos n)
          (none_taken (data_on i) credit items log.sent after.sent free.0 block.0 adds.sent);
      connection =
          ap (λ (read : List Item). pos (given_on_connection read)
          -ℤ pos (total data_of after.sent)) adds.received
          ∙ ap (λ (n : ℕ). pos (given_on_connection log.received) -ℤ pos n)
          (none_taken data_of credit items log.sent after.sent free.1 block.1 adds.sent);
    }

-- A body that waits does after a call that leaves what waits.
body_later : (end after : EndLog) (id : ℕ) (octets : List ℕ) (ends : Bool)
    → tokens_waiting after id ≡ tokens_waiting end id → BodyWaits end id octets ends
    → BodyWaits after id octets ends
body_later end after id octets ends same waits = record {
  some = waits.some;
  trailers = waits.trailers;
  waits = same ∙ waits.waits;
  ends_is = waits.ends_is;
}

-- A pump that ends where nothing could go has sent some octets, where some could go.
some_count : (end after : EndLog) (id count : ℕ) (refused : Option Refusal) (octets : List ℕ)
    (ends : Bool) → Pumps end count refused after → refused ≡ None → end.log.failed ≡ None
    → CouldGoOn end id → BodyWaits end id octets ends → ((i : ℕ) → IsStuckOn after i) → 0 < count
some_count end _ id _ _ octets ends (pumps_no_more _) none up could waits stuck =
    absurd (not_stuck end id could (stuck id))
some_count end _ id _ _ octets ends (pumps_data _ j sent more others its_end refused after next
    typed body may pumps) none up could waits stuck =
    elim (cases_eq sent 0) [
      | inl nothing ↦
          let act = SendData j others its_end in
          let between = end_after_call end act (Count sent) in
          let some = some_octets others body.some in
          let later = some_count between after id more refused octets ends pumps none
          (data_failed end.log j others its_end sent ∙ up)
          (subst (λ (n : ℕ). CouldGoOn (end_after_call end act (Count n)) id) (sym nothing)
          (could_later end id j others its_end some could))
          (subst (λ (n : ℕ). BodyWaits (end_after_call end act (Count n)) id octets ends)
          (sym nothing) (body_later end (end_after_call end act (Count 0)) id octets ends
          (waiting_same end act (Count 0) id (none_said id j others its_end some)) waits))
          stuck in
          omega (arith, later)
      | inr other ↦ omega (arith, other)
    ]
some_count end _ id _ _ octets ends (pumps_trailers _ j more list refused after next typed wait may
    pumps) none up could waits stuck =
    let act = SendFields j list true in
    let between = end_after_call end act Done in
    let other : id ≢ j = λ same. octets_no_list end j octets ends list
    (subst (λ (i : ℕ). BodyWaits end i octets ends) same waits) wait in
    let up_still = fields_failed end.log j list true ∙ up in
    let leaves = leaves_by end.log between.log id j list (call_after end.log act Done may) up_still
    other in
    let same = waiting_same end act Done id (fields_none id j list true Done other) in
    some_count between after id more refused octets ends pumps none up_still (record {
      active = leaves.alive could.active;
      next = could.next;
      others = could.others;
      waits = same ∙ could.waits;
      could_go = could_still end.log between.log id could.next leaves.stream leaves.connection
          could.could_go;
    }) (body_later end between id octets ends same waits) stuck
some_count end _ id _ _ octets ends (data_refused _ j others its_end refusal next typed body may)
    none up could waits stuck = cc
some_count end _ id _ _ octets ends (trailers_refused _ j list refusal next typed wait may) none up
    could waits stuck = cc

pub counted_or_full : (end after : EndLog) (id count : ℕ) (octets : List ℕ) (ends : Bool)
    → MayPump end (Ok count) after → CouldGoOn end id → BodyWaits end id octets ends
    → (0 < count) ⊎ (full_output ≤ waiting after.log)
unfolding MayPump
counted_or_full end after id count octets ends may could waits = elim may.1 [
  | inl full ↦ inr full.1
  | inr done ↦ inl (some_count end after id count None octets ends done.0 refl may.0 could waits
      done.1)
]
