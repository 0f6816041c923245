-- What an end writes in a step of driving counts no more than what it reads, returns and sends of
-- what waits. And what it owes and has not returned is what it has read of DATA, without what it
-- has returned.
unfoldable use Rattle.h2_spec_log.specs.Log.{widened}
use Rattle.h2_laws_log.proofs.InvariantCalls.{widened_refused}
use Rattle.h2_laws_log.proofs.PartsStay.{call_calls}
use Rattle.std.proofs.Common.{◌≡◌, ◌≢◌, ℕ, ◌+◌, ◌*◌, ◌≤◌, true, false, List, []}
use Rattle.std.proofs.Common.{◌∷◌, ◌++◌, length, None, refl, sym, ap, ◌∙◌, arith, append_assoc}
use Rattle.std.proofs.Common.{pos, ◌+ℤ◌, ◌-ℤ◌, subst, Bool, if◌then◌else◌}
use Rattle.std.proofs.lemmas.Int.{ints}
use Rattle.std.specs.List.{AllByRecursion}
use Rattle.hpack.specs.declared.types.field.Field.{Field}
use Rattle.h2_frame.specs.Frames.{WindowUpdate}
use Rattle.h2_block.specs.Grouping.{Item, alone}
use Rattle.h2_spec_log.specs.declared.role.Role.{Role}
use Rattle.h2_spec_log.specs.declared.refusal.Refusal.{Refusal}
use Rattle.h2_spec_log.specs.Acts.{Values, Act, Answer, SendFields, SendData, Release, PutOut}
use Rattle.h2_spec_log.specs.Acts.{Count, Done, Refused}
use Rattle.h2_spec_log.specs.Allowed.{AllowedHistory, Allowed, starts, reads, writes}
unfoldable use Rattle.h2_spec_log.specs.CallRules.{items_of}
use Rattle.h2_spec_log.specs.Events.{Event}
use Rattle.h2_spec_log.specs.Histories.{IsLog}
use Rattle.h2_spec_log.specs.Items.{data_of, increment_on, one_ping, total}
use Rattle.h2_spec_log.specs.Log.{Log, max_payload_sent}
use Rattle.h2_spec_log.specs.LogCalls.{MayAnswer, accepts, refuses, lacks, fails}
unfoldable use Rattle.h2_spec_log.specs.LogCalls.{with_call}
use Rattle.h2_spec_log.specs.LogView.{log_view}
use Rattle.h2_spec_log.specs.Settings.{one_settings}
use Rattle.h2_spec_log.specs.View.{ended_in}
unfoldable use Rattle.h2_spec_log.specs.Windows.{granted_on_connection}
use Rattle.h2_spec_log.specs.Windows.{first_window}
use Rattle.h2_spec_log.proofs.SentPayloads.{most_between}
use Rattle.h2_laws_log.proofs.LogGrowth.{grows_call}
use Rattle.h2_laws_log.proofs.WindowsOfTwoEnds.{total-append}
use Rattle.h2_laws_end.specs.Written.{Writes}
use Rattle.h2_laws_end.proofs.WrittenSteps.{call_writes}
use Rattle.h2_laws_machine.proofs.EveryStep.{every_log_has_machine}
use Rattle.h2_laws_machine.proofs.OwedOnStreams.{window_of_a_log}
use Rattle.h2_ends.proofs.PumpWindows.{data_accepted, data_within}
use Rattle.h2_laws_quiet.specs.Work.{one_to_answer, work_of_item, above_streams, credit_left}
use Rattle.h2_laws_quiet.proofs.WorkOfItems.{IsSomeUpdate, body_work, credit_work}

-- No WINDOW_UPDATE that an end sends is of 0 octets.
one_update : (role : Role) (item : Item) (received sent : List Item)
    → Allowed role received sent item → IsSomeUpdate item
unfolding IsSomeUpdate
one_update role (alone (WindowUpdate i increment)) received sent allowed = allowed.1.some
one_update role item received sent allowed = tt

pub some_updates : (role : Role) (received sent : List Item) → AllowedHistory role received sent
    → AllByRecursion IsSomeUpdate sent
unfolding IsSomeUpdate
some_updates role _ _ (starts values ok) = (tt, tt)
some_updates role _ sent (reads {received = received} item history) =
    some_updates role received sent history
some_updates role received _ (writes {sent = sent} item history allowed) =
    (one_update role item received sent allowed, some_updates role received sent history)

-- What an end that is up owes and has not returned.
credit_by : (given read back wide : ℕ) → (pos (first_window + back) -ℤ pos read) +ℤ pos given
    ≡ pos (first_window + wide) → given + back ≡ read + wide
credit_by given read back wide is = omega (arith, ints, is)

-- What an end owes and has not returned, and what it has returned, is what it has read, and by what
-- it has widened the window.
abbrev pub KeepsCredit : Log → Type 0
KeepsCredit log = credit_left log + total (increment_on 0) log.sent
    ≡ total data_of log.received + widened log.calls

pub credit_is : (role : Role) (values : Values) (log : Log) → IsLog role values log
    → log.failed ≡ None
    → KeepsCredit log
unfolding granted_on_connection
credit_is role values log is up =
    let machine = every_log_has_machine role values log is in
    let same = machine.1.streams.highest in
    credit_by (credit_left log) (total data_of log.received) (total (increment_on 0) log.sent)
    (widened log.calls) (window_of_a_log values machine.0 log (above_streams log) machine.1 (machine.1.failed ∙ up)
    (omega (arith, same)))

-- An end goes on in a step of driving: it writes these items, reads those and reports these
-- events, so many tokens are sent, and it doesn't widen the connection's window. What it writes
-- counts no more than the credit that this
-- returns, the answers that what it reads has asked for, and what the tokens have counted; and
-- less by a margin.
pub record Drives (before after : Log) (gone : ℕ) : Type 0 where
  pub written : List Item
  pub read : List Item
  pub events : List Event
  pub sent : after.sent ≡ written ++ before.sent
  pub received : after.received ≡ read ++ before.received
  pub reported : after.reported ≡ events ++ before.reported
  pub as_wide : widened after.calls ≡ widened before.calls
  pub margin : ℕ
  pub cheap : total work_of_item written + margin
      ≤ 2 * total (increment_on 0) written + (total one_to_answer read + 3 * gone)

-- What items count is one each, one for each that is to be answered, and two for each octet.
pub items_work : (items : List Item) → total work_of_item items
    ≡ length items + (total one_to_answer items + 2 * total data_of items)
unfolding total
items_work [] = omega arith
items_work (item ∷ items) = omega (arith, items_work items)

-- So the step leaves no more work; and for each item that is read one less, and the margin.
pub drives_work : (before after : Log) (gone : ℕ) (drives : Drives before after gone)
    → KeepsCredit before
    → KeepsCredit after
    → (drives.margin + length drives.read) + (total work_of_item after.sent
    + (2 * credit_left after + total work_of_item before.received))
    ≤ total work_of_item before.sent
    + (2 * credit_left before + (total work_of_item after.received + 3 * gone))
drives_work before after gone drives was is =
    let sent_work = ap (total work_of_item) drives.sent
    ∙ total-append work_of_item drives.written before.sent in
    let sent_back = ap (total (increment_on 0)) drives.sent
    ∙ total-append (increment_on 0) drives.written before.sent in
    let read_work = ap (total work_of_item) drives.received
    ∙ total-append work_of_item drives.read before.received in
    let read_data = ap (total data_of) drives.received
    ∙ total-append data_of drives.read before.received in
    omega (
      arith,
      was,
      is,
      sent_work,
      sent_back,
      read_work,
      read_data,
      drives.cheap,
      drives.as_wide,
      items_work drives.read,
    )

-- A log that keeps its items drives nothing.
unfoldable pub drives_none : (before after : Log) (gone : ℕ) → after.sent ≡ before.sent
    → after.received ≡ before.received → after.reported ≡ before.reported
    → widened after.calls ≡ widened before.calls → Drives before after gone
unfolding total
drives_none before after gone sent received reported wide = record {
  written = [];
  read = [];
  events = [];
  sent = sent;
  received = received;
  reported = reported;
  as_wide = wide;
  margin = 0;
  cheap = omega arith;
}

-- What holds of all items holds of the first ones.
pub first_all : (one other : List Item) → AllByRecursion IsSomeUpdate (one ++ other)
    → AllByRecursion IsSomeUpdate one
first_all [] other all = tt
first_all (item ∷ one) other all = (all.0, first_all one other all.1)

-- A call that is accepted writes its items and credit.
drives_call : (log : Log) (act : Act) (answer : Answer) (gone : ℕ)
    → (does : Writes log (with_call log act answer) (items_of (log_view log) act answer))
    → AllByRecursion IsSomeUpdate (with_call log act answer).sent
    → total work_of_item (items_of (log_view log) act answer)
    ≤ 2 * total (increment_on 0) (items_of (log_view log) act answer) + 3 * gone
    → widened ((act, answer) ∷ log.calls) ≡ widened log.calls
    → Drives log (with_call log act answer) gone
unfolding total
drives_call log act answer gone does some few wide =
    let items = items_of (log_view log) act answer in
    let credit = credit_work does.credit does.is_credit
    (first_all does.credit (items ++ log.sent) (subst (λ (sent : List Item).
    AllByRecursion IsSomeUpdate sent) does.sent some)) in
    record {
      written = does.credit ++ items;
      read = [];
      events = [];
      reported = (grows_call log act answer).reported;
      as_wide = ap widened (call_calls log act answer) ∙ wide;
      margin = 0;
      sent = does.sent ∙ sym (append_assoc does.credit items log.sent);
      received = (grows_call log act answer).received;
      cheap = omega (
        arith,
        few,
        credit,
        total-append work_of_item does.credit items,
        total-append (increment_on 0) does.credit items,
      );
    }

-- A refused call drives nothing.
pub refused_drives : (log : Log) (act : Act) (refusal : Refusal) (gone : ℕ)
    → Drives log (with_call log act (Refused refusal)) gone
unfolding with_call
refused_drives log act refusal gone =
    drives_none log (with_call log act (Refused refusal)) gone refl refl refl
    (widened_refused act refusal log.calls)

-- Octets of a body that go.
pub data_drives : (log : Log) (id : ℕ) (octets : List ℕ) (end : Bool) (n : ℕ)
    → length octets ≢ 0 → MayAnswer log (SendData id octets end) (Count n)
    → AllByRecursion IsSomeUpdate (with_call log (SendData id octets end) (Count n)).sent
    → Drives log (with_call log (SendData id octets end) (Count n)) n
unfolding items_of widened
data_drives log id octets end n more may some =
    let least = (most_between log.received).0 in
    let few = body_work (max_payload_sent log) id octets end n (omega (arith, least)) more
    (data_within log id octets end n may) in
    drives_call log (SendData id octets end) (Count n) n
    (call_writes log (SendData id octets end) (Count n)
    (ap Count (data_accepted log id octets end n may).1) (λ other code wrong. cc)
    (λ code wrong. cc)) some (omega (arith, few)) refl

-- Trailers that go.
pub fields_drives : (log : Log) (id : ℕ) (list : List Field) (end : Bool)
    → MayAnswer log (SendFields id list end) Done
    → AllByRecursion IsSomeUpdate (with_call log (SendFields id list end) Done).sent
    → Drives log (with_call log (SendFields id list end) Done) 1
unfolding items_of total one_settings one_ping data_of widened
fields_drives log id list end may some =
    drives_call log (SendFields id list end) Done 1
    (call_writes log (SendFields id list end) Done refl (λ other code wrong. cc)
    (λ code wrong. cc)) some (omega arith) refl

-- Credit that is released.
updates_work : (id count : ℕ) (b : Bool) → count ≢ 0
    → total work_of_item (alone (WindowUpdate 0 count)
    ∷ (if b then [] else alone (WindowUpdate id count) ∷ []))
    ≤ 2 * total (increment_on 0) (alone (WindowUpdate 0 count)
    ∷ (if b then [] else alone (WindowUpdate id count) ∷ [])) + 3 * 0
unfolding total one_settings one_ping data_of increment_on
updates_work id count true some = omega (arith, some)
updates_work id count false some = omega (arith, some)

pub release_drives : (log : Log) (id count : ℕ) → count ≢ 0
    → MayAnswer log (Release id count) Done
    → AllByRecursion IsSomeUpdate (with_call log (Release id count) Done).sent
    → Drives log (with_call log (Release id count) Done) 0
unfolding items_of widened
release_drives log id count some_count may some =
    drives_call log (Release id count) Done 0
    (call_writes log (Release id count) Done refl (λ other code wrong. cc) (λ code wrong. cc)) some
    (updates_work id count (ended_in ((log_view log).stream id)) some_count) refl

-- Output that is put out.
pub put_out_drives : (log : Log) (count n : ℕ) → MayAnswer log (PutOut count) (Count n)
    → AllByRecursion IsSomeUpdate (with_call log (PutOut count) (Count n)).sent
    → Drives log (with_call log (PutOut count) (Count n)) 0
unfolding items_of total widened
put_out_drives log count n (accepts none is) some =
    drives_call log (PutOut count) (Count n) 0
    (call_writes log (PutOut count) (Count n) is (λ other code wrong. cc) (λ code wrong. cc)) some
    (omega arith) refl
put_out_drives log count n (refuses refusal holds is) some = cc
put_out_drives log count n (lacks none may is) some = cc
put_out_drives log count n (fails none may is) some = cc
