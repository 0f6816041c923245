-- The most octets of a payload that an end reads is what its log says, and is within its bounds; no
-- call but a change of own settings moves it.
use Rattle.h2_laws_machine.proofs.Names
use Names.{◌≡◌, ◌≤◌, ◌==◌, ◌&&◌, Bool, List, ◌-ℤ◌, Some, None, refl, Item, Code, Role, Open, acked}
use Names.{ℕ, suc, ◌+◌, ◌-◌, not, max, pos, sym, ap, ◌∙◌, Act, Log, End, Fail}
use Names.{length, ChangeSettings, Widen, returns_credit, most_max_frame, settings_count}
use Names.{ValuesAreInRange}
use Names.{Option, arith, ltb-true, Values, SendData, Refuse, SendPing, PutOut, end_view, stream_at}
use Names.{is_some, returns_before_put_out, after_fields_sent, before_put_out_at, close_unprocessed}
use Names.{ltb-false, cond_both, Release, own_value, StreamView, after_call, after_data, Represents}
use Names.{SendFields, ResetStream, SendGoAway, AreInRange, data_items, OwnSettings, queue_output}
use Names.{refuse_fault, add_unreturned, after_refuse, after_release, update_stream, RepresentsOwn}
use Rattle.h2_spec_log.specs.Settings.{greatest_from, payload_limit}
use Rattle.h2_spec_machine.specs.End.{payload_limit_of}
use Rattle.h2_laws_machine.proofs.OneAwaited.{awaits_one}

-- Where no own SETTINGS await their acknowledgment, the limit is the value in force.
limit_of_all : (count : ℕ) (sent : List Item) → settings_count sent ≤ count
    → payload_limit count sent ≡ own_value 5 16384 count sent
unfolding payload_limit greatest_from
limit_of_all count sent all =
    let none : settings_count sent - count ≡ 0 = omega (arith, all) in rw none refl

-- Where one awaits it, the limit is the greater of the value in force and the one that was written
-- last.
limit_of_one_more : (count : ℕ) (sent : List Item) → settings_count sent ≡ count + 1
    → payload_limit count sent
    ≡ max (own_value 5 16384 count sent) (own_value 5 16384 (settings_count sent) sent)
unfolding payload_limit greatest_from
limit_of_one_more count sent one =
    let more : settings_count sent - count ≡ 1 = omega (arith, one) in
    let last : settings_count sent ≡ suc count = omega (arith, one) in rw (more, last) refl

-- So it is by own settings that are represented, of which one at most awaits its acknowledgment.
limit_of_own : (own : OwnSettings) (awaited : Option Values) (role : Role) (count : ℕ)
    (sent : List Item) → own.awaited ≡ awaited → RepresentsOwn own role count sent
    → settings_count sent ≤ count + 1 → payload_limit_of own ≡ payload_limit count sent
limit_of_own own None role count sent is own_is most =
    let all = ltb-false count (settings_count sent) (sym own_is.awaits ∙ ap is_some is) in
    rw (is, limit_of_all count sent all, ← own_is.in_force.max_frame) (omega arith)
limit_of_own own (Some values) role count sent is own_is most =
    let above = ltb-true count (settings_count sent) (sym own_is.awaits ∙ ap is_some is) in
    rw (
      is,
      limit_of_one_more count sent (omega (arith, above, most)),
      ← own_is.in_force.max_frame,
      (own_is.awaited values is).max_frame,
    ) refl

-- An end that represents a log reads payloads up to the log's limit.
pub limit_agrees : (values : Values) (e : End) (log : Log) → Represents values e log
    → log.failed ≡ None → payload_limit_of e.own ≡ payload_limit (acked log) log.sent
limit_agrees values e log represents up =
    let run = represents.running (represents.failed ∙ up) in
    limit_of_own _ _ _ _ _ refl run.own (awaits_one e.role values log represents.came up).settings

-- An end has these own settings.
abbrev Has : OwnSettings → End → Type 0
Has own e = e.own ≡ own

-- More that is unreturned leaves own settings as they are.
own_of_credit : (more : ℕ) (e : End) → (add_unreturned more e).own ≡ e.own
unfolding add_unreturned
own_of_credit more e =
    cond_both (returns_credit more (length e.output.waiting)) _ _ (Has e.own) (λ returns. refl)
    (λ keeps. refl)

-- A stream that is changed leaves them as they are.
own_of_update : (e : End) (i : ℕ) (stream : StreamView) → (update_stream e i stream).own ≡ e.own
own_of_update e i stream =
    cond_both (stream.ended_in && stream.ended_out) _ _ (Has e.own) (λ over. own_of_credit _ _)
    (λ goes_on. refl)

-- A stream that is reported as unprocessed leaves them as they are.
pub own_of_unprocessed : (e : End) (i : ℕ) → (close_unprocessed e i).own ≡ e.own
own_of_unprocessed e i = own_of_credit _ _

-- DATA that are sent leave them as they are.
own_of_data : (e : End) (i : ℕ) (octets : List ℕ) (end : Bool) (count : ℕ) (x : Option StreamView)
    → (after_data e i octets end count x).own ≡ e.own
own_of_data e i octets end count None = refl
own_of_data e i octets end count (Some stream) =
    let after : End =
    record (queue_output e (data_items (end_view e).max_payload i octets end count)) {
      windows = record e.windows { send = e.windows.send - count };
    } in
    cond_both (count == 0 && not (length octets == 0 && end)) _ _ (Has e.own) (λ nothing. refl)
    (λ some. own_of_update after i (record stream {
      send_window = stream.send_window -ℤ pos count;
      ended_out = end && count == length octets;
    }))

-- A field block that is sent leaves them as they are.
own_of_fields : (e : End) (i : ℕ) (end : Bool) (x : Option StreamView)
    → (after_fields_sent e i end x).own ≡ e.own
own_of_fields e i end None = refl
own_of_fields e i end (Some stream) = own_of_update e i (record stream { ended_out = end })

-- Octets that are released leave them as they are.
own_of_release : (e : End) (i count : ℕ) (x : Option StreamView)
    → (after_release e i count x).own ≡ e.own
own_of_release e i count None = refl
own_of_release e i count (Some stream) = refl

-- A stream that is refused leaves them as they are.
own_of_refuse : (e : End) (i code : ℕ) (x : Option Code) → (after_refuse e i code x).own ≡ e.own
own_of_refuse e i code (Some fault) = refl
own_of_refuse e i code None = own_of_credit _ _

-- No call but a change of own settings changes them.
pub own_of_call : (e : End) (act : Act) → ((values : Values) → act ≡ ChangeSettings values → ⊥)
    → (after_call e act).own ≡ e.own
unfolding after_call before_put_out_at
own_of_call e (Open fields end) others = refl
own_of_call e (SendFields id fields end) others = own_of_fields _ id end (stream_at e id)
own_of_call e (SendData id octets end) others = own_of_data e id octets end _ (stream_at e id)
own_of_call e (Release id count) others = own_of_release _ id count (stream_at e id)
own_of_call e (ResetStream id code) others = own_of_credit _ _
own_of_call e (Refuse id code) others = own_of_refuse e id code (refuse_fault (end_view e) code)
own_of_call e (SendPing octets) others = refl
own_of_call e SendGoAway others = refl
own_of_call e (Fail code) others = refl
own_of_call e (PutOut count) others =
    cond_both (returns_before_put_out (end_view e)) _ _ (Has e.own) (λ returns. refl)
    (λ keeps. refl)
own_of_call e (ChangeSettings values) others = absurd (others values refl)
own_of_call e (Widen count) others = refl

-- The limit of own settings is within its bounds where both values are.
newest_in_range : (own : OwnSettings) (awaited : Option Values) → own.awaited ≡ awaited
    → own.in_force.max_frame ≤ most_max_frame
    → ((values : Values) → own.awaited ≡ Some values → AreInRange values)
    → payload_limit_of own ≤ most_max_frame
newest_in_range own None is within ranges = rw is (omega (arith, within))
newest_in_range own (Some values) is within ranges =
    let range = (ranges values is).max_frame in rw is (omega (arith, within, range))

-- The limit of an end is within its bounds.
pub limit_in_range : (e : End) → ValuesAreInRange e → payload_limit_of e.own ≤ most_max_frame
limit_in_range e ranges = newest_in_range e.own e.own.awaited refl ranges.own_frame ranges.awaited
