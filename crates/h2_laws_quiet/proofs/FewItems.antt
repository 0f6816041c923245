-- What the calls of a round, and deliveries, add to sums over the items that an end has sent,
-- where WINDOW_UPDATE and acknowledgments count nothing.
use Rattle.std.proofs.Common.{◌≡◌, ◌≢◌, inl, inr, ℕ, ◌+◌, ◌==◌, Bool, true, false, List, []}
use Rattle.std.proofs.Common.{◌∷◌, ◌++◌, None, refl, sym, ap, ◌∙◌, arith}
use Rattle.std.proofs.Common.{if◌then◌else◌}
use Rattle.std.proofs.lemmas.Bool.{ne_eqb}
use Rattle.std.specs.List.{AllByRecursion}
use Rattle.hpack.specs.Choice.{block_of}
use Rattle.hpack.specs.declared.types.field.Field.{Field}
use Rattle.h2_frame.specs.Frames.{Data, Settings, Ping, WindowUpdate}
use Rattle.h2_block.specs.Grouping.{Item, alone, block}
use Rattle.h2_spec_log.specs.Acts.{SendFields, SendData, Release, PutOut}
use Rattle.h2_spec_log.specs.Acts.{Count, Done}
unfoldable use Rattle.h2_spec_log.specs.CallRules.{items_of}
unfoldable use Rattle.h2_spec_log.specs.Items.{data_of, data_on, increment_on, one_ping, total}
use Rattle.h2_spec_log.specs.Log.{Log, max_payload_sent}
use Rattle.h2_spec_log.specs.LogCalls.{MayAnswer, accepts, refuses, lacks, fails, with_call}
use Rattle.h2_spec_log.specs.LogView.{log_view}
use Rattle.h2_spec_log.specs.View.{ended_in}
unfoldable use Rattle.h2_spec_log.specs.Settings.{one_settings}
use Rattle.h2_spec_log.specs.Settings.{value_read}
use Rattle.h2_spec_log.proofs.SentPayloads.{most_between}
use Rattle.h2_laws_log.proofs.SettingsLists.{value_kept}
use Rattle.h2_laws_log.proofs.WindowsOfTwoEnds.{total-append}
use Rattle.h2_laws_pair.proofs.DataItems.{data_all}
use Rattle.h2_laws_end.specs.Written.{IsCredit, Writes}
use Rattle.h2_laws_end.proofs.DataWindows.{taken_of_all, taken_of_stream}
use Rattle.h2_laws_end.proofs.WrittenSteps.{call_writes}
use Rattle.h2_ends.proofs.PumpWindows.{data_accepted, data_within}
use Rattle.h2_laws_quiet.specs.Work.{one_to_answer}
unfoldable use Rattle.h2_laws_quiet.proofs.WorkOfItems.{IsAnswerItem}

-- WINDOW_UPDATE counts nothing, nor does an acknowledgment.
pub record CountsNoAnswer (f : Item → ℕ) : Type 0 where
  pub update : (i n : ℕ) → f (alone (WindowUpdate i n)) ≡ 0
  pub settings : (pairs : List (ℕ × ℕ)) → f (alone (Settings true pairs)) ≡ 0
  pub ping : (octets : List ℕ) → f (alone (Ping true octets)) ≡ 0

-- So it is of DATA, of one stream or of all, and of SETTINGS.
pub data_counts : CountsNoAnswer data_of
unfolding data_of
data_counts = record { update = λ i n. refl; settings = λ pairs. refl; ping = λ octets. refl }

pub stream_counts : (i : ℕ) → CountsNoAnswer (data_on i)
unfolding data_on
stream_counts i =
    record { update = λ j n. refl; settings = λ pairs. refl; ping = λ octets. refl }

pub settings_counts : CountsNoAnswer one_settings
unfolding one_settings
settings_counts =
    record { update = λ i n. refl; settings = λ pairs. refl; ping = λ octets. refl }

module _ (f : Item → ℕ) (counts : CountsNoAnswer f) where
  -- Answers count nothing.
  one_answer : (item : Item) → IsAnswerItem item → f item ≡ 0
  unfolding IsAnswerItem
  one_answer (alone (Settings true pairs)) is = counts.settings pairs
  one_answer (alone (Settings false pairs)) is = cc
  one_answer (alone (Ping true octets)) is = counts.ping octets
  one_answer (alone (Ping false octets)) is = cc
  one_answer (alone (WindowUpdate i n)) is = counts.update i n
  one_answer (block i end octets) is = absurd is
  one_answer (alone frame) is = absurd is

  pub answers_count : (items : List Item) → AllByRecursion IsAnswerItem items → total f items ≡ 0
  unfolding total
  answers_count [] all = refl
  answers_count (item ∷ items) all =
      omega (arith, one_answer item all.0, answers_count items all.1)

  -- Nor does credit.
  credit_counts : (items : List Item) → IsCredit items → total f items ≡ 0
  unfolding total
  credit_counts items (inl none) = rw none refl
  credit_counts items (inr (n, is)) = rw is (omega (arith, counts.update 0 n))

  -- So a call adds what its own items count.
  writes_count : (log after : Log) (items : List Item) → Writes log after items
      → total f after.sent ≡ total f items + total f log.sent
  writes_count log after items writes =
      let all = ap (total f) writes.sent in
      let first = total-append f writes.credit (items ++ log.sent) in
      let rest = total-append f items log.sent in
      omega (arith, all, first, rest, credit_counts writes.credit writes.is_credit)

  -- A release adds nothing,
  updates_count : (id n : ℕ) (ended : Bool)
      → total f (alone (WindowUpdate 0 n) ∷ (if ended then [] else alone (WindowUpdate id n) ∷ []))
      ≡ 0
  unfolding total
  updates_count id n true = omega (arith, counts.update 0 n)
  updates_count id n false = omega (arith, counts.update 0 n, counts.update id n)

  pub release_counts : (log : Log) (id n : ℕ) → MayAnswer log (Release id n) Done
      → total f (with_call log (Release id n) Done).sent ≡ total f log.sent
  unfolding items_of
  release_counts log id n may =
      let writes = call_writes log (Release id n) Done refl (λ other code wrong. cc)
      (λ code wrong. cc) in
      omega (
        arith,
        writes_count log (with_call log (Release id n) Done) _ writes,
        updates_count id n (ended_in ((log_view log).stream id)),
      )

  -- nor does output that is put out,
  pub put_out_counts : (log : Log) (most n : ℕ) → MayAnswer log (PutOut most) (Count n)
      → total f (with_call log (PutOut most) (Count n)).sent ≡ total f log.sent
  unfolding items_of total
  put_out_counts log most n (accepts none is) =
      omega (
        arith,
        writes_count log (with_call log (PutOut most) (Count n)) _
            (call_writes log (PutOut most) (Count n) is (λ other code wrong. cc)
            (λ code wrong. cc)),
      )
  put_out_counts log most n (refuses refusal holds is) = cc
  put_out_counts log most n (lacks none may is) = cc
  put_out_counts log most n (fails none may is) = cc

  -- nor trailers, where blocks count nothing.
  pub fields_count : ((id : ℕ) (end : Bool) (octets : List ℕ) → f (block id end octets) ≡ 0)
      → (log : Log) (id : ℕ) (list : List Field) (end : Bool)
      → MayAnswer log (SendFields id list end) Done
      → total f (with_call log (SendFields id list end) Done).sent ≡ total f log.sent
  unfolding items_of total
  fields_count none log id list end may =
      omega (
        arith,
        writes_count log (with_call log (SendFields id list end) Done) _
            (call_writes log (SendFields id list end) Done refl (λ other code wrong. cc)
            (λ code wrong. cc)),
        none id end (block_of log.encoder list),
      )

  -- Octets of a body add what their DATA counts.
  pub body_counts : (log : Log) (id : ℕ) (octets : List ℕ) (end : Bool) (n : ℕ)
      → MayAnswer log (SendData id octets end) (Count n)
      → total f (with_call log (SendData id octets end) (Count n)).sent
      ≡ total f (items_of (log_view log) (SendData id octets end) (Count n)) + total f log.sent
  body_counts log id octets end n may =
      writes_count log (with_call log (SendData id octets end) (Count n)) _
      (call_writes log (SendData id octets end) (Count n)
      (ap Count (data_accepted log id octets end n may).1) (λ other code wrong. cc)
      (λ code wrong. cc))

-- So many octets of all DATA,
pub sent_of_all : (log : Log) (id : ℕ) (octets : List ℕ) (end : Bool) (n : ℕ)
    → MayAnswer log (SendData id octets end) (Count n)
    → total data_of (with_call log (SendData id octets end) (Count n)).sent
    ≡ n + total data_of log.sent
unfolding items_of
sent_of_all log id octets end n may =
    let least = (most_between log.received).0 in
    omega (
      arith,
      body_counts data_of data_counts log id octets end n may,
      taken_of_all (max_payload_sent log) id octets end n (omega (arith, least))
          (data_within log id octets end n may),
    )

-- and as many on their stream.
pub sent_of_stream : (i : ℕ) (log : Log) (id : ℕ) (octets : List ℕ) (end : Bool) (n : ℕ)
    → MayAnswer log (SendData id octets end) (Count n)
    → total (data_on i) (with_call log (SendData id octets end) (Count n)).sent
    ≡ (if id == i then n else 0) + total (data_on i) log.sent
unfolding items_of
sent_of_stream i log id octets end n may =
    let least = (most_between log.received).0 in
    omega (
      arith,
      body_counts (data_on i) (stream_counts i) log id octets end n may,
      taken_of_stream i (max_payload_sent log) id octets end n (omega (arith, least))
          (data_within log id octets end n may),
    )

-- Items without SETTINGS, but for acknowledgments, leave the values.
pub value_stays : (id first : ℕ) (more items : List Item) → total one_settings more ≡ 0
    → value_read id first (more ++ items) ≡ value_read id first items
unfolding total
value_stays id first [] items none = refl
value_stays id first (item ∷ more) items none =
    value_kept id first item (more ++ items) (omega (arith, none))
    ∙ value_stays id first more items (omega (arith, none))

-- On a stream answers return nothing.
one_returns : (i : ℕ) (item : Item) → i ≢ 0 → IsAnswerItem item → increment_on i item ≡ 0
unfolding IsAnswerItem increment_on
one_returns i (alone (Settings ack pairs)) some is = refl
one_returns i (alone (Ping ack octets)) some is = refl
one_returns i (alone (WindowUpdate stream n)) some is =
    rw (is, ne_eqb 0 i (λ same. some (sym same))) refl
one_returns i (block stream end octets) some is = absurd is
one_returns i (alone frame) some is = absurd is

pub answers_return : (i : ℕ) (items : List Item) → i ≢ 0 → AllByRecursion IsAnswerItem items
    → total (increment_on i) items ≡ 0
unfolding total
answers_return i [] some all = refl
answers_return i (item ∷ items) some all =
    omega (arith, one_returns i item some all.0, answers_return i items some all.1)

-- Where each item counts nothing, all do.
none_counts : (f : Item → ℕ) (items : List Item) → AllByRecursion (λ item. f item ≡ 0) items
    → total f items ≡ 0
unfolding total
none_counts f [] all = refl
none_counts f (item ∷ items) all = omega (arith, all.0, none_counts f items all.1)

-- DATA adds nothing to a sum in which it counts nothing.
pub body_counts_none : (f : Item → ℕ) → CountsNoAnswer f
    → ((id : ℕ) (end : Bool) (octets : List ℕ) → f (alone (Data id end octets None)) ≡ 0)
    → (log : Log) (id : ℕ) (octets : List ℕ) (end : Bool) (n : ℕ)
    → MayAnswer log (SendData id octets end) (Count n)
    → total f (with_call log (SendData id octets end) (Count n)).sent ≡ total f log.sent
unfolding items_of
body_counts_none f counts none log id octets end n may =
    omega (
      arith,
      body_counts f counts log id octets end n may,
      none_counts f _ (data_all (λ item. f item ≡ 0) id (λ last some. none id last some)
          (max_payload_sent log) octets end n),
    )

-- SETTINGS, and what is to be answered, are none of these.
pub asks_count : CountsNoAnswer one_to_answer
unfolding one_settings one_ping
asks_count = record { update = λ i n. refl; settings = λ pairs. refl; ping = λ octets. refl }

-- A sum in which neither DATA nor field blocks count.
pub record CountsNoPart (f : Item → ℕ) : Type 0 where
  pub data_none : (id : ℕ) (end : Bool) (octets : List ℕ) → f (alone (Data id end octets None)) ≡ 0
  pub block_none : (id : ℕ) (end : Bool) (octets : List ℕ) → f (block id end octets) ≡ 0

pub settings_no_part : CountsNoPart one_settings
unfolding one_settings
settings_no_part =
    record { data_none = λ id end octets. refl; block_none = λ id end octets. refl }

pub asks_no_part : CountsNoPart one_to_answer
unfolding one_settings one_ping
asks_no_part = record { data_none = λ id end octets. refl; block_none = λ id end octets. refl }

-- Trailers send none, on any stream.
pub fields_send_none : (i : ℕ) (log : Log) (id : ℕ) (list : List Field) (end : Bool)
    → MayAnswer log (SendFields id list end) Done
    → (total data_of (with_call log (SendFields id list end) Done).sent ≡ total data_of log.sent)
    × (total (data_on i) (with_call log (SendFields id list end) Done).sent
    ≡ total (data_on i) log.sent)
unfolding data_of data_on
fields_send_none i log id list end may = (
  fields_count data_of data_counts (λ one ends octets. refl) log id list end may,
  fields_count (data_on i) (stream_counts i) (λ one ends octets. refl) log id list end may,
)
