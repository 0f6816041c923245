-- What an end may read is no less than what its peer sends: the limit of an end covers each frame
-- of the peer's that it has not read yet.
use Rattle.h2_laws_log.proofs.SettingsLists.{settings_or, value_kept, value_changed, own_next}
use Rattle.h2_laws_log.proofs.SettingsLists.{own_of_all, own_older, count_next, count_none}
use Rattle.h2_laws_log.proofs.SettingsLists.{opening_frame, changed_frame}
use Rattle.std.proofs.lemmas.Bool.{cases_eq}
use Rattle.h2_frame.specs.Encoding.{payload_of}
use Rattle.h2_block.proofs.SpreadLemmas.{spread_writable}
use Rattle.h2_spec_log.specs.Settings.{greatest_from}
use Rattle.h2_laws_log.proofs.OutputRead.{IsShort, items_grouped_by}
use Rattle.h2_laws_log.proofs.PayloadOrigins.{PayloadOrigin, payload_origin}
use Rattle.h2_laws_pair.proofs.Names
use Names.{◌≡◌, inl, inr, ℕ, zero, suc, ◌+◌, ◌-◌, ◌≤◌, ◌<◌, ◌^◌, List, [], ◌∷◌, ◌++◌, length}
use Names.{Option, None, refl, sym, ap, ◌∙◌, subst, arith, append_assoc, length-append}
use Names.{AllByRecursion, cases_lt, Frame, Item, alone, block, Begun, Groups, one_grouping_lem}
use Names.{Role, AllowedHistory, Allowed, starts, reads, writes, total, max_frame_size_sent, acked}
use Names.{max_payload_sent_by, value_read, one_ack, settings_count, own_value, payload_limit}
use Names.{IsSendable, AreSendable, frames_of_item, frames_by, oldest_first, written_is_allowed}
use Names.{settings_append, written_by_payloads, total-append, items_grouped, groups_now}
use Names.{prefix_grouped, overlap, written_sendable_by, payloads_may, IsPayload, Half}
use Rattle.h2_laws_pair.proofs.BothWays.{IsDirection, ends_of, back_of}
use Rattle.h2_laws_pair.proofs.CarriedItems.{way_of}
use Rattle.h2_laws_pair.proofs.ItemsRead.{newest_before}
use Rattle.h2_laws_pair.proofs.Lists.{all_older}
use Rattle.h2_laws_pair.proofs.TablesOfPairs.{in_step}
use Rattle.h2_laws_pair.proofs.WaitingGroups.{no_more_frames}

-- The greatest of the values of numbers is no less than each of them.
greatest_above : (value : ℕ → ℕ) (first more number : ℕ) → first ≤ number
    → number ≤ first + more → value number ≤ greatest_from value first more
unfolding greatest_from
greatest_above value first zero number above within =
    let same : number ≡ first = omega arith in rw same (omega arith)
greatest_above value first (suc more) number above within = elim (cases_eq number first) [
  | inl same ↦ rw same (omega arith)
  | inr other ↦
      let above = greatest_above value (suc first) more number (omega arith) (omega arith) in
      omega arith
]

-- The value of so many own SETTINGS as older items have is the one that these wrote last.
value_of_older : (id first count : ℕ) (newer older : List Item) → count ≡ settings_count older
    → own_value id first count (newer ++ older) ≡ value_read id first older
value_of_older id first count newer older all =
    own_older _ _ _ _ _ (omega (arith, all)) ∙ own_of_all id first count older (omega (arith, all))

-- What the peer has read of an end's frame sizes is within the end's limit, where no more of its
-- SETTINGS were acknowledged than the peer has read.
pub limit_covers : (count : ℕ) (newer read : List Item) → count ≤ settings_count read
    → value_read 5 16384 read ≤ payload_limit count (newer ++ read)
unfolding payload_limit
limit_covers count newer read within =
    let all = settings_count read in
    let counted = settings_append newer read in
    let above = greatest_above (λ number. own_value 5 16384 number (newer ++ read)) count
    (settings_count (newer ++ read) - count) all within (omega arith) in
    omega (arith, value_of_older 5 16384 all newer read refl)

-- The frame size that was written last is 16,384 at least, and so is each one that is in force.
abbrev AreEnough : List Item → Type 0
AreEnough sent = (16384 ≤ value_read 5 16384 sent)
    × ((count : ℕ) → 16384 ≤ own_value 5 16384 count sent)

-- With one item more.
enough_more : (item : Item) (sent : List Item) → 16384 ≤ value_read 5 16384 (item ∷ sent)
    → AreEnough sent → AreEnough (item ∷ sent)
enough_more item sent now before = (
  now,
  λ count. elim (cases_lt count (settings_count (item ∷ sent))) [
    | inl fewer ↦
        rw (own_next 5 16384 count item sent (λ one. omega (arith, fewer, count_next item sent)))
        (before.1 count)
    | inr all ↦ rw (own_of_all 5 16384 count (item ∷ sent) all) now
  ],
)

-- With none.
enough_none : AreEnough []
unfolding value_read
enough_none = (
  omega arith,
  λ count. rw (own_of_all 5 16384 count [] (omega (arith, count_none))) (omega arith),
)

-- What may be written keeps it.
write_enough : (role : Role) (received sent : List Item) (item : Item)
    → Allowed role received sent item → 16384 ≤ value_read 5 16384 sent
    → 16384 ≤ value_read 5 16384 (item ∷ sent)
write_enough role received sent item allowed before = elim (settings_or item) [
  | inl (pairs, is) ↦
      let may = (rw is at allowed).1 in
      rw (
        is,
        value_changed 5 16384 pairs sent,
        may.changed,
        changed_frame role (value_read 5 16384 sent) may.values,
      ) may.in_range.least_frame
  | inr none ↦ rw (value_kept 5 16384 item sent none) before
]

-- So it is with all that was written.
all_enough : (role : Role) (received sent : List Item) → AllowedHistory role received sent
    → AreEnough sent
unfolding value_read
all_enough role _ _ (starts values ok) =
    enough_more _ [] (rw (opening_frame role values) ok.least_frame) enough_none
all_enough role _ sent (reads {received = received} item before) = all_enough _ _ sent before
all_enough role received _ (writes {sent = sent} item before allowed) =
    let enough = all_enough role received sent before in
    enough_more item sent (write_enough role received sent item allowed enough.0) enough

-- The limit is 16,384 octets at least, however many SETTINGS were acknowledged.
pub limit_least : (role : Role) (received sent : List Item) (count : ℕ)
    → AllowedHistory role received sent → 16384 ≤ payload_limit count sent
unfolding payload_limit
limit_least role received sent count history =
    let above = greatest_above (λ number. own_value 5 16384 number sent) count
    (settings_count sent - count) count (omega arith) (omega arith) in
    omega (arith, (all_enough role received sent history).1 count)

-- So the greatest payload of an item of the peer is within it, where no more SETTINGS were
-- acknowledged than before the item.
payload_within : (role : Role) (received sent back given before : List Item)
    (count payload : ℕ) → AllowedHistory role received sent → sent ≡ back ++ given
    → PayloadOrigin given before payload → count ≤ total one_ack before
    → payload ≤ payload_limit count sent
unfolding max_payload_sent_by
payload_within role received sent back given before count payload history joined origin within =
    let line : sent ≡ (back ++ origin.unread) ++ origin.read =
    rw (joined, origin.front, append_assoc) refl in
    let acknowledged = origin.acknowledged in
    let covers = limit_covers count (back ++ origin.unread) origin.read
    (omega (arith, within, acknowledged)) in
    let least = limit_least role received sent count history in
    let is = origin.in_force in
    rw line (omega (arith, is, covers, rw line at least))

-- A frame of an item that can be sent is no longer than the greatest payload.
frame_short : (most : ℕ) (item : Item) (between later : List Frame) (frame : Frame)
    → most < 2 ^ 24 → IsSendable most item
    → frames_of_item most item ≡ between ++ frame ∷ later → length (payload_of frame) ≤ most
frame_short most (alone one) between later frame bounded sendable are =
    (all_older (λ frame. length (payload_of frame) ≤ most) between (frame ∷ later)
    (rw (← are) (sendable.3, tt))).0
frame_short most (block stream end octets) between later frame bounded sendable are =
    (all_older (IsShort most) between (frame ∷ later)
    (rw (← are) (spread_writable most stream end octets bounded sendable.0 sendable.1))).0.2

-- The item to which a frame belongs that stands after other frames of items, with its greatest
-- payload and with those before it.
record IsOfItem (payloads : List ℕ) (sent : List Item) (frames : List Frame)
    (frame : Frame) : Type 0 where
  pub after : List Item
  pub item : Item
  pub before : List Item
  pub newer : List ℕ
  pub payload : ℕ
  pub older : List ℕ
  pub later : List Frame
  pub sent_are : sent ≡ after ++ item ∷ before
  pub payloads_are : payloads ≡ newer ++ payload ∷ older
  pub counted : length newer ≡ length after
  pub between : AllByRecursion IsPayload (payload ∷ older)
  pub sendable : AreSendable (payload ∷ older) (item ∷ before)
  pub frames_are : frames_by (payload ∷ older) (item ∷ before) ≡ frames ++ frame ∷ later
  pub short : length (payload_of frame) ≤ payload

-- Each frame of items that can be sent belongs to one; others may stand after these items.
item_of : (newer payloads : List ℕ) (after sent : List Item) (frames : List Frame) (frame : Frame)
    (later : List Frame) → length newer ≡ length after → AllByRecursion IsPayload payloads
    → AreSendable payloads sent → frames_by payloads sent ≡ frames ++ frame ∷ later
    → IsOfItem (newer ++ payloads) (after ++ sent) frames frame
item_of newer [] after [] frames frame later counted between sendable line =
    let none = simp length-append at (ap length line) in absurd (omega (arith, none))
item_of newer [] after (item ∷ sent) frames frame later counted between sendable line =
    absurd sendable
item_of newer (most ∷ payloads) after [] frames frame later counted between sendable line =
    absurd sendable
item_of newer (most ∷ payloads) after (item ∷ sent) frames frame later counted between sendable
    line =
    elim (overlap frames (frame ∷ later) (frames_by payloads sent) (frames_of_item most item)
    (sym line)) [
      | inl (parted, is, follows) ↦ record {
        after = after;
        item = item;
        before = sent;
        newer = newer;
        payload = most;
        older = payloads;
        later = later;
        sent_are = refl;
        payloads_are = refl;
        counted = counted;
        between = between;
        sendable = sendable;
        frames_are = line;
        short = frame_short _ _ parted _ frame (omega (arith, between.0.1)) sendable.0 follows;
      }
      | inr (next, parted, is, follows) ↦
          let same : next ≡ frame = cc in
          let more = length-append newer (most ∷ []) in
          rw (← append_assoc newer (most ∷ []) payloads, ← append_assoc after (item ∷ []) sent)
          (item_of (newer ++ most ∷ []) payloads (after ++ item ∷ []) sent frames frame parted
          (omega (arith, length-append after (item ∷ []))) between.1 sendable.1 (rw same at is))
    ]

-- Acknowledgments are all before an item, by what is left between them and it.
acks_by : (item : Item) (before received left : List Item) → (item ∷ before ≡ received → ⊥)
    → item ∷ before ≡ left ++ received → total one_ack received ≤ total one_ack before
acks_by item before received [] other line = absurd (other line)
acks_by item before received (first ∷ left) other line =
    let same : before ≡ left ++ received = cc in
    rw same (omega (arith, total-append one_ack left received))

-- Acknowledgments among the items to which frames group are all before the item to which the next
-- frame belongs.
acks_before : (frames later : List Frame) (frame : Frame) (item : Item)
    (before received : List Item) (begun : Option Begun)
    → Groups frames (oldest_first received) begun
    → Groups (frames ++ frame ∷ later) (oldest_first (item ∷ before)) None
    → total one_ack received ≤ total one_ack before
acks_before frames later frame item before received begun groups all =
    let prefix = prefix_grouped _ _ _ None all in
    let one = one_grouping_lem _ prefix.first _ prefix.begun _ prefix.groups groups in
    acks_by _ _ _ (oldest_first prefix.later) (λ same.
    let none : frame ∷ later ≡ [] = no_more_frames _ _ _ _ groups
    (subst (λ (items : List Item). Groups (frames ++ frame ∷ later) (oldest_first items) None) same
    all) in
    cc) (newest_before _ _ prefix.later
    (prefix.items_are ∙ ap (λ (items : List Item). items ++ prefix.later) one.0))

-- The next frame of the other end, after those that an end has read, is within the end's limit.
pub next_within : (writer reader : Half) → IsDirection writer reader → reader.log.failed ≡ None
    → (frame : Frame) (later : List Frame)
    → frames_by writer.log.payloads writer.log.sent ≡ reader.log.frames ++ frame ∷ later
    → length (payload_of frame) ≤ payload_limit (acked reader.log) reader.log.sent
next_within writer reader is up frame later line =
    let ends = ends_of writer reader is in
    let back = way_of reader writer (back_of writer reader is) in
    let of = item_of [] writer.log.payloads [] writer.log.sent reader.log.frames frame later refl
    (payloads_may _ _ writer.log ends.writer_log)
    (written_sendable_by _ _ writer.log ends.writer_log) line in
    let acks = acks_before reader.log.frames of.later frame of.item of.before reader.log.received
    reader.log.begun (groups_now reader.log (items_grouped _ _ reader.log ends.reader_log) up)
    (rw of.frames_are at (items_grouped_by max_frame_size_sent (of.payload ∷ of.older)
    (of.item ∷ of.before) of.between of.sendable)) in
    let awaited = (in_step writer reader is).awaited in
    let within = payload_within ends.reader_role reader.log.received reader.log.sent back.0
    writer.log.received of.before (acked reader.log) of.payload
    (written_is_allowed _ _ reader.log ends.reader_log) back.1
    (payload_origin _ _ of.after of.before of.item writer.log.payloads of.newer of.older of.payload
    (written_by_payloads _ _ writer.log ends.writer_log).history of.sent_are of.payloads_are
    of.counted) (omega (arith, acks, awaited)) in
    omega (arith, within, of.short)
