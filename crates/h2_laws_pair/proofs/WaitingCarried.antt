-- What an end has received lies in what the other has given out.
use Rattle.std.proofs.Common.{length-take}
use Rattle.h2_block.specs.Spread.{spread_frames, continuations}
use Rattle.h2_laws_log.specs.Payloads.{encoding_by}
use Rattle.h2_laws_log.proofs.ItemSizes.{size_by}
use Rattle.h2_laws_log.proofs.OutputRead.{items_read_by, items_grouped_by}
use Rattle.h2_laws_log.proofs.PayloadOrigins.{payloads_counted}
use Rattle.h2_laws_end.proofs.Grouped.{items_grouped as log_grouped}
use Rattle.h2_laws_end.proofs.ReadPrefixes.{prefix_read}
use Rattle.h2_laws_pair.proofs.Names
use Names.{◌≡◌, ◌⊎◌, inl, inr, ℕ, ◌+◌, ◌≤◌, not, Bool, List, [], ◌∷◌, ◌++◌, length, take, drop}
use Names.{None, refl, sym, ap, ◌∙◌, arith, append_assoc, append-nil, length-append, Option, true}
use Names.{false, if◌then◌else◌, take-append-drop, AllByRecursion, Frame, Headers, Limits, Frames}
use Names.{expected_preface, one_reading_lem, Item, Groups, Begun, alone, block, Role, is_server}
use Names.{max_frame_size_sent, Log, stream_of_log, AreSendable, frames_of_item, frames_by}
use Names.{oldest_first, written_by_payloads, groups_now, overlap, IsPayload, payloads_may}
use Names.{written_sendable_by, Half, AreUnderWay}
use Rattle.h2_laws_pair.proofs.Lists.{all_older}
use Rattle.h2_laws_pair.proofs.BothWays.{AreEnds}
use Rattle.h2_laws_pair.proofs.ItemsRead.{frames_received}
use Rattle.h2_laws_pair.proofs.WiderLimits.{wider_limits}
use Rattle.h2_laws_pair.proofs.WaitingGroups.{no_more_frames, none_joined}

-- A block has frames, by the test whether one is enough.
spread_some : (most stream : ℕ) (end : Bool) (octets : List ℕ) (test : Bool)
    → (if test then Headers stream end true octets None None ∷ []
    else Headers stream end false (take most octets) None None
    ∷ continuations most (length octets) stream (drop most octets)) ≡ [] → ⊥
spread_some most stream end octets true none = cc
spread_some most stream end octets false none = cc

-- Each item has frames.
some_frames : (most : ℕ) (item : Item) → frames_of_item most item ≡ [] → ⊥
unfolding spread_frames
some_frames most (alone frame) none = cc
some_frames most (block stream end octets) none = spread_some _ _ _ _ _ none

-- Items without frames are none.
no_items : (payloads : List ℕ) (items : List Item) → AreSendable payloads items
    → frames_by payloads items ≡ [] → items ≡ []
no_items payloads [] sendable none = refl
no_items [] (item ∷ items) sendable none = absurd sendable
no_items (most ∷ payloads) (item ∷ items) sendable none =
    absurd (some_frames most item (none_joined _ _ (sym none)).1)

-- Octets that are followed by some are not none.
not_nothing : (left between : List ℕ) (next : ℕ) → [] ≡ left ++ next ∷ between → ⊥
not_nothing [] between next is = cc
not_nothing (octet ∷ left) between next is = cc

-- The items lie in so many octets, with what stands before them, or there are none.
abbrev pub LieIn : (before count : ℕ) → List ℕ → List Item → Type 0
LieIn before count payloads items = (items ≡ []) ⊎ (before + size_by payloads items ≤ count)

-- So do the items that were received, whose payloads follow those of the items under way.
pub record ReceivedLie (before count : ℕ) (payloads : List ℕ) (way received : List Item) : Type 0
  where
    pub news : List ℕ
    pub olds : List ℕ
    pub paid : payloads ≡ news ++ olds
    pub each_one : length news ≡ length way
    pub within : LieIn before count olds received

-- The older of items that can be sent can be sent too.
older_sendable : (news olds : List ℕ) (newer older : List Item) → length news ≡ length newer
    → AreSendable (news ++ olds) (newer ++ older) → AreSendable olds older
older_sendable [] olds [] older each_one sendable = sendable
older_sendable (most ∷ news) olds (item ∷ newer) older each_one sendable =
    older_sendable news olds newer older (omega (arith, each_one)) sendable.1
older_sendable news olds newer older each_one sendable = absurd (omega (arith, each_one))

-- The octets of items after others, each with its own greatest payload.
encoding_after : (news olds : List ℕ) (newer older : List Item) → length news ≡ length newer
    → encoding_by (news ++ olds) (newer ++ older)
    ≡ encoding_by olds older ++ encoding_by news newer
encoding_after [] olds [] older each_one = sym (append-nil (encoding_by olds older))
encoding_after (most ∷ news) olds (item ∷ newer) older each_one =
    rw (encoding_after news olds newer older (omega arith), append_assoc) refl
encoding_after news olds newer older each_one = absurd (omega (arith, each_one))

-- Octets that end before items are complete don't group to all of them.
cut_short : (expects : Bool) (limits : Limits) (payloads : List ℕ) (items : List Item)
    (octets between unparsed : List ℕ) (next : ℕ) (frames : List Frame) (begun : Option Begun)
    → ((place : ℕ) → max_frame_size_sent ≤ limits place)
    → AllByRecursion IsPayload payloads → AreSendable payloads items
    → expected_preface expects ++ encoding_by payloads items ≡ octets ++ next ∷ between
    → Frames expects limits octets frames unparsed
    → Groups frames (oldest_first items) begun → items ≡ []
cut_short expects limits payloads items octets between unparsed next frames begun high most sendable
    line read groups =
    let whole = items_read_by expects limits max_frame_size_sent payloads items (omega arith) high
    most sendable in
    let prefix = prefix_read expects limits (frames_by payloads items) [] octets (next ∷ between)
    (rw line at whole) in
    let one = one_reading_lem expects limits octets frames prefix.first unparsed prefix.left read
    prefix.read in
    let all : Groups (frames ++ prefix.later) (oldest_first items) None =
    rw one.0 (rw prefix.frames_are at (items_grouped_by max_frame_size_sent _ _ most sendable)) in
    let none = no_more_frames frames prefix.later (oldest_first items) begun groups all in
    elim (prefix.continues none) [
      | inl nothing ↦ no_items payloads items sendable (rw (prefix.frames_are, nothing) none)
      | inr wrong ↦ absurd (not_nothing prefix.left between next wrong)
    ]

-- What a log has written of items of which the older were received.
written_parts : (role : Role) (log : Log) (news olds : List ℕ) (way received : List Item)
    → log.role ≡ role → log.payloads ≡ news ++ olds → length news ≡ length way
    → log.sent ≡ way ++ received → log.written
    ≡ expected_preface (not (is_server log.role)) ++ encoding_by log.payloads log.sent
    → log.written
    ≡ (expected_preface (not (is_server role)) ++ encoding_by olds received)
    ++ encoding_by news way
written_parts role log news olds way received same paid each_one sent written =
    rw (append_assoc, ← encoding_after _ _ _ received each_one) (rw (same, paid, sent) at written)

-- The items that an end that is up has received lie in the octets that it has used.
pub received_lie : (writer reader : Half) (rest : List ℕ) (way : List Item)
    → (ends : AreEnds writer reader) → AreUnderWay writer.log reader.log way
    → writer.log.written ≡ reader.log.input ++ rest → reader.log.failed ≡ None
    → ReceivedLie (length (expected_preface (not (is_server ends.writer_role))))
    (length reader.log.input) writer.log.payloads way reader.log.received
received_lie writer reader rest way ends under_way joined up =
    let role = ends.writer_role in
    let received = reader.log.received in
    let news = take (length way) writer.log.payloads in
    let olds = drop (length way) writer.log.payloads in
    let paid = sym (take-append-drop (length way) writer.log.payloads) in
    let all = rw under_way at (written_sendable_by _ _ writer.log ends.writer_log) in
    let by = written_by_payloads _ _ writer.log ends.writer_log in
    let many = payloads_counted writer.log.received writer.log.sent writer.log.payloads by.history
    ∙ ap length under_way in
    let each_one : length news ≡ length way = omega
    (arith, length-append way received, length-take (length way) writer.log.payloads) in
    let sendable = older_sendable news olds way received each_one (rw paid at all) in
    let most = all_older IsPayload news olds
    (rw paid at (payloads_may _ _ writer.log ends.writer_log)) in
    let octets = encoding_by olds received in
    let framed = frames_received _ _ reader.log (not (is_server role)) ends.opposite ends.reader_log
    up in
    let grouped = groups_now reader.log (log_grouped _ _ reader.log ends.reader_log) up in
    let parts = written_parts role writer.log news olds way received
    (stream_of_log _ _ writer.log ends.writer_log).role paid each_one under_way by.written in
    record {
      news = news;
      olds = olds;
      paid = paid;
      each_one = each_one;
      within = elim (overlap reader.log.input rest
          (expected_preface (not (is_server role)) ++ octets)
          (encoding_by news way) (sym joined ∙ parts)) [
            | inl (between, is, follows) ↦ inr (rw is (omega (arith, length-append {A = ℕ})))
            | inr (next, between, is, follows) ↦ inl (cut_short _ (wider_limits reader.log) _ _
                _ between _ next _ _ (λ place. omega arith) most sendable is framed grouped)
          ];
    }
