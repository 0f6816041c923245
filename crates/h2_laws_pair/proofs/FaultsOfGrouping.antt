-- The frames that an end of a pair reads group: a frame that it completes is the next of the items
-- that the other has written.
use Rattle.h2_frame.specs.declared.code.Code.TheVariants.{ProtocolError}
use Rattle.h2_block.specs.declared.fault.BlockFault.{BlockFault}
use Rattle.h2_block.specs.declared.fault.BlockFault.TheVariants.{Interrupted, Stray}
use Rattle.h2_block.proofs.GroupLemmas.{step_items, step_begun, none_some, Groups-step}
use Rattle.h2_block.proofs.RunLemmas.{no_grouping_lem}
use Rattle.h2_spec_log.specs.ItemRules.{grouping_step, grouped, may_be_first}
use Rattle.h2_laws_pair.proofs.Names
use Names.{◌≡◌, ℕ, ◌==◌, not, ◌&&◌, Bool, true, false, if◌then◌else◌, List, [], ◌∷◌, ◌++◌, length}
use Names.{Option, Some, None, refl, sym, ap, ◌∙◌, arith, both_ways, ne_eqb, Frame, Headers}
use Names.{Settings, Continuation, Item, alone, block, Begun, Groups, next_fault, fault_outside}
use Names.{fault_inside, one_grouping_lem, Role, Values, AllowedHistory, starts, reads, writes}
use Names.{opening_pairs, Log, log_view, FrameStep, fails_with, begins_block, completes, frame_step}
use Names.{IsLog, AreSendable, frames_of_item, frames_by, oldest_first, written_is_allowed}
use Names.{items_grouped, groups_now, prefix_grouped, output_grouped, written_sendable_by}
use Rattle.h2_laws_pair.proofs.ItemsRead.{newest_before}
use Rattle.h2_laws_pair.proofs.FaultsOfWire.{NextFrame}

-- The first frame that an end writes is SETTINGS that are no acknowledgment.
pub record BeginsWithSettings (frames : List Frame) : Type 0 where
  pub pairs : List (ℕ × ℕ)
  pub others : List Frame
  pub first : frames ≡ Settings false pairs ∷ others

-- The frames of one item more stand at the end.
settings_still : (most : ℕ) (payloads : List ℕ) (item : Item) (sent : List Item)
    → BeginsWithSettings (frames_by payloads sent)
    → BeginsWithSettings (frames_by (most ∷ payloads) (item ∷ sent))
settings_still most payloads item sent before = record {
  pairs = before.pairs;
  others = before.others ++ frames_of_item most item;
  first = ap (λ (frames : List Frame). frames ++ frames_of_item most item) before.first;
}

-- Whatever the greatest payloads are with which the items can be sent.
settings_first : (role : Role) (received sent : List Item) (payloads : List ℕ)
    → AllowedHistory role received sent → AreSendable payloads sent
    → BeginsWithSettings (frames_by payloads sent)
settings_first role received sent (most ∷ []) (starts values ok) sendable =
    record { pairs = opening_pairs role values; others = []; first = refl }
settings_first role received sent (most ∷ other ∷ payloads) (starts values ok) sendable =
    absurd sendable.1
settings_first role received sent [] (starts values ok) sendable = absurd sendable
settings_first role _ sent payloads (reads {received = received} item before) sendable =
    settings_first role received sent payloads before sendable
settings_first role received _ [] (writes {sent = sent} item before allowed) sendable =
    absurd sendable
settings_first role received _ (most ∷ payloads) (writes {sent = sent} item before allowed)
    sendable = settings_still most payloads item sent (settings_first _ _ _ _ before sendable.1)

-- SETTINGS may come first.
first_may : (frame : Frame) (pairs : List (ℕ × ℕ)) → frame ≡ Settings false pairs
    → may_be_first frame ≡ true
unfolding may_be_first
first_may frame pairs is = rw is refl

-- A frame that comes first may do so.
order_kept : (frames : List Frame) (frame : Frame) (later all : List Frame)
    → BeginsWithSettings all → all ≡ (frames ++ frame ∷ []) ++ later
    → (not (not (length frames == 0)) && not (may_be_first frame)) ≡ false
order_kept [] frame later all first line =
    let both : Settings false first.pairs ∷ first.others ≡ frame ∷ later = sym first.first ∙ line in
    let same : frame ≡ Settings false first.pairs = cc in
    rw (first_may frame first.pairs same) refl
order_kept (one ∷ frames) frame later all first line =
    rw (ne_eqb (length (one ∷ frames)) 0 (λ none. omega (arith, none))) refl

-- The item that a frame completes is the next of those that were written.
abbrev pub IsNextStep : (writer reader : Log) → FrameStep → Type 0
IsNextStep writer reader (fails_with code) = ⊥
IsNextStep writer reader (begins_block begun) = Unit {0}
IsNextStep writer reader (completes item) = (newer : List Item)
    × (writer.sent ≡ newer ++ item ∷ reader.received)

-- The item that stands after those that were read.
next_item : (writer reader : Log) (item : Item) (later : List Item)
    → oldest_first writer.sent ≡ (oldest_first reader.received ++ item ∷ []) ++ later
    → IsNextStep writer reader (completes item)
next_item writer reader item later line = (oldest_first later, newest_before _ _ later line)

-- What a frame without fault makes.
step_next : (writer reader : Log) (begun : Option Begun) (frame : Frame) (later : List Item)
    → next_fault begun frame ≡ None
    → oldest_first writer.sent ≡ (oldest_first reader.received ++ step_items begun frame) ++ later
    → IsNextStep writer reader (grouped begun frame)
unfolding grouped fault_outside fault_inside
step_next writer reader None (Headers stream end true fragment pad priority) later sound line =
    next_item writer reader (block stream end fragment) later line
step_next writer reader None (Headers stream end false fragment pad priority) later sound line = tt
step_next writer reader None (Continuation stream whole fragment) later sound line =
    none_some Stray (sym sound)
step_next writer reader None frame later sound line =
    next_item writer reader (alone frame) later line
step_next writer reader (Some begun) (Continuation stream true fragment) later sound line =
    next_item writer reader (block begun.stream begun.end (begun.octets ++ fragment)) later line
step_next writer reader (Some begun) (Continuation stream false fragment) later sound line = tt
step_next writer reader (Some begun) frame later sound line = none_some Interrupted (sym sound)

-- By the fault of the frame: there is none, since the frames of the items group.
fault_next : (writer reader : Log) (frame : Frame) (later : List Frame)
    (fault : Option BlockFault) → next_fault reader.begun frame ≡ fault
    → Groups reader.frames (oldest_first reader.received) reader.begun
    → Groups ((reader.frames ++ frame ∷ []) ++ later) (oldest_first writer.sent) None
    → IsNextStep writer reader (grouping_step reader.begun frame fault)
unfolding grouping_step
fault_next writer reader frame later (Some fault) is before all =
    absurd (no_grouping_lem _ _ _ _ fault None (record {
      preceding = reader.frames;
      last = frame;
      begun = reader.begun;
      joined = refl;
      grouped = before;
      faulty = is;
    }) all)
fault_next writer reader frame later None is before all =
    let prefix = prefix_grouped _ _ (oldest_first writer.sent) None all in
    let now = Groups-step reader.frames (oldest_first reader.received) reader.begun frame before is
    in
    let one = one_grouping_lem (reader.frames ++ frame ∷ []) prefix.first
    (oldest_first reader.received ++ step_items reader.begun frame) prefix.begun
    (step_begun reader.begun frame) prefix.groups now in
    step_next writer reader reader.begun frame prefix.later is
    (prefix.items_are ∙ ap (λ (items : List Item). items ++ prefix.later) one.0)

-- By the test whether it may come.
test_next : (writer reader : Log) (step : FrameStep) (test : Bool) → test ≡ false
    → IsNextStep writer reader step
    → IsNextStep writer reader (if test then fails_with ProtocolError else step)
test_next writer reader step true may next = absurd (both_ways true may refl)
test_next writer reader step false may next = next

-- A frame of an end of a pair.
pub step_is_next : (role other : Role) (values others : Values) (writer reader : Log)
    (frame : Frame) → IsLog role values writer → IsLog other others reader
    → reader.failed ≡ None → NextFrame writer reader frame
    → IsNextStep writer reader (frame_step (log_view reader) frame)
unfolding frame_step
step_is_next role other values others writer reader frame wrote came up next =
    let all = output_grouped role values writer wrote in
    test_next writer reader _ _ (order_kept reader.frames frame next.later _ (settings_first _ _ _ _
    (written_is_allowed role values writer wrote) (written_sendable_by role values writer wrote))
    next.frames) (fault_next writer reader frame next.later (next_fault reader.begun frame) refl
    (groups_now reader (items_grouped other others reader came) up) (rw next.frames at all))
