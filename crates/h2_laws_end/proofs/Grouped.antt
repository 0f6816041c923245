-- The items that were read are the frames, grouped.
use Rattle.h2_laws_end.proofs.Names
use Names.{◌≡◌, true, false, List, arith, subst, Frame, Begun, Event, Values, IsLog, begins, opened}
use Names.{ℕ, not, [], ◌∷◌, ◌++◌, Some, None, refl, sym, ap, ◌∙◌, Code, Item, Role, Log, read, used}
use Names.{◌&&◌, Continuation, begins_block, with_failure, reported_one, fault_inside, may_be_first}
use Names.{Bool, Option, Headers, Groups, Verdict, Decoded, took_one, grouped, with_sent, with_step}
use Names.{if◌then◌else◌, ProtocolError, InternalError, fault_outside, grouping_step, with_reported}
use Names.{append-nil, BlockFault, next_fault, fails_with, Interrupted, with_verdict, oldest_first}
use Names.{wire_fault_code, ConnectionFault, with_unreturned, ran_out_of_memory, block_fault_code}
use Names.{log_view, FrameStep, completes, took_some, met_fault, called_one, frame_step, with_frame}
use Rattle.h2_block.specs.declared.fault.BlockFault.TheVariants.{Stray}
use Rattle.h2_block.proofs.GroupLemmas.{step_items, step_begun, none_some, Groups-step}
use Rattle.h2_laws_log.proofs.LogGrowth.{fails_down}
use Rattle.h2_laws_end.specs.Grouped.{AreGrouped}
use Rattle.h2_laws_end.proofs.Failures.{used_up}
use Rattle.h2_laws_end.proofs.Unread.{ReadsNothing, reads_twice, reads_reported, reads_unreturned}
use Rattle.h2_laws_end.proofs.Unread.{wrote_reads, reads_fails, reads_call, reads_unprocessed}

-- The step adds these items, and leaves this block begun.
abbrev Makes : FrameStep → List Item → Option Begun → Type 0
Makes (fails_with code) items begun = ⊥
Makes (begins_block after) items begun = (items ≡ []) × (begun ≡ Some after)
Makes (completes item) items begun = (items ≡ item ∷ []) × (begun ≡ None)

-- A frame without fault groups as a grouping continues.
grouped_makes : (begun : Option Begun) (frame : Frame) → next_fault begun frame ≡ None
    → Makes (grouped begun frame) (step_items begun frame) (step_begun begun frame)
unfolding grouped fault_outside fault_inside
grouped_makes None (Headers stream end true fragment pad priority) sound = (refl, refl)
grouped_makes None (Headers stream end false fragment pad priority) sound = (refl, refl)
grouped_makes None (Continuation stream whole fragment) sound = none_some Stray (sym sound)
grouped_makes None frame sound = (refl, refl)
grouped_makes (Some begun) (Continuation stream true fragment) sound = (refl, refl)
grouped_makes (Some begun) (Continuation stream false fragment) sound = (refl, refl)
grouped_makes (Some begun) frame sound = none_some Interrupted (sym sound)

-- A log all of whose frames group.
grouped_up : (log : Log) → Groups log.frames (oldest_first log.received) log.begun → AreGrouped log
grouped_up log groups = record {
  preceding = log.frames;
  last = [];
  begun = log.begun;
  joined = sym (append-nil log.frames);
  one = omega arith;
  groups = groups;
  up = λ up. (refl, refl);
}

-- All frames of a log that hasn't failed group.
pub groups_now : (log : Log) → AreGrouped log → log.failed ≡ None
    → Groups log.frames (oldest_first log.received) log.begun
groups_now log are up =
    let nothing = are.up up in
    let frames : are.preceding ≡ log.frames = sym (append-nil are.preceding)
    ∙ ap (λ (frames : List Frame). are.preceding ++ frames) (sym nothing.0) ∙ sym are.joined in
    subst (λ (begun : Option Begun). Groups log.frames (oldest_first log.received) begun)
    (sym nothing.1)
    (subst (λ (frames : List Frame). Groups frames (oldest_first log.received) are.begun) frames
    are.groups)

-- A log that failed with its last frame.
grouped_down : (old new : Log) (frame : Frame) → new.frames ≡ old.frames ++ frame ∷ []
    → new.received ≡ old.received → Groups old.frames (oldest_first old.received) old.begun
    → (new.failed ≡ None → ⊥) → AreGrouped new
grouped_down old new frame frames received groups down = record {
  preceding = old.frames;
  last = frame ∷ [];
  begun = old.begun;
  joined = frames;
  one = omega arith;
  groups = subst (λ (items : List Item). Groups old.frames (oldest_first items) old.begun)
      (sym received) groups;
  up = λ up. absurd (down up);
}

-- Where nothing is read, a log still groups.
grouped_still : (old new : Log) → ReadsNothing old new → AreGrouped old → AreGrouped new
grouped_still old new none are = record {
  preceding = are.preceding;
  last = are.last;
  begun = are.begun;
  joined = none.frames ∙ are.joined;
  one = are.one;
  groups = subst (λ (items : List Item). Groups are.preceding (oldest_first items) are.begun)
      (sym none.received) are.groups;
  up = λ up. let before = are.up (none.up up) in (before.0, none.begun ∙ before.1);
}

-- The log with one more frame fails.
grouped_fails : (old log : Log) (frame : Frame) (code : Code) (last : ℕ)
    → log.frames ≡ old.frames ++ frame ∷ [] → log.received ≡ old.received
    → Groups old.frames (oldest_first old.received) old.begun
    → AreGrouped (with_failure code last log)
grouped_fails old log frame code last frames received groups =
    let none = reads_fails code last log in
    grouped_down old (with_failure code last log) frame (none.frames ∙ frames)
    (none.received ∙ received) groups (fails_down code last log)

-- The log groups once an item was read that its frames complete, and was replied to.
grouped_replied : (log : Log) (decoded : Option Decoded) (item : Item) (replies : List Item)
    (more : ℕ) (events : List Event)
    → Groups log.frames (oldest_first log.received ++ item ∷ []) log.begun
    → AreGrouped (with_reported (with_unreturned more (with_sent (read log decoded item) replies))
    events)
grouped_replied log decoded item replies more events groups =
    let wrote = wrote_reads (read log decoded item) replies in
    let sent = with_sent (read log decoded item) replies in
    let none = reads_twice sent _ _ (reads_unreturned more sent) (reads_reported _ events) in
    grouped_up _ (rw (none.frames ∙ wrote.0, none.begun ∙ wrote.1, none.received ∙ wrote.2) groups)

-- After an item that the frames of the log complete, by its verdict.
grouped_verdict : (old log : Log) (decoded : Option Decoded) (item : Item) (verdict : Verdict)
    (frame : Frame) → log.frames ≡ old.frames ++ frame ∷ [] → log.received ≡ old.received
    → Groups old.frames (oldest_first old.received) old.begun
    → Groups log.frames (oldest_first log.received ++ item ∷ []) log.begun
    → AreGrouped (with_verdict log decoded item verdict)
unfolding with_verdict
grouped_verdict old log decoded item (ConnectionFault code) frame frames received before groups =
    grouped_fails old log frame code _ frames received before
grouped_verdict old log decoded item other frame frames received before groups =
    grouped_replied log decoded item _ _ _ groups

-- The log with one more frame.
abbrev one_more : Log → Frame → Log
one_more log frame = record log { frames = log.frames ++ frame ∷ [] }

module _ (log : Log) (decoded : Option Decoded) (frame : Frame) where
  -- After what the frame makes of the block that has begun.
  grouped_step : (step : FrameStep) (items : List Item) (begun : Option Begun)
      → Groups log.frames (oldest_first log.received) log.begun → Makes step items begun
      → Groups (log.frames ++ frame ∷ []) (oldest_first log.received ++ items) begun
      → AreGrouped (with_step (one_more log frame) decoded step)
  unfolding with_step
  grouped_step (fails_with code) items begun before makes groups = absurd makes
  grouped_step (begins_block after) items begun before makes groups =
      grouped_up (record (one_more log frame) { begun = Some after })
      (subst (λ (now : Option Begun). Groups (log.frames ++ frame ∷ []) (oldest_first log.received)
      now) makes.1 (rw (makes.0, append-nil) at groups))
  grouped_step (completes item) items begun before makes groups =
      grouped_verdict log (record (one_more log frame) { begun = None }) decoded item _ frame refl
      refl before (rw (makes.0, makes.1) at groups)

  -- By the fault of the frame.
  grouped_fault : (fault : Option BlockFault) → next_fault log.begun frame ≡ fault
      → Groups log.frames (oldest_first log.received) log.begun
      → AreGrouped (with_step (one_more log frame) decoded (grouping_step log.begun frame fault))
  unfolding with_step grouping_step
  grouped_fault (Some fault) is before =
      grouped_fails log (one_more log frame) frame (block_fault_code fault) _ refl refl before
  grouped_fault None is before = grouped_step (grouped log.begun frame) _ _ before
      (grouped_makes log.begun frame is)
      (Groups-step log.frames (oldest_first log.received) log.begun frame before is)

  -- By the test whether it may come.
  grouped_test : (test : Bool) → Groups log.frames (oldest_first log.received) log.begun
      → AreGrouped (with_step (one_more log frame) decoded (if test then fails_with ProtocolError
      else grouping_step log.begun frame (next_fault log.begun frame)))
  unfolding with_step
  grouped_test true before =
      grouped_fails log (one_more log frame) frame ProtocolError _ refl refl before
  grouped_test false before = grouped_fault (next_fault log.begun frame) refl before

  -- After a frame.
  grouped_frame : Groups log.frames (oldest_first log.received) log.begun
      → AreGrouped (with_frame log decoded frame)
  unfolding with_frame frame_step
  grouped_frame before =
      grouped_test (not (log_view log).started && not (may_be_first frame)) before

-- Octets that are used change no frames.
grouped_used : (log : Log) (octets unparsed : List ℕ) → AreGrouped log
    → AreGrouped (used log octets unparsed)
unfolding used
grouped_used log octets unparsed are = record {
  preceding = are.preceding;
  last = are.last;
  begun = are.begun;
  joined = are.joined;
  one = are.one;
  groups = are.groups;
  up = are.up;
}

-- A new end has none.
grouped_opened : (role : Role) (values : Values) → AreGrouped (opened role values)
unfolding opened with_sent
grouped_opened role values =
    grouped_up (opened role values) (record {
      complete = [];
      left = [];
      joined = refl;
      grouped = refl;
      unfinished = refl;
    })

-- Every log.
pub items_grouped : (role : Role) (values : Values) (log : Log) → IsLog role values log
    → AreGrouped log
items_grouped role values _ (begins in_range) = grouped_opened role values
items_grouped role values _ (took_some {log = log} is takes octets unparsed read) =
    grouped_used log octets unparsed (items_grouped role values log is)
items_grouped role values _ (took_one {log = log} is takes octets frame decoded read sees) =
    let before = grouped_used log octets [] (items_grouped role values log is) in
    grouped_frame (used log octets []) decoded frame (groups_now (used log octets []) before
    (used_up log octets [] ∙ takes.up))
items_grouped role values _ (met_fault {log = log} is takes octets fault at) =
    grouped_still (used log octets []) _ (reads_fails (wire_fault_code fault) _ _)
    (grouped_used log octets [] (items_grouped role values log is))
items_grouped role values _ (ran_out_of_memory {log = log} is up octets may) =
    grouped_still (used log octets []) _ (reads_fails InternalError _ _)
    (grouped_used log octets [] (items_grouped role values log is))
items_grouped role values _ (reported_one {log = log} is up some) =
    grouped_still log _ (reads_unprocessed log) (items_grouped role values log is)
items_grouped role values _ (called_one {log = log} is act answer typed may) =
    grouped_still log _ (reads_call log act answer) (items_grouped role values log is)
