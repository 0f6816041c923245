-- What the steps of an end make of what it has heard.
use Rattle.h2_laws_end.proofs.ReadingRules.{LogIsLow, rules_say}
use Rattle.h2_laws_pair.proofs.Names
use Names.{◌≡◌, ℕ, List, [], ◌∷◌, ◌++◌, Option, None, refl, ◌∙◌, append-nil, Field, Code, Frame}
use Names.{Item, Role, Event, UnprocessedEvent, Values, Log, next_unprocessed, log_view, Verdict}
use Names.{ConnectionFault, Decoded, FrameStep, completes, frame_step, verdict_of, used, with_sent}
use Names.{with_reported, with_unreturned, with_failure, with_step, with_frame, took_none, opened}
use Names.{Grows, grows_wrote, grows_with_unreturned, says_of, tokens_written, tokens_of_event}
use Names.{tokens_heard}
use Rattle.h2_laws_pair.proofs.FrameSteps.{with_item, has_item, kept_by_step}
use Rattle.h2_laws_pair.proofs.HeardReads.{AreHeard, all_heard, some_heard, LogHeard, lists_after}
use Rattle.h2_laws_pair.proofs.HeardReads.{IsRuled, heard_item, rules_used, says_both, gone_more}

-- More was written.
heard_wrote : (i : ℕ) (role : Role) (items received sent : List Item) (reported : List Event)
    (lists : List (List Field)) → AreHeard role i received sent reported lists
    → AreHeard role i received (items ++ sent) reported lists
heard_wrote i role items received sent reported lists (all_heard is) = all_heard is
heard_wrote i role items received sent reported lists (some_heard gone prefix) =
    some_heard (gone_more role i [] items received sent gone) prefix

pub heard_grows : (i : ℕ) (log new : Log) (lists : List (List Field)) → Grows log new
    → LogHeard i log lists → LogHeard i new lists
heard_grows i log new lists grows is =
    rw (grows.role, grows.received, grows.sent, grows.reported)
    (heard_wrote i log.role grows.items log.received log.sent log.reported lists is)

-- A failure.
pub heard_failure : (i : ℕ) (code : Code) (last : ℕ) (log : Log) (lists : List (List Field))
    → LogHeard i log lists → LogHeard i (with_failure code last log) lists
heard_failure i code last log lists is = heard_grows _ _ _ _ (grows_wrote _ _) is

-- A stream that is reported as unprocessed.
unprocessed_tokens : (i id : ℕ) (reported : List Event)
    → tokens_heard i (UnprocessedEvent id ∷ reported) ≡ tokens_heard i reported
unfolding tokens_heard tokens_of_event
unprocessed_tokens i id reported = append-nil (tokens_heard i reported)

heard_same : (i : ℕ) (role : Role) (received sent : List Item) (reported events : List Event)
    (lists : List (List Field)) → tokens_heard i events ≡ tokens_heard i reported
    → AreHeard role i received sent reported lists → AreHeard role i received sent events lists
heard_same i role received sent reported events lists same (all_heard is) = all_heard (same ∙ is)
heard_same i role received sent reported events lists same (some_heard gone prefix) =
    some_heard gone (prefix.0, rw same prefix.1)

pub heard_unprocessed : (i : ℕ) (log : Log) (lists : List (List Field)) → LogHeard i log lists
    → LogHeard i (took_none log) lists
unfolding with_reported
heard_unprocessed i log lists is =
    let due = grows_with_unreturned _ log in
    let after = with_unreturned _ log in
    heard_same _ _ _ _ _ _ lists (unprocessed_tokens i (next_unprocessed log) after.reported)
    (heard_grows i log after lists due is)

-- What a step of a frame makes of what was heard: no item more was read, or this one.
pub data FrameHeard (received : List Item) (decoded : Option Decoded) (step : FrameStep)
    (lists : List (List Field)) (new : Log) : Type 0 where
  no_item : new.received ≡ received → ((i : ℕ) → LogHeard i new lists)
      → FrameHeard received decoded step lists new
  one_item : (item : Item) → step ≡ completes item → new.received ≡ item ∷ received
      → ((i : ℕ) → LogHeard i new (lists_after decoded item lists))
      → FrameHeard received decoded step lists new

-- What was heard after an item that is no fault of the connection.
read_heard : (i : ℕ) (log : Log) (decoded : Option Decoded) (item : Item) (verdict : Verdict)
    (more : ℕ) (lists : List (List Field)) → verdict_of (log_view log) decoded item ≡ verdict
    → ((code : Code) → verdict ≡ ConnectionFault code → ⊥) → LogIsLow log → LogHeard i log lists
    → LogHeard i (with_item log decoded item verdict more) (lists_after decoded item lists)
read_heard i log decoded item verdict more lists same none low is =
    let has = has_item log decoded item verdict more in
    let ruled : IsRuled log item verdict = rw same at (says_of _ _ _ _ _ _ (says_both _ _ _ _ _ _ _
    (rules_say log decoded item low) (rules_used log decoded item))) in
    rw (has.role, has.received, has.sent, has.reported)
    (heard_item i log decoded item verdict has.due lists none ruled is)

-- After what a frame makes of the block that has begun.
step_heard : (log : Log) (decoded : Option Decoded) (step : FrameStep)
    (lists : List (List Field)) → LogIsLow log → ((i : ℕ) → LogHeard i log lists)
    → FrameHeard log.received decoded step lists (with_step log decoded step)
step_heard log decoded step lists low is =
    kept_by_step (FrameHeard log.received decoded step lists) log decoded step (record {
      failed = λ begun code last fails.
          let now = record log { begun = begun } in
          no_item (grows_wrote now _).received (λ i. heard_failure i code last now lists (is i));
      begun = λ begun same. no_item refl is;
      read = λ item verdict more completed same none.
          let ready = record log { begun = None } in
          one_item item completed (has_item ready decoded item verdict more).received
          (λ i. read_heard i ready decoded item verdict more lists same none low (is i));
    })

-- After a frame.
pub frame_heard : (log : Log) (octets : List ℕ) (decoded : Option Decoded) (frame : Frame)
    (lists : List (List Field)) → LogIsLow log → ((i : ℕ) → LogHeard i log lists)
    → FrameHeard log.received decoded (frame_step (log_view log) frame) lists
    (with_frame (used log octets []) decoded frame)
unfolding with_frame used frame_step
frame_heard log octets decoded frame =
    step_heard (record (used log octets []) { frames = log.frames ++ frame ∷ [] }) _ _

-- Octets that are used change nothing of it.
pub heard_used : (i : ℕ) (log : Log) (octets unparsed : List ℕ) (lists : List (List Field))
    → LogHeard i log lists → LogHeard i (used log octets unparsed) lists
unfolding used
heard_used i log octets unparsed lists is = is

-- A new end has heard nothing.
pub opened_heard : (i : ℕ) (role : Role) (values : Values) → LogHeard i (opened role values) []
unfolding opened with_sent tokens_heard tokens_written
opened_heard i role values = all_heard refl
