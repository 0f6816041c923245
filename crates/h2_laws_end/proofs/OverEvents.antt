-- Fields and octets are reported of streams that aren't over, and that are used from then on.
use Rattle.h2_laws_end.proofs.Names
use Names.{◌≡◌, length, Option, arith, GoAway, Verdict, NoEvent, Reported, Decoded, IsOver, MayTake}
use Names.{ℕ, suc, [], ◌∷◌, sym, ap, ◌∙◌, Item, Log, View, Took, Code}
use Names.{Bool, true, List, ◌++◌, Some, subst, refl, Field, Data, Reset, Ping, alone, block, Event}
use Names.{Settings, DataEvent, log_view, with_sent, used_more, has_failed, ends_frame, events_of}
use Names.{FieldsEvent, UnprocessedEvent, next_unprocessed, reports_unprocessed, runs_out_of_memory}
use Names.{with_unreturned, ConnectionFault, StreamFault, ends_no_frame, meets_fault, with_reported}
use Rattle.h2_laws_end.specs.Over.{is_number_used as was_used}
use Rattle.h2_laws_end.proofs.OverCalls.{past_of}
use Rattle.h2_laws_end.proofs.OverLists.{IsPast, WasUsed}
use Rattle.h2_laws_end.proofs.OverReads.{OfMessage, IsInUse, in_use_by_rules}
use Rattle.h2_laws_end.proofs.OverSteps.{Holds}
use Rattle.h2_laws_end.proofs.ReadVerdicts.{Says, says_of}
use Rattle.h2_laws_end.proofs.TakeAnswers.{reported_is, sent_reported, unreturned_reported}
use Rattle.h2_laws_end.proofs.ActivitySteps.{AfterFrame, stays_same, has_broken, has_read, Adds}
use Rattle.h2_laws_end.proofs.ActivitySteps.{frame_used, frame_after}

-- The event is neither of fields nor of octets, or this holds of its stream.
abbrev pub OfEvent : (ℕ → Type 0) → Event → Type 0
OfEvent P (FieldsEvent id list end) = P id
OfEvent P (DataEvent id octets flow end) = P id
OfEvent P _ = Unit {0}

-- The stream wasn't over in the first log, and is used in the second.
abbrev pub IsTaken : (before after : Log) → ℕ → Type 0
IsTaken before after i = (Holds (IsPast i) before → ⊥) × Holds (WasUsed i) after

-- A list isn't itself with one event more.
pub no_event : {Goal : Type 0} (event : Event) (events : List Event) → events ≡ event ∷ events
    → Goal
no_event event events is =
    let counted : length events ≡ suc (length events) = ap length is in
    absurd (omega (arith, counted))

-- The event before the same events is the same.
pub same_event : (event other : Event) (events : List Event) → event ∷ events ≡ other ∷ events
    → event ≡ other
same_event event other events is = cc

-- The event of an item that is reported.
reported_taken : (P : ℕ → Type 0) (view : View) (decoded : Option Decoded) (item : Item)
    (event : Event) (events : List Event) → OfMessage P item
    → events_of view decoded Reported item ++ events ≡ event ∷ events → OfEvent P event
unfolding events_of
reported_taken P view decoded (block stream end octets) event events taken is =
    subst (OfEvent P) (same_event _ event events is) taken
reported_taken P view decoded (alone (Data stream end octets pad)) event events taken is =
    subst (OfEvent P) (same_event _ event events is) taken
reported_taken P view decoded (alone (Reset stream code)) event events taken is =
    subst (OfEvent P) (same_event _ event events is) tt
reported_taken P view decoded (alone (Settings ack pairs)) event events taken is =
    subst (OfEvent P) (same_event _ event events is) tt
reported_taken P view decoded (alone (Ping ack octets)) event events taken is =
    subst (OfEvent P) (same_event _ event events is) tt
reported_taken P view decoded (alone (GoAway last code debug)) event events taken is =
    subst (OfEvent P) (same_event _ event events is) tt
reported_taken P view decoded (alone frame) event events taken is = no_event event events is

-- What holds of the stream of a message, something else does too.
of_message : (P Q : ℕ → Type 0) (item : Item) → ((i : ℕ) → P i → Q i) → OfMessage P item
    → OfMessage Q item
of_message P Q (block stream end octets) goes is = goes stream is
of_message P Q (alone (Data stream end octets pad)) goes is = goes stream is
of_message P Q (alone frame) goes is = tt

-- What was reported in the end, of an item that was read and replied to.
pub replied_reported : (log : Log) (more : ℕ) (replies : List Item) (events : List Event)
    → (with_reported (with_unreturned more (with_sent log replies)) events).reported
    ≡ events ++ log.reported
replied_reported log more replies events =
    reported_is _ events ∙ ap (λ (reported : List Event). events ++ reported)
    (unreturned_reported more (with_sent log replies) ∙ sent_reported log replies)

module _ (before after : Log) where
  -- A stream in use is taken, once the item was replied to.
  in_use_taken : (item : Item) (items : List Item) (events : List Event) (i : ℕ)
      → Adds before after (item ∷ []) items events → IsInUse before item i → IsTaken before after i
  in_use_taken item items events i adds both = (
    both.0,
    rw (adds.role, adds.received, adds.sent)
        (used_more before.role i [] items (item ∷ before.received) before.sent both.1),
  )

  -- By the verdict.
  read_taken : (decoded : Option Decoded) (item : Item) (verdict : Verdict) (items : List Item)
      (event : Event) → ((code : Code) → verdict ≡ ConnectionFault code → ⊥)
      → Adds before after (item ∷ []) items (events_of (log_view before) decoded verdict item)
      → Says (Unit {0}) (Unit {0}) (OfMessage (IsInUse before item) item) verdict
      → events_of (log_view before) decoded verdict item ++ before.reported ≡ event
      ∷ before.reported
      → OfEvent (IsTaken before after) event
  unfolding events_of
  read_taken decoded item (ConnectionFault code) items event on adds says is = absurd (on code refl)
  read_taken decoded item (StreamFault code) items event on adds says is =
      subst (OfEvent _) (same_event _ event before.reported is) tt
  read_taken decoded item NoEvent items event on adds says is = no_event event before.reported is
  read_taken decoded item Reported items event on adds says is =
      reported_taken _ (log_view before) decoded item event before.reported
      (of_message _ _ item (λ i both. in_use_taken item items _ i adds both) says) is

  -- What a frame may do.
  after_taken : (decoded : Option Decoded) (event : Event) → AfterFrame before decoded after
      → after.reported ≡ event ∷ before.reported → OfEvent (IsTaken before after) event
  after_taken decoded event (stays_same adds failed) is =
      no_event event before.reported (sym adds.reported ∙ is)
  after_taken decoded event (has_broken code last most adds failed) is =
      no_event event before.reported (sym adds.reported ∙ is)
  after_taken decoded event (has_read item verdict credit same on is_credit adds failed) is =
      read_taken decoded item verdict _ event on adds
      (subst (Says (Unit {0}) (Unit {0}) (OfMessage (IsInUse before item) item)) same
      (says_of _ _ _ before decoded item (in_use_by_rules before decoded item)))
      (sym adds.reported ∙ is)

-- A call of `take`.
take_taken : (log after : Log) (piece : List ℕ) (count : ℕ) (event : Event)
    → MayTake log piece (Took count (Some event)) after → OfEvent (IsTaken log after) event
take_taken log after piece count event (has_failed code failed answers same) = cc
take_taken log after piece count event (reports_unprocessed up some answers same) =
    let one : UnprocessedEvent (next_unprocessed log) ≡ event = cc in
    subst (OfEvent (IsTaken log after)) one tt
take_taken log after piece count event (ends_no_frame takes unparsed part answers same) = cc
take_taken log after piece count event
    (ends_frame takes octets unused joined frame decoded framed sees same answers) =
    after_taken (frame_used log octets frame) after decoded event
    (rw same (frame_after log octets decoded frame)) answers.2
take_taken log after piece count event (meets_fault takes octets unused joined fault at answers
    same) = cc
take_taken log after piece count event (runs_out_of_memory up octets unused joined may answers
    same) = cc

-- What is taken isn't over.
taken_is : (log after : Log) (i : ℕ) → IsTaken log after i
    → (IsOver log i → ⊥) × (was_used after i ≡ true)
taken_is log after i taken = (λ over. taken.0 (past_of log i over), taken.1)

pub fields_in_use : (log after : Log) (piece : List ℕ) (count id : ℕ) (list : List Field)
    (end : Bool) → MayTake log piece (Took count (Some (FieldsEvent id list end))) after
    → (IsOver log id → ⊥) × (was_used after id ≡ true)
fields_in_use log after piece count id list end may =
    taken_is log after id (take_taken log after piece count (FieldsEvent id list end) may)

pub data_in_use : (log after : Log) (piece : List ℕ) (count id : ℕ) (octets : List ℕ) (flow : ℕ)
    (end : Bool) → MayTake log piece (Took count (Some (DataEvent id octets flow end))) after
    → (IsOver log id → ⊥) × (was_used after id ≡ true)
data_in_use log after piece count id octets flow end may =
    taken_is log after id (take_taken log after piece count (DataEvent id octets flow end) may)
