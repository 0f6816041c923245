-- What keeps step with what has happened, once octets were taken and once a part of a message was
-- read.
use Rattle.h2_ends.proofs.Names
use Names.{◌≡◌, ◌≢◌, ◌⊎◌, ℕ, ◌==◌, Bool, true, false, List, [], ◌∷◌, ◌++◌, Some, None, inl, inr}
use Names.{refl, sym, ap, ◌∙◌, cases_eq, false_from_ne_true, ne_eqb, Server, Values, Event}
use Names.{ResetEvent, Log, active, IsOver, is_number_used, TakeAnswer, MayTake, Took}
use Names.{reports_unprocessed, ends_no_frame, ends_frame, meets_fault, log_after_take}
use Names.{ConnRepresents, Part, Follows, Token, End, Stream, Span, EndLog, Handed, Passed}
use Names.{parts_on, part_on, reads_on, handed_as, tokens_handed, tokens_of_part, tokens_of_parts}
use Names.{end_with_log, end_with_handed, KeepsOne, EndRepresents, RepresentsBut, IsInStep}
use Names.{HandsInOrder, InSpan, OwesWithin, outgoing_in, HasReported, IsReadOn, end_with_part}
use Names.{tokens_of_event, tokens_heard, take_may_close, event_may_close, take_has_fields}
use Names.{take_has_data, has_failed, runs_out_of_memory, UnprocessedEvent}
use Rattle.h2_ends.proofs.EndParts.{handed_elsewhere, handed_here, tokens_with}
use Rattle.h2_ends.proofs.EndSteps.{kept, taken, parts_handed, handed_on, passed_on, passed_none}
use Rattle.h2_ends.proofs.InSteps.{tokens_reported, in_step_taken, active_taken, in_step_elsewhere}
use Rattle.h2_ends.proofs.InSteps.{represents_all}

-- Something is passed on.
pub passed_over : (values : Values) (end : End) (happened : EndLog) (event : Event)
    → EndRepresents values end happened
    → EndRepresents values end (end_with_handed happened happened.log (Passed event))
passed_over values end happened event is =
    record {
      streams = passed_on values end happened event is.streams;
      in_step = λ i. in_step_elsewhere end.spans (kept end i) happened (Passed event) i
          (passed_none i event) (is.in_step i);
      active = is.active;
    }

-- Octets were taken, of which nothing is reported.
pub quiet_taken : (values : Values) (old new : End) (end : EndLog) (piece : List ℕ)
    (answer : TakeAnswer) (log : Log) → EndRepresents values old end
    → MayTake end.log piece answer log → ConnRepresents values new.conn log
    → new.role ≡ old.role → new.streams ≡ old.streams → new.spans ≡ old.spans
    → ((i : ℕ) → tokens_reported i answer ≡ []) → ((i : ℕ) → take_has_fields i answer ≡ false)
    → ((i : ℕ) → take_has_data i answer ≡ false) → ((i : ℕ) → take_may_close i answer ≡ false)
    → EndRepresents values new (end_with_log end log)
quiet_taken values old new end piece answer log is may conn role streams waiting none no_fields
    no_data lasts =
    record {
      streams = taken values old new end piece answer log is.streams may conn role streams;
      in_step = λ i. rw (streams, waiting) (in_step_taken _ values old.spans (kept old i) end piece
          answer log i is.streams.conn.machine.came may (none i) (no_fields i) (no_data i)
          (is.in_step i));
      active = λ i. rw streams (active_taken _ values end.log log piece answer
          (kept old i) i is.streams.conn.machine.came may (lasts i) (is.active i));
    }

-- An event that is no part of a message, and may close one stream.
reported_but : (values : Values) (now : End) (end : EndLog) (piece : List ℕ) (count id : ℕ)
    (event : Event) (log : Log) → HasReported values now end piece count event log
    → ((i : ℕ) → tokens_of_event i event ≡ [])
    → ((i : ℕ) → take_has_fields i (Took count (Some event)) ≡ false)
    → ((i : ℕ) → take_has_data i (Took count (Some event)) ≡ false)
    → ((i : ℕ) → i ≢ id → take_may_close i (Took count (Some event)) ≡ false)
    → RepresentsBut values now (end_with_log end log) id
reported_but values now end piece count id event log reported none no_fields no_data lasts =
    record {
      streams = reported.streams;
      in_step = λ i. in_step_taken reported.logged.0 values now.spans (kept now i) end piece
          (Took count (Some event)) log i reported.logged.1 reported.took (none i) (no_fields i)
          (no_data i) (reported.in_step i);
      active = λ i other. active_taken reported.logged.0 values end.log log piece
          (Took count (Some event)) (kept now i) i reported.logged.1 reported.took (lasts i other)
          (reported.active i);
    }

-- One that closes none.
pub reported_as : (values : Values) (now : End) (end : EndLog) (piece : List ℕ) (count : ℕ)
    (event : Event) (log : Log) → HasReported values now end piece count event log
    → ((i : ℕ) → tokens_of_event i event ≡ [])
    → ((i : ℕ) → take_has_fields i (Took count (Some event)) ≡ false)
    → ((i : ℕ) → take_has_data i (Took count (Some event)) ≡ false)
    → ((i : ℕ) → take_may_close i (Took count (Some event)) ≡ false)
    → EndRepresents values now (end_with_log end log)
reported_as values now end piece count event log reported none no_fields no_data lasts =
    represents_all values now (end_with_log end log) 0
    (reported_but values now end piece count 0 event log reported none no_fields no_data
    (λ i other. lasts i))
    (active_taken reported.logged.0 values end.log log piece (Took count (Some event)) (kept now 0)
    0 reported.logged.1 reported.took (lasts 0) (reported.active 0))

-- A number isn't another one.
pub differs : (i id : ℕ) → i ≢ id → (id == i) ≡ false
differs i id other = ne_eqb id i (λ same. other (sym same))

-- So it is with a stream that was reset, and with one that the peer won't process.
pub reset_but : (values : Values) (now : End) (end : EndLog) (piece : List ℕ) (count id code : ℕ)
    (ours : Bool) (log : Log)
    → HasReported values now end piece count (ResetEvent id code ours) log
    → RepresentsBut values now (end_with_log end log) id
unfolding tokens_of_event take_has_fields take_has_data take_may_close event_may_close
reset_but values now end piece count id code ours log reported =
    reported_but values now end piece count id (ResetEvent id code ours) log reported (λ i. refl)
    (λ i. refl) (λ i. refl) (λ i other. differs i id other)

pub unprocessed_but : (values : Values) (now : End) (end : EndLog) (piece : List ℕ)
    (count id : ℕ) (log : Log) → HasReported values now end piece count (UnprocessedEvent id) log
    → RepresentsBut values now (end_with_log end log) id
unfolding tokens_of_event take_has_fields take_has_data take_may_close event_may_close
unprocessed_but values now end piece count id log reported =
    reported_but values now end piece count id (UnprocessedEvent id) log reported (λ i. refl)
    (λ i. refl) (λ i. refl) (λ i other. differs i id other)

-- The connection was up before it reported something.
pub up_before : (log after : Log) (piece : List ℕ) (count : ℕ) (event : Event)
    → MayTake log piece (Took count (Some event)) after → log.failed ≡ None
up_before log after piece count event (has_failed code failed answers same) = cc
up_before log after piece count event (reports_unprocessed up some answers same) = up
up_before log after piece count event (ends_no_frame takes unparsed part answers same) = takes.up
up_before log after piece count event
    (ends_frame takes octets unused joined frame decoded framed sees same answers) = takes.up
up_before log after piece count event (meets_fault takes octets unused joined fault at answers
    same) = cc
up_before log after piece count event (runs_out_of_memory up octets unused joined may answers
    same) = cc

-- Of a stream that isn't over the connection has reported what was handed out.
pub handed_so_far : (end : EndLog) (id : ℕ) → (IsOver end.log id → ⊥) → end.log.failed ≡ None
    → HandsInOrder end id → tokens_heard id end.log.reported ≡ tokens_handed end id
handed_so_far end id runs up (inl same) = same
handed_so_far end id runs up (inr cut) = elim cut.last [
  | inl past ↦ absurd (runs past)
  | inr failed ↦ absurd (failed up)
]

-- What is heard of it then is what the event reports.
pub heard_then : (id : ℕ) (event : Event) (before after : List Event)
    → after ≡ event ∷ before
    → tokens_heard id after ≡ tokens_heard id before ++ tokens_of_event id event
unfolding tokens_heard
heard_then id event before after is = rw is refl

-- What is kept of the stream of a part is so still.
kept_still : (P Q : Type 0) → (P → ⊥) → P ⊎ Q → Q
kept_still P Q up (inl past) = absurd (up past)
kept_still P Q up (inr kept) = kept

module _ (values : Values) (now : End) (end : EndLog) (piece : List ℕ) (count : ℕ) (event : Event)
    (log : Log) where
  -- What was reported is so at an end whose span of streams on which octets are owed is wider.
  pub reported_wider : (owing : Span) → ((i : ℕ) → InSpan now.spans.owing i → InSpan owing i)
      → HasReported values now end piece count event log
      → HasReported values (record now { spans = record now.spans { owing = owing } }) end piece
      count event log
  reported_wider owing more reported =
      record {
        took = reported.took;
        logged = reported.logged;
        streams = record {
          conn = reported.streams.conn;
          role = reported.streams.role;
          streams = reported.streams.streams;
          sent = reported.streams.sent;
        };
        kept = reported.kept;
        in_step = λ i. record {
          all = (reported.in_step i).all;
          handed = (reported.in_step i).handed;
          within = (reported.in_step i).within;
          owes = λ some. more i ((reported.in_step i).owes some);
          turn = (reported.in_step i).turn;
          malformed = (reported.in_step i).malformed;
        };
        active = reported.active;
      }

  -- A part of a message has come on a stream.
  pub read_on : (id : ℕ) (part : Part × Bool) → HasReported values now end piece count event log
      → (IsOver end.log id → ⊥) × (is_number_used log id ≡ true)
      → tokens_of_event id event ≡ tokens_of_part part
      → ((i : ℕ) → i ≢ id → tokens_of_event i event ≡ [])
      → ((i : ℕ) → i ≢ id → take_has_fields i (Took count (Some event)) ≡ false)
      → ((i : ℕ) → i ≢ id → take_has_data i (Took count (Some event)) ≡ false)
      → OwesWithin now.spans.owing log id
      → ((i : ℕ) → i ≢ id → take_may_close i (Took count (Some event)) ≡ false)
      → (part.1 ≡ false → take_may_close id (Took count (Some event)) ≡ false)
      → (active end.log id ≡ false → (log.role ≡ Server) × (active log id ≡ true))
      → IsReadOn values now (end_with_log end log) id part
  read_on id part reported of here none no_fields no_data owes lasts stays first =
      let up = up_before end.log log piece count event reported.took in
      let told = (log_after_take end.log log piece (Took count (Some event)) reported.took).5 in
      record {
        streams = reported.streams;
        others = record {
          others = λ i other. in_step_taken reported.logged.0 values now.spans (kept now i) end
              piece (Took count (Some event)) log i reported.logged.1 reported.took (none i other)
              (no_fields i other) (no_data i other) (reported.in_step i);
          active = λ i other. active_taken reported.logged.0 values end.log log piece
              (Took count (Some event)) (kept now i) i reported.logged.1 reported.took
              (lasts i other) (reported.active i);
          within = (reported.in_step id).within;
          owes = owes;
          turn = (reported.in_step id).turn;
          malformed = (reported.in_step id).malformed;
        };
        kept = kept_still (IsOver end.log id) _ of.0 (reported.kept id);
        was_used = of.1;
        heard = heard_then id event end.log.reported log.reported told
            ∙ ap (λ (tokens : List Token). tokens ++ tokens_of_event id event)
            (handed_so_far end id of.0 up (reported.in_step id).handed)
            ∙ ap (λ (tokens : List Token). tokens_handed end id ++ tokens) here;
        first = λ nothing. first (false_from_ne_true _ (λ active.
            (reported.in_step id).all up active nothing));
        goes_on = λ last. active_taken reported.logged.0 values end.log log piece
            (Took count (Some event)) (kept now id) id reported.logged.1 reported.took (stays last)
            (reported.active id);
      }

-- The tokens of a part that is handed out follow those before.
pub handed_then : (happened : EndLog) (handed : Handed) (id : ℕ) (part : Part × Bool)
    → part_on id handed ≡ part ∷ []
    → tokens_handed (end_with_handed happened happened.log handed) id
    ≡ tokens_handed happened id ++ tokens_of_part part
handed_then happened handed id part here =
    ap tokens_of_parts (parts_handed happened handed id part here)
    ∙ tokens_with (parts_on id happened.handed) part

-- The part that has come is handed out: what is kept of its stream keeps step.
in_step_here : (values : Values) (end : End) (happened : EndLog) (id : ℕ) (part : Part × Bool)
    (stream : Stream) (handed : Handed) → IsReadOn values end happened id part
    → part_on id handed ≡ part ∷ [] → stream.outgoing ≡ outgoing_in (kept end id)
    → IsInStep end.spans (Some stream) (end_with_handed happened happened.log handed) id
in_step_here values end happened id part stream handed is here outgoing =
    record {
      all = λ up active none. cc;
      handed = inl (is.heard ∙ sym (handed_then happened handed id part here));
      within = λ waiting waits. is.others.within waiting (sym outgoing ∙ waits);
      owes = is.others.owes;
      turn = is.others.turn;
      malformed = is.others.malformed;
    }

-- A part that a reading has taken is handed out, and only of its stream something may be kept that
-- isn't active any more.
pub part_but : (values : Values) (end new : End) (happened : EndLog) (id : ℕ)
    (part : Part × Bool) (stream : Stream) → IsReadOn values end happened id part
    → Follows (reads_on happened id) (parts_on id happened.handed ++ part ∷ []) stream.reading
    → stream.outgoing ≡ outgoing_in (kept end id) → KeepsOne end new id (Some stream)
    → new.conn ≡ end.conn → new.role ≡ end.role → new.spans ≡ end.spans
    → RepresentsBut values new (end_with_part happened id part) id
part_but values end new happened id part stream is follows outgoing keeps conn role waiting =
    let reads = reads_on happened id in
    let parts = parts_on id happened.handed in
    let handed = handed_as reads parts id part in
    let here = handed_here reads parts id part stream.reading follows in
    record {
      streams = handed_on values end new happened id part stream is.streams is.kept is.was_used
          follows outgoing keeps conn role;
      in_step = λ i. elim (cases_eq i id) [
        | inl same ↦ rw (same, keeps.one, waiting)
            (in_step_here values end happened id part stream handed is here outgoing)
        | inr other ↦ rw (keeps.others i other, waiting)
            (in_step_elsewhere end.spans (kept end i) happened handed i
            (handed_elsewhere reads parts i id part other) (is.others.others i other))
      ];
      active = λ i other. rw (keeps.others i other) (is.others.active i other);
    }
