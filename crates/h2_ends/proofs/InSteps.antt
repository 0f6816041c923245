-- What a step leaves of what keeps step with what has happened, stream by stream.
use Rattle.h2_ends.proofs.Names
use Names.{◌≡◌, ◌≢◌, ℕ, false, List, [], ◌∷◌, ◌++◌, Option, Some, None, refl, sym, ap, ◌∙◌, inl}
use Names.{inr, append-nil, both_ways, cases_Bool, Role, Values, Act, Answer, Number, Log, active}
use Names.{MayAnswer, with_call, IsLog, grows_call, TakeAnswer, MayTake, Took, Failed}
use Names.{reports_unprocessed, ends_no_frame, ends_frame, meets_fault, over_by_call}
use Names.{log_after_take, ConnRepresents, Said, Token, tokens_of_event, tokens_of_call}
use Names.{call_calls, End, Stream, Span, Spans, EndLog, Handed, part_on, tokens_of_parts}
use Names.{tokens_handed, end_with_log, end_with_handed, EndRepresents, RepresentsBut, IsInStep}
use Names.{KeepsActive, HandsInOrder, OwesWithin, WasRefused, outgoing_in, call_may_close}
use Names.{take_may_close, take_has_data, take_has_fields, active_by_call, tokens_heard, AfterTake}
use Names.{has_failed, runs_out_of_memory, inactive_by_call, cases_eq}
use Rattle.h2_laws_end.proofs.OverReads.{over_by_take}
use Rattle.std.proofs.lemmas.List.Elements.{Contains-append_right}
use Rattle.h2_laws_end.proofs.ActivityTakes.{active_by_take, inactive_by_take}
use Rattle.h2_laws_end.proofs.ActivityOwed.{none_owed_by_call, none_owed_by_take}
use Rattle.h2_ends.proofs.EndTokens.{take_calls}
use Rattle.h2_ends.proofs.EndSteps.{called_end, quiet_call, same_handed, kept}

-- what a call of `take` reports of a stream, token by token
abbrev pub tokens_reported : ℕ → TakeAnswer → List Token
tokens_reported i (Took count (Some event)) = tokens_of_event i event
tokens_reported i answer = []

-- A stream that was refused was so.
refused_called : (log : Log) (act : Act) (answer : Answer) (i : ℕ) → WasRefused log i
    → WasRefused (with_call log act answer) i
refused_called log act answer i was = (
  was.0,
  was.1,
  rw (call_calls log act answer)
      (Contains-append_right ((act, answer) ∷ []) log.calls _ was.2),
)

-- Other messages that were accepted, and more calls, leave what was handed out.
pub handed_called : (happened : EndLog) (act : Act) (answer : Answer)
    (accepted : List (ℕ × Said)) (i : ℕ) → MayAnswer happened.log act answer
    → HandsInOrder happened i → HandsInOrder (called_end happened act answer accepted) i
handed_called happened act answer accepted i may (inl same) =
    inl (ap (tokens_heard i) (grows_call happened.log act answer).reported ∙ same)
handed_called happened act answer accepted i may (inr cut) =
    inr (record {
      refused = refused_called happened.log act answer i cut.refused;
      last = elim cut.last [
        | inl past ↦ inl (over_by_call happened.log act answer i may past)
        | inr down ↦ inr (λ up. down ((grows_call happened.log act answer).up up))
      ];
      prefix = (
        cut.prefix.0,
        ap (tokens_heard i) (grows_call happened.log act answer).reported ∙ cut.prefix.1,
      );
    })

-- Where something is owed after a call it was before, and so after octets that are not the
-- stream's.
pub owes_called : (role : Role) (values : Values) (span : Span) (log : Log) (act : Act)
    (answer : Answer) (i : ℕ) → IsLog role values log → MayAnswer log act answer
    → OwesWithin span log i → OwesWithin span (with_call log act answer) i
owes_called role values span log act answer i came may owes = λ some.
    owes (λ none. some (none_owed_by_call role values log act answer i came may none))

pub owes_taken : (role : Role) (values : Values) (span : Span) (log after : Log)
    (piece : List ℕ) (answer : TakeAnswer) (i : ℕ) → IsLog role values log
    → MayTake log piece answer after → take_has_data i answer ≡ false
    → OwesWithin span log i → OwesWithin span after i
owes_taken role values span log after piece answer i came may no_data owes = λ some.
    owes (λ none. some (none_owed_by_take role values log after piece answer i came may none
    no_data))

-- A call that does not open the stream.
pub in_step_called : (role : Role) (values : Values) (spans : Spans) (stream : Option Stream)
    (happened : EndLog) (act : Act) (answer : Answer) (accepted : List (ℕ × Said)) (i : ℕ)
    → IsLog role values happened.log → MayAnswer happened.log act answer → answer ≢ Number i
    → IsInStep spans stream happened i
    → IsInStep spans stream (called_end happened act answer accepted) i
in_step_called role values spans stream happened act answer accepted i came may other is =
    record {
      all = λ up alive. elim (cases_Bool (active happened.log i)) [
        | inl was ↦ is.all ((grows_call happened.log act answer).up up) was
        | inr not ↦ absurd (both_ways _ (inactive_by_call happened.log act answer i may not other)
            alive)
      ];
      handed = handed_called happened act answer accepted i may is.handed;
      within = is.within;
      owes = owes_called role values spans.owing happened.log act answer i came may is.owes;
      turn = is.turn;
      malformed = is.malformed;
    }

-- A call that does not close the stream.
pub active_called : (role : Role) (values : Values) (log : Log) (act : Act) (answer : Answer)
    (stream : Option Stream) (i : ℕ) → IsLog role values log → MayAnswer log act answer
    → call_may_close i act answer ≡ false → KeepsActive log stream i
    → KeepsActive (with_call log act answer) stream i
active_called role values log act answer stream i is may stays keeps =
    λ some. active_by_call role values log act answer i is may (keeps some) stays

module _ (log after : Log) (piece : List ℕ) where
  -- A connection that is up was so before.
  up_before : (answer : TakeAnswer) → MayTake log piece answer after → after.failed ≡ None
      → log.failed ≡ None
  up_before answer (has_failed code failed answers same) up =
      ap (λ (new : Log). new.failed) (sym same) ∙ up
  up_before answer (reports_unprocessed was some answers same) up = was
  up_before answer (ends_no_frame takes unparsed part answers same) up = takes.up
  up_before answer
      (ends_frame takes octets unused joined frame decoded framed sees same answers) up = takes.up
  up_before answer (meets_fault takes octets unused joined fault at answers same) up = takes.up
  up_before answer (runs_out_of_memory was octets unused joined may answers same) up = was

  -- What was heard on a stream of which nothing is reported.
  heard_taken : (answer : TakeAnswer) (i : ℕ) → AfterTake log after piece answer
      → tokens_reported i answer ≡ [] → tokens_heard i after.reported ≡ tokens_heard i log.reported
  unfolding tokens_heard
  heard_taken (Took count None) i says none = ap (tokens_heard i) says.5
  heard_taken (Took count (Some event)) i says none = ap (tokens_heard i) says.5
      ∙ ap (λ (more : List Token). tokens_heard i log.reported ++ more) none
      ∙ append-nil (tokens_heard i log.reported)
  heard_taken (Failed code) i says none = ap (tokens_heard i) says.4

-- So it leaves what was handed out.
pub handed_taken : (happened : EndLog) (piece : List ℕ) (answer : TakeAnswer) (log : Log) (i : ℕ)
    → MayTake happened.log piece answer log → tokens_reported i answer ≡ []
    → HandsInOrder happened i → HandsInOrder (end_with_log happened log) i
handed_taken happened piece answer log i may none (inl same) =
    inl (heard_taken happened.log log piece answer i
    (log_after_take happened.log log piece answer may) none ∙ same)
handed_taken happened piece answer log i may none (inr cut) =
    inr (record {
      refused = (
        cut.refused.0,
        cut.refused.1,
        rw (take_calls happened.log log piece answer may) cut.refused.2,
      );
      last = elim cut.last [
        | inl past ↦ inl (over_by_take happened.log log piece answer i may past)
        | inr down ↦ inr (λ up. down (up_before happened.log log piece answer may up))
      ];
      prefix = (
        cut.prefix.0,
        heard_taken happened.log log piece answer i
            (log_after_take happened.log log piece answer may) none ∙ cut.prefix.1,
      );
    })

-- Octets of which nothing of the stream is reported.
pub in_step_taken : (role : Role) (values : Values) (spans : Spans) (stream : Option Stream)
    (happened : EndLog) (piece : List ℕ) (answer : TakeAnswer) (log : Log) (i : ℕ)
    → IsLog role values happened.log → MayTake happened.log piece answer log
    → tokens_reported i answer ≡ [] → take_has_fields i answer ≡ false
    → take_has_data i answer ≡ false → IsInStep spans stream happened i
    → IsInStep spans stream (end_with_log happened log) i
in_step_taken role values spans stream happened piece answer log i came may none no_fields no_data
    is =
    record {
      all = λ up alive. elim (cases_Bool (active happened.log i)) [
        | inl was ↦ is.all (up_before happened.log log piece answer may up) was
        | inr not ↦ absurd (both_ways _
            (inactive_by_take role values happened.log log piece answer i came may not
            no_fields) alive)
      ];
      handed = handed_taken happened piece answer log i may none is.handed;
      within = is.within;
      owes = owes_taken role values spans.owing happened.log log piece answer i came may no_data
          is.owes;
      turn = is.turn;
      malformed = is.malformed;
    }

-- Octets that do not close it.
pub active_taken : (role : Role) (values : Values) (log after : Log) (piece : List ℕ)
    (answer : TakeAnswer) (stream : Option Stream) (i : ℕ) → IsLog role values log
    → MayTake log piece answer after → take_may_close i answer ≡ false
    → KeepsActive log stream i → KeepsActive after stream i
active_taken role values log after piece answer stream i is may stays keeps =
    λ some. active_by_take role values log after piece answer i is may (keeps some) stays

-- Where the same was handed out of a stream, it is in order as before.
pub handed_by : (old new : EndLog) (i : ℕ) → new.log ≡ old.log
    → tokens_handed new i ≡ tokens_handed old i → HandsInOrder old i → HandsInOrder new i
handed_by old new i log same (inl is) = inl (rw (log, same) is)
handed_by old new i log same (inr cut) =
    inr (record {
      refused = rw log cut.refused;
      last = rw log cut.last;
      prefix = rw (log, same) cut.prefix;
    })

-- So it is where something is handed out that is no part of its message.
pub handed_no_part : (happened : EndLog) (handed : Handed) (i : ℕ) → part_on i handed ≡ []
    → HandsInOrder happened i
    → HandsInOrder (end_with_handed happened happened.log handed) i
handed_no_part happened handed i none =
    handed_by happened (end_with_handed happened happened.log handed) i refl
    (ap tokens_of_parts (same_handed happened handed i none).handed)

pub in_step_elsewhere : (spans : Spans) (stream : Option Stream) (happened : EndLog)
    (handed : Handed) (i : ℕ) → part_on i handed ≡ [] → IsInStep spans stream happened i
    → IsInStep spans stream (end_with_handed happened happened.log handed) i
in_step_elsewhere spans stream happened handed i none is =
    record {
      all = is.all;
      handed = handed_no_part happened handed i none is.handed;
      within = is.within;
      owes = is.owes;
      turn = is.turn;
      malformed = is.malformed;
    }

-- Something else is kept, with the same message to send.
pub in_step_with : (spans : Spans) (stream other : Option Stream) (happened : EndLog) (i : ℕ)
    → (stream ≢ None → other ≢ None) → outgoing_in other ≡ outgoing_in stream
    → IsInStep spans stream happened i → IsInStep spans other happened i
in_step_with spans stream other happened i keeps same is =
    record {
      all = λ up alive. keeps (is.all up alive);
      handed = is.handed;
      within = λ waiting waits. is.within waiting (sym same ∙ waits);
      owes = is.owes;
      turn = is.turn;
      malformed = is.malformed;
    }

-- An end represents what has happened where what it keeps of the one stream is active too.
pub represents_all : (values : Values) (end : End) (happened : EndLog) (id : ℕ)
    → RepresentsBut values end happened id → KeepsActive happened.log (kept end id) id
    → EndRepresents values end happened
represents_all values end happened id is here =
    record {
      streams = is.streams;
      in_step = is.in_step;
      active = λ i. elim (cases_eq i id) [
        | inl same ↦ rw same here
        | inr other ↦ is.active i other
      ];
    }

module _ (values : Values) (end new : End) (happened : EndLog) (act : Act) (answer : Answer)
    (is : EndRepresents values end happened) (may : MayAnswer happened.log act answer)
    (conn : ConnRepresents values new.conn (with_call happened.log act answer))
    (role : new.role ≡ end.role) (streams : new.streams ≡ end.streams)
    (spans : new.spans ≡ end.spans) (none : (i : ℕ) → tokens_of_call i act answer ≡ [])
    (other : (i : ℕ) → answer ≢ Number i) where
  -- A call that opens no stream and sends no token may close one,
  still_active : (i : ℕ) → call_may_close i act answer ≡ false
      → KeepsActive (with_call happened.log act answer) (kept new i) i
  still_active i stays = rw streams (active_called _ values happened.log act answer (kept end i) i
      is.streams.conn.machine.came may stays (is.active i))

  pub called_but : (id : ℕ) → ((i : ℕ) → i ≢ id → call_may_close i act answer ≡ false)
      → RepresentsBut values new (end_with_log happened (with_call happened.log act answer)) id
  called_but id stays =
      record {
        streams = quiet_call values end new happened act answer is.streams may conn role streams
            none;
        in_step = λ i. rw (spans, streams) (in_step_called _ values end.spans (kept end i) happened
            act answer happened.accepted i is.streams.conn.machine.came may (other i)
            (is.in_step i));
        active = λ i but. still_active i (stays i but);
      }

  -- or closes none.
  pub called_as : ((i : ℕ) → call_may_close i act answer ≡ false)
      → EndRepresents values new (end_with_log happened (with_call happened.log act answer))
  called_as stays =
      represents_all values new _ 0 (called_but 0 (λ i but. stays i)) (still_active 0 (stays 0))
