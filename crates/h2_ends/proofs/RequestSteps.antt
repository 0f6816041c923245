-- What keeps step with a call that opens or closes one stream at most.
use Rattle.h2_ends.proofs.Names
use Names.{◌≡◌, ◌≢◌, ℕ, Bool, false, List, Option, Some, None, refl, sym, ap}
use Names.{◌∙◌, inl, inr, both_ways, cases_eq, ne_eqb, Field, Refusal, Values, Act, Answer, Open}
use Names.{SendFields, Number, Done, Refused, Log, MayAnswer, accepts, lacks, grows_call}
use Names.{is_number_used, Said, tokens_heard, End, Stream, Waiting}
use Names.{Outgoing}
use Names.{Span, Spans, EndLog, tokens_handed, EndRepresents, RepresentsBut}
use Names.{RepresentsMessages, IsInStep, WaitsWithin, InSpan, HandsInOrder, KeepsOne, given_stream}
use Names.{call_may_close, refuses, fails, none_holds}
use Rattle.h2_spec_log.specs.CallRules.{conditions}
use Rattle.hpack.proofs.Tests.{none_since, and_false as never_both}
use Rattle.h2_ends.proofs.EndSteps.{called_end, kept}
use Rattle.h2_ends.proofs.InSteps.{in_step_called, active_called}
use Rattle.h2_ends.specs.declared.outgoing.Outgoing.TheVariants as outgoings

-- What is in a span is in a wider one.
wider : (spans more : Spans) (stream : Option Stream) (happened : EndLog) (i : ℕ)
    → (InSpan spans.waiting i → InSpan more.waiting i) → more.owing ≡ spans.owing
    → more.turn ≡ spans.turn → more.malformed ≡ spans.malformed
    → IsInStep spans stream happened i → IsInStep more stream happened i
wider spans more stream happened i grows same turn malformed is =
    record {
      all = is.all;
      handed = is.handed;
      within = λ waiting waits. grows (is.within waiting waits);
      owes = rw same is.owes;
      turn = turn ∙ is.turn;
      malformed = malformed ∙ is.malformed;
    }

-- A call that opens and closes no stream but one leaves the others in step, and active.
pub stepped_but : (values : Values) (end new : End) (happened : EndLog) (act : Act)
    (answer : Answer) (id : ℕ) (stream : Option Stream) (accepted : List (ℕ × Said))
    → EndRepresents values end happened → MayAnswer happened.log act answer
    → RepresentsMessages values new (called_end happened act answer accepted)
    → KeepsOne end new id stream
    → ((i : ℕ) → InSpan end.spans.waiting i → InSpan new.spans.waiting i)
    → new.spans.owing ≡ end.spans.owing → new.spans.turn ≡ end.spans.turn
    → new.spans.malformed ≡ end.spans.malformed
    → ((i : ℕ) → i ≢ id → answer ≢ Number i)
    → ((i : ℕ) → i ≢ id → call_may_close i act answer ≡ false)
    → IsInStep new.spans stream (called_end happened act answer accepted) id
    → RepresentsBut values new (called_end happened act answer accepted) id
stepped_but values end new happened act answer id stream accepted is may streams keeps more owing
    turn malformed opens closes one =
    record {
      streams = streams;
      in_step = λ i. elim (cases_eq i id) [
        | inl here ↦ rw (here, keeps.one) one
        | inr other ↦ rw (keeps.others i other) (wider end.spans new.spans (kept end i)
            (called_end happened act answer accepted) i (more i) owing turn malformed
            (in_step_called _ values end.spans (kept end i) happened act answer accepted i
            is.streams.conn.machine.came may (opens i other) (is.in_step i)))
      ];
      active = λ i other. rw (keeps.others i other) (active_called _ values happened.log act answer
          (kept end i) i is.streams.conn.machine.came may (closes i other) (is.active i));
    }

-- A call that answers the number of a stream opens no other one.
pub opens_one : (i id : ℕ) → i ≢ id → Number id ≢ Number i
opens_one i id other same = other (let one : i ≡ id = cc in one)

-- Sending the head of a request closes no stream, and that of a response none but its own.
pub open_keeps : (i id : ℕ) (fields : List Field) (ends : Bool)
    → call_may_close i (Open fields ends) (Number id) ≡ false
unfolding call_may_close
open_keeps i id fields ends = refl

pub fields_keep : (i id : ℕ) (fields : List Field) (ends : Bool) → i ≢ id
    → call_may_close i (SendFields id fields ends) Done ≡ false
unfolding call_may_close
fields_keep i id fields ends other = rw (ne_eqb id i (λ same. other (sym same))) refl

-- So a head that isn't alone leaves its own stream open too.
pub head_keeps : (i id : ℕ) (fields : List Field) (ends : Bool) → ends ≡ false
    → call_may_close i (SendFields id fields ends) Done ≡ false
unfolding call_may_close
head_keeps i id fields ends goes_on = rw goes_on (never_both _)

-- A call that is refused closes none.
pub refused_open_keeps : (i : ℕ) (fields : List Field) (ends : Bool) (refusal : Refusal)
    → call_may_close i (Open fields ends) (Refused refusal) ≡ false
unfolding call_may_close
refused_open_keeps i fields ends refusal = refl

pub refused_fields_keep : (i id : ℕ) (fields : List Field) (ends : Bool) (refusal : Refusal)
    → call_may_close i (SendFields id fields ends) (Refused refusal) ≡ false
unfolding call_may_close
refused_fields_keep i id fields ends refusal = refl

-- A call opens a stream only while the connection is up.
open_up : (log : Log) (fields : List Field) (ends : Bool) (id : ℕ)
    → MayAnswer log (Open fields ends) (Number id) → log.failed ≡ None
unfolding conditions
open_up log fields ends id (accepts none is) = none_since log.failed (none_holds _ none).0
open_up log fields ends id (refuses refusal holds is) = cc
open_up log fields ends id (lacks none may is) = cc
open_up log fields ends id (fails none may is) = cc

-- On a number that wasn't used nothing is cut short.
uncut : (end : EndLog) (id : ℕ) → is_number_used end.log id ≡ false → end.log.failed ≡ None
    → HandsInOrder end id → tokens_heard id end.log.reported ≡ tokens_handed end id
uncut end id new up (inl same) = same
uncut end id new up (inr cut) = elim cut.last [
  | inl past ↦ absurd (both_ways _ new past.was_used)
  | inr failed ↦ absurd (failed up)
]

-- So what was handed out of the stream that is opened is what was reported of it.
pub handed_open : (end : EndLog) (fields : List Field) (ends : Bool) (id : ℕ)
    (accepted : List (ℕ × Said)) → MayAnswer end.log (Open fields ends) (Number id)
    → is_number_used end.log id ≡ false → HandsInOrder end id
    → HandsInOrder (called_end end (Open fields ends) (Number id) accepted) id
handed_open end fields ends id accepted may new hands =
    inl (ap (tokens_heard id) (grows_call end.log (Open fields ends) (Number id)).reported
    ∙ uncut end id new (open_up end.log fields ends id may) hands)

-- What waits of what is given is in the span.
pub within_given : (span : Span) (id : ℕ) (outgoing : Outgoing) (stream : Stream)
    → ((waiting : Waiting) → outgoing ≡ outgoings.Waiting waiting → InSpan span id)
    → WaitsWithin span (Some (given_stream outgoing stream)) id
within_given span id outgoing stream here = here
