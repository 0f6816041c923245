-- A call that is refused, and one by which the connection fails, preserve that an end represents
-- its log.
use Rattle.h2_laws_machine.proofs.Names
use Names.{◌≡◌, ℕ, ◌==◌, true, [], ◌∷◌, Option, Some, None, refl, sym, ap, subst, ◌∙◌, Code}
use Names.{widened}
use Names.{InternalError, Reset, alone, end_view, End, log_view, View, Values, Act, Answer}
use Names.{IsTypedAct, Open, Refuse, Done, OutOfMemory, Refused, Log, active, last_processed}
use Names.{released, code_number, with_failure, called, with_call, with_items, MayAnswer}
use Names.{refuse_fault, items_of, stream_of_act, encoder_after_call, refusal_of, conditions, IsLog}
use Names.{called_one, queue_output, fail, after_refuse, after_call, reset_stream, Represents}
use Names.{Refusal, stream_is_active, and_other, none_holds, Fail}
use Rattle.h2_laws_log.proofs.InvariantCalls.{released_refused, no_fault, released_out_of_memory}
use Rattle.h2_laws_log.proofs.InvariantCalls.{widened_refused}
use Rattle.h2_spec_log.specs.LogCalls.{refused_with}
use Rattle.h2_laws_machine.proofs.CallReset.{reset_up}
use Rattle.h2_laws_machine.proofs.GoAwaysSent.{active_processed}
use Rattle.h2_laws_machine.proofs.LogCore.{core, StreamsOf, going, runs}
use Rattle.h2_laws_machine.proofs.RepresentedSteps.{Up, up_of, views_of_up, represents_after}
use Rattle.h2_laws_machine.proofs.RepresentedSteps.{called_up, called_going}
use Rattle.h2_laws_machine.proofs.SentConnectionItems.{failing_streams}
use Rattle.h2_laws_machine.proofs.SentQuietItems.{called_streams}
use Rattle.h2_laws_machine.proofs.WaitingOutput.{fails_connection, waits_of}

-- The streams don't hang on a call that releases nothing, nor on the failure after it.
called_failing : (values : Values) (e : End) (log : Log) (act : Act) (answer : Answer) (code : Code)
    → ((i : ℕ) → released i ((act, answer) ∷ log.calls) ≡ released i log.calls)
    → Represents values e log → log.failed ≡ None
    → StreamsOf e.streams (core (with_failure code (last_processed log) (called log act answer)))
called_failing values e log act answer code quiet represents up =
    failing_streams _ _ _ _ (active_processed e.role values log represents.came up)
    (called_streams e.streams (core log) ((act, answer) ∷ log.calls) quiet represents.streams)

-- An end whose connection fails by a call that releases nothing represents its log.
fails_represent : (values : Values) (e : End) (log : Log) (act : Act) (answer : Answer)
    (code : Code) → ((i : ℕ) → released i ((act, answer) ∷ log.calls) ≡ released i log.calls)
    → Represents values e log → e.failed ≡ None
    → IsLog e.role values (with_failure code (last_processed log) (called log act answer))
    → Represents values (fail code e.streams.last_processed e)
    (with_failure code (last_processed log) (called log act answer))
unfolding last_processed
fails_represent values e log act answer code quiet represents up came =
    let base = called log act answer in
    let waits = fails_connection _ _ _ _ (end_view e).max_payload code e.streams.last_processed
    (last_processed log) represents.streams.last_processed (waits_of values e log represents) in
    record {
      came = came;
      role = waits.same_role;
      failed = waits.same_failed;
      output = waits.output;
      streams = called_failing values e log act answer code quiet represents
          (sym represents.failed ∙ up);
      running = λ still. cc;
      whole = represents.whole;
      used = represents.used;
    }

-- A call that is refused leaves the encoder as it is.
refused_encoder : (log : Log) (act : Act) (refusal : Refusal)
    → log.encoder ≡ encoder_after_call log.encoder act (Refused refusal)
unfolding encoder_after_call
refused_encoder log (Open fields end) refusal = refl
refused_encoder log act refusal = refl

-- An end that refuses a call represents its log with the call.
pub refused_represents : (values : Values) (e : End) (log : Log) (act : Act) (refusal : Refusal)
    → Represents values e log → IsTypedAct act
    → MayAnswer log act (Refused refusal)
    → Represents values e (with_call log act (Refused refusal))
unfolding with_call
refused_represents values e log act refusal represents typed may = record {
  came = called_one represents.came act (Refused refusal) typed may;
  role = represents.role;
  failed = represents.failed;
  output = represents.output;
  streams = called_streams e.streams (core log) ((act, Refused refusal) ∷ log.calls)
      (λ i. released_refused i act refusal log.calls) represents.streams;
  running = λ up.
      let run = represents.running up in
      runs e (called log act (Refused refusal)) run.started
      (called_going e log act (Refused refusal) e.output.encoder (run.encoder
      ∙ refused_encoder log act refusal)
      (λ i. released_refused i act refusal log.calls) (widened_refused act refusal log.calls)
      (going e log represents.streams run));
  whole = represents.whole;
  used = represents.used;
}

-- An end that is out of memory represents its log.
pub out_of_memory_represents : (values : Values) (e : End) (log : Log) (act : Act)
    → Represents values e log → IsTypedAct act → MayAnswer log act OutOfMemory
    → e.failed ≡ None → Represents values (fail InternalError e.streams.last_processed e)
    (with_call log act OutOfMemory)
unfolding with_call
out_of_memory_represents values e log act represents typed may up =
    fails_represent _ _ _ _ OutOfMemory InternalError (λ i. released_out_of_memory i act log.calls)
    represents up (called_one represents.came act OutOfMemory typed may)

-- An end that ends the connection by a call represents its log.
pub end_represents : (values : Values) (e : End) (log : Log) (code : Code)
    → Represents values e log → IsTypedAct (Fail code) → MayAnswer log (Fail code) Done
    → e.failed ≡ None
    → Represents values (after_call e (Fail code)) (with_call log (Fail code) Done)
unfolding after_call with_call released
end_represents values e log code represents typed may up =
    fails_represent values e log (Fail code) Done code (λ i. refl) represents up
    (called_one represents.came (Fail code) Done typed may)

-- Refusing a stream makes the connection fail where the log's does.
fault_same : (values : Values) (e : End) (log : Log) (code : ℕ) → Represents values e log
    → e.failed ≡ None
    → refuse_fault (end_view e) code ≡ refuse_fault (log_view log) code
unfolding refuse_fault
fault_same values e log code represents up =
    ap (λ (view : View). refuse_fault view code) (views_of_up e log (up_of _ _ log represents up))

-- Where a stream may be refused, and the connection doesn't fail, it is active.
refused_active : (log : Log) (id code : ℕ) → refusal_of (log_view log) (Refuse id code) ≡ None
    → refuse_fault (log_view log) code ≡ None → active log id ≡ true
unfolding conditions refuse_fault
refused_active log id code none is =
    let holds = none_holds _ none in
    let other = no_fault (code == code_number InternalError) _ is in
    stream_is_active log id (and_other (code == code_number InternalError) _ holds.1.0 other)

-- A stream is refused, by what that makes of the connection.
refuse_by : (values : Values) (e : End) (log : Log) (id code : ℕ) (x : Option Code)
    → refuse_fault (log_view log) code ≡ x → Represents values e log
    → IsTypedAct (Refuse id code) → MayAnswer log (Refuse id code) Done
    → refusal_of (end_view e) (Refuse id code) ≡ None
    → refusal_of (log_view log) (Refuse id code) ≡ None
    → e.failed ≡ None → Represents values (after_call e (Refuse id code))
    (with_call log (Refuse id code) Done)
unfolding after_call with_call refused_with with_items items_of stream_of_act encoder_after_call
    released widened
refuse_by values e log id code (Some fault) is represents typed may accepted none up =
    let came = called_one represents.came (Refuse id code) Done typed may in
    let made = fails_represent values e log (Refuse id code) Done fault (λ i. refl) represents up
    (subst (λ (x : Option Code). IsLog e.role values (refused_with log (Refuse id code) Done x)) is
    came) in
    subst (λ (x : Option Code). Represents values (after_refuse e id code x)
    (refused_with log (Refuse id code) Done (refuse_fault (log_view log) code)))
    (sym (fault_same values e log code represents up ∙ is))
    (subst (λ (x : Option Code). Represents values (fail fault e.streams.last_processed e)
    (refused_with log (Refuse id code) Done x)) (sym is) made)
refuse_by values e log id code None is represents typed may accepted none up =
    let active_is = refused_active log id code none is in
    let base = called log (Refuse id code) Done in
    let made = reset_up e log base id code active_is active_is
    (called_up e log (Refuse id code) Done refl (λ i. refl) refl (up_of values e log represents up)) in
    let all : Up (after_refuse e id code (refuse_fault (end_view e) code))
    (refused_with log (Refuse id code) Done (refuse_fault (log_view log) code)) =
    subst (λ (x : Option Code). Up (after_refuse e id code x)
    (refused_with log (Refuse id code) Done (refuse_fault (log_view log) code)))
    (sym (fault_same values e log code represents up ∙ is))
    (subst (λ (x : Option Code). Up (reset_stream (queue_output e (alone (Reset id code) ∷ [])) id
    0) (refused_with log (Refuse id code) Done x)) (sym is) made) in
    represents_after values e log (Refuse id code) Done represents typed may accepted all

-- A stream is refused.
pub refuse_represents : (values : Values) (e : End) (log : Log) (id code : ℕ)
    → Represents values e log
    → IsTypedAct (Refuse id code) → MayAnswer log (Refuse id code) Done
    → refusal_of (end_view e) (Refuse id code) ≡ None
    → refusal_of (log_view log) (Refuse id code) ≡ None
    → e.failed ≡ None → Represents values (after_call e (Refuse id code))
    (with_call log (Refuse id code) Done)
refuse_represents values e log id code represents typed may accepted none up =
    refuse_by _ _ _ _ _ _ refl represents typed may accepted none up
