-- A connection that has failed stays failed. So where memory was not refused where it counts, it
-- was not in any act.
use Rattle.h2_joined.specs.Joints.{NoneWasEnded, Calls}
use Rattle.h2_laws_end.proofs.Failures.{same_output}
use Rattle.h2_wire.proofs.ReadingLemmas.{none_some}
use Rattle.h2_spec_log.specs.LogView.{log_view}
use Rattle.h2_spec_log.specs.CallRules.{conditions, first_of, may_lack_memory}
use Rattle.h2_spec_log.specs.CallRules.{may_fail_for_memory}
use Rattle.h2_spec_log.specs.LogCalls as calling
use Rattle.h2_joined.proofs.Names
use Names.{suc, take, drop, Result, Ok, Err, refl, ap, subst, ◌∙◌, Code, InternalError, Values, Act}
use Names.{Answer, Number, Count, Done, OutOfMemory, Refused, SendFields, Refuse, PutOut, Log}
use Names.{MayAnswer, with_call, log_after_take, Took, FieldsEvent, Said, Malformed}
use Names.{EndRefusal, EndLog, EndAnswer, EndFailed, EndMayTake, hands_nothing, hands_out}
use Names.{refusal_fails, runs_out_of_memory, memory_fails, Side, Acted, Doing, JointEnd, Made}
use Names.{Delivery, Fails, IsDelivered, MayDo, IsJoint, IsNextAct, MemorySufficed}
use Names.{acted_by, acted_as, MayAsk, MayReply, MaySendBody, MaySendTrailers, IsTypedAct, Option}
use Names.{Bool, true, Field, ◌≡◌, ◌≢◌, ℕ, List, Some, Failed, fails}
use Names.{passes, refuses, Client, Server, Fail, None, sym, false}
use Names.{both_ways}
use Rattle.h2_message.specs.declared.reading.Reads.TheVariants.{Requests}
use Rattle.h2_spec_log.specs.Acts.{SendData}
use Rattle.h2_laws_pair.specs.Tokens.{at_once}
use Rattle.h2_ends.specs.EndCalls.{opened_with, answered_with, answer_reads, begun}
use Rattle.h2_laws_pair.proofs.StepCalls.{call_failed}
use Rattle.h2_joined.proofs.JointHolds.{ActHadMemory, AllHadMemory}
use Rattle.h2_joined.proofs.JointCalls.{IsOrdinary, answers_in_memory}
use Rattle.h2_joined.proofs.JointChains.{KeptByCalls, holds_by_pump, holds_by_pump_some}
use Rattle.h2_joined.proofs.JointChains.{holds_by_release}
use Rattle.h2_joined.proofs.JointChains.{holds_by_refused_ask, holds_by_refused_reply}
use Rattle.h2_joined.proofs.JointChains.{holds_by_refused_body, holds_by_refused_trailers}
use Rattle.h2_joined.specs.declared.act.Acted.TheVariants as acted
use Rattle.h2_joined.specs.Joints as joints

-- No call but the refusal of a stream, and the one that asks for it, makes the connection fail.
call_stays : (log : Log) (act : Act) (answer : Answer) → ((id code : ℕ) → act ≢ Refuse id code)
    → ((code : Code) → act ≢ Fail code) → MayAnswer log act answer
    → (with_call log act answer).failed ≡ log.failed
call_stays log act answer other goes_on may =
    call_failed log act answer other goes_on (answers_in_memory log act answer other may)

-- An end has failed with this code.
abbrev HasFailed : Code → EndLog → Type 0
HasFailed code end = end.log.failed ≡ Some code

failed_kept : (code : Code) → KeptByCalls (HasFailed code)
failed_kept code end act answer failed ordinary typed may next =
    call_stays end.log act answer (λ id c is. absurd (subst IsOrdinary is ordinary))
    (λ c is. absurd (subst IsOrdinary is ordinary)) may ∙ failed

ask_keeps : (code : Code) (broken : Option Malformed) (end after : EndLog) (said : Said)
    (result : Result ℕ EndRefusal) → MayAsk broken end said result after → HasFailed code end
    → HasFailed code after
unfolding MayAsk
ask_keeps code broken end after said (Ok id) (unbroken, fits, may, same) failed =
    ap (λ (e : EndLog). e.log.failed) same
    ∙ (call_stays end.log (opened_with said) (Number id) (λ i c is. cc) (λ c is. cc) may ∙ failed)
ask_keeps code broken end after said (Err refusal) may failed =
    holds_by_refused_ask (HasFailed code) (failed_kept code) broken end after said refusal may
    failed

reply_keeps : (code : Code) (broken : Option Malformed) (end after : EndLog) (id : ℕ)
    (said : Said) (result : Result (Unit {0}) EndRefusal)
    → MayReply broken end id said result after → HasFailed code end → HasFailed code after
unfolding MayReply
reply_keeps code broken end after id said (Ok done) (asked, none, well, fits, may, same) failed =
    ap (λ (e : EndLog). e.log.failed) same
    ∙ (call_stays end.log (answered_with id said) Done (λ i c is. cc) (λ c is. cc) may ∙ failed)
reply_keeps code broken end after id said (Err refusal) may failed =
    holds_by_refused_reply (HasFailed code) (failed_kept code) broken end after id said refusal may
    failed

body_keeps : (code : Code) (end after : EndLog) (id : ℕ) (octets : List ℕ) (ends : Bool)
    (result : Result ℕ EndRefusal) → IsTypedAct (SendData id octets ends)
    → MaySendBody end id octets ends result after → HasFailed code end → HasFailed code after
unfolding MaySendBody
body_keeps code end after id octets ends (Ok count) typed (said, number, is, fits, may, same)
    failed =
    ap (λ (e : EndLog). e.log.failed) same
    ∙ (call_stays end.log (SendData id octets ends) (Count count) (λ i c is. cc) (λ c is. cc) may
    ∙ failed)
body_keeps code end after id octets ends (Err refusal) typed may failed =
    holds_by_refused_body (HasFailed code) (failed_kept code) end after id octets ends refusal typed
    may failed

trailers_keep : (code : Code) (end after : EndLog) (id : ℕ) (list : List Field)
    (result : Result (Unit {0}) EndRefusal) → IsTypedAct (SendFields id list true)
    → MaySendTrailers end id list result after → HasFailed code end → HasFailed code after
unfolding MaySendTrailers
trailers_keep code end after id list (Ok done) typed (said, number, is, fits, may, same) failed =
    ap (λ (e : EndLog). e.log.failed) same
    ∙ (call_stays end.log (SendFields id list true) Done (λ i c is. cc) (λ c is. cc) may ∙ failed)
trailers_keep code end after id list (Err refusal) typed may failed =
    holds_by_refused_trailers (HasFailed code) (failed_kept code) end after id list refusal typed
    may failed

-- A call of a connection that has failed leaves it failed with the same code.
call_keeps_code : (log : Log) (act : Act) (answer : Answer) (code : Code)
    → MayAnswer log act answer → log.failed ≡ Some code
    → (with_call log act answer).failed ≡ Some code
call_keeps_code log act answer code may failed =
    (same_output log code act answer failed may).failed ∙ failed

-- Where an act is done with an end that has failed, it stays failed,
act_keeps : (one other new_one new_other : JointEnd) (doing : Doing) (answer : Acted) (code : Code)
    → MayDo one other doing answer new_one new_other
    → HasFailed code one.happened → HasFailed code new_one.happened
act_keeps one other _ _ _ _ code (joints.requests message result after typed may) failed =
    ask_keeps code _ one.happened after (at_once message) result may failed
act_keeps one other _ _ _ _ code (joints.responds id message result after small typed may)
    failed = reply_keeps code _ one.happened after id (at_once message) result may failed
act_keeps one other _ _ _ _ code (joints.begins_request head result after typed may) failed =
    ask_keeps code _ one.happened after (begun Requests head) result may failed
act_keeps one other _ _ _ _ code (joints.begins_answer id head result after small typed may)
    failed =
    reply_keeps code _ one.happened after id (begun (answer_reads one.happened id) head) result may
    failed
act_keeps one other _ _ _ _ code (joints.sends_body id octets ends result after typed may)
    failed = body_keeps code one.happened after id octets ends result typed may failed
act_keeps one other _ _ _ _ code (joints.sends_trailers id list result after typed may) failed =
    trailers_keep code one.happened after id list result typed may failed
act_keeps one other _ _ _ _ code (joints.pumps result after may) failed =
    holds_by_pump (HasFailed code) (failed_kept code) one.happened after result may failed
act_keeps one other _ _ _ _ code (joints.pumps_some most result after may) failed =
    holds_by_pump_some (HasFailed code) (failed_kept code) (λ end turn is. is) most one.happened
    after result may failed
act_keeps one other _ _ _ _ code (joints.releases_all result after may) failed =
    holds_by_release (HasFailed code) (failed_kept code) one.happened after result may failed
act_keeps one other _ _ _ _ code (joints.calls act answer call typed may) failed =
    call_keeps_code one.happened.log act answer code may failed
act_keeps one other _ _ _ _ code (joints.moves count answer typed may) failed =
    call_stays one.happened.log (PutOut count) answer (λ id c is. cc) (λ c is. cc) may
    ∙ failed
act_keeps one other _ _ _ _ code (joints.delivers count after up delivered) failed =
    absurd (cc)
act_keeps one other _ _ _ _ code (joints.delivery_fails count fault after up delivered)
    failed = absurd (cc)
act_keeps one other _ _ _ _ code (joints.has_failed count fault is) failed = failed
act_keeps one other _ _ _ _ code (joints.delivery_stops count unused after up delivered)
    failed = absurd (cc)
act_keeps one other _ _ _ _ code (joints.no_copy_of_a_request message) failed = failed
act_keeps one other _ _ _ _ code (joints.no_copy_of_a_response id message) failed = failed
act_keeps one other _ _ _ _ code (joints.no_copy_of_a_head head) failed = failed
act_keeps one other _ _ _ _ code (joints.no_copy_of_an_answer id head) failed = failed
act_keeps one other _ _ _ _ code (joints.no_copy_of_octets id octets ends) failed = failed
act_keeps one other _ _ _ _ code (joints.no_copy_of_trailers id list) failed = failed

-- and at the other nothing happens.
pub other_stays : (one other new_one new_other : JointEnd) (doing : Doing) (answer : Acted)
    → MayDo one other doing answer new_one new_other → new_other.happened ≡ other.happened
other_stays one other _ _ _ _ (joints.requests message result after typed may) = refl
other_stays one other _ _ _ _ (joints.responds id message result after small typed may) = refl
other_stays one other _ _ _ _ (joints.begins_request head result after typed may) = refl
other_stays one other _ _ _ _ (joints.begins_answer id head result after small typed may) = refl
other_stays one other _ _ _ _ (joints.sends_body id octets ends result after typed may) = refl
other_stays one other _ _ _ _ (joints.sends_trailers id list result after typed may) = refl
other_stays one other _ _ _ _ (joints.pumps result after may) = refl
other_stays one other _ _ _ _ (joints.pumps_some most result after may) = refl
other_stays one other _ _ _ _ (joints.releases_all result after may) = refl
other_stays one other _ _ _ _ (joints.calls act answer call typed may) = refl
other_stays one other _ _ _ _ (joints.moves count answer typed may) = refl
other_stays one other _ _ _ _ (joints.delivers count after up delivered) = refl
other_stays one other _ _ _ _ (joints.delivery_fails count fault after up delivered) = refl
other_stays one other _ _ _ _ (joints.has_failed count fault is) = refl
other_stays one other _ _ _ _ (joints.delivery_stops count unused after up delivered) = refl
other_stays one other _ _ _ _ (joints.no_copy_of_a_request message) = refl
other_stays one other _ _ _ _ (joints.no_copy_of_a_response id message) = refl
other_stays one other _ _ _ _ (joints.no_copy_of_a_head head) = refl
other_stays one other _ _ _ _ (joints.no_copy_of_an_answer id head) = refl
other_stays one other _ _ _ _ (joints.no_copy_of_octets id octets ends) = refl
other_stays one other _ _ _ _ (joints.no_copy_of_trailers id list) = refl

-- A call of `take` that answers a failure leaves the connection failed so.
take_fails : (end after : EndLog) (piece : List ℕ) (answer : EndAnswer) (code : Code)
    → EndMayTake end piece answer after → answer ≡ EndFailed code → after.log.failed ≡ Some code
take_fails end after piece answer code (fails fault log may answers same) is =
    let down : log.failed ≡ Some fault =
    (log_after_take end.log log piece (Failed fault) may).5 in
    let so : log.failed ≡ Some code = cc in
    ap (λ (e : EndLog). e.log.failed) same ∙ so
take_fails end after piece answer code (hands_nothing used log may answers same) is = absurd (cc)
take_fails end after piece answer code (passes used event log may unread answers same) is =
    absurd (cc)
take_fails end after piece answer code
    (hands_out used event log may id part of readable answers same) is = absurd (cc)
take_fails end after piece answer code
    (refuses used event log may id part of stops refused answers_it up answers same) is =
    absurd (cc)
take_fails end after piece answer code
    (refusal_fails used event log may id part of stops refused answers_it fault down answers same)
    is =
    let so : (with_call log (Refuse id 1) refused).failed ≡ Some code = cc in
    ap (λ (e : EndLog). e.log.failed) same ∙ so
take_fails end after piece answer code
    (runs_out_of_memory used id list ends log may role first readable refused answers_it answers
    same) is =
    let down : (with_call log (Refuse id 2) refused).failed ≡ Some InternalError =
    memory_fails log id refused
    (log_after_take end.log log piece (Took used (Some (FieldsEvent id list ends))) may).6
    answers_it in
    let so : (with_call log (Refuse id 2) refused).failed ≡ Some code = cc in
    ap (λ (e : EndLog). e.log.failed) same ∙ so

-- So does a delivery that fails.
pub delivery_fails : (calls : ℕ) (end after : EndLog) (octets : List ℕ) (delivery : Delivery)
    (code : Code) → IsDelivered calls end octets delivery after → delivery ≡ Fails code
    → after.log.failed ≡ Some code
delivery_fails _ end after _ _ code (joints.is_whole calls octets few may) is = absurd (cc)
delivery_fails _ end after _ _ code
    (joints.goes_on {between = between} calls octets count handed delivery few may more
    delivered) is =
    delivery_fails (suc calls) between after (drop count octets) delivery code delivered is
delivery_fails _ end after _ _ code (joints.fails calls octets fault few may) is =
    let same : EndFailed fault ≡ EndFailed code = cc in
    take_fails end after octets (EndFailed fault) code may same
delivery_fails _ end _ _ _ code (joints.stops calls octets) is = absurd (cc)

-- No call answers a failure.
id_is_none : (result : Result ℕ EndRefusal) (code : Code)
    → acted_by acted.Id result ≢ acted.Failed code
id_is_none (Ok id) code is = cc
id_is_none (Err refusal) code is = cc

count_is_none : (result : Result ℕ EndRefusal) (code : Code)
    → acted_by acted.Count result ≢ acted.Failed code
count_is_none (Ok count) code is = cc
count_is_none (Err refusal) code is = cc

done_is_none : (result : Result (Unit {0}) EndRefusal) (code : Code)
    → acted_by (λ done. acted.Done) result ≢ acted.Failed code
done_is_none (Ok done) code is = cc
done_is_none (Err refusal) code is = cc

answer_is_none : (answer : Answer) (code : Code) → acted_as answer ≢ acted.Failed code
answer_is_none (Number id) code is = cc
answer_is_none (Count count) code is = cc
answer_is_none Done code is = cc
answer_is_none OutOfMemory code is = cc
answer_is_none (Refused refusal) code is = cc

-- An act that answers a failure leaves the end failed so.
act_fails : (one other new_one new_other : JointEnd) (doing : Doing) (answer : Acted) (code : Code)
    → MayDo one other doing answer new_one new_other → answer ≡ acted.Failed code
    → HasFailed code new_one.happened
act_fails one other _ _ _ _ code (joints.requests message result after typed may) is =
    absurd (id_is_none result code is)
act_fails one other _ _ _ _ code (joints.responds id message result after small typed may) is =
    absurd (done_is_none result code is)
act_fails one other _ _ _ _ code (joints.begins_request head result after typed may) is =
    absurd (id_is_none result code is)
act_fails one other _ _ _ _ code (joints.begins_answer id head result after small typed may) is =
    absurd (done_is_none result code is)
act_fails one other _ _ _ _ code (joints.sends_body id octets ends result after typed may) is =
    absurd (count_is_none result code is)
act_fails one other _ _ _ _ code (joints.sends_trailers id list result after typed may) is =
    absurd (done_is_none result code is)
act_fails one other _ _ _ _ code (joints.pumps result after may) is =
    absurd (count_is_none result code is)
act_fails one other _ _ _ _ code (joints.pumps_some most result after may) is =
    absurd (count_is_none result code is)
act_fails one other _ _ _ _ code (joints.releases_all result after may) is =
    absurd (done_is_none result code is)
act_fails one other _ _ _ _ code (joints.calls act answer call typed may) is =
    absurd (answer_is_none answer code is)
act_fails one other _ _ _ _ code (joints.moves count answer typed may) is =
    absurd (answer_is_none answer code is)
act_fails one other _ _ _ _ code (joints.delivers count after up delivered) is = absurd (cc)
act_fails one other _ _ _ _ code (joints.delivery_fails count fault after up delivered) is =
    let same : Fails fault ≡ Fails code = cc in
    delivery_fails 0 one.happened after (take count one.incoming) (Fails fault) code delivered same
act_fails one other _ _ _ _ code (joints.has_failed count fault failed) is = cc
act_fails one other _ _ _ _ code (joints.delivery_stops count unused after up delivered) is =
    absurd (cc)
act_fails one other _ _ _ _ code (joints.no_copy_of_a_request message) is = absurd (cc)
act_fails one other _ _ _ _ code (joints.no_copy_of_a_response id message) is = absurd (cc)
act_fails one other _ _ _ _ code (joints.no_copy_of_a_head head) is = absurd (cc)
act_fails one other _ _ _ _ code (joints.no_copy_of_an_answer id head) is = absurd (cc)
act_fails one other _ _ _ _ code (joints.no_copy_of_octets id octets ends) is = absurd (cc)
act_fails one other _ _ _ _ code (joints.no_copy_of_trailers id list) is = absurd (cc)

-- So memory was not refused to the connection in an act after which it has not failed so.
had_memory_in : (side : Side) (one other new_one new_other : JointEnd) (doing : Doing)
    (answer : Acted) → MayDo one other doing answer new_one new_other
    → new_one.happened.log.failed ≢ Some InternalError
    → ((code : Code) → doing ≢ Calls (Fail code))
    → ActHadMemory (record { side = side; doing = doing; acted = answer })
had_memory_in side one other new_one new_other doing answer may went_on none =
    record {
      connection = λ is. went_on
          (act_fails one other new_one new_other doing answer InternalError may is);
      not_ended = none;
    }

-- So was it before an act, and in the act.
had_before : (client server new_client new_server : JointEnd) (act : Made)
    → IsNextAct client server act new_client new_server
    → MemorySufficed new_client new_server → ((code : Code) → act.doing ≢ Calls (Fail code))
    → ActHadMemory act × MemorySufficed client server
had_before client server new_client new_server _ (joints.at_client doing answer may) had none = (
  had_memory_in Client client server new_client new_server doing answer may had.client_went_on
      none,
  record {
    client_went_on = λ failed. had.client_went_on (act_keeps client server new_client new_server
        doing answer InternalError may failed);
    server_went_on = λ failed. had.server_went_on
        (ap (λ (e : EndLog). e.log.failed)
        (other_stays client server new_client new_server doing answer may) ∙ failed);
  },
)
had_before client server new_client new_server _ (joints.at_server doing answer may) had none = (
  had_memory_in Server server client new_server new_client doing answer may had.server_went_on
      none,
  record {
    client_went_on = λ failed. had.client_went_on
        (ap (λ (e : EndLog). e.log.failed)
        (other_stays server client new_server new_client doing answer may) ∙ failed);
    server_went_on = λ failed. had.server_went_on (act_keeps server client new_server new_client
        doing answer InternalError may failed);
  },
)

-- So memory was not refused in any act.
pub had_memory : (client_values server_values : Values) (made : List Made)
    (client server : JointEnd) → IsJoint client_values server_values made client server
    → MemorySufficed client server → NoneWasEnded made → AllHadMemory made
had_memory client_values server_values _ _ _ (joints.begins client_range server_range) had none = tt
had_memory client_values server_values _ new_client new_server
    (joints.continues {history = made} {client = client} {server = server} is act next) had none =
    let before = had_before client server new_client new_server act next had none.0 in
    (before.0, had_memory client_values server_values made client server is before.1 none.1)

-- A connection that is up is ended by such a call,
ended_by : (log : Log) (code : Code) (answer : Answer) → log.failed ≡ None
    → MayAnswer log (Fail code) answer → (with_call log (Fail code) answer).failed ≡ None → ⊥
unfolding with_call conditions first_of may_lack_memory may_fail_for_memory
ended_by log code answer was_up (calling.accepts none is) up =
    let down : (with_call log (Fail code) answer).failed ≡ Some code = rw is refl in
    none_some code (sym up ∙ down)
ended_by log code answer was_up (calling.refuses refusal some is) up =
    let none_failed : (log_view log).failed ≡ None = was_up in absurd (cc)
ended_by log code answer was_up (calling.lacks none may is) up = absurd (both_ways false refl may)
ended_by log code answer was_up (calling.fails none may is) up = absurd (both_ways false refl may)

-- and one that is not stays so:
ended_down : (log : Log) (code : Code) (answer : Answer) → MayAnswer log (Fail code) answer
    → (with_call log (Fail code) answer).failed ≡ None → ⊥
unfolding with_call
ended_down log code answer may up = elim log.failed as (λ (before : Option Code).
    log.failed ≡ before → ⊥) [
      | Some other ↦ λ failed.
          none_some other (sym up ∙ call_keeps_code log (Fail code) answer other may failed)
      | None ↦ λ was_up. ended_by log code answer was_up may up
    ] refl

-- so where both connections are up, none was ended.
was_up_before : (one other new_one new_other : JointEnd) (doing : Doing) (answer : Acted)
    → MayDo one other doing answer new_one new_other → new_one.happened.log.failed ≡ None
    → one.happened.log.failed ≡ None
was_up_before one other new_one new_other doing answer may up =
    elim one.happened.log.failed as (λ (before : Option Code).
    one.happened.log.failed ≡ before → before ≡ None) [
      | None ↦ λ is. refl
      | Some code ↦ λ failed. absurd (none_some code (sym up
          ∙ act_keeps one other new_one new_other doing answer code may failed))
    ] refl

not_ended_in : (one other new_one new_other : JointEnd) (doing : Doing) (answer : Acted)
    → MayDo one other doing answer new_one new_other → new_one.happened.log.failed ≡ None
    → (code : Code) → doing ≢ Calls (Fail code)
not_ended_in one other _ _ _ _ (joints.calls act answer call typed may) up code is =
    let ends : act ≡ Fail code = cc in
    ended_down one.happened.log code answer
    (subst (λ (a : Act). MayAnswer one.happened.log a answer) ends may)
    (subst (λ (a : Act). (with_call one.happened.log a answer).failed ≡ None) ends up)
not_ended_in one other _ _ _ _ may up code is = cc

pub none_was_ended : (client_values server_values : Values) (made : List Made)
    (client server : JointEnd) → IsJoint client_values server_values made client server
    → client.happened.log.failed ≡ None → server.happened.log.failed ≡ None → NoneWasEnded made
none_was_ended client_values server_values _ _ _ (joints.begins client_range server_range) up
    other_up = tt
none_was_ended client_values server_values _ new_client new_server
    (joints.continues {history = made} {client = client} {server = server} is _
    (joints.at_client doing answer may)) up other_up = (
      not_ended_in client server new_client new_server doing answer may up,
      none_was_ended client_values server_values made client server is
          (was_up_before client server new_client new_server doing answer may up)
          (ap (λ (e : EndLog). e.log.failed)
          (sym (other_stays client server new_client new_server doing answer may)) ∙ other_up),
    )
none_was_ended client_values server_values _ new_client new_server
    (joints.continues {history = made} {client = client} {server = server} is _
    (joints.at_server doing answer may)) up other_up = (
      not_ended_in server client new_server new_client doing answer may other_up,
      none_was_ended client_values server_values made client server is
          (ap (λ (e : EndLog). e.log.failed)
          (sym (other_stays server client new_server new_client doing answer may)) ∙ up)
          (was_up_before server client new_server new_client doing answer may other_up),
    )
