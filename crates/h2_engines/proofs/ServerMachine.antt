-- What a server that is driven makes of octets, and of what is due.
use Rattle.h2_engines.proofs.Names
use Names.{◌≡◌, ◌≤◌, ◌<◌, ℕ, ◌+◌, ◌-◌, ◌^◌, Bool, true, false, List, ◌∷◌, length, Some, None}
use Names.{Result, Ok, Err, refl, sym, ap, ◌∙◌, subst, inl, arith, Refusal, Answer, SendFields}
use Names.{ResetStream, Done, Refused, Log, log_view, MayAnswer, accepts, lacks, is_head_alone}
use Names.{first_in, SentMessage, EndRefusal, EndLog, EndAnswer, EndTook, EndFailed, EndMayTake}
use Names.{end_with_log, LinkError, waiting, parts_on, Heard, Request, Responder, answer_with}
use Names.{is_too_large_body, IsOfCall, Traffic, IsResponding, calm, IsTypedAct, conditions}
use Names.{at_once, first_of, with_call, MayReply, MayRespond, KeepsNext, ResetSo, IfErr, fails}
use Names.{if◌then◌else◌, leb-true, max_resets, Requests, CannotReset, KeepsRequests, IsToAnswer}
use Names.{Serving, Course, EndsFor, HearsNoMore, gives_up, Hears, Responds, Keeps, RespondedSo}
use Names.{resets_written, refusal_of, refuses}
use Rattle.h2_engines.specs.ServerSteps.{ServerAnswers, is_refused, ServerResets, AnsweredSo}
use Rattle.h2_engines.specs.ServerSteps.{ServerHears, HeardSo, ErrsServing, NotAnswered, no_memory}
use Rattle.h2_engines.specs.ServerSteps.{counted_answer, counts_no_more}
use Rattle.h2_engines.specs.ServerHistories.{takes, answers, resets}
use Rattle.h2_engines.proofs.AnswerRequests.{kept_to_answer, kept_answered, kept_reset}
use Rattle.h2_engines.proofs.MachineHears.{hears_on, hears_last}
use Rattle.h2_engines.proofs.MachineLaws.{ends_linked}
use Rattle.h2_engines.proofs.MachineViews.{server_held}
use Rattle.h2_engines.proofs.NoteHanded.{kept_noted}
use Rattle.h2_engines.proofs.ResponderEnds.{given_within}
use Rattle.h2_engines.proofs.ResponderRefusals.{answer_not_full}
use Rattle.h2_engines.proofs.LinkInvariants.{CallsKeep, AnswersKeep, sends_quietly, responded_keeps}
use Rattle.h2_engines.proofs.LinkInvariants.{kept_role}
use Rattle.h2_engines.proofs.TakeMessages.{taken_says, kept_failed}
use Rattle.h2_engines.proofs.ServeLinkLogs.{GoesOn, goes_none, goes_twice, call_goes, goes_links}
use Rattle.h2_engines.proofs.ServeLinkTakes.{SaysUsed}
use Rattle.h2_engines.proofs.TurnsPassed.{turns_of_response, turns_of_call}
use Rattle.h2_spec_log.specs.declared.refusal.Refusal.TheVariants as reasons
use Rattle.h2_link.specs.declared.error.LinkError.TheVariants as errors
use Rattle.h2_engines.specs.declared.request.Next.TheVariants as nexts
use Rattle.h2_engines.specs.Machines as stops

-- Why it can't hear on.
hears_why : (message : SentMessage) (requests : Requests) (answered : ℕ) {end : EndLog}
    {piece : List ℕ} (answer : EndAnswer) {after : EndLog} (error : LinkError) (octets : List ℕ)
    → EndMayTake end piece answer after → ErrsServing answer error
    → SaysUsed answer octets after.log
    → HearsNoMore message (Serving requests answered) after error
unfolding ErrsServing
hears_why message requests answered (EndTook count handed) error octets may errs says =
    gives_up says.1 tt (inl errs)
hears_why message requests answered (EndFailed code) error octets may errs says =
    stops.fails code (kept_failed may) errs (λ other. tt)

-- It hears of a piece.
pub server_hears : (old new : Responder) (piece : List ℕ) (result : Result Heard LinkError)
    → new.answered ≡ old.answered
    → ServerHears old.server.end new.server.end old.requests new.requests piece result
    → Hears (server_held old) (server_held new) piece result
unfolding HeardSo Keeps KeepsNext
server_hears old new piece (Ok heard) same hears course now end is =
    let now_is = hears course.values end is.represents in
    let says = now_is.2 in
    let taken = taken_says says.1 in (
      now_is.0,
      hears_on (server_held new) heard says.0 is says.1 now_is.1
          (takes is.happened piece _ says.1) (
            kept_noted says.0 old.requests new.requests heard.next (kept_role is.happened)
                is.keeps.0
                says.1 says.2,
            same ∙ is.keeps.1 ∙ ap length (sym taken.accepted),
          ) says.3,
    )
server_hears old new piece (Err error) same hears course now end is =
    let now_is = hears course.values end is.represents in
    let says = now_is.2 in (
      now_is.0,
      hears_last (server_held new) error is says.1 now_is.1 (takes is.happened piece says.0 says.1)
          (λ octets used. hears_why course.message new.requests new.answered says.0 error octets
          says.1 says.2 used),
    )

-- A request was answered, or can't be: the connection goes on.
calls_go : (log : Log) → CallsKeep (λ one. GoesOn log one.log)
calls_go log end act answer sends goes =
    goes_twice goes (call_goes end.log act answer (sends_quietly act answer sends))

answers_go : (log : Log) → AnswersKeep (λ one. GoesOn log one.log)
unfolding MayReply
answers_go log before id message done after may goes =
    rw may.5 (calls_go log before (SendFields id message.head (is_head_alone message)) Done tt goes)

responded_goes : (end : EndLog) (id : ℕ) (message : SentMessage)
    (result : Result (Unit {0}) EndRefusal) (after : EndLog)
    → MayRespond end id message result after
    → GoesOn end.log after.log
responded_goes end id message result after may =
    responded_keeps (λ one. GoesOn end.log one.log) (calls_go end.log) (answers_go end.log) end id
    message result after may (goes_none end.log)

responded_counts : (end : EndLog) (id : ℕ) (message : SentMessage) (done : Unit {0})
    (after : EndLog) → MayRespond end id message (Ok done) after
    → length after.accepted ≡ length end.accepted + 1
unfolding MayReply
responded_counts end id message done after may =
    let all = ap (λ (one : EndLog). length one.accepted) may.5 in
    let more : length ((id, at_once message) ∷ end.accepted) ≡ length end.accepted + 1 =
    omega arith in
    all ∙ more

same_goes : {before after : EndLog} → after ≡ before → GoesOn before.log after.log
same_goes {before} same = rw same (goes_none before.log)

same_turns : {end after : EndLog} → after ≡ end → length end.log.turns ≤ length after.log.turns
same_turns same =
    let all = ap (λ (one : EndLog). length one.log.turns) same in omega arith

-- The request was not answered: so it ends.
calls_ends : (writes : Bool) (start now : Traffic) (requests : Requests) (answered : ℕ)
    (end : EndLog) (error : LinkError) → IsOfCall error → end.log.failed ≡ None
    → (error ≡ errors.NoProgress → stops.ServerStops writes end error)
    → EndsFor writes start now (Serving requests answered) end error
calls_ends writes start now requests answered end errors.Memory of_call up why =
    stops.lacks_memory refl (inl up)
calls_ends writes start now requests answered end errors.NoProgress of_call up why =
    stops.stops_itself (why refl)
calls_ends writes start now requests answered end error of_call up why = absurd of_call

record HasNotAnswered (writes : Bool) (course : Course) (now : Traffic) (new : Responder)
    (end after : EndLog) (error : LinkError) : Type 0 where
  turns : length end.log.turns ≤ length after.log.turns
  responding : IsResponding course.values after
  goes : GoesOn end.log after.log
  why : EndsFor writes course.start now (Serving new.requests new.answered) after error

not_answered : (writes : Bool) (course : Course) (now : Traffic) (new : Responder)
    {end after : EndLog} {id : ℕ} {request : Request} {count : ℕ} {error : LinkError}
    → IsOfCall error → IsResponding course.values end → end.log.failed ≡ None
    → count ≡ length end.accepted
    → IsToAnswer end id request → (writes ≡ true → waiting end.log ≡ 0)
    → NotAnswered end id (answer_with request.text.items request.to_head) after count error
    → HasNotAnswered writes course now new end after error
not_answered writes course now new of_call responding up counted to_answer none
    (no_memory memory same) =
    let goes = same_goes same in
    record {
      turns = same_turns same;
      responding = rw same responding;
      goes = goes;
      why = stops.lacks_memory memory (inl (goes.failed ∙ up));
    }
not_answered writes course now new {end} {after} {error} of_call responding up counted to_answer
    none (counts_no_more most same) =
    let goes = same_goes same in
    let accepted : length after.accepted ≡ length end.accepted = ap
    (λ (one : EndLog). length one.accepted) same in
    let all : 2 ^ 32 - 1 ≤ length after.accepted = omega (arith, most, counted, accepted) in
    record {
      turns = same_turns same;
      responding = rw same responding;
      goes = goes;
      why = calls_ends _ _ _ _ _ _ _ of_call (goes.failed ∙ up) (λ is. stops.counts_no_more is all);
    }
not_answered writes course now new {end} {after} {id} {request} {error} of_call responding up
    counted to_answer none (is_refused refusal may is) =
    let message = answer_with request.text.items request.to_head in
    let asked = kept_to_answer to_answer in
    let goes = responded_goes end id message (Err refusal) after may in
    record {
      turns = turns_of_response end after id message (Err refusal) may;
      responding = answers responding id message (Err refusal) to_answer.whole to_answer.fits asked
          may;
      goes = goes;
      why = calls_ends writes course.start now new.requests new.answered after error of_call
          (goes.failed ∙ up) (λ same. stops.answer_refused same end id message refusal
          to_answer.whole asked may
          (λ said. answer_not_full end id message refusal after (none said) may) (sym is ∙ same));
    }

-- A request that is whole is answered.
pub server_answers : (old new : Responder) (id : ℕ) (request : Request)
    (result : Result (Unit {0}) LinkError) → new.answered ≡ counted_answer old.answered result
    → new.requests ≡ old.requests → IfErr result IsOfCall
    → ServerAnswers old.server.end new.server.end id
    (answer_with request.text.items request.to_head) old.answered result
    → Responds (server_held old) (server_held new) (nexts.Answer id request) result
unfolding KeepsNext Keeps AnsweredSo counted_answer RespondedSo
server_answers old new id request (Ok done) counted requests of_call answered writes course now end
    unused due none is =
    let message = answer_with request.text.items request.to_head in
    let now_is = answered course.values end is.represents in
    let may : MayRespond end id message (Ok done) now_is.0 = now_is.2 in
    let to_answer = is.keeps.0.1 in
    let goes = responded_goes end id message (Ok done) now_is.0 may in (
      now_is.0,
      turns_of_response end now_is.0 id message (Ok done) may,
      record {
        happened = answers is.happened id message (Ok done) to_answer.whole to_answer.fits
            (kept_to_answer to_answer) may;
        represents = now_is.1;
        linked = goes_links (given_within is.represents) goes is.linked;
        up = goes.failed ∙ is.up;
        keeps = (
          subst (λ (kept : Requests). KeepsRequests kept now_is.0) (sym requests)
              (kept_answered now_is.0 done is.keeps.0.0 to_answer may),
          counted ∙ ap (λ (n : ℕ). n + 1) is.keeps.1 ∙ sym (responded_counts end _ _ _ _ may),
        );
      },
    )
server_answers old new id request (Err error) counted requests of_call answered writes course now
    end unused due none is =
    let now_is = answered course.values end is.represents in
    let says = not_answered writes course now new of_call is.happened is.up is.keeps.1 is.keeps.0.1
    none now_is.2 in (
      now_is.0,
      says.turns,
      ends_linked course (server_held new) says.responding now_is.1
          (goes_links (given_within is.represents) says.goes is.linked) tt says.why,
    )

-- The last of four conditions holds, where a call is refused for it.
last_of_four : (a b c d : Bool)
    → (if a then Some reasons.Closed else if b then Some reasons.NoSuchStream
    else if c then Some reasons.OutputFull else if d then Some reasons.TooManyResets else None)
    ≡ Some reasons.TooManyResets → d ≡ true
last_of_four true b c d is = cc
last_of_four false true c d is = cc
last_of_four false false true d is = cc
last_of_four false false false true is = refl
last_of_four false false false false is = cc

refused_for_resets : (log : Log) (id code : ℕ)
    → refusal_of (log_view log) (ResetStream id code) ≡ Some reasons.TooManyResets
    → max_resets ≤ resets_written log
unfolding conditions first_of
refused_for_resets log id code is = leb-true max_resets _ (last_of_four _ _ _ _ is)

-- A stream can't be reset, since as many were as may be.
none_left : (log : Log) (id code : ℕ) (answer : Answer) → answer ≡ Refused reasons.TooManyResets
    → MayAnswer log (ResetStream id code) answer → max_resets ≤ resets_written log
none_left log id code answer said (accepts none is) = cc
none_left log id code answer said (refuses refusal some is) =
    let same : refusal ≡ reasons.TooManyResets = cc in
    refused_for_resets log id code
    (subst (λ (one : Refusal). refusal_of (log_view log) (ResetStream id code) ≡ Some one) same
    some)
none_left log id code answer said (lacks none may is) =
    let wrong : reasons.Memory ≡ reasons.TooManyResets = cc in cc
none_left log id code answer said (fails none may is) = cc

-- the end once this was answered
abbrev reset_with : EndLog → ℕ → Answer → EndLog
reset_with end id answer = end_with_log end (with_call end.log (ResetStream id calm) answer)

cannot_reset : (end : EndLog) (id : ℕ) {number : ℕ}
    → is_too_large_body (parts_on id end.handed) ≡ true → max_resets ≤ resets_written end.log
    → number ≡ calm → CannotReset (reset_with end id (Refused reasons.TooManyResets)) number
unfolding with_call
cannot_reset end id large left is =
    record {
      id = id;
      too_large = large;
      refused = first_in (ResetStream id calm, Refused reasons.TooManyResets) end.log.calls;
      none_left = left;
      number_is = is;
    }

-- So the server ends.
reset_ends : (writes : Bool) (start now : Traffic) (requests : Requests) (answered : ℕ)
    (end : EndLog) {id : ℕ} {answer : Answer} (error : LinkError)
    → is_too_large_body (parts_on id end.handed) ≡ true
    → MayAnswer end.log (ResetStream id calm) answer
    → (reset_with end id answer).log.failed ≡ None → ResetSo answer (Err error)
    → EndsFor writes start now (Serving requests answered) (reset_with end id answer) error
unfolding ResetSo with_call
reset_ends writes start now requests answered end {id} {answer} (errors.Stream number) large may up
    so =
    stops.stops_itself (stops.cannot_reset number refl (subst
    (λ (one : Answer). CannotReset (reset_with end id one) number) (sym so.1)
    (cannot_reset end id large (none_left end.log id calm answer so.1 may) so.0)))
reset_ends writes start now requests answered end errors.Memory large may up so =
    stops.lacks_memory refl (inl up)
reset_ends writes start now requests answered end {id} errors.NoProgress large may up so =
    stops.stops_itself (subst
    (λ (one : Answer). stops.ServerStops writes (reset_with end id one) errors.NoProgress)
    (sym so.1) (stops.reset_refused refl id so.0 large (first_in _ _) so.2 so.3))
reset_ends writes start now requests answered end error large may up so = absurd so

reset_refused : (answer : Answer) (error : LinkError) → ResetSo answer (Err error)
    → (refusal : Refusal) × (answer ≡ Refused refusal)
unfolding ResetSo
reset_refused answer (errors.Stream number) so = (reasons.TooManyResets, so.1)
reset_refused answer errors.Memory so = (reasons.Memory, so)
reset_refused answer errors.NoProgress so = (so.0, so.1)
reset_refused answer errors.Device so = absurd so
reset_refused answer errors.CutOff so = absurd so
reset_refused answer (errors.Reset number) so = absurd so
reset_refused answer errors.Refused so = absurd so

reset_goes : (log : Log) (id : ℕ) {answer : Answer} (refusal : Refusal) → answer ≡ Refused refusal
    → GoesOn log (with_call log (ResetStream id calm) answer)
reset_goes log id refusal is = rw is (call_goes log (ResetStream id calm) (Refused refusal) tt)

-- A stream is reset.
reset_typed : (id : ℕ) → id < 2 ^ 32 → IsTypedAct (ResetStream id calm)
unfolding IsTypedAct
reset_typed id fits = (fits, omega arith)

pub server_resets : (old new : Responder) (id : ℕ) (result : Result (Unit {0}) LinkError)
    → id < 2 ^ 32 → new.answered ≡ old.answered → new.requests ≡ old.requests
    → ServerResets old.server.end new.server.end id result
    → Responds (server_held old) (server_held new) (nexts.Reset id) result
unfolding KeepsNext Keeps ResetSo RespondedSo
server_resets old new id (Ok done) fits same requests reset writes course now end unused due none
    is =
    let now_is = reset course.values end is.represents in
    let answer = now_is.0 in
    let was : answer ≡ Done = now_is.3 in
    let log = with_call end.log (ResetStream id calm) answer in
    let goes : GoesOn end.log log = rw was (call_goes end.log _ Done tt) in
    let more = turns_of_call end.log (ResetStream id calm) answer in (
      end_with_log end log,
      omega (arith, more),
      record {
        happened = resets is.happened id answer is.keeps.0.1 (reset_typed id fits) now_is.1;
        represents = now_is.2;
        linked = goes_links (given_within is.represents) goes is.linked;
        up = goes.failed ∙ is.up;
        keeps = (
          subst (λ (kept : Requests). KeepsRequests kept (end_with_log end log)) (sym requests)
              (subst (λ (one : Answer). KeepsRequests old.requests
              (end_with_log end (with_call end.log (ResetStream id calm) one))) (sym was)
              (kept_reset is.keeps.0.0 is.keeps.0.1)),
          same ∙ is.keeps.1,
        );
      },
    )
server_resets old new id (Err error) fits same requests reset writes course now end unused due none
    is =
    let now_is = reset course.values end is.represents in
    let answer = now_is.0 in
    let refused = reset_refused answer error now_is.3 in
    let goes = reset_goes end.log id refused.0 refused.1 in
    let log = with_call end.log (ResetStream id calm) answer in
    let more = turns_of_call end.log (ResetStream id calm) answer in (
      end_with_log end log,
      omega (arith, more),
      ends_linked course (server_held new)
          (resets is.happened id answer is.keeps.0.1 (reset_typed id fits) now_is.1) now_is.2
          (goes_links (given_within is.represents) goes is.linked) tt (reset_ends writes
          course.start now new.requests new.answered end error is.keeps.0.1 now_is.1
          (goes.failed ∙ is.up) now_is.3),
    )
