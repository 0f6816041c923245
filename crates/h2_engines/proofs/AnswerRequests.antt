-- What is kept of requests once one of them was answered, or its stream was reset; and at first.
use Rattle.h2_engines.proofs.Names
use Names.{◌≡◌, ℕ, Bool, true, false, List, [], Option, Some, None, Ok, refl, sym, ap, ◌∙◌}
use Names.{subst, inl, inr, cases_eq, both_ways, Server, Values, Act, SendFields}
use Names.{ResetStream, Done, SentMessage, Part, first_in, call_calls, is_head_alone, EndLog}
use Names.{end_with_log, new_end_log, with_call, Request, answer_with, KeepsOthers, IsResponding}
use Names.{WasReportedReset, WasTooLarge, WasAnswered, AnswersAll, calm, ends_message, said_for}
use Names.{parts_on, MayReply, MayRespond, answer_to, body_of_parts, is_too_large_body, ◌≢◌}
use Names.{◌⊎◌, Requests, RequestState, has_not_come, comes, was_answered, was_given_up}
use Names.{KeepsRequests, IsToAnswer, request_at, end_with_said, at_once}
use Rattle.h2_numbers.specs.Tables.{all_of}
use Rattle.h2_engines.specs.ServerHistories.{AreOnce}
use Rattle.h2_engines.proofs.SameRequests.{SameOn, same_on, stands_as}
use Rattle.h2_engines.proofs.LinkInvariants.{holds_responding}
use Rattle.h2_engines.proofs.TakeMessages.{keeps_by_call, taken_says}
use Rattle.h2_ends.proofs.RequestSent.{accepted_elsewhere, accepted_here}

-- A request that is to be answered is answered with what was kept of it.
pub kept_to_answer : {end : EndLog} {id : ℕ} {request : Request} → IsToAnswer end id request
    → answer_to (parts_on id end.handed) ≡ Some (answer_with request.text.items request.to_head)
unfolding answer_to
kept_to_answer is = rw (is.came, is.request_is.text, is.request_is.to_head) refl

-- What holds of the one and of all others holds of each.
by_stream : {requests : Requests} {end after : EndLog} {id : ℕ} → KeepsOthers requests end id
    → RequestState after id None → ((i : ℕ) → i ≢ id → SameOn end after i)
    → KeepsRequests requests after
by_stream {requests} {after} {id} keeps one same i = elim (cases_eq i id) [
  | inl here ↦ subst (λ (j : ℕ). RequestState after j (request_at j requests)) (sym here)
      (subst (λ (request : Option Request). RequestState after id request) (sym keeps.none) one)
  | inr other ↦ stands_as (same i other) (keeps.others i other)
]

-- A message was accepted, and the call that sent its head was made.
record Accepts (end : EndLog) (id : ℕ) (message : SentMessage) (after : EndLog) : Type 0 where
  pub unanswered : said_for id end.accepted ≡ None
  pub act : Act
  pub is : after ≡ end_with_said end act Done id (at_once message)

accepts : (end after : EndLog) (id : ℕ) (message : SentMessage) (done : Unit {0})
    → MayRespond end id message (Ok done) after → Accepts end id message after
unfolding MayReply
accepts end after id message done may =
    record {
      unanswered = may.1;
      act = SendFields id message.head (is_head_alone message);
      is = may.5;
    }

-- On other streams nothing has happened then.
answered_others : (end : EndLog) (id : ℕ) (message : SentMessage) (act : Act) (i : ℕ) → i ≢ id
    → SameOn end (end_with_said end act Done id (at_once message)) i
answered_others end id message act i other =
    record {
      parts = refl;
      message = accepted_elsewhere i id (at_once message) end.accepted other;
      resets = λ reset. reset;
      calls = keeps_by_call end.log act Done;
    }

-- The request was answered.
answered_now : {end : EndLog} {id : ℕ} {request : Request} (act : Act) → IsToAnswer end id request
    → WasAnswered
    (end_with_said end act Done id
    (at_once (answer_with request.text.items request.to_head))) id
answered_now {end} {id} {request} act is =
    let message = answer_with request.text.items request.to_head in
    record {
      whole = is.whole;
      fits = is.fits;
      message = message;
      asked = kept_to_answer is;
      answered = accepted_here id (at_once message) end.accepted;
    }

pub kept_answered : {requests : Requests} {end : EndLog} (after : EndLog) {id : ℕ}
    {request : Request} (done : Unit {0}) → KeepsOthers requests end id → IsToAnswer end id request
    → MayRespond end id (answer_with request.text.items request.to_head) (Ok done) after
    → KeepsRequests requests after
kept_answered {requests} {end} after {id} {request} done keeps is may =
    let message = answer_with request.text.items request.to_head in
    let accepted = accepts end after id message done may in
    let now = end_with_said end accepted.act Done id (at_once message) in
    rw accepted.is (by_stream keeps (was_answered (answered_now accepted.act is))
    (λ i other. answered_others end id message accepted.act i other))

-- The stream of a request that is too large was reset.
pub kept_reset : {requests : Requests} {end : EndLog} {id : ℕ} → KeepsOthers requests end id
    → is_too_large_body (parts_on id end.handed) ≡ true
    → KeepsRequests requests (end_with_log end (with_call end.log (ResetStream id calm) Done))
kept_reset {end} {id} keeps large =
    let after = end_with_log end (with_call end.log (ResetStream id calm) Done) in
    by_stream keeps (was_given_up (inr (record {
      too_large = large;
      reset = rw ((call_calls _ _ Done)) (first_in _ _);
    })) keeps.unanswered) (λ i other. same_on end after i refl refl (keeps_by_call _ _ Done))

-- Of no requests nothing is kept.
none_at : (requests : Requests) (id : ℕ) → all_of requests.kept ≡ []
    → request_at id requests ≡ None
none_at requests id none = rw none refl

none_come : (values : Values) (id : ℕ) → RequestState (new_end_log Server values) id None
unfolding parts_on said_for
none_come values id = has_not_come refl refl

pub kept_none : (requests : Requests) → all_of requests.kept ≡ [] → (values : Values)
    → KeepsRequests requests (new_end_log Server values)
kept_none requests none values id = rw ((none_at requests id none)) (none_come values id)

-- A stream of which all has come was answered or given up.
no_end : {parts : List (Part × Bool)} → parts ≡ [] → ends_message parts ≡ true → ⊥
unfolding ends_message
no_end none whole =
    let goes : false ≡ true = ap ends_message (sym none) ∙ whole in cc

all_stand : {end : EndLog} {id : ℕ} {request : Option Request} → RequestState end id request
    → ends_message (parts_on id end.handed) ≡ true
    → WasAnswered end id ⊎ (WasReportedReset end id ⊎ WasTooLarge end id)
all_stand (has_not_come none unsaid) whole = absurd (no_end none whole)
all_stand (comes head parts kept are goes fits is unsaid) whole = absurd (both_ways _ goes whole)
all_stand (was_answered was) whole = inl was
all_stand (was_given_up why unsaid) whole = inr why

-- So it is with each that is too large.
no_large : {parts : List (Part × Bool)} → parts ≡ [] → is_too_large_body parts ≡ true → ⊥
unfolding is_too_large_body body_of_parts
no_large none large =
    let fits : false ≡ true = ap is_too_large_body (sym none) ∙ large in cc

large_stands : {end : EndLog} {id : ℕ} {request : Option Request} → RequestState end id request
    → is_too_large_body (parts_on id end.handed) ≡ true
    → WasReportedReset end id ⊎ WasTooLarge end id
large_stands (has_not_come none unsaid) large = absurd (no_large none large)
large_stands (comes head parts kept are goes fits is unsaid) large =
    absurd (both_ways _ fits large)
large_stands (was_answered was) large = absurd (both_ways _ was.fits large)
large_stands (was_given_up why unsaid) large = why

-- What was answered was a whole request.
none_else_stands : {end : EndLog} {id : ℕ} {request : Option Request} → RequestState end id request
    → said_for id end.accepted ≢ None → WasAnswered end id
none_else_stands (has_not_come none unsaid) some = absurd (some unsaid)
none_else_stands (comes head parts kept are goes fits is unsaid) some = absurd (some unsaid)
none_else_stands (was_answered was) some = was
none_else_stands (was_given_up why unsaid) some = absurd (some unsaid)

-- No stream is answered twice.
once_more : (before : EndLog) (id : ℕ) (message : SentMessage) (done : Unit {0}) (after : EndLog)
    → MayRespond before id message (Ok done) after → AreOnce before.accepted
    → AreOnce after.accepted
unfolding AreOnce
once_more before id message done after may was =
    let accepted = accepts before after id message done may in
    rw accepted.is (accepted.unanswered, was)

none_once : AreOnce []
unfolding AreOnce
none_once = tt

responding_once : {values : Values} {end : EndLog} → IsResponding values end → AreOnce end.accepted
responding_once responding =
    holds_responding (λ one. AreOnce one.accepted) (λ one act answer was. was)
    (λ before piece answer after may was. subst AreOnce (sym (taken_says may).accepted) was)
    once_more none_once responding

-- All whole requests were answered, but those that were given up.
pub kept_all : {values : Values} (requests : Requests) {end : EndLog} → IsResponding values end
    → KeepsRequests requests end → AnswersAll end
kept_all requests responding keeps =
    record {
      all = λ id whole. all_stand (keeps id) whole;
      too_large = λ id large. large_stands (keeps id) large;
      none_else = λ id some. none_else_stands (keeps id) some;
      once = responding_once responding;
    }
