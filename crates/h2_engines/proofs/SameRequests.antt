-- What is kept of requests says the same of an end at which nothing of a request has happened.
use Rattle.h2_engines.proofs.Names
use Names.{◌≡◌, ℕ, List, Option, sym, ap, ◌∙◌, subst, inl, inr, Contains, ResetEvent, EndLog}
use Names.{Handed, Passed, ends_message, said_for, parts_on, Next, Request, answer_to}
use Names.{is_too_large_body, KeepsOthers, WasReportedReset, WasTooLarge, WasAnswered}
use Names.{IsSameOfMessages, KeepsNext, ◌⊎◌, Requests, RequestState, has_not_come, comes}
use Names.{was_answered, was_given_up, KeepsRequests, IsToAnswer}
use Rattle.h2_engines.proofs.TakeMessages.{KeepsCalls}
use Rattle.h2_engines.specs.declared.request.Next.TheVariants as nexts

-- Nothing has happened to the request on this stream.
pub record SameOn (before after : EndLog) (id : ℕ) : Type 0 where
  pub parts : parts_on id after.handed ≡ parts_on id before.handed
  pub message : said_for id after.accepted ≡ said_for id before.accepted
  pub resets : WasReportedReset before id → WasReportedReset after id
  pub calls : KeepsCalls before.log after.log

-- A request that was answered still was;
answered_as : {before after : EndLog} {id : ℕ} → SameOn before after id → WasAnswered before id
    → WasAnswered after id
answered_as same was =
    record {
      whole = ap ends_message same.parts ∙ was.whole;
      fits = ap is_too_large_body same.parts ∙ was.fits;
      message = was.message;
      asked = ap answer_to same.parts ∙ was.asked;
      answered = same.message ∙ was.answered;
    }

-- and one that was given up.
given_up_as : {before after : EndLog} {id : ℕ} → SameOn before after id
    → WasReportedReset before id ⊎ WasTooLarge before id
    → WasReportedReset after id ⊎ WasTooLarge after id
given_up_as same (inl reset) = inl (same.resets reset)
given_up_as same (inr large) =
    inr (record {
      too_large = ap is_too_large_body same.parts ∙ large.too_large;
      reset = same.calls _ _ large.reset;
    })

-- The state of the request is as before.
pub stands_as : {before after : EndLog} {id : ℕ} {request : Option Request}
    → SameOn before after id → RequestState before id request → RequestState after id request
stands_as same (has_not_come none unsaid) =
    has_not_come (same.parts ∙ none) (same.message ∙ unsaid)
stands_as same (comes head parts kept are goes fits is unsaid) =
    comes head parts kept (same.parts ∙ are) (ap ends_message same.parts ∙ goes)
    (ap is_too_large_body same.parts ∙ fits) is (same.message ∙ unsaid)
stands_as same (was_answered was) = was_answered (answered_as same was)
stands_as same (was_given_up why unsaid) =
    was_given_up (given_up_as same why) (same.message ∙ unsaid)

-- So it is on each stream where nothing was accepted and handed out.
pub same_on : (before after : EndLog) (id : ℕ) → after.accepted ≡ before.accepted
    → after.handed ≡ before.handed → KeepsCalls before.log after.log → SameOn before after id
same_on before after id accepted handed calls =
    record {
      parts = ap (parts_on id) handed;
      message = ap (said_for id) accepted;
      resets = λ reset. (
        reset.0,
        reset.1,
        subst (λ (all : List Handed). Contains all (Passed (ResetEvent id reset.0 reset.1)))
            (sym handed) reset.2,
      );
      calls = calls;
    }

same_of_messages : {before after : EndLog} (id : ℕ) → IsSameOfMessages before after
    → SameOn before after id
same_of_messages {before} {after} id same = same_on _ _ id same.accepted same.handed same.calls

pub kept_same : (requests : Requests) {before after : EndLog} → IsSameOfMessages before after
    → KeepsRequests requests before → KeepsRequests requests after
kept_same requests same keeps id =
    stands_as (same_of_messages id same) (keeps id)

-- The same of all streams but one,
others_as : {requests : Requests} {before after : EndLog} {id : ℕ} → IsSameOfMessages before after
    → KeepsOthers requests before id → KeepsOthers requests after id
others_as {id} same keeps =
    record {
      others = λ i other. stands_as (same_of_messages i same) (keeps.others i other);
      none = keeps.none;
      unanswered = ap (said_for id) same.accepted ∙ keeps.unanswered;
    }

-- of a request that is to be answered,
to_answer_as : {before after : EndLog} {id : ℕ} {request : Request} → IsSameOfMessages before after
    → IsToAnswer before id request → IsToAnswer after id request
to_answer_as {id} same is =
    let parts = ap (parts_on id) same.handed in
    record {
      whole = ap ends_message parts ∙ is.whole;
      fits = ap is_too_large_body parts ∙ is.fits;
      head = is.head;
      end_of_head = is.end_of_head;
      parts = is.parts;
      came = parts ∙ is.came;
      request_is = is.request_is;
    }

-- and of what is kept by what is to be done.
pub kept_same_next : (requests : Requests) {before after : EndLog} (next : Next)
    → IsSameOfMessages before after → KeepsNext requests before next
    → KeepsNext requests after next
unfolding KeepsNext
kept_same_next requests nexts.Again same keeps = kept_same requests same keeps
kept_same_next requests nexts.Done same keeps = kept_same requests same keeps
kept_same_next requests nexts.Whole same keeps = absurd keeps
kept_same_next requests (nexts.Answer id request) same keeps = (
  others_as same keeps.0,
  to_answer_as same keeps.1,
)
kept_same_next requests (nexts.Reset id) same keeps = (
  others_as same keeps.0,
  ap (λ (handed : List Handed). is_too_large_body (parts_on id handed)) same.handed ∙ keeps.1,
)
