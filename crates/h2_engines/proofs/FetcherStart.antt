-- How a new client has made its request.
use Rattle.h2_engines.proofs.Names.{◌≡◌, [], Option, Some, None, Ok, Err, refl, ap, ◌∙◌, subst, inl}
use Rattle.h2_engines.proofs.Names.{inr, Refusal, Memory, Client, Values, Malformed, Message}
use Rattle.h2_engines.proofs.Names.{SentMessage, LinkError, End, EndRefusal, EndLog, EndRepresents}
use Rattle.h2_engines.proofs.Names.{new_end_log, Fetcher, error_after, HasRequested, MayRequest}
use Rattle.h2_engines.proofs.Names.{◌≢◌, ◌⊎◌, EndRequests, IsNotAccepted, MayAsk}
use Rattle.h2_engines.specs.Fetches.{IsRefusedMessage, IsRefusedOtherwise, refusal_of_request}
use Rattle.h2_spec_log.specs.declared.refusal.Refusal.TheVariants.{ListTooLarge}
use Rattle.h2_ends.specs.declared.refusal.EndRefusal.TheVariants as refusals

-- It was accepted.
pub has_requested : {values : Values} (message : SentMessage) {old : End} (fetcher : Fetcher)
    → EndRepresents values old (new_end_log Client values)
    → EndRequests old message (Ok fetcher.id) fetcher.client.end → fetcher.coming.head ≡ None
    → fetcher.coming.body.items ≡ [] → fetcher.coming.interims.items ≡ []
    → fetcher.coming.trailers ≡ None → HasRequested values message fetcher
has_requested {values} message fetcher represents requests none empty no_interims no_trailers =
    let (end, may, now) = requests.1 values (new_end_log Client values) represents in
    record {
      end = end;
      requested = may;
      represents = now;
      none_come = none;
      no_body = empty;
      no_interims = no_interims;
      no_trailers = no_trailers;
    }

-- Or it breaks a rule,
broken_some : {broken : Option Malformed} (rule : Malformed) → broken ≡ Some rule → broken ≢ None
broken_some rule is none = absurd (cc)

refused_rule : (values : Values) (message : SentMessage) (rule : Malformed) (after : EndLog)
    → MayRequest (new_end_log Client values) message (Err (refusals.BadMessage rule)) after
    → IsRefusedMessage values message
unfolding MayAsk
refused_rule values message rule after may = inl (broken_some rule may.0)

pub refused_as_broken : {values : Values} (message : SentMessage) {old : End} (new : End)
    (back : Message) {refusal : EndRefusal} (rule : Malformed)
    → EndRepresents values old (new_end_log Client values) → refusal ≡ refusals.BadMessage rule
    → EndRequests old message (Err (back, refusal)) new → IsRefusedMessage values message
refused_as_broken {values} message new back rule represents is requests =
    let (end, may, now) = requests.1 values (new_end_log Client values) represents in
    refused_rule values message rule end (subst
    (λ (one : EndRefusal). MayRequest (new_end_log Client values) message (Err one) end) is may)

-- or its fields are too many.
too_many : (found : Option Refusal) → (found ≡ Some ListTooLarge)
    ⊎ ((found ≡ None) × (ListTooLarge ≡ Memory)) → found ≡ Some ListTooLarge
too_many found (inl is) = is
too_many found (inr other) = let wrong = other.1 in cc

refused_list : (values : Values) (message : SentMessage) (after : EndLog)
    → MayRequest (new_end_log Client values) message (Err (refusals.Conn ListTooLarge)) after
    → IsRefusedMessage values message
unfolding MayAsk
refused_list values message after may = inr (too_many _ may.1)

pub refused_as_large : {values : Values} (message : SentMessage) {old : End} (new : End)
    (back : Message) {refusal : EndRefusal} (reason : Refusal)
    → EndRepresents values old (new_end_log Client values) → refusal ≡ refusals.Conn reason
    → reason ≡ ListTooLarge → EndRequests old message (Err (back, refusal)) new
    → IsRefusedMessage values message
refused_as_large {values} message new back {refusal} reason represents named same requests =
    let is : refusal ≡ refusals.Conn ListTooLarge =
    named ∙ ap (λ (one : Refusal). refusals.Conn one) same in
    let (end, may, now) = requests.1 values (new_end_log Client values) represents in
    refused_list values message end (subst
    (λ (one : EndRefusal). MayRequest (new_end_log Client values) message (Err one) end) is may)

module _ (values : Values) (message : SentMessage) where
  -- A request that was refused for something else was not refused as out of memory.
  otherwise : (refusal : Refusal) → refusal ≢ ListTooLarge → refusal ≢ Memory
      → (refusal_of_request values message ≡ Some refusal)
      ⊎ ((refusal_of_request values message ≡ None) × (refusal ≡ Memory))
      → IsRefusedOtherwise values message
  otherwise refusal small other (inl is) = (refusal, is, small, other)
  otherwise refusal small other (inr lacks) = absurd (other lacks.1)

  -- A call that was refused for something else ends the fetch as the refusal says.
  ends_otherwise : (refusal : Refusal) → refusal ≢ ListTooLarge
      → (refusal_of_request values message ≡ Some refusal)
      ⊎ ((refusal_of_request values message ≡ None) × (refusal ≡ Memory))
      → IsNotAccepted values message (Err (error_after (refusals.Conn refusal)))
  ends_otherwise Memory small why = tt
  ends_otherwise refusal small why = otherwise refusal small (λ same. absurd (cc)) why

  -- So does a message that breaks no rule, and whose fields are not too many.
  refused_so : (refusal : EndRefusal) (after : EndLog)
      → ((rule : Malformed) → refusal ≢ refusals.BadMessage rule)
      → refusal ≢ refusals.Conn ListTooLarge
      → MayRequest (new_end_log Client values) message (Err refusal) after
      → IsNotAccepted values message (Err (error_after refusal))
  unfolding MayAsk
  refused_so (refusals.BadMessage rule) after kept small may = absurd (kept rule refl)
  refused_so (refusals.Conn refusal) after kept small may = ends_otherwise refusal
      (λ same. small (ap (λ (one : Refusal). refusals.Conn one) same)) may.1
  refused_so refusal after kept small may = absurd may

-- So the fetch has ended.
pub refused_otherwise : {values : Values} (message : SentMessage) {old : End} (new : End)
    (back : Message) (refusal : EndRefusal) {error : LinkError}
    → EndRepresents values old (new_end_log Client values)
    → ((rule : Malformed) → refusal ≢ refusals.BadMessage rule)
    → refusal ≢ refusals.Conn ListTooLarge → error ≡ error_after refusal
    → EndRequests old message (Err (back, refusal)) new → IsNotAccepted values message (Err error)
refused_otherwise {values} message new back refusal represents kept small is requests =
    let (end, may, now) = requests.1 values (new_end_log Client values) represents in
    rw is (refused_so values message refusal end kept small may)
