-- What an end represents once it has sent the head of what is given and keeps the rest of it.
use Rattle.h2_ends.proofs.Names
use Names.{Spans, ap}
use Names.{◌≡◌, ◌≢◌, ◌⊎◌, ℕ, false, [], ◌∷◌, Option, Some, None, refl, sym, ◌∙◌, inl, inr}
use Names.{both_ways, eq-eqb, ne_eqb, Client, Server, Values, Act, Answer, Number}
use Names.{Done, Refusal, Malformed, RefusesMessage, MayAnswer, with_call}
use Names.{ConnRepresents, grows_call, IsOver, is_number_used, used_by_call, Requests}
use Names.{Responses, Said, is_ended_by_head, asks_head}
use Names.{End, Outgoing, Stream, EndLog, said_for, tokens_out, end_with_said}
use Names.{EndRepresents, RepresentsBut, RepresentsMessages, IsStream, IsUntouched, kept_at}
use Names.{IsGiven, KeepsOne, given_stream, active_by_call, tokens_of_call, reads_on, asked_head}
use Names.{IsKept, IsOutgoing, IsOpened, IsAnswered}
use Rattle.h2_ends.specs.EndCalls.{IsUnchanged, IsAsked, MayAsk, opened_with, answered_with}
use Rattle.std.specs.Prelude.{Ok, Err}
use Rattle.h2_laws_end.proofs.OverNumbers.{opened_is_new}
use Rattle.h2_ends.proofs.EndSteps.{called_end, stepped}
use Rattle.h2_laws_end.proofs.ActivityOpened.{active_by_open}
use Rattle.h2_ends.proofs.InSteps.{owes_called, in_step_called, represents_all}
use Rattle.h2_ends.proofs.RequestSteps.{stepped_but, opens_one, open_keeps, fields_keep}
use Rattle.h2_ends.proofs.RequestSteps.{head_keeps, handed_open, within_given}
use Rattle.h2_ends.proofs.RequestSent.{head_tokens, sent_in_order, sent_first, accepted_here}
use Rattle.h2_ends.proofs.RequestSent.{accepted_elsewhere}
use Rattle.h2_ends.specs.declared.refusal.EndRefusal.TheVariants as refusals
use Rattle.h2_ends.specs.declared.outgoing.Outgoing.TheVariants as outgoings

-- Nothing was given or handed out on a number that wasn't used.
untouched_by : (end : EndLog) (id : ℕ) (kept : Option Stream) → is_number_used end.log id ≡ false
    → IsOver end.log id ⊎ IsKept end id kept → IsUntouched end id × (kept ≡ None)
unfolding IsKept
untouched_by end id kept new (inl past) = absurd (both_ways _ new past.was_used)
untouched_by end id None new (inr kept) = (kept, refl)
untouched_by end id (Some stream) new (inr kept) = absurd (both_ways _ new kept.was_used)

pub untouched : (values : Values) (old : End) (end : EndLog) (id : ℕ)
    → EndRepresents values old end → is_number_used end.log id ≡ false
    → IsUntouched end id × (kept_at id old.streams.entries ≡ None)
untouched values old end id is new =
    untouched_by end id (kept_at id old.streams.entries) new (is.streams.streams id)

-- A client reads the response to its request, and a server requests.
client_reads : (end : EndLog) (i : ℕ) (said : Said) → end.log.role ≡ Client
    → said_for i end.accepted ≡ Some said
    → reads_on end i ≡ Responses (asks_head said.message.head)
unfolding reads_on asked_head
client_reads end i said client accepted = rw (client, accepted) refl

pub server_reads : (end : EndLog) (i : ℕ) → end.log.role ≡ Server → reads_on end i ≡ Requests
unfolding reads_on
server_reads end i server = rw server refl

-- A call that sends a block on one stream sends no token on another.
pub open_elsewhere : (i id : ℕ) (said : Said) → i ≢ id
    → tokens_of_call i (opened_with said) (Number id) ≡ []
unfolding tokens_of_call
open_elsewhere i id said other = rw (ne_eqb id i (λ same. other (sym same))) refl

pub open_here : (id : ℕ) (said : Said)
    → tokens_of_call id (opened_with said) (Number id) ≡ head_tokens said
unfolding tokens_of_call
open_here id said = rw (eq-eqb id id refl) refl

pub fields_elsewhere : (i id : ℕ) (said : Said) → i ≢ id
    → tokens_of_call i (answered_with id said) Done ≡ []
unfolding tokens_of_call
fields_elsewhere i id said other = rw (ne_eqb id i (λ same. other (sym same))) refl

pub fields_here : (id : ℕ) (said : Said)
    → tokens_of_call id (answered_with id said) Done ≡ head_tokens said
unfolding tokens_of_call
fields_here id said = rw (eq-eqb id id refl) refl

-- An end that has sent the head of what is given, and keeps what is read and what is left of it.
sent_head : (values : Values) (old given : End) (end : EndLog) (act : Act) (answer : Answer)
    (id : ℕ) (said : Said) (stream : Stream)
    → EndRepresents values old end → MayAnswer end.log act answer
    → tokens_out end id ≡ [] → ((i : ℕ) → i ≢ id → tokens_of_call i act answer ≡ [])
    → tokens_of_call id act answer ≡ head_tokens said
    → ConnRepresents values given.conn (with_call end.log act answer)
    → given.role ≡ old.role → KeepsOne old given id (Some stream)
    → IsStream (end_with_said end act answer id said) id stream
    → RepresentsMessages values given (end_with_said end act answer id said)
unfolding IsKept
sent_head values old given end act answer id said stream is may none others tokens conn role
    keeps one =
    let after = called_end end act answer ((id, said) ∷ end.accepted) in
    let accepted = accepted_here id said end.accepted in
    let sent : tokens_out after id ≡ head_tokens said =
    sent_first end act answer ((id, said) ∷ end.accepted) id (head_tokens said) none tokens in
    stepped values old given end act answer id (Some stream) ((id, said) ∷ end.accepted)
    is.streams may conn role keeps others
    (λ i other. accepted_elsewhere i id said end.accepted other)
    (inr one) (sent_in_order after id said accepted sent)

-- What is kept of a stream to which this is given.
kept_given : (opened given : End) (id : ℕ) (outgoing : Outgoing) (stream : Stream)
    → IsGiven opened id outgoing given → kept_at id opened.streams.entries ≡ Some stream
    → kept_at id given.streams.entries ≡ Some (given_stream outgoing stream)
kept_given opened given id outgoing stream gives is =
    gives.keeps.one ∙ rw is refl

-- What is left of what is given, once its head alone was sent on a stream.
abbrev pub LeftOf : EndLog → ℕ → Said → Outgoing → Type 0
LeftOf after id said outgoing =
    said_for id after.accepted ≡ Some said → tokens_out after id ≡ head_tokens said
    → IsOutgoing after id outgoing

-- An end that has opened a stream with the head of a request, and keeps the rest of it.
pub request_given : (values : Values) (old opened given : End) (end : EndLog) (id : ℕ)
    (said : Said) (outgoing : Outgoing) → EndRepresents values old end
    → IsOpened values end said old id opened → IsGiven opened id outgoing given
    → LeftOf (end_with_said end (opened_with said) (Number id) id said) id said outgoing
    → EndRepresents values given (end_with_said end (opened_with said) (Number id) id said)
request_given values old opened given end id said outgoing is opens gives left =
    let act = opened_with said in
    let ends = is_ended_by_head said.form said.message in
    let after = end_with_said end act (Number id) id said in
    let new = opened_is_new _ values end.log said.message.head ends id
    is.streams.conn.machine.came opens.answers in
    let client : after.log.role ≡ Client =
    (grows_call end.log act (Number id)).role ∙ new.0 in
    let before = (untouched values old end id is new.2).0 in
    let accepted = accepted_here id said end.accepted in
    let sent : tokens_out after id ≡ head_tokens said =
    sent_first end act (Number id) after.accepted id (head_tokens said) before.unsent
    (open_here id said) in
    let empty : Stream = record { reading = opens.reading; outgoing = outgoings.NotGiven } in
    let stream = given_stream outgoing empty in
    let keeps : KeepsOne old given id (Some stream) = record {
      one = kept_given opened given id outgoing empty gives opens.keeps.one;
      others = λ i other. gives.keeps.others i other ∙ opens.keeps.others i other;
    } in
    let streams = sent_head values old given end act (Number id) id said stream is
    opens.answers before.unsent (λ i other. open_elsewhere i id said other) (open_here id said)
    (rw gives.conn opens.conn) (gives.role ∙ opens.role) keeps
    (record {
      was_used = new.3;
      reading = rw (client_reads after id said client accepted, before.unread) opens.follows;
      outgoing = left accepted sent;
      asked = λ server. let wrong = sym client ∙ server in cc;
    }) in
    represents_all values given after id
    (stepped_but values old given end act (Number id) id (Some stream) after.accepted is
    opens.answers streams keeps (λ i within. gives.more i (rw opens.spans within))
    (rw opens.spans at gives.owing) (rw opens.spans at gives.turn)
    (rw opens.spans at gives.malformed)
    (λ i other. opens_one i id other)
    (λ i other. open_keeps i id said.message.head ends)
    (record {
      all = λ up alive none. cc;
      handed = handed_open end said.message.head ends id after.accepted opens.answers new.2
          (is.in_step id).handed;
      within = within_given given.spans.waiting id outgoing empty gives.here;
      owes = λ some. rw (gives.owing, opens.spans) (owes_called _ values old.spans.owing end.log
          act (Number id) id is.streams.conn.machine.came opens.answers (is.in_step id).owes some);
      turn = gives.turn ∙ ap (λ (s : Spans). s.turn) opens.spans ∙ (is.in_step id).turn;
      malformed = gives.malformed ∙ ap (λ (s : Spans). s.malformed) opens.spans
          ∙ (is.in_step id).malformed;
    }))
    (λ some. active_by_open _ values end.log said.message.head ends id
    is.streams.conn.machine.came opens.answers)

-- What is kept of a stream that is active and on which something was handed out.
kept_asked : (end : EndLog) (id : ℕ) (kept : Option Stream) → IsAsked end id
    → IsOver end.log id ⊎ IsKept end id kept
    → (stream : Stream) × (kept ≡ Some stream) × IsStream end id stream
unfolding IsKept
kept_asked end id kept asked (inl past) = absurd (both_ways _ past.not_active asked.active)
kept_asked end id None asked (inr kept) = absurd (asked.handed kept.unread)
kept_asked end id (Some stream) asked (inr kept) = (stream, refl, kept)

-- Nothing was sent on a stream for which nothing was accepted.
unsent_by : (end : EndLog) (id : ℕ) (outgoing : Outgoing) → said_for id end.accepted ≡ None
    → IsOutgoing end id outgoing → tokens_out end id ≡ []
unfolding IsOutgoing
unsent_by end id outgoings.NotGiven none is = is.1
unsent_by end id (outgoings.Open rest) none is = let wrong = is.accepted in cc
unsent_by end id (outgoings.Waiting waiting) none is = let wrong = is.accepted in cc
unsent_by end id outgoings.Sent none is = let wrong = is.accepted in cc

module _ (values : Values) (old answered given : End) (end : EndLog) (id : ℕ) (said : Said)
    (outgoing : Outgoing) where
  -- An end that has answered a request with the head of a response, and keeps the rest of it: the
  -- stream may be closed where the head ends the message.
  pub respond_given : EndRepresents values old end → IsAnswered values end id said old answered
      → IsGiven answered id outgoing given
      → LeftOf (end_with_said end (answered_with id said) Done id said) id said outgoing
      → RepresentsBut values given (end_with_said end (answered_with id said) Done id said) id
  respond_given is answers gives left =
      let act = answered_with id said in
      let ends = is_ended_by_head said.form said.message in
      let after = end_with_said end act Done id said in
      let asked = answers.asked in
      let server : after.log.role ≡ Server = (grows_call end.log act Done).role ∙ asked.server in
      let had = kept_asked end id (kept_at id old.streams.entries) asked (is.streams.streams id) in
      let stream = had.0 in
      let none = unsent_by end id stream.outgoing answers.unsaid had.2.outgoing in
      let accepted = accepted_here id said end.accepted in
      let sent : tokens_out after id ≡ head_tokens said =
      sent_first end act Done after.accepted id (head_tokens said) none (fields_here id said) in
      let keeps : KeepsOne old given id (Some (given_stream outgoing stream)) = record {
        one = kept_given answered given id outgoing stream gives (rw answers.streams had.1);
        others = λ i other. gives.keeps.others i other ∙ rw answers.streams refl;
      } in
      let streams = sent_head values old given end act Done id said (given_stream outgoing stream)
      is answers.answers none (λ i other. fields_elsewhere i id said other) (fields_here id said)
      (rw gives.conn answers.conn) (gives.role ∙ answers.role) keeps
      (record {
        was_used = used_by_call end.log act Done id had.2.was_used;
        reading = rw (server_reads after id server, ← server_reads end id asked.server)
            had.2.reading;
        outgoing = left accepted sent;
        asked = λ same. asked.handed;
      }) in
      let before = in_step_called _ values old.spans (kept_at id old.streams.entries) end act Done
      after.accepted id is.streams.conn.machine.came answers.answers (λ same. cc)
      (is.in_step id) in
      stepped_but values old given end act Done id (Some (given_stream outgoing stream))
      after.accepted is answers.answers streams keeps
      (λ i within. gives.more i (rw answers.spans within)) (rw answers.spans at gives.owing)
      (rw answers.spans at gives.turn) (rw answers.spans at gives.malformed)
      (λ i other same. cc) (λ i other. fields_keep i id said.message.head ends other)
      (record {
        all = λ up alive none. cc;
        handed = before.handed;
        within = within_given given.spans.waiting id outgoing stream gives.here;
        owes = λ some. rw (gives.owing, answers.spans) (before.owes some);
        turn = gives.turn ∙ ap (λ (s : Spans). s.turn) answers.spans ∙ before.turn;
        malformed = gives.malformed ∙ ap (λ (s : Spans). s.malformed) answers.spans
            ∙ before.malformed;
      })

  -- Where the head does not end it, the stream is active still.
  pub respond_waits : is_ended_by_head said.form said.message ≡ false
      → EndRepresents values old end → IsAnswered values end id said old answered
      → IsGiven answered id outgoing given
      → LeftOf (end_with_said end (answered_with id said) Done id said) id said outgoing
      → EndRepresents values given (end_with_said end (answered_with id said) Done id said)
  respond_waits waits is answers gives left =
      let act = answered_with id said in
      let ends = is_ended_by_head said.form said.message in
      let after = end_with_said end act Done id said in
      represents_all values given after id (respond_given is answers gives left)
      (λ some. active_by_call _ values end.log act Done id is.streams.conn.machine.came
      answers.answers answers.asked.active (head_keeps id id said.message.head ends waits))

-- What `request` and `begin` may answer then.
pub may_ask : (values : Values) (broken : Option Malformed) (end : EndLog) (said : Said)
    (old opened : End) (id : ℕ) → broken ≡ None → IsOpened values end said old id opened
    → MayAsk broken end said (Ok id) (end_with_said end (opened_with said) (Number id) id said)
unfolding MayAsk
may_ask values broken end said old opened id unbroken opens =
    (unbroken, opens.fits, opens.answers, refl)

-- What they may answer where a rule is broken, and where they are refused.
pub breaks_asking : (broken : Option Malformed) (end : EndLog) (said : Said) (rule : Malformed)
    → broken ≡ Some rule → MayAsk broken end said (Err (refusals.BadMessage rule)) end
unfolding MayAsk
breaks_asking broken end said rule is = (is, refl)

pub refuses_asking : (broken : Option Malformed) (end after : EndLog) (said : Said)
    (refusal : Refusal) → broken ≡ None
    → RefusesMessage end.log (opened_with said) said.message refusal → IsUnchanged end after
    → MayAsk broken end said (Err (refusals.Conn refusal)) after
unfolding MayAsk
refuses_asking broken end after said refusal unbroken refuses unchanged =
    (unbroken, refuses, unchanged)
