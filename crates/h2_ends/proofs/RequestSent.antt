-- What is kept of what was given whose head was sent, and nothing else of it.
use Rattle.h2_ends.proofs.Names
use Names.{◌≡◌, ◌≢◌, ◌⊎◌, ℕ, ◌<◌, ◌==◌, ◌&&◌, Bool, true, false, List, [], ◌∷◌, ◌++◌, length}
use Names.{if◌then◌else◌, Option, Some, None, refl, sym, ap, ◌∙◌, inl, inr, arith, both_ways}
use Names.{and_parts, eqb-true, eq-eqb, ne_eqb, Field, Act, Answer, is_too_large, Message}
use Names.{Outgoing, Waiting, Said, Form, AtOnce, Begun, Ended, at_once, given_end}
use Names.{is_ended_by_head, trailer_fields, message_value, Token, FieldsToken, OctetToken}
use Names.{EndToken}
use Names.{tokens_of_call, EndLog, tokens_out, is_head_alone, SendsInOrder, end_tokens}
use Names.{trailers_tokens, said_tokens, said_for, tokens_given, IsOutgoing, outgoing_for}
use Rattle.std.proofs.Common.{map as each}
use Rattle.std.specs.Prelude.{is_none, option_map}
use Rattle.h2_ends.proofs.EndSteps.{called_end}
use Rattle.h2_ends.proofs.EndTokens.{call_tokens}
use Rattle.h2_ends.specs.declared.outgoing.Outgoing.TheVariants as outgoings

-- the tokens of the head of what was given
abbrev pub head_tokens : Said → List Token
head_tokens said =
    FieldsToken said.message.head (is_ended_by_head said.form said.message)
    ∷ end_tokens (is_ended_by_head said.form said.message)

-- What follows the head of a message without body and trailers is its end.
alone_by : (body : List ℕ) (trailers : Option (List Field))
    → (length body == 0 && is_none trailers) ≡ true
    → each OctetToken body ++ (trailers_tokens trailers ++ EndToken ∷ []) ≡ EndToken ∷ []
unfolding trailers_tokens
alone_by [] None is = refl
alone_by [] (Some trailers) is = absurd (both_ways false refl is)
alone_by (octet ∷ body) trailers is =
    absurd (omega (arith, eqb-true (length (octet ∷ body)) 0 (and_parts _ _ is).0))

-- A message that isn't its head alone has some octet or trailers.
some_by : {A B : Type 0} (f : A → B) (body : List ℕ) (trailers : Option A)
    → (length body == 0 && is_none (option_map f trailers)) ≡ false
    → (0 < length body) ⊎ (trailers ≢ None)
some_by f [] None is = absurd (both_ways true is refl)
some_by f [] (Some trailers) is = inr (λ none. cc)
some_by f (octet ∷ body) trailers is = inl (omega arith)

-- What waits once the head was sent, by whether it ends the message.
rest_by : (said : Said) (form : Form) (b : Bool) → said.form ≡ form
    → is_ended_by_head form said.message ≡ b → (rest : List Token)
    × (said_tokens said ≡ (FieldsToken said.message.head b ∷ end_tokens b) ++ rest)
unfolding said_tokens end_tokens
rest_by said AtOnce true form is = (
  [],
  rw (form, is) (ap (λ (tokens : List Token). FieldsToken said.message.head true ∷ tokens)
      (alone_by said.message.body said.message.trailers is)),
)
rest_by said form false same is = (
  each OctetToken said.message.body
      ++ (trailers_tokens said.message.trailers ++ given_end said.form),
  rw (same, is) refl,
)
rest_by said (Begun length) true form is = absurd (both_ways false refl is)
rest_by said Ended true form is = absurd (both_ways false refl is)

-- Where the head was sent, that is the beginning of what is said on the stream.
pub sent_in_order : (end : EndLog) (id : ℕ) (said : Said)
    → said_for id end.accepted ≡ Some said → tokens_out end id ≡ head_tokens said
    → SendsInOrder end id
unfolding tokens_given
sent_in_order end id said accepted sent =
    let rest = rest_by said said.form (is_ended_by_head said.form said.message) refl refl in
    record {
      waiting = rest.0;
      prefix = rw (accepted, sent) rest.1;
      begun = λ given none. let wrong = sym sent ∙ none in cc;
    }

-- What waits of it is kept.
outgoing_by : (end : EndLog) (id : ℕ) (message : Message) (b : Bool)
    → is_head_alone (message_value message) ≡ b
    → said_for id end.accepted ≡ Some (at_once (message_value message))
    → tokens_out end id ≡ FieldsToken message.head.items b ∷ end_tokens b
    → is_too_large (trailer_fields (message_value message).trailers) ≡ false
    → IsOutgoing end id (if b then outgoings.Sent else outgoings.Waiting (record {
      body = record { items = message.body.items };
      sent = 0;
      trailers = message.trailers;
    }))
unfolding IsOutgoing said_tokens end_tokens
outgoing_by end id message true is accepted sent fits =
    record {
      said = at_once (message_value message);
      accepted = accepted;
      whole = refl;
      out = rw is (ap (λ (tokens : List Token). FieldsToken message.head.items true ∷ tokens)
          (alone_by message.body.items (message_value message).trailers is)) ∙ sym sent;
    }
outgoing_by end id message false is accepted sent fits =
    record {
      said = at_once (message_value message);
      accepted = accepted;
      whole = refl;
      rest = rw (sent, is) refl;
      begun = λ none. let wrong = sym sent ∙ none in cc;
      some = some_by _ message.body.items message.trailers is;
      fits = fits;
    }

outgoing_after_head : (end : EndLog) (id : ℕ) (message : Message)
    → said_for id end.accepted ≡ Some (at_once (message_value message))
    → tokens_out end id ≡ head_tokens (at_once (message_value message))
    → is_too_large (trailer_fields (message_value message).trailers) ≡ false
    → IsOutgoing end id (outgoing_for message)
outgoing_after_head end id message accepted sent fits =
    outgoing_by end id message (is_head_alone (message_value message)) refl accepted sent fits

pub left_of_message : (end : EndLog) (id : ℕ) (message : Message) (outgoing : Outgoing)
    → outgoing ≡ outgoing_for message
    → is_too_large (trailer_fields (message_value message).trailers) ≡ false
    → said_for id end.accepted ≡ Some (at_once (message_value message))
    → tokens_out end id ≡ head_tokens (at_once (message_value message))
    → IsOutgoing end id outgoing
left_of_message end id message outgoing is fits accepted sent =
    rw is (outgoing_after_head end id message accepted sent fits)

-- Nothing waits of a message that is its head alone.
pub alone_waits_not : (message : Message) (outgoing : Outgoing) → outgoing ≡ outgoing_for message
    → is_head_alone (message_value message) ≡ true → (waiting : Waiting)
    → outgoing ≡ outgoings.Waiting waiting → ⊥
alone_waits_not message outgoing is alone waiting waits =
    let sent : outgoing ≡ outgoings.Sent = is ∙ rw alone refl in
    let wrong = sym sent ∙ waits in cc

-- The call that sends the head is the first one that sends a token.
pub sent_first : (happened : EndLog) (act : Act) (answer : Answer)
    (accepted : List (ℕ × Said)) (id : ℕ) (tokens : List Token)
    → tokens_out happened id ≡ [] → tokens_of_call id act answer ≡ tokens
    → tokens_out (called_end happened act answer accepted) id ≡ tokens
sent_first happened act answer accepted id tokens none are =
    call_tokens id happened.log act answer
    ∙ ap (λ (before : List Token). before ++ tokens_of_call id act answer) none
    ∙ are

-- What is accepted is that of its own stream.
pub accepted_here : (id : ℕ) (said : Said) (accepted : List (ℕ × Said))
    → said_for id ((id, said) ∷ accepted) ≡ Some said
unfolding said_for
accepted_here id said accepted = rw (eq-eqb id id refl) refl

pub accepted_elsewhere : (i id : ℕ) (said : Said) (accepted : List (ℕ × Said))
    → i ≢ id → said_for i ((id, said) ∷ accepted) ≡ said_for i accepted
unfolding said_for
accepted_elsewhere i id said accepted other =
    rw (ne_eqb id i (λ same. other (sym same))) refl
