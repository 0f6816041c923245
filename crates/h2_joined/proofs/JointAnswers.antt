-- What two joined ends accept breaks no rule, as far as it was given: requests by themselves,
-- responses as answers to the requests.
use Rattle.h2_joined.proofs.Names
use Names.{inl, inr, ◌==◌, true, [], ◌∷◌, Option, refl, sym, ap, ◌∙◌, subst, AllByRecursion}
use Names.{both_ways, cases_Bool, cases_eq, Values, Act, Answer, Number, Done, MayAnswer}
use Names.{is_number_used, opened_is_new, Said, asks_head, Field, Part, Responses}
use Names.{FieldsPart, OctetsPart, IsPrefixOfTokens, parts_on, JointEnd, Made, end_tokens}
use Names.{said_tokens, IsNoEmptyPart, said_for, tokens_given, tokens_of_part, IsSoundSaid}
use Names.{tokens_of_parts, EndLog, Side, ◌≡◌, ◌≢◌, ℕ, Bool, false, List, Some, None, Server}
use Rattle.h2_message.specs.Phases.{asks_head_first}
use Rattle.h2_message.specs.declared.reading.Reads.TheVariants.{Requests}
use Rattle.std.proofs.lemmas.Bool.{ne_eqb, eqb-true}
use Rattle.h2_spec_log.specs.declared.role.Role.TheVariants.{Client}
use Rattle.h2_ends.specs.Ends.{replaced}
use Rattle.h2_ends.specs.EndCalls.{IsAsked, opened_with, answered_with, answer_reads}
use Rattle.h2_ends.proofs.PartSends.{one_said, replaced_here, replaced_elsewhere}
use Rattle.h2_joined.proofs.JointHolds.{JointHolds, EndHolds, AcceptWell, IsAnswer, log_of, HoldsAt}
use Rattle.h2_joined.proofs.JointHolds.{AcceptAt}
use Rattle.h2_joined.proofs.JointCalls.{end_called}
use Rattle.h2_joined.proofs.JointSound.{StaysSound}
use Rattle.h2_joined.proofs.JointOrder.{sent_used, hands_at}
use Rattle.h2_joined.specs.declared.act.Side.TheVariants as sides

-- What was accepted for a stream, once something more was accepted: that for its stream,
given_here : (i id : ℕ) (said : Said) (accepted : List (ℕ × Said))
    → (id == i) ≡ true → said_for i ((id, said) ∷ accepted) ≡ Some said
unfolding said_for
given_here i id said accepted here = rw here refl

-- and for another what was accepted before.
given_before : (i id : ℕ) (said : Said) (accepted : List (ℕ × Said))
    → (id == i) ≡ false
    → said_for i ((id, said) ∷ accepted) ≡ said_for i accepted
unfolding said_for
given_before i id said accepted other = rw other refl

-- What is some is not none.
not_none : {A : Type 0} (o : Option A) (x : A) → o ≡ Some x → o ≢ None
not_none o x is none = cc

module _ (client_values server_values : Values) (made : List Made) (client server : JointEnd) where
  -- A stream for which the client has accepted something is used.
  accepted_used : (i : ℕ) (said : Said)
      → JointHolds client_values server_values made client server
      → said_for i client.happened.accepted ≡ Some said
      → is_number_used client.happened.log i ≡ true
  accepted_used i said holds is =
      sent_used Client client_values client.happened.log i
      (log_of sides.Client client_values server_values made client server holds.stays)
      ((holds.order.sends i).begun (not_none _ said is))

  -- So a request on a new stream leaves what the server answers.
  pub request_accepted : (said : Said) (id : ℕ)
      → JointHolds client_values server_values made client server → IsSoundSaid Requests said
      → MayAnswer client.happened.log (opened_with said) (Number id)
      → AcceptWell client.happened server.happened
      → AcceptWell (end_called client.happened (opened_with said) (Number id)
      ((id, said) ∷ client.happened.accepted)) server.happened
  request_accepted said id holds sound may
      well =
      let accepted = client.happened.accepted in
      let new = (opened_is_new Client client_values client.happened.log said.message.head _ id
      (log_of sides.Client client_values server_values made client server holds.stays) may).2 in
      record {
        requests = λ i one is. elim (cases_Bool (id == i)) [
          | inl here ↦ subst (λ (any : Said). IsSoundSaid Requests any)
              (one_said _ said one (given_here i id said accepted here) is) sound
          | inr other ↦ well.requests i one (sym (given_before i id said accepted other) ∙ is)
        ];
        answers = λ i one is. let answer = well.answers i one is in
            let was = accepted_used i answer.request holds answer.accepted in
            let other : (id == i) ≡ false = ne_eqb id i (λ same. both_ways _ new
            (subst (λ (j : ℕ). is_number_used client.happened.log j ≡ true) (sym same) was)) in
            record {
              request = answer.request;
              accepted = given_before i id said accepted other ∙ answer.accepted;
              well = answer.well;
            };
      }

-- The first part that was handed out is the head of what was said, if it says anything.
first_is_head : (parts : List (Part × Bool)) (given : Option Said)
    → AllByRecursion IsNoEmptyPart parts → parts ≢ []
    → IsPrefixOfTokens (tokens_of_parts parts) (tokens_given given)
    → (request : Said) × (given ≡ Some request)
    × (asks_head_first parts ≡ asks_head request.message.head)
unfolding IsNoEmptyPart tokens_of_parts tokens_of_part tokens_given said_tokens asks_head_first
    end_tokens
first_is_head [] given says some begins = absurd (some refl)
first_is_head ((FieldsPart list, end) ∷ parts) None says some (rest, is) = absurd (cc)
first_is_head ((FieldsPart list, end) ∷ parts) (Some request) says some (rest, is) =
    let same : list ≡ request.message.head = cc in (request, refl, ap asks_head same)
first_is_head ((OctetsPart (octet ∷ octets), end) ∷ parts) None says some (rest, is) = absurd (cc)
first_is_head ((OctetsPart (octet ∷ octets), end) ∷ parts) (Some request) says some (rest, is) =
    absurd (cc)
first_is_head ((OctetsPart [], true) ∷ parts) None says some (rest, is) = absurd (cc)
first_is_head ((OctetsPart [], true) ∷ parts) (Some request) says some (rest, is) = absurd (cc)
first_is_head ((OctetsPart [], false) ∷ parts) given says some begins = elim (says.0) [
  | inl something ↦ absurd (something refl)
  | inr ends ↦ absurd (both_ways false refl ends)
]

module _ (client_values server_values : Values) (made : List Made) (client server : JointEnd)
    (id : ℕ) (said : Said) where
  -- So what the server answers is the request that the client has accepted.
  answers_request : HoldsAt sides.Server client_values server_values made server client
      → EndHolds made Server server.happened → IsAsked server.happened id
      → IsSoundSaid (answer_reads server.happened id) said → IsAnswer client.happened id said
  answers_request holds server_holds asked
      sound =
      let head = first_is_head (parts_on id server.happened.handed)
      (said_for id client.happened.accepted) (server_holds.says id) asked.handed
      (hands_at sides.Server client_values server_values made server client id holds) in
      record {
        request = head.0;
        accepted = head.1;
        well = subst (λ (b : Bool). IsSoundSaid (Responses b) said) head.2 sound;
      }

  -- A response breaks no rule as an answer to that.
  pub response_accepted : HoldsAt sides.Server client_values server_values made server client
      → EndHolds made Server server.happened → IsAsked server.happened id
      → IsSoundSaid (answer_reads server.happened id) said
      → AcceptWell client.happened server.happened
      → AcceptWell client.happened (end_called server.happened (answered_with id said) Done
      ((id, said) ∷ server.happened.accepted))
  response_accepted holds server_holds asked sound well =
      let accepted = server.happened.accepted in
      record {
        requests = well.requests;
        answers = λ i one is. elim (cases_Bool (id == i)) [
          | inl here ↦ subst (λ (j : ℕ). IsAnswer client.happened j one) (eqb-true id i here)
              (subst (λ (any : Said). IsAnswer client.happened id any)
              (one_said _ said one (given_here i id said accepted here) is)
              (answers_request holds server_holds asked sound))
          | inr other ↦ well.answers i one (sym (given_before i id said accepted other) ∙ is)
        ];
      }

-- What is asked with more is answered as it was.
answer_kept : (end : EndLog) (act : Act) (answer : Answer) (id : ℕ) (said more : Said) (i : ℕ)
    (one : Said)
    → said_for id end.accepted ≡ Some said → more.message.head ≡ said.message.head
    → IsAnswer end i one
    → IsAnswer (end_called end act answer (replaced id more end.accepted)) i one
answer_kept end act result id said more i one was head answer = elim (cases_eq i id) [
  | inl same ↦
      let before = one_said _ said answer.request was
      (subst (λ (j : ℕ). said_for j end.accepted ≡ Some answer.request) same answer.accepted) in
      record {
        request = more;
        accepted = subst (λ (j : ℕ). said_for j (replaced id more end.accepted) ≡ Some more)
            (sym same) (replaced_here id more said end.accepted was);
        well = subst (λ (list : List Field). IsSoundSaid (Responses (asks_head list)) one)
            (ap (λ (any : Said). any.message.head) (sym before) ∙ sym head) answer.well;
      }
  | inr apart ↦ record {
    request = answer.request;
    accepted = replaced_elsewhere i id more end.accepted apart ∙ answer.accepted;
    well = answer.well;
  }
]

-- A part more of a message, at either end, leaves its head, and so what is asked and answered.
pub part_accepted : (side : Side) (end other : EndLog) (act : Act) (answer : Answer) (id : ℕ)
    (said more : Said) → said_for id end.accepted ≡ Some said
    → more.message.head ≡ said.message.head → StaysSound said more → AcceptAt side end other
    → AcceptAt side (end_called end act answer (replaced id more end.accepted)) other
part_accepted sides.Client end other act answer id said more was head sound well =
    let here = replaced_here id more said end.accepted was in
    record {
      requests = λ i one is. elim (cases_eq i id) [
        | inl same ↦ subst (λ (any : Said). IsSoundSaid Requests any)
            (one_said _ more one here (rw same at is)) (sound Requests (well.requests id said was))
        | inr apart ↦ well.requests i one
            (sym (replaced_elsewhere i id more end.accepted apart) ∙ is)
      ];
      answers = λ i one is. answer_kept end act answer id said more i one was head
          (well.answers i one is);
    }
part_accepted sides.Server end other act answer id said more was head sound well =
    let here = replaced_here id more said end.accepted was in
    record {
      requests = well.requests;
      answers = λ i one is. elim (cases_eq i id) [
        | inl same ↦
            let answer = well.answers id said was in
            rw same (subst (λ (any : Said). IsAnswer other id any)
            (one_said _ more one here (rw same at is)) (record {
              request = answer.request;
              accepted = answer.accepted;
              well = sound _ answer.well;
            }))
        | inr apart ↦ well.answers i one
            (sym (replaced_elsewhere i id more end.accepted apart) ∙ is)
      ];
    }
