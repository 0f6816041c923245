-- What an end represents once it has sent a part of a message that was begun.
use Rattle.h2_ends.proofs.Names
use Names.{Spans}
use Names.{◌≡◌, ◌≢◌, ◌⊎◌, ℕ, ◌+◌, ◌≤◌, Bool, true, false, if◌then◌else◌, List, [], ◌∷◌, ◌++◌}
use Names.{length}
use Names.{Option, Some, None, refl, sym, ap, ◌∙◌, inl, inr, arith, both_ways, eq-eqb, ne_eqb}
use Names.{eqb-true}
use Names.{append_assoc, append-nil, Values, Act, Answer, Number, MayAnswer, with_call}
use Names.{ConnRepresents, IsOver, active, End, Stream, Outgoing, Waiting, Field}
use Names.{grows_call}
use Names.{used_by_call, Token, FieldsToken, OctetToken, EndToken, end_tokens, trailers_tokens}
use Names.{Said}
use Names.{Begun, said_tokens, is_begun, EndLog}
use Names.{asked_head, said_for, replaced, tokens_out, tokens_of_call, call_may_close, reads_on}
use Names.{EndRepresents}
use Names.{RepresentsBut, IsStream, IsKept, IsOutgoing, KeepsOne, given_stream}
use Names.{take, ◌&&◌, ◌==◌, subst, length-append, arith, SendData, SendFields, Count, Done}
use Names.{end_with_log}
use Names.{option_map, kept_at, outgoing_in, IsNotOpen, IsOpen, IsGiven, active_by_call}
use Names.{end_with_more, with_octets, with_trailers}
use Rattle.std.proofs.Common.{map as each, length-take, min}
use Rattle.std.proofs.lemmas.List.{map-append}
use Rattle.h2_ends.specs.Represents.{IsInParts, IsRest}
use Rattle.h2_message.specs.Lengths.{breaks_length, length_after}
use Rattle.h2_ends.proofs.PartLengths.{left_after}
use Rattle.h2_ends.proofs.PumpTokens.{data_tokens, fields_tokens}
use Rattle.h2_message.specs.declared.parts.BodyLength.{BodyLength}
use Rattle.h2_ends.proofs.EndSteps.{stepped, outgoing_kept}
use Rattle.h2_ends.proofs.InSteps.{in_step_called, represents_all}
use Rattle.h2_ends.proofs.PumpEnds.{sends_of}
use Rattle.h2_ends.proofs.PumpStuck.{out_after, data_none, fields_none}
use Rattle.h2_ends.proofs.PumpSends.{data_elsewhere, fields_elsewhere}
use Rattle.h2_ends.proofs.RequestSteps.{stepped_but, within_given}
use Rattle.h2_ends.proofs.RespondHeads.{kept_stream}
use Rattle.h2_ends.proofs.RequestSent.{accepted_here, accepted_elsewhere}
use Rattle.h2_ends.specs.declared.outgoing.Outgoing.TheVariants as outgoings

-- Two messages that are accepted for one stream are one.
pub one_said : (o : Option Said) (one other : Said) → o ≡ Some one → o ≡ Some other → one ≡ other
one_said o one other is also = cc

-- A message that is given whole, or has ended, is not begun.
not_begun : (end : EndLog) (id : ℕ) (said other : Said) (number : Option ℕ)
    → said_for id end.accepted ≡ Some said → is_begun said.form ≡ false
    → said_for id end.accepted ≡ Some other → other.form ≡ Begun number → ⊥
not_begun end id said other number is whole also begun =
    both_ways _ whole (rw (one_said _ said other is also, begun) refl)

-- E3, unless one is kept as begun.
not_open : (end : EndLog) (id : ℕ) (outgoing : Outgoing)
    → ((rest : BodyLength) → outgoing ≡ outgoings.Open rest → ⊥) → IsOutgoing end id outgoing
    → IsNotOpen end id
unfolding IsOutgoing
not_open end id outgoings.NotGiven other is = λ said number goes.
    let some = goes.accepted in let none = is.0 in cc
not_open end id (outgoings.Open rest) other is = absurd (other rest refl)
not_open end id (outgoings.Waiting waiting) other is = λ said number goes.
    not_begun end id is.said said number is.accepted is.whole goes.accepted goes.form
not_open end id outgoings.Sent other is = λ said number goes.
    not_begun end id is.said said number is.accepted is.whole goes.accepted goes.form

pub not_open_here : (end : EndLog) (id : ℕ) (kept : Option Stream)
    → ((rest : BodyLength) → outgoing_in kept ≡ outgoings.Open rest → ⊥)
    → IsOver end.log id ⊎ IsKept end id kept → IsNotOpen end id
not_open_here end id kept other (inl past) = λ said number goes.
    both_ways _ past.not_active goes.active
not_open_here end id kept other (inr here) =
    not_open end id (outgoing_in kept) other (outgoing_kept end id kept here)

-- Where it is open, all that was given of it was sent.
sent_by : (end : EndLog) (id : ℕ) (outgoing : Outgoing) (said : Said) (number : Option ℕ)
    → IsOpen end id said number → IsOutgoing end id outgoing → tokens_out end id ≡ said_tokens said
unfolding IsOutgoing
sent_by end id outgoings.NotGiven said number goes is =
    absurd (not_open end id outgoings.NotGiven (λ rest same. cc) is said number goes)
sent_by end id (outgoings.Open rest) said number goes is =
    sym (ap said_tokens (one_said _ said is.said goes.accepted is.accepted) ∙ is.out)
sent_by end id (outgoings.Waiting waiting) said number goes is =
    absurd (not_open end id (outgoings.Waiting waiting) (λ rest same. cc) is said number goes)
sent_by end id outgoings.Sent said number goes is =
    absurd (not_open end id outgoings.Sent (λ rest same. cc) is said number goes)

pub sent_at_once : (values : Values) (now : End) (end : EndLog) (id : ℕ) (said : Said)
    (number : Option ℕ) → EndRepresents values now end → IsOpen end id said number
    → tokens_out end id ≡ said_tokens said
sent_at_once values now end id said number is goes = elim (is.streams.streams id) [
  | inl past ↦ absurd (both_ways _ past.not_active goes.active)
  | inr here ↦ sent_by end id (outgoing_in (kept_at id now.streams.entries)) said number goes
      (outgoing_kept end id (kept_at id now.streams.entries) here)
]

begun_by : (end : EndLog) (id : ℕ) (outgoing : Outgoing) (rest : BodyLength)
    → outgoing ≡ outgoings.Open rest → IsOutgoing end id outgoing → IsInParts end id rest
unfolding IsOutgoing
begun_by end id outgoing rest is kept = rw is at kept

-- What is kept of a message that was begun.
pub rest_here : (values : Values) (old : End) (end : EndLog) (id : ℕ) (stream : Stream)
    (rest : BodyLength) → EndRepresents values old end
    → Some stream ≡ kept_at id old.streams.entries → stream.outgoing ≡ outgoings.Open rest
    → IsInParts end id rest × (active end.log id ≡ true)
rest_here values old end id stream rest is was given =
    let alive = is.active id (λ none. let wrong = was ∙ none in cc) in
    let here = kept_stream end id stream alive (rw (← was) at (is.streams.streams id)) in
    (begun_by end id stream.outgoing rest given here.outgoing, alive)

-- So a message is open there.
pub open_by : (end : EndLog) (id : ℕ) (rest : BodyLength) (begun : IsInParts end id rest)
    → active end.log id ≡ true → IsOpen end id begun.said begun.number
open_by end id rest begun alive =
    record { active = alive; accepted = begun.accepted; form = begun.form }

-- Something is kept of the stream.
kept_begun : (end : EndLog) (id : ℕ) (kept : Option Stream) (rest : BodyLength)
    → IsInParts end id rest → active end.log id ≡ true → IsOver end.log id ⊎ IsKept end id kept
    → (stream : Stream) × (kept ≡ Some stream) × IsStream end id stream
unfolding IsKept
kept_begun end id kept rest begun alive (inl past) = absurd (both_ways _ past.not_active alive)
kept_begun end id None rest begun alive (inr kept) =
    let some = begun.accepted in let none = kept.unsaid in cc
kept_begun end id (Some stream) rest begun alive (inr kept) = (stream, refl, kept)

-- What was accepted for one of the streams is replaced, and for the others it is the same.
here_by : (id i : ℕ) (said one : Said) (accepted more : List (ℕ × Said)) (b : Bool)
    → (i == id) ≡ b → (b ≡ false → said_for id more ≡ Some said)
    → said_for id (if b then (id, said) ∷ accepted else (i, one) ∷ more) ≡ Some said
unfolding said_for
here_by id i said one accepted more true is rest = accepted_here id said accepted
here_by id i said one accepted more false is rest = rw is (rest refl)

pub replaced_here : (id : ℕ) (said before : Said) (accepted : List (ℕ × Said))
    → said_for id accepted ≡ Some before → said_for id (replaced id said accepted) ≡ Some said
unfolding said_for replaced
replaced_here id said before [] was = cc
replaced_here id said before ((i, one) ∷ accepted) was =
    here_by id i said one accepted (replaced id said accepted) (i == id) refl
    (λ other. replaced_here id said before accepted (rw other at was))

elsewhere_by : (i id j : ℕ) (said one : Said) (accepted more : List (ℕ × Said)) (b : Bool)
    → (j == id) ≡ b → i ≢ id → said_for i more ≡ said_for i accepted
    → said_for i (if b then (id, said) ∷ accepted else (j, one) ∷ more)
    ≡ said_for i ((j, one) ∷ accepted)
unfolding said_for
elsewhere_by i id j said one accepted more true is other rest =
    accepted_elsewhere i id said accepted other
    ∙ sym (accepted_elsewhere i j one accepted (λ same. other (same ∙ eqb-true j id is)))
elsewhere_by i id j said one accepted more false is other rest =
    ap (λ (o : Option Said). if j == i then Some one else o) rest

pub replaced_elsewhere : (i id : ℕ) (said : Said) (accepted : List (ℕ × Said)) → i ≢ id
    → said_for i (replaced id said accepted) ≡ said_for i accepted
unfolding replaced
replaced_elsewhere i id said [] other = refl
replaced_elsewhere i id said ((j, one) ∷ accepted) other =
    elsewhere_by i id j said one accepted (replaced id said accepted) (j == id) refl other
    (replaced_elsewhere i id said accepted other)

-- The tokens of what was given with octets more, and of what was given with trailers.
seam : (one two three : List Token) → (one ++ two) ++ three ≡ (one ++ []) ++ (two ++ three)
seam one two three =
    append_assoc one two three
    ∙ ap (λ (tokens : List Token). tokens ++ (two ++ three)) (sym (append-nil one))

pub octets_more : (said : Said) (number : Option ℕ) (octets : List ℕ) (end : Bool)
    → said.form ≡ Begun number → said.message.trailers ≡ None
    → said_tokens (with_octets said octets end)
    ≡ said_tokens said ++ (each OctetToken octets ++ end_tokens end)
unfolding said_tokens trailers_tokens end_tokens
octets_more said number octets true begun bare =
    rw (begun, bare, map-append OctetToken said.message.body octets)
    (ap (λ (tokens : List Token). FieldsToken said.message.head false ∷ tokens)
    (seam (each OctetToken said.message.body) (each OctetToken octets) (EndToken ∷ [])))
octets_more said number octets false begun bare =
    rw (begun, bare, map-append OctetToken said.message.body octets)
    (ap (λ (tokens : List Token). FieldsToken said.message.head false ∷ tokens)
    (seam (each OctetToken said.message.body) (each OctetToken octets) []))

pub trailers_more : (said : Said) (number : Option ℕ) (list : List Field)
    → said.form ≡ Begun number → said.message.trailers ≡ None
    → said_tokens (with_trailers said list)
    ≡ said_tokens said ++ (FieldsToken list true ∷ EndToken ∷ [])
unfolding said_tokens trailers_tokens
trailers_more said number list begun bare =
    rw (begun, bare, append-nil (each OctetToken said.message.body)) refl

-- What is read on the stream is the same, since its head is.
reads_more : (end : EndLog) (act : Act) (answer : Answer) (id : ℕ) (said before : Said)
    → said_for id end.accepted ≡ Some before → said.message.head ≡ before.message.head
    → reads_on (end_with_more end act answer id said) id ≡ reads_on end id
unfolding reads_on asked_head
reads_more end act answer id said before was head =
    rw (
      (grows_call end.log act answer).role,
      replaced_here id said before end.accepted was,
      was,
      head,
    ) refl

-- What is kept of the stream to which this is given.
kept_as : (mid old : End) (id : ℕ) (left : Outgoing) (stream : Stream)
    → mid.streams ≡ old.streams → kept_at id old.streams.entries ≡ Some stream
    → option_map (given_stream left) (kept_at id mid.streams.entries)
    ≡ Some (given_stream left stream)
kept_as mid old id left stream same was = rw (same, was) refl

-- What a call has sent on a stream of what was begun there, and what is kept of it then.
pub record IsMore (values : Values) (old mid new : End) (end : EndLog) (act : Act)
    (answer : Answer) (id : ℕ) (rest : BodyLength) (said : Said) (left : Outgoing) : Type 0 where
  pub represents : EndRepresents values old end
  pub begun : IsInParts end id rest
  pub alive : active end.log id ≡ true
  pub head : said.message.head ≡ begun.said.message.head
  pub may : MayAnswer end.log act answer
  pub conn : ConnRepresents values mid.conn (with_call end.log act answer)
  pub role : mid.role ≡ old.role
  pub spans : mid.spans ≡ old.spans
  pub streams : mid.streams ≡ old.streams
  pub gives : IsGiven mid id left new
  pub none : (i : ℕ) → i ≢ id → tokens_of_call i act answer ≡ []
  pub opens : (i : ℕ) → answer ≢ Number i
  pub closes : (i : ℕ) → i ≢ id → call_may_close i act answer ≡ false
  pub outgoing : IsOutgoing (end_with_more end act answer id said) id left
  pub waits : (waiting : Waiting) → left ≡ outgoings.Waiting waiting → ⊥

module _ (values : Values) (old mid new : End) (end : EndLog) (act : Act) (answer : Answer)
    (id : ℕ) (rest : BodyLength) (said : Said) (left : Outgoing)
    (more : IsMore values old mid new end act answer id rest said left) where
  -- The end represents it, but for the stream, which may be closed.
  pub more_sent : RepresentsBut values new (end_with_more end act answer id said) id
  unfolding IsKept
  more_sent =
      let after = end_with_more end act answer id said in
      let is = more.represents in
      let had = kept_begun end id (kept_at id old.streams.entries) rest more.begun more.alive
      (is.streams.streams id) in
      let stream = had.0 in
      let given = given_stream left stream in
      let keeps : KeepsOne old new id (Some given) = record {
        one = more.gives.keeps.one ∙ kept_as mid old id left stream more.streams had.1;
        others = λ i other. more.gives.keeps.others i other ∙ rw more.streams refl;
      } in
      let streams = stepped values old new end act answer id (Some given) after.accepted is.streams
      more.may (rw more.gives.conn more.conn) (more.gives.role ∙ more.role) keeps more.none
      (λ i other. replaced_elsewhere i id said end.accepted other)
      (inr (record {
        was_used = used_by_call end.log act answer id had.2.was_used;
        reading = rw (reads_more end act answer id said more.begun.said more.begun.accepted
            more.head) had.2.reading;
        outgoing = more.outgoing;
        asked = λ server. had.2.asked (sym (grows_call end.log act answer).role ∙ server);
      })) (sends_of after id left more.outgoing) in
      let before = in_step_called _ values old.spans (kept_at id old.streams.entries) end act
      answer after.accepted id is.streams.conn.machine.came more.may (more.opens id)
      (is.in_step id) in
      stepped_but values old new end act answer id (Some given) after.accepted is more.may streams
      keeps (λ i within. more.gives.more i (rw more.spans within))
      (rw more.spans at more.gives.owing) (rw more.spans at more.gives.turn)
      (rw more.spans at more.gives.malformed)
      (λ i other. more.opens i) more.closes
      (record {
        all = λ up alive none. cc;
        handed = before.handed;
        within = within_given new.spans.waiting id left stream
            (λ waiting waits. absurd (more.waits waiting waits));
        owes = λ some. rw (more.gives.owing, more.spans) (before.owes some);
        turn = more.gives.turn ∙ ap (λ (s : Spans). s.turn) more.spans ∙ before.turn;
        malformed = more.gives.malformed ∙ ap (λ (s : Spans). s.malformed) more.spans
            ∙ before.malformed;
      })

  -- Where the call does not close it, the end represents all of it.
  pub more_goes_on : call_may_close id act answer ≡ false
      → EndRepresents values new (end_with_more end act answer id said)
  more_goes_on stays =
      represents_all values new (end_with_more end act answer id said) id more_sent
      (λ some. active_by_call _ values end.log act answer id
      more.represents.streams.conn.machine.came more.may more.alive stays)

-- Octets without the end do not close the stream.
pub data_stays : (id : ℕ) (octets : List ℕ) (ends : Bool) (n : ℕ)
    → (ends && n == length octets) ≡ false
    → call_may_close id (SendData id octets ends) (Count n) ≡ false
unfolding call_may_close
data_stays id octets ends n last = rw (eq-eqb id id refl) last

-- The least of two numbers.
fewest : (n most : ℕ) → n ≤ most → min n most ≡ n
fewest n most few = omega (arith, few)

module _ (end : EndLog) (id : ℕ) (rest : BodyLength) (begun : IsInParts end id rest) where
  -- What was sent on the stream once octets of the body were,
  data_out : (octets : List ℕ) (ends last : Bool) (n : ℕ) → (ends && n == length octets) ≡ last
      → said_tokens (with_octets begun.said (take n octets) last)
      ≡ tokens_out (end_with_log end (with_call end.log (SendData id octets ends) (Count n))) id
  data_out octets ends last n is =
      octets_more begun.said begun.number (take n octets) last begun.form begun.bare
      ∙ ap (λ (tokens : List Token). tokens ++ (each OctetToken (take n octets)
      ++ end_tokens last)) begun.out
      ∙ ap (λ (tokens : List Token). tokens_out end id ++ tokens)
      (ap (λ (b : Bool). each OctetToken (take n octets) ++ end_tokens b) (sym is)
      ∙ sym (data_tokens id octets ends n))
      ∙ sym (out_after end (SendData id octets ends) (Count n) id)

  -- and once trailers were.
  trailers_out : (list : List Field)
      → said_tokens (with_trailers begun.said list)
      ≡ tokens_out (end_with_log end (with_call end.log (SendFields id list true) Done)) id
  trailers_out list =
      trailers_more begun.said begun.number list begun.form begun.bare
      ∙ ap (λ (tokens : List Token). tokens ++ (FieldsToken list true ∷ EndToken ∷ [])) begun.out
      ∙ ap (λ (tokens : List Token). tokens_out end id ++ tokens)
      (sym (fields_tokens id list)) ∙ sym (out_after end (SendFields id list true) Done id)

  -- So all of the message was sent where its end was among it.
  pub sent_with_data : (octets : List ℕ) (ends : Bool) (n : ℕ)
      → (ends && n == length octets) ≡ true
      → IsOutgoing (end_with_more end (SendData id octets ends) (Count n) id
      (with_octets begun.said (take n octets) true)) id outgoings.Sent
  unfolding IsOutgoing
  sent_with_data octets ends n is =
      record {
        said = with_octets begun.said (take n octets) true;
        accepted = replaced_here id _ begun.said end.accepted begun.accepted;
        whole = refl;
        out = data_out octets ends true n is;
      }

  pub sent_with_trailers : (list : List Field)
      → IsOutgoing (end_with_more end (SendFields id list true) Done id
      (with_trailers begun.said list)) id outgoings.Sent
  unfolding IsOutgoing
  sent_with_trailers list =
      record {
        said = with_trailers begun.said list;
        accepted = replaced_here id _ begun.said end.accepted begun.accepted;
        whole = refl;
        out = trailers_out list;
      }

  -- Otherwise more of it may follow, and less of its body is left.
  pub left_with_data : (octets : List ℕ) (ends : Bool) (n : ℕ) (after : BodyLength)
      → (ends && n == length octets) ≡ false → n ≤ length octets
      → breaks_length rest.left (length octets) ends ≡ false
      → after.left ≡ length_after rest.left n
      → IsOutgoing (end_with_more end (SendData id octets ends) (Count n) id
      (with_octets begun.said (take n octets) false)) id (outgoings.Open after)
  unfolding IsOutgoing
  left_with_data octets ends n after is few unbroken left =
      record {
        said = with_octets begun.said (take n octets) false;
        number = begun.number;
        accepted = replaced_here id _ begun.said end.accepted begun.accepted;
        form = begun.form;
        bare = refl;
        out = data_out octets ends false n is;
        left = subst (λ (sum : ℕ). IsRest begun.number sum after)
            (sym (length-append begun.said.message.body (take n octets)
            ∙ ap (λ (m : ℕ). length begun.said.message.body + m)
            (length-take n octets ∙ fewest n (length octets) few)))
            (left_after begun.number (length begun.said.message.body) (length octets) n rest after
            ends begun.left unbroken few left);
      }

module _ (values : Values) (old mid new : End) (end : EndLog) (id : ℕ) (rest : BodyLength)
    (is : EndRepresents values old end) (begun : IsInParts end id rest)
    (alive : active end.log id ≡ true) (role : mid.role ≡ old.role)
    (spans : mid.spans ≡ old.spans) (streams : mid.streams ≡ old.streams) where
  -- Octets of a body were sent.
  more_data : (octets : List ℕ) (ends last : Bool) (n : ℕ) (left : Outgoing)
      → MayAnswer end.log (SendData id octets ends) (Count n)
      → ConnRepresents values mid.conn (with_call end.log (SendData id octets ends) (Count n))
      → IsGiven mid id left new
      → IsOutgoing (end_with_more end (SendData id octets ends) (Count n) id
      (with_octets begun.said (take n octets) last)) id left
      → ((waiting : Waiting) → left ≡ outgoings.Waiting waiting → ⊥)
      → IsMore values old mid new end (SendData id octets ends) (Count n) id rest
      (with_octets begun.said (take n octets) last) left
  more_data octets ends last n left may conn gives sends waits =
      record {
        represents = is;
        begun = begun;
        alive = alive;
        head = refl;
        may = may;
        conn = conn;
        role = role;
        spans = spans;
        streams = streams;
        gives = gives;
        none = λ i other. data_none i id octets ends (Count n) other;
        opens = λ i same. cc;
        closes = λ i other. data_elsewhere i id octets ends (Count n) other;
        outgoing = sends;
        waits = waits;
      }

  -- With its end among them the stream may be closed,
  pub data_ends : (octets : List ℕ) (ends : Bool) (n : ℕ)
      → (ends && n == length octets) ≡ true
      → MayAnswer end.log (SendData id octets ends) (Count n)
      → ConnRepresents values mid.conn (with_call end.log (SendData id octets ends) (Count n))
      → IsGiven mid id outgoings.Sent new
      → RepresentsBut values new (end_with_more end (SendData id octets ends) (Count n) id
      (with_octets begun.said (take n octets) true)) id
  data_ends octets ends n last may conn gives =
      more_sent values old mid new end (SendData id octets ends) (Count n) id rest
      (with_octets begun.said (take n octets) true) outgoings.Sent
      (more_data octets ends true n outgoings.Sent may conn gives
      (sent_with_data end id rest begun octets ends n last) (λ waiting same. cc))

  -- and without it it goes on.
  pub data_goes_on : (octets : List ℕ) (ends : Bool) (n : ℕ) (after : BodyLength)
      → (ends && n == length octets) ≡ false → n ≤ length octets
      → breaks_length rest.left (length octets) ends ≡ false
      → after.left ≡ length_after rest.left n
      → MayAnswer end.log (SendData id octets ends) (Count n)
      → ConnRepresents values mid.conn (with_call end.log (SendData id octets ends) (Count n))
      → IsGiven mid id (outgoings.Open after) new
      → EndRepresents values new (end_with_more end (SendData id octets ends) (Count n) id
      (with_octets begun.said (take n octets) false))
  data_goes_on octets ends n after last few unbroken left may conn gives =
      more_goes_on values old mid new end (SendData id octets ends) (Count n) id rest
      (with_octets begun.said (take n octets) false) (outgoings.Open after)
      (more_data octets ends false n (outgoings.Open after) may conn gives
      (left_with_data end id rest begun octets ends n after last few unbroken left)
      (λ waiting same. cc)) (data_stays id octets ends n last)

  -- Trailers were sent.
  pub trailers_end : (list : List Field) → MayAnswer end.log (SendFields id list true) Done
      → ConnRepresents values mid.conn (with_call end.log (SendFields id list true) Done)
      → IsGiven mid id outgoings.Sent new
      → RepresentsBut values new (end_with_more end (SendFields id list true) Done id
      (with_trailers begun.said list)) id
  trailers_end list may conn gives =
      more_sent values old mid new end (SendFields id list true) Done id rest
      (with_trailers begun.said list) outgoings.Sent
      (record {
        represents = is;
        begun = begun;
        alive = alive;
        head = refl;
        may = may;
        conn = conn;
        role = role;
        spans = spans;
        streams = streams;
        gives = gives;
        none = λ i other. fields_none i id list true Done other;
        opens = λ i same. cc;
        closes = λ i other. fields_elsewhere i id list true Done other;
        outgoing = sent_with_trailers end id rest begun list;
        waits = λ waiting same. cc;
      })

-- Whether the end is among the octets that were sent.
pub all_by : (ends : Bool) (n size : ℕ) → ends ≡ true → n ≡ size → (ends && n == size) ≡ true
all_by ends n size set all = rw set (eq-eqb n size all)

pub not_all_by : (ends : Bool) (n size : ℕ) → (ends ≡ false) ⊎ (n ≢ size)
    → (ends && n == size) ≡ false
not_all_by ends n size (inl unset) = rw unset refl
not_all_by true n size (inr fewer) = ne_eqb n size fewer
not_all_by false n size (inr fewer) = refl
