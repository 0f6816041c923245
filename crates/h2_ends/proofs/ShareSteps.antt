-- What an end represents once a call of a share has sent what waited on a stream.
use Rattle.h2_ends.proofs.Names
use Names.{◌≡◌, ◌≢◌, ◌⊎◌, inl, inr, ℕ, ◌<◌, ◌≤◌, ◌==◌, ◌&&◌, Bool, true, false, [], List, ◌++◌}
use Names.{length, take, Some, refl, sym, ap, ◌∙◌, arith, min, nat_tests}
use Names.{Values, Act, Answer, SendFields, SendData, Count, Done, Number, MayAnswer, with_call}
use Names.{active, ConnRepresents, grows_call, used_by_call, tokens_of_call, end_tokens, Token}
use Names.{OctetToken, End, Outgoing, Stream, Waiting, EndLog, tokens_out, end_after_call}
use Names.{with_outgoing, IsWaiting, IsStream, IsOutgoing, IsKept, EndRepresents, RepresentsBut}
use Names.{outgoing_in, kept_at, KeepsOne, call_may_close, active_by_call, is_none, Field}
use Names.{option_map, Refusal, Refused, is_number_used}
use Rattle.std.specs.Prelude.{nat_le}
use Rattle.std.proofs.Common.{map as each, take-take, length-take}
use Rattle.h2_ends.specs.Passes.{share_act}
use Rattle.h2_ends.proofs.EndSteps.{same_outgoing, stepped}
use Rattle.h2_ends.proofs.InSteps.{in_step_called, represents_all}
use Rattle.h2_ends.proofs.EndTokens.{refused_tokens}
use Rattle.h2_ends.proofs.PartSends.{data_stays}
use Rattle.h2_ends.proofs.PumpEnds.{sends_of, stream_after, same_by_call}
use Rattle.h2_ends.proofs.PumpSends.{data_elsewhere, fields_elsewhere}
use Rattle.h2_ends.proofs.PumpStuck.{out_after, data_none, fields_none}
use Rattle.h2_ends.proofs.PumpTokens.{octets_left, sent_more, data_tokens, waits_after}
use Rattle.h2_ends.proofs.PumpTokens.{sent_after_data, sent_after_fields}
use Rattle.h2_ends.proofs.PumpSteps.{up_to_or}
use Rattle.h2_ends.proofs.RequestSteps.{stepped_but}
use Rattle.h2_ends.proofs.RespondHeads.{kept_stream}
use Rattle.h2_ends.specs.declared.outgoing.Outgoing.TheVariants as outgoings

-- A number is below another, or not.
pub below_or : (j n : ℕ) → (j < n) ⊎ (n ≤ j)
below_or j n = elim (up_to_or n j) [
  | inl here ↦ inr here
  | inr above ↦ inl above
]

-- What is kept of a stream on which a message waits, and what a call has sent of it.
pub record IsCalled (values : Values) (old new : End) (end : EndLog) (act : Act)
    (answer : Answer) (id : ℕ) (stream : Stream) (waits : Waiting) (left : Outgoing) : Type 0 where
  pub represents : EndRepresents values old end
  pub alive : active end.log id ≡ true
  pub here : kept_at id old.streams.entries ≡ Some stream
  pub outgoing : stream.outgoing ≡ outgoings.Waiting waits
  pub may : MayAnswer end.log act answer
  pub conn : ConnRepresents values new.conn (with_call end.log act answer)
  pub role : new.role ≡ old.role
  pub spans : new.spans ≡ old.spans
  pub keeps : KeepsOne old new id (Some (with_outgoing stream left))
  pub none : (i : ℕ) → i ≢ id → tokens_of_call i act answer ≡ []
  pub opens : (i : ℕ) → answer ≢ Number i
  pub closes : (i : ℕ) → i ≢ id → call_may_close i act answer ≡ false
  pub sends : IsOutgoing (end_after_call end act answer) id left

-- What is kept of it.
pub stream_here : (values : Values) (old : End) (end : EndLog) (id : ℕ) (stream : Stream)
    → EndRepresents values old end → kept_at id old.streams.entries ≡ Some stream
    → active end.log id ≡ true → IsStream end id stream
stream_here values old end id stream is here alive =
    kept_stream end id stream alive (rw here at (is.streams.streams id))

pub waiting_here : (values : Values) (old : End) (end : EndLog) (id : ℕ) (stream : Stream)
    (waits : Waiting) → EndRepresents values old end
    → kept_at id old.streams.entries ≡ Some stream → active end.log id ≡ true
    → stream.outgoing ≡ outgoings.Waiting waits → IsWaiting end id waits
unfolding IsOutgoing
waiting_here values old end id stream waits is here alive outgoing =
    rw outgoing at (stream_here values old end id stream is here alive).outgoing

module _ (values : Values) (old new : End) (end : EndLog) (act : Act) (answer : Answer)
    (id : ℕ) (stream : Stream) (waits : Waiting) (left : Outgoing)
    (called : IsCalled values old new end act answer id stream waits left) where
  -- The end represents it, but for the stream, which may be closed.
  pub sent_there : RepresentsBut values new (end_after_call end act answer) id
  unfolding IsKept
  sent_there =
      let is = called.represents in
      let was = stream_here values old end id stream is called.here called.alive in
      let given = with_outgoing stream left in
      let streams = stepped values old new end act answer id (Some given) end.accepted is.streams
      called.may called.conn called.role called.keeps called.none (λ i other. refl)
      (inr (stream_after end act answer id stream left was called.sends))
      (sends_of (end_after_call end act answer) id left called.sends) in
      let before = in_step_called _ values old.spans (kept_at id old.streams.entries) end act
      answer end.accepted id is.streams.conn.machine.came called.may (called.opens id)
      (is.in_step id) in
      stepped_but values old new end act answer id (Some given) end.accepted is called.may streams
      called.keeps (λ i within. rw called.spans within) (rw called.spans refl)
      (rw called.spans refl) (rw called.spans refl) (λ i other. called.opens i) called.closes
      (record {
        all = λ up alive none. cc;
        handed = before.handed;
        within = λ other same. rw called.spans ((is.in_step id).within waits
            (ap outgoing_in called.here ∙ called.outgoing));
        owes = rw called.spans before.owes;
        turn = rw called.spans before.turn;
        malformed = rw called.spans before.malformed;
      })

  -- Where the call does not close it, the end represents all of it.
  pub sent_on : call_may_close id act answer ≡ false
      → EndRepresents values new (end_after_call end act answer)
  sent_on stays =
      represents_all values new (end_after_call end act answer) id sent_there
      (λ some. active_by_call _ values end.log act answer id
      called.represents.streams.conn.machine.came called.may called.alive stays)

-- The share has the end where all of the rest does.
ends_alike : (most n size : ℕ) (ends : Bool) → n ≤ min most size
    → ((ends && nat_le size most) && n == min most size) ≡ (ends && n == size)
ends_alike most n size true few = grind (arith, nat_tests)
ends_alike most n size false few = refl

module _ (most id : ℕ) (octets : List ℕ) (ends : Bool) (n : ℕ)
    (few : n ≤ length (take most octets)) where
  -- A share of octets sends what the same number of them sends of the rest.
  pub share_tokens : tokens_of_call id (share_act most id octets ends) (Count n)
      ≡ tokens_of_call id (SendData id octets ends) (Count n)
  share_tokens =
      let size = length-take most octets in
      data_tokens id (take most octets) (ends && nat_le (length octets) most) n
      ∙ ap (λ (line : List ℕ). each OctetToken line ++ end_tokens
      ((ends && nat_le (length octets) most) && n == length (take most octets)))
      (take-take n most octets (omega (arith, few, size)))
      ∙ ap (λ (b : Bool). each OctetToken (take n octets) ++ end_tokens b)
      (ap (λ (m : ℕ). (ends && nat_le (length octets) most) && n == m) size
      ∙ ends_alike most n (length octets) ends (omega (arith, few, size)))
      ∙ sym (data_tokens id octets ends n)

  -- So what is kept of its stream after the one is kept after the other.
  pub kept_alike : (end : EndLog) (outgoing : Outgoing) → is_number_used end.log id ≡ true
      → IsOutgoing (end_after_call end (SendData id octets ends) (Count n)) id outgoing
      → IsOutgoing (end_after_call end (share_act most id octets ends) (Count n)) id outgoing
  kept_alike end outgoing was_used is =
      same_outgoing (end_after_call end (SendData id octets ends) (Count n))
      (end_after_call end (share_act most id octets ends) (Count n)) id outgoing
      (record {
        handed = refl;
        accepted = refl;
        sent = out_after end (share_act most id octets ends) (Count n) id
            ∙ ap (λ (line : List Token). tokens_out end id ++ line) share_tokens
            ∙ sym (out_after end (SendData id octets ends) (Count n) id);
        role = (grows_call end.log (share_act most id octets ends) (Count n)).role
            ∙ sym (grows_call end.log (SendData id octets ends) (Count n)).role;
        used_still = λ before. used_by_call end.log (share_act most id octets ends) (Count n) id
            was_used;
      }) is

module _ (values : Values) (old new : End) (end : EndLog) (id : ℕ) (stream : Stream)
    (waits : Waiting) (is : EndRepresents values old end)
    (here : kept_at id old.streams.entries ≡ Some stream)
    (alive : active end.log id ≡ true) (outgoing : stream.outgoing ≡ outgoings.Waiting waits)
    (role : new.role ≡ old.role) (spans : new.spans ≡ old.spans) where
  waits_there : IsWaiting end id waits
  waits_there = waiting_here values old end id stream waits is here alive outgoing

  was_used : is_number_used end.log id ≡ true
  was_used = (stream_here values old end id stream is here alive).was_used

  -- A call on the stream.
  called_there : (act : Act) (answer : Answer) (left : Outgoing)
      → MayAnswer end.log act answer
      → ConnRepresents values new.conn (with_call end.log act answer)
      → KeepsOne old new id (Some (with_outgoing stream left))
      → ((i : ℕ) → i ≢ id → tokens_of_call i act answer ≡ []) → ((i : ℕ) → answer ≢ Number i)
      → ((i : ℕ) → i ≢ id → call_may_close i act answer ≡ false)
      → IsOutgoing (end_after_call end act answer) id left
      → IsCalled values old new end act answer id stream waits left
  called_there act answer left may conn keeps none opens closes sends =
      record {
        represents = is;
        alive = alive;
        here = here;
        outgoing = outgoing;
        may = may;
        conn = conn;
        role = role;
        spans = spans;
        keeps = keeps;
        none = none;
        opens = opens;
        closes = closes;
        sends = sends;
      }

  module _ (most n : ℕ) (few : n ≤ length (take most (octets_left waits)))
      (some : waits.sent < length waits.body.items) where
    abbrev rest : List ℕ
    rest = octets_left waits

    abbrev act : Act
    act = share_act most id rest (is_none waits.trailers)

    module _ (may : MayAnswer end.log act (Count n))
        (conn : ConnRepresents values new.conn (with_call end.log act (Count n))) where
      shared : (left : Outgoing) → KeepsOne old new id (Some (with_outgoing stream left))
          → IsOutgoing
          (end_after_call end (SendData id rest (is_none waits.trailers)) (Count n)) id
          left → IsCalled values old new end act (Count n) id stream waits left
      shared left keeps sends =
          called_there act (Count n) left may conn keeps
          (λ i other. data_none i id (take most rest) (is_none waits.trailers
          && nat_le (length rest) most) (Count n) other) (λ i wrong. cc)
          (λ i other. data_elsewhere i id (take most rest) (is_none waits.trailers
          && nat_le (length rest) most) (Count n) other)
          (kept_alike most id rest (is_none waits.trailers) n few end left was_used sends)

      -- Octets of a share were sent, without the end: the end represents it.
      pub share_goes : KeepsOne old new id
          (Some (with_outgoing stream (outgoings.Waiting (sent_more waits n))))
          → (is_none waits.trailers && n == length rest) ≡ false
          → EndRepresents values new (end_after_call end act (Count n))
      unfolding IsOutgoing
      share_goes keeps goes =
          let size = length-take most rest in
          let within : n ≤ length rest = omega (arith, few, size) in
          let left = outgoings.Waiting (sent_more waits n) in
          sent_on values old new end act (Count n) id stream waits left
          (shared left keeps
          (waits_after end id waits n waits_there (omega (arith, some)) within goes))
          (data_stays id (take most rest) (is_none waits.trailers && nat_le (length rest) most) n
          (ap (λ (m : ℕ). (is_none waits.trailers && nat_le (length rest) most) && n == m) size
          ∙ ends_alike most n (length rest) (is_none waits.trailers) (omega (arith, few, size))
          ∙ goes))

      -- With the end all was sent, and the stream may be closed.
      pub share_ends : KeepsOne old new id (Some (with_outgoing stream outgoings.Sent))
          → is_none waits.trailers ≡ true → n ≡ length rest
          → RepresentsBut values new (end_after_call end act (Count n)) id
      share_ends keeps none all =
          sent_there values old new end act (Count n) id stream waits outgoings.Sent
          (shared outgoings.Sent keeps (sent_after_data end id waits n waits_there none all))

  -- The trailers were sent, once no octets were left.
  pub list_goes : (list : List Field) → length (octets_left waits) ≡ 0
      → option_map (λ one. one.items) waits.trailers ≡ Some list
      → MayAnswer end.log (SendFields id list true) Done
      → ConnRepresents values new.conn (with_call end.log (SendFields id list true) Done)
      → KeepsOne old new id (Some (with_outgoing stream outgoings.Sent))
      → RepresentsBut values new (end_after_call end (SendFields id list true) Done) id
  list_goes list none are may conn keeps =
      sent_there values old new end (SendFields id list true) Done id stream waits outgoings.Sent
      (called_there (SendFields id list true) Done outgoings.Sent may conn keeps
      (λ i other. fields_none i id list true Done other) (λ i wrong. cc)
      (λ i other. fields_elsewhere i id list true Done other)
      (sent_after_fields end id waits list waits_there none are))

  -- A call on the stream was refused.
  pub share_refused : (act : Act) (refusal : Refusal) → MayAnswer end.log act (Refused refusal)
      → ConnRepresents values new.conn (with_call end.log act (Refused refusal))
      → KeepsOne old new id (Some (with_outgoing stream (outgoings.Waiting waits)))
      → ((i : ℕ) → call_may_close i act (Refused refusal) ≡ false)
      → EndRepresents values new (end_after_call end act (Refused refusal))
  unfolding IsOutgoing
  share_refused act refusal may conn keeps closes =
      let left = outgoings.Waiting waits in
      sent_on values old new end act (Refused refusal) id stream waits left
      (called_there act (Refused refusal) left may conn keeps
      (λ i other. refused_tokens i act refusal) (λ i wrong. cc) (λ i other. closes i)
      (same_outgoing end (end_after_call end act (Refused refusal)) id left
      (same_by_call end act (Refused refusal) id (refused_tokens id act refusal)) waits_there))
      (closes id)
