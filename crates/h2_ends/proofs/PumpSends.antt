-- What a pump makes of one stream: what holds before each call on it, and what each call leaves.
use Rattle.h2_ends.proofs.Names
use Names.{◌≡◌, ◌≢◌, ◌⊎◌, inl, inr, ℕ, ◌+◌, ◌<◌, ◌≤◌, ◌==◌, ◌&&◌, Bool, true, false, List, length}
use Names.{Option, Some, None, refl, sym, ap, ◌∙◌, subst, arith, length-drop, list_any, both_ways}
use Names.{and_parts, and_right, cases_Bool, cases_eq, eqb-true, ne_eqb, nat_tests, Field, Role}
use Names.{Refusal, Values, Act, Answer, IsTypedAct, SendFields, SendData, Count, Done, Number}
use Names.{Refused, ends, Log, active, MayAnswer, with_call, no_room_by_call, Conn, ConnRepresents}
use Names.{Outgoing, Stream, Waiting, Spans, EndLog, IsStuckOn, IsStream, IsWaiting, IsInStep}
use Names.{KeepsActive, outgoing_in, end_after_call, with_outgoing, keeps_with, IsPumping}
use Names.{LacksSpace, KeepsActiveOnly, KeepsActiveBut, sends_data, IsOutgoing, IsKept}
use Names.{call_may_close, is_none, option_map, sends_trailers}
use Rattle.h2_ends.specs.EndCalls.{data_refused, trailers_refused}
use Rattle.h2_ends.proofs.InSteps.{in_step_called, active_called}
use Rattle.h2_ends.proofs.PumpCalls.{pump_keeps}
use Rattle.h2_ends.proofs.PumpEnds.{keeps_here, keeps_other, kept_is, call_represents, same_by}
use Rattle.h2_ends.proofs.PumpEnds.{same_by_call, stuck_unless_waiting}
use Rattle.h2_ends.proofs.EndSteps.{same_outgoing}
use Rattle.h2_ends.proofs.EndTokens.{refused_tokens}
use Rattle.h2_ends.proofs.PumpStays.{stays_active}
use Rattle.h2_ends.proofs.PumpSteps.{pumps_until}
use Rattle.h2_ends.proofs.PumpStuck.{data_none, fields_none, stuck_by_data, stuck_by_fields}
use Rattle.h2_ends.proofs.PumpTokens.{octets_left, sent_more, waiting_goes_on, stuck_waiting}
use Rattle.h2_ends.proofs.PumpTokens.{waits_after, sent_after_data, sent_after_fields}
use Rattle.h2_ends.proofs.PumpTokens.{trailers_fit, trailers_left, body_waits, trailers_wait}
use Rattle.h2_ends.proofs.PumpWindows.{none_without_room, data_waits, data_within, data_failed}
use Rattle.h2_ends.proofs.PumpWindows.{fields_failed, fields_wait, refused_waits}
use Rattle.h2_ends.proofs.RequestSteps.{refused_fields_keep}
use Rattle.h2_ends.specs.declared.outgoing.Outgoing.TheVariants as outgoings
use Rattle.h2_ends.specs.EndCalls as calls
use Rattle.h2_ends.specs.Pumping as pumping
use Rattle.h2_ends.proofs.PumpRefusals as refused

-- Neither call, nor its refusal, closes another stream.
pub data_elsewhere : (i id : ℕ) (octets : List ℕ) (end : Bool) (answer : Answer) → i ≢ id
    → call_may_close i (SendData id octets end) answer ≡ false
unfolding call_may_close
data_elsewhere i id octets end (Count n) other = rw (ne_eqb id i (λ same. other (sym same))) refl
data_elsewhere i id octets end answer other = refl

pub fields_elsewhere : (i id : ℕ) (fields : List Field) (end : Bool) (answer : Answer) → i ≢ id
    → call_may_close i (SendFields id fields end) answer ≡ false
unfolding call_may_close
fields_elsewhere i id fields end Done other = rw (ne_eqb id i (λ same. other (sym same))) refl
fields_elsewhere i id fields end answer other = refl

-- A refused one closes none.
pub data_closes_none : (i id : ℕ) (octets : List ℕ) (end : Bool) (refusal : Refusal)
    → call_may_close i (SendData id octets end) (Refused refusal) ≡ false
unfolding call_may_close
data_closes_none i id octets end refusal = refl

-- As much space is lacking after it as before.
lacks_after : (log : Log) (act : Act) (refusal : Refusal) → LacksSpace log refusal
    → LacksSpace (with_call log act (Refused refusal)) refusal
lacks_after log act refusal (inl (is, full)) =
    let same = refused_waits log act refusal in inl (is, omega (arith, full, same))
lacks_after log act refusal (inr is) = inr is

-- Something else is sent on a stream that a message waited on: it is in step still.
in_step_here : (spans : Spans) (stream : Stream) (happened : EndLog) (id : ℕ) (waits : Waiting)
    (outgoing : Outgoing)
    → IsInStep spans (Some (with_outgoing stream (outgoings.Waiting waits))) happened id
    → IsInStep spans (Some (with_outgoing stream outgoing)) happened id
in_step_here spans stream happened id waits outgoing is =
    record {
      all = λ up alive none. cc;
      handed = is.handed;
      within = λ other same. is.within waits refl;
      owes = is.owes;
      turn = is.turn;
      malformed = is.malformed;
    }

-- the call that sends what is left of the body
abbrev pub data_act : ℕ → Waiting → Act
data_act id waits = SendData id (octets_left waits) (is_none waits.trailers)

-- There are none, by the test.
no_trailers : {A : Type 0} → (trailers : Option A) → is_none trailers ≡ true → trailers ≡ None
no_trailers None none = refl
no_trailers (Some x) none = absurd (both_ways false refl none)

module _ (values : Values) (start : EndLog) (role : Role) (spans : Spans)
    (keeps : ℕ → Option Stream) (id : ℕ) (stream : Stream) where
  -- what is kept while this is to be sent on the stream
  abbrev keeps_to : Outgoing → ℕ → Option Stream
  keeps_to outgoing = keeps_with keeps id (with_outgoing stream outgoing)

  -- the conditions of that module for this pump and stream
  abbrev pub IsSendingOn : (count : ℕ) (conn : Conn) (happened : EndLog) (waits : Waiting)
      → Type 0
  IsSendingOn = pumping.IsSendingOn values start role spans keeps id stream

  abbrev pub HasSent : (count : ℕ) (conn : Conn) (happened : EndLog) → Type 0
  HasSent = pumping.HasSent values start role spans keeps id stream

  abbrev pub IsStopped : (count : ℕ) (conn : Conn) (after : EndLog) (waits : Waiting)
      (refusal : Refusal) → Type 0
  IsStopped = pumping.IsStopped values start role spans keeps id stream

  -- Either of both, where the body is all sent with END_STREAM.
  abbrev pub IsUnderWay : (count : ℕ) (conn : Conn) (happened : EndLog) (waits : Waiting)
      → Type 0
  IsUnderWay count conn happened waits =
      IsSendingOn count conn happened waits
      ⊎ (HasSent count conn happened × (waits.trailers ≡ None)
      × (length waits.body.items ≤ waits.sent))

  -- The pump comes to the stream, where a message waits.
  pub send_begins : (count : ℕ) (conn : Conn) (happened : EndLog) (waits : Waiting)
      → IsPumping values start count conn role spans keeps happened id
      → KeepsActiveOnly happened.log keeps → keeps id ≡ Some stream
      → stream.outgoing ≡ outgoings.Waiting waits → active happened.log id ≡ true
      → IsSendingOn count conn happened waits
  send_begins count conn happened waits is keeps_active here outgoing alive =
      record {
        pumping = pump_keeps values start count conn role spans keeps
            (keeps_to (outgoings.Waiting waits)) happened id is (λ i. sym (same_by keeps id
            (with_outgoing stream (outgoings.Waiting waits)) i (i == id) refl
            (here ∙ ap (λ (one : Outgoing). Some (with_outgoing stream one)) outgoing)));
        alive = alive;
        others = λ i other. subst (λ (x : Option Stream). KeepsActive happened.log x i)
            (sym (keeps_other keeps id (with_outgoing stream (outgoings.Waiting waits)) i other))
            (keeps_active i);
      }

  -- What is kept of the stream waits.
  waits_on : (count : ℕ) (conn : Conn) (happened : EndLog) (waits : Waiting)
      → IsSendingOn count conn happened waits → IsWaiting happened id waits
  unfolding IsKept IsOutgoing
  waits_on count conn happened waits is =
      let next = with_outgoing stream (outgoings.Waiting waits) in
      let here : IsStream happened id next =
      kept_is values conn role (keeps_to (outgoings.Waiting waits)) happened id (Some next)
      is.pumping.represents (keeps_here keeps id next) is.alive in
      here.outgoing

  module _ (count : ℕ) (conn : Conn) (happened : EndLog) (waits : Waiting)
      (is : IsSendingOn count conn happened waits) where
    waits_here : IsWaiting happened id waits
    waits_here = waits_on count conn happened waits is

    -- This end has not ended the stream.
    goes_on : list_any (ends id) happened.log.sent ≡ false
    goes_on =
        waiting_goes_on _ values happened id waits is.pumping.represents.represents.machine.came
        waits_here

    -- The stream comes next.
    next_here : calls.IsNext happened id
    next_here = record { active = is.alive; below = is.pumping.below }

    -- Where no octets are left and nothing was sent to the end, trailers are left.
    pub ends_or_trailers : length waits.body.items ≤ waits.sent → waits.trailers ≢ None
    ends_or_trailers none = trailers_left happened id waits waits_here none

    -- A call opens no stream.
    module _ (act : Act) (answer : Answer) (may : MayAnswer happened.log act answer)
        (opens : (i : ℕ) → answer ≢ Number i) where
      -- So what is kept is in step, with something else on this stream,
      in_step_after : (outgoing : Outgoing) (i : ℕ)
          → IsInStep spans (keeps_to outgoing i) (end_after_call happened act answer) i
      in_step_after outgoing i =
          let was = in_step_called _ values spans (keeps_to (outgoings.Waiting waits) i) happened
          act answer happened.accepted i is.pumping.represents.represents.machine.came may
          (opens i) (is.pumping.in_step i) in
          elim (cases_eq i id) [
            | inl same ↦ subst (λ (j : ℕ). IsInStep spans (keeps_to outgoing j)
                (end_after_call happened act answer) j) (sym same)
                (subst (λ (x : Option Stream). IsInStep spans x
                (end_after_call happened act answer) id)
                (sym (keeps_here keeps id (with_outgoing stream outgoing)))
                (in_step_here spans stream (end_after_call happened act answer) id waits outgoing
                (subst (λ (x : Option Stream). IsInStep spans x
                (end_after_call happened act answer) id)
                (keeps_here keeps id (with_outgoing stream (outgoings.Waiting waits)))
                (subst (λ (j : ℕ). IsInStep spans (keeps_to (outgoings.Waiting waits) j)
                (end_after_call happened act answer) j) same was))))
            | inr other ↦ subst (λ (x : Option Stream). IsInStep spans x
                (end_after_call happened act answer) i)
                (keeps_other keeps id (with_outgoing stream (outgoings.Waiting waits)) i other
                ∙ sym (keeps_other keeps id (with_outgoing stream outgoing) i other)) was
          ]

      -- and of active streams, but for this one.
      active_after : (outgoing : Outgoing)
          → ((i : ℕ) → i ≢ id → call_may_close i act answer ≡ false)
          → KeepsActiveBut (with_call happened.log act answer) (keeps_to outgoing) id
      active_after outgoing stays = λ i other.
          subst (λ (x : Option Stream). KeepsActive (with_call happened.log act answer) x i)
          (keeps_other keeps id (with_outgoing stream (outgoings.Waiting waits)) i other
          ∙ sym (keeps_other keeps id (with_outgoing stream outgoing) i other))
          (active_called _ values happened.log act answer
          (keeps_to (outgoings.Waiting waits) i) i
          is.pumping.represents.represents.machine.came may (stays i other) (is.others i other))

      -- Where it closes none, of active ones alone.
      all_active_after : ((i : ℕ) → call_may_close i act answer ≡ false)
          → KeepsActiveOnly (with_call happened.log act answer)
          (keeps_to (outgoings.Waiting waits))
      all_active_after stays = λ i. elim (cases_eq i id) [
        | inl same ↦ active_called _ values happened.log act answer
            (keeps_to (outgoings.Waiting waits) i) i
            is.pumping.represents.represents.machine.came may (stays i)
            (λ some. subst (λ (j : ℕ). active happened.log j ≡ true) (sym same) is.alive)
        | inr other ↦ active_after (outgoings.Waiting waits) (λ j apart. stays j) i other
      ]

    module _ (new : Conn) (n : ℕ) (typed : IsTypedAct (data_act id waits))
        (may : MayAnswer happened.log (data_act id waits) (Count n))
        (conn_is : ConnRepresents values new
        (with_call happened.log (data_act id waits) (Count n)))
      where
        -- Octets were accepted, and this is to be sent then.
        data_pumping : (outgoing : Outgoing) → waits.sent < length waits.body.items
            → IsOutgoing (end_after_call happened (data_act id waits) (Count n)) id outgoing
            → IsPumping values start (count + n) new role spans (keeps_to outgoing)
            (end_after_call happened (data_act id waits) (Count n)) id
        data_pumping outgoing some sends =
            let octets = octets_left waits in
            let end = is_none waits.trailers in
            let given = is.pumping.represents.represents.machine.output.given in
            let more = data_waits happened.log id octets end n given may in
            let few = is.pumping.sum in
            record {
              represents = call_represents values conn new role keeps happened (data_act id waits)
                  (Count n) id (with_outgoing stream (outgoings.Waiting waits)) outgoing
                  is.pumping.represents is.alive may conn_is
                  (λ i other. data_none i id octets end (Count n) other) sends;
              in_step = in_step_after (data_act id waits) (Count n) may (λ i wrong. cc) outgoing;
              calls = sends_data is.pumping.calls id n octets end next_here typed
                  (body_waits happened id waits waits_here some) may;
              up = data_failed happened.log id octets end n ∙ is.pumping.up;
              sum = omega (arith, more, few);
              below = λ j low. stuck_by_data happened id octets end (Count n) j
                  (λ same. omega (arith, low, same)) (is.pumping.below j low);
            }

        data_others : (outgoing : Outgoing)
            → KeepsActiveBut (with_call happened.log (data_act id waits) (Count n))
            (keeps_to outgoing) id
        data_others outgoing =
            active_after (data_act id waits) (Count n) may (λ i wrong. cc) outgoing
            (λ i other. data_elsewhere i id (octets_left waits) (is_none waits.trailers) (Count n)
            other)

        -- What waits then, waits, unless that is all.
        data_sends : waits.sent < length waits.body.items
            → (is_none waits.trailers && n == length (octets_left waits)) ≡ false
            → IsSendingOn (count + n) new
            (end_after_call happened (data_act id waits) (Count n)) (sent_more waits n)
        unfolding IsOutgoing
        data_sends some goes =
            let octets = octets_left waits in
            let end = is_none waits.trailers in
            let within = data_within happened.log id octets end n may in
            let after = end_after_call happened (data_act id waits) (Count n) in
            let rest = waits_after happened id waits n waits_here (omega (arith, some)) within
            goes in
            record {
              pumping = data_pumping (outgoings.Waiting (sent_more waits n)) some rest;
              alive = stays_active happened.log id octets end n may
                  (waiting_goes_on _ values after id (sent_more waits n) conn_is.machine.came
                  rest);
              others = data_others (outgoings.Waiting (sent_more waits n));
            }

        -- So a call that sends octets leaves the stream under way.
        pub data_goes : waits.sent < length waits.body.items
            → IsUnderWay (count + n) new (end_after_call happened (data_act id waits) (Count n))
            (sent_more waits n)
        unfolding IsOutgoing
        data_goes some =
            let octets = octets_left waits in
            let left = length-drop waits.sent waits.body.items in
            elim (cases_Bool (is_none waits.trailers && n == length octets)) [
              | inl all ↦
                  let parts = and_parts (is_none waits.trailers) (n == length octets) all in
                  let whole = eqb-true n (length octets) parts.1 in
                  inr (
                    record {
                      pumping = data_pumping outgoings.Sent some
                          (sent_after_data happened id waits n waits_here parts.0 whole);
                      others = data_others outgoings.Sent;
                    },
                    no_trailers waits.trailers parts.0,
                    omega (arith, left, whole, some),
                  )
              | inr goes ↦ inl (data_sends some goes)
            ]

    -- Where it sends none, nothing could go on the stream.
    module _ (new : Conn) (typed : IsTypedAct (data_act id waits))
        (may : MayAnswer happened.log (data_act id waits) (Count 0))
        (conn_is : ConnRepresents values new
        (with_call happened.log (data_act id waits) (Count 0)))
        (some : waits.sent < length waits.body.items) where
      sends_still : IsSendingOn count new
          (end_after_call happened (data_act id waits) (Count 0)) waits
      sends_still =
          let after = end_after_call happened (data_act id waits) (Count 0) in
          let left = length-drop waits.sent waits.body.items in
          let same : waits.sent + 0 ≡ waits.sent = omega arith in
          let sum : count + 0 ≡ count = omega arith in
          subst (λ (sent : ℕ). IsSendingOn count new after (record waits { sent = sent })) same
          (subst (λ (c : ℕ). IsSendingOn c new after (sent_more waits 0)) sum
          (data_sends new 0 typed may conn_is some
          (and_right _ _ (not_none (length (octets_left waits)) (omega (arith, left, some))))))
        where
          not_none : (n : ℕ) → 0 < n → (0 == n) ≡ false
          not_none n some = grind (arith, nat_tests)

      pub data_is_stuck : IsSendingOn count new
          (end_after_call happened (data_act id waits) (Count 0)) waits
          × IsStuckOn (end_after_call happened (data_act id waits) (Count 0)) id
      data_is_stuck =
          let after = end_after_call happened (data_act id waits) (Count 0) in
          let left = length-drop waits.sent waits.body.items in
          let octets : length (octets_left waits) ≢ 0 =
          λ none. omega (arith, left, none, some) in (
            sends_still,
            stuck_waiting after id waits (waits_on count new after waits sends_still) octets
                (no_room_by_call happened.log (data_act id waits) (Count 0) id
                (none_without_room happened.log id (octets_left waits) (is_none waits.trailers) may
                octets)),
          )

    -- Where a call on the stream is refused, the output is full, or memory was refused.
    stopped : (new : Conn) (act : Act) (refusal : Refusal)
        → MayAnswer happened.log act (Refused refusal)
        → ConnRepresents values new (with_call happened.log act (Refused refusal))
        → ((i : ℕ) → call_may_close i act (Refused refusal) ≡ false)
        → calls.Pumps happened 0 (Some refusal) (end_after_call happened act (Refused refusal))
        → LacksSpace happened.log refusal
        → IsStopped count new (end_after_call happened act (Refused refusal)) waits refusal
    unfolding IsOutgoing
    stopped new act refusal may conn_is stays last lacks =
        let outgoing = outgoings.Waiting waits in
        record {
          represents = call_represents values conn new role keeps happened act (Refused refusal) id
              (with_outgoing stream outgoing) outgoing is.pumping.represents is.alive may conn_is
              (λ i other. refused_tokens i act refusal) (same_outgoing happened
              (end_after_call happened act (Refused refusal)) id outgoing
              (same_by_call happened act (Refused refusal) id (refused_tokens id act refusal))
              waits_here);
          in_step = in_step_after act (Refused refusal) may (λ i wrong. cc) outgoing;
          active = all_active_after act (Refused refusal) may (λ i wrong. cc) stays;
          calls = pumps_until start happened _ count refusal is.pumping.calls last;
          lacks = lacks_after happened.log act refusal lacks;
        }

    pub data_is_refused : (new : Conn) (refusal : Refusal)
        → waits.sent < length waits.body.items → IsTypedAct (data_act id waits)
        → MayAnswer happened.log (data_act id waits) (Refused refusal)
        → ConnRepresents values new (with_call happened.log (data_act id waits) (Refused refusal))
        → IsStopped count new (end_after_call happened (data_act id waits) (Refused refusal)) waits
        refusal
    data_is_refused new refusal some typed may conn_is =
        let octets = octets_left waits in
        let end = is_none waits.trailers in
        stopped new (data_act id waits) refusal may conn_is
        (λ i. data_closes_none i id octets end refusal)
        (data_refused happened id octets end refusal next_here typed
        (body_waits happened id waits waits_here some) may)
        (refused.data_refused happened.log id octets end refusal is.pumping.up is.alive goes_on
        may)

    module _ (new : Conn) (fields : List Field) (typed : IsTypedAct (SendFields id fields true))
        (are : option_map (λ list. list.items) waits.trailers ≡ Some fields) where
      -- A call that sends the trailers, once no octets are left, ends the message.
      pub fields_go : length waits.body.items ≤ waits.sent
          → MayAnswer happened.log (SendFields id fields true) Done
          → ConnRepresents values new (with_call happened.log (SendFields id fields true) Done)
          → HasSent count new (end_after_call happened (SendFields id fields true) Done)
      fields_go none may conn_is =
          let act = SendFields id fields true in
          let left = length-drop waits.sent waits.body.items in
          let none_left : length (octets_left waits) ≡ 0 = omega (arith, left, none) in
          let given = is.pumping.represents.represents.machine.output.given in
          let more = fields_wait happened.log id fields true given in
          let few = is.pumping.sum in
          record {
            pumping = record {
              represents = call_represents values conn new role keeps happened act Done id
                  (with_outgoing stream (outgoings.Waiting waits)) outgoings.Sent
                  is.pumping.represents is.alive may conn_is
                  (λ i other. fields_none i id fields true Done other)
                  (sent_after_fields happened id waits fields waits_here none_left are);
              in_step = in_step_after act Done may (λ i wrong. cc) outgoings.Sent;
              calls = sends_trailers is.pumping.calls id fields next_here typed
                  (trailers_wait happened id waits fields waits_here none_left are) may;
              up = fields_failed happened.log id fields true ∙ is.pumping.up;
              sum = omega (arith, more, few);
              below = λ j low. stuck_by_fields happened id fields true Done j
                  (λ same. omega (arith, low, same)) (is.pumping.below j low);
            };
            others = active_after act Done may (λ i wrong. cc) outgoings.Sent
                (λ i other. fields_elsewhere i id fields true Done other);
          }

      pub fields_are_refused : (refusal : Refusal) → length waits.body.items ≤ waits.sent
          → MayAnswer happened.log (SendFields id fields true) (Refused refusal)
          → ConnRepresents values new
          (with_call happened.log (SendFields id fields true) (Refused refusal))
          → IsStopped count new
          (end_after_call happened (SendFields id fields true) (Refused refusal)) waits refusal
      fields_are_refused refusal none may conn_is =
          let left = length-drop waits.sent waits.body.items in
          stopped new (SendFields id fields true) refusal may conn_is
          (λ i. refused_fields_keep i id fields true refusal)
          (trailers_refused happened id fields refusal next_here typed
          (trailers_wait happened id waits fields waits_here (omega (arith, left, none)) are) may)
          (refused.fields_refused happened.log id fields true refusal is.pumping.up is.alive
          goes_on (trailers_fit happened id waits fields waits_here are) may)

  -- Once all was sent, no message waits on the stream.
  pub none_waits_sent : (waits : Waiting)
      → outgoing_in (keeps_to outgoings.Sent id) ≢ outgoings.Waiting waits
  none_waits_sent waits is =
      wrong (ap outgoing_in (sym (keeps_here keeps id (with_outgoing stream outgoings.Sent))) ∙ is)
    where
      wrong : outgoings.Sent ≡ outgoings.Waiting waits → ⊥
      wrong same = cc

  pub sent_is_stuck : (count : ℕ) (conn : Conn) (happened : EndLog)
      → HasSent count conn happened → IsStuckOn happened id
  sent_is_stuck count conn happened is =
      stuck_unless_waiting values conn role (keeps_to outgoings.Sent) happened id
      is.pumping.represents none_waits_sent
