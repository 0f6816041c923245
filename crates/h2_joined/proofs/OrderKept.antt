-- What was sent and handed out at two joined ends keeps the order, whatever acts are made.
use Rattle.h2_joined.proofs.Names
use Names.{Result, Ok, Err, sym, subst, Role, Values, Act, ResetStream, SendPing, SendGoAway}
use Names.{Widen}
use Names.{Fail, ChangeSettings, PutOut, Done, IsLog, opened_is_new, SentMessage, Option, Malformed}
use Names.{EndRefusal, EndLog, EndTook, EndFailed, KeepsOrder, no_part_next, Acted, Doing, JointEnd}
use Names.{Delivery, IsDelivered, MayDo, IsControlCall, MayAsk, MayReply, ℕ, List, Answer, Said}
use Names.{◌≡◌, ◌≢◌, ◌==◌, ◌++◌, [], inl, inr, ap, ◌∙◌, refl, Bool, true, false, take, length}
use Names.{append-nil, both_ways, cases_eq, Field, Token, Reads, Count, SendFields, IsTypedAct}
use Names.{MaySendBody, MaySendTrailers, MayAnswer, with_call, tokens_out, said_for, said_tokens}
use Names.{end_tokens, tokens_given, is_begun, SendsInOrder, end_with_log, end_with_said, EndAnswer}
use Names.{EndMayTake, Some, None}
use Rattle.std.specs.Prelude.{◌&&◌}
use Rattle.h2_message.specs.declared.reading.Reads.TheVariants.{Requests}
use Rattle.h2_spec_log.specs.Acts.{SendData}
use Rattle.h2_laws_pair.specs.Tokens.{at_once, tokens_of_call, trailers_tokens}
use Rattle.h2_ends.specs.EndCalls.{answer_reads, begun, end_with_more, with_octets, with_trailers}
use Rattle.h2_ends.proofs.EndOrder.{order_by_call, order_by_head, order_by_take, unsaid_unsent}
use Rattle.h2_ends.proofs.EndTokens.{SendsNoPart, call_tokens, call_adds_none}
use Rattle.h2_ends.proofs.InSteps.{handed_called}
use Rattle.h2_ends.proofs.PumpStuck.{data_none, fields_none}
use Rattle.h2_ends.proofs.PumpTokens.{begun_more, data_tokens, fields_tokens, said_is}
use Rattle.h2_ends.proofs.RequestHeads.{open_elsewhere, open_here, fields_elsewhere, fields_here}
use Rattle.h2_ends.proofs.RequestSent.{head_tokens}
use Rattle.h2_ends.proofs.PartSends.{replaced_here, replaced_elsewhere, octets_more}
use Rattle.h2_ends.proofs.PartSends.{trailers_more}
use Rattle.h2_joined.proofs.BegunOut.{SendsBegun, BeginsOut, begun_by_call, begun_by_head}
use Rattle.h2_joined.proofs.BegunOut.{begun_by_more, begun_by_take, begun_by}
use Rattle.h2_joined.proofs.JointChains.{KeptByCalls, holds_by_pump, holds_by_release}
use Rattle.h2_joined.proofs.JointChains.{KeptByTurn, holds_by_pump_some}
use Rattle.h2_joined.proofs.BegunOut.{begun_turned}
use Rattle.h2_ends.proofs.EndOrder.{order_turned}
use Rattle.h2_joined.proofs.JointChains.{holds_by_refused_ask, holds_by_refused_reply}
use Rattle.h2_joined.proofs.JointChains.{holds_by_refused_body, holds_by_refused_trailers}
use Rattle.h2_joined.proofs.JointOrder.{unused_unsent}
use Rattle.h2_spec_log.specs.Acts.{Release}
use Rattle.h2_joined.specs.Joints as joints

-- What was sent and handed out at an end keeps the order, and of what was begun all was sent.
pub record KeepsSaid (end : EndLog) : Type 0 where
  pub order : KeepsOrder end
  pub begun : SendsBegun end

-- A call that sends what waits keeps that,
said_called : KeptByCalls KeepsSaid
said_called end act answer is ordinary typed may next =
    record {
      order = order_by_call end act answer is.order may next;
      begun = begun_by_call end act answer is.begun next;
    }

-- wherever the next pass begins,
said_turned : KeptByTurn KeepsSaid
said_turned end turn is =
    record {
      order = order_turned end turn is.order;
      begun = begun_turned end turn is.begun;
    }

-- so does one that sends the head of what is given, where nothing was sent on its stream before,
said_by_head : (end : EndLog) (act : Act) (answer : Answer) (id : ℕ) (said : Said)
    → KeepsSaid end → MayAnswer end.log act answer → tokens_out end id ≡ []
    → ((i : ℕ) → i ≢ id → tokens_of_call i act answer ≡ [])
    → tokens_of_call id act answer ≡ head_tokens said → BeginsOut said
    → KeepsSaid (end_with_said end act answer id said)
said_by_head end act answer id said is may unsent others head begins =
    record {
      order = order_by_head end act answer id said is.order may unsent others head;
      begun = begun_by_head end act answer id said is.begun unsent others head begins;
    }

-- a request does, whose stream is new,
said_asked : (role : Role) (values : Values) (broken : Option Malformed) (before after : EndLog)
    (said : Said) (result : Result ℕ EndRefusal) → IsLog role values before.log
    → KeepsSaid before → BeginsOut said → MayAsk broken before said result after → KeepsSaid after
unfolding MayAsk
said_asked role values broken before after said (Ok id) log is begins
    (unbroken, fits, may, same) =
    let new = opened_is_new _ _ _ _ _ _ log may in
    subst KeepsSaid (sym same) (said_by_head _ _ _ _ said is may (unused_unsent _ _ _ _ log new.2)
    (λ i other. open_elsewhere i id said other) (open_here id said) begins)
said_asked role values broken before after said (Err refusal) log is begins may =
    holds_by_refused_ask KeepsSaid said_called broken before after said refusal may is

-- and a response, since none was accepted before.
said_replied : (broken : Option Malformed) (before after : EndLog) (id : ℕ) (said : Said)
    (result : Result (Unit {0}) EndRefusal) → KeepsSaid before → BeginsOut said
    → MayReply broken before id said result after → KeepsSaid after
unfolding MayReply
said_replied broken before after id said (Ok done) is begins
    (asked, none, unbroken, fits, may, same) =
    subst KeepsSaid (sym same) (said_by_head _ _ Done _ said is may
    (unsaid_unsent before id (is.order.sends id) none)
    (λ i other. fields_elsewhere i id said other) (fields_here id said) begins)
said_replied broken before after id said (Err refusal) is begins may =
    holds_by_refused_reply KeepsSaid said_called broken before after id said refusal may is

-- What is given whole is not begun, and what is begun is its head.
at_once_begins : (message : SentMessage) → BeginsOut (at_once message)
at_once_begins message wrong = absurd (cc)

head_begins : (reads : Reads) (head : List Field) → BeginsOut (begun reads head)
unfolding said_tokens trailers_tokens end_tokens
head_begins reads head is = (refl, refl)

-- A part more is what was given before, all of which was sent, with what the call sends: so it
-- keeps the order,
module _ (end : EndLog) (act : Act) (answer : Answer) (id : ℕ) (said more : Said)
    (was : said_for id end.accepted ≡ Some said) (goes : is_begun said.form ≡ true)
    (others : (i : ℕ) → i ≢ id → tokens_of_call i act answer ≡ [])
    (adds : said_tokens more ≡ said_tokens said ++ tokens_of_call id act answer)
    (is : KeepsSaid end) where
  abbrev end_then : EndLog
  end_then = end_with_more end act answer id more

  -- all that is given then was sent,
  out_then : said_tokens more ≡ tokens_out end_then id
  out_then = adds ∙ ap (λ (line : List Token). line ++ tokens_of_call id act answer)
      (is.begun id said was goes).out ∙ sym (call_tokens id end.log act answer)

  sends_here : SendsInOrder end_then id
  unfolding tokens_given
  sends_here = record {
    waiting = [];
    prefix = said_is end_then id more (replaced_here id more said end.accepted was) ∙ out_then
        ∙ sym (append-nil (tokens_out end_then id));
    begun = λ given none. begun_more (tokens_out end id) (tokens_of_call id act answer)
        ((is.order.sends id).begun (λ not. let wrong : Some said ≡ None = sym was ∙ not in cc))
        (sym (call_tokens id end.log act answer) ∙ none);
  }

  sends_elsewhere : (i : ℕ) → i ≢ id → SendsInOrder end_then i
  sends_elsewhere i other = record {
    waiting = (is.order.sends i).waiting;
    prefix = rw (
      replaced_elsewhere i id more end.accepted other,
      call_adds_none i end.log act answer (others i other),
    ) (is.order.sends i).prefix;
    begun = rw (
      replaced_elsewhere i id more end.accepted other,
      call_adds_none i end.log act answer (others i other),
    ) (is.order.sends i).begun;
  }

  -- and it is kept.
  said_by_more : MayAnswer end.log act answer
      → (is_begun more.form ≡ true → more.message.trailers ≡ None) → KeepsSaid end_then
  said_by_more may none = record {
    order = record {
      sends = λ i. elim (cases_eq i id) [
        | inl here ↦ rw here sends_here
        | inr other ↦ sends_elsewhere i other
      ];
      hands = λ i. handed_called end act answer end_then.accepted i may (is.order.hands i);
    };
    begun = begun_by_more end act answer id said more is.begun was others
        (λ goes_on. record { trailers = none goes_on; out = out_then });
  }

-- So do octets of a body,
said_body : (before after : EndLog) (id : ℕ) (octets : List ℕ) (ends : Bool)
    (result : Result ℕ EndRefusal) → KeepsSaid before → IsTypedAct (SendData id octets ends)
    → MaySendBody before id octets ends result after → KeepsSaid after
unfolding MaySendBody
said_body before after id octets ends (Ok count) is typed (said, number, is_open, fits, may, same) =
    let goes = begun_by said number is_open.form in
    let all = is.begun id said is_open.accepted goes in
    let more = with_octets said (take count octets) (ends && count == length octets) in
    subst KeepsSaid (sym same) (said_by_more before (SendData id octets ends) (Count count) id said
    more is_open.accepted goes
    (λ i other. data_none i id octets ends (Count count) other)
    (octets_more said number (take count octets) (ends && count == length octets) is_open.form
    all.trailers
    ∙ ap (λ (line : List Token). said_tokens said ++ line) (sym (data_tokens id octets ends count)))
    is may (λ goes_on. refl))
said_body before after id octets ends (Err refusal) is typed may =
    holds_by_refused_body KeepsSaid said_called before after id octets ends refusal typed may is

-- and trailers.
said_trailers : (before after : EndLog) (id : ℕ) (list : List Field)
    (result : Result (Unit {0}) EndRefusal) → KeepsSaid before
    → IsTypedAct (SendFields id list true) → MaySendTrailers before id list result after
    → KeepsSaid after
unfolding MaySendTrailers
said_trailers before after id list (Ok done) is typed (said, number, is_open, fits, may, same) =
    let goes = begun_by said number is_open.form in
    let all = is.begun id said is_open.accepted goes in
    subst KeepsSaid (sym same) (said_by_more before (SendFields id list true) Done id said
    (with_trailers said list) is_open.accepted goes
    (λ i other. fields_none i id list true Done other)
    (trailers_more said number list is_open.form all.trailers
    ∙ ap (λ (line : List Token). said_tokens said ++ line) (sym (fields_tokens id list)))
    is may (λ goes_on. absurd (both_ways false refl goes_on)))
said_trailers before after id list (Err refusal) is typed may =
    holds_by_refused_trailers KeepsSaid said_called before after id list refusal typed may is

-- A call of the connection that is an act sends no part of a message.
no_part_of_act : (act : Act) → IsControlCall act → SendsNoPart act
no_part_of_act (Release id count) call = tt
no_part_of_act (Widen count) call = tt
no_part_of_act (ResetStream id code) call = tt
no_part_of_act (SendPing octets) call = tt
no_part_of_act SendGoAway call = tt
no_part_of_act (Fail code) call = tt
no_part_of_act (ChangeSettings values) call = tt
no_part_of_act act call = absurd call

-- Octets that are taken do,
said_taken : (end after : EndLog) (piece : List ℕ) (answer : EndAnswer) → KeepsSaid end
    → EndMayTake end piece answer after → KeepsSaid after
said_taken end after piece answer is may =
    record {
      order = order_by_take end piece answer after is.order may;
      begun = begun_by_take end after piece answer is.begun may;
    }

-- and that are delivered, call after call of `take`.
said_delivered : (calls : ℕ) (end : EndLog) (octets : List ℕ) (delivery : Delivery)
    (after : EndLog) → KeepsSaid end → IsDelivered calls end octets delivery after
    → KeepsSaid after
said_delivered _ end _ _ after is (joints.is_whole calls octets few may) =
    said_taken end after octets _ is may
said_delivered _ end _ _ after is
    (joints.goes_on {between = between} calls octets count handed delivery few may more
    delivered) =
    said_delivered _ between _ delivery after
    (said_taken end between octets (EndTook count handed) is may) delivered
said_delivered _ end _ _ after is (joints.fails calls octets code few may) =
    said_taken end after octets (EndFailed code) is may
said_delivered _ end _ _ _ is (joints.stops calls octets) = is

-- So does a call of the connection that sends no part of a message,
said_silent : (end : EndLog) (act : Act) (answer : Answer) → KeepsSaid end → SendsNoPart act
    → MayAnswer end.log act answer → KeepsSaid (end_with_log end (with_call end.log act answer))
said_silent end act answer is none may =
    let next = no_part_next end act answer none in
    record {
      order = order_by_call end act answer is.order may next;
      begun = begun_by_call end act answer is.begun next;
    }

-- and every act at its end.
pub act_keeps_said : (role : Role) (values : Values)
    (one other new_one new_other : JointEnd) (doing : Doing) (answer : Acted)
    → IsLog role values one.happened.log → KeepsSaid one.happened
    → MayDo one other doing answer new_one new_other → KeepsSaid new_one.happened
act_keeps_said role values one other _ _ _ _ log is
    (joints.requests message result after typed may) =
    said_asked role values _ one.happened after (at_once message) result log is
    (at_once_begins message) may
act_keeps_said role values one other _ _ _ _ log is
    (joints.responds id message result after small typed may) =
    said_replied _ one.happened after id (at_once message) result is (at_once_begins message) may
act_keeps_said role values one other _ _ _ _ log is
    (joints.begins_request head result after typed may) =
    said_asked role values _ one.happened after (begun Requests head) result log is
    (head_begins Requests head) may
act_keeps_said role values one other _ _ _ _ log is
    (joints.begins_answer id head result after small typed may) =
    said_replied _ one.happened after id (begun (answer_reads one.happened id) head) result is
    (head_begins (answer_reads one.happened id) head) may
act_keeps_said role values one other _ _ _ _ log is
    (joints.sends_body id octets ends result after typed may) =
    said_body one.happened after id octets ends result is typed may
act_keeps_said role values one other _ _ _ _ log is
    (joints.sends_trailers id list result after typed may) =
    said_trailers one.happened after id list result is typed may
act_keeps_said role values one other _ _ _ _ log is (joints.pumps result after may) =
    holds_by_pump KeepsSaid said_called one.happened after result may is
act_keeps_said role values one other _ _ _ _ log is (joints.pumps_some most result after may) =
    holds_by_pump_some KeepsSaid said_called said_turned most one.happened after result may is
act_keeps_said role values one other _ _ _ _ log is (joints.releases_all result after may) =
    holds_by_release KeepsSaid said_called one.happened after result may is
act_keeps_said role values one other _ _ _ _ log is (joints.calls act answer call typed may) =
    said_silent one.happened act answer is (no_part_of_act act call) may
act_keeps_said role values one other _ _ _ _ log is (joints.moves count answer typed may) =
    said_silent one.happened (PutOut count) answer is tt may
act_keeps_said role values one other _ _ _ _ log is (joints.delivers count after up delivered) =
    said_delivered 0 one.happened _ _ after is delivered
act_keeps_said role values one other _ _ _ _ log is
    (joints.delivery_fails count code after up delivered) =
    said_delivered 0 one.happened _ _ after is delivered
act_keeps_said role values one other _ _ _ _ log is (joints.has_failed count code failed) = is
act_keeps_said role values one other _ _ _ _ log is
    (joints.delivery_stops count unused after up delivered) =
    said_delivered 0 one.happened _ _ after is delivered
act_keeps_said role values one other _ _ _ _ log is (joints.no_copy_of_a_request message) = is
act_keeps_said role values one other _ _ _ _ log is (joints.no_copy_of_a_response id message) = is
act_keeps_said role values one other _ _ _ _ log is (joints.no_copy_of_a_head head) = is
act_keeps_said role values one other _ _ _ _ log is (joints.no_copy_of_an_answer id head) = is
act_keeps_said role values one other _ _ _ _ log is
    (joints.no_copy_of_octets id octets ends) = is
act_keeps_said role values one other _ _ _ _ log is (joints.no_copy_of_trailers id list) = is
