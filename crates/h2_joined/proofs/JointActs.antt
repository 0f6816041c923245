-- Every act keeps what holds of two joined ends.
use Rattle.h2_joined.proofs.Names
use Names.{◌<◌, ◌^◌, ◌∷◌, Err, sym, ◌∙◌, ◌≡◌, Act, Made, ◌≢◌, List, Result, ap, subst, Values}
use Names.{Answer, PutOut, Number, EndLog, Acted, Client, Server, begins, Ok, SendFields, Said}
use Names.{EndRefusal, KeepsOrder, IsTypedAct, refl, Done, Side, Doing, Calls, Whole, Fails}
use Names.{Stops, MayDo, pumps, moves, ℕ, Contains, AreOctets, IsNextAct, at_client, MayAsk}
use Names.{MayReply, has_failed, ResetStream, delivery_fails, delivery_stops, MayAnswer, Count}
use Names.{no_copy_of_a_request, no_copy_of_a_response, stream_of_log, with_happened, Option}
use Names.{IsControlCall, releases_all, JointEnd, acted_as, requests, responds, delivers, at_server}
use Names.{continues, IsJoint, Malformed, IsSoundSaid, MaySendBody, MaySendTrailers, Bool, Field}
use Names.{said_for, Some, None, true}
use Rattle.h2_spec_log.specs.Acts.{SendData}
use Rattle.h2_message.specs.declared.reading.Reads.TheVariants as reading
use Rattle.h2_laws_pair.specs.Tokens.{at_once}
use Rattle.h2_ends.specs.Ends.{replaced}
use Rattle.h2_ends.specs.EndCalls.{opened_with, answered_with, answer_reads, begun, end_with_more}
use Rattle.h2_laws_pair.proofs.FaultsInvariant.{first_in}
use Rattle.h2_joined.specs.Joints.{calls, begins_request, begins_answer, sends_body, sends_trailers}
use Rattle.h2_joined.specs.Joints.{no_copy_of_a_head, no_copy_of_an_answer, no_copy_of_octets}
use Rattle.h2_joined.specs.Joints.{no_copy_of_trailers}
use Rattle.h2_joined.proofs.BegunOut.{SendsBegun}
use Rattle.h2_joined.proofs.JointSound.{StaysSound, sound_request, sound_response, sound_begun}
use Rattle.h2_joined.proofs.JointSound.{sound_with_octets, sound_with_trailers}
use Rattle.h2_joined.specs.Joints.{pumps_some}
use Rattle.h2_joined.proofs.JointHolds.{JointHolds, accept_same, turned, HoldsAt, StaysAt, log_of}
use Rattle.h2_joined.proofs.JointHolds.{stays_more, holds_turned, reported_by}
use Rattle.h2_joined.proofs.JointCalls.{IsOfAct, IsOrdinary, ordinary_of_act, ordinary_stays_in}
use Rattle.h2_joined.proofs.JointCalls.{called_at, called_within}
use Rattle.h2_joined.proofs.JointChains.{KeptByCalls, KeptByTurn, holds_by_pump}
use Rattle.h2_joined.proofs.JointChains.{holds_by_pump_some, holds_by_release}
use Rattle.h2_joined.proofs.JointChains.{holds_by_refused_ask, holds_by_refused_reply}
use Rattle.h2_joined.proofs.JointChains.{holds_by_refused_body, holds_by_refused_trailers}
use Rattle.h2_joined.proofs.JointAnswers.{request_accepted, response_accepted, part_accepted}
use Rattle.h2_joined.proofs.JointStart.{new_ends_hold}
use Rattle.h2_joined.proofs.OrderKept.{act_keeps_said}
use Rattle.h2_joined.proofs.HoldsLater.{delivery_stays}
use Rattle.h2_joined.proofs.JointMemory.{other_stays}
use Rattle.h2_joined.proofs.HoldsSides.{one_role}
use Rattle.h2_laws_end.proofs.OverNumbers.{open_answer}

module _ (side : Side) (client_values server_values : Values) (made : List Made)
    (one other : JointEnd) where
  -- An ordinary call at this end keeps what holds between two calls.
  abbrev StaysWith : EndLog → Type 0
  StaysWith end = StaysAt side client_values server_values made (with_happened one end) other

  call_kept : KeptByCalls (StaysWith)
  call_kept end act answer stays ordinary typed may next =
      called_within side client_values server_values made (with_happened one end) other act
      answer end.accepted stays typed may (ordinary_of_act made side act answer ordinary)
      (ordinary_stays_in act ordinary)
      (λ had. accept_same side end _ other.happened refl (stays.calm had).accepted)

  -- It doesn't matter with which stream the next pass begins.
  turn_kept : KeptByTurn StaysWith
  turn_kept end turn stays =
      record {
        lost = stays.lost;
        other_lost = stays.other_lost;
        pair = stays.pair;
        calm = λ had. let calm = stays.calm had in record {
          holds = holds_turned made side end turn calm.holds;
          other_holds = calm.other_holds;
          accepted = accept_same side end (record end { turn = turn }) other.happened refl
              calm.accepted;
          reported = reported_by side (with_happened one end) other
              (with_happened one (record end { turn = turn })) other (λ is. is) (λ is. is)
              calm.reported;
        };
      }

-- A request at the client, whole or begun. A server makes none.
requested : (side : Side) (client_values server_values : Values) (made : List Made) (did : Made)
    (one other : JointEnd) (broken : Option Malformed) (said : Said) (result : Result ℕ EndRefusal)
    (after : EndLog) → HoldsAt side client_values server_values made one other
    → AreOctets said.message.head → (broken ≡ None → IsSoundSaid reading.Requests said)
    → MayAsk broken one.happened said result after
    → StaysAt side client_values server_values (did ∷ made) (with_happened one after) other
unfolding MayAsk IsTypedAct
requested Client client_values server_values made did client server broken said (Ok id) after holds
    typed sound (unbroken, fits, may, same) =
    let act = opened_with said in
    subst (StaysWith Client client_values server_values (did ∷ made) client server) (sym same)
    (called_within Client client_values server_values (did ∷ made) client server act (Number id)
    ((id, said) ∷ client.happened.accepted)
    (stays_more Client client_values server_values made client server did holds.stays) typed may
    (ordinary_of_act (did ∷ made) Client act (Number id) tt) (ordinary_stays_in act tt)
    (λ had. request_accepted client_values server_values made client server said id
    holds (sound unbroken) may (holds.stays.calm had.1).accepted))
requested Server client_values server_values made did server client broken said (Ok id) after holds
    typed sound (unbroken, fits, may, same) =
    absurd (one_role server.happened.log.role (open_answer _ _ _ id may).0
    (stream_of_log _ _ _ (log_of Server client_values server_values made server client
    holds.stays)).role)
requested side client_values server_values made did one other broken said (Err refusal) after holds
    typed sound may =
    holds_by_refused_ask (StaysWith side client_values server_values (did ∷ made) one other)
    (call_kept side client_values server_values (did ∷ made) one other) broken one.happened after
    said refusal may (stays_more side client_values server_values made one other did holds.stays)

-- A response at the server, whole or begun. No client responds.
responded : (side : Side) (client_values server_values : Values) (made : List Made) (did : Made)
    (one other : JointEnd) (broken : Option Malformed) (id : ℕ) (said : Said)
    (result : Result (Unit {0}) EndRefusal) (after : EndLog)
    → HoldsAt side client_values server_values made one other → id < 2 ^ 32
    → AreOctets said.message.head
    → (broken ≡ None → IsSoundSaid (answer_reads one.happened id) said)
    → MayReply broken one.happened id said result after
    → StaysAt side client_values server_values (did ∷ made) (with_happened one after) other
unfolding MayReply IsTypedAct
responded Client client_values server_values made did client server broken id said (Ok done) after
    holds small typed sound (asked, none, unbroken, fits, may, same) =
    absurd (one_role client.happened.log.role
    (stream_of_log _ _ _ (log_of Client client_values server_values made client server
    holds.stays)).role asked.server)
responded Server client_values server_values made did server client broken id said (Ok done) after
    holds small typed sound (asked, none, unbroken, fits, may, same) =
    let act = answered_with id said in
    subst (StaysWith Server client_values server_values (did ∷ made) server client) (sym same)
    (called_within Server client_values server_values (did ∷ made) server client act Done
    ((id, said) ∷ server.happened.accepted)
    (stays_more Server client_values server_values made server client did holds.stays)
    (small, typed) may (ordinary_of_act (did ∷ made) Server act Done tt) (ordinary_stays_in act tt)
    (λ had. let calm = holds.stays.calm had.1 in
    response_accepted client_values server_values made client server id said
    holds calm.holds asked (sound unbroken) calm.accepted))
responded side client_values server_values made did one other broken id said (Err refusal) after
    holds small typed sound may =
    holds_by_refused_reply (StaysWith side client_values server_values (did ∷ made) one other)
    (call_kept side client_values server_values (did ∷ made) one other) broken one.happened after id
    said refusal may
    (stays_more side client_values server_values made one other did holds.stays)

module _ (side : Side) (client_values server_values : Values) (made : List Made) (did : Made)
    (one other : JointEnd) (after : EndLog) (id : ℕ) where
  -- A part more of a message that was begun, at either end: of its head nothing changes.
  parted : (act : Act) (answer : Answer) (said more : Said)
      → HoldsAt side client_values server_values made one other → IsTypedAct act → IsOrdinary act
      → MayAnswer one.happened.log act answer → said_for id one.happened.accepted ≡ Some said
      → more.message.head ≡ said.message.head → StaysSound said more
      → StaysAt side client_values server_values (did ∷ made)
      (with_happened one (end_with_more one.happened act answer id more)) other
  parted act answer said more holds typed ordinary may was head sound =
      called_within side client_values server_values (did ∷ made) one other act answer
      (replaced id more one.happened.accepted)
      (stays_more side client_values server_values made one other did holds.stays) typed may
      (ordinary_of_act (did ∷ made) side act answer ordinary) (ordinary_stays_in act ordinary)
      (λ had. part_accepted side one.happened other.happened act answer id said more was head sound
      (holds.stays.calm had.1).accepted)

  -- So octets of its body keep what holds,
  body_sent : (octets : List ℕ) (ends : Bool) (result : Result ℕ EndRefusal)
      → HoldsAt side client_values server_values made one other
      → IsTypedAct (SendData id octets ends)
      → MaySendBody one.happened id octets ends result after
      → StaysAt side client_values server_values (did ∷ made) (with_happened one after) other
  unfolding MaySendBody
  body_sent octets ends (Ok count) holds typed (said, number, is_open, fits, may, same) =
      subst (StaysWith side client_values server_values (did ∷ made) one other) (sym same)
      (parted (SendData id octets ends) (Count count) said _ holds typed tt may is_open.accepted
      refl (sound_with_octets said number octets count ends is_open.form fits))
  body_sent octets ends (Err refusal) holds typed may =
      holds_by_refused_body (StaysWith side client_values server_values (did ∷ made) one other)
      (call_kept side client_values server_values (did ∷ made) one other) one.happened after id
      octets ends refusal typed may
      (stays_more side client_values server_values made one other did holds.stays)

  -- and trailers do.
  trailers_sent : (list : List Field) (result : Result (Unit {0}) EndRefusal)
      → HoldsAt side client_values server_values made one other
      → IsTypedAct (SendFields id list true)
      → MaySendTrailers one.happened id list result after
      → StaysAt side client_values server_values (did ∷ made) (with_happened one after) other
  unfolding MaySendTrailers
  trailers_sent list (Ok done) holds typed (said, number, is_open, well, may, same) =
      subst (StaysWith side client_values server_values (did ∷ made) one other) (sym same)
      (parted (SendFields id list true) Done said _ holds typed tt may is_open.accepted refl
      (sound_with_trailers said number list is_open.form well))
  trailers_sent list (Err refusal) holds typed may =
      holds_by_refused_trailers (StaysWith side client_values server_values (did ∷ made) one other)
      (call_kept side client_values server_values (did ∷ made) one other) one.happened after id
      list refusal typed may
      (stays_more side client_values server_values made one other did holds.stays)

-- the act that makes a call
abbrev call_made : Side → Act → Answer → Made
call_made side act answer = record { side = side; doing = Calls act; acted = acted_as answer }

-- A call that is an act refuses no stream, and where it resets one, that is the act.
call_of_act : (made : List Made) (side : Side) (act : Act) (answer : Answer) → IsControlCall act
    → IsOfAct (call_made side act answer ∷ made) side act answer
call_of_act made side act answer call =
    record {
      no_refusal = λ id code is. absurd (subst IsControlCall is call);
      no_end = λ code is had. had.0.not_ended code (ap Calls is);
      reset = λ id code is done. subst (λ (one : Made). Contains
          (call_made side act answer ∷ made) one) (ap (λ (a : Act). call_made side a answer) is
          ∙ ap (λ (said : Answer). call_made side (ResetStream id code) said) done) (first_in _ _);
    }

call_stays_in : (act : Act) → IsControlCall act → (count : ℕ) → act ≢ PutOut count
call_stays_in act call count is = absurd (subst IsControlCall is call)

-- What puts output out refuses and resets none.
move_of_act : (made : List Made) (side : Side) (count : ℕ) (answer : Answer)
    → IsOfAct made side (PutOut count) answer
move_of_act made side count answer =
    record {
      no_refusal = λ id code is. cc;
      no_end = λ code is had. cc;
      reset = λ id code is done. absurd (cc);
    }

module _ (side : Side) (client_values server_values : Values) (made : List Made)
    (one other : JointEnd) where
  -- An act at either end keeps what holds between two calls,
  act_stays : (new_one new_other : JointEnd) (doing : Doing) (answer : Acted)
      → HoldsAt side client_values server_values made one other
      → MayDo one other doing answer new_one new_other
      → StaysAt side client_values server_values
      (record { side = side; doing = doing; acted = answer } ∷ made) new_one new_other
  act_stays _ _ _ _ holds (requests message result after typed may) =
      requested side client_values server_values made _ one other _ (at_once message) result after
      holds typed (sound_request message) may
  act_stays _ _ _ _ holds (responds id message result after small typed may) =
      responded side client_values server_values made _ one other _ id (at_once message) result
      after holds small typed (sound_response _ message) may
  act_stays _ _ _ _ holds (begins_request head result after typed may) =
      requested side client_values server_values made _ one other _ (begun reading.Requests head)
      result after holds typed (sound_begun reading.Requests head) may
  act_stays _ _ _ _ holds (begins_answer id head result after small typed may) =
      let reads = answer_reads one.happened id in
      responded side client_values server_values made _ one other _ id (begun reads head) result
      after holds small typed (sound_begun reads head) may
  act_stays _ _ _ _ holds (sends_body id octets ends result after typed may) =
      body_sent side client_values server_values made _ one other after id octets ends result holds
      typed may
  act_stays _ _ _ _ holds (sends_trailers id list result after typed may) =
      trailers_sent side client_values server_values made _ one other after id list result holds
      typed may
  act_stays _ _ _ _ holds (pumps result after may) =
      holds_by_pump (StaysWith side client_values server_values _ one other)
      (call_kept side client_values server_values _ one other) one.happened after result may
      (stays_more side client_values server_values made one other _ holds.stays)
  act_stays _ _ _ _ holds (pumps_some most result after may) =
      holds_by_pump_some (StaysWith side client_values server_values _ one other)
      (call_kept side client_values server_values _ one other)
      (turn_kept side client_values server_values _ one other) most one.happened after result may
      (stays_more side client_values server_values made one other _ holds.stays)
  act_stays _ _ _ _ holds (releases_all result after may) =
      holds_by_release (StaysWith side client_values server_values _ one other)
      (call_kept side client_values server_values _ one other) one.happened after result may
      (stays_more side client_values server_values made one other _ holds.stays)
  act_stays _ _ _ _ holds (calls act answer call typed may) =
      called_within side client_values server_values _ one other act answer one.happened.accepted
      (stays_more side client_values server_values made one other _ holds.stays) typed may
      (call_of_act made side act answer call) (call_stays_in act call)
      (λ had. accept_same side one.happened _ other.happened refl
      (holds.stays.calm had.1).accepted)
  act_stays _ _ _ _ holds (moves count answer typed may) =
      called_at side client_values server_values _ one other (PutOut count) answer
      one.happened.accepted
      (stays_more side client_values server_values made one other _ holds.stays) typed may
      (move_of_act _ side count answer) (λ had. accept_same side one.happened _ other.happened refl
      (holds.stays.calm had.1).accepted)
  act_stays _ _ _ _ holds (delivers count after up delivered) =
      delivery_stays side client_values server_values made one other holds count Whole after
      delivered
  act_stays _ _ _ _ holds (delivery_fails count code after up delivered) =
      delivery_stays side client_values server_values made one other holds count (Fails code) after
      delivered
  act_stays _ _ _ _ holds (has_failed count code failed) =
      stays_more side client_values server_values made one other _ holds.stays
  act_stays _ _ _ _ holds (delivery_stops count unused after up delivered) =
      delivery_stays side client_values server_values made one other holds count (Stops unused)
      after delivered
  act_stays _ _ _ _ holds (no_copy_of_a_request message) =
      stays_more side client_values server_values made one other _ holds.stays
  act_stays _ _ _ _ holds (no_copy_of_a_response id message) =
      stays_more side client_values server_values made one other _ holds.stays
  act_stays _ _ _ _ holds (no_copy_of_a_head head) =
      stays_more side client_values server_values made one other _ holds.stays
  act_stays _ _ _ _ holds (no_copy_of_an_answer id head) =
      stays_more side client_values server_values made one other _ holds.stays
  act_stays _ _ _ _ holds (no_copy_of_octets id octets ends) =
      stays_more side client_values server_values made one other _ holds.stays
  act_stays _ _ _ _ holds (no_copy_of_trailers id list) =
      stays_more side client_values server_values made one other _ holds.stays

  -- and all that holds.
  act_holds : (new_one new_other : JointEnd) (doing : Doing) (answer : Acted)
      → HoldsAt side client_values server_values made one other
      → MayDo one other doing answer new_one new_other
      → HoldsAt side client_values server_values
      (record { side = side; doing = doing; acted = answer } ∷ made) new_one new_other
  act_holds new_one new_other doing answer holds may =
      let keeps = act_keeps_said _ _ one other new_one new_other doing answer
      (log_of side client_values server_values made one other holds.stays)
      (record { order = holds.order; begun = holds.begun }) may in
      let stays = sym (other_stays one other new_one new_other doing answer may) in
      record {
        stays = act_stays new_one new_other doing answer holds may;
        order = keeps.order;
        other_order = subst KeepsOrder stays holds.other_order;
        begun = keeps.begun;
        other_begun = subst SendsBegun stays holds.other_begun;
      }

-- So does one act more,
next_holds : (client_values server_values : Values) (made : List Made)
    (client server new_client new_server : JointEnd) (act : Made)
    → JointHolds client_values server_values made client server
    → IsNextAct client server act new_client new_server
    → JointHolds client_values server_values (act ∷ made) new_client new_server
next_holds client_values server_values made client server new_client new_server _ holds
    (at_client doing answer may) =
    act_holds Client client_values server_values made client server new_client new_server doing
    answer holds may
next_holds client_values server_values made client server new_client new_server _ holds
    (at_server doing answer may) =
    turned Server _ _ _ _ _ (act_holds Server client_values server_values made server client
    new_server new_client doing answer (turned Client _ _ _ _ _ holds) may)

-- and whatever acts were made it holds.
pub joint_holds : (client_values server_values : Values) (made : List Made)
    (client server : JointEnd) → IsJoint client_values server_values made client server
    → JointHolds client_values server_values made client server
joint_holds client_values server_values _ _ _ (begins client_range server_range) =
    new_ends_hold client_values server_values client_range server_range
joint_holds client_values server_values _ new_client new_server
    (continues {history = made} {client = client} {server = server} is act next) =
    next_holds client_values server_values made client server new_client new_server act
    (joint_holds client_values server_values made client server is) next
