-- Calls that give an end something to say, a message or a part of one, are acts of two joined ends.
use Rattle.h2_joined.proofs.Names
use Names.{◌<◌, ◌^◌, ◌==◌, ◌++◌, ◌∷◌, [], ◌≡◌, ℕ, Bool, true, false, List, length, take, Err}
use Names.{Ok, Joined, made, Client, Server, Side, EndRefusal, Accepted, Acted, Doing, MakesAct}
use Names.{AreOctets, Said, Values, accepted_shown, said_shown, EndLog, EndRepresents, JointEnd}
use Names.{MayDo, with_happened, end_at, kept_of, SentMessage, Field, EndRequests, EndResponds}
use Names.{Requests, Responds, requests, responds, IsTypedAct, SendFields, is_begun, None}
use Names.{refl, sym}
use Rattle.std.specs.Prelude.{◌&&◌}
use Rattle.h2_spec_log.specs.Acts.{SendData}
use Rattle.h2_message.specs.declared.message.Message.{Message}
use Rattle.h2_laws_pair.specs.Tokens.{at_once}
use Rattle.h2_ends.specs.EndCalls.{MayRequest, MayRespond, MayBegin, MayBeginAnswer, MaySendBody}
use Rattle.h2_ends.specs.EndCalls.{MaySendTrailers, with_octets, with_trailers, answer_reads, begun}
use Rattle.h2_ends.specs.Represents.{EndBegins, EndBeginsAnswer, EndSendsBody, EndSendsTrailers}
use Rattle.h2_joined.specs.Joints.{Begins, BeginsAnswer, SendsBody, SendsTrailers, begins_request}
use Rattle.h2_joined.specs.Joints.{begins_answer, sends_body, sends_trailers}
use Rattle.h2_joined.specs.Parts.{shown_of, grown, shown_with_octets, shown_with_trailers}
use Rattle.h2_joined.proofs.KeptActs.{ChangesEnd, acts_on_end, ChangesAccepted, acts_accepting}
use Rattle.h2_joined.proofs.KeptActs.{shows_newest, shows_grown}
use Rattle.h2_joined.proofs.KeptEnds.{SaysNothing, Says, SaysMore, ask_refused, reply_refused}
use Rattle.h2_joined.proofs.KeptEnds.{ask_accepted, reply_accepted, body_refused, list_refused}
use Rattle.h2_joined.proofs.KeptEnds.{body_accepted, trailers_accepted}
use Rattle.h2_message.specs.declared.reading.Reads.TheVariants as reading
use Rattle.h2_joined.specs.declared.act.Acted.TheVariants as acted

-- A call of an end of which `May` says what may have happened after it, and which this act makes.
module _ (side : Side) (old new : Joined) (doing : Doing) (answer : Acted)
    (May : EndLog → EndLog → Type 0)
    (acts : (one other : JointEnd) (after : EndLog) → May one.happened after
    → MayDo one other doing answer (with_happened one after) other)
    (does : (values : Values) (end : EndLog) → EndRepresents values (end_at side old) end
    → (after : EndLog) × May end after × EndRepresents values (end_at side new) after) where
  -- It has accepted nothing.
  says_none : ((before after : EndLog) → May before after → SaysNothing before after)
      → ChangesEnd side old new → MakesAct old (made side doing answer) new
  says_none says changes = acts_on_end side old new doing answer changes
      (λ values one other represents.
      let (after, may, now) = does values one.happened represents in
      let nothing = says one.happened after may in
      record {
        after = after;
        may = acts one other after may;
        represents = now;
        accepted = nothing.accepted;
        handed = nothing.handed;
      })

  -- It has accepted this, which is kept.
  says_first : (id : ℕ) (said : EndLog → Said) (kept : Accepted)
      → ((before after : EndLog) → May before after → Says before id (said before) after)
      → ((before : EndLog) → said_shown (id, said before) ≡ accepted_shown kept)
      → (kept_of side new).accepted.items ≡ (kept_of side old).accepted.items ++ kept ∷ []
      → ChangesAccepted side old new → MakesAct old (made side doing answer) new
  says_first id said kept says shown more changes = acts_accepting side old new doing answer changes
      (λ values one other represents begun.
      let (after, may, now) = does values one.happened represents in
      let first = says one.happened after may in
      record {
        after = after;
        may = acts one other after may;
        represents = now;
        says = shows_newest one.happened.accepted after.accepted (id, said one.happened)
            (kept_of side old).accepted.items (kept_of side new).accepted.items kept first.accepted
            (shown one.happened) more;
        handed = first.handed;
      })

  -- It has accepted more of a message that was begun, and so is kept.
  says_more : (id : ℕ) (more : Said → Said) (grow : SentMessage × Bool → SentMessage × Bool)
      → ((before after : EndLog) → May before after → SaysMore before id more after)
      → ((said : Said) → said.message.trailers ≡ None → is_begun said.form ≡ true
      → grow (said.message, is_begun said.form)
      ≡ ((more said).message, is_begun (more said).form))
      → shown_of (kept_of side new).accepted.items
      ≡ grown id grow (shown_of (kept_of side old).accepted.items)
      → ChangesAccepted side old new → MakesAct old (made side doing answer) new
  says_more id more grow says grows kept changes = acts_accepting side old new doing answer changes
      (λ values one other represents begun.
      let (after, may, now) = does values one.happened represents in
      let next = says one.happened after may in
      let out = begun id next.said next.was next.goes in
      record {
        after = after;
        may = acts one other after may;
        represents = now;
        says = shows_grown one.happened.accepted after.accepted id next.said (more next.said) grow
            (kept_of side old).accepted.items (kept_of side new).accepted.items next.was
            next.accepted (grows next.said out.trailers next.goes) kept;
        handed = next.handed;
      })

module _ (old new : Joined) where
  pub request_is_refused : (message : SentMessage) (back : Message) (refusal : EndRefusal)
      → ChangesEnd Client old new → AreOctets message.head
      → EndRequests old.client.end message (Err (back, refusal)) new.client.end
      → MakesAct old (made Client (Requests message) (acted.Refused refusal)) new
  request_is_refused message back refusal changes typed does =
      says_none Client old new (Requests message) (acted.Refused refusal)
      (λ before after. MayRequest before message (Err refusal) after)
      (λ one other after may. requests message (Err refusal) after typed may) does.1
      (λ before after may. ask_refused before _ (at_once message) refusal after may) changes

  pub request_is_accepted : (message : SentMessage) (id : ℕ) (kept : Accepted)
      → (kept_of Client new).accepted.items ≡ (kept_of Client old).accepted.items ++ kept ∷ []
      → ChangesAccepted Client old new → accepted_shown kept ≡ (id, (message, false))
      → AreOctets message.head → EndRequests old.client.end message (Ok id) new.client.end
      → MakesAct old (made Client (Requests message) (acted.Id id)) new
  request_is_accepted message id kept more changes shown typed does =
      says_first Client old new (Requests message) (acted.Id id)
      (λ before after. MayRequest before message (Ok id) after)
      (λ one other after may. requests message (Ok id) after typed may) does.1 id
      (λ before. at_once message) kept
      (λ before after may. ask_accepted _ before (at_once message) id after may)
      (λ before. sym shown) more changes

  pub respond_is_refused : (id : ℕ) (message : SentMessage) (back : Message) (refusal : EndRefusal)
      → ChangesEnd Server old new → id < 2 ^ 32 → AreOctets message.head
      → EndResponds old.server.end id message (Err (back, refusal)) new.server.end
      → MakesAct old (made Server (Responds id message) (acted.Refused refusal)) new
  respond_is_refused id message back refusal changes fits typed does =
      says_none Server old new (Responds id message) (acted.Refused refusal)
      (λ before after. MayRespond before id message (Err refusal) after)
      (λ one other after may. responds id message (Err refusal) after fits typed may) does.1
      (λ before after may. reply_refused before _ id (at_once message) refusal after may) changes

  pub respond_is_accepted : (id : ℕ) (message : SentMessage) (done : Unit {0}) (kept : Accepted)
      → (kept_of Server new).accepted.items ≡ (kept_of Server old).accepted.items ++ kept ∷ []
      → ChangesAccepted Server old new → accepted_shown kept ≡ (id, (message, false))
      → id < 2 ^ 32 → AreOctets message.head
      → EndResponds old.server.end id message (Ok done) new.server.end
      → MakesAct old (made Server (Responds id message) acted.Done) new
  respond_is_accepted id message done kept more changes shown fits typed does =
      says_first Server old new (Responds id message) acted.Done
      (λ before after. MayRespond before id message (Ok done) after)
      (λ one other after may. responds id message (Ok done) after fits typed may) does.1 id
      (λ before. at_once message) kept
      (λ before after may. reply_accepted _ before id (at_once message) done after may)
      (λ before. sym shown) more changes

  -- So are those that give a message in parts: a request that is begun,
  pub begin_is_refused : (head : List Field) (refusal : EndRefusal) → ChangesEnd Client old new
      → AreOctets head → EndBegins old.client.end head (Err refusal) new.client.end
      → MakesAct old (made Client (Begins head) (acted.Refused refusal)) new
  begin_is_refused head refusal changes typed does =
      says_none Client old new (Begins head) (acted.Refused refusal)
      (λ before after. MayBegin before head (Err refusal) after)
      (λ one other after may. begins_request head (Err refusal) after typed may) does
      (λ before after may. ask_refused before _ (begun reading.Requests head) refusal after may)
      changes

  pub begin_is_accepted : (head : List Field) (id : ℕ) (kept : Accepted)
      → (kept_of Client new).accepted.items ≡ (kept_of Client old).accepted.items ++ kept ∷ []
      → ChangesAccepted Client old new
      → accepted_shown kept ≡ (id, (record { head = head; body = []; trailers = None }, true))
      → AreOctets head → EndBegins old.client.end head (Ok id) new.client.end
      → MakesAct old (made Client (Begins head) (acted.Id id)) new
  begin_is_accepted head id kept more changes shown typed does =
      says_first Client old new (Begins head) (acted.Id id)
      (λ before after. MayBegin before head (Ok id) after)
      (λ one other after may. begins_request head (Ok id) after typed may) does id
      (λ before. begun reading.Requests head) kept
      (λ before after may. ask_accepted _ before (begun reading.Requests head) id after may)
      (λ before. sym shown) more changes

  -- a response that is,
  pub begin_response_is_refused : (id : ℕ) (head : List Field) (refusal : EndRefusal)
      → ChangesEnd Server old new → id < 2 ^ 32 → AreOctets head
      → EndBeginsAnswer old.server.end id head (Err refusal) new.server.end
      → MakesAct old (made Server (BeginsAnswer id head) (acted.Refused refusal)) new
  begin_response_is_refused id head refusal changes fits typed does =
      says_none Server old new (BeginsAnswer id head) (acted.Refused refusal)
      (λ before after. MayBeginAnswer before id head (Err refusal) after)
      (λ one other after may. begins_answer id head (Err refusal) after fits typed may) does
      (λ before after may. reply_refused before _ id (begun (answer_reads before id) head) refusal
      after may) changes

  pub begin_response_is_accepted : (id : ℕ) (head : List Field) (done : Unit {0}) (kept : Accepted)
      → (kept_of Server new).accepted.items ≡ (kept_of Server old).accepted.items ++ kept ∷ []
      → ChangesAccepted Server old new
      → accepted_shown kept ≡ (id, (record { head = head; body = []; trailers = None }, true))
      → id < 2 ^ 32 → AreOctets head
      → EndBeginsAnswer old.server.end id head (Ok done) new.server.end
      → MakesAct old (made Server (BeginsAnswer id head) acted.Done) new
  begin_response_is_accepted id head done kept more changes shown fits typed does =
      says_first Server old new (BeginsAnswer id head) acted.Done
      (λ before after. MayBeginAnswer before id head (Ok done) after)
      (λ one other after may. begins_answer id head (Ok done) after fits typed may) does id
      (λ before. begun (answer_reads before id) head) kept
      (λ before after may. reply_accepted _ before id (begun (answer_reads before id) head) done
      after may) (λ before. sym shown) more changes

-- What is kept of more octets is what was accepted,
octets_grow : (said : Said) (octets : List ℕ) (ended : Bool) → said.message.trailers ≡ None
    → shown_with_octets octets ended (said.message, is_begun said.form)
    ≡ ((with_octets said octets ended).message, is_begun (with_octets said octets ended).form)
octets_grow said octets true none = rw none refl
octets_grow said octets false none = rw none refl

module _ (side : Side) (old new : Joined) (id : ℕ) where
  pub body_is_refused : (octets : List ℕ) (ends : Bool) (refusal : EndRefusal)
      → ChangesEnd side old new → IsTypedAct (SendData id octets ends)
      → EndSendsBody (end_at side old) id octets ends (Err refusal) (end_at side new)
      → MakesAct old (made side (SendsBody id octets ends) (acted.Refused refusal)) new
  body_is_refused octets ends refusal changes typed does =
      says_none side old new (SendsBody id octets ends) (acted.Refused refusal)
      (λ before after. MaySendBody before id octets ends (Err refusal) after)
      (λ one other after may. sends_body id octets ends (Err refusal) after typed may) does
      (λ before after may. body_refused before id octets ends refusal after may) changes

  -- octets of a body,
  pub body_is_accepted : (octets : List ℕ) (ends : Bool) (count : ℕ)
      → shown_of (kept_of side new).accepted.items ≡ grown id
      (shown_with_octets (take count octets) (ends && count == length octets))
      (shown_of (kept_of side old).accepted.items)
      → ChangesAccepted side old new → IsTypedAct (SendData id octets ends)
      → EndSendsBody (end_at side old) id octets ends (Ok count) (end_at side new)
      → MakesAct old (made side (SendsBody id octets ends) (acted.Count count)) new
  body_is_accepted octets ends count kept changes typed does =
      let first = take count octets in
      let ended = ends && count == length octets in
      says_more side old new (SendsBody id octets ends) (acted.Count count)
      (λ before after. MaySendBody before id octets ends (Ok count) after)
      (λ one other after may. sends_body id octets ends (Ok count) after typed may) does id
      (λ said. with_octets said first ended) (shown_with_octets first ended)
      (λ before after may. body_accepted before id octets ends count after may)
      (λ said none goes. octets_grow said first ended none) kept changes

  -- and trailers.
  pub trailers_are_refused : (list : List Field) (refusal : EndRefusal) → ChangesEnd side old new
      → IsTypedAct (SendFields id list true)
      → EndSendsTrailers (end_at side old) id list (Err refusal) (end_at side new)
      → MakesAct old (made side (SendsTrailers id list) (acted.Refused refusal)) new
  trailers_are_refused list refusal changes typed does =
      says_none side old new (SendsTrailers id list) (acted.Refused refusal)
      (λ before after. MaySendTrailers before id list (Err refusal) after)
      (λ one other after may. sends_trailers id list (Err refusal) after typed may) does
      (λ before after may. list_refused before id list refusal after may) changes

  pub trailers_are_accepted : (list : List Field) (done : Unit {0})
      → shown_of (kept_of side new).accepted.items ≡ grown id (shown_with_trailers list)
      (shown_of (kept_of side old).accepted.items)
      → ChangesAccepted side old new → IsTypedAct (SendFields id list true)
      → EndSendsTrailers (end_at side old) id list (Ok done) (end_at side new)
      → MakesAct old (made side (SendsTrailers id list) acted.Done) new
  trailers_are_accepted list done kept changes typed does =
      says_more side old new (SendsTrailers id list) acted.Done
      (λ before after. MaySendTrailers before id list (Ok done) after)
      (λ one other after may. sends_trailers id list (Ok done) after typed may) does id
      (λ said. with_trailers said list) (shown_with_trailers list)
      (λ before after may. trailers_accepted before id list done after may)
      (λ said none goes. refl) kept changes
