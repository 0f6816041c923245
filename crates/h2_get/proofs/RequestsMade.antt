-- A new client has made requests, one after another, and nothing has come.
use Rattle.std.proofs.Common.{◌≡◌, ℕ, List, [], ◌∷◌, ◌++◌, map, None, Ok, Err, refl, sym}
use Rattle.std.proofs.Common.{ap}
use Rattle.std.proofs.Common.{◌∙◌, false}
use Rattle.std.proofs.lemmas.List.{map-append, map_push}
use Rattle.std.specs.Iterator.{Yields}
use Rattle.std.specs.Vec.Iter.{into_iter_items, into_iter_steps}
use Rattle.std.specs.declared.vec.IntoIter.{IntoIter}
use Rattle.h2_spec_log.specs.Acts.{Values}
use Rattle.h2_message.specs.Messages.{SentMessage}
use Rattle.h2_message.specs.Values.{message_value}
use Rattle.h2_message.specs.declared.message.Message.{Message}
use Rattle.h2_ends.specs.Ends.{EndLog}
use Rattle.h2_ends.specs.Represents.{EndRepresents}
use Rattle.h2_ends.specs.declared.refusal.EndRefusal.{EndRefusal}
use Rattle.h2_link.specs.declared.error.LinkError.{LinkError}
use Rattle.h2_engines.specs.Linked.{Traffic, traffic}
use Rattle.h2_fetch.specs.Several.{AreComing, AskedOn, BeginsConnection, MakesRequest}
use Rattle.h2_fetch.specs.declared.connection.ClientConnection.{ClientConnection}
use Rattle.h2_get.specs.Asking.{BeginsSeveral, MadeNext, MakesNext, RefusesOne, error_of_request}
use Rattle.h2_get.specs.Asking.{refuses}

-- What a client has answered to a request.
pub accepted_next : (message : SentMessage) (id : ℕ) (old new : ClientConnection)
    → MakesRequest message (Ok id) old new → MakesNext message (Ok id) old new
unfolding MadeNext
accepted_next message id old new makes values end is =
    let (after, may, goes) = makes values end is in (after, goes)

pub refused_next : (message : SentMessage) (back : Message) (refusal : EndRefusal)
    (error : LinkError) (old new : ClientConnection) → error ≡ error_of_request refusal
    → MakesRequest message (Err (back, refusal)) old new → MakesNext message (Err error) old new
unfolding MadeNext
refused_next message back refusal error old new ends makes values end is =
    let (after, may, goes) = makes values end is in (after, (refusal, may, ends))

-- So many requests were made, each of which was accepted.
pub record HasRequestedAll (values : Values) (messages : List SentMessage)
    (fetch : ClientConnection) (ids : List ℕ) : Type 0 where
  pub asked : List AskedOn
  pub end : EndLog
  pub sent : map (λ one. one.1) asked ≡ messages
  pub streams : map (λ one. one.0) asked ≡ ids
  pub coming : (start : Traffic) → AreComing values 0 start start asked fetch end (λ id. [])

-- Its end represents what has happened.
represents_all : {values : Values} {messages : List SentMessage} {fetch : ClientConnection}
    {ids : List ℕ} (so : HasRequestedAll values messages fetch ids)
    → EndRepresents values fetch.client.end so.end
represents_all so = (so.coming (traffic None None false)).represents

-- At first none was.
pub requests_none : (values : Values) (fetch : ClientConnection) (ids : List ℕ)
    → BeginsConnection values fetch → ids ≡ [] → HasRequestedAll values [] fetch ids
requests_none values fetch ids begins none =
    record {
      asked = [];
      end = begins.0;
      sent = refl;
      streams = sym none;
      coming = begins.1;
    }

-- What was given of the messages is the beginning of them.
yields_first : {Z : Type 0} (start : IntoIter Message Z) (given : List Message)
    (now : IntoIter Message Z) → Yields into_iter_steps start given now
    → into_iter_items start ≡ given ++ into_iter_items now
yields_first start [] now yields = ap into_iter_items yields
yields_first start (message ∷ given) now yields =
    yields.1.0 ∙ ap (λ (more : List Message). message ∷ more)
    (yields_first yields.0 given now yields.2)

pub yields_next : {Z : Type 0} (messages : List Message) (start : IntoIter Message Z)
    (given : List Message) (now after : IntoIter Message Z) (message : Message)
    → into_iter_items start ≡ messages → Yields into_iter_steps start given now
    → into_iter_items now ≡ message ∷ into_iter_items after
    → map message_value messages
    ≡ map message_value given ++ message_value message ∷ map message_value (into_iter_items after)
yields_next messages start given now after message all yields next =
    ap (map message_value) (sym all ∙ yields_first start given now yields
    ∙ ap (λ (more : List Message). given ++ more) next)
    ∙ map-append message_value given (message ∷ into_iter_items after)

-- One more was accepted, for a stream of its own.
module _ {values : Values} {messages : List SentMessage} {old : ClientConnection}
    (new : ClientConnection) {ids : List ℕ} (so : HasRequestedAll values messages old ids)
    (message : SentMessage) where
  pub requests_more : (id : ℕ) → MakesNext message (Ok id) old new
      → HasRequestedAll values (messages ++ message ∷ []) new (ids ++ id ∷ [])
  unfolding MadeNext
  requests_more id makes =
      let (after, goes) = makes values so.end (represents_all so) in
      record {
        asked = so.asked ++ (id, message) ∷ [];
        end = after;
        sent = map_push (λ one. one.1) so.asked (id, message)
            ∙ ap (λ (all : List SentMessage). all ++ message ∷ []) so.sent;
        streams = map_push (λ one. one.0) so.asked (id, message)
            ∙ ap (λ (all : List ℕ). all ++ id ∷ []) so.streams;
        coming = λ start. goes 0 start start so.asked (λ id. []) (so.coming start);
      }

  -- Or it was refused.
  pub refuses_one : (error : LinkError) (all more : List SentMessage)
      → all ≡ messages ++ message ∷ more → MakesNext message (Err error) old new
      → RefusesOne values all error
  unfolding MadeNext
  refuses_one error all more are makes =
      let (after, (refusal, may, is)) = makes values so.end (represents_all so) in
      refuses so.asked message more so.end after refusal
      (are ∙ ap (λ (first : List SentMessage). first ++ message ∷ more) (sym so.sent))
      (so.coming (traffic None None false)).fetching may is

-- All of them were made.
pub begins_several : {values : Values} {messages : List SentMessage} {fetch : ClientConnection}
    {ids : List ℕ} → HasRequestedAll values messages fetch ids
    → BeginsSeveral values messages ids fetch
begins_several so = (so.asked, so.end, so.sent, so.streams, so.coming)
