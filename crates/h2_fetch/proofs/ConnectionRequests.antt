-- A new client fetches, and goes on where it makes a request.
use Rattle.h2_engines.proofs.Names
use Names.{◌≡◌, ◌≢◌, ℕ, List, [], ◌∷◌, ◌++◌, Some, None, Result, Ok, Err, refl, sym, ap, ◌∙◌}
use Names.{inl, inr, Contains, Client, Values, AreInRange, Log, SentMessage, is_head_alone, at_once}
use Names.{EndLog, EndRepresents, new_end_log, EndRefusal, EndRequests, Message, Open, Number}
use Names.{with_call, said_for, MayAsk, MayRequest, Traffic, opened, subst, IsLinked}
use Rattle.std.proofs.lemmas.List.Elements.{Contains-push_cases}
use Rattle.h2_laws_end.proofs.OverNumbers.{opened_is_new}
use Rattle.h2_laws_pair.proofs.Lists.{none_in}
use Rattle.h2_ends.proofs.RequestHeads.{untouched}
use Rattle.h2_ends.proofs.RequestSent.{accepted_elsewhere, accepted_here}
use Rattle.h2_engines.proofs.ResponderEnds.{given_within}
use Rattle.h2_engines.proofs.ServeLinkLogs.{call_goes, goes_links}
use Rattle.h2_fetch.specs.Several.{all_on, AnsweredOn, AreComing, AskedOn, BeginsConnection}
use Rattle.h2_fetch.specs.Several.{MakesRequest, begins, refuses, requests}
use Rattle.h2_fetch.specs.Several.{several_unused}
use Rattle.h2_fetch.specs.declared.connection.ClientConnection.{ClientConnection}
use Rattle.h2_fetch.proofs.Beginning.{none_gone, unused_yet, up_yet}
use Rattle.h2_fetch.proofs.RefusedRequests.{refused_stays}
use Rattle.h2_fetch.proofs.SeveralTaking.{stay_dropped}
use Rattle.h2_fetch.proofs.SeveralWaits.{coming_still}

-- A new client has made no request, and nothing has come.
pub begins_connection : (values : Values) (fetch : ClientConnection) → AreInRange values
    → EndRepresents values fetch.client.end (new_end_log Client values) → fetch.kept.entries ≡ []
    → several_unused fetch ≡ [] → BeginsConnection values fetch
unfolding all_on
begins_connection values fetch range represents kept unused = (
  new_end_log Client values,
  λ start. record {
    fetching = begins range;
    represents = represents;
    accepted = λ id message one. absurd (none_in (id, message) one);
    up = up_yet values;
    linked = none_gone start (opened Client values) (several_unused fetch) (unused_yet values).0
        (unused_yet values).1 unused;
    parts = λ id. rw kept refl;
    dropped = λ id code one. absurd (none_in _ (rw kept at one));
  },
)

module _ {values : Values} {wide : ℕ} {start now : Traffic} {asked : List AskedOn}
    {old : ClientConnection} (new : ClientConnection) {end : EndLog} {answered : AnsweredOn}
    (is : AreComing values wide start now asked old end answered) (message : SentMessage)
    (after : EndLog) (represents : EndRepresents values new.client.end after)
    (kept : new.kept ≡ old.kept) (unused : several_unused new ≡ several_unused old)
  where
    -- One message more was accepted, for a stream of its own,
    accepted_more : (id : ℕ) → after.accepted ≡ (id, at_once message) ∷ end.accepted
        → said_for id end.accepted ≡ None → (i : ℕ) (one : SentMessage)
        → Contains (asked ++ (id, message) ∷ []) (i, one)
        → said_for i after.accepted ≡ Some (at_once one)
    accepted_more id more unsaid i one there =
        elim (Contains-push_cases asked (id, message) (i, one) there) [
          | inl was ↦
              let said = is.accepted i one was in
              let other : i ≢ id = λ same. let wrong = sym said
              ∙ ap (λ (n : ℕ). said_for n end.accepted) same ∙ unsaid in absurd (cc) in
              rw more (accepted_elsewhere i id (at_once message) end.accepted other ∙ said)
          | inr same ↦
              let here : id ≡ i = ap (λ (pair : AskedOn). pair.0) same in
              let said : message ≡ one = ap (λ (pair : AskedOn). pair.1) same in
              rw (sym here, sym said, more) (accepted_here id (at_once message) end.accepted)
        ]

    -- and its response is fetched too;
    pub requested_also : (id : ℕ) → MayRequest end message (Ok id) after
        → AreComing values wide start now (asked ++ (id, message) ∷ []) new after answered
    unfolding MayAsk
    requested_also id may =
        let act = Open message.head (is_head_alone message) in
        let fresh = opened_is_new _ _ end.log _ _ id is.represents.streams.conn.machine.came may.2
        in
        let unsaid : said_for id end.accepted ≡ None =
        (untouched values old.client.end end id is.represents fresh.2).0.unsaid in
        let log : after.log ≡ with_call end.log act (Number id) =
        ap (λ (one : EndLog). one.log) may.3 in
        let goes = call_goes end.log act (Number id) tt in
        record {
          fetching = requests is.fetching id message may;
          represents = represents;
          accepted = accepted_more id (ap (λ (one : EndLog). one.accepted) may.3) unsaid;
          up = ap (λ (one : Log). one.failed) log ∙ goes.failed ∙ is.up;
          linked = subst (IsLinked start now after.log) (sym unused)
              (rw log (goes_links (given_within is.represents) goes is.linked));
          parts = λ i. rw (may.3, kept) (is.parts i);
          dropped = stay_dropped end after old.kept.entries new.kept.entries (λ i. rw kept refl)
              (λ one was. rw (may.3) was) is.dropped;
        }

    -- or it was refused, and nothing has changed.
    pub refused_also : (refusal : EndRefusal) → MayRequest end message (Err refusal) after
        → AreComing values wide start now asked new after answered
    refused_also refusal may =
        let stays = refused_stays end after message refusal may in
        coming_still new after (λ i. rw kept refl) stays.accepted stays.handed
        (refuses is.fetching message refusal may) represents (stays.goes.failed ∙ is.up)
        (subst (IsLinked start now after.log) (sym unused)
        (goes_links (given_within is.represents) stays.goes is.linked)) is

-- So the client goes on, however its end has answered.
pub makes_request : (message : SentMessage) (result : Result ℕ (Message × EndRefusal))
    (old new : ClientConnection) → EndRequests old.client.end message result new.client.end
    → new.kept ≡ old.kept → several_unused new ≡ several_unused old
    → MakesRequest message result old new
makes_request message (Ok id) old new asks kept unused values end is =
    let (after, may, now) = asks.1 values end is in (
      after,
      may,
      λ wide start gone asked answered coming. requested_also new coming message after now kept
          unused id may,
    )
makes_request message (Err (back, refusal)) old new asks kept unused values end is =
    let (after, may, now) = asks.1 values end is in (
      after,
      may,
      λ wide start gone asked answered coming. refused_also new coming message after now kept
          unused refusal may,
    )
