-- A new client has made its request, and nothing has come.
use Rattle.h2_engines.proofs.Names
use Names.{◌≡◌, ℕ, Bool, List, [], None, Ok, refl, ap, ◌∙◌, Appends-nil}
use Names.{Client, Field, Values, AreInRange, Log, Keeps-call, SentMessage, call_given}
use Names.{is_head_alone, End, EndLog, EndRepresents, EndRequests, new_end_log, Open, Number}
use Names.{Traffic, IsLinked, items_failed, opened, with_call, with_sent, said_for, MayAsk}
use Rattle.h2_engines.specs.ClientHistories.{requests}
use Rattle.h2_ends.proofs.RequestSent.{accepted_here}
use Rattle.h2_fetch.specs.Comings.{BeginsFetch, octets_unused}
use Rattle.h2_fetch.specs.Parts.{handed_on}
use Rattle.h2_fetch.specs.declared.fetch.PartFetch.{PartFetch}

-- It has used no octets and given none out,
pub unused_yet : (values : Values)
    → ((opened Client values).input ≡ []) × ((opened Client values).given ≡ 0)
unfolding opened with_sent
unused_yet values = (refl, refl)

-- and is up,
pub up_yet : (values : Values) → (opened Client values).failed ≡ None
unfolding opened with_sent
up_yet values = refl

-- as it still is once the stream of its request is open.
opens_up : (values : Values) (list : List Field) (end : Bool) (id : ℕ)
    → (with_call (opened Client values) (Open list end) (Number id)).failed ≡ None
unfolding with_call
opens_up values list end id =
    items_failed (opened Client values) (Open list end) (Number id) ∙ up_yet values

none_handed : (id : ℕ) → handed_on id [] ≡ []
unfolding handed_on
none_handed id = refl

-- Nothing has gone over its link.
pub none_gone : (start : Traffic) (log : Log) (left : List ℕ) → log.input ≡ [] → log.given ≡ 0
    → left ≡ [] → IsLinked start start log left
none_gone start log left input given none =
    record {
      given = rw (input, none) (Appends-nil start.given);
      taken = rw given (Appends-nil start.taken);
    }

pub begins_fetch : {values : Values} (message : SentMessage) {old : End} (fetch : PartFetch)
    → AreInRange values → EndRepresents values old (new_end_log Client values)
    → EndRequests old message (Ok fetch.id) fetch.client.end → octets_unused fetch ≡ []
    → BeginsFetch values message fetch
unfolding MayAsk
begins_fetch {values} message fetch range represents asks none =
    let (end, may, now) = asks.1 values (new_end_log Client values) represents in
    let new = opened Client values in
    let act = Open message.head (is_head_alone message) in
    let is = may.3 in
    let log : end.log ≡ with_call new act (Number fetch.id) = ap (λ (end : EndLog). end.log) is in
    let input = ap (λ (one : Log). one.input) log ∙ (Keeps-call new act (Number fetch.id)).input
    ∙ (unused_yet values).0 in
    let given = ap (λ (one : Log). one.given) log ∙ call_given new act (Number fetch.id)
    (λ count same. cc) ∙ (unused_yet values).1 in
    record {
      end = end;
      requested = may;
      coming = λ start. record {
        fetching = requests range (Ok fetch.id) may;
        represents = now;
        accepted = ap (λ (end : EndLog). said_for fetch.id end.accepted) is ∙ accepted_here _ _ _;
        up = ap (λ (one : Log). one.failed) log
            ∙ opens_up values message.head (is_head_alone message) fetch.id;
        linked = none_gone start end.log (octets_unused fetch) input given none;
      };
      none = ap (λ (end : EndLog). handed_on fetch.id end.handed) is ∙ none_handed fetch.id;
    }
