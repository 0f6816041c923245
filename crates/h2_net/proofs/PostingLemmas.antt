-- What a client without a link makes of the request that it posts.
use Rattle.std.proofs.Common.{◌≡◌, ◌≢◌, ℕ, Bool, true, false, List, [], Option, Some}
use Rattle.std.proofs.Common.{None, Vec, Global}
use Rattle.hpack.specs.declared.types.field.Field.{Field}
use Rattle.std.proofs.Common.{Result, Ok, Err, inl, inr, refl, sym, ap, ◌∙◌, subst, arith}
use Rattle.std.proofs.Common.{map as each, IfErr, IfOk, OnOk}
use Rattle.h2_spec_log.specs.declared.role.Role.TheVariants.{Client}
use Rattle.h2_spec_log.specs.Acts.{AreInRange, Open, Number, Values}
use Rattle.h2_spec_log.specs.LogCalls.{opened, with_call}
use Rattle.h2_spec_log.specs.LogSteps.{with_sent}
use Rattle.h2_laws_end.proofs.Failures.{items_failed}
use Rattle.h2_message.specs.Messages.{SentMessage}
use Rattle.h2_laws_pair.specs.Tokens.{is_head_alone}
use Rattle.h2_ends.proofs.RequestSent.{accepted_here}
use Rattle.h2_ends.specs.Ends.{EndLog, said_for, parts_on}
use Rattle.h2_ends.specs.EndCalls.{MayAsk}
use Rattle.h2_link.specs.declared.error.LinkError.{LinkError}
use Rattle.h2_link.specs.declared.error.LinkError.TheVariants as errors
use Rattle.h2_link.specs.Links.{WritesAll}
use Rattle.h2_engines.specs.declared.fetcher.Coming.{Coming}
use Rattle.h2_engines.specs.declared.fetcher.Fetched.{Fetched}
use Rattle.h2_engines.specs.declared.fetcher.Fetcher.{Fetcher}
use Rattle.h2_engines.specs.ClientHistories.{IsFetched, requests}
use Rattle.h2_engines.specs.ClientSteps.{HasRequested, IsFetchedOf}
use Rattle.h2_engines.specs.Failures.{IsOfServer}
use Rattle.h2_engines.specs.PartialMessages.{HasCome, interims_alone, interim_parts}
use Rattle.h2_engines.specs.declared.responder.Responder.{Responder}
use Rattle.h2_engines.specs.WithoutLink.{ClientPutsOut, ClientTakesIn}
use Rattle.h2_engines.specs.WithoutLink.{ServerPutsOut}
use Rattle.h2_engines.specs.WithoutLink.{PutOutSo, FetchesInSo, StopsFetchAlone}
use Rattle.h2_net.specs.Fetching.{default_values}
use Rattle.h2_net.specs.Loopback.{ExchangesPost, FetchesPost, IsPosting, PostsOn, post_request}

-- No server and no write is refused so.
pub server_not_refused : (error : LinkError) → IsOfServer error → error ≢ errors.Refused
server_not_refused errors.Refused is = λ same. is
server_not_refused (errors.Stream code) is = λ same. cc
server_not_refused errors.Memory is = λ same. cc
server_not_refused errors.CutOff is = λ same. cc
server_not_refused errors.NoProgress is = λ same. cc
server_not_refused errors.Device is = λ same. cc
server_not_refused (errors.Reset code) is = λ same. cc

pub write_not_refused : (before after : Option (List ℕ)) (failures now : ℕ) (error : LinkError)
    (octets : List ℕ) → WritesAll before after failures now (Err error) octets
    → error ≢ errors.Refused
unfolding WritesAll
write_not_refused before after failures now errors.Refused octets writes = λ same. writes
write_not_refused before after failures now (errors.Stream code) octets writes = λ same. cc
write_not_refused before after failures now errors.Memory octets writes = λ same. cc
write_not_refused before after failures now errors.CutOff octets writes = λ same. cc
write_not_refused before after failures now errors.NoProgress octets writes = λ same. cc
write_not_refused before after failures now errors.Device octets writes = λ same. cc
write_not_refused before after failures now (errors.Reset code) octets writes = λ same. cc

pub memory_not_refused : (error : LinkError) → error ≡ errors.Memory → error ≢ errors.Refused
memory_not_refused error memory = λ same. cc

-- A turn puts out to where nothing was.
pub client_puts : (old new : Fetcher) (most given : ℕ) (before now : List ℕ) → before ≡ []
    → ClientPutsOut old new most before now (Ok given)
    → (count : ℕ) × ClientPutsOut old new most [] now (Ok count)
client_puts old new most given before now none puts =
    (given, subst (λ (one : List ℕ). ClientPutsOut old new most one now (Ok given)) none puts)

pub server_puts : (old new : Responder) (most given : ℕ) (before now : List ℕ) → before ≡ []
    → ServerPutsOut old new most before now (Ok given)
    → (count : ℕ) × ServerPutsOut old new most [] now (Ok count)
server_puts old new most given before now none puts =
    (given, subst (λ (one : List ℕ). ServerPutsOut old new most one now (Ok given)) none puts)

-- What is put out ends early only for lack of memory,
pub puts_on : (count : ℕ) (old new : Fetcher) (most : ℕ) (before now : List ℕ)
    (result : Result ℕ LinkError) → ClientPutsOut old new most before now result
    → IsPosting count old → PostsOn count result new
unfolding PutOutSo
puts_on count old new most before now (Ok given) puts (end, inl is) =
    let out = puts default_values (post_request count) end is.represents is.fetching in
    (out.after, inl (out.goes_on is))
puts_on count old new most before now (Ok given) puts (end, inr is) =
    let out = puts default_values (post_request count) end is.represents is.fetching in
    (out.after, inr (out.fetched is))
puts_on count old new most before now (Err error) puts (end, inl is) =
    let out = puts default_values (post_request count) end is.represents is.fetching in
    let memory = out.so.0 in λ same. cc
puts_on count old new most before now (Err error) puts (end, inr is) =
    let out = puts default_values (post_request count) end is.represents is.fetching in
    let memory = out.so.0 in λ same. cc

-- and what is taken in as a fetch stops.
stop_not_refused : (end : EndLog) (id : ℕ) (error : LinkError) → StopsFetchAlone end id error
    → error ≢ errors.Refused
unfolding StopsFetchAlone
stop_not_refused end id errors.Refused stops = λ same. stops
stop_not_refused end id (errors.Stream code) stops = λ same. cc
stop_not_refused end id errors.Memory stops = λ same. cc
stop_not_refused end id errors.CutOff stops = λ same. cc
stop_not_refused end id errors.NoProgress stops = λ same. cc
stop_not_refused end id errors.Device stops = λ same. cc
stop_not_refused end id (errors.Reset code) stops = λ same. cc

pub takes_on : (count : ℕ) (old new : Fetcher) (piece : List ℕ) (result : Result Bool LinkError)
    → ClientTakesIn old new piece result
    → (old.whole ≡ true → (result ≡ Ok true) × (new ≡ old)) → IsPosting count old
    → PostsOn count result new
unfolding FetchesInSo
takes_on count old new piece (Ok false) takes whole (end, inl is) =
    let so = takes default_values (post_request count) end is in
    (so.0, inl so.1.0)
takes_on count old new piece (Ok true) takes whole (end, inl is) =
    let so = takes default_values (post_request count) end is in
    (so.0, inr so.1.0)
takes_on count old new piece (Err error) takes whole (end, inl is) =
    let so = takes default_values (post_request count) end is in
    stop_not_refused so.0 new.id error so.1.4
takes_on count old new piece result takes whole (end, inr is) =
    let kept = whole is.noted in
    rw (kept.0, kept.1) (end, inr is)

-- The default values are in range.
in_range : AreInRange default_values
in_range =
    record {
      table_limit = omega arith;
      least_window = omega arith;
      initial_window = omega arith;
      least_streams = omega arith;
      max_streams = omega arith;
      least_frame = omega arith;
      max_frame = omega arith;
    }

-- A client that has made its request posts it.
new_up : (opened Client default_values).failed ≡ None
unfolding opened with_sent
new_up = refl

first_up : (count id : ℕ)
    → (with_call (opened Client default_values)
    (Open (post_request count).head (is_head_alone (post_request count))) (Number id)).failed
    ≡ None
unfolding with_call
first_up count id =
    items_failed (opened Client default_values)
    (Open (post_request count).head (is_head_alone (post_request count))) (Number id) ∙ new_up

none_has_come : (coming : Coming) → coming.head ≡ None → coming.body.items ≡ []
    → coming.interims.items ≡ [] → coming.trailers ≡ None → (id : ℕ)
    → HasCome coming (parts_on id [])
unfolding parts_on
none_has_come coming head body interims trailers id =
    let none : interim_parts (each (λ list. list.items) coming.interims.items) ≡ [] =
    rw interims refl in
    subst (HasCome coming) none
    (interims_alone (record {
      interims = rw interims tt;
      head = λ list is. let wrong = rw head at is in absurd (cc);
    }) head body trailers)

begins_alone : (count : ℕ) (fetcher : Fetcher)
    → HasRequested default_values (post_request count) fetcher → fetcher.whole ≡ false
    → IsPosting count fetcher
unfolding MayAsk
begins_alone count fetcher has unfinished =
    let now = has.requested.3 in
    let coming = none_has_come fetcher.coming has.none_come has.no_body has.no_interims
    has.no_trailers fetcher.id in (
      has.end,
      inl (record {
        fetching = requests in_range (Ok fetcher.id) has.requested;
        represents = has.represents;
        accepted = ap (λ (end : EndLog). said_for fetcher.id end.accepted) now
            ∙ accepted_here _ _ _;
        up = ap (λ (end : EndLog). end.log.failed) now ∙ first_up count fetcher.id;
        come = subst (λ (end : EndLog). HasCome fetcher.coming (parts_on fetcher.id end.handed))
            (sym now) coming;
        unfinished = unfinished;
      }),
    )

pub begins_posting : (count : ℕ) (values : Values) (message : SentMessage) (fetcher : Fetcher)
    → values ≡ default_values → message ≡ post_request count
    → HasRequested values message fetcher → fetcher.whole ≡ false → IsPosting count fetcher
begins_posting count values message fetcher same posts has unfinished =
    let has_so = subst (λ (one : Values). HasRequested one message fetcher) same has in
    begins_alone count fetcher
    (subst (λ (one : SentMessage). HasRequested default_values one fetcher) posts has_so)
    unfinished

-- The response of a client that has noted it is what was handed out.
content_of : {A : Type 0} → A → Option A → A
content_of other None = other
content_of other (Some one) = one

abbrev response_of : (interims : Vec (Vec Field Global) Global) (head : Vec Field Global)
    (body : Vec ℕ Global) (trailers : Option (Vec Field Global)) → Fetched
response_of interims head body trailers =
    record { interims = interims; head = head; body = body; trailers = trailers }

same_response : (one other : Fetched) → one.interims ≡ other.interims → one.head ≡ other.head
    → one.body ≡ other.body → one.trailers ≡ other.trailers
    → response_of one.interims one.head one.body one.trailers
    ≡ response_of other.interims other.head other.body other.trailers
same_response one other interims head body trailers = rw (interims, head, body, trailers) refl

fetches_post : (count : ℕ) (fetcher : Fetcher) (fetched : Fetched) → IsPosting count fetcher
    → fetcher.whole ≡ true → IsFetchedOf fetcher.coming fetched → FetchesPost count fetched
unfolding content_of
fetches_post count fetcher fetched (end, inl is) whole of =
    let not = is.unfinished in absurd (cc)
fetches_post count fetcher fetched (end, inr is) whole of =
    let response = is.response in
    let same = same_response response.0 fetched (sym response.2 ∙ of.interims)
    (ap (content_of response.0.head) (sym response.1 ∙ of.head)) (sym response.3 ∙ of.body)
    (sym response.4 ∙ of.trailers) in
    record {
      end = end;
      fetching = is.fetching;
      id = fetcher.id;
      accepted = is.accepted;
      is = subst (IsFetched (parts_on fetcher.id end.handed)) same response.5;
    }

-- So is what an exchange answers.
pub exchanges : (count : ℕ) (fetcher : Fetcher) (result : Result Fetched LinkError)
    → IsPosting count fetcher → IfOk result (IsFetchedOf fetcher.coming)
    → OnOk result (fetcher.whole ≡ true) → IfErr result (λ error. error ≡ errors.NoProgress)
    → ExchangesPost count result
exchanges count fetcher (Ok fetched) posting of whole ends =
    fetches_post count fetcher fetched posting whole of
exchanges count fetcher (Err error) posting of whole ends =
    λ same. cc
