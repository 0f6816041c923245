-- How `get` ends.
use Rattle.std.proofs.Common.{inl, inr, ℕ, Bool, true, false, List, Option, Result, Ok, Err}
use Rattle.std.proofs.Common.{refl, subst, sym, MatchBool, ◌≡◌, if◌then◌else◌}
use Rattle.h2_cli.specs.declared.status.Status.{Status}
use Rattle.h2_cli.specs.declared.status.Status.TheVariants.{Good, Fault, Usage, Device, Memory}
use Rattle.h2_link.specs.declared.error.LinkError.{LinkError}
use Rattle.h2_message.specs.Messages.{SentMessage}
use Rattle.h2_link.specs.declared.error.LinkError.TheVariants as errors
use Rattle.h2_engines.specs.declared.fetcher.Fetched.{Fetched}
use Rattle.h2_net.specs.declared.location.Location.{Location}
use Rattle.h2_net.specs.declared.location.TargetFault.{TargetFault}
use Rattle.h2_net.specs.declared.location.TargetFault.TheVariants as faults
use Rattle.h2_net.specs.Endings.{status_with}
use Rattle.h2_args.specs.Words.{GetWords}
use Rattle.h2_get.specs.declared.body.BodyFault.{BodyFault}
use Rattle.h2_get.specs.declared.body.BodyFault.TheVariants as bodies
use Rattle.h2_get.specs.declared.pass_error.StreamError.{StreamError}
use Rattle.h2_get.specs.declared.pass_error.StreamError.TheVariants as streams
use Rattle.h2_get.specs.declared.request.RequestFault.{RequestFault}
use Rattle.h2_get.specs.declared.request.RequestFault.TheVariants as requests
use Rattle.h2_get.specs.Gathers.{GathersRequest}
use Rattle.h2_get.specs.Ports.{NamesAtPort, IsRefusedAtPort}
use Rattle.h2_get.specs.Requests.{IsAskable, IsBodyAsked, IsRefusedRequest, IsUnread}
use Rattle.h2_get.specs.Requests.{request_asked}
use Rattle.h2_get.specs.Streams.{StreamsRequest}
use Rattle.h2_get.specs.Responses.{PrintsAsked, fails_as_asked}
use Rattle.h2_tool.specs.Gets.{AsksNothing, AsksSo, EndsByRefusal, EndsWithFetch, EndsWithStream}
use Rattle.h2_tool.specs.Gets.{GetsAsked, GetsSo, IsRefusedRequestOf, IsRefusedUrlOf, RefusesBody}
use Rattle.h2_tool.specs.Gets.{GetsOrStreams, RefusesRequest, RefusesUrl, StreamsAsked, StreamsSo}
use Rattle.h2_tool.specs.Gets.{is_in_parts}

-- The URL was refused.
url_refused : (words : GetWords) (remaining before : Option (List ℕ)) (status : Status)
    → IsRefusedUrlOf words before before → EndsByRefusal status
    → AsksNothing words remaining before before status
url_refused words remaining before Good refused so = absurd so
url_refused words remaining before Fault refused so = absurd so
url_refused words remaining before Usage refused so = inl refused
url_refused words remaining before Device refused so = inl refused
url_refused words remaining before Memory refused so = absurd so

module _ (words : GetWords) (remaining before : Option (List ℕ)) where
  pub get_refuses : (fault : TargetFault) (status : Status)
      → IsRefusedAtPort words.url words.port fault → RefusesUrl fault status
      → AsksNothing words remaining before before status
  get_refuses faults.Memory status refused so =
      subst (λ (one : Status). AsksNothing words remaining before before one) (sym so) refl
  get_refuses faults.Unread status refused so =
      url_refused words remaining before status
      (record { fault = faults.Unread; refused = refused; other = λ is. cc; unwritten = refl }) so
  get_refuses faults.OtherScheme status refused so =
      url_refused words remaining before status
      (record { fault = faults.OtherScheme; refused = refused; other = λ is. cc; unwritten = refl })
      so
  get_refuses faults.NoHost status refused so =
      url_refused words remaining before status
      (record { fault = faults.NoHost; refused = refused; other = λ is. cc; unwritten = refl }) so
  get_refuses faults.NoPort status refused so =
      url_refused words remaining before status
      (record { fault = faults.NoPort; refused = refused; other = λ is. cc; unwritten = refl }) so
  get_refuses faults.UserInfo status refused so =
      url_refused words remaining before status
      (record { fault = faults.UserInfo; refused = refused; other = λ is. cc; unwritten = refl }) so

  -- The body can't be read.
  pub get_has_no_body : (fault : BodyFault) (status : Status) → IsUnread words fault
      → RefusesBody fault status → AsksNothing words remaining before before status
  get_has_no_body bodies.Memory status unread so =
      subst (λ (one : Status). AsksNothing words remaining before before one) (sym so) refl
  get_has_no_body bodies.Input status unread so =
      subst (λ (one : Status). AsksNothing words remaining before before one) (sym so)
      (inr (inr (record { named = unread; unwritten = refl })))
  get_has_no_body (bodies.File kind) status unread so =
      subst (λ (one : Status). AsksNothing words remaining before before one) (sym so)
      (inr (inr (record { named = unread; unwritten = refl })))

-- No request was made.
request_refused : (words : GetWords) (remaining before : Option (List ℕ)) (status : Status)
    → IsRefusedRequestOf words remaining before before → EndsByRefusal status
    → AsksNothing words remaining before before status
request_refused words remaining before Good refused so = absurd so
request_refused words remaining before Fault refused so = absurd so
request_refused words remaining before Usage refused so = inr refused
request_refused words remaining before Device refused so = inr (inl refused)
request_refused words remaining before Memory refused so = absurd so

module _ (words : GetWords) (remaining before : Option (List ℕ)) (location : Location)
    (names : NamesAtPort words.url words.port location) (body : List ℕ)
    (is : IsBodyAsked words remaining body) where
  pub get_asks_nothing : (fault : RequestFault) (status : Status)
      → IsRefusedRequest words body location fault → RefusesRequest fault status
      → AsksNothing words remaining before before status
  get_asks_nothing requests.Memory status refused so =
      subst (λ (one : Status). AsksNothing words remaining before before one) (sym so) refl
  get_asks_nothing requests.NoColon status refused so =
      request_refused words remaining before status (record {
        location = location;
        names = names;
        body = body;
        is = is;
        fault = requests.NoColon;
        refused = refused;
        other = λ is. cc;
        unwritten = refl;
      }) so
  get_asks_nothing requests.Host status refused so =
      request_refused words remaining before status (record {
        location = location;
        names = names;
        body = body;
        is = is;
        fault = requests.Host;
        refused = refused;
        other = λ is. cc;
        unwritten = refl;
      }) so
  get_asks_nothing (requests.Malformed rule) status refused so =
      request_refused words remaining before status (record {
        location = location;
        names = names;
        body = body;
        is = is;
        fault = requests.Malformed rule;
        refused = refused;
        other = λ is. cc;
        unwritten = refl;
      }) so

-- The fetch has ended early.
get_ends_early : (words : GetWords) (remaining before : Option (List ℕ)) (error : LinkError)
    → GetsAsked words remaining (Err error)
    → GetsSo words remaining before before (status_with error)
get_ends_early words remaining before errors.Device gets = inr (inl (record {
  error = errors.Device;
  got = gets;
  status_is = refl;
  unwritten = refl;
}))
get_ends_early words remaining before (errors.Stream code) gets =
    inl (record { error = errors.Stream code; got = gets; status_is = refl; unwritten = refl })
get_ends_early words remaining before errors.Memory gets = refl
get_ends_early words remaining before errors.CutOff gets =
    inl (record { error = errors.CutOff; got = gets; status_is = refl; unwritten = refl })
get_ends_early words remaining before errors.NoProgress gets = inr (inl (record {
  error = errors.NoProgress;
  got = gets;
  status_is = refl;
  unwritten = refl;
}))
get_ends_early words remaining before (errors.Reset code) gets =
    inl (record { error = errors.Reset code; got = gets; status_is = refl; unwritten = refl })
get_ends_early words remaining before errors.Refused gets = inr (record {
  error = errors.Refused;
  got = gets;
  status_is = refl;
  unwritten = refl;
})

-- So `get` ends with what came of its fetch.
pub gets_so : (words : GetWords) (remaining before after : Option (List ℕ))
    (got : Result Fetched LinkError) (status : Status) → GetsAsked words remaining got
    → EndsWithFetch words got before after status → GetsSo words remaining before after status
gets_so words remaining before after (Ok fetched) Good gets prints = (fetched, gets, prints)
gets_so words remaining before after (Ok fetched) Fault gets prints = inr (fetched, gets, prints)
gets_so words remaining before after (Ok fetched) Usage gets so = absurd (cc)
gets_so words remaining before after (Ok fetched) Device gets so = inr (inr (fetched, gets))
gets_so words remaining before after (Ok fetched) Memory gets so = absurd (cc)
gets_so words remaining before after (Err error) status gets so =
    rw (so.0, so.1) (get_ends_early words remaining before error gets)

-- A response that is printed as it comes has ended early,
stream_ends_early : (words : GetWords) (remaining before after : Option (List ℕ))
    (error : LinkError) → StreamsAsked words remaining before after (Err (streams.Link error))
    → StreamsSo words remaining before after (status_with error)
stream_ends_early words remaining before after errors.Device got =
    inr (inl (record { error = errors.Device; got = got; status_is = refl }))
stream_ends_early words remaining before after (errors.Stream code) got =
    inl (record { error = errors.Stream code; got = got; status_is = refl })
stream_ends_early words remaining before after errors.Memory got =
    inr (record { error = errors.Memory; got = got; status_is = refl })
stream_ends_early words remaining before after errors.CutOff got =
    inl (record { error = errors.CutOff; got = got; status_is = refl })
stream_ends_early words remaining before after errors.NoProgress got =
    inr (inl (record { error = errors.NoProgress; got = got; status_is = refl }))
stream_ends_early words remaining before after (errors.Reset code) got =
    inl (record { error = errors.Reset code; got = got; status_is = refl })
stream_ends_early words remaining before after errors.Refused got =
    inr (record { error = errors.Refused; got = got; status_is = refl })

-- and so `get` ends with what came of it.
pub streams_so : (words : GetWords) (remaining before after : Option (List ℕ))
    (got : Result Fetched StreamError) (status : Status)
    → StreamsAsked words remaining before after got → EndsWithStream words got status
    → StreamsSo words remaining before after status
streams_so words remaining before after (Ok fetched) Good asked so = (fetched, asked, so)
streams_so words remaining before after (Ok fetched) Fault asked so = inr (fetched, asked, so)
streams_so words remaining before after (Ok fetched) Usage asked so = absurd so
streams_so words remaining before after (Ok fetched) Device asked so = absurd so
streams_so words remaining before after (Ok fetched) Memory asked so = absurd so
streams_so words remaining before after (Err (streams.Link error)) status asked so =
    rw so (stream_ends_early words remaining before after error asked)
streams_so words remaining before after (Err streams.Output) status asked so =
    rw so (inr (inr (inl asked)))
streams_so words remaining before after (Err streams.File) status asked so =
    rw so (inr (inr (inr asked)))

-- Where nothing is asked for, it doesn't matter how it would be printed.
pub gets_nothing : (words : GetWords) (remaining before after : Option (List ℕ)) (status : Status)
    (parts : Bool) → AsksNothing words remaining before after status
    → MatchBool parts (StreamsSo words remaining before after status)
    (GetsSo words remaining before after status)
gets_nothing words remaining before after Good parts so = absurd so
gets_nothing words remaining before after Fault parts so = absurd so
gets_nothing words remaining before after Usage true so = inl so
gets_nothing words remaining before after Usage false so = inl so
gets_nothing words remaining before after Device true so = inl so
gets_nothing words remaining before after Device false so = inl so
gets_nothing words remaining before after Memory true so = inl so
gets_nothing words remaining before after Memory false so = so

-- A request that was made for the words ends `get` so.
module _ (words : GetWords) (remaining before after : Option (List ℕ)) (status : Status)
    (location : Location) (names : NamesAtPort words.url words.port location) (body : List ℕ)
    (is : IsBodyAsked words remaining body) (asked : IsAskable words body location) where
  abbrev request : SentMessage
  request = request_asked words body location

  asks_by : (parts : Bool)
      → MatchBool parts
      ((got : Result Fetched StreamError) × StreamsRequest words request before after got
      × EndsWithStream words got status)
      ((got : Result Fetched LinkError) × GathersRequest words request got
      × EndsWithFetch words got before after status)
      → MatchBool parts (StreamsSo words remaining before after status)
      (GetsSo words remaining before after status)
  asks_by true (got, streams, so) =
      streams_so words remaining before after got status
      (record {
        location = location;
        names = names;
        body = body;
        is = is;
        asked = asked;
        streams = streams;
      }) so
  asks_by false (got, fetches, so) =
      gets_so words remaining before after got status
      (record {
        location = location;
        names = names;
        body = body;
        is = is;
        asked = asked;
        fetches = fetches;
      }) so

  pub asks_so : (message : SentMessage) → message ≡ request →
      AsksSo words message before after status
      → GetsOrStreams words remaining before after status
  asks_so message same so =
      asks_by (is_in_parts words)
      (subst (λ (one : SentMessage). AsksSo words one before after status) same so)

-- A response that was printed ends `get` with the status that the words give it.
pub ends_with_fetch : (words : GetWords) (before after : Option (List ℕ)) (fetched : Fetched)
    (fails : Bool) → fails_as_asked words fetched ≡ fails
    → PrintsAsked words before after fetched
    → EndsWithFetch words (Ok fetched) before after (if fails then Fault else Good)
ends_with_fetch words before after fetched true is prints = (is, prints)
ends_with_fetch words before after fetched false is prints = (is, prints)
