-- How `get` ends with several URLs.
use Rattle.std.proofs.Common.{inl, inr, ◌≡◌, ◌<◌, ℕ, ◌+◌, true, false, List, [], ◌∷◌, ◌++◌}
use Rattle.std.proofs.Common.{length, map, Option, None, Result, Ok, Err, refl, sym, subst, arith}
use Rattle.std.proofs.Common.{MatchBool, if◌then◌else◌, is_some, suc, zero, slice_index_or, ◌∙◌}
use Rattle.std.proofs.Common.{ap, get_or, take}
use Rattle.std.proofs.Common.{Bool, Some, option_map}
use Rattle.std.proofs.lemmas.List.{get_or-map, length-map, map-append, take_more}
use Rattle.std.specs.Borrow.{Bor}
use Rattle.std.specs.List.{AllByRecursion, Contains}
use Rattle.std.proofs.lemmas.List.Elements.{Contains-append_right, Contains-get_or}
use Rattle.h2_cli.specs.declared.status.Status.{Status}
use Rattle.h2_cli.specs.declared.status.Status.TheVariants.{Good, Fault, Usage, Device, Memory}
use Rattle.h2_message.specs.Messages.{SentMessage}
use Rattle.h2_engines.specs.declared.fetcher.Fetched.{Fetched}
use Rattle.h2_net.specs.declared.location.Location.{Location}
use Rattle.h2_args.specs.Words.{GetWords}
use Rattle.h2_get.specs.declared.body.BodyFault.{BodyFault}
use Rattle.h2_get.specs.declared.pass_error.StreamError.{StreamError}
use Rattle.h2_get.specs.declared.pass_error.StreamError.TheVariants as streams
use Rattle.h2_get.specs.declared.request.RequestFault.{RequestFault}
use Rattle.h2_get.specs.Ports.{NamesAtPort, IsRefusedAtPort}
use Rattle.h2_get.specs.Requests.{IsAskable, IsBodyAsked, IsRefusedRequest, IsUnread}
use Rattle.h2_get.specs.Requests.{request_asked}
use Rattle.h2_get.specs.Responses.{fails_as_asked}
use Rattle.h2_net.specs.declared.location.TargetFault.{TargetFault}
use Rattle.h2_net.specs.declared.location.TargetFault.TheVariants as faults
use Rattle.h2_tool.specs.declared.get_several.LocationsFault.{LocationsFault}
use Rattle.h2_tool.specs.declared.get_several.LocationsFault.TheVariants as unfits
use Rattle.h2_tool.specs.Gets.{EndsByRefusal, EndsWithStream, RefusesBody, RefusesRequest}
use Rattle.h2_tool.specs.Gets.{RefusesUrl}
use Rattle.h2_tool.specs.GetsSeveral.{AreSameHost, AsksNone, HasOtherHost, IsRefusedForOne}
use Rattle.h2_tool.specs.GetsSeveral.{IsUnfit, NameInOrder, RefusesLocations, SeveralAsked}
use Rattle.h2_tool.specs.GetsSeveral.{SeveralSo, StreamsAll, first_failed, has_too_many}
use Rattle.h2_tool.specs.GetsSeveral.{is_same_host, status_of_one, urls_of, with_url}
use Rattle.h2_tool.proofs.GetLemmas.{get_asks_nothing, get_has_no_body, get_refuses}

-- The first URL is one of them,
first_among : (words : GetWords) → Contains (urls_of words) words.url
first_among words = (0, omega arith, refl)

-- and so is each of the others.
other_among : (words : GetWords) (url : List ℕ) → Contains words.others url
    → Contains (urls_of words) url
other_among words url among = Contains-append_right (words.url ∷ []) words.others url among

-- One of the locations that URLs name is named by one of them.
named_at : (urls : List (List ℕ)) (port : Option ℕ) (given : List Location) (k : ℕ)
    (location : Location) → k < length given → slice_index_or given k location ≡ location
    → NameInOrder urls port given
    → (url : List ℕ) × Contains urls url × NamesAtPort url port location
named_at [] port [] k location within is names = absurd (omega (arith, within))
named_at [] port (one ∷ given) k location within is names = absurd names
named_at (url ∷ urls) port [] k location within is names = absurd names
named_at (url ∷ urls) port (one ∷ given) zero location within is names =
    (url, (0, omega arith, refl), subst (NamesAtPort url port) is names.0)
named_at (url ∷ urls) port (one ∷ given) (suc k) location within is names =
    let so = named_at urls port given k location (omega (arith, within)) is names.1 in
    (so.0, Contains-append_right (url ∷ []) urls so.0 so.1, so.2)

-- One URL more names a location more.
pub names_more : (urls : List (List ℕ)) (port : Option ℕ) (given : List Location) (url : List ℕ)
    (location : Location) → NameInOrder urls port given → NamesAtPort url port location
    → NameInOrder (urls ++ url ∷ []) port (given ++ location ∷ [])
names_more [] port [] url location names more = (more, tt)
names_more [] port (one ∷ given) url location names more = absurd names
names_more (first ∷ urls) port [] url location names more = absurd names
names_more (first ∷ urls) port (one ∷ given) url location names more =
    (names.0, names_more urls port given url location names.1 more)

-- The words name a file for the body.
pub several_into_file : (words : GetWords) (remaining before : Option (List ℕ)) (status : Status)
    → is_some words.output ≡ true → EndsByRefusal status
    → AsksNone words remaining before before status
several_into_file words remaining before status file so = inr (inl file, so, refl)

-- They name too many URLs.
pub several_too_many : (words : GetWords) (remaining before : Option (List ℕ)) (status : Status)
    → has_too_many words ≡ true → EndsByRefusal status
    → AsksNone words remaining before before status
several_too_many words remaining before status many so = inr (inr (inl many), so, refl)

-- Whether they name a file, by the options.
pub output_named : (output : Option (Bor (List ℕ))) (given : Bool) → given ≡ is_some output
    → is_some (option_map (λ path. path.now) output) ≡ given
output_named None given is = sym is
output_named (Some path) given is = sym is

-- They name none.
output_none : (output : Option (List ℕ)) → is_some output ≡ false → output ≡ None
output_none None is = refl
output_none (Some path) is = absurd (cc)

pub no_output : (words : GetWords) → is_some words.output ≡ false → words.output ≡ None
no_output words is = output_none words.output is

-- One of the URLs can't be fetched.
url_unfit : (words : GetWords) (remaining before : Option (List ℕ)) (url : List ℕ)
    → Contains (urls_of words) url → (fault : TargetFault) (status : Status)
    → IsRefusedAtPort url words.port fault → RefusesUrl fault status
    → AsksNone words remaining before before status
url_unfit words remaining before url among fault status refused so =
    inl (url, among, get_refuses (with_url words url) remaining before fault status refused so)

pub first_unfit : (words : GetWords) (remaining before : Option (List ℕ)) (fault : TargetFault)
    (status : Status) → IsRefusedAtPort words.url words.port fault → RefusesUrl fault status
    → AsksNone words remaining before before status
first_unfit words remaining before fault status refused so =
    url_unfit words remaining before words.url (first_among words) fault status refused so

-- The others can't be fetched with the first.
pub others_unfit : (words : GetWords) (remaining before : Option (List ℕ)) (first : Location)
    → NamesAtPort words.url words.port first → (fault : LocationsFault) (status : Status)
    → IsUnfit words.others words.port first fault → RefusesLocations fault status
    → AsksNone words remaining before before status
others_unfit words remaining before first names (unfits.Url fault) status unfit so =
    url_unfit words remaining before unfit.0 (other_among words unfit.0 unfit.1) fault status
    unfit.2 so
others_unfit words remaining before first names unfits.OtherHost status unfit so =
    inr (
      inr (inr (record {
        first = first;
        names_first = names;
        url = unfit.0;
        among = unfit.2;
        other = unfit.1;
        names_other = unfit.3;
        differs = unfit.4;
      })),
      so,
      refl,
    )

-- The body can't be read.
pub several_has_no_body : (words : GetWords) (remaining before : Option (List ℕ))
    (fault : BodyFault) (status : Status) → IsUnread words fault → RefusesBody fault status
    → AsksNone words remaining before before status
several_has_no_body words remaining before fault status unread so = inl (
  words.url,
  first_among words,
  get_has_no_body (with_url words words.url) remaining before fault status unread so,
)

module _ (words : GetWords) (remaining before : Option (List ℕ)) (first : Location)
    (others : List Location) (names : NamesAtPort words.url words.port first)
    (name : NameInOrder words.others words.port others) (body : List ℕ)
    (is : IsBodyAsked words remaining body) where
  -- One of the requests can't be made.
  pub several_asks_nothing : (fault : RequestFault) (status : Status)
      → IsRefusedForOne words body (first ∷ others) fault → RefusesRequest fault status
      → AsksNone words remaining before before status
  several_asks_nothing fault status refused so =
      let among = refused.1 in
      let named = named_at (urls_of words) words.port (first ∷ others) among.0 refused.0 among.1
      among.2 (names, name) in
      inl (
        named.0,
        named.1,
        get_asks_nothing (with_url words named.0) remaining before refused.0 named.2 body is fault
            status refused.2 so,
      )

  -- All were made, and their responses were printed.
  pub several_so : (after : Option (List ℕ)) (status : Status) → AreSameHost first others
      → AllByRecursion (IsAskable words body) (first ∷ others) → words.output ≡ None
      → has_too_many words ≡ false → (messages : List SentMessage)
      → messages ≡ map (request_asked words body) (first ∷ others)
      → StreamsAll words messages before after status
      → SeveralSo words remaining before after status
  several_so after status same asked no_file few messages are so = inr (
    so.0,
    record {
      first = first;
      others = others;
      names = names;
      name = name;
      same = same;
      body = body;
      is = is;
      asked = asked;
      no_file = no_file;
      few = few;
      streams = rw are at so.1;
    },
    so.2,
  )

-- What holds for locations, and for one more, holds for all of them.
all_and_last : (P : Location → Type 0) (given : List Location) (last : Location)
    → AllByRecursion P given → P last → AllByRecursion P (given ++ last ∷ [])
all_and_last P [] last all one = (one, tt)
all_and_last P (first ∷ given) last all one = (all.0, all_and_last P given last all.1 one)

-- One location more has the host and port of the first.
pub same_more : (first : Location) (given : List Location) (last : Location)
    → AreSameHost first given → is_same_host first last ≡ true
    → AreSameHost first (given ++ last ∷ [])
same_more first given last all one =
    all_and_last (λ other. is_same_host first other ≡ true) given last all one

-- So many of the others have their requests, which can be asked for.
abbrev pub HaveRequests : GetWords → (body : List ℕ) → (first : Location) → List Location
    → List SentMessage → Type 0
HaveRequests words body first others messages =
    (messages ≡ map (request_asked words body) (first ∷ others))
    × AllByRecursion (IsAskable words body) (first ∷ others)

-- One more has its own.
pub requests_more : (words : GetWords) (body : List ℕ) (first : Location) (others : List Location)
    (place : ℕ) (default location : Location) → place < length others
    → location ≡ get_or others place default → (messages more : List SentMessage)
    → HaveRequests words body first (take place others) messages
    → more ≡ messages ++ request_asked words body location ∷ [] → IsAskable words body location
    → HaveRequests words body first (take (place + 1) others) more
requests_more words body first others place default location within at messages more so is asked =
    let f = request_asked words body in
    let taken : take place others ++ location ∷ [] ≡ take (place + 1) others =
    ap (λ (one : Location). take place others ++ one ∷ []) at
    ∙ sym (take_more others place default within) in
    subst (λ (given : List Location). HaveRequests words body first given more) taken (
      is
          ∙ ap (λ (sent : List SentMessage). sent ++ f location ∷ []) so.0
          ∙ sym (map-append f (first ∷ take place others) (location ∷ [])),
      all_and_last (IsAskable words body) (first ∷ take place others) location so.1 asked,
    )

-- The status of what has come of a response.
pub status_is : (words : GetWords) (got : Result Fetched StreamError) (status : Status)
    → EndsWithStream words got status → status ≡ status_of_one words got
status_is words (Ok fetched) Good so = rw so refl
status_is words (Ok fetched) Fault so = rw so refl
status_is words (Ok fetched) Usage so = absurd so
status_is words (Ok fetched) Device so = absurd so
status_is words (Ok fetched) Memory so = absurd so
status_is words (Err (streams.Link error)) status so = so
status_is words (Err streams.Output) status so = so
status_is words (Err streams.File) status so = so

-- A status follows others.
pub first_failed_more : (statuses : List Status) (next : Status)
    → first_failed (first_failed statuses ∷ next ∷ []) ≡ first_failed (statuses ++ next ∷ [])
first_failed_more [] next = refl
first_failed_more (Good ∷ statuses) next = first_failed_more statuses next
first_failed_more (Fault ∷ statuses) next = refl
first_failed_more (Usage ∷ statuses) next = refl
first_failed_more (Device ∷ statuses) next = refl
first_failed_more (Memory ∷ statuses) next = refl

-- One response more has its status.
pub status_more : (words : GetWords) (before : List (Result Fetched StreamError))
    (got ending : Result Fetched StreamError) (old next now : Status)
    → old ≡ first_failed (map (status_of_one words) before)
    → EndsWithStream words ending next → ending ≡ got
    → now ≡ first_failed (old ∷ next ∷ [])
    → now ≡ first_failed (map (status_of_one words) (before ++ got ∷ []))
status_more words before got ending old next now was ends same is =
    let f = status_of_one words in
    let one : next ≡ f got = status_is words ending next ends ∙ ap f same in
    is
    ∙ ap (λ (last : Status). first_failed (old ∷ last ∷ [])) one
    ∙ ap (λ (first : Status). first_failed (first ∷ f got ∷ [])) was
    ∙ first_failed_more (map f before) (f got)
    ∙ ap first_failed (sym (map-append f before (got ∷ [])))

-- The URL at a place is one of the URLs.
url_at : (urls : List (Bor (List ℕ))) (place : ℕ) (other : Bor (List ℕ)) (url : List ℕ)
    → place < length urls → url ≡ (get_or urls place other).now
    → Contains (map (λ one. one.now) urls) url
url_at urls place other url within is =
    subst (Contains (map (λ one. one.now) urls))
    (get_or-map (λ one. one.now) urls place other other.now within ∙ sym is)
    (Contains-get_or (map (λ one. one.now) urls) place other.now
    (subst (λ (n : ℕ). place < n) (sym (length-map urls (λ one. one.now))) within))

-- Memory was refused for the location of a URL.
lacks_memory : (url : List ℕ) (port : Option ℕ) → IsRefusedAtPort url port faults.Memory
lacks_memory url None = tt
lacks_memory url (Some port) = inl (tt, λ is. cc)

module _ (urls : List (Bor (List ℕ))) (port : Option ℕ) (first : Location) (place : ℕ)
    (other : Bor (List ℕ)) (within : place < length urls) (url : List ℕ)
    (is : url ≡ (get_or urls place other).now) where
  pub url_refused_at : (fault : TargetFault) → IsRefusedAtPort url port fault
      → IsUnfit (map (λ one. one.now) urls) port first (unfits.Url fault)
  url_refused_at fault refused = (url, url_at urls place other url within is, refused)

  pub url_unread_at : IsUnfit (map (λ one. one.now) urls) port first
      (unfits.Url faults.Memory)
  url_unread_at = (url, url_at urls place other url within is, lacks_memory url port)

  pub other_host_at : (location : Location) → NamesAtPort url port location
      → is_same_host first location ≡ false
      → IsUnfit (map (λ one. one.now) urls) port first unfits.OtherHost
  other_host_at location names differs =
      (url, location, url_at urls place other url within is, names, differs)

  pub names_next : (given : List Location) (location : Location)
      → NameInOrder (map (λ one. one.now) (take place urls)) port given
      → NamesAtPort url port location
      → NameInOrder (map (λ one. one.now) (take (place + 1) urls)) port (given ++ location ∷ [])
  names_next given location name names =
      subst (λ (read : List (List ℕ)). NameInOrder read port (given ++ location ∷ []))
      (ap (λ (one : List ℕ). map (λ one. one.now) (take place urls) ++ one ∷ []) is
      ∙ sym (map-append (λ one. one.now) (take place urls) (get_or urls place other ∷ []))
      ∙ ap (λ (some : List (Bor (List ℕ))). map (λ one. one.now) some)
      (sym (take_more urls place other within)))
      (names_more (map (λ one. one.now) (take place urls)) port given url location name names)

-- The request for the first location is refused, or that for a later one.
pub first_refused : (words : GetWords) (body : List ℕ) (first : Location) (others : List Location)
    (fault : RequestFault) → IsRefusedRequest words body first fault
    → IsRefusedForOne words body (first ∷ others) fault
first_refused words body first others fault refused = (first, (0, omega arith, refl), refused)

pub later_refused : (words : GetWords) (body : List ℕ) (first : Location) (others : List Location)
    (place : ℕ) (default : Location) → place < length others → (location : Location)
    → location ≡ get_or others place default → (fault : RequestFault)
    → IsRefusedRequest words body location fault
    → IsRefusedForOne words body (first ∷ others) fault
later_refused words body first others place default within location at fault refused = (
  location,
  Contains-append_right (first ∷ []) others location
      (subst (Contains others) (sym at) (Contains-get_or others place default within)),
  refused,
)
