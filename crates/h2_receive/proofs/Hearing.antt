-- What a handler hears of a response, one part after another.
use Rattle.h2_engines.proofs.Names
use Names.{◌≡◌, ◌≤◌, ◌+◌, ◌-◌, ◌^◌, ℕ, Bool, true, false, List, [], ◌∷◌, ◌++◌, length}
use Names.{Result, Ok, Err, refl, sym, ap, ◌∙◌, subst, inr, arith, append-nil}
use Names.{Values, SentMessage, EndLog, Handed, LinkError, Traffic}
use Rattle.std.proofs.Common.{map as each}
use Rattle.std.proofs.lemmas.List.{map-append}
use Rattle.h2_laws_pair.proofs.Lists.{all_both}
use Rattle.h2_engines.proofs.MachineViews.{all_in_part}
use Rattle.h2_engines.specs.Failures.{CutsOffAtEnd, failures_at_end}
use Rattle.h2_engines.specs.Fetches.{IsNotAccepted}
use Rattle.h2_fetch.specs.Comings.{AnswersNext, BeginsFetch, ComesSo, IsComing}
use Rattle.h2_receive.specs.Heard.{FetchesBy, ReceivesBy}
use Rattle.h2_fetch.specs.Parts.{handed_of, handed_on}
use Rattle.h2_fetch.specs.declared.fetch.PartFetch.{PartFetch}
use Rattle.h2_fetch.specs.declared.part.ResponsePart.{ResponsePart}
use Rattle.h2_server.specs.declared.handler.HandlerFault.{HandlerFault}
use Rattle.h2_link.specs.declared.error.LinkError.TheVariants as errors
use Rattle.h2_receive.specs.declared.errors.FetchError.{FetchError}
use Rattle.h2_receive.specs.declared.errors.FetchError.TheVariants as faults
use Rattle.h2_receive.specs.Heard.{CutsOffHeard, GoOn, HandsParts, HasHeard, HearsAll}
use Rattle.h2_receive.specs.Heard.{ends_early, ends_response, failures_heard, is_not_accepted}
use Rattle.h2_receive.specs.Heard.{is_refused, is_whole, none_heard, one_heard}

-- The parts of the response that have come were heard, and none of them ends it; and so many rounds
-- have passed.
pub record IsHearing {H : Type 0}
    (hears : H → ResponsePart → Result (Unit {0}) HandlerFault → H → Type 0) (values : Values)
    (message : SentMessage) (wide : ℕ) (start now : Traffic) (old new : H) (fetch : PartFetch)
    (rounds : ℕ) : Type 0 where
  pub end : EndLog
  pub heard : List ResponsePart
  pub coming : IsComing values message wide start now fetch end
  pub goes : GoOn heard
  pub has : HasHeard hears old heard new
  pub hands : HandsParts fetch end heard []
  pub turns : rounds ≤ length end.log.turns

-- So it is for a fetch of which nothing had been handed out, whatever had happened at it.
abbrev pub HearsOn : {H : Type 0}
    (hears : H → ResponsePart → Result (Unit {0}) HandlerFault → H → Type 0) (first : PartFetch)
    (before now : Traffic) (old new : H) (fetch : PartFetch) (rounds : ℕ) → Type 0
HearsOn hears first before now old new fetch rounds =
    (values : Values) (message : SentMessage) (wide : ℕ) (start : Traffic) (end : EndLog)
    → IsComing values message wide start before first end → handed_on first.id end.handed ≡ []
    → IsHearing hears values message wide start now old new fetch rounds

-- One more part has come, and wasn't heard yet.
pub record HasPart {H : Type 0}
    (hears : H → ResponsePart → Result (Unit {0}) HandlerFault → H → Type 0) (values : Values)
    (message : SentMessage) (wide : ℕ) (start now : Traffic) (old new : H) (fetch : PartFetch)
    (rounds : ℕ) (part : ResponsePart) : Type 0 where
  pub end : EndLog
  pub heard : List ResponsePart
  pub coming : IsComing values message wide start now fetch end
  pub goes : GoOn heard
  pub has : HasHeard hears old heard new
  pub hands : HandsParts fetch end (heard ++ part ∷ []) []
  pub turns : rounds + 1 ≤ length end.log.turns

module _ {H : Type 0} {hears : H → ResponsePart → Result (Unit {0}) HandlerFault → H → Type 0}
    {values : Values} {message : SentMessage} {wide : ℕ} {start : Traffic} {old : H} where
  -- At first none have come.
  pub hears_first : {now : Traffic} (fetch : PartFetch) (end : EndLog)
      → IsComing values message wide start now fetch end → handed_on fetch.id end.handed ≡ []
      → IsHearing hears values message wide start now old old fetch 0
  hears_first fetch end coming none = record {
    end = end;
    heard = [];
    coming = coming;
    goes = tt;
    has = none_heard;
    hands = none;
    turns = omega arith;
  }

  -- The next part comes;
  pub hears_next : {before now : Traffic} {new : H} {rounds : ℕ} (fetch next : PartFetch)
      (part : ResponsePart) → AnswersNext before now fetch next (Ok part)
      → next.id ≡ fetch.id
      → IsHearing hears values message wide start before old new fetch rounds
      → HasPart hears values message wide start now old new next rounds part
  unfolding ComesSo
  hears_next fetch next part answers same is =
      let (after, (coming, handed, turns)) = answers values message wide start is.end is.coming in
      let before : handed_on next.id is.end.handed ≡ each (handed_of next.id) is.heard ++ [] =
      subst (λ (i : ℕ). handed_on i is.end.handed ≡ each (handed_of i) is.heard ++ []) (sym same)
      is.hands in record {
        end = after;
        heard = is.heard;
        coming = coming;
        goes = is.goes;
        has = is.has;
        hands = handed
            ∙ ap (λ (all : List Handed). all ++ handed_of next.id part ∷ [])
            (before ∙ append-nil (each (handed_of next.id) is.heard))
            ∙ sym (map-append (handed_of next.id) is.heard (part ∷ []))
            ∙ sym (append-nil (each (handed_of next.id) (is.heard ++ part ∷ [])));
        turns = omega (arith, turns, is.turns);
      }

  -- or the fetch has ended early.
  pub hears_no_more : {before now : Traffic} {new : H} {rounds : ℕ} (fetch next : PartFetch)
      (error : LinkError) → AnswersNext before now fetch next (Err error) → next.id ≡ fetch.id
      → IsHearing hears values message wide start before old new fetch rounds
      → HearsAll hears values message wide start now old new (Err (faults.Link error))
  unfolding ComesSo
  hears_no_more fetch next error answers same is =
      let (after, (stopped, since)) = answers values message wide start is.end is.coming in
      let before : handed_on next.id is.end.handed ≡ each (handed_of next.id) is.heard ++ [] =
      subst (λ (i : ℕ). handed_on i is.end.handed ≡ each (handed_of i) is.heard ++ []) (sym same)
      is.hands in
      ends_early next after is.heard since.lost error stopped is.goes is.has
      (since.handed ∙ ap (λ (all : List Handed). all ++ since.lost)
      (before ∙ append-nil (each (handed_of next.id) is.heard)))
      since.all

  -- A part that is heard may be the last one;
  pub heard_whole : {now : Traffic} {new next : H} {rounds : ℕ} {fetch : PartFetch}
      {part : ResponsePart} → HasPart hears values message wide start now old new fetch rounds part
      → hears new part (Ok tt) next → ends_response part ≡ true
      → HearsAll hears values message wide start now old next (Ok tt)
  heard_whole {new = new} {next = next} {fetch = fetch} {part = part} is took ends =
      is_whole fetch is.end is.heard part is.coming is.goes
      (one_heard is.heard new next part is.has took) is.hands ends

  -- or be refused;
  pub heard_refused : {now : Traffic} {new next : H} {rounds : ℕ} {fetch : PartFetch}
      {part : ResponsePart} (fault : HandlerFault)
      → HasPart hears values message wide start now old new fetch rounds part
      → hears new part (Err fault) next
      → HearsAll hears values message wide start now old next (Err (faults.Handler fault))
  heard_refused {new = new} {fetch = fetch} {part = part} fault is refused =
      is_refused fetch is.end is.heard part new fault is.coming is.goes is.has refused is.hands

  -- or more come.
  pub heard_on : {now : Traffic} {new next : H} {rounds : ℕ} {fetch : PartFetch}
      {part : ResponsePart} → HasPart hears values message wide start now old new fetch rounds part
      → hears new part (Ok tt) next → ends_response part ≡ false
      → IsHearing hears values message wide start now old next fetch (rounds + 1)
  heard_on {new = new} {next = next} {part = part} is took goes = record {
    end = is.end;
    heard = is.heard ++ part ∷ [];
    coming = is.coming;
    goes = all_both (λ (one : ResponsePart). ends_response one ≡ false) is.heard (part ∷ []) is.goes
        (goes, tt);
    has = one_heard is.heard new next part is.has took;
    hands = is.hands;
    turns = is.turns;
  }

  -- After so many rounds none is made any more.
  pub hears_no_round : {now : Traffic} {new : H} {rounds : ℕ} {fetch : PartFetch}
      → 2 ^ 64 - 1 ≤ rounds → IsHearing hears values message wide start now old new fetch rounds
      → HearsAll hears values message wide start now old new (Err (faults.Link errors.NoProgress))
  hears_no_round {fetch = fetch} most is =
      ends_early fetch is.end is.heard [] errors.NoProgress (record {
        fetching = is.coming.fetching;
        represents = is.coming.represents;
        accepted = is.coming.accepted;
        linked = all_in_part is.coming.linked;
        so = inr (omega (arith, most, is.turns));
      }) is.goes is.has is.hands (λ other. refl)

  -- The message was not accepted.
  pub hears_none : (error : LinkError) → IsNotAccepted values message (Err error)
      → HearsAll hears values message wide start start old old (Err (faults.Link error))
  hears_none error refused = is_not_accepted error refused refl refl

-- A fetch that has begun over a link is received so,
pub receives_begun : {H : Type 0}
    {hears : H → ResponsePart → Result (Unit {0}) HandlerFault → H → Type 0}
    {ends : H → Result (Unit {0}) FetchError → H → Type 0} {values : Values}
    {message : SentMessage} {before now : Traffic} {old new : H}
    {result : Result (Unit {0}) FetchError} (fetch : PartFetch) → BeginsFetch values message fetch
    → ReceivesBy hears ends fetch before now old new result
    → FetchesBy hears ends values message 0 before now old new result
receives_begun {values = values} {message = message} {before = before} fetch begins receives =
    receives values message 0 before begins.end (begins.coming before) begins.none

-- or its message was not accepted.
pub not_begun : {H : Type 0}
    {hears : H → ResponsePart → Result (Unit {0}) HandlerFault → H → Type 0}
    {ends : H → Result (Unit {0}) FetchError → H → Type 0} {values : Values}
    {message : SentMessage} {before : Traffic} {old new : H} (error : LinkError)
    → IsNotAccepted values message (Err error) → ends old (Err (faults.Link error)) new
    → FetchesBy hears ends values message 0 before before old new (Err (faults.Link error))
not_begun {old = old} error refused over =
    record { mid = old; heard = hears_none error refused; over = over }

-- What an error of the fetch says of the link, it says as the end of the hearing.
pub cuts_heard : (error : LinkError) (ended : Bool)
    → CutsOffAtEnd {A = ResponsePart} (Err error) ended
    → CutsOffHeard (Err (faults.Link error)) ended
cuts_heard errors.CutOff ended is = is
cuts_heard error ended is = tt

pub fails_heard : (failures : ℕ) (error : LinkError)
    → failures_at_end {A = ResponsePart} failures (Err error)
    ≡ failures_heard failures (Err (faults.Link error))
fails_heard failures errors.Device = refl
fails_heard failures error = refl
