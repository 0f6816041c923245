-- What a handler has heard of a response that is fetched over a link.
-- contract: h2_receive::fetch_handler
use Rattle.std.specs.Prelude.{◌≡◌, ◌≢◌, ℕ, Bool, true, false, List, [], ◌∷◌, ◌++◌, map as each}
use Rattle.std.specs.Prelude.{Result, Ok, Err, ◌+◌}
use Rattle.std.specs.List.{AllByRecursion}
use Rattle.h2_spec_log.specs.Acts.{Values}
use Rattle.h2_message.specs.Messages.{SentMessage}
use Rattle.h2_ends.specs.Ends.{EndLog, Handed}
use Rattle.h2_link.specs.declared.error.LinkError.{LinkError}
use Rattle.h2_link.specs.declared.error.LinkError.TheVariants.{Device, Memory, CutOff}
use Rattle.h2_engines.specs.Fetches.{IsNotAccepted}
use Rattle.h2_engines.specs.Linked.{Traffic}
use Rattle.h2_fetch.specs.declared.fetch.PartFetch.{PartFetch}
use Rattle.h2_fetch.specs.declared.part.ResponsePart.{ResponsePart}
use Rattle.h2_fetch.specs.declared.part.ResponsePart.TheVariants as parts
use Rattle.h2_fetch.specs.Comings.{HasStopped, IsComing}
use Rattle.h2_fetch.specs.Parts.{handed_of, handed_on}
use Rattle.h2_server.specs.declared.handler.HandlerFault.{HandlerFault}
use Rattle.h2_receive.specs.declared.errors.FetchError.{FetchError}
use Rattle.h2_receive.specs.declared.errors.FetchError.TheVariants as faults

-- whether the response is whole with this part (RFC 9113, section 8.1)
abbrev pub ends_response : ResponsePart → Bool
ends_response (parts.Interim list) = false
ends_response (parts.Head list end) = end
ends_response (parts.Body octets end) = end
ends_response (parts.Trailers list) = true

-- A handler has heard these parts, one after another, the first one first, and taken each.
-- rule: engines (own) A handler hears a response part by part, as it comes
pub data HasHeard {H : Type 0}
    (hears : H → ResponsePart → Result (Unit {0}) HandlerFault → H → Type 0) (old : H)
    : List ResponsePart → (new : H) → Type 0 where
  none_heard : HasHeard hears old [] old
  one_heard : (before : List ResponsePart) (mid new : H) (part : ResponsePart)
      → HasHeard hears old before mid → hears mid part (Ok tt) new
      → HasHeard hears old (before ++ part ∷ []) new

-- The response isn't whole with any of these parts.
abbrev pub GoOn : List ResponsePart → Type 0
GoOn heard = AllByRecursion (λ part. ends_response part ≡ false) heard

-- These parts, and then these, are all that was handed out of the response.
abbrev pub HandsParts : PartFetch → EndLog → (heard : List ResponsePart) → (lost : List Handed)
    → Type 0
HandsParts fetch end heard lost =
    handed_on fetch.id end.handed ≡ each (handed_of fetch.id) heard ++ lost

-- How the hearing of a response has ended, with the handler so then: the response is whole with the
-- last part, and was heard; the handler has refused the last part; the fetch has ended early, and
-- all that was handed out was heard, but for memory; or its message was not accepted, and nothing
-- has happened.
-- rule: engines (own) A handler hears a response part by part, as it comes
pub data HearsAll {H : Type 0}
    (hears : H → ResponsePart → Result (Unit {0}) HandlerFault → H → Type 0) (values : Values)
    (message : SentMessage) (wide : ℕ) (start now : Traffic) (old new : H)
    : Result (Unit {0}) FetchError → Type 0 where
  is_whole : (fetch : PartFetch) (end : EndLog) (before : List ResponsePart) (part : ResponsePart)
      → IsComing values message wide start now fetch end → GoOn before
      → HasHeard hears old (before ++ part ∷ []) new
      → HandsParts fetch end (before ++ part ∷ []) [] → ends_response part ≡ true
      → HearsAll hears values message wide start now old new (Ok tt)
  is_refused : (fetch : PartFetch) (end : EndLog) (before : List ResponsePart)
      (part : ResponsePart) (mid : H) (fault : HandlerFault)
      → IsComing values message wide start now fetch end → GoOn before
      → HasHeard hears old before mid
      → hears mid part (Err fault) new → HandsParts fetch end (before ++ part ∷ []) []
      → HearsAll hears values message wide start now old new (Err (faults.Handler fault))
  ends_early : (fetch : PartFetch) (end : EndLog) (heard : List ResponsePart)
      (lost : List Handed) (error : LinkError)
      → HasStopped values message wide start now fetch end error → GoOn heard
      → HasHeard hears old heard new
      → HandsParts fetch end heard lost → (error ≢ Memory → lost ≡ [])
      → HearsAll hears values message wide start now old new (Err (faults.Link error))
  is_not_accepted : (error : LinkError) → IsNotAccepted values message (Err error)
      → now ≡ start → new ≡ old
      → HearsAll hears values message wide start now old new (Err (faults.Link error))

-- A response was heard so, and then the handler has learned how that has ended.
-- rule: engines (own) A handler hears a response part by part, as it comes
pub record FetchesBy {H : Type 0}
    (hears : H → ResponsePart → Result (Unit {0}) HandlerFault → H → Type 0)
    (ends : H → Result (Unit {0}) FetchError → H → Type 0) (values : Values)
    (message : SentMessage) (wide : ℕ) (start now : Traffic) (old new : H)
    (result : Result (Unit {0}) FetchError) : Type 0 where
  pub mid : H
  pub heard : HearsAll hears values message wide start now old mid result
  pub over : ends mid result new

-- The response to this fetch is heard, whatever has happened at it, if nothing was handed out of
-- the response before.
-- rule: engines (own) A handler hears a response part by part, as it comes
abbrev pub HearsFetch : {H : Type 0}
    (hears : H → ResponsePart → Result (Unit {0}) HandlerFault → H → Type 0) → PartFetch
    → (before now : Traffic) → (old new : H) → Result (Unit {0}) FetchError → Type 0
HearsFetch hears fetch before now old new result =
    (values : Values) (message : SentMessage) (wide : ℕ) (start : Traffic) (end : EndLog)
    → IsComing values message wide start before fetch end → handed_on fetch.id end.handed ≡ []
    → HearsAll hears values message wide start now old new result

-- So it is, and then the handler has learned how that has ended.
-- rule: engines (own) A handler hears a response part by part, as it comes
abbrev pub ReceivesBy : {H : Type 0}
    (hears : H → ResponsePart → Result (Unit {0}) HandlerFault → H → Type 0)
    (ends : H → Result (Unit {0}) FetchError → H → Type 0) → PartFetch → (before now : Traffic)
    → (old new : H) → Result (Unit {0}) FetchError → Type 0
ReceivesBy hears ends fetch before now old new result =
    (values : Values) (message : SentMessage) (wide : ℕ) (start : Traffic) (end : EndLog)
    → IsComing values message wide start before fetch end → handed_on fetch.id end.handed ≡ []
    → FetchesBy hears ends values message wide start now old new result

-- N4 is answered only where the link has met the end of its input.
-- rule: engines (own) N4 comes only where the input ended early
abbrev pub CutsOffHeard : Result (Unit {0}) FetchError → (ended : Bool) → Type 0
CutsOffHeard (Err (faults.Link CutOff)) ended = ended ≡ true
CutsOffHeard result ended = Unit {0}

-- N1 is answered exactly where the link has failed, once, in the call.
-- rule: engines (own) N1 comes exactly where a call of the link has failed
abbrev pub failures_heard : ℕ → Result (Unit {0}) FetchError → ℕ
failures_heard failures (Err (faults.Link Device)) = failures + 1
failures_heard failures result = failures
