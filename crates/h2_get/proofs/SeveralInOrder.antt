-- How several responses are printed one after another.
use Rattle.std.proofs.Common.{◌≡◌, ◌<◌, ℕ, ◌+◌, ◌==◌, true, false, List, [], ◌∷◌, ◌++◌, length}
use Rattle.std.proofs.Common.{take, drop, get_or, Option, Result, Ok, Err, refl, sym, ◌∙◌}
use Rattle.std.proofs.Common.{subst, append-nil, Vec, Global}
use Rattle.std.proofs.lemmas.List.{take-append-drop, take_more}
use Rattle.std.specs.Prelude.{IfOk}
use Rattle.h2_laws_pair.proofs.Lists.{all_both}
use Rattle.h2_spec_log.specs.Acts.{Values}
use Rattle.h2_ends.specs.Ends.{EndLog, Handed}
use Rattle.h2_link.specs.declared.error.LinkError.TheVariants as errors
use Rattle.h2_engines.specs.Linked.{Traffic}
use Rattle.h2_engines.specs.declared.fetcher.Fetched.{Fetched}
use Rattle.h2_fetch.specs.declared.connection.ClientConnection.{ClientConnection}
use Rattle.h2_fetch.specs.Several.{AnsweredOn, AreComing, AskedOn, DropOn}
use Rattle.h2_args.specs.Words.{GetWords}
use Rattle.h2_get.specs.declared.pass_error.StreamError.{StreamError}
use Rattle.h2_get.specs.declared.pass_error.StreamError.TheVariants as streams
use Rattle.h2_get.specs.Several.{AllGoOn, GoesOnWith, PrintsParts, PrintsSeveral, StandsAfter}
use Rattle.h2_get.specs.Several.{SeveralOver, StandsAtEnd, StreamsOn, StreamsSeveral, all_printed}
use Rattle.h2_get.specs.Several.{all_stop, answered_for, answered_more, ends_all, last_ends}
use Rattle.h2_get.specs.Several.{one_is_dropped, opening_of, parts_came, prints_none, prints_one}
use Rattle.h2_get.proofs.SeveralParts.{coming_same, joined}

-- These responses were printed, and the client fetches still.
abbrev pub PrintsFirst : GetWords → (before now : Traffic) → (old new : ClientConnection)
    → (written written_now : Option (List ℕ)) → (ids : List ℕ)
    → List (Result Fetched StreamError) → Type 0
PrintsFirst words before now old new written written_now ids results =
    (values : Values) (wide : ℕ) (start : Traffic) (asked : List AskedOn) (end : EndLog)
    → AreComing values wide start before asked old end (λ id. [])
    → (answered : AnsweredOn) × PrintsSeveral words written ids written_now answered results
    × GoesOnWith values wide start now asked new answered

-- At first none was.
pub prints_first : (words : GetWords) (now : Traffic) (fetch : ClientConnection)
    (written : Option (List ℕ)) → PrintsFirst words now now fetch fetch written written [] []
prints_first words now fetch written values wide start asked end is =
    ((λ id. []), prints_none, (end, is))

-- All of them were.
pub prints_all : (words : GetWords) (before now : Traffic) (old new : ClientConnection)
    (written written_now : Option (List ℕ)) (all ids : List ℕ)
    (results : List (Result Fetched StreamError)) → all ≡ ids → AllGoOn results
    → PrintsFirst words before now old new written written_now ids results
    → StreamsSeveral words all before now old new written written_now results
prints_all words before now old new written written_now all ids results same good first values wide
    start asked end streams is =
    let so = first values wide start asked end is in (
      ids,
      [],
      so.0,
      streams ∙ same ∙ sym (append-nil ids),
      so.1,
      all_printed results good refl so.2,
    )

-- What went over a link went over some link.
pub over_some_link : {E : Type 0} (words : GetWords) (ids : List ℕ) (before now : Traffic)
    (old new : ClientConnection) (written written_now : Option (List ℕ))
    (result : Result (Vec (Result Fetched StreamError) Global) E)
    → IfOk result (λ results. StreamsSeveral words ids before now old new written written_now
    results.items)
    → IfOk result (λ results. SeveralOver words ids old new written written_now results.items)
over_some_link words ids before now old new written written_now (Ok results) so = (before, now, so)
over_some_link words ids before now old new written written_now (Err error) so = tt

-- After a response that doesn't end all the client fetches still.
goes_after : {values : Values} {wide : ℕ} {start now : Traffic} {asked : List AskedOn}
    {fetch : ClientConnection} (answered : AnsweredOn) (id : ℕ) (came : List Handed)
    (result : Result Fetched StreamError)
    → ends_all result ≡ false
    → StandsAfter values wide start now asked fetch id
    (answered_more answered id (parts_came came)) result
    → GoesOnWith values wide start now asked fetch
    (answered_more answered id (answered_for came result))
goes_after answered id came (Ok fetched) goes stands = stands
goes_after answered id came (Err (streams.Link (errors.Reset code))) goes
    (all_stop after stopped) = absurd stopped.so
goes_after answered id came (Err (streams.Link (errors.Reset code))) goes
    (one_is_dropped after other is coming dropped) =
    let same : other ≡ code = cc in (
      after,
      coming_same (answered_more answered id (parts_came came ++ DropOn code ∷ []))
          (joined answered id (parts_came came) (DropOn code ∷ [])) (rw same at coming),
    )
goes_after answered id came (Err (streams.Link error)) goes stands = absurd (cc)
goes_after answered id came (Err error) goes stands = absurd (cc)

-- After one that does, it stands so.
ends_after : (values : Values) (wide : ℕ) (start now : Traffic) (asked : List AskedOn)
    (fetch : ClientConnection) (answered : AnsweredOn) (id : ℕ) (came : List Handed)
    (result : Result Fetched StreamError)
    → ends_all result ≡ true
    → StandsAfter values wide start now asked fetch id
    (answered_more answered id (parts_came came)) result
    → StandsAtEnd values wide start now asked fetch
    (answered_more answered id (answered_for came result)) result
ends_after values wide start now asked fetch answered id came (Ok fetched) ends stands = absurd (cc)
ends_after values wide start now asked fetch answered id came
    (Err (streams.Link (errors.Reset code))) ends stands = absurd (cc)
ends_after values wide start now asked fetch answered id came (Err (streams.Link error)) ends
    (all_stop after stopped) = (after, stopped)
ends_after values wide start now asked fetch answered id came (Err (streams.Link error)) ends
    (one_is_dropped after code is coming dropped) = absurd (cc)
ends_after values wide start now asked fetch answered id came (Err error) ends stands = stands

module _ (words : GetWords) (before middle now : Traffic) (old self new : ClientConnection)
    (written printed written_now : Option (List ℕ)) (ids : List ℕ) (place : ℕ)
    (results : List (Result Fetched StreamError))
    (first : PrintsFirst words before middle old self written printed (take place ids) results)
    (good : AllGoOn results) (count : length results ≡ place) (within : place < length ids)
    (result : Result Fetched StreamError)
    (streams_on : StreamsOn words (place == 0) middle now self new (get_or ids place 0) printed
    written_now result) where
  -- The next was printed, or has ended early.
  prints_next : (values : Values) (wide : ℕ) (start : Traffic) (asked : List AskedOn) (end : EndLog)
      → AreComing values wide start before asked old end (λ id. [])
      → (answered : AnsweredOn) × (came : List Handed)
      × PrintsSeveral words written (take (place + 1) ids) written_now
      (answered_more answered (get_or ids place 0) (answered_for came result))
      (results ++ result ∷ [])
      × StandsAfter values wide start now asked new (get_or ids place 0)
      (answered_more answered (get_or ids place 0) (parts_came came)) result
  prints_next values wide start asked end is =
      let id = get_or ids place 0 in
      let so = first values wide start asked end is in
      let next = streams_on values wide start asked so.2.0 so.0 so.2.1 in
      let after = answered_more so.0 id (answered_for next.0 result) in
      let prints : PrintsParts words (opening_of (length results == 0)) id next.0 printed
      written_now result =
      subst (λ (n : ℕ). PrintsParts words (opening_of (n == 0)) id next.0 printed written_now
      result) (sym count) next.1 in
      let more : take place ids ++ id ∷ [] ≡ take (place + 1) ids =
      sym (take_more ids place 0 within) in (
        so.0,
        next.0,
        subst (λ (xs : List ℕ). PrintsSeveral words written xs written_now after
            (results ++ result ∷ [])) more
            (prints_one (take place ids) id results result printed written_now so.0
            next.0 so.1 good prints),
        next.2,
      )

  -- It goes on,
  pub prints_more : ends_all result ≡ false
      → PrintsFirst words before now old new written written_now (take (place + 1) ids)
      (results ++ result ∷ [])
  prints_more goes values wide start asked end is =
      let id = get_or ids place 0 in
      let so = prints_next values wide start asked end is in (
        answered_more so.0 id (answered_for so.1 result),
        so.2,
        goes_after so.0 id so.1 result goes so.3,
      )

  pub more_go : ends_all result ≡ false → AllGoOn (results ++ result ∷ [])
  more_go goes = all_both (λ one. ends_all one ≡ false) results (result ∷ []) good (goes, tt)

  -- or no more are printed.
  pub prints_last : ends_all result ≡ true
      → StreamsSeveral words ids before now old new written written_now (results ++ result ∷ [])
  prints_last ends values wide start asked end streams is =
      let id = get_or ids place 0 in
      let so = prints_next values wide start asked end is in (
        take (place + 1) ids,
        drop (place + 1) ids,
        answered_more so.0 id (answered_for so.1 result),
        streams ∙ sym (take-append-drop (place + 1) ids),
        so.2,
        last_ends results result ends (ends_after values wide start now asked new so.0 id so.1
            result ends so.3),
      )
