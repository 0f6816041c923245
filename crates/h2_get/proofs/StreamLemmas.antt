-- How a response is printed as it comes.
use Rattle.std.proofs.Common.{◌≡◌, ◌∙◌, ℕ, Bool, true, false, List, [], ◌++◌}
use Rattle.std.proofs.Common.{if◌then◌else◌, is_some, Option, None, Ok}
use Rattle.std.proofs.Common.{Err}
use Rattle.std.proofs.Common.{Vec, Global, refl, sym, ap, subst, append-nil, append_assoc}
use Rattle.std.specs.Io.KnownBytes.{Appends}
use Rattle.std.proofs.KnownBytes.{Appends-nil, Appends-trans}
use Rattle.hpack.specs.declared.types.field.Field.{Field}
use Rattle.h2_message.specs.Fields.{status_of}
use Rattle.h2_ends.specs.Ends.{EndLog, Handed}
use Rattle.h2_link.specs.declared.error.LinkError.{LinkError}
use Rattle.h2_engines.specs.Linked.{Traffic}
use Rattle.h2_engines.specs.declared.fetcher.Fetched.{Fetched}
use Rattle.h2_fetch.specs.declared.fetch.PartFetch.{PartFetch}
use Rattle.h2_fetch.specs.Parts.{handed_on}
use Rattle.h2_net.specs.Printing.{status_line}
use Rattle.h2_args.specs.Words.{GetWords}
use Rattle.h2_get.specs.declared.pass_error.PassError.TheVariants as passes
use Rattle.h2_get.specs.declared.pass_error.ResponseHead.{ResponseHead}
use Rattle.h2_get.specs.declared.pass_error.StreamError.{StreamError}
use Rattle.h2_get.specs.declared.pass_error.StreamError.TheVariants as streams
use Rattle.h2_get.specs.Receives.{HeadComes, HeadComesSo, PassedSo, PassesBody, body_handed}
use Rattle.h2_get.specs.Receives.{fields_in_trailers}
use Rattle.h2_get.specs.Responses.{PrintsAsked, body_printed, fails_as_asked, fields_printed}
use Rattle.h2_get.specs.Responses.{trailers_shown}
use Rattle.h2_get.specs.Streams.{PrintsHead, ShownSo, ShowsRest}
use Rattle.h2_get.specs.Streams.{StreamedSo, StreamsResponse}
use Rattle.h2_get.specs.Streams.{shows_head, shows_nothing}

-- Of no octets none are shown.
shown_none : (names_file : Bool) (written : Option (List ℕ))
    → Appends written written (if names_file then [] else body_handed [])
unfolding body_handed
shown_none true written = Appends-nil written
shown_none false written = Appends-nil written

-- A response that is whole with its head has no rest.
pub rest_is_none : (names_file : Bool) (at : Traffic) (fetch : PartFetch)
    (written : Option (List ℕ)) → ShowsRest names_file true at at fetch fetch written written
    (Ok None)
unfolding ShownSo
rest_is_none names_file at fetch written values message wide start first is = (
  first,
  [],
  (
    is,
    sym (append-nil (handed_on fetch.id first.handed)),
    (refl, refl),
    shown_none names_file written,
  ),
)

-- The file can't be made.
pub file_not_made : (was_whole : Bool) (at : Traffic) (fetch : PartFetch)
    (written : Option (List ℕ))
    → ShowsRest true was_whole at at fetch fetch written written (Err streams.File)
unfolding ShownSo
file_not_made was_whole at fetch written values message wide start first is = (first, [], is)

module _ (before now : Traffic) (old new : PartFetch) (written written_now : Option (List ℕ)) where
  -- The body was printed,
  pub rest_printed_whole : (trailers : Option (Vec Field Global))
      → PassesBody before now old new written written_now (Ok trailers)
      → ShowsRest false false before now old new written written_now (Ok trailers)
  unfolding PassedSo ShownSo
  rest_printed_whole trailers passes values message wide start first is =
      passes values message wide start first is

  -- or what of it came before the fetch has ended early,
  pub rest_printed_first : (error : LinkError)
      → PassesBody before now old new written written_now (Err (passes.Link error))
      → ShowsRest false false before now old new written written_now (Err (streams.Link error))
  unfolding PassedSo ShownSo
  rest_printed_first error passes values message wide start first is =
      passes values message wide start first is

  -- or not all of it could be printed.
  pub rest_unprinted : PassesBody before now old new written written_now (Err passes.Output)
      → ShowsRest false false before now old new written written_now (Err streams.Output)
  unfolding PassedSo ShownSo
  rest_unprinted passes values message wide start first is =
      let so = passes values message wide start first is in (so.0, so.1, so.2.0)

  -- The body was written into a file,
  pub rest_filed : (trailers : Option (Vec Field Global)) (shown : Option (List ℕ))
      → PassesBody before now old new written written_now (Ok trailers)
      → ShowsRest true false before now old new shown shown (Ok trailers)
  unfolding PassedSo ShownSo
  rest_filed trailers shown passes values message wide start first is =
      let so = passes values message wide start first is in
      (so.0, so.1, (so.2.0, so.2.1, so.2.2, Appends-nil shown))

  -- or what of it came before the fetch has ended early,
  pub rest_filed_first : (error : LinkError) (shown : Option (List ℕ))
      → PassesBody before now old new written written_now (Err (passes.Link error))
      → ShowsRest true false before now old new shown shown (Err (streams.Link error))
  unfolding PassedSo ShownSo
  rest_filed_first error shown passes values message wide start first is =
      let so = passes values message wide start first is in
      (so.0, so.1, (so.2.0, so.2.1, Appends-nil shown))

  -- or not all of it could be written.
  pub rest_unfiled : (shown : Option (List ℕ))
      → PassesBody before now old new written written_now (Err passes.Output)
      → ShowsRest true false before now old new shown shown (Err streams.File)
  unfolding PassedSo ShownSo
  rest_unfiled shown passes values message wide start first is =
      let so = passes values message wide start first is in (so.0, so.1, so.2.0)

-- Of a response without a body and trailers nothing follows the fields.
body_none : (include : Bool) (fetched : Fetched) → fetched.body.items ≡ [] → fetched.trailers ≡ None
    → body_printed include fetched ≡ []
body_none true fetched empty none = rw (empty, none) refl
body_none false fetched empty none = rw empty refl

rest_none : (fails include : Bool) (fetched : Fetched) → fetched.body.items ≡ []
    → fetched.trailers ≡ None → (if fails then [] else body_printed include fetched) ≡ []
rest_none true include fetched empty none = refl
rest_none false include fetched empty none = body_none include fetched empty none

-- What is printed of such a one is its head.
pub head_printed_alone : (words : GetWords) (before after : Option (List ℕ)) (fetched : Fetched)
    → fetched.body.items ≡ [] → fetched.trailers ≡ None → PrintsAsked words before after fetched
    → PrintsHead words before after fetched.head.items
head_printed_alone words before after fetched empty none prints = (
  prints.0,
  prints.1,
  subst (Appends before after)
      (ap (λ (rest : List ℕ). status_line (status_of fetched.head.items) prints.0
      ++ (fields_printed words.include fetched ++ rest))
      (rest_none (fails_as_asked words fetched) words.include fetched empty none)
      ∙ ap (λ (fields : List ℕ). status_line (status_of fetched.head.items) prints.0 ++ fields)
      (append-nil (fields_printed words.include fetched))) prints.2,
)

-- The fetch has ended early before the head came.
pub streams_nothing : (words : GetWords) (before now : Traffic) (old new : PartFetch)
    (written : Option (List ℕ)) (error : LinkError) → new.id ≡ old.id
    → HeadComes before now old new (Err error)
    → StreamsResponse words before now old new written written (Err (streams.Link error))
unfolding HeadComesSo StreamedSo
streams_nothing words before now old new written error stream answers values message wide start
    first is none =
    let so = answers values message wide start first is in
    let since = so.2.1 in
    let was : handed_on new.id first.handed ≡ [] = rw stream none in
    let handed : handed_on old.id so.0.handed ≡ so.1 ++ since.lost =
    rw (sym stream) (since.handed
    ∙ ap (λ (handed : List Handed). handed ++ (so.1 ++ since.lost)) was) in (
      so.0,
      (
        so.2.0,
        (
          so.1,
          since.lost,
          handed,
          since.all,
          shows_nothing so.1 so.2.2 (Appends-nil written),
        ),
      ),
    )

module _ (words : GetWords) (before middle : Traffic) (old self : PartFetch) (head : ResponseHead)
    (stream : self.id ≡ old.id) (answers : HeadComes before middle old self (Ok head)) where
  -- What is printed could not be.
  pub streams_unprinted : (written written_now : Option (List ℕ))
      → StreamsResponse words before middle old self written written_now (Err streams.Output)
  unfolding HeadComesSo StreamedSo
  streams_unprinted written written_now values message wide start first is none =
      let so = answers values message wide start first is in (so.0, so.2.0)

  -- what has come with the head
  came_first : (first after : EndLog) (came : List Handed) → handed_on old.id first.handed ≡ []
      → handed_on self.id after.handed ≡ handed_on self.id first.handed ++ came
      → handed_on old.id after.handed ≡ came
  came_first first after came none handed =
      let was : handed_on self.id first.handed ≡ [] = rw stream none in
      rw (sym stream) (handed ∙ ap (λ (before : List Handed). before ++ came) was)

  module _ (fetched : Fetched) (is : fetched.head ≡ head.list) (written printed : Option (List ℕ))
      (prints : PrintsHead words written printed fetched.head.items) where
    -- The words make the response a failure: only its head was printed.
    pub streams_failure : fails_as_asked words fetched ≡ true
        → StreamsResponse words before middle old self written printed (Ok fetched)
    unfolding HeadComesSo StreamedSo
    streams_failure fails values message wide start first coming none =
        let so = answers values message wide start first coming in
        let came : handed_on old.id so.0.handed ≡ so.1 = came_first first so.0 so.1 none so.2.1 in (
          so.0,
          (
            so.2.0,
            rw fails
                (record {
                  end = head.end;
                  head = rw (came, is, sym stream) so.2.2;
                  first =
                      prints;
                }),
          ),
        )

    module _ (now : Traffic) (new : PartFetch) (same : new.id ≡ self.id)
        (written_now : Option (List ℕ)) where
      -- All of it was printed.
      pub streams_whole : (last : Option (List ℕ)) (trailers : Option (Vec Field Global))
          → fails_as_asked words fetched ≡ false
          → ShowsRest (is_some words.output) head.end middle now self new printed written_now
          (Ok trailers)
          → Appends written_now last (trailers_shown words.include (fields_in_trailers trailers))
          → StreamsResponse words before now old new written last (Ok fetched)
      unfolding HeadComesSo StreamedSo ShownSo
      streams_whole last trailers good rest trailing values message wide start first coming none =
          let so = answers values message wide start first coming in
          let next = rest values message wide start so.0 so.2.0 in
          let came : handed_on old.id so.0.handed ≡ so.1 =
          came_first first so.0 so.1 none so.2.1 in
          let was : handed_on new.id so.0.handed ≡ so.1 = rw (same, stream) came in
          let all : handed_on old.id next.0.handed ≡ so.1 ++ next.1 =
          rw (sym stream, sym same) (next.2.1
          ∙ ap (λ (handed : List Handed). handed ++ next.1) was) in (
            next.0,
            (
              next.2.0,
              rw good (record {
                came = so.1;
                rest = next.1;
                end = head.end;
                trailers = trailers;
                all = all;
                head = rw (is, sym stream) so.2.2;
                whole = rw (sym stream, sym same) next.2.2;
                printed = printed;
                first = prints;
                last = Appends-trans printed written_now last _ _ next.2.3 trailing;
              }),
            ),
          )

      -- The fetch has ended early: what came before was printed.
      streams_first : (error : LinkError)
          → ShowsRest (is_some words.output) head.end middle now self new printed written_now
          (Err (streams.Link error))
          → StreamsResponse words before now old new written written_now (Err (streams.Link error))
      unfolding HeadComesSo StreamedSo ShownSo
      streams_first error rest values message wide start first coming none =
          let so = answers values message wide start first coming in
          let next = rest values message wide start so.0 so.2.0 in
          let since = next.2.1 in
          let came : handed_on old.id so.0.handed ≡ so.1 =
          came_first first so.0 so.1 none so.2.1 in
          let was : handed_on new.id so.0.handed ≡ so.1 = rw (same, stream) came in
          let all : handed_on old.id next.0.handed ≡ (so.1 ++ next.1) ++ since.lost =
          rw (sym stream, sym same) (since.handed
          ∙ ap (λ (handed : List Handed). handed ++ (next.1 ++ since.lost)) was
          ∙ sym (append_assoc so.1 next.1 since.lost)) in (
            next.0,
            (
              next.2.0,
              (
                so.1 ++ next.1,
                since.lost,
                all,
                since.all,
                shows_head so.1 next.1 head printed (rw (sym stream) so.2.2) (rw (sym is) prints)
                    next.2.2,
              ),
            ),
          )

      -- What is printed, or the file, could not be written.
      pub streams_unwritten : (last : Option (List ℕ)) (trailers : Option (Vec Field Global))
          → ShowsRest (is_some words.output) head.end middle now self new printed written_now
          (Ok trailers)
          → StreamsResponse words before now old new written last (Err streams.Output)
      unfolding HeadComesSo StreamedSo ShownSo
      streams_unwritten last trailers rest values message wide start first coming none =
          let so = answers values message wide start first coming in
          let next = rest values message wide start so.0 so.2.0 in (next.0, next.2.0)

      streams_unshown : ShowsRest (is_some words.output) head.end middle now self new printed
          written_now (Err streams.Output)
          → StreamsResponse words before now old new written written_now (Err streams.Output)
      unfolding HeadComesSo StreamedSo ShownSo
      streams_unshown rest values message wide start first coming none =
          let so = answers values message wide start first coming in
          let next = rest values message wide start so.0 so.2.0 in (next.0, next.2)

      streams_unfiled : ShowsRest (is_some words.output) head.end middle now self new printed
          written_now (Err streams.File)
          → StreamsResponse words before now old new written written_now (Err streams.File)
      unfolding HeadComesSo StreamedSo ShownSo
      streams_unfiled rest values message wide start first coming none =
          let so = answers values message wide start first coming in
          let next = rest values message wide start so.0 so.2.0 in (next.0, next.2)

      -- However the rest has ended early.
      pub streams_ended : (error : StreamError)
          → ShowsRest (is_some words.output) head.end middle now self new printed written_now
          (Err error)
          → StreamsResponse words before now old new written written_now (Err error)
      streams_ended (streams.Link error) rest = streams_first error rest
      streams_ended streams.Output rest = streams_unshown rest
      streams_ended streams.File rest = streams_unfiled rest
