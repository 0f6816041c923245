-- How a response that comes with others over a connection is printed as it comes.
use Rattle.std.proofs.Common.{◌≡◌, ℕ, Bool, true, false, List, [], ◌++◌, if◌then◌else◌}
use Rattle.std.proofs.Common.{Option, None, Ok, Err, refl, sym, Vec, Global, append-nil, is_some}
use Rattle.std.proofs.KnownBytes.{Appends-nil, Appends-trans}
use Rattle.std.specs.Io.KnownBytes.{Appends}
use Rattle.hpack.specs.declared.types.field.Field.{Field}
use Rattle.h2_link.specs.declared.error.LinkError.{LinkError}
use Rattle.h2_link.specs.declared.error.LinkError.TheVariants as errors
use Rattle.h2_engines.specs.Failures.{failures_by}
use Rattle.h2_engines.specs.Linked.{Traffic}
use Rattle.h2_engines.specs.declared.fetcher.Fetched.{Fetched}
use Rattle.h2_fetch.specs.declared.connection.ClientConnection.{ClientConnection}
use Rattle.h2_args.specs.Words.{GetWords}
use Rattle.h2_get.specs.declared.pass_error.PassError.TheVariants as passes
use Rattle.h2_get.specs.declared.pass_error.ResponseHead.{ResponseHead}
use Rattle.h2_get.specs.declared.pass_error.StreamError.TheVariants as streams
use Rattle.h2_get.specs.Receives.{body_handed, fields_in_trailers}
use Rattle.h2_get.specs.Responses.{fails_as_asked, trailers_shown}
use Rattle.h2_get.specs.Several.{HeadComesOn, HeadOnSo, PassedOnSo, PassesBodyOn, StreamsOn}
use Rattle.h2_get.specs.Several.{answered_more, ends_all, opening_of, parts_came}
use Rattle.h2_get.specs.Streams.{PrintsHead, shows_head, shows_nothing}
use Rattle.h2_get.proofs.SeveralParts.{coming_joined, coming_same, none_answered, parts_joined}
use Rattle.h2_get.proofs.SeveralParts.{stops_same}

-- The link has not failed where more responses are printed.
pub failed_never : (failures : ℕ) (error : LinkError)
    → ends_all (Err (streams.Link error)) ≡ false → failures_by failures error ≡ failures
failed_never failures errors.Device goes = absurd (cc)
failed_never failures error goes = refl

-- What a response begins with could not be printed.
pub unopened : (words : GetWords) (is_first : Bool) (now : Traffic) (fetch : ClientConnection)
    (id : ℕ)
    (written written_now : Option (List ℕ))
    → StreamsOn words is_first now now fetch fetch id written written_now (Err streams.Output)
unopened words is_first now fetch id written written_now values wide start asked end answered is =
    ([], tt, (end, coming_same (answered_more answered id []) (none_answered answered id) is))

-- Of a response that is whole with its head nothing follows that.
none_follows : (names_file include : Bool) (written : Option (List ℕ))
    → Appends written written
    ((if names_file then [] else body_handed []) ++ (if include then [] else []))
unfolding body_handed
none_follows true true written = Appends-nil written
none_follows true false written = Appends-nil written
none_follows false true written = Appends-nil written
none_follows false false written = Appends-nil written

module _ (words : GetWords) (is_first : Bool) (before middle : Traffic)
    (old self : ClientConnection)
    (id : ℕ) (written opened : Option (List ℕ))
    (opens : Appends written opened (opening_of is_first)) where
  -- The response has ended early before its head came.
  pub printed_nothing : (error : LinkError) → HeadComesOn before middle old self id (Err error)
      → StreamsOn words is_first before middle old self id written opened
      (Err (streams.Link error))
  unfolding HeadOnSo
  printed_nothing error comes values wide start asked end answered is =
      let so = comes values wide start asked end answered is in
      (so.0, (opened, opens, shows_nothing so.0 so.1.1 (Appends-nil opened)), so.1.0)

  module _ (head : ResponseHead) (comes : HeadComesOn before middle old self id (Ok head)) where
    -- The head could not be printed.
    pub head_unprinted : (written_now : Option (List ℕ))
        → StreamsOn words is_first before middle old self id written written_now
        (Err streams.Output)
    unfolding HeadOnSo
    head_unprinted written_now values wide start asked end answered is =
        let so = comes values wide start asked end answered is in (so.0, tt, so.1.0)

    module _ (fetched : Fetched) (is : fetched.head ≡ head.list) (printed : Option (List ℕ))
        (prints : PrintsHead words opened printed fetched.head.items) where
      -- The words make the response a failure: only its head was printed.
      pub head_alone : fails_as_asked words fetched ≡ true
          → StreamsOn words is_first before middle old self id written printed (Ok fetched)
      unfolding HeadOnSo
      head_alone fails values wide start asked end answered coming =
          let so = comes values wide start asked end answered coming in (
            so.0,
            (
              opened,
              opens,
              rw fails
                  (record { end = head.end; head = rw is so.1.1; first = prints }),
            ),
            so.1.0,
          )

      -- The response is whole with its head.
      pub whole_with_head : fails_as_asked words fetched ≡ false → head.end ≡ true
          → StreamsOn words is_first before middle old self id written printed (Ok fetched)
      unfolding HeadOnSo
      whole_with_head good ends values wide start asked end answered coming =
          let so = comes values wide start asked end answered coming in (
            so.0,
            (
              opened,
              opens,
              rw good (record {
                came = so.0;
                rest = [];
                end = head.end;
                trailers = None;
                all = sym (append-nil so.0);
                head = rw is so.1.1;
                whole = rw ends (refl, refl);
                printed = printed;
                first = prints;
                last = none_follows (is_some words.output) words.include printed;
              }),
            ),
            so.1.0,
          )

      module _ (now : Traffic) (new : ClientConnection)
          (no_file : words.output ≡ None) (written_now : Option (List ℕ)) where
        -- All of it was printed.
        pub printed_whole : (last : Option (List ℕ)) (trailers : Option (Vec Field Global))
            → fails_as_asked words fetched ≡ false → head.end ≡ false
            → PassesBodyOn middle now self new id printed written_now (Ok trailers)
            → Appends written_now last (trailers_shown words.include (fields_in_trailers trailers))
            → StreamsOn words is_first before now old new id written last (Ok fetched)
        unfolding HeadOnSo PassedOnSo
        printed_whole last trailers good goes passes trailing values wide start asked end answered
            coming =
            let so = comes values wide start asked end answered coming in
            let next = passes values wide start asked so.1.0.0
            (answered_more answered id (parts_came so.0)) so.1.0.1 in (
              so.0 ++ next.0,
              (
                opened,
                opens,
                rw good (record {
                  came = so.0;
                  rest = next.0;
                  end = head.end;
                  trailers = trailers;
                  all = refl;
                  head = rw is so.1.1;
                  whole = rw goes next.1.1;
                  printed = printed;
                  first = prints;
                  last = rw no_file
                      (Appends-trans printed written_now last _ _ next.1.2 trailing);
                }),
              ),
              (next.1.0.0, coming_joined answered id so.0 next.0 next.1.0.1),
            )

        -- The response has ended early: what came before was printed.
        pub printed_first : (error : LinkError)
            → PassesBodyOn middle now self new id printed written_now (Err (passes.Link error))
            → StreamsOn words is_first before now old new id written written_now
            (Err (streams.Link error))
        unfolding HeadOnSo PassedOnSo
        printed_first error passes values wide start asked end answered coming =
            let so = comes values wide start asked end answered coming in
            let next = passes values wide start asked so.1.0.0
            (answered_more answered id (parts_came so.0)) so.1.0.1 in (
              so.0 ++ next.0,
              (
                opened,
                opens,
                shows_head so.0 next.0 head printed so.1.1 (rw (sym is) prints)
                    (rw no_file next.1.1),
              ),
              stops_same (answered_more answered id (parts_came (so.0 ++ next.0)))
                  (parts_joined answered id so.0 next.0) next.1.0,
            )

        -- Its trailers could not be printed,
        pub trailers_unprinted : (last : Option (List ℕ)) (trailers : Option (Vec Field Global))
            → PassesBodyOn middle now self new id printed written_now (Ok trailers)
            → StreamsOn words is_first before now old new id written last (Err streams.Output)
        unfolding HeadOnSo PassedOnSo
        trailers_unprinted last trailers passes values wide start asked end answered coming =
            let so = comes values wide start asked end answered coming in
            let next = passes values wide start asked so.1.0.0
            (answered_more answered id (parts_came so.0)) so.1.0.1 in (
              so.0 ++ next.0,
              tt,
              (next.1.0.0, coming_joined answered id so.0 next.0 next.1.0.1),
            )

        -- or not all of its body.
        pub body_unprinted : PassesBodyOn middle now self new id printed written_now
            (Err passes.Output)
            → StreamsOn words is_first before now old new id written written_now
            (Err streams.Output)
        unfolding HeadOnSo PassedOnSo
        body_unprinted passes values wide start asked end answered coming =
            let so = comes values wide start asked end answered coming in
            let next = passes values wide start asked so.1.0.0
            (answered_more answered id (parts_came so.0)) so.1.0.1 in (
              so.0 ++ next.0,
              tt,
              (next.1.0.0, coming_joined answered id so.0 next.0 next.1.0.1),
            )
