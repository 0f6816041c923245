-- How a response is kept until it is whole.
use Rattle.std.proofs.Common.{◌≡◌, ◌∙◌, ℕ, true, false, List, [], ◌++◌, Option, Some, None, Ok, Err}
use Rattle.std.proofs.Common.{Vec, Global, inl, inr, refl, sym, ap, append-nil}
use Rattle.hpack.specs.declared.types.field.Field.{Field}
use Rattle.h2_ends.specs.Ends.{EndLog, Handed}
use Rattle.h2_link.specs.declared.error.LinkError.{LinkError}
use Rattle.h2_link.specs.declared.error.LinkError.TheVariants as errors
use Rattle.h2_engines.specs.Linked.{Traffic}
use Rattle.h2_engines.specs.declared.fetcher.Fetched.{Fetched}
use Rattle.h2_fetch.specs.declared.fetch.PartFetch.{PartFetch}
use Rattle.h2_fetch.specs.Parts.{handed_on}
use Rattle.h2_get.specs.declared.pass_error.PassError.TheVariants as passes
use Rattle.h2_get.specs.declared.pass_error.ResponseHead.{ResponseHead}
use Rattle.h2_get.specs.Gathers.{GatheredRest, GatheredSo, Gathers, GathersRest}
use Rattle.h2_get.specs.Receives.{HeadComes, HeadComesSo, PassedSo, PassesBody, body_handed}

-- A response that is whole with its head has no rest.
pub no_rest : (at : Traffic) (fetch : PartFetch) (body : List ℕ)
    → GathersRest true at at fetch fetch body body (Ok None)
unfolding GatheredRest body_handed
no_rest at fetch body values message wide start first is = (
  first,
  [],
  (
    is,
    sym (append-nil (handed_on fetch.id first.handed)),
    (refl, refl),
    sym (append-nil body),
  ),
)

module _ (before now : Traffic) (old new : PartFetch) (body body_now : List ℕ) where
  -- The body has come,
  pub rest_gathered : (trailers : Option (Vec Field Global))
      → PassesBody before now old new (Some body) (Some body_now) (Ok trailers)
      → GathersRest false before now old new body body_now (Ok trailers)
  unfolding PassedSo GatheredRest
  rest_gathered trailers passes values message wide start first is =
      passes values message wide start first is

  -- or the fetch has ended early,
  pub rest_cut : (error : LinkError)
      → PassesBody before now old new (Some body) (Some body_now) (Err (passes.Link error))
      → GathersRest false before now old new body body_now (Err error)
  unfolding PassedSo GatheredRest
  rest_cut error passes values message wide start first is =
      let so = passes values message wide start first is in (so.0, so.1, inl so.2.0)

  -- or there was no memory for it.
  pub rest_lost : PassesBody before now old new (Some body) (Some body_now) (Err passes.Output)
      → GathersRest false before now old new body body_now (Err errors.Memory)
  unfolding PassedSo GatheredRest
  rest_lost passes values message wide start first is =
      let so = passes values message wide start first is in (so.0, so.1, inr (refl, so.2.0))

-- No head came.
pub gathers_nothing : (before now : Traffic) (old new : PartFetch) (error : LinkError)
    → HeadComes before now old new (Err error) → Gathers before now old new (Err error)
unfolding HeadComesSo GatheredSo
gathers_nothing before now old new error answers values message wide start first is none =
    let so = answers values message wide start first is in (so.0, inl so.2.0)

module _ (before middle now : Traffic) (old self new : PartFetch) (head : ResponseHead)
    (stream : self.id ≡ old.id) (same : new.id ≡ self.id)
    (answers : HeadComes before middle old self (Ok head)) (body : List ℕ) where
  -- The rest was not gathered.
  pub gathers_no_rest : (error : LinkError)
      → GathersRest head.end middle now self new [] body (Err error)
      → Gathers before now old new (Err error)
  unfolding HeadComesSo GatheredSo GatheredRest
  gathers_no_rest error rest values message wide start first coming none =
      let so = answers values message wide start first coming in
      let next = rest values message wide start so.0 so.2.0 in (next.0, next.2)

  -- All of it was gathered.
  pub gathers_whole : (trailers : Option (Vec Field Global)) (fetched : Fetched)
      → fetched.head ≡ head.list → fetched.body.items ≡ body → fetched.trailers ≡ trailers
      → fetched.interims.items ≡ [] → GathersRest head.end middle now self new [] body (Ok trailers)
      → Gathers before now old new (Ok fetched)
  unfolding HeadComesSo GatheredSo GatheredRest
  gathers_whole trailers fetched is octets last none_kept rest values message wide start first
      coming none =
      let so = answers values message wide start first coming in
      let next = rest values message wide start so.0 so.2.0 in
      let was : handed_on self.id first.handed ≡ [] = rw stream none in
      let came : handed_on self.id so.0.handed ≡ so.1 =
      so.2.1 ∙ ap (λ (first : List Handed). first ++ so.1) was in
      let all : handed_on new.id next.0.handed ≡ so.1 ++ next.1 =
      next.2.1 ∙ ap (λ (first : List Handed). first ++ next.1) (rw same came) in (
        next.0,
        (
          next.2.0,
          record {
            came = so.1;
            rest = next.1;
            end = head.end;
            all = all;
            head = rw (is, same) so.2.2;
            whole = rw last next.2.2;
            body = octets ∙ next.2.3;
            none = none_kept;
          },
        ),
      )
