-- What is answered next of a stream: the first that is kept of it, or what comes.
use Rattle.h2_engines.proofs.Names
use Names.{◌≡◌, ℕ, Result, Ok, Some, None, refl, sym, ◌∙◌, subst, Contains, IsLinked}
use Names.{LinkError, Traffic}
use Rattle.h2_fetch.specs.Kept.{TakesKept}
use Rattle.h2_fetch.specs.Several.{AnswersNextOn, CameSo, DropOn, came_as, kept_on, several_unused}
use Rattle.h2_fetch.specs.SeveralComings.{WaitsFor}
use Rattle.h2_fetch.specs.declared.connection.Came.{Came}
use Rattle.h2_fetch.specs.declared.connection.ClientConnection.{ClientConnection}
use Rattle.h2_fetch.proofs.KeptParts.{first_was_kept, parts_taken, was_kept}
use Rattle.h2_fetch.proofs.SeveralWaits.{coming_still}

module _ (now : Traffic) (old new : ClientConnection) (id : ℕ) (client : new.client ≡ old.client)
    (unused : several_unused new ≡ several_unused old) where
  -- The first that is kept of a stream is answered.
  pub answers_kept : (came : Came) → TakesKept id old.kept.entries new.kept.entries (Some came)
      → AnswersNextOn now now old new id (Ok came)
  unfolding CameSo
  answers_kept came takes values wide start asked end answered is =
      let was = old.kept.entries in
      let left = new.kept.entries in (
        end,
        record {
          fetching = is.fetching;
          represents = rw client is.represents;
          accepted = is.accepted;
          up = is.up;
          linked = subst (IsLinked start now _) (sym unused) is.linked;
          parts = λ i. parts_taken answered id came was left i takes (is.parts i);
          dropped = λ i code one. is.dropped i code
              (was_kept i id came was left takes (DropOn code) one);
        },
        λ code same. is.dropped id code
            (subst (λ (one : Came). Contains (kept_on id was) (came_as id one)) same
            (first_was_kept id came was left takes)),
      )

  -- Where none is, what comes is.
  pub answers_later : (later : Traffic) (after : ClientConnection) (result : Result Came LinkError)
      → TakesKept id old.kept.entries new.kept.entries None → WaitsFor now later new after id result
      → AnswersNextOn now later old after id result
  unfolding TakesKept
  answers_later later after result takes waits values wide start asked end answered is =
      waits values wide start asked end answered
      (coming_still new end takes.1 refl refl is.fetching (rw client is.represents) is.up
      (subst (IsLinked start now _) (sym unused) is.linked) is) (takes.1 id ∙ takes.0)
