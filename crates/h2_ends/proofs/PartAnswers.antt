-- What `send_body` and `send_trailers` may answer, by what is kept of the message.
use Rattle.h2_ends.proofs.Names
use Names.{◌≡◌, ℕ, ◌==◌, ◌&&◌, Bool, true, false, List, length, take, refl, sym, ◌∙◌}
use Names.{Some, None, Field, Refusal, SendData, SendFields, Count, Done, Refused, MayAnswer}
use Names.{with_call, active, EndLog, end_with_log, end_with_more, with_octets, with_trailers}
use Names.{Malformed}
use Rattle.std.specs.Prelude.{Ok, Err}
use Rattle.h2_ends.specs.EndCalls.{MaySendBody, MaySendTrailers}
use Rattle.h2_ends.specs.Heads.{RestOn}
use Rattle.h2_ends.specs.Represents.{IsInParts}
use Rattle.h2_ends.specs.declared.refusal.EndRefusal.{EndRefusal}
use Rattle.h2_ends.specs.declared.refusal.EndRefusal.TheVariants as refusals
use Rattle.h2_message.specs.Lengths.{breaks_length, broken_by_trailers}
use Rattle.h2_message.specs.declared.malformed.Malformed.TheVariants.{BadLength}
use Rattle.h2_message.specs.declared.parts.BodyLength.{BodyLength}
use Rattle.h2_ends.proofs.PartLengths.{breaks_alike, trailers_alike}
use Rattle.h2_ends.proofs.PartSends.{open_by}

module _ (end : EndLog) (id : ℕ) (octets : List ℕ) (ends : Bool) where
  -- E3.
  pub body_not_open : (refusal : EndRefusal) → RestOn end id (Err refusal)
      → MaySendBody end id octets ends (Err refusal) end
  unfolding MaySendBody
  body_not_open refusals.NotAsked is = (is, refl)
  body_not_open refusals.Answered is = absurd is
  body_not_open (refusals.BadMessage rule) is = absurd is
  body_not_open (refusals.Conn refusal) is = absurd is

  module _ (rest : BodyLength) where
    -- M11.
    pub body_breaks : (rule : Malformed) → (begun : IsInParts end id rest)
        → active end.log id ≡ true
        → (rule ≡ BadLength) × (breaks_length rest.left (length octets) ends ≡ true)
        → MaySendBody end id octets ends (Err (refusals.BadMessage rule)) end
    unfolding MaySendBody
    body_breaks rule begun alive (is, breaks) = (
      begun.said,
      begun.number,
      open_by end id rest begun alive,
      sym (breaks_alike begun.number (length begun.said.message.body) (length octets) rest ends
          begun.left) ∙ breaks,
      is,
      refl,
    )

    -- What the connection refuses.
    pub body_refused : (refusal : Refusal) → (begun : IsInParts end id rest)
        → active end.log id ≡ true → breaks_length rest.left (length octets) ends ≡ false
        → MayAnswer end.log (SendData id octets ends) (Refused refusal)
        → MaySendBody end id octets ends (Err (refusals.Conn refusal))
        (end_with_log end (with_call end.log (SendData id octets ends) (Refused refusal)))
    unfolding MaySendBody
    body_refused refusal begun alive unbroken may = (
      begun.said,
      begun.number,
      open_by end id rest begun alive,
      sym (breaks_alike begun.number (length begun.said.message.body) (length octets) rest ends
          begun.left) ∙ unbroken,
      may,
      refl,
    )

    -- Octets were sent, with the end or without.
    pub body_sent : (count : ℕ) (last : Bool) → (begun : IsInParts end id rest)
        → active end.log id ≡ true → breaks_length rest.left (length octets) ends ≡ false
        → MayAnswer end.log (SendData id octets ends) (Count count)
        → (ends && count == length octets) ≡ last
        → MaySendBody end id octets ends (Ok count)
        (end_with_more end (SendData id octets ends) (Count count) id
        (with_octets begun.said (take count octets) last))
    unfolding MaySendBody
    body_sent count last begun alive unbroken may is = (
      begun.said,
      begun.number,
      open_by end id rest begun alive,
      sym (breaks_alike begun.number (length begun.said.message.body) (length octets) rest ends
          begun.left) ∙ unbroken,
      may,
      rw is refl,
    )

module _ (end : EndLog) (id : ℕ) (list : List Field) where
  -- E3.
  pub trailers_not_open : (refusal : EndRefusal) → RestOn end id (Err refusal)
      → MaySendTrailers end id list (Err refusal) end
  unfolding MaySendTrailers
  trailers_not_open refusals.NotAsked is = (is, refl)
  trailers_not_open refusals.Answered is = absurd is
  trailers_not_open (refusals.BadMessage rule) is = absurd is
  trailers_not_open (refusals.Conn refusal) is = absurd is

  module _ (rest : BodyLength) where
    -- The rule that they break.
    pub trailers_break : (rule : Malformed) → (begun : IsInParts end id rest)
        → active end.log id ≡ true → broken_by_trailers rest.left 0 list ≡ Some rule
        → MaySendTrailers end id list (Err (refusals.BadMessage rule)) end
    unfolding MaySendTrailers
    trailers_break rule begun alive broken = (
      begun.said,
      begun.number,
      open_by end id rest begun alive,
      sym (trailers_alike begun.number (length begun.said.message.body) rest list begun.left)
          ∙ broken,
      refl,
    )

    -- What the connection refuses.
    pub trailers_refused : (refusal : Refusal) → (begun : IsInParts end id rest)
        → active end.log id ≡ true → broken_by_trailers rest.left 0 list ≡ None
        → MayAnswer end.log (SendFields id list true) (Refused refusal)
        → MaySendTrailers end id list (Err (refusals.Conn refusal))
        (end_with_log end (with_call end.log (SendFields id list true) (Refused refusal)))
    unfolding MaySendTrailers
    trailers_refused refusal begun alive unbroken may = (
      begun.said,
      begun.number,
      open_by end id rest begun alive,
      sym (trailers_alike begun.number (length begun.said.message.body) rest list begun.left)
          ∙ unbroken,
      may,
      refl,
    )

    -- They were sent.
    pub trailers_sent : (begun : IsInParts end id rest)
        → active end.log id ≡ true → broken_by_trailers rest.left 0 list ≡ None
        → MayAnswer end.log (SendFields id list true) Done
        → MaySendTrailers end id list (Ok tt)
        (end_with_more end (SendFields id list true) Done id (with_trailers begun.said list))
    unfolding MaySendTrailers
    trailers_sent begun alive unbroken may = (
      begun.said,
      begun.number,
      open_by end id rest begun alive,
      sym (trailers_alike begun.number (length begun.said.message.body) rest list begun.left)
          ∙ unbroken,
      may,
      refl,
    )
