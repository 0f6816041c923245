-- What the rounds make of octets that were read, at a client that makes several requests.
use Rattle.h2_engines.proofs.Names
use Names.{◌≡◌, ◌≢◌, ◌≤◌, ℕ, ◌+◌, ◌-◌, ◌^◌, List, [], ◌++◌, drop, Some, None, Ok, Err, refl, sym}
use Names.{ap, ◌∙◌, subst, arith, append-nil, Values, EndLog, EndTook, EndAnswer}
use Names.{EndFailed, EndMayTake, LinkError, Traffic, append_assoc}
use Rattle.h2_engines.specs.Fetches.{WasDropped}
use Rattle.h2_engines.specs.ServerSteps.{ErrsServing}
use Rattle.h2_engines.proofs.ResponderEnds.{given_within}
use Rattle.h2_engines.proofs.ServeLinkTakes.{links_first, takes_first}
use Rattle.h2_engines.proofs.TakeMessages.{kept_failed, taken_says}
use Rattle.h2_fetch.specs.Kept.{KeepsAll, KeepsAlso}
use Rattle.h2_fetch.specs.Several.{OnStream, all_on, as_on, AnsweredOn, AreComing, AskedOn, CameSo}
use Rattle.h2_fetch.specs.Several.{kept_on, several_unused, answered_next, takes}
use Rattle.h2_fetch.specs.SeveralComings.{TakesNoneMore, TakesUntilCame, TookCame, fails}
use Rattle.h2_fetch.specs.SeveralComings.{lacks_memory, out_of_rounds}
use Rattle.h2_fetch.specs.SeveralTakes.{TakesCameOnce, TakesCameSo, without_empty}
use Rattle.h2_fetch.specs.declared.coming.CameNext.TheVariants as nexts
use Rattle.h2_fetch.specs.declared.coming.CameTaken.{CameTaken}
use Rattle.h2_fetch.specs.declared.connection.Came.{Came}
use Rattle.h2_fetch.specs.declared.connection.ClientConnection.{ClientConnection}
use Rattle.h2_fetch.proofs.KeptParts.{none_more}
use Rattle.h2_fetch.proofs.SeveralComings.{AreGoing, are_going, came_answered, came_dropped}
use Rattle.h2_fetch.proofs.SeveralComings.{came_kept, came_lost, taken_came}
use Rattle.h2_fetch.proofs.SeveralComings.{took_none}
use Rattle.h2_fetch.proofs.SeveralTaking.{SaysSome, IsNothing}
use Rattle.h2_link.specs.declared.error.LinkError.TheVariants as errors

-- In a call of `take_next` nothing goes over the link.
abbrev pub TakesCame : (old new : ClientConnection) → ℕ → (rounds : ℕ) → Type 0
TakesCame old new id rounds =
    (values : Values) (wide : ℕ) (start now : Traffic) (asked : List AskedOn) (end : EndLog)
    (answered : AnsweredOn) → AreComing values wide start now asked old end answered
    → kept_on id old.kept.entries ≡ []
    → AreGoing values wide start now asked new id end answered rounds

-- At first nothing was taken.
pub came_first : (fetch : ClientConnection) (id : ℕ) → TakesCame fetch fetch id 0
came_first fetch id values wide start now asked end answered is none = are_going id is none

-- In each round octets are taken once.
module _ (old middle new : ClientConnection) (id rounds : ℕ) (on : TakesCame old middle id rounds)
    (taken : CameTaken) (left : several_unused new ≡ drop taken.used (several_unused middle))
    (part : TakesCameOnce middle.client.end new.client.end (several_unused middle) (Ok taken))
  where
    -- Nothing has come: it goes on,
    pub next_nothing : IsNothing (without_empty taken.next) → new.kept ≡ middle.kept
        → TakesCame old new id (rounds + 1)
    next_nothing nothing kept values wide start now asked end answered is none =
        let go = on values wide start now asked end answered is none in
        let took = taken_came new go.coming taken left part in
        record {
          after = took.after;
          coming = took_none new go.coming took nothing kept;
          none = rw kept go.none;
          turns = omega (arith, go.turns, took.turns);
        }

    -- or all octets were used;
    pub next_done : without_empty taken.next ≡ nexts.Done → new.kept ≡ middle.kept
        → TakesUntilCame old new id (Ok None)
    unfolding TookCame
    next_done done kept values wide start now asked end answered is none =
        let go = on values wide start now asked end answered is none in
        let took = taken_came new go.coming taken left part in (
          took.after,
          took_none new go.coming took (rw done tt) kept,
          rw kept go.none,
          took.done done,
          omega (arith, go.turns, took.turns),
        )

    -- something has come on the stream,
    pub next_came : (stream : ℕ) (came : Came)
        → without_empty taken.next ≡ nexts.On stream came
        → SaysSome stream came → stream ≡ id → new.kept ≡ middle.kept
        → TakesUntilCame old new id (Ok (Some came))
    unfolding TookCame CameSo
    next_came stream came next final same kept values wide start now asked end answered is none =
        let go = on values wide start now asked end answered is none in
        let took = taken_came new go.coming taken left part in
        let first : kept_on stream middle.kept.entries ≡ [] = rw same go.none in (
          took.after,
          subst (λ (i : ℕ). AreComing values wide start now asked new took.after
              (answered_next answered i came)) same
              (came_answered new go.coming took stream came next final first kept),
          λ code dropped. subst (λ (i : ℕ). WasDropped took.after i code) same
              (came_dropped new go.coming took stream came next final code dropped),
        )

    module _ (stream : ℕ) (came : Came) (next : without_empty taken.next ≡ nexts.On stream came)
        (final : SaysSome stream came) (other : stream ≢ id) where
      -- or on another: that is kept,
      pub next_kept : KeepsAlso stream came middle.kept.entries new.kept.entries
          → TakesCame old new id (rounds + 1)
      next_kept also values wide start now asked end answered is none =
          let go = on values wide start now asked end answered is none in
          let took = taken_came new go.coming taken left part in
          record {
            after = took.after;
            coming = came_kept new go.coming took stream came next final also;
            none = none_more id stream came middle.kept.entries new.kept.entries other also go.none;
            turns = omega (arith, go.turns, took.turns);
          }

      -- or there is no memory for it;
      pub next_lost : KeepsAll middle.kept.entries new.kept.entries
          → TakesUntilCame old new id (Err errors.Memory)
      unfolding TookCame
      next_lost all values wide start now asked end answered is none =
          let go = on values wide start now asked end answered is none in
          let took = taken_came new go.coming taken left part in
          (took.after, came_lost new go.coming took stream came next final all)

-- or the client can take no more: the connection has failed, or memory was refused for what was
-- handed out, which is lost.
abbrev pub lost_of : EndAnswer → ℕ → List OnStream
lost_of (EndTook count (Some one)) i = as_on i one
lost_of answer i = []

pub why_none : (end after : EndLog) {piece : List ℕ} (answer : EndAnswer) (error : LinkError)
    → EndMayTake end piece answer after → ErrsServing answer error
    → TakesNoneMore after (lost_of answer) error
unfolding ErrsServing
why_none end after (EndFailed code) error may errs = fails code (kept_failed may) errs (λ id. refl)
why_none end after (EndTook count None) error may errs =
    lacks_memory (takes_first may).says.1 errs
why_none end after (EndTook count (Some one)) error may errs =
    lacks_memory (takes_first may).says.1 errs

pub lost_last : (end after : EndLog) {piece : List ℕ} (answer : EndAnswer)
    → EndMayTake end piece answer after → (i : ℕ)
    → all_on i after.handed ≡ all_on i end.handed ++ lost_of answer i
unfolding all_on
lost_last end after (EndFailed code) may i =
    ap (all_on i) (taken_says may).handed ∙ sym (append-nil (all_on i end.handed))
lost_last end after (EndTook count None) may i =
    ap (all_on i) (taken_says may).handed ∙ sym (append-nil (all_on i end.handed))
lost_last end after (EndTook count (Some one)) may i = ap (all_on i) (taken_says may).handed

pub next_failed : (old middle new : ClientConnection) (id rounds : ℕ) (error : LinkError)
    → TakesCame old middle id rounds → new.kept ≡ middle.kept
    → TakesCameOnce middle.client.end new.client.end (several_unused middle) (Err error)
    → TakesUntilCame old new id (Err error)
unfolding TookCame TakesCameSo
next_failed old middle new id rounds error on kept part values wide start now asked end answered
    is none =
    let go = on values wide start now asked end answered is none in
    let (after, represents, so) = part values go.after go.coming.represents in
    let may = so.1 in
    let first = takes_first may in (
      after,
      record {
        fetching = takes go.coming.fetching _ _ may;
        represents = represents;
        unused = first.uses.unused;
        linked = links_first (given_within go.coming.represents) go.coming.linked first.uses;
        lost = lost_of so.0;
        parts = λ i. lost_last go.after after so.0 may i
            ∙ ap (λ (all : List OnStream). all ++ lost_of so.0 i) (go.coming.parts i)
            ∙ rw kept (append_assoc (answered i) (kept_on i middle.kept.entries) (lost_of so.0 i));
        why = why_none go.after after so.0 error may so.2;
      },
    )

-- There were as many rounds as may be.
pub next_out : (old new : ClientConnection) (id rounds : ℕ) → 2 ^ 64 - 1 ≤ rounds
    → TakesCame old new id rounds → TakesUntilCame old new id (Err errors.NoProgress)
unfolding TookCame
next_out old new id rounds all on values wide start now asked end answered is none =
    let go = on values wide start now asked end answered is none in (
      go.after,
      record {
        fetching = go.coming.fetching;
        represents = go.coming.represents;
        unused = several_unused new;
        linked = go.coming.linked;
        lost = λ i. [];
        parts = λ i. go.coming.parts i
            ∙ ap (λ (kept : List OnStream). answered i ++ kept)
            (sym (append-nil (kept_on i new.kept.entries)));
        why = out_of_rounds go.coming.up refl (omega (arith, all, go.turns)) (λ i. refl);
      },
    )
