-- How the takes of a client that makes several requests follow one another.
use Rattle.h2_engines.proofs.Names
use Names.{◌≡◌, ◌≤◌, ◌<◌, ℕ, ◌+◌, List, [], ◌∷◌, ◌++◌, length, drop, Option, None, Ok}
use Names.{refl, sym, ap, ◌∙◌, subst, inl, inr, arith, drop_all, Contains}
use Names.{Values, EndLog, EndRepresents, EndTook, Handed, IsLinked, Traffic}
use Names.{first_in}
use Rattle.h2_engines.specs.Fetches.{WasDropped}
use Rattle.h2_engines.proofs.ResponderEnds.{given_within}
use Rattle.h2_engines.proofs.ServeLinkTakes.{took_links, takes_first}
use Rattle.h2_engines.proofs.TakeMessages.{handed_after, taken_says}
use Rattle.h2_engines.proofs.TurnsPassed.{turns_of_take}
use Rattle.h2_fetch.specs.Kept.{KeepsAll, KeepsAlso}
use Rattle.h2_fetch.specs.Several.{all_on, AnsweredOn, AreComing, AreDropped, AskedOn}
use Rattle.h2_fetch.specs.Several.{answered_next, IsFetchingSeveral, kept_on, several_unused}
use Rattle.h2_fetch.specs.Several.{takes}
use Rattle.h2_fetch.specs.SeveralComings.{HaveTakenLast, lacks_memory}
use Rattle.h2_fetch.specs.SeveralTakes.{IsAsCame, TakesCameOnce, TakesCameSo, without_empty}
use Rattle.h2_fetch.specs.declared.coming.CameNext.TheVariants as nexts
use Rattle.h2_fetch.specs.declared.coming.CameTaken.{CameTaken}
use Rattle.h2_fetch.specs.declared.connection.Came.{Came}
use Rattle.h2_fetch.specs.declared.connection.Came.TheVariants.{Dropped}
use Rattle.h2_fetch.specs.declared.connection.ClientConnection.{ClientConnection}
use Rattle.h2_fetch.proofs.KeptParts.{Queues, came_on, dropped_cases, parts_answered}
use Rattle.h2_fetch.proofs.KeptParts.{parts_kept, parts_lost}
use Rattle.h2_fetch.proofs.SeveralTaking.{AddsCame, SaysSome, IsNothing, adds_came, dropped_as}
use Rattle.h2_fetch.proofs.SeveralTaking.{handed_came, nothing_came, still_done}
use Rattle.h2_fetch.proofs.SeveralTaking.{something_came, stay_dropped, stays_handed}
use Rattle.h2_link.specs.declared.error.LinkError.TheVariants as errors

-- Whatever had happened at first, the client fetches still, keeps nothing of the stream, and each
-- round was a turn at least.
pub record AreGoing (values : Values) (wide : ℕ) (start now : Traffic) (asked : List AskedOn)
    (fetch : ClientConnection) (id : ℕ) (before : EndLog) (answered : AnsweredOn)
    (rounds : ℕ) : Type 0
  where
    pub after : EndLog
    pub coming : AreComing values wide start now asked fetch after answered
    pub none : kept_on id fetch.kept.entries ≡ []
    pub turns : rounds + length before.log.turns ≤ length after.log.turns

pub are_going : {values : Values} {wide : ℕ} {start now : Traffic} {asked : List AskedOn}
    {fetch : ClientConnection} (id : ℕ) {end : EndLog} {answered : AnsweredOn}
    → AreComing values wide start now asked fetch end answered → kept_on id fetch.kept.entries ≡ []
    → AreGoing values wide start now asked fetch id end answered 0
are_going id {end} is none =
    record { after = end; coming = is; none = none; turns = omega arith }

-- The client has taken octets of those that it keeps, and this was handed out.
pub record HasTakenCame (values : Values) (wide : ℕ) (start now : Traffic) (asked : List AskedOn)
    (fetch : ClientConnection) (before : EndLog) (taken : CameTaken) : Type 0 where
  pub after : EndLog
  pub fetching : IsFetchingSeveral values wide asked after
  pub represents : EndRepresents values fetch.client.end after
  pub accepted : after.accepted ≡ before.accepted
  pub up : after.log.failed ≡ None
  pub linked : IsLinked start now after.log (several_unused fetch)
  pub turns : length before.log.turns < length after.log.turns
  pub handed : Option Handed
  pub hands : AddsCame handed (without_empty taken.next)
  pub same : after.handed ≡ handed_after (EndTook taken.used handed) before.handed
  pub done : without_empty taken.next ≡ nexts.Done → several_unused fetch ≡ []

module _ {values : Values} {wide : ℕ} {start now : Traffic} {asked : List AskedOn}
    {old : ClientConnection} (new : ClientConnection) {end : EndLog} {answered : AnsweredOn}
    (is : AreComing values wide start now asked old end answered) where
  pub taken_came : (taken : CameTaken)
      → several_unused new ≡ drop taken.used (several_unused old)
      → TakesCameOnce old.client.end new.client.end (several_unused old) (Ok taken)
      → HasTakenCame values wide start now asked new end taken
  unfolding TakesCameSo
  taken_came taken left part =
      let (after, represents, so) = part values end is.represents in
      let may = so.1 in
      let says = taken_says may in
      let first = takes_first may in
      record {
        after = after;
        fetching = takes is.fetching _ _ may;
        represents = represents;
        accepted = says.accepted;
        up = first.says.1;
        linked = subst (IsLinked start now after.log) (sym left)
            (took_links (given_within is.represents) is.linked first.uses first.says.0);
        turns = turns_of_take may;
        handed = so.0;
        hands = adds_came so.0 taken.next so.2;
        same = says.handed;
        done = λ is_done. left ∙ drop_all taken.used (several_unused old)
            (omega (arith, so.3 (still_done taken.next is_done)));
      }

module _ {values : Values} {wide : ℕ} {start now : Traffic} {asked : List AskedOn}
    {old : ClientConnection} (new : ClientConnection) {end : EndLog} {answered : AnsweredOn}
    {taken : CameTaken} (is : AreComing values wide start now asked old end answered)
    (took : HasTakenCame values wide start now asked new end taken) where
  -- What was handed out still is.
  handed_still : (one : Handed) → Contains end.handed one → Contains took.after.handed one
  handed_still = stays_handed (EndTook taken.used took.handed) end.handed took.same

  -- Nothing has come: it goes on.
  pub took_none : IsNothing (without_empty taken.next) → new.kept ≡ old.kept
      → AreComing values wide start now asked new took.after answered
  took_none nothing kept =
      record {
        fetching = took.fetching;
        represents = took.represents;
        accepted = λ id message one. rw took.accepted (is.accepted id message one);
        up = took.up;
        linked = took.linked;
        parts = λ id. nothing_came (without_empty taken.next) taken.used took.handed end.handed
            nothing took.hands took.same id ∙ rw kept (is.parts id);
        dropped = stay_dropped end took.after old.kept.entries new.kept.entries (λ i. rw kept refl)
            handed_still is.dropped;
      }

  module _ (stream : ℕ) (came : Came) (next : without_empty taken.next ≡ nexts.On stream came)
      (final : SaysSome stream came) where
    -- Something has come, which was handed out last.
    last_came : (one : Handed) × IsAsCame stream came one
        × (took.after.handed ≡ one ∷ end.handed)
    last_came = something_came stream came taken.used took.handed end.handed next took.hands
        took.same

    more_came : (i : ℕ)
        → all_on i took.after.handed ≡ all_on i end.handed ++ came_on stream came i
    more_came i =
        let (one, is_as, same) = last_came in
        ap (all_on i) same ∙ handed_came i stream came one end.handed final is_as

    pub came_dropped : (code : ℕ) → came ≡ Dropped code → WasDropped took.after stream code
    came_dropped code dropped =
        let (one, is_as, same) = last_came in
        dropped_as took.after stream code one
        (subst (λ (what : Came). IsAsCame stream what one) dropped is_as)
        (subst (λ (handed : List Handed). Contains handed one) (sym same)
        (first_in one end.handed))

    still_dropped : (kept : Queues) → KeepsAll old.kept.entries kept → AreDropped took.after kept
    still_dropped kept same =
        stay_dropped end took.after old.kept.entries kept same handed_still is.dropped

    -- It is answered, where nothing is kept of the stream,
    pub came_answered : kept_on stream old.kept.entries ≡ [] → new.kept ≡ old.kept
        → AreComing values wide start now asked new took.after (answered_next answered stream came)
    came_answered none kept =
        record {
          fetching = took.fetching;
          represents = took.represents;
          accepted = λ id message one. rw took.accepted (is.accepted id message one);
          up = took.up;
          linked = took.linked;
          parts = λ id. rw kept (parts_answered answered stream came old.kept.entries id none
              (is.parts id) (more_came id));
          dropped = still_dropped new.kept.entries (λ i. rw kept refl);
        }

    -- or kept,
    more_dropped : KeepsAlso stream came old.kept.entries new.kept.entries
        → AreDropped took.after new.kept.entries
    more_dropped also id code one =
        elim (dropped_cases id stream came old.kept.entries new.kept.entries also code one) [
          | inl was ↦ still_dropped old.kept.entries (λ i. refl) id code was
          | inr last ↦
              subst (λ (i : ℕ). WasDropped took.after i code) last.0 (came_dropped code last.1)
        ]

    pub came_kept : KeepsAlso stream came old.kept.entries new.kept.entries
        → AreComing values wide start now asked new took.after answered
    came_kept also =
        record {
          fetching = took.fetching;
          represents = took.represents;
          accepted = λ id message one. rw took.accepted (is.accepted id message one);
          up = took.up;
          linked = took.linked;
          parts = λ id. parts_kept answered stream came old.kept.entries new.kept.entries id also
              (is.parts id) (more_came id);
          dropped = more_dropped also;
        }

    -- or lost, where there is no memory for that.
    pub came_lost : KeepsAll old.kept.entries new.kept.entries
        → HaveTakenLast values wide start now asked new took.after answered errors.Memory
    came_lost all =
        record {
          fetching = took.fetching;
          represents = took.represents;
          unused = several_unused new;
          linked = took.linked;
          lost = came_on stream came;
          parts = λ id. parts_lost answered stream came old.kept.entries new.kept.entries id all
              (is.parts id) (more_came id);
          why = lacks_memory took.up refl;
        }
