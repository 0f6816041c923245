-- A client goes on where the response on a stream was given up, or that was refused.
use Rattle.h2_engines.proofs.Names
use Names.{◌≡◌, ◌≢◌, ◌<◌, ◌^◌, ℕ, List, [], ◌++◌, None, Result, Ok, Err, refl, sym}
use Names.{ap, ◌∙◌, inl, inr, Done, EndAnswers, IsTypedAct, Refusal, Values, EndLog}
use Names.{Traffic, arith, subst, IsLinked}
use Rattle.std.proofs.Common.{append-nil}
use Rattle.std.proofs.lemmas.Bool.{cases_eq, eq-eqb, ne_eqb}
use Rattle.h2_conn.specs.Conn.{answer_by}
use Rattle.h2_numbers.specs.Entries.{SetsValue}
use Rattle.h2_engines.proofs.LinkInvariants.{IsQuiet}
use Rattle.h2_engines.proofs.ResponderEnds.{given_within}
use Rattle.h2_engines.proofs.ServeLinkLogs.{call_goes, goes_links}
use Rattle.h2_laws_pair.proofs.Lists.{none_in}
use Rattle.h2_fetch.specs.GivingUp.{GivesUpOn, answered_all, cancels}
use Rattle.h2_fetch.specs.GivingUp.{end_cancelled, unless_over}
use Rattle.h2_fetch.specs.Several.{AnsweredOn, AreComing, AreDropped, AskedOn, OnStream, all_on}
use Rattle.h2_fetch.specs.Several.{kept_on, resets, DropOn, several_unused}
use Rattle.h2_frame.specs.declared.code.Code.TheVariants.{Cancel}
use Rattle.h2_frame.specs.Codes.{code_number}
use Rattle.h2_fetch.specs.declared.connection.ClientConnection.{ClientConnection}
use Rattle.h2_fetch.proofs.KeptParts.{Queues}
use Rattle.h2_fetch.proofs.KeptQueues.{set_elsewhere, set_there}

-- The call is quiet, whether it is refused or not.
quiet_answer : (id : ℕ) (reset : Result (Unit {0}) Refusal)
    → IsQuiet (cancels id) (answer_by (λ done. Done) reset)
quiet_answer id (Ok done) = tt
quiet_answer id (Err refusal) = tt

typed_reset : (id : ℕ) → id < 2 ^ 32 → IsTypedAct (cancels id)
unfolding IsTypedAct
typed_reset id few = (few, omega arith)

-- What was kept of one stream counts as answered once it is removed, and the others keep theirs.
module _ (id : ℕ) (old new : Queues) (removed : SetsValue id None old new) where
  kept_here : kept_on id new ≡ []
  kept_here = set_there id old new None removed

  answered_here : (answered : AnsweredOn) → answered_all answered id old id ++ kept_on id new
      ≡ answered id ++ kept_on id old
  answered_here answered =
      rw (eq-eqb id id refl, kept_here) (append-nil (answered id ++ kept_on id old))

  answered_there : (answered : AnsweredOn) (i : ℕ) → i ≢ id
      → answered_all answered id old i ++ kept_on i new ≡ answered i ++ kept_on i old
  answered_there answered i other =
      rw (ne_eqb id i (λ same. other (sym same)), set_elsewhere id old new None removed i other)
      (ap (λ (first : List OnStream). first ++ kept_on i old) (append-nil (answered i)))

  parts_left : (end : EndLog) (answered : AnsweredOn)
      → ((i : ℕ) → all_on i end.handed ≡ answered i ++ kept_on i old) → (i : ℕ)
      → all_on i end.handed ≡ answered_all answered id old i ++ kept_on i new
  parts_left end answered parts i = elim (cases_eq i id) [
    | inl here ↦ rw here (parts id ∙ sym (answered_here answered))
    | inr other ↦ parts i ∙ sym (answered_there answered i other)
  ]

  dropped_left : (end : EndLog) → AreDropped end old → AreDropped end new
  dropped_left end dropped i code one = elim (cases_eq i id) [
    | inl here ↦ absurd (none_in (DropOn code) (rw (here, kept_here) at one))
    | inr other ↦ dropped i code (rw (set_elsewhere id old new None removed i other) at one)
  ]

module _ (id : ℕ) (reset : Result (Unit {0}) Refusal) (old new : ClientConnection)
    (few : id < 2 ^ 32)
    (answers : EndAnswers old.client.end (cancels id) (answer_by (λ done. Done) reset)
    new.client.end) (unused : several_unused new ≡ several_unused old) where
  -- The client goes on, and of each stream this was answered.
  goes_so : {values : Values} {wide : ℕ} {start now : Traffic} {asked : List AskedOn}
      {end : EndLog} (answered answered_now : AnsweredOn)
      → AreComing values wide start now asked old end answered
      → ((i : ℕ) → all_on i end.handed ≡ answered_now i ++ kept_on i new.kept.entries)
      → AreDropped end new.kept.entries
      → AreComing values wide start now asked new (end_cancelled end id reset) answered_now
  goes_so {values} {start = start} {now = now} {end = end} answered answered_now on parts dropped =
      let answer = answer_by (λ done. Done) reset in
      let both = answers values end on.represents in
      let goes = call_goes end.log (cancels id) answer (quiet_answer id reset) in
      record {
        fetching = resets on.fetching id (code_number Cancel) answer (typed_reset id few) both.0;
        represents = both.1;
        accepted = on.accepted;
        up = goes.failed ∙ on.up;
        linked = subst (IsLinked start now _) (sym unused)
            (goes_links (given_within on.represents) goes on.linked);
        parts = parts;
        dropped = dropped;
      }

  pub refused_so : (refusal : Refusal) → Err refusal ≡ unless_over reset → new.kept ≡ old.kept
      → GivesUpOn id (Err refusal) old new
  refused_so refusal is kept values end rep =
      let both = answers values end rep in
      record {
        reset = reset;
        may = both.0;
        returns = is;
        represents = both.1;
        none = tt;
        goes_on = λ wide start now asked answered on.
            goes_so answered answered on (rw kept on.parts) (rw kept on.dropped);
      }

  pub given_up_so : Ok tt ≡ unless_over reset
      → SetsValue id None old.kept.entries new.kept.entries → GivesUpOn id (Ok tt) old new
  given_up_so is removed values end rep =
      let both = answers values end rep in
      let was : Queues = old.kept.entries in
      let now : Queues = new.kept.entries in
      record {
        reset = reset;
        may = both.0;
        returns = is;
        represents = both.1;
        none = kept_here id was now removed;
        goes_on = λ wide start time asked answered on.
            goes_so answered (answered_all answered id was) on
            (parts_left id was now removed end answered on.parts)
            (dropped_left id was now removed end on.dropped);
      }
