-- How the calls of a client whose response comes in parts follow one another.
use Rattle.h2_engines.proofs.Names
use Names.{◌≡◌, ◌≤◌, ◌<◌, ℕ, ◌+◌, ◌-◌, ◌^◌, List, [], ◌∷◌, ◌++◌, length}
use Names.{drop, Option, Some, None, Ok, Err, refl, sym, ap, ◌∙◌, subst, inl, inr}
use Names.{arith, append-nil, drop_all}
use Names.{Values, SentMessage, EndLog, EndAnswer, EndTook, EndFailed, EndMayTake}
use Names.{ErrsFetching, ResetEvent, Handed, Passed, LinkError}
use Names.{IsLinked, Traffic, said_for, first_in}
use Names.{if◌then◌else◌, refused_stream}
use Rattle.h2_spec_log.specs.Events.{UnprocessedEvent}
use Rattle.h2_engines.specs.ClientHistories.{takes}
use Rattle.h2_engines.proofs.ResponderEnds.{given_within}
use Rattle.h2_engines.proofs.ServeLinkTakes.{links_first, took_links, takes_first}
use Rattle.h2_engines.proofs.TakeMessages.{kept_failed, taken_says}
use Rattle.h2_engines.proofs.TurnsPassed.{turns_of_answer, turns_of_take}
use Rattle.h2_fetch.specs.Comings.{HasTakenLast, IsComing, TakesUntilPart}
use Rattle.h2_fetch.specs.Comings.{TakesNoMore, TookSo, fails, lacks_memory, octets_unused}
use Rattle.h2_fetch.specs.Comings.{out_of_rounds, was_dropped}
use Rattle.h2_fetch.specs.Parts.{handed_on, is_on}
use Rattle.h2_fetch.specs.Takes.{TakesPartOnce, TakesSo, part_in}
use Rattle.h2_fetch.specs.declared.fetch.PartFetch.{PartFetch}
use Rattle.h2_fetch.specs.declared.fetch.PartTaken.{PartTaken}
use Rattle.h2_fetch.specs.declared.fetch.PartNext.TheVariants as nexts
use Rattle.h2_fetch.specs.declared.part.ResponsePart.{ResponsePart}
use Rattle.h2_fetch.proofs.Taking.{answered, hands_none, hands_on, hands_some}
use Rattle.h2_link.specs.declared.error.LinkError.TheVariants as errors

-- Whatever had happened at first, the client fetches still, each round was a turn at least, and no
-- part of the response was handed out.
pub record IsGoing (values : Values) (message : SentMessage) (wide : ℕ) (start now : Traffic)
    (fetch : PartFetch) (before : EndLog) (rounds : ℕ) : Type 0 where
  pub after : EndLog
  pub coming : IsComing values message wide start now fetch after
  pub turns : rounds + length before.log.turns ≤ length after.log.turns
  pub none : handed_on fetch.id after.handed ≡ handed_on fetch.id before.handed

pub going_first : {values : Values} {message : SentMessage} {wide : ℕ} {start now : Traffic}
    {fetch : PartFetch} {end : EndLog} → IsComing values message wide start now fetch end
    → IsGoing values message wide start now fetch end 0
going_first {end = end} is =
    record { after = end; coming = is; turns = omega arith; none = refl }

-- In a call of `take_next` nothing goes over the link.
abbrev pub TakesOn : (old new : PartFetch) → (rounds : ℕ) → Type 0
TakesOn old new rounds =
    (values : Values) (message : SentMessage) (wide : ℕ) (start now : Traffic) (end : EndLog)
    → IsComing values message wide start now old end
    → IsGoing values message wide start now new end rounds

-- In one of `next` something does.
abbrev pub NextOn : (before now : Traffic) → (old new : PartFetch) → (rounds : ℕ) → Type 0
NextOn before now old new rounds =
    (values : Values) (message : SentMessage) (wide : ℕ) (start : Traffic) (end : EndLog)
    → IsComing values message wide start before old end
    → IsGoing values message wide start now new end rounds

-- The client has taken octets of those that it keeps, and this was answered.
record HasTaken (values : Values) (message : SentMessage) (wide : ℕ) (start now : Traffic)
    (fetch : PartFetch) (before : EndLog) (part : Option ResponsePart) : Type 0 where
  after : EndLog
  coming : IsComing values message wide start now fetch after
  turns : length before.log.turns < length after.log.turns
  handed : handed_on fetch.id after.handed
      ≡ handed_on fetch.id before.handed ++ answered fetch.id part

module _ {values : Values} {message : SentMessage} {wide : ℕ} {start now : Traffic}
    {old : PartFetch} (new : PartFetch) {end : EndLog}
    (is : IsComing values message wide start now old end)
    (stream : new.id ≡ old.id) where
  -- So it is after a call of `take` of the client.
  taken_on : (taken : PartTaken) → octets_unused new ≡ drop taken.used (octets_unused old)
      → TakesPartOnce old.client.end new.client.end old.id (octets_unused old) (Ok taken)
      → HasTaken values message wide start now new end (part_in taken.next)
  unfolding TakesSo
  taken_on taken left part =
      let (after, represents, so) = part values end is.represents in
      let may = so.1 in
      let says = taken_says may in
      let first = takes_first may in
      record {
        after = after;
        coming = record {
          fetching = takes is.fetching _ _ may;
          represents = represents;
          accepted = ap (λ (i : ℕ). said_for i after.accepted) stream
              ∙ ap (said_for old.id) says.accepted ∙ is.accepted;
          up = first.says.1;
          linked = subst (IsLinked start now after.log) (sym left)
              (took_links (given_within is.represents) is.linked first.uses first.says.0);
        };
        turns = turns_of_take may;
        handed = rw stream (hands_on old.id taken.used so.0
            (part_in taken.next) end.handed says.handed so.2);
      }

-- Why a client has taken its last octets, by what `take` has answered, and which parts are lost.
record WhyLast (end after : EndLog) (id : ℕ) (error : LinkError) : Type 0 where
  lost : List Handed
  handed : handed_on id after.handed ≡ handed_on id end.handed ++ lost
  why : TakesNoMore after id lost error

why_last : (id : ℕ) {end after : EndLog} {piece : List ℕ} (answer : EndAnswer) (error : LinkError)
    → EndMayTake end piece answer after → ErrsFetching answer id error
    → WhyLast end after id error
unfolding ErrsFetching
why_last id {end} (EndFailed code) error may errs =
    let says = taken_says may in
    record {
      lost = [];
      handed = ap (handed_on id) says.handed ∙ sym (append-nil (handed_on id end.handed));
      why = fails code (kept_failed may) errs refl;
    }
why_last id (EndTook count None) error may errs = absurd errs
why_last id (EndTook count (Some one)) error may (inl memory) =
    let says = taken_says may in
    record {
      lost = if is_on id one then one ∷ [] else [];
      handed = hands_some id one says.handed;
      why = lacks_memory (takes_first may).says.1 memory.0;
    }
why_last id {end} (EndTook count (Some one)) error may (inr (inl reset)) =
    let says = taken_says may in
    let last = says.handed ∙ ap (λ (one : Handed). one ∷ end.handed) reset.2 in
    record {
      lost = [];
      handed = hands_none id (Passed (ResetEvent id reset.0 reset.1)) last refl;
      why = was_dropped reset.0 (takes_first may).says.1 reset.3
          (inl (reset.1, rw last (first_in _ end.handed))) refl;
    }
why_last id {end} (EndTook count (Some one)) error may (inr (inr left)) =
    let says = taken_says may in
    let last = says.handed ∙ ap (λ (one : Handed). one ∷ end.handed) left.0 in
    record {
      lost = [];
      handed = hands_none id (Passed (UnprocessedEvent id)) last refl;
      why = was_dropped refused_stream (takes_first may).says.1 left.1
          (inr (refl, rw last (first_in _ end.handed))) refl;
    }

module _ {values : Values} {message : SentMessage} {wide : ℕ} {start now : Traffic}
    {old : PartFetch} (new : PartFetch) {end : EndLog}
    (is : IsComing values message wide start now old end)
    (stream : new.id ≡ old.id) where
  -- So a client has taken its last octets.
  taken_last : (error : LinkError)
      → TakesPartOnce old.client.end new.client.end old.id (octets_unused old) (Err error)
      → (after : EndLog) × (length end.log.turns ≤ length after.log.turns)
      × HasTakenLast values message wide start now new end after error
  unfolding TakesSo
  taken_last error part =
      let (after, represents, so) = part values end is.represents in
      let may = so.1 in
      let first = takes_first may in
      let last = why_last old.id so.0 error may so.2 in (
        after,
        turns_of_answer may,
        record {
          fetching = takes is.fetching _ _ may;
          represents = represents;
          accepted = ap (λ (i : ℕ). said_for i after.accepted) stream
              ∙ ap (said_for old.id) (taken_says may).accepted ∙ is.accepted;
          unused = first.uses.unused;
          linked = links_first (given_within is.represents) is.linked first.uses;
          lost = last.lost;
          handed = rw stream last.handed;
          why = rw stream last.why;
        },
      )

-- In each round of `take_next` octets are taken once: nothing was answered,
pub next_taken : (old middle new : PartFetch) (rounds : ℕ) (taken : PartTaken)
    → TakesOn old middle rounds → middle.id ≡ old.id → new.id ≡ middle.id
    → octets_unused new ≡ drop taken.used (octets_unused middle) → part_in taken.next ≡ None
    → TakesPartOnce middle.client.end new.client.end middle.id (octets_unused middle) (Ok taken)
    → TakesOn old new (rounds + 1)
next_taken old middle new rounds taken on same stream left none part values message wide start
    now end is =
    let go = on values message wide start now end is in
    let so = taken_on new go.coming stream taken left part in
    record {
      after = so.after;
      coming = so.coming;
      turns = omega (arith, go.turns, so.turns);
      none = so.handed ∙ ap (λ (one : Option ResponsePart).
          handed_on new.id go.after.handed ++ answered new.id one) none
          ∙ append-nil (handed_on new.id go.after.handed)
          ∙ subst (λ (i : ℕ). handed_on i go.after.handed ≡ handed_on i end.handed) (sym stream)
          go.none;
    }

-- a part was,
took_so : (part : Option ResponsePart) (values : Values) (message : SentMessage) (wide : ℕ)
    (start now : Traffic) (fetch : PartFetch) (before after : EndLog)
    → IsComing values message wide start now fetch after
    → handed_on fetch.id after.handed
    ≡ handed_on fetch.id before.handed ++ answered fetch.id part
    → (part ≡ None → octets_unused fetch ≡ [])
    → length before.log.turns < length after.log.turns
    → TookSo values message wide start now fetch before after (Ok part)
unfolding TookSo
took_so None values message wide start now fetch before after coming handed all turns =
    (coming, handed ∙ append-nil (handed_on fetch.id before.handed), all refl)
took_so (Some part) values message wide start now fetch before after coming handed all turns =
    (coming, handed, turns)

pub next_answered : (old middle new : PartFetch) (rounds : ℕ) (taken : PartTaken)
    (answer : Option ResponsePart) → part_in taken.next ≡ answer
    → TakesOn old middle rounds → middle.id ≡ old.id → new.id ≡ middle.id
    → octets_unused new ≡ drop taken.used (octets_unused middle)
    → (answer ≡ None → taken.next ≡ nexts.Done)
    → TakesPartOnce middle.client.end new.client.end middle.id (octets_unused middle) (Ok taken)
    → TakesUntilPart old new (Ok answer)
unfolding TakesSo
next_answered old middle new rounds taken answer is_answer on same stream left all part values
    message wide start now end is =
    let go = on values message wide start now end is in
    let so = taken_on new go.coming stream taken left part in
    let done = (part values go.after go.coming.represents).2.3 in
    let before : handed_on new.id go.after.handed ≡ handed_on new.id end.handed = subst
    (λ (i : ℕ). handed_on i go.after.handed ≡ handed_on i end.handed) (sym stream) go.none in (
      so.after,
      omega (arith, go.turns, so.turns),
      took_so answer values message wide start now new end so.after so.coming
          (so.handed ∙ ap (λ (handed : List Handed). handed ++ answered new.id
          (part_in taken.next)) before ∙ ap (λ (one : Option ResponsePart).
          handed_on new.id end.handed ++ answered new.id one) is_answer)
          (λ none. left
          ∙ drop_all taken.used (octets_unused middle) (omega (arith, done (all none))))
          (omega (arith, go.turns, so.turns)),
    )

-- or it has ended.
pub next_last : (old middle new : PartFetch) (rounds : ℕ) (error : LinkError)
    → TakesOn old middle rounds → middle.id ≡ old.id → new.id ≡ middle.id
    → TakesPartOnce middle.client.end new.client.end middle.id (octets_unused middle)
    (Err error)
    → TakesUntilPart old new (Err error)
unfolding TookSo
next_last old middle new rounds error on same stream part values message wide start now end is =
    let go = on values message wide start now end is in
    let so = taken_last new go.coming stream error part in
    let last = so.2 in (
      so.0,
      omega (arith, go.turns, so.1),
      record {
        fetching = last.fetching;
        represents = last.represents;
        accepted = last.accepted;
        unused = last.unused;
        linked = last.linked;
        lost = last.lost;
        handed = last.handed ∙ ap (λ (handed : List Handed). handed ++ last.lost) (subst
            (λ (i : ℕ). handed_on i go.after.handed ≡ handed_on i end.handed) (sym stream)
            go.none);
        why = last.why;
      },
    )

-- There were as many rounds as may be.
pub next_out : (old new : PartFetch) (rounds : ℕ) → 2 ^ 64 - 1 ≤ rounds → TakesOn old new rounds
    → TakesUntilPart old new (Err errors.NoProgress)
unfolding TookSo
next_out old new rounds all on values message wide start now end is =
    let go = on values message wide start now end is in (
      go.after,
      omega (arith, go.turns),
      record {
        fetching = go.coming.fetching;
        represents = go.coming.represents;
        accepted = go.coming.accepted;
        unused = octets_unused new;
        linked = go.coming.linked;
        lost = [];
        handed = go.none ∙ sym (append-nil (handed_on new.id end.handed));
        why = out_of_rounds go.coming.up refl (omega (arith, all, go.turns)) refl;
      },
    )
