-- What a client whose response comes in parts makes of a piece that is read; and how `next` goes
-- on then.
use Rattle.h2_engines.proofs.Names
use Names.{◌≡◌, ℕ, ◌+◌, ◌-◌, ◌^◌, ◌≤◌, List, [], ◌++◌, ◌∷◌, Some, None, Ok, Err, refl, sym, ap}
use Names.{◌∙◌, subst, inr, arith, append-nil, EndLog, Handed, Result, Values, SentMessage}
use Names.{LinkError, Traffic, said_for, IsLinked}
use Rattle.h2_engines.proofs.MachineViews.{all_in_part}
use Rattle.h2_fetch.specs.Comings.{AnswersNext, ComesSo, EndsSo, IsComing, Refills, RefilledSo}
use Rattle.h2_fetch.specs.Comings.{StopsFor, TakesUntilPart, TookSo}
use Rattle.h2_fetch.specs.Parts.{handed_of, handed_on}
use Rattle.h2_fetch.specs.Reads.{ReadOver, ReadSo, ReadsOver}
use Rattle.h2_fetch.specs.Credits.{credit_before}
use Rattle.h2_fetch.specs.Sends.{AsksOne, HasReturned}
use Rattle.h2_fetch.specs.Several.{StopsAllFor}
use Rattle.h2_fetch.specs.declared.fetch.PartFetch.{PartFetch}
use Rattle.h2_fetch.specs.declared.part.ResponsePart.{ResponsePart}
use Rattle.h2_engines.specs.declared.sending.Credit.{Credit}
use Rattle.h2_engines.specs.declared.sending.Credit.TheVariants.{All}
use Rattle.h2_fetch.proofs.ChosenCredit.{ChoosesCredit, chosen_allows}
use Rattle.h2_fetch.proofs.Comings.{NextOn, going_first}
use Rattle.h2_fetch.proofs.Pieces.{without_count}
use Rattle.h2_link.specs.declared.error.LinkError.TheVariants as errors

-- What ends reading ends a fetch of one request so.
pub stops_for : (start now : Traffic) (end : EndLog) (id : ℕ) (error : LinkError)
    → StopsAllFor start now end error → StopsFor start now end id error
stops_for start now end id (errors.Reset number) so = absurd so
stops_for start now end id error so = so

-- The octets that were read into the buffer are those that were not used yet.
abbrev pub HasFilled : PartFetch → Result ℕ LinkError → Type 0
HasFilled fetch (Ok count) = (fetch.used ≡ 0) × (fetch.filled ≡ count)
HasFilled fetch (Err error) = Unit {0}

-- A piece was read, or the fetch has ended.
module _ {values : Values} {message : SentMessage} {wide : ℕ} {start : Traffic}
    (before now : Traffic) (old new : PartFetch) {end : EndLog}
    (is : IsComing values message wide start before old end)
    (stream : new.id ≡ old.id) {credit : Credit} where
  refilled_so : (result : Result ℕ LinkError) → HasFilled new result
      → (read : ReadOver credit values (AsksOne message wide) start now end new.client.end
      new.buffer.items result)
      → RefilledSo values message wide start now new end read.after (without_count result)
  unfolding RefilledSo ReadSo
  refilled_so (Ok count) fills read = (
    record {
      fetching = read.asks;
      represents = read.represents;
      accepted = ap (λ (i : ℕ). said_for i read.after.accepted) stream
          ∙ ap (said_for old.id) read.same.accepted ∙ is.accepted;
      up = read.so.0;
      linked = rw (fills.0, fills.1) read.so.1;
    },
    read.so.2,
  )
  refilled_so (Err error) fills read =
      record {
        fetching = read.asks;
        represents = read.represents;
        accepted = ap (λ (i : ℕ). said_for i read.after.accepted) stream
            ∙ ap (said_for old.id) read.same.accepted ∙ is.accepted;
        linked = read.so.0;
        so = stops_for start now read.after new.id error read.so.1;
      }

-- What is chosen before a read by all that is owed may be returned.
pub refilled : (before now : Traffic) (old new : PartFetch) (last : ℕ) (credit : Credit)
    (result : Result ℕ LinkError) → new.id ≡ old.id → HasFilled new result
    → last ≡ old.filled → ChoosesCredit old.client.end old.id last All credit
    → ReadsOver credit before now old.client.end new.client.end new.buffer.items result
    → Refills before now old new (without_count result)
refilled before now old new last credit result stream fills all chooses reads values message wide
    start end is empty =
    let asks = AsksOne message wide in
    let allows = chosen_allows old.id last All asks tt chooses is.represents in
    let read = reads values asks start end is.represents is.fetching allows
    (subst (IsLinked start before end.log) empty is.linked) is.up in
    let chosen = chooses values end.log is.represents.streams.conn
    ∙ ap (λ (n : ℕ). credit_before end.log old.id n All) all in (
      read.after,
      read.same.handed,
      subst (λ (one : Credit). HasReturned one end read.after) chosen read.returned,
      refilled_so before now old new is stream result fills read,
    )

-- At first nothing was asked for.
pub next_first : (now : Traffic) (fetch : PartFetch) → NextOn now now fetch fetch 0
next_first now fetch values message wide start end is = going_first is

module _ (before between : Traffic) (old one two : PartFetch) (rounds : ℕ)
    (on : NextOn before between old one rounds) (first : one.id ≡ old.id)
    (second : two.id ≡ one.id) where
  -- The next part is there,
  pub next_part : (part : ResponsePart) → TakesUntilPart one two (Ok (Some part))
      → AnswersNext before between old two (Ok part)
  unfolding TookSo ComesSo
  next_part part takes values message wide start end is =
      let go = on values message wide start end is in
      let (after, turns, so) = takes values message wide start between go.after go.coming in (
        after,
        (
          so.0,
          so.1 ∙ ap (λ (handed : List Handed). handed ++ handed_of two.id part ∷ [])
              (rw second go.none),
          omega (arith, go.turns, so.2),
        ),
      )

  -- or the client can take no more,
  pub next_ended : (now : Traffic) (three : PartFetch) (error result : LinkError)
      → three.id ≡ two.id → TakesUntilPart one two (Err error)
      → EndsSo between now two three error result → AnswersNext before now old three (Err result)
  unfolding TookSo ComesSo
  next_ended now three error result third takes ends values message wide start end is =
      let go = on values message wide start end is in
      let (after, turns, last) = takes values message wide start between go.after go.coming in
      let (ended, stopped, since) = ends values message wide start go.after after last in (
        ended,
        (
          stopped,
          record {
            lost = since.lost;
            handed = since.handed ∙ ap (λ (handed : List Handed). handed ++ since.lost)
                (rw (third, second) go.none);
            all = since.all;
          },
        ),
      )

  module _ (now : Traffic) (three : PartFetch) (third : three.id ≡ two.id)
      (takes : TakesUntilPart one two (Ok None)) where
    -- or a piece is read,
    pub next_refilled : (done : Unit {0}) → Refills between now two three (Ok done)
        → NextOn before now old three (rounds + 1)
    unfolding TookSo RefilledSo
    next_refilled done refills values message wide start end is =
        let go = on values message wide start end is in
        let (after, turns, so) = takes values message wide start between go.after go.coming in
        let (filled, same, returned, read) = refills values message wide start after so.0 so.2 in
        record {
          after = filled;
          coming = read.0;
          turns = omega (arith, go.turns, turns, read.1);
          none = ap (handed_on three.id) same ∙ rw (third, second) (rw second at so.1 ∙ go.none);
        }

    -- or not.
    pub next_unfilled : (error : LinkError) → Refills between now two three (Err error)
        → AnswersNext before now old three (Err error)
    unfolding TookSo RefilledSo ComesSo
    next_unfilled error refills values message wide start end is =
        let go = on values message wide start end is in
        let (after, turns, so) = takes values message wide start between go.after go.coming in
        let (filled, same, returned, stopped) =
        refills values message wide start after so.0 so.2 in (
          filled,
          (
            stopped,
            record {
              lost = [];
              handed = ap (handed_on three.id) same
                  ∙ rw (third, second) (rw second at so.1 ∙ go.none)
                  ∙ sym (append-nil (handed_on three.id end.handed));
              all = λ other. refl;
            },
          ),
        )

-- There were as many rounds as may be.
pub next_no_round : (before now : Traffic) (old new : PartFetch) (rounds : ℕ)
    → 2 ^ 64 - 1 ≤ rounds → NextOn before now old new rounds
    → AnswersNext before now old new (Err errors.NoProgress)
unfolding ComesSo
next_no_round before now old new rounds all on values message wide start end is =
    let go = on values message wide start end is in (
      go.after,
      (
        record {
          fetching = go.coming.fetching;
          represents = go.coming.represents;
          accepted = go.coming.accepted;
          linked = all_in_part go.coming.linked;
          so = inr (omega (arith, all, go.turns));
        },
        record {
          lost = [];
          handed = go.none ∙ sym (append-nil (handed_on new.id end.handed));
          all = λ other. refl;
        },
      ),
    )
