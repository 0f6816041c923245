-- How a client that makes several requests waits for the next of one.
use Rattle.h2_engines.proofs.Names
use Names.{◌≡◌, ◌≢◌, ◌≤◌, ℕ, ◌+◌, ◌-◌, ◌^◌, List, [], ◌++◌, Some, None, Result, Ok, Err, refl}
use Names.{sym, ap, ◌∙◌, subst, inl, inr, arith, append-nil, Code, Values, EndLog}
use Names.{EndRepresents, IsLinked, LinkError, Traffic, error_with}
use Rattle.h2_engines.proofs.MachineViews.{all_in_part}
use Rattle.h2_fetch.specs.Reads.{EndedSo, EndsOver, ReadOver, ReadSo, ReadsOver, ends_at_once}
use Rattle.h2_fetch.specs.Reads.{ends_failed}
use Rattle.h2_fetch.specs.Credits.{credit_before}
use Rattle.h2_fetch.specs.Sends.{AsksSeveral, HasReturned}
use Rattle.h2_fetch.specs.Kept.{KeepsAll}
use Rattle.h2_fetch.specs.Several.{OnStream, AnsweredOn, AreComing, AskedOn, CameSo}
use Rattle.h2_fetch.specs.Several.{IsFetchingSeveral, StopsAllFor, kept_on, several_unused}
use Rattle.h2_fetch.specs.SeveralComings.{FilledSo, FillsSeveral, TakesNoneMore, TakesUntilCame}
use Rattle.h2_fetch.specs.SeveralComings.{TookCame, WaitsFor, fails, lacks_memory, out_of_rounds}
use Rattle.h2_engines.specs.declared.sending.Credit.{Credit}
use Rattle.h2_engines.specs.declared.sending.Credit.TheVariants.{On}
use Rattle.h2_fetch.specs.declared.connection.Came.{Came}
use Rattle.h2_fetch.specs.declared.connection.ClientConnection.{ClientConnection}
use Rattle.h2_fetch.proofs.ChosenCredit.{ChoosesCredit, chosen_allows}
use Rattle.h2_fetch.proofs.Pieces.{without_count}
use Rattle.h2_fetch.proofs.SeveralComings.{AreGoing, are_going}
use Rattle.h2_fetch.proofs.SeveralTaking.{stay_dropped}
use Rattle.h2_link.specs.declared.error.LinkError.TheVariants as errors

-- Where nothing has happened to messages, and as much is kept, the client fetches still.
pub coming_still : {values : Values} {wide : ℕ} {start before now : Traffic} {asked : List AskedOn}
    {old : ClientConnection} (new : ClientConnection) {end : EndLog} (after : EndLog)
    {answered : AnsweredOn} → KeepsAll old.kept.entries new.kept.entries
    → after.accepted ≡ end.accepted → after.handed ≡ end.handed
    → IsFetchingSeveral values wide asked after → EndRepresents values new.client.end after
    → after.log.failed ≡ None → IsLinked start now after.log (several_unused new)
    → AreComing values wide start before asked old end answered
    → AreComing values wide start now asked new after answered
coming_still {old = old} new {end} after kept accepted handed fetching represents up linked is =
    record {
      fetching = fetching;
      represents = represents;
      accepted = λ id message one. rw accepted (is.accepted id message one);
      up = up;
      linked = linked;
      parts = λ id. rw (handed, kept id) (is.parts id);
      dropped = stay_dropped end after old.kept.entries new.kept.entries kept
          (λ one was. rw handed was) is.dropped;
    }

-- The octets that were read into the buffer are those that were not used yet.
abbrev pub HasFilledSeveral : ClientConnection → Result ℕ LinkError → Type 0
HasFilledSeveral fetch (Ok count) = (fetch.used ≡ 0) × (fetch.filled ≡ count)
HasFilledSeveral fetch (Err error) = Unit {0}

-- A piece was read, or the fetch has ended.
module _ {values : Values} {wide : ℕ} {start : Traffic} (before now : Traffic)
    {asked : List AskedOn} (old new : ClientConnection) {end : EndLog} {answered : AnsweredOn}
    (is : AreComing values wide start before asked old end answered)
    (kept : KeepsAll old.kept.entries new.kept.entries) {credit : Credit} where
  filled_so : (result : Result ℕ LinkError) → HasFilledSeveral new result
      → (read : ReadOver credit values (AsksSeveral asked wide) start now end new.client.end
      new.buffer.items result)
      → FilledSo values wide start now asked new end read.after answered (without_count result)
  unfolding FilledSo ReadSo
  filled_so (Ok count) fills read = (
    coming_still new read.after kept read.same.accepted read.same.handed read.asks
        read.represents read.so.0 (rw (fills.0, fills.1) read.so.1) is,
    read.so.2,
  )
  filled_so (Err error) fills read =
      record {
        fetching = read.asks;
        represents = read.represents;
        linked = read.so.0;
        lost = λ id. [];
        parts = λ id. rw (read.same.handed, kept id) (is.parts id
            ∙ ap (λ (rest : List OnStream). answered id ++ rest)
            (sym (append-nil (kept_on id old.kept.entries))));
        all = λ other id. refl;
        so = read.so.1;
      }

-- What is chosen before a read by the credit of one stream may be returned.
pub filled : (before now : Traffic) (old new : ClientConnection) (id last : ℕ) (credit : Credit)
    (result : Result ℕ LinkError) → new.kept ≡ old.kept
    → HasFilledSeveral new result → last ≡ old.filled
    → ChoosesCredit old.client.end id last (On id) credit
    → ReadsOver credit before now old.client.end new.client.end new.buffer.items result
    → FillsSeveral before now old new id (without_count result)
filled before now old new id last credit result kept fills all chooses reads values wide start
    asked end answered is empty =
    let asks = AsksSeveral asked wide in
    let allows = chosen_allows id last (On id) asks tt chooses is.represents in
    let read = reads values asks start end is.represents is.fetching allows
    (subst (IsLinked start before end.log) empty is.linked) is.up in
    let chosen = chooses values end.log is.represents.streams.conn
    ∙ ap (λ (n : ℕ). credit_before end.log id n (On id)) all in (
      read.after,
      subst (λ (one : Credit). HasReturned one end read.after) chosen read.returned,
      filled_so before now old new is (λ i. rw kept refl) result fills read,
    )

-- The error of a client that can take no more is that of its connection, where that has failed.
why_failed : {end : EndLog} {lost : AnsweredOn} {error : LinkError}
    → TakesNoneMore end lost error → (code : Code) → end.log.failed ≡ Some code
    → error ≡ error_with code
why_failed (fails code failed is none) other also =
    let same : code ≡ other = let both = sym failed ∙ also in cc in
    is ∙ ap error_with same
why_failed (lacks_memory up is) code failed = let wrong = sym up ∙ failed in absurd (cc)
why_failed (out_of_rounds up is out none) code failed = let wrong = sym up ∙ failed in absurd (cc)

-- Parts are lost only where memory was refused.
all_lost : {end : EndLog} {lost : AnsweredOn} {error : LinkError}
    → TakesNoneMore end lost error → error ≢ errors.Memory → (id : ℕ) → lost id ≡ []
all_lost (fails code failed is none) other = none
all_lost (lacks_memory up is) other = absurd (other is)
all_lost (out_of_rounds up is out none) other = none

none_lost : {end : EndLog} {lost : AnsweredOn} {error : LinkError}
    → end.log.failed ≢ None → TakesNoneMore end lost error → (id : ℕ) → lost id ≡ []
none_lost down (fails code failed is none) = none
none_lost down (lacks_memory up is) = absurd (down up)
none_lost down (out_of_rounds up is out none) = none

lost_none : {start now : Traffic} {end after : EndLog} {lost : AnsweredOn}
    {error result : LinkError} → TakesNoneMore end lost error
    → EndedSo start now end after error result → result ≢ errors.Memory → (id : ℕ) → lost id ≡ []
lost_none why (ends_at_once up same is) other = all_lost why (λ memory. other (is ∙ memory))
lost_none why (ends_failed down stops) other = none_lost down why

-- While the connection is up, a client ends for its own reason.
up_so : (start now : Traffic) {end : EndLog} {lost : AnsweredOn} {error : LinkError}
    → TakesNoneMore end lost error → end.log.failed ≡ None → StopsAllFor start now end error
up_so start now (fails code failed is none) up = let wrong = sym up ∙ failed in absurd (cc)
up_so start now (lacks_memory up is) also = rw is (inl (inl up))
up_so start now (out_of_rounds up is out none) also = rw is (inr out)

ended_so : (start now : Traffic) {end after : EndLog} {lost : AnsweredOn}
    {error result : LinkError} → TakesNoneMore end lost error
    → EndedSo start now end after error result → StopsAllFor start now after result
ended_so start now why (ends_at_once up same is) = rw (same, is) (up_so start now why up)
ended_so start now why (ends_failed down stops) = stops

-- In a call of `wait_for` something goes over the link.
abbrev pub WaitsOn : (before now : Traffic) → (old new : ClientConnection) → ℕ → (rounds : ℕ)
    → Type 0
WaitsOn before now old new id rounds =
    (values : Values) (wide : ℕ) (start : Traffic) (asked : List AskedOn) (end : EndLog)
    (answered : AnsweredOn) → AreComing values wide start before asked old end answered
    → kept_on id old.kept.entries ≡ []
    → AreGoing values wide start now asked new id end answered rounds

pub waits_first : (now : Traffic) (fetch : ClientConnection) (id : ℕ) →
    WaitsOn now now fetch fetch id 0
waits_first now fetch id values wide start asked end answered is none = are_going id is none

module _ (before between : Traffic) (old one two : ClientConnection) (id rounds : ℕ)
    (on : WaitsOn before between old one id rounds) where
  -- The next has come,
  pub waits_came : (came : Came) → TakesUntilCame one two id (Ok (Some came))
      → WaitsFor before between old two id (Ok came)
  unfolding TookCame
  waits_came came takes values wide start asked end answered is none =
      let go = on values wide start asked end answered is none in
      takes values wide start between asked go.after answered go.coming go.none

  -- or the client can take no more,
  pub waits_ended : (now : Traffic) (three : ClientConnection) (error result : LinkError)
      → three.kept ≡ two.kept
      → TakesUntilCame one two id (Err error)
      → EndsOver between now two.client.end three.client.end error result
      → WaitsFor before now old three id (Err result)
  unfolding TookCame CameSo
  waits_ended now three error result kept takes ends values wide start asked end answered is
      none =
      let go = on values wide start asked end answered is none in
      let (after, last) =
      takes values wide start between asked go.after answered go.coming go.none in
      let ended = ends values (AsksSeveral asked wide) start after last.unused last.represents
      last.fetching last.linked (why_failed last.why) in (
        ended.after,
        record {
          fetching = ended.asks;
          represents = ended.represents;
          linked = ended.linked;
          lost = last.lost;
          parts = λ i. rw (ended.same.handed, kept) (last.parts i);
          all = lost_none last.why ended.so;
          so = ended_so start now last.why ended.so;
        },
      )

  module _ (now : Traffic) (three : ClientConnection) (kept : three.kept ≡ two.kept)
      (takes : TakesUntilCame one two id (Ok None)) where
    -- or a piece is read,
    pub waits_filled : (done : Unit {0}) → FillsSeveral between now two three id (Ok done)
        → WaitsOn before now old three id (rounds + 1)
    unfolding TookCame FilledSo
    waits_filled done fills values wide start asked end answered is none =
        let go = on values wide start asked end answered is none in
        let (after, coming, left, empty, turns) =
        takes values wide start between asked go.after answered go.coming go.none in
        let (filled, returned, still) =
        fills values wide start asked after answered coming empty in
        record {
          after = filled;
          coming = still.0;
          none = rw kept left;
          turns = omega (arith, go.turns, turns, still.1);
        }

    -- or not.
    pub waits_unfilled : (error : LinkError) → FillsSeveral between now two three id (Err error)
        → WaitsFor before now old three id (Err error)
    unfolding TookCame FilledSo CameSo
    waits_unfilled error fills values wide start asked end answered is none =
        let go = on values wide start asked end answered is none in
        let (after, coming, left, empty, turns) =
        takes values wide start between asked go.after answered go.coming go.none in
        let (filled, returned, stopped) =
        fills values wide start asked after answered coming empty in (filled, stopped)

-- There were as many rounds as may be.
pub waits_no_round : (before now : Traffic) (old new : ClientConnection) (id rounds : ℕ)
    → 2 ^ 64 - 1 ≤ rounds → WaitsOn before now old new id rounds
    → WaitsFor before now old new id (Err errors.NoProgress)
unfolding CameSo
waits_no_round before now old new id rounds all on values wide start asked end answered is none =
    let go = on values wide start asked end answered is none in (
      go.after,
      record {
        fetching = go.coming.fetching;
        represents = go.coming.represents;
        linked = all_in_part go.coming.linked;
        lost = λ i. [];
        parts = λ i. go.coming.parts i
            ∙ ap (λ (rest : List OnStream). answered i ++ rest)
            (sym (append-nil (kept_on i new.kept.entries)));
        all = λ other i. refl;
        so = inr (omega (arith, all, go.turns));
      },
    )
