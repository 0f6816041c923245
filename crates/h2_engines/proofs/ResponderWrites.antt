-- What has happened at an end and over a link since its output began to be written.
use Rattle.h2_engines.proofs.Names
use Names.{◌≡◌, ◌≤◌, ◌<◌, ℕ, ◌+◌, ◌-◌, ◌^◌, false, List, [], ◌++◌, length, take, drop, ap, sym}
use Names.{refl, ◌∙◌, append-nil, Ok, log_view, given_out, Log, Err, subst, inr, arith, Appends}
use Names.{Refusal, Values, Answer, PutOut, Count, Refused, MayAnswer, Keeps-call, LinkError}
use Names.{StallsAtNoProgress, End, EndLog, end_with_log, EndRepresents, EndAnswers, with_call}
use Names.{error_after, Traffic, IsLinked, WritesOut, HasSentAll, IsSameOfMessages, refused_failed}
use Names.{IsTypedAct, Result, waiting, output, ConnRepresents, answer_by, ◌≢◌, IsOk, Conn}
use Names.{drop-take, returns_before_put_out}
use Rattle.h2_engines.proofs.ResponderOutput.{put_out_failed, put_out_octets, given_more}
use Rattle.h2_engines.proofs.ResponderEnds.{same_itself, same_twice, same_by_call, given_within}
use Rattle.h2_engines.proofs.ResponderEnds.{gives_as, linked_by, takes_first, given_first}
use Rattle.h2_engines.proofs.ResponderEnds.{refused_first}
use Rattle.h2_engines.proofs.SentAll.{put_sent}
use Rattle.h2_engines.proofs.ResponderStalls.{stalls_by_link, stalls_no_more}
use Rattle.h2_engines.proofs.TurnsPassed.{turns_of_call}
use Rattle.h2_engines.proofs.WithoutLinkOutput.{all_given, consumes_all, no_credit_due}
use Rattle.h2_link.specs.declared.error.LinkError.TheVariants as errors

-- Where this may have happened at an end, it may also have put output out.
abbrev pub MayPutOut : (EndLog → Type 0) → Type 0
MayPutOut P =
    (end : EndLog) (count : ℕ) (answer : Answer) → P end → IsTypedAct (PutOut count)
    → MayAnswer end.log (PutOut count) answer
    → P (end_with_log end (with_call end.log (PutOut count) answer))

-- The link took all that the end has given out, in so many rounds, each of a turn at least, and
-- nothing has happened to messages since.
pub record WritesOn (P : EndLog → Type 0) (values : Values) (start now : Traffic)
    (before : EndLog) (new : End) (unused : List ℕ) (rounds : ℕ) : Type 0 where
  pub after : EndLog
  pub happened : P after
  pub represents : EndRepresents values new after
  pub same : IsSameOfMessages before after
  pub linked : IsLinked start now after.log unused
  pub turns : rounds + length before.log.turns ≤ length after.log.turns
  pub sent : HasSentAll before → HasSentAll after

-- Where nothing more could be sent, nothing can once output is put out.
put_on : {values : Values} {old : End} {before : EndLog} (end : EndLog) (count : ℕ)
    (answer : Answer) → EndRepresents values old end → MayAnswer end.log (PutOut count) answer
    → (HasSentAll before → HasSentAll end) → HasSentAll before
    → HasSentAll (end_with_log end (with_call end.log (PutOut count) answer))
put_on end count answer represents may so was =
    put_sent end count answer represents.streams.conn.machine.came may (so was)

-- The octets are those that an end puts out next, whatever has happened at it.
abbrev pub GivesNext : End → (count given : ℕ) → (octets : List ℕ) → Type 0
GivesNext end count given octets =
    (values : Values) (happened : EndLog) → EndRepresents values end happened
    → octets ≡ put_out_octets happened.log count given

-- as many octets as can be asked for; all that wait are fewer
abbrev pub most : ℕ
most = 18446744073709551615

most_typed : most < 2 ^ 64
most_typed = omega arith

most_waits : {waits all : ℕ} → waits ≡ all → waits ≤ 262161 → all ≤ most
most_waits same few = omega (arith, same, few)

-- The end lends these octets, which are all that wait, so many, and nothing is returned before they
-- are consumed.
pub record LendsAll (ready : End) (octets : List ℕ) (waits : ℕ) : Type 0 where
  pub few : (values : Values) (log : Log) → ConnRepresents values ready.conn log → waits ≤ 262161
  pub all : (values : Values) (log : Log) → ConnRepresents values ready.conn log
      → waits ≡ waiting log
  pub lent : (values : Values) (log : Log) → ConnRepresents values ready.conn log
      → octets ≡ drop log.given log.written
  pub returned : (values : Values) (log : Log) → ConnRepresents values ready.conn log
      → returns_before_put_out (log_view log) ≡ false

-- They are those that are put out next, where all of these are consumed.
lent_next : {ready new : End} {octets : List ℕ} {waits : ℕ} (given : ℕ)
    → LendsAll ready octets waits → EndAnswers ready (PutOut most) (Count given) new
    → GivesNext ready most given octets
lent_next given lends answers = λ values happened is.
    let conn = is.streams.conn in
    let few = lends.few values happened.log conn in
    let all = lends.all values happened.log conn in
    consumes_all _ (given_within is) (lends.lent values happened.log conn) (most_waits all few)
    (lends.returned values happened.log conn) (answers values happened is).0

-- Memory is not refused for it then.
is_consumed : {ready : End} {octets : List ℕ} {waits : ℕ} (values : Values) (happened : EndLog)
    (result : Result ℕ Refusal) → LendsAll ready octets waits
    → ((values : Values) (log : Log) → ConnRepresents values ready.conn log
    → returns_before_put_out (log_view log) ≡ false → IsOk result)
    → EndRepresents values ready happened → (given : ℕ) × (result ≡ Ok given)
is_consumed values happened (Ok given) lends free is = (given, refl)
is_consumed values happened (Err refusal) lends free is =
    let conn = is.streams.conn in
    let wrong = free values happened.log conn (lends.returned values happened.log conn) in
    absurd (cc)

-- Nothing was written yet.
pub writes_nothing : (P : EndLog → Type 0) {values : Values} {start now : Traffic} {end : EndLog}
    {server : End} {unused : List ℕ} → EndRepresents values server end → P end
    → IsLinked start now end.log unused → WritesOn P values start now end server unused 0
writes_nothing P {end} represents happened linked =
    record {
      after = end;
      happened = happened;
      represents = represents;
      same = same_itself end;
      linked = linked;
      turns = omega arith;
      sent = λ was. was;
    }

module _ (P : EndLog → Type 0) (may : MayPutOut P) {values : Values} {start middle : Traffic}
    {before : EndLog} {old : End} {unused : List ℕ} {rounds : ℕ}
    (so : WritesOn P values start middle before old unused rounds) where
  -- the log once output is put out
  abbrev put_log : ℕ → Answer → Log
  put_log count answer = with_call so.after.log (PutOut count) answer

  -- Output is made ready in a round, by which nothing is put out.
  pub writes_ready : (new : End) → EndAnswers old (PutOut 0) (Count 0) new
      → WritesOn P values start middle before new unused (rounds + 1)
  unfolding IsTypedAct
  writes_ready new answers =
      let end = so.after in
      let put = answers values end so.represents in
      let none : given_out (put_log 0 (Count 0)) ≡ given_out end.log =
      given_more end.log 0 0 (given_within so.represents) ∙ ap
      (λ (more : List ℕ). given_out end.log ++ more)
      (drop-take end.log.given 0 (put_log 0 (Count 0)).written)
      ∙ append-nil (given_out end.log) in
      record {
        after = end_with_log end (put_log 0 (Count 0));
        happened = may end 0 (Count 0) so.happened (omega arith) put.0;
        represents = put.1;
        same = same_twice so.same (same_by_call end _ _ (put_out_failed end.log 0 0));
        linked = record {
          given = rw ((Keeps-call end.log _ _).input) so.linked.given;
          taken = rw none so.linked.taken;
        };
        turns = omega (arith, so.turns, turns_of_call end.log (PutOut 0) (Count 0));
        sent = put_on end 0 (Count 0) so.represents put.0 so.sent;
      }

  module _ (now : Traffic) (new : End) (count given : ℕ) {octets : List ℕ} (typed : count < 2 ^ 64)
      (answers : EndAnswers old (PutOut count) (Count given) new)
      (gives : GivesNext old count given octets) (none : Appends middle.given now.given []) where
    -- The next octets are put out, and the link takes all of them.
    writes_more : Appends middle.taken now.taken octets
        → WritesOn P values start now before new unused rounds
    unfolding IsTypedAct
    writes_more took =
        let end = so.after in
        let put = answers values end so.represents in
        record {
          after = end_with_log end (put_log count (Count given));
          happened = may end count (Count given) so.happened typed put.0;
          represents = put.1;
          same = same_twice so.same (same_by_call end _ _ (put_out_failed end.log count given));
          linked = linked_by now _ (put_out_octets end.log count given)
              (Keeps-call end.log _ _).input
              (given_more end.log count given (given_within so.represents)) none
              (subst (Appends middle.taken now.taken) (gives values end so.represents) took)
              so.linked;
          turns = omega (arith, so.turns, turns_of_call end.log (PutOut count) (Count given));
          sent = put_on end count (Count given) so.represents put.0 so.sent;
        }

    -- Or only some of them.
    writes_first : (some : ℕ) (error : LinkError)
        → Appends middle.taken now.taken (take some octets) → error ≢ errors.Memory
        → StallsAtNoProgress {A = Unit {0}} (Err error) now.stalled
        → WritesOut P values start now before new unused (Err error)
    unfolding IsTypedAct
    writes_first some error took known stalled =
        let end = so.after in
        let after = put_log count (Count given) in
        let put = answers values end so.represents in
        record {
          after = end_with_log end after;
          happened = may end count (Count given) so.happened typed put.0;
          represents = put.1;
          same = same_twice so.same (same_by_call end _ _ (put_out_failed end.log count given));
          given = gives_as start middle now end.log after unused (Keeps-call end.log _ _).input none
              so.linked.given;
          taken = takes_first start middle now end.log after (put_out_octets end.log count given)
              some (given_more end.log count given (given_within so.represents))
              (subst (λ (one : List ℕ). Appends middle.taken now.taken (take some one))
              (gives values end so.represents) took) so.linked.taken;
          turns = omega (arith, so.turns, turns_of_call end.log (PutOut count) (Count given));
          stalls = stalls_by_link now (end_with_log end after) error known stalled;
          sent = put_on end count (Count given) so.represents put.0 so.sent;
        }

  -- Where that is refused, what was given out was written.
  pub writes_refused : (new : End) (count : ℕ) (refusal : Refusal) {error : LinkError}
      → count < 2 ^ 64 → EndAnswers old (PutOut count) (Refused refusal) new
      → error ≡ error_after (Conn refusal)
      → WritesOut P values start middle before new unused (Err error)
  unfolding IsTypedAct
  writes_refused new count refusal typed answers is =
      let end = so.after in
      let put = answers values end so.represents in
      record {
        after = end_with_log end (put_log count (Refused refusal));
        happened = may end count (Refused refusal) so.happened typed put.0;
        represents = put.1;
        same = same_twice so.same
            (same_by_call end _ _ (refused_failed end.log (PutOut count) refusal));
        given = rw ((Keeps-call end.log _ _).input) so.linked.given;
        taken = refused_first start middle end.log (PutOut count) refusal so.linked.taken;
        turns = omega (arith, so.turns, turns_of_call end.log (PutOut count) (Refused refusal));
        stalls = stalls_no_more middle end count refusal put.0 is;
        sent = put_on end count (Refused refusal) so.represents put.0 so.sent;
      }

module _ (P : EndLog → Type 0) (may : MayPutOut P) {values : Values} {start middle : Traffic}
    (now : Traffic) {before : EndLog} {old : End} (ready new : End) {unused : List ℕ} {rounds : ℕ}
    {octets : List ℕ} {waits : ℕ} (so : WritesOn P values start middle before old unused rounds)
    (made : EndAnswers old (PutOut 0) (Count 0) ready) (lends : LendsAll ready octets waits)
    (none : Appends middle.given now.given []) where
  -- So what is lent once output was made ready is written, and consumed;
  pub writes_lent : (given : ℕ) → EndAnswers ready (PutOut most) (Count given) new
      → Appends middle.taken now.taken octets
      → WritesOn P values start now before new unused (rounds + 1)
  writes_lent given answers took =
      writes_more P may (writes_ready P may so ready made) now new most given most_typed answers
      (lent_next given lends answers) none took

  -- or only the first of it is written.
  pub writes_lent_first : (result : Result ℕ Refusal) (some : ℕ) (error : LinkError)
      → EndAnswers ready (PutOut most) (answer_by (λ given. Count given) result) new
      → ((values : Values) (log : Log) → ConnRepresents values ready.conn log
      → returns_before_put_out (log_view log) ≡ false → IsOk result)
      → Appends middle.taken now.taken (take some octets) → error ≢ errors.Memory
      → StallsAtNoProgress {A = Unit {0}} (Err error) now.stalled
      → WritesOut P values start now before new unused (Err error)
  writes_lent_first result some error answers free took known stalled =
      let there = writes_ready P may so ready made in
      let (given, is) = is_consumed values there.after result lends free there.represents in
      let consumed = rw is at answers in
      writes_first P may there now new most given most_typed consumed
      (lent_next given lends consumed) none some error took known stalled

-- What has failed is not good.
not_good : {A B : Type 0} (result : Result A B) (error : B) → result ≡ Err error → IsOk result → ⊥
not_good (Ok value) error same good = absurd (cc)
not_good (Err other) error same good = absurd (cc)

-- Once output was made ready, consuming it is not refused.
pub never_lost : (P : EndLog → Type 0) → MayPutOut P → {values : Values} {start middle : Traffic}
    (now : Traffic) {before : EndLog} {old : End} (ready new : End) {unused : List ℕ} {rounds : ℕ}
    (result : Result ℕ Refusal) (refused : Refusal) (error : LinkError)
    → WritesOn P values start middle before old unused rounds
    → EndAnswers old (PutOut 0) (Count 0) ready
    → ((values : Values) (log : Log) → ConnRepresents values ready.conn log
    → returns_before_put_out (log_view log) ≡ false)
    → ((values : Values) (log : Log) → ConnRepresents values ready.conn log
    → returns_before_put_out (log_view log) ≡ false → IsOk result) → result ≡ Err refused
    → WritesOut P values start now before new unused (Err error)
never_lost P may {values} now ready new result refused error so made returned free same =
    let there = writes_ready P may so ready made in
    let conn = there.represents.streams.conn in
    let log = there.after.log in
    absurd (not_good result refused same (free values log conn (returned values log conn)))

-- Where none waits then, all of the output was written.
pub writes_all : (P : EndLog → Type 0) {values : Values} {start now : Traffic} {before : EndLog}
    {ready : End} {unused : List ℕ} (rounds : ℕ) (done : Unit {0})
    → ((values : Values) (log : Log) → ConnRepresents values ready.conn log → 0 ≡ waiting log)
    → ((values : Values) (log : Log) → ConnRepresents values ready.conn log
    → returns_before_put_out (log_view log) ≡ false)
    → WritesOn P values start now before ready unused (rounds + 1)
    → WritesOut P values start now before ready unused (Ok done)
unfolding waiting output
writes_all P {values} {start} {now} rounds done none kept so =
    let log = so.after.log in
    let conn = so.represents.streams.conn in
    let some = none values log conn in
    let all : given_out log ≡ log.written =
    all_given log refl (omega (arith, some, given_within so.represents)) in
    record {
      after = so.after;
      happened = so.happened;
      represents = so.represents;
      same = so.same;
      given = so.linked.given;
      taken = record {
        all = all;
        taken = rw (← all) so.linked.taken;
        returned = λ up. no_credit_due log up (sym some) (kept values log conn);
      };
      turns = omega (arith, so.turns);
      stalls = tt;
      sent = so.sent;
    }

-- So it is where nothing more is tried, since there were as many rounds as may be.
pub writes_no_more : (P : EndLog → Type 0) {values : Values} {start now : Traffic}
    {before : EndLog} {new : End} {unused : List ℕ} {rounds : ℕ} → 2 ^ 64 - 1 ≤ rounds
    → WritesOn P values start now before new unused rounds
    → WritesOut P values start now before new unused (Err errors.NoProgress)
writes_no_more P {start} {now} all so =
    record {
      after = so.after;
      happened = so.happened;
      represents = so.represents;
      same = so.same;
      given = so.linked.given;
      taken = given_first start now so.after.log so.linked.taken;
      turns = omega (arith, all, so.turns);
      stalls = inr (omega (arith, all, so.turns));
      sent = so.sent;
    }
