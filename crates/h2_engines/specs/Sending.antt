-- What an end sends over a link, whatever has happened at it: credit, what waits of messages, and
-- its output.
-- contract: h2_engines::send_waiting
use Rattle.std.specs.Prelude.{◌≡◌, ◌≢◌, ◌⊎◌, ◌<◌, List, ℕ, length, None, Result, Ok, Err}
use Rattle.h2_spec_log.specs.declared.refusal.Refusal.TheVariants.{Memory, OutputFull}
use Rattle.h2_spec_log.specs.Acts.{Values, Answer, Done, PutOut, Refused, IsTypedAct, Release}
use Rattle.h2_spec_log.specs.Log.{owed}
use Rattle.h2_spec_log.specs.LogCalls.{MayAnswer, with_call}
use Rattle.h2_ends.specs.declared.end.End.{End}
use Rattle.h2_ends.specs.declared.refusal.EndRefusal.{EndRefusal}
use Rattle.h2_ends.specs.declared.refusal.EndRefusal.TheVariants.{Conn}
use Rattle.h2_ends.specs.EndCalls.{MayPump, MayReleaseAll}
use Rattle.h2_ends.specs.EndTakes.{end_with_log}
use Rattle.h2_ends.specs.Ends.{EndLog}
use Rattle.h2_ends.specs.Represents.{EndRepresents}
use Rattle.h2_link.specs.declared.error.LinkError.{LinkError}
use Rattle.h2_link.specs.declared.error.LinkError.TheVariants as errors
use Rattle.h2_engines.specs.declared.sending.Credit.{Credit}
use Rattle.h2_engines.specs.declared.sending.Credit.TheVariants.{All, Kept, On}
use Rattle.h2_engines.specs.Linked.{Traffic, HasGiven, IsLinked, StallsWriting}
use Rattle.h2_engines.specs.Serves.{HasSentAll}
use Rattle.h2_engines.specs.ServerSteps.{IsSameOfMessages, TookBy}

-- how a call that releases credit on a stream is answered
abbrev pub released_by : Result (Unit {0}) EndRefusal → Answer → Type 0
released_by (Ok done) answer = answer ≡ Done
released_by (Err (Conn refusal)) answer = answer ≡ Refused refusal
released_by (Err refusal) answer = ⊥

-- All that is owed on a stream is released, by one call, unless it is refused; no call is made
-- where nothing is owed there.
-- rule: engines (own) A response that is waited for has its window, and no other
pub data ReleasesOn (end : EndLog) (id : ℕ) (result : Result (Unit {0}) EndRefusal) (after : EndLog)
    : Type 0 where
  owes_none : owed end.log id ≡ 0 → result ≡ Ok tt → after ≡ end → ReleasesOn end id result after
  releases_owed : (answer : Answer) → owed end.log id ≢ 0
      → IsTypedAct (Release id (owed end.log id))
      → MayAnswer end.log (Release id (owed end.log id)) answer → released_by result answer
      → after ≡ end_with_log end (with_call end.log (Release id (owed end.log id)) answer)
      → ReleasesOn end id result after

-- what returning credit may have made of an end; nothing where it is kept
-- rule: engines (own) A response that is waited for has its window, and no other
abbrev pub MayReturnCredit : Credit → EndLog → Result (Unit {0}) EndRefusal → EndLog → Type 0
MayReturnCredit All end result after = MayReleaseAll end result after
MayReturnCredit (On id) end result after = ReleasesOn end id result after
MayReturnCredit Kept end result after = (result ≡ Ok tt) × (after ≡ end)

-- Whatever has happened at an end, this credit is returned while the connection is up.
abbrev pub ReturnsCredit : Credit → (old new : End) → Result (Unit {0}) EndRefusal → Type 0
ReturnsCredit credit old new result =
    (values : Values) (end : EndLog) → EndRepresents values old end → end.log.failed ≡ None
    → (after : EndLog) × MayReturnCredit credit end result after × EndRepresents values new after

-- What an end has sent: while the connection is up this credit was returned, and what could be
-- sent was, but for what a full output holds back; or one of these calls was refused for memory,
-- and no call was made after it; once it has failed, nothing.
-- rule: engines (own) Over a link credit is returned and what could be sent is sent
pub data HasSentWaiting (credit : Credit) (before after : EndLog) : Result (Unit {0}) LinkError
    → Type 0 where
  sends_nothing : before.log.failed ≢ None → after ≡ before
      → HasSentWaiting credit before after (Ok tt)
  sends_more : (middle : EndLog) (released : Result (Unit {0}) EndRefusal) (sent : ℕ)
      → before.log.failed ≡ None → MayReturnCredit credit before released middle
      → (released ≡ Ok tt) ⊎ (released ≡ Err (Conn OutputFull))
      → MayPump middle (Ok sent) after → HasSentWaiting credit before after (Ok tt)
  returns_none : (error : LinkError) → error ≡ errors.Memory → before.log.failed ≡ None
      → MayReturnCredit credit before (Err (Conn Memory)) after
      → HasSentWaiting credit before after (Err error)
  pumps_no_more : (middle : EndLog) (released : Result (Unit {0}) EndRefusal) (error : LinkError)
      → error ≡ errors.Memory → before.log.failed ≡ None
      → MayReturnCredit credit before released middle
      → (released ≡ Ok tt) ⊎ (released ≡ Err (Conn OutputFull))
      → MayPump middle (Err (Conn Memory)) after → HasSentWaiting credit before after (Err error)

abbrev pub SendsWaiting : Credit → (old new : End) → Result (Unit {0}) LinkError → Type 0
SendsWaiting credit old new result =
    (values : Values) (end : EndLog) → EndRepresents values old end
    → (after : EndLog) × EndRepresents values new after × HasSentWaiting credit end after result

-- Output was put out since, and nothing else has happened.
-- rule: engines (own) Over a link input is used in order and all output is written
pub data HasPutOutSince (before : EndLog) : EndLog → Type 0 where
  puts_none : HasPutOutSince before before
  puts_more : (end : EndLog) (count : ℕ) (answer : Answer) → HasPutOutSince before end
      → IsTypedAct (PutOut count) → MayAnswer end.log (PutOut count) answer
      → HasPutOutSince before (end_with_log end (with_call end.log (PutOut count) answer))

-- The end was written out, or as far as it went, in a turn at least. Where nothing more could be
-- sent, nothing can.
pub record WritesOut (P : EndLog → Type 0) (values : Values) (start now : Traffic)
    (before : EndLog) (new : End) (unused : List ℕ) (result : Result (Unit {0}) LinkError) : Type 0
  where
    pub after : EndLog
    pub happened : P after
    pub represents : EndRepresents values new after
    pub same : IsSameOfMessages before after
    pub given : HasGiven start now after.log unused
    pub taken : TookBy start now after.log result
    pub turns : length before.log.turns < length after.log.turns
    pub stalls : StallsWriting now after result
    pub sent : HasSentAll before → HasSentAll after

-- Whatever has happened at an end and over the link, what waits is written, or as far as that goes,
-- and nothing else happens.
-- rule: engines (own) Over a link input is used in order and all output is written
abbrev pub WritesOver : (before now : Traffic) → (old new : End) → Result (Unit {0}) LinkError
    → Type 0
WritesOver before now old new result =
    (values : Values) (start : Traffic) (end : EndLog) (unused : List ℕ)
    → EndRepresents values old end → IsLinked start before end.log unused
    → WritesOut (HasPutOutSince end) values start now end new unused result
