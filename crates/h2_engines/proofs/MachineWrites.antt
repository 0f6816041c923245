-- What waits is written, whatever has happened at an end or a machine, and over its link.
use Rattle.h2_engines.proofs.Names.{ℕ, List, Log, Values, Result, End, EndLog, EndRepresents}
use Rattle.h2_engines.proofs.Names.{LinkError, Traffic, HasGiven, IsLinked, Happens, IsWrittenOut}
use Rattle.h2_engines.proofs.Names.{MessageState, HasPutOutSince, WritesOut, WritesOver}
use Rattle.h2_engines.proofs.Names.{WritesWaiting}
use Rattle.h2_engines.specs.Sending.{puts_more, puts_none}
use Rattle.h2_engines.proofs.MachineLaws.{puts_at}
use Rattle.h2_engines.proofs.ResponderWrites.{MayPutOut, WritesOn}

-- The link took all that the end has given out, in so many rounds, whatever had happened.
abbrev pub WritesFrom : (before now : Traffic) → (old new : End) → (rounds : ℕ) → Type 0
WritesFrom before now old new rounds =
    (values : Values) (start : Traffic) (end : EndLog) (unused : List ℕ)
    → EndRepresents values old end → IsLinked start before end.log unused
    → WritesOn (HasPutOutSince end) values start now end new unused rounds

-- Where output was put out since, more may be.
pub puts_since : (before : EndLog) → MayPutOut (HasPutOutSince before)
puts_since before end count answer since typed may = puts_more end count answer since typed may

-- What may have happened at an end still may have where only output was put out since;
holds_since : (P : EndLog → Type 0) → MayPutOut P → {before after : EndLog} → P before
    → HasPutOutSince before after → P after
holds_since P may was puts_none = was
holds_since P may was (puts_more end count answer since typed answers) =
    may end count answer (holds_since P may was since) typed answers

-- so it may have once the end was written out,
pub written_out : (P : EndLog → Type 0) → MayPutOut P → {values : Values} {start now : Traffic}
    {before : EndLog} {new : End} {unused : List ℕ} {result : Result (Unit {0}) LinkError}
    → P before → WritesOut (HasPutOutSince before) values start now before new unused result
    → WritesOut P values start now before new unused result
written_out P may was wrote =
    record {
      after = wrote.after;
      happened = holds_since P may was wrote.happened;
      represents = wrote.represents;
      same = wrote.same;
      given = wrote.given;
      taken = wrote.taken;
      turns = wrote.turns;
      stalls = wrote.stalls;
      sent = wrote.sent;
    }

-- also at a machine.
pub waiting_written : (before now : Traffic) (old new : End) (kept : MessageState)
    (result : Result (Unit {0}) LinkError) → WritesOver before now old new result
    → WritesWaiting before now (record { end = old; kept = kept })
    (record { end = new; kept = kept }) result
waiting_written before now old new kept result writes course end unused is was linked =
    written_out (Happens course kept) (puts_at course kept) was
    (writes course.values course.start end unused is linked)

-- Where all that waits was written, the link took all that was given out.
pub written_links : {start now : Traffic} {log : Log} (unused : List ℕ)
    → HasGiven start now log unused → IsWrittenOut start now log → IsLinked start now log unused
written_links {start} {now} unused given written =
    record {
      given = given;
      taken = rw written.all written.taken;
    }
