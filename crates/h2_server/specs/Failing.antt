-- When the server of a connection has failed, with which code a connection fails, and when a write
-- does not close it.
use Rattle.std.specs.Prelude.{◌≡◌, ◌≢◌, ◌⊎◌, ℕ, true, false, max, Option, Some, None}
use Rattle.h2_frame.specs.declared.code.Code.{Code}
use Rattle.h2_frame.specs.declared.code.Code.TheVariants.{EnhanceYourCalm, SettingsTimeout}
use Rattle.h2_spec_log.specs.Acts.{Answer, Fail, Values}
use Rattle.h2_spec_log.specs.CallRules.{returns_before_put_out}
use Rattle.h2_spec_log.specs.Log.{Log}
use Rattle.h2_spec_log.specs.LogView.{log_view}
use Rattle.h2_conn.specs.Conn.{ConnRepresents}
use Rattle.h2_ends.specs.Ends.{EndLog}
use Rattle.h2_ends.specs.Represents.{EndAnswers, EndRepresents}
use Rattle.h2_host.specs.declared.party.Bound.TheVariants as bounds
use Rattle.h2_host.specs.declared.party.Own.{Own}
use Rattle.h2_host.specs.declared.party.Own.TheVariants as owns
use Rattle.h2_server.specs.declared.connection.Connection.{Connection}
use Rattle.h2_server.specs.declared.connection.Phase.{Phase}
use Rattle.h2_server.specs.declared.connection.Phase.TheVariants.{Failing, Over}
use Rattle.h2_server.specs.declared.deadlines.Timeout.{Timeout}
use Rattle.h2_server.specs.declared.deadlines.Timeout.TheVariants as timeouts
use Rattle.h2_server.specs.declared.reason.CloseReason.TheVariants as reasons
use Rattle.h2_server.specs.declared.stop.Stop.{Stop}
use Rattle.h2_server.specs.declared.stop.Stop.TheVariants as stops
use Rattle.h2_server.specs.Deadlines.{overdue_of}
use Rattle.h2_server.specs.Exchanges.{Relations, handling_of}
use Rattle.h2_server.specs.Phases.{is_phase_down, is_phase_failing, is_phase_open}
use Rattle.h2_server.specs.Steps.{HandlesAny}

-- Its server has not failed.
abbrev pub HasNotFailed : {H W : Type 0} → Connection H W → Type 0
HasNotFailed connection =
    (values : Values) (log : Log) → ConnRepresents values connection.server.end.conn log
    → log.failed ≡ None

-- Its server has failed with this code.
abbrev pub IsFailedWith : {H W : Type 0} → Code → Connection H W → Type 0
IsFailedWith code connection =
    (values : Values) (log : Log) → ConnRepresents values connection.server.end.conn log
    → log.failed ≡ Some code

-- The code with which its server has failed is this one, or there is none.
abbrev pub IsFailureOf : {H W : Type 0} → Connection H W → (failed : Option Code) → Type 0
IsFailureOf connection failed =
    (values : Values) (log : Log) → ConnRepresents values connection.server.end.conn log
    → log.failed ≡ failed

-- While it is open, or shuts down gracefully, its server has not failed.
-- rule: hosts (own) A connection ends for what is above its budget
abbrev pub IsUpSo : {H W : Type 0} → Connection H W → Type 0
IsUpSo connection = is_phase_down connection.phase ≡ false → HasNotFailed connection

-- Where the server of one that was up had not failed, that of one that is up has not failed, if it
-- represented some log before.
abbrev pub KeepsUpSo : {H W : Type 0} → (old new : Connection H W) → Type 0
KeepsUpSo old new =
    (values : Values) (end : EndLog) → EndRepresents values old.server.end end → IsUpSo old
    → IsUpSo new

-- Its server was failed with this code: GOAWAY with it is queued, unless it had failed before (RFC
-- 9113, section 5.4.1).
abbrev pub FailsServerWith : {H W : Type 0} → Code → (old new : Connection H W) → Type 0
FailsServerWith code old new =
    (answer : Answer) × EndAnswers old.server.end (Fail code) answer new.server.end

-- Its output was made ready: no credit of the connection's window has to be returned before more
-- of it is given out (RFC 9113, section 6.9).
abbrev pub IsOutputReady : {H W : Type 0} → Connection H W → Type 0
IsOutputReady connection =
    (values : Values) × (log : Log) × ConnRepresents values connection.server.end.conn log
    × (returns_before_put_out (log_view log) ≡ false)

-- One whose output was ready is where it was once some was written.
-- rule: hosts (own) A connection gives out what has gone of its output, and nothing else
abbrev pub StaysReady : {H W : Type 0} → (old : Connection H W) → (new : Phase) → Type 0
StaysReady old new = IsOutputReady old → new ≡ old.phase

-- the code with which one fails for what has taken too long
-- rule: hosts (own) A connection ends for what has taken too long
abbrev pub late_code : Timeout → Code
late_code timeouts.Opening = SettingsTimeout
late_code late = EnhanceYourCalm

-- One that was open fails for what is overdue at a time with its code; an idle one goes away.
-- rule: hosts (own) A connection ends for what has taken too long
abbrev pub LateFailsAt : {H W : Type 0} → (time : ℕ) → (old new : Connection H W) → Type 0
LateFailsAt time old new = is_phase_open old.phase ≡ true → (late : Timeout)
    → late ≢ timeouts.Idle
    → overdue_of old.watch.deadlines old.watch.limits.times time ≡ Some late
    → FailsServerWith (late_code late) old new

abbrev pub LateFails : {H W : Type 0} → Own → (old new : Connection H W) → Type 0
LateFails (owns.Passed now) old new = LateFailsAt (max old.watch.time now) old new
LateFails own old new = Unit {0}

-- One that was up, and fails in what follows from a call, fails for a flood with ENHANCE_YOUR_CALM,
-- or since its server has failed, with its code.
-- rule: hosts (own) A connection ends for what is above its budget
abbrev pub NotesCodeIn : {H W : Type 0} → Phase → (old new : Connection H W) → Type 0
NotesCodeIn (Failing (reasons.Flood flood) since) old new =
    HasNotFailed old × FailsServerWith EnhanceYourCalm old new
NotesCodeIn (Failing (reasons.Failed code) since) old new = IsFailedWith code old
NotesCodeIn (Failing why since) old new = ⊥
NotesCodeIn phase old new = Unit {0}

abbrev pub NotesCode : {H W : Type 0} → (old new : Connection H W) → Type 0
NotesCode old new = is_phase_down old.phase ≡ false → NotesCodeIn new.phase old new

-- Its server has failed, and so it fails with that code.
-- rule: hosts (own) A connection ends for what is above its budget
abbrev pub NotesFailed : {H W : Type 0} → (old : Connection H W) → (new : Phase) → Type 0
NotesFailed old new =
    (code : Code) × IsFailedWith code old × (new ≡ Failing (reasons.Failed code) old.watch.time)

-- where it is once it can't go on, and its server has failed with this code, or has not
abbrev pub phase_stopped : Stop → (failed : Option Code) → (time : ℕ) → Phase
phase_stopped stops.Failed (Some code) time = Failing (reasons.Failed code) time
phase_stopped stops.Failed None time = Over (reasons.Refused bounds.Memory)
phase_stopped stops.TooManyResets failed time = Failing (reasons.Failed EnhanceYourCalm) time
phase_stopped stops.Memory failed time = Over (reasons.Refused bounds.Memory)

-- It is there, by whether its server has failed.
abbrev pub StopsAt : {H W : Type 0} → Stop → (old : Connection H W) → (new : Phase) → Type 0
StopsAt stop old new = (failed : Option Code) × IsFailureOf old failed
    × (new ≡ phase_stopped stop failed old.watch.time)

-- It is where it was, or it can't go on; one that is down is where it was.
abbrev pub IsSameOrStopped : (old : Phase) → (time : ℕ) → (new : Phase) → Type 0
IsSameOrStopped (Over why) time new = new ≡ Over why
IsSameOrStopped (Failing why since) time new = new ≡ Failing why since
IsSameOrStopped phase time new =
    (new ≡ phase)
    ⊎ ((stop : Stop) × (failed : Option Code) × (new ≡ phase_stopped stop failed time))

-- One that can't go on fails with the code with which its server had failed, or is failed with
-- ENHANCE_YOUR_CALM.
-- rule: hosts (own) A connection ends for what is above its budget
abbrev pub StopsCode : {H W : Type 0} → Phase → (old new : Connection H W) → Type 0
StopsCode (Failing (reasons.Failed code) since) old new =
    IsFailedWith code old ⊎ ((code ≡ EnhanceYourCalm) × FailsServerWith code old new)
StopsCode phase old new = Unit {0}

abbrev pub StopsByCode : {H W : Type 0} → (old new : Connection H W) → Type 0
StopsByCode old new = StopsCode new.phase old new

-- One that was up, and fails, had come to a state by steps of its server with its handler, and
-- could not go on there.
-- rule: hosts (own) A connection ends for what is above its budget
pub record StoppedAt {H W : Type 0} (rel : Relations H W) (old new : Connection H W) : Type 0 where
  pub mid : Connection H W
  pub handles : HandlesAny rel old.server.end (handling_of old.exchanges) mid.server.end
      (handling_of mid.exchanges)
  pub stops : StopsByCode mid new

abbrev pub Stopped : {H W : Type 0} → Relations H W → (old new : Connection H W) → Type 0
Stopped rel old new = is_phase_down old.phase ≡ false → is_phase_failing new.phase ≡ true
    → StoppedAt rel old new

-- Input and a turn may stop it.
abbrev pub StoppedBy : {H W : Type 0} → Relations H W → Own → (old new : Connection H W) → Type 0
StoppedBy rel owns.Came old new = Stopped rel old new
StoppedBy rel owns.Turn old new = Stopped rel old new
StoppedBy rel own old new = Unit {0}
