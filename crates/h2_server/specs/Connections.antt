-- What a call makes of a served connection.
use Rattle.std.specs.Prelude.{◌≡◌, ◌≢◌, ◌⊎◌, ◌+◌, ◌*◌, ◌-◌, ◌^◌, ◌↔◌, ℕ, Bool, true, false, Option}
use Rattle.std.specs.Prelude.{Some, None, if◌then◌else◌, min, max, nat_le, nat_lt, ◌==◌, ◌&&◌, ◌||◌}
use Rattle.std.specs.Prelude.{not, List, [], ◌++◌, take, drop, length, Result, Ok, Err, is_ok}
use Rattle.std.specs.Prelude.{is_some, option_map}
use Rattle.h2_frame.specs.declared.code.Code.TheVariants.{EnhanceYourCalm, NoError}
use Rattle.h2_spec_log.specs.declared.refusal.Refusal.{Refusal}
use Rattle.h2_spec_log.specs.Acts.{Done, Fail, SendGoAway, Values, Widen}
use Rattle.h2_spec_log.specs.Acts as log
use Rattle.h2_spec_log.specs.Counted.{counted, empty_among, resets_among}
use Rattle.h2_spec_log.specs.Counted.{pings_among, settings_among}
use Rattle.h2_spec_log.specs.Limits.{full_output}
use Rattle.h2_spec_log.specs.Log.{Log, reader_held, reader_next_live, waiting}
use Rattle.h2_conn.specs.declared.conn.Conn.{Conn}
use Rattle.h2_conn.specs.Conn.{ConnRepresents, answer_by, octets_queued}
use Rattle.h2_ends.specs.declared.end.End.{End}
use Rattle.h2_ends.specs.Ends.{EndLog}
use Rattle.h2_ends.specs.Represents.{EndAnswers, EndRepresents}
use Rattle.h2_host.specs.declared.party.Bound.TheVariants as bounds
use Rattle.h2_host.specs.declared.party.Own.{Own}
use Rattle.h2_host.specs.declared.party.Own.TheVariants as owns
use Rattle.h2_host.specs.Turns.{most_taken}
use Rattle.h2_server.specs.declared.connection.Connection.{Connection}
use Rattle.h2_server.specs.declared.connection.Phase.{Phase}
use Rattle.h2_server.specs.declared.connection.Phase.TheVariants.{Open, Ending, Failing, Over}
use Rattle.h2_server.specs.declared.deadlines.Activity.{Activity}
use Rattle.h2_server.specs.declared.deadlines.Deadlines.{Deadlines}
use Rattle.h2_server.specs.declared.deadlines.Timeout.{Timeout}
use Rattle.h2_server.specs.declared.deadlines.Timeout.TheVariants as timeouts
use Rattle.h2_server.specs.declared.floods.Flood.{Flood}
use Rattle.h2_server.specs.declared.floods.FloodCounts.{FloodCounts}
use Rattle.h2_server.specs.declared.limits.ConnectionLimits.{ConnectionLimits}
use Rattle.h2_server.specs.declared.reason.CloseReason.{CloseReason}
use Rattle.h2_server.specs.declared.reason.CloseReason.TheVariants as reasons
use Rattle.h2_server.specs.declared.stop.Stop.{Stop}
use Rattle.h2_server.specs.declared.watch.Watch.{Watch}
use Rattle.h2_server.specs.Activity.{IsActivity}
use Rattle.h2_server.specs.Deadlines.{overdue_of}
use Rattle.h2_server.specs.Deferring.{IsPending}
use Rattle.h2_server.specs.Exchanges.{IsEmptied, Relations, awake, exchange_at}
use Rattle.h2_server.specs.Exchanges.{handling_of}
use Rattle.h2_server.specs.Failing.{FailsServerWith, HasNotFailed, IsSameOrStopped, IsUpSo}
use Rattle.h2_server.specs.Failing.{KeepsUpSo, LateFails, NotesCode, NotesFailed, StaysReady}
use Rattle.h2_server.specs.Failing.{StoppedBy}
use Rattle.h2_server.specs.Floods.{flood_of}
use Rattle.h2_server.specs.Phases.{is_phase_down, is_phase_failing, is_phase_open, is_phase_over}
use Rattle.h2_server.specs.Sending.{HasNothing, SendsAgain}
use Rattle.h2_server.specs.Steps.{Handles, HandlesPiece, Steps}
use Rattle.h2_server.specs.Watching.{readiness_after, watch_noted, watch_passed}

-- the octets that have come, and are kept for a later turn
abbrev pub input_kept : {H W : Type 0} → Connection H W → List ℕ
input_kept connection = drop connection.used connection.kept.items

-- Where it is failing, its server has failed: so nothing that its client sends is taken any more.
-- rule: hosts (own) A connection ends for what is above its budget
abbrev pub FailsSo : Phase → EndLog → Type 0
FailsSo phase end = is_phase_failing phase ≡ true → is_some end.log.failed ≡ true

-- What was made of a connection at whose server this had happened: steps of the server with its
-- handler. The octets that came, after those that were kept, were used in this order; what was not
-- used is kept, or dropped by one that is down. These octets of the output were given out. What was
-- handed out was told to the handler, unless memory was refused: then the connection is closed.
-- rule: hosts (own) A connection uses the octets that came to it, in order
pub record MadeSo {H W : Type 0} (rel : Relations H W) (came gone : List ℕ) (values : Values)
    (end : EndLog) (old new : Connection H W) : Type 0 where
  pub used : List ℕ
  pub rest : List ℕ
  pub order : input_kept old ++ came ≡ used ++ rest
  pub kept : (rest ≡ input_kept new) ⊎ (is_phase_down new.phase ≡ true)
  pub loses : Bool
  pub closed : loses ≡ true → is_phase_over new.phase ≡ true
  pub after : EndLog
  pub steps : Steps rel loses after (handling_of new.exchanges) used gone end
      (handling_of old.exchanges)
  pub represents : EndRepresents values new.server.end after
  pub failing : FailsSo old.phase end → FailsSo new.phase after

abbrev pub Makes : {H W : Type 0} → Relations H W → (came gone : List ℕ)
    → (old new : Connection H W) → Type 0
Makes rel came gone old new =
    (values : Values) (end : EndLog) → EndRepresents values old.server.end end
    → MadeSo rel came gone values end old new

-- The same where no octets were used: what was kept is kept, or dropped by one that is down.
pub record MadeOwn {H W : Type 0} (rel : Relations H W) (gone : List ℕ) (values : Values)
    (end : EndLog) (old new : Connection H W) : Type 0 where
  pub kept : (input_kept new ≡ input_kept old) ⊎ (is_phase_down new.phase ≡ true)
  pub loses : Bool
  pub closed : loses ≡ true → is_phase_over new.phase ≡ true
  pub after : EndLog
  pub steps : Steps rel loses after (handling_of new.exchanges) [] gone end
      (handling_of old.exchanges)
  pub represents : EndRepresents values new.server.end after
  pub failing : FailsSo old.phase end → FailsSo new.phase after

abbrev pub MakesOwn : {H W : Type 0} → Relations H W → (gone : List ℕ)
    → (old new : Connection H W) → Type 0
MakesOwn rel gone old new =
    (values : Values) (end : EndLog) → EndRepresents values old.server.end end
    → MadeOwn rel gone values end old new

-- Where its handler had been told that each exchange of one that is down is over, it has been told
-- so of one that is down now.
-- rule: handlers (own) Of each exchange a handler learns once that it is over, and why
abbrev pub KeepsTold : {H W : Type 0} → (old new : Connection H W) → Type 0
KeepsTold old new =
    (is_phase_down old.phase ≡ true → IsEmptied (handling_of old.exchanges))
    → is_phase_down new.phase ≡ true → IsEmptied (handling_of new.exchanges)

-- First octets of those that were kept were used, and the others are kept; or the connection can't
-- go on once some were.
abbrev pub TakesOfKept : {H W : Type 0} → Relations H W → (old : Connection H W)
    → Result (Unit {0}) Stop → (new : Connection H W) → Type 0
TakesOfKept rel old (Ok done) new =
    (used : List ℕ) × Handles rel used old.server.end (handling_of old.exchanges) new.server.end
    (handling_of new.exchanges) × (input_kept old ≡ used ++ input_kept new)
TakesOfKept rel old (Err stop) new =
    HandlesPiece rel (input_kept old) old.server.end (handling_of old.exchanges) new.server.end
    (handling_of new.exchanges) (Err stop)

-- where it is once it begins to shut down: where it was, unless it was open; it fails, where GOAWAY
-- was refused
abbrev pub phase_left : Phase → CloseReason → (time : ℕ) → (new : Phase) → Type 0
phase_left Open why time new = (new ≡ Ending why time) ⊎ (new ≡ Failing why time)
phase_left phase why time new = new ≡ phase

-- GOAWAY was refused, so the connection has failed with NO_ERROR.
pub record FailsAway (old new : End) : Type 0 where
  pub refusal : Refusal
  pub mid : End
  pub refused : EndAnswers old SendGoAway (log.Refused refusal) mid
  pub answer : log.Answer
  pub failed : EndAnswers mid (Fail NoError) answer new

-- One that was open has queued a GOAWAY, and has not failed; where that was refused, it has.
-- rule: hosts (own) A connection that is asked to end sends GOAWAY
abbrev pub GoesAway : {H W : Type 0} → (old new : Connection H W) → Type 0
GoesAway old new = is_phase_open old.phase ≡ true
    → (EndAnswers old.server.end SendGoAway Done new.server.end × (is_phase_down new.phase ≡ false))
    ⊎ ((is_phase_down new.phase ≡ true) × FailsAway old.server.end new.server.end)

-- Its exchanges are as they were, unless it is down.
abbrev pub KeepsExchanges : {H W : Type 0} → (old new : Connection H W) → Type 0
KeepsExchanges old new = (is_phase_down new.phase ≡ true) ⊎ (new.exchanges ≡ old.exchanges)

-- One that has been idle for too long, and was open, goes away.
-- rule: hosts (own) A connection ends for what has taken too long
abbrev pub IdleGoesAway : {H W : Type 0} → Own → (old new : Connection H W) → Type 0
IdleGoesAway (owns.Passed now) old new =
    overdue_of old.watch.deadlines old.watch.limits.times (max old.watch.time now)
    ≡ Some timeouts.Idle → GoesAway old new
IdleGoesAway own old new = Unit {0}

-- Of each exchange its handler, if it had no part, may be asked again.
abbrev pub WakesEach : {H W : Type 0} → (old new : Connection H W) → Type 0
WakesEach old new = (id : ℕ) → id ≢ 0 → exchange_at id new.exchanges.kept.entries
    ≡ option_map awake (exchange_at id old.exchanges.kept.entries)

-- It may, once the transport is ready, and once time has passed, unless the connection is down
-- then.
abbrev pub AsksAgain : {H W : Type 0} → Own → (old new : Connection H W) → Type 0
AsksAgain (owns.Ready reads writes) old new = WakesEach old new
AsksAgain (owns.Passed now) old new = (is_phase_down new.phase ≡ true) ⊎ WakesEach old new
AsksAgain own old new = Unit {0}

-- The server of one that is refused is failed with ENHANCE_YOUR_CALM.
abbrev pub RefusesSo : {H W : Type 0} → Own → (old new : Connection H W) → Type 0
RefusesSo (owns.Refused bound) old new = FailsServerWith EnhanceYourCalm old new
RefusesSo own old new = Unit {0}

-- It is where it was, or memory was refused; one that is closed is where it was.
abbrev pub IsSameOrRefused : (old new : Phase) → Type 0
IsSameOrRefused (Over why) new = new ≡ Over why
IsSameOrRefused phase new = (new ≡ phase) ⊎ (new ≡ Over (reasons.Refused bounds.Memory))

-- Where it is once something has taken too long.
abbrev pub phase_late : Option Timeout → Phase → (time : ℕ) → (new : Phase) → Type 0
phase_late None phase time new = new ≡ phase
phase_late (Some timeouts.Idle) phase time new =
    phase_left phase (reasons.Late timeouts.Idle) time new
phase_late (Some late) phase time new = new ≡ Failing (reasons.Late late) time

-- where one that closes is once time has passed: closed, once it has had its time to close
abbrev pub phase_closing : Phase → CloseReason → (since : ℕ) → ConnectionLimits → (time : ℕ)
    → Phase
phase_closing phase why since limits time =
    if nat_le limits.closing (time - since) then Over why else phase

-- Where it is once time has passed: it ends for what is overdue, and for nothing else; and is
-- closed once it has had its time to close.
-- rule: hosts (own) A connection ends for what has taken too long
abbrev pub phase_passed : Phase → Deadlines → ConnectionLimits → (time : ℕ) → (new : Phase)
    → Type 0
phase_passed Open deadlines limits time new =
    phase_late (overdue_of deadlines limits.times time) Open time new
phase_passed (Ending why since) deadlines limits time new =
    new ≡ phase_closing (Ending why since) why since limits time
phase_passed (Failing why since) deadlines limits time new =
    new ≡ phase_closing (Failing why since) why since limits time
phase_passed (Over why) deadlines limits time new = new ≡ Over why

-- Where a call alone leaves it.
abbrev pub MakesPhase : {H W : Type 0} → Own → (old : Connection H W) → (new : Phase) → Type 0
MakesPhase (owns.Passed now) old new =
    phase_passed old.phase old.watch.deadlines old.watch.limits (max old.watch.time now) new
MakesPhase (owns.Refused bound) old new = new ≡ Over (reasons.Refused bound)
MakesPhase owns.Lost old new = new ≡ Over reasons.Lost
MakesPhase owns.Came old new = IsSameOrStopped old.phase old.watch.time new
MakesPhase owns.Turn old new = IsSameOrStopped old.phase old.watch.time new
MakesPhase (owns.Went count) old new = IsSameOrRefused old.phase new × StaysReady old new
MakesPhase own old new = new ≡ old.phase

-- This is what the client has sent that asks for work and brings nothing, and so many streams were
-- reset for a fault of it.
pub record AreCounts (conn : Conn) (refused : ℕ) (counts : FloodCounts) : Type 0 where
  pub resets : (values : Values) (log : Log) → ConnRepresents values conn log
      → counts.resets ≡ counted (resets_among log.frames)
  pub empty : (values : Values) (log : Log) → ConnRepresents values conn log
      → counts.empty ≡ counted (empty_among log.frames)
  pub so_many : counts.refused ≡ refused
  pub replies : (values : Values) (log : Log) → ConnRepresents values conn log
      → counts.replies ≡ counted (pings_among log.frames) * 17
      + counted (settings_among log.frames) * 9

-- how many octets of bodies were sent and have come; no more than 2^64 - 1 are counted
abbrev pub moved_of : {H W : Type 0} → Connection H W → ℕ
moved_of connection =
    min (2 ^ 64 - 1) (connection.exchanges.totals.sent + connection.exchanges.totals.body)

-- Whether enough of them were since its time to close was counted.
-- rule: hosts (own) A connection that ends goes on as long as bodies move
abbrev pub has_moved : {H W : Type 0} → Connection H W → Bool
has_moved connection =
    nat_le connection.watch.limits.least_closing (moved_of connection - connection.watch.moved)

-- what is watched of it once that was looked at: if so, they are counted anew
abbrev pub watch_moved : {H W : Type 0} → Connection H W → Watch
watch_moved connection =
    if has_moved connection then record connection.watch { moved = moved_of connection }
    else connection.watch

-- since when its time to close counts then
abbrev pub since_moved : {H W : Type 0} → Connection H W → (since : ℕ) → ℕ
since_moved connection since = if has_moved connection then connection.watch.time else since

-- All of its output was written, all octets that came were used, nothing more is noted to be sent,
-- and no answer, nor a part of one, is waited for.
pub record IsAllSent {H W : Type 0} (connection : Connection H W) : Type 0 where
  pub written : octets_queued connection.server.end.conn ≡ []
  pub used : input_kept connection ≡ []
  pub nothing : (values : Values) (log : Log)
      → ConnRepresents values connection.server.end.conn log → HasNothing log connection.exchanges
  pub answered : IsPending connection.exchanges.kept.entries false

-- Where one that is open, and whose server has not failed, is after a call: it ends for what is a
-- flood; and it is closed only where its client has ended its side, and nothing waits.
abbrev pub NotesOpen : {H W : Type 0} → Option Flood → (old : Connection H W) → (new : Phase)
    → Type 0
NotesOpen (Some flood) old new = new ≡ Failing (reasons.Flood flood) old.watch.time
NotesOpen None old new =
    (new ≡ Open)
    ⊎ ((new ≡ Over reasons.Ended) × (old.readiness.ended ≡ true) × IsAllSent old)

-- Whether all of its output was written, and no stream is active.
abbrev pub IsConnectionDrained : {H W : Type 0} → Connection H W → Bool → Type 0
IsConnectionDrained connection drained =
    (values : Values) (log : Log) → ConnRepresents values connection.server.end.conn log
    → (drained ≡ true) ↔ ((waiting log ≡ 0) × (reader_next_live log 0 ≡ None))

-- Where one that shuts down, and is not drained, is after a call at a time.
abbrev pub GoesOnEnding : Option Flood → (time : ℕ) → CloseReason → (since : ℕ) → (new : Phase)
    → Type 0
GoesOnEnding None time why since new = new ≡ Ending why since
GoesOnEnding (Some flood) time why since new = new ≡ Failing (reasons.Flood flood) time

-- Where one that shuts down is after a call: failing, where its server has failed; else closed once
-- it is drained, and not before.
-- rule: hosts (own) A connection ends for what is above its budget
abbrev pub NotesEnding : {H W : Type 0} → (old : Connection H W) → CloseReason → (since : ℕ)
    → (new : Phase) → Type 0
NotesEnding old why since new =
    NotesFailed old new
    ⊎ (HasNotFailed old × ((IsConnectionDrained old true × (new ≡ Over why))
    ⊎ (IsConnectionDrained old false × ((counts : FloodCounts)
    × AreCounts old.server.end.conn old.exchanges.totals.refused counts
    × GoesOnEnding (flood_of old.watch.budget.before counts old.watch.limits.floods)
    old.watch.time why since new))))

-- Where one that has failed is after a call: closed once it is drained, and not before.
abbrev pub NotesFailing : {H W : Type 0} → (old : Connection H W) → CloseReason → (since : ℕ)
    → (new : Phase) → Type 0
NotesFailing old why since new =
    (IsConnectionDrained old true × (new ≡ Over why))
    ⊎ (IsConnectionDrained old false × (new ≡ Failing why since))

-- Where what follows from a call leaves it.
-- rule: hosts (own) A connection ends for what is above its budget
-- rule: hosts (own) A connection that ends goes on as long as bodies move
abbrev pub NotesPhaseFrom : {H W : Type 0} → Phase → (old : Connection H W) → (new : Phase)
    → Type 0
NotesPhaseFrom Open old new =
    NotesFailed old new
    ⊎ (HasNotFailed old × ((counts : FloodCounts)
    × AreCounts old.server.end.conn old.exchanges.totals.refused counts
    × NotesOpen (flood_of old.watch.budget.before counts old.watch.limits.floods) old new))
NotesPhaseFrom (Ending why since) old new = NotesEnding old why (since_moved old since) new
NotesPhaseFrom (Failing why since) old new = NotesFailing old why (since_moved old since) new
NotesPhaseFrom (Over why) old new = new ≡ Over why

abbrev pub NotesPhase : {H W : Type 0} → (old : Connection H W) → (new : Phase) → Type 0
NotesPhase old new = NotesPhaseFrom old.phase old new

-- What is watched of it once that was noted: while it is open, since when what goes on now does;
-- while it closes, what has moved; and nothing else changes.
-- rule: hosts (own) A connection ends for what has taken too long
-- rule: hosts (own) A connection that ends goes on as long as bodies move
abbrev pub NotesWatch : {H W : Type 0} → Phase → (old : Connection H W) → (new : Watch) → Type 0
NotesWatch Open old new =
    (activity : Activity) × IsActivity old activity × (new ≡ watch_noted old.watch activity)
NotesWatch (Ending why since) old new = new ≡ watch_moved old
NotesWatch (Failing why since) old new = new ≡ watch_moved old
NotesWatch (Over why) old new = new ≡ old.watch

-- Whether no octets are kept for a later turn.
abbrev pub keeps_none : {H W : Type 0} → Connection H W → Bool
keeps_none connection = nat_le (length connection.kept.items) connection.used

-- What is watched after a call in which this was given out: the time, with the budget of it, and
-- how much has gone.
abbrev pub WatchesBy : {H W : Type 0} → Own → (gone : List ℕ) → (old : Connection H W)
    → (new : Watch) → Type 0
WatchesBy (owns.Passed now) gone old new =
    (counts : FloodCounts) × AreCounts old.server.end.conn old.exchanges.totals.refused counts
    × (new ≡ watch_passed old.watch counts now)
WatchesBy (owns.Went count) gone old new =
    new ≡ record old.watch { went = min (2 ^ 64 - 1) (old.watch.went + length gone) }
WatchesBy own gone old new = new ≡ old.watch

-- the octets that come with a call
abbrev pub octets_with : Own → List ℕ → List ℕ
octets_with owns.Came octets = octets
octets_with own octets = []

-- What is given out of the output: as many of its first octets as were written; none where that
-- was refused, and the connection is closed; and none in any other call.
-- rule: hosts (own) A connection gives out what has gone of its output, and nothing else
abbrev pub GivesGone : {H W : Type 0} → Own → (old : Connection H W) → (gone : List ℕ)
    → (new : Connection H W) → Type 0
GivesGone (owns.Went count) old gone new =
    (gone ≡ take count (octets_queued old.server.end.conn))
    ⊎ ((gone ≡ []) × (is_phase_over new.phase ≡ true))
GivesGone own old gone new = gone ≡ []

-- Whether it takes octets: its client has not ended its side, none are kept that came before, it
-- has neither failed nor is closed, and less than 65,536 octets of its output wait.
-- rule: hosts (own) A connection takes octets while it is up and little of its output waits
abbrev pub takes_now : {H W : Type 0} → Connection H W → Log → Bool
takes_now connection log =
    not connection.readiness.ended && (length connection.kept.items == 0
    && (not (is_phase_down connection.phase || is_some log.failed)
    && nat_lt (waiting log) full_output))

abbrev pub TakesNow : {H W : Type 0} → Connection H W → Bool → Type 0
TakesNow connection answer =
    (values : Values) (log : Log) → ConnRepresents values connection.server.end.conn log
    → answer ≡ takes_now connection log

-- How many octets it takes, at most: two frames have as many whose payloads have 16,384 octets, but
-- for what is held of an incomplete frame, and one has them at least; none where it takes none. So
-- a read that is full ends where a frame ends, if a long body comes in such frames.
-- rule: hosts (own) The frames of a long body are read whole
abbrev pub read_size : {H W : Type 0} → Connection H W → Log → ℕ
read_size connection log =
    if takes_now connection log then most_taken - min (reader_held log) 16393 else 0

abbrev pub ReadsNow : {H W : Type 0} → Connection H W → ℕ → Type 0
ReadsNow connection size =
    (values : Values) (log : Log) → ConnRepresents values connection.server.end.conn log
    → size ≡ read_size connection log

-- Where nothing can be sent, nothing is noted to be.
abbrev pub SendsSo : {H W : Type 0} → Connection H W → (sends : Bool) → Type 0
SendsSo connection sends = sends ≡ false → (values : Values) (log : Log)
    → ConnRepresents values connection.server.end.conn log → HasNothing log connection.exchanges

-- Whether it has something to do in a turn: it is not down, less than 65,536 octets of its output
-- wait, and octets were kept or something can be sent.
abbrev pub wants_turn : {H W : Type 0} → Connection H W → Log → (sends : Bool) → Bool
wants_turn connection log sends =
    not (is_phase_down connection.phase) && (nat_lt (waiting log) full_output
    && (not (length connection.kept.items == 0) || sends))

abbrev pub WantsTurn : {H W : Type 0} → Connection H W → Bool → Type 0
WantsTurn connection answer =
    (sends : Bool) × SendsSo connection sends
    × ((values : Values) (log : Log) → ConnRepresents values connection.server.end.conn log
    → answer ≡ wants_turn connection log sends)

-- Whether it has something to do: output for a transport that can be written, room for octets of
-- one that can be read, or its turn.
abbrev pub has_to_do : {H W : Type 0} → Connection H W → Log → (sends : Bool) → Bool
has_to_do connection log sends =
    (connection.readiness.writes && nat_lt 0 (length (octets_queued connection.server.end.conn)))
    || ((connection.readiness.reads && takes_now connection log)
    || wants_turn connection log sends)

abbrev pub HasToDo : {H W : Type 0} → Connection H W → Bool → Type 0
HasToDo connection answer =
    (sends : Bool) × SendsSo connection sends
    × ((values : Values) (log : Log) → ConnRepresents values connection.server.end.conn log
    → answer ≡ has_to_do connection log sends)

-- the octets that it holds and that count: output that waits, an incomplete frame, what its handler
-- and its answers hold, and input that was kept
abbrev pub octets_held : {H W : Type 0} → Connection H W → Log → ℕ
octets_held connection log =
    min (2 ^ 64 - 1) (waiting log + reader_held log + connection.exchanges.totals.held
    + length connection.kept.items)

-- What it holds, and whether it has something to do, are counted: one that is closed holds none and
-- is ready.
-- rule: hosts (own) What a connection holds is its output, input, requests and answers
pub record IsCounted {H W : Type 0} (connection : Connection H W) : Type 0 where
  pub none : is_phase_over connection.phase ≡ true → connection.holds ≡ 0
  pub ready : is_phase_over connection.phase ≡ true → connection.ready ≡ true
  pub holds : is_phase_over connection.phase ≡ false → (values : Values) (log : Log)
      → ConnRepresents values connection.server.end.conn log
      → connection.holds ≡ octets_held connection log
  pub has_to_do : is_phase_over connection.phase ≡ false → HasToDo connection connection.ready

-- A call was made, with these octets, and then what follows from it. One that is closed stays so.
pub record Calls {H W : Type 0} (rel : Relations H W) (own : Own) (octets : List ℕ)
    (old new : Connection H W) : Type 0 where
  pub mid : Connection H W
  pub gone : List ℕ
  pub makes : Makes rel octets gone old mid
  pub gives : GivesGone own old gone mid
  pub over : is_phase_over old.phase ≡ true → mid.phase ≡ old.phase
  pub made : is_phase_over old.phase ≡ false → MakesPhase own old mid.phase
  pub refused : is_phase_over old.phase ≡ false → RefusesSo own old mid
  pub idle : IdleGoesAway own old mid
  pub late : LateFails own old mid
  pub stopped : StoppedBy rel own old mid
  pub asks : AsksAgain own old mid
  pub sends : SendsAgain own mid.exchanges
  pub readiness : mid.readiness ≡ readiness_after own octets (keeps_none old) old.readiness
  pub watch : WatchesBy own gone old mid.watch
  pub notes : MakesOwn rel [] mid new
  pub noted : NotesPhase mid new.phase
  pub code : NotesCode mid new
  pub up : IsUpSo new
  pub told : KeepsTold old new
  pub same : new.readiness ≡ mid.readiness
  pub watched : NotesWatch mid.phase mid new.watch
  pub counted : IsCounted new

-- A connection was asked to shut down: only what may happen at a server with its handler has
-- happened, without input; one that is open shuts down from now on, since that was asked; and
-- nothing else has changed.
pub record ConnectionLeaves {H W : Type 0} (rel : Relations H W) (old new : Connection H W)
    : Type 0 where
  pub makes : MakesOwn rel [] old new
  pub goes_away : GoesAway old new
  pub kept : KeepsExchanges old new
  pub rest : is_phase_open old.phase ≡ false
      → new ≡ record old { holds = new.holds; ready = new.ready }
  pub told : KeepsTold old new
  pub phase : phase_left old.phase reasons.Asked old.watch.time new.phase
  pub up : KeepsUpSo old new
  pub readiness : new.readiness ≡ old.readiness
  pub watch : new.watch ≡ old.watch
  pub counted : IsCounted new

-- Whether it is open, octets of bodies have come, and a request is incomplete.
abbrev pub is_open_and_receiving : {H W : Type 0} → Connection H W → Bool
is_open_and_receiving connection =
    (is_phase_open connection.phase && nat_lt 0 connection.exchanges.totals.body)
    && nat_lt 0 connection.exchanges.totals.reading

-- Its window was widened by a call of the server, which was done or refused; and nothing else of it
-- has changed but what is counted.
-- rule: 6.9.2 (own) The window of the connection is widened by a call, for good
pub record ConnectionWidens {H W : Type 0} (old : Connection H W) (count : ℕ) (done : Bool)
    (new : Connection H W) : Type 0 where
  pub result : Result (Unit {0}) Refusal
  pub answers : EndAnswers old.server.end (Widen count) (answer_by (λ done. Done) result)
      new.server.end
  pub is_done : done ≡ is_ok result
  pub up : KeepsUpSo old new
  pub rest : new ≡ record old {
    server = new.server;
    holds = new.holds;
    ready = new.ready;
  }
