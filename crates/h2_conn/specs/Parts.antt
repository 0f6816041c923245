-- When the parts of a connection represent the log of an end, and the parts after octets are
-- taken.
use Rattle.std.specs.Prelude.{◌≡◌, ◌≤◌, ℕ, List, length, Option, None, Result}
use Rattle.hpack.specs.declared.types.field.Field.{Field}
use Rattle.h2_frame.specs.declared.code.Code.{Code}
use Rattle.h2_wire.specs.Cutter.{CutterState, CutterRepresents, saturated}
use Rattle.h2_spec_log.specs.Acts.{Values}
use Rattle.h2_spec_log.specs.Limits.{most_max_frame}
use Rattle.h2_spec_log.specs.Settings.{is_server}
use Rattle.h2_spec_log.specs.Log.{Log}
use Rattle.h2_spec_log.specs.LogSteps.{limits_from}
use Rattle.h2_spec_machine.specs.End.{End}
use Rattle.h2_spec_machine.specs.Represents.{Represents}
use Rattle.h2_laws_end.specs.Takes.{MayTake}
use Rattle.h2_conn.specs.declared.counts.Counts.{Counts}
use Rattle.h2_conn.specs.declared.taken.Progress.{Progress}
use Rattle.h2_conn.specs.Counts.{CountsFrames}
use Rattle.h2_conn.specs.Events.{answer_progress}
use Rattle.h2_conn.specs.declared.why.Why.{Why}
use Rattle.h2_conn.specs.Why.{IsWhy}

-- The machine represents the log. As long as the connection hasn't failed, the cutter has returned
-- the log's frames, with the limits in force, and keeps what is unparsed. Its place is always that
-- of the last octet used, the log's frames are always counted, and the reason of a failure is kept.
pub record PartsRepresent (values : Values) (cutter : CutterState) (counts : Counts)
    (why : Option Why) (e : End) (log : Log) : Type 0 where
  pub machine : Represents values e log
  pub cut : log.failed ≡ None → CutterRepresents cutter (is_server log.role) (limits_from log)
      log.input log.frames
  pub unparsed : log.failed ≡ None → cutter.unparsed ≡ log.unparsed
  -- the greatest limit of payloads that it has had
  pub greatest : log.failed ≡ None → cutter.greatest ≤ most_max_frame
  -- after a failure too
  pub place : cutter.place ≡ saturated (length log.input)
  pub counted : CountsFrames counts log.frames
  pub reason : IsWhy values log why

-- Whatever log the parts represent: the answer is one that a call of `take` may give after it, and
-- they represent the log with that call.
abbrev pub PartsTake : (cutter : CutterState) (counts : Counts) (why : Option Why) (e : End)
    → List ℕ → List Field → List ℕ → Result Progress Code → (new_cutter : CutterState)
    (new_counts : Counts) (new_why : Option Why) (new : End) → Type 0
PartsTake cutter counts why e piece list octets result new_cutter new_counts new_why new =
    (values : Values) (log : Log) → PartsRepresent values cutter counts why e log
    → (after : Log) × MayTake log piece (answer_progress list octets result) after
    × PartsRepresent values new_cutter new_counts new_why new after
