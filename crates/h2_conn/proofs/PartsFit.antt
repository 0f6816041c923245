-- The parts of a connection, but for why it has failed.
use Rattle.std.specs.Prelude.{◌≡◌, ◌≤◌, length, Option, None}
use Rattle.h2_wire.specs.Cutter.{CutterState, CutterRepresents, saturated}
use Rattle.h2_spec_log.specs.Acts.{Values}
use Rattle.h2_spec_log.specs.Limits.{most_max_frame}
use Rattle.h2_spec_log.specs.Settings.{is_server}
use Rattle.h2_spec_log.specs.Log.{Log}
use Rattle.h2_spec_log.specs.LogSteps.{limits_from}
use Rattle.h2_spec_machine.specs.End.{End}
use Rattle.h2_spec_machine.specs.Represents.{Represents}
use Rattle.h2_conn.specs.declared.counts.Counts.{Counts}
use Rattle.h2_conn.specs.declared.why.Why.{Why}
use Rattle.h2_conn.specs.Counts.{CountsFrames}
use Rattle.h2_conn.specs.Parts.{PartsRepresent}
use Rattle.h2_conn.specs.Why.{IsWhy}

-- What `PartsRepresent` says, without the reason of a failure.
pub record PartsFit (values : Values) (cutter : CutterState) (counts : Counts) (e : End)
    (log : Log) : Type 0 where
  pub machine : Represents values e log
  pub cut : log.failed ≡ None → CutterRepresents cutter (is_server log.role) (limits_from log)
      log.input log.frames
  pub unparsed : log.failed ≡ None → cutter.unparsed ≡ log.unparsed
  pub greatest : log.failed ≡ None → cutter.greatest ≤ most_max_frame
  pub place : cutter.place ≡ saturated (length log.input)
  pub counted : CountsFrames counts log.frames

-- They fit where they represent the log.
pub fit_of : (values : Values) (cutter : CutterState) (counts : Counts) (why : Option Why)
    (e : End) (log : Log) → PartsRepresent values cutter counts why e log
    → PartsFit values cutter counts e log
fit_of values cutter counts why e log p =
    record {
      machine = p.machine;
      cut = p.cut;
      unparsed = p.unparsed;
      greatest = p.greatest;
      place = p.place;
      counted = p.counted;
    }

-- With the reason they represent it.
pub with_reason : (values : Values) (cutter : CutterState) (counts : Counts) (why : Option Why)
    (e : End) (log : Log) → PartsFit values cutter counts e log → IsWhy values log why
    → PartsRepresent values cutter counts why e log
with_reason values cutter counts why e log p reason =
    record {
      machine = p.machine;
      cut = p.cut;
      unparsed = p.unparsed;
      greatest = p.greatest;
      place = p.place;
      counted = p.counted;
      reason = reason;
    }
