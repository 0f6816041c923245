-- After every step that a log may take a machine that represents it represents the log after it.
use Rattle.h2_laws_machine.proofs.Names
use Names.{◌≡◌, ℕ, List, AreInRange, Option, sym, subst, Frame, Role, Values, Decoded, Log}
use Names.{took_frame, took_none, IsLog, begins, took_some, took_one, met_fault, ran_out_of_memory}
use Names.{reported_one, called_one, End, new_end, after_frame, close_unprocessed, Represents}
use Names.{log_represents, TakesOctets, TakesPart, TakesFrame, TakesFault, MayRunOutOfMemory}
use Names.{IsDecodedFor, MachineStep, uses_part, ends_frame, meets_fault, runs_out_of_memory}
use Names.{is_called, MayStep, machine_after}
use Rattle.h2_laws_machine.specs.Machines.{reports_unprocessed, log_after}
use Rattle.h2_laws_machine.proofs.FreshNumbers.{calls_represent}
use Rattle.h2_laws_machine.proofs.NewEnd.{new_represents}
use Rattle.h2_laws_machine.proofs.NextUnprocessed.{next_same}
use Rattle.h2_laws_machine.proofs.RecvFrames.{frame_represents}
use Rattle.h2_laws_machine.proofs.RecvUnprocessed.{unprocessed_represents}
use Rattle.h2_laws_machine.proofs.RecvWithoutFrame.{part_represents, fault_represents}
use Rattle.h2_laws_machine.proofs.RecvWithoutFrame.{out_of_memory_represents}
use Rattle.h2_laws_machine.proofs.SoundLogs.{sound_log}

-- After a frame a machine represents the log with it.
pub frames_represent : (values : Values) (e : End) (log : Log) (octets : List ℕ) (frame : Frame)
    (decoded : Option Decoded) → Represents values e log → TakesOctets log
    → TakesFrame log.role log octets frame → IsDecodedFor log decoded frame
    → Represents values (after_frame e decoded frame) (took_frame log octets decoded frame)
frames_represent values e log octets frame decoded s takes read sees =
    frame_represents values e log octets frame decoded (sound_log e.role values log s.came takes.up)
    s takes read sees

-- After every step a machine represents the log with it.
pub steps_represent : (values : Values) (e : End) (log : Log) (step : MachineStep)
    → Represents values e log → MayStep log step
    → Represents values (machine_after e step) (log_after log step)
unfolding MayStep log_after machine_after
steps_represent values e log (uses_part octets unparsed) s (takes, part) =
    part_represents values e log octets unparsed s takes part
steps_represent values e log (ends_frame octets frame decoded) s (takes, read, sees) =
    frames_represent values e log octets frame decoded s takes read sees
steps_represent values e log (meets_fault octets fault) s (takes, at) =
    fault_represents values e log octets fault s takes at
steps_represent values e log (runs_out_of_memory octets) s (up, may) =
    out_of_memory_represents values e log octets s up may
steps_represent values e log reports_unprocessed s (up, some) =
    subst (λ (i : ℕ). Represents values (close_unprocessed e i) (took_none log))
    (sym (next_same values e log s up)) (unprocessed_represents values e log s up some)
steps_represent values e log (is_called act answer) s (typed, may) =
    calls_represent values e log act answer s typed may

-- What of machines a new end has, and every step keeps, a machine of each log has.
module _ (role : Role) (values : Values) (P : End → Type 0)
    (new : AreInRange values → P (new_end role values))
    (kept : (e : End) (log : Log) (step : MachineStep) → Represents values e log
    → MayStep log step → P e → P (machine_after e step)) where
  -- A machine that represents a log, and has it.
  abbrev HasMachine : Log → Type 0
  HasMachine log = (e : End) × Represents values e log × P e

  -- A step leads from a machine of a log to one.
  stepped : (log : Log) (step : MachineStep) → IsLog role values log
      → (log.role ≡ role → MayStep log step) → HasMachine log → HasMachine (log_after log step)
  stepped log step came may (e, s, has) =
      let may_now = may (log_represents role values log came).own in (
        machine_after e step,
        steps_represent values e log step s may_now,
        kept e log step s may_now has,
      )

  pub every_log_has : (log : Log) → IsLog role values log → HasMachine log
  unfolding MayStep log_after
  every_log_has _ (begins in_range) =
      (new_end role values, new_represents role values in_range, new in_range)
  every_log_has _ (took_some {log = log} is takes octets unparsed read) =
      stepped log (uses_part octets unparsed) is
      (λ own. (takes, subst (λ (r : Role). TakesPart r log octets unparsed) (sym own) read))
      (every_log_has log is)
  every_log_has _ (took_one {log = log} is takes octets frame decoded read sees) =
      stepped log (ends_frame octets frame decoded) is
      (λ own. (takes, subst (λ (r : Role). TakesFrame r log octets frame) (sym own) read, sees))
      (every_log_has log is)
  every_log_has _ (met_fault {log = log} is takes octets fault at) =
      stepped log (meets_fault octets fault) is
      (λ own. (takes, subst (λ (r : Role). TakesFault r log octets fault) (sym own) at))
      (every_log_has log is)
  every_log_has _ (ran_out_of_memory {log = log} is up octets may) =
      stepped log (runs_out_of_memory octets) is
      (λ own. (up, subst (λ (r : Role). MayRunOutOfMemory r log octets) (sym own) may))
      (every_log_has log is)
  every_log_has _ (reported_one {log = log} is up some) =
      stepped log reports_unprocessed is (λ own. (up, some)) (every_log_has log is)
  every_log_has _ (called_one {log = log} is act answer typed may) =
      stepped log (is_called act answer) is (λ own. (typed, may)) (every_log_has log is)

-- Of each log that comes about there is a machine that represents it.
pub every_log_has_machine : (role : Role) (values : Values) (log : Log) → IsLog role values log
    → (e : End) × Represents values e log
every_log_has_machine role values log is =
    let (e, s, any) = every_log_has role values (λ e. Unit {0}) (λ in_range. tt)
    (λ e log step s may has. tt) log is in (e, s)
