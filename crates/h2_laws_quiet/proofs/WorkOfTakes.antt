-- A step that takes octets, or reports a stream as unprocessed, leaves no more work: what is
-- written in it are answers that were asked for, and credit.
use Rattle.h2_laws_log.proofs.GrowthBySteps.{holds_none, holds_unreturned}
use Rattle.h2_laws_log.proofs.PartsStay.{SameCalls, calls_read, calls_written, sent_calls}
use Rattle.h2_spec_log.specs.Log.{widened}
use Rattle.std.proofs.Common.{◌≡◌, ◌≢◌, inl, inr, ℕ, ◌+◌, true, List, [], ◌∷◌, ◌++◌}
use Rattle.std.proofs.Common.{Option, None, Some, refl, sym, ap, ◌∙◌, arith, append_assoc, subst}
use Rattle.std.specs.List.{AllByRecursion, Contains}
use Rattle.h2_frame.specs.Codes.{code_number}
use Rattle.h2_frame.specs.Frames.{Frame, WindowUpdate}
use Rattle.h2_frame.specs.declared.code.Code.{Code}
use Rattle.h2_frame.specs.declared.code.Code.TheVariants.{InternalError}
use Rattle.h2_wire.specs.Faults.{wire_fault_code}
use Rattle.h2_block.specs.Grouping.{Item, alone}
use Rattle.h2_spec_log.specs.Events.{Event, ResetEvent, UnprocessedEvent}
unfoldable use Rattle.h2_spec_log.specs.ItemEffects.{events_of}
use Rattle.h2_spec_log.specs.ItemRules.{Decoded, frame_step, replies_to}
use Rattle.h2_spec_log.specs.Items.{increment_on, stream_of_item, total}
use Rattle.h2_spec_log.specs.Log.{Log, last_processed, next_unprocessed}
unfoldable use Rattle.h2_spec_log.specs.LogSteps.{with_sent, used, with_frame}
use Rattle.h2_spec_log.specs.LogSteps.{read, with_reported, with_unreturned}
use Rattle.h2_spec_log.specs.LogSteps.{took_none}
use Rattle.h2_spec_log.specs.LogView.{log_view}
use Rattle.h2_spec_log.specs.Verdicts.{Verdict, StreamFault}
use Rattle.h2_laws_log.proofs.CreditCases.{credit_cases}
use Rattle.h2_laws_log.proofs.LogGrowth.{fails_down}
use Rattle.h2_laws_log.proofs.LogHistory.{History, reports_view, wrote_view}
use Rattle.h2_laws_log.proofs.WindowsOfTwoEnds.{total-append}
use Rattle.h2_laws_end.specs.Written.{IsCredit}
use Rattle.h2_laws_machine.specs.Machines.{MachineStep, uses_part, ends_frame, meets_fault}
use Rattle.h2_laws_machine.specs.Machines.{runs_out_of_memory, reports_unprocessed, is_called}
unfoldable use Rattle.h2_laws_machine.specs.Machines.{log_after}
use Rattle.h2_laws_pair.proofs.FrameSteps.{kept_by_step, has_item, with_item}
use Rattle.h2_laws_pair.proofs.StepsOfLogs.{IsNoCall}
use Rattle.h2_laws_quiet.specs.Work.{work_of_item}
use Rattle.h2_laws_quiet.proofs.WorkOfItems.{IsSomeUpdate, credit_work, replies_work}
use Rattle.h2_laws_quiet.proofs.WorkOfItems.{replies_return, IsAnswerItem, replies_answer}
use Rattle.h2_laws_quiet.proofs.WorkOfItems.{credit_answers}
use Rattle.h2_laws_pair.proofs.Lists.{all_both}
use Rattle.h2_laws_quiet.proofs.WorkOfLogs.{Drives, first_all}
unfoldable use Rattle.h2_laws_quiet.proofs.WorkOfLogs.{drives_none}

-- The end has reset no stream for a fault of the peer's.
abbrev pub NoStreamFault : Log → Type 0
NoStreamFault log = (id code : ℕ) → Contains log.reported (ResetEvent id code true) → ⊥

-- More becomes due: credit is written, or nothing.
record SendsCredit (log next : Log) : Type 0 where
  credit : List Item
  is_credit : IsCredit credit
  sent : next.sent ≡ credit ++ log.sent
  received : next.received ≡ log.received
  reported : next.reported ≡ log.reported

credit_added : (more : ℕ) (log : Log) → SendsCredit log (with_unreturned more log)
unfolding with_sent
credit_added more log =
    credit_cases (SendsCredit log) more log
    (λ returns. record {
      credit = alone (WindowUpdate 0 (log.unreturned + more)) ∷ [];
      is_credit = inr (log.unreturned + more, refl);
      sent = refl;
      received = refl;
      reported = refl;
    })
    (λ keeps. record {
      credit = [];
      is_credit = inl refl;
      sent = refl;
      received = refl;
      reported = refl;
    })

-- A step that takes octets leaves less work by what it returns, and writes nothing but answers.
pub record Takes (before after : Log) : Type 0 where
  pub drives : Drives before after 0
  pub returns : drives.margin ≡ total (increment_on 0) drives.written
  pub answers : AllByRecursion IsAnswerItem drives.written

-- Replies and credit do.
replied : (before after : Log) (item : Item) (verdict : Verdict) (credit : List Item)
    (events : List Event) → IsCredit credit → AllByRecursion IsSomeUpdate after.sent
    → ((code : Code) → verdict ≢ StreamFault code)
    → after.sent ≡ credit ++ (replies_to verdict item ++ before.sent)
    → after.received ≡ item ∷ before.received → after.reported ≡ events ++ before.reported
    → widened after.calls ≡ widened before.calls → Takes before after
unfolding total
replied before after item verdict credit events is some sound sent received reported wide =
    let replies = replies_to verdict item in
    let back = credit_work credit is (first_all credit (replies ++ before.sent)
    (subst (λ (items : List Item). AllByRecursion IsSomeUpdate items) sent some)) in
    let none = replies_return verdict item sound in
    record {
      drives = record {
        written = credit ++ replies;
        read = item ∷ [];
        events = events;
        sent = sent ∙ sym (append_assoc credit replies before.sent);
        received = received;
        reported = reported;
        as_wide = wide;
        margin = total (increment_on 0) (credit ++ replies);
        cheap = omega (
          arith,
          back,
          replies_work verdict item sound,
          none,
          total-append work_of_item credit replies,
          total-append (increment_on 0) credit replies,
        );
      };
      returns = refl;
      answers = all_both IsAnswerItem credit replies (credit_answers credit is)
          (replies_answer verdict item sound);
    }

-- Nothing is written or read.
takes_none : (before after : Log) → after.sent ≡ before.sent → after.received ≡ before.received
    → after.reported ≡ before.reported → widened after.calls ≡ widened before.calls
    → Takes before after
unfolding total drives_none
takes_none before after sent received reported wide =
    record {
      drives = drives_none before after 0 sent received reported wide;
      returns = refl;
      answers = tt;
    }

-- What is known of a log after a step: it is up, gives back some octets at least, and has reset no
-- stream for a fault.
record IsWell (log : Log) : Type 0 where
  up : log.failed ≡ None
  some : AllByRecursion IsSomeUpdate log.sent
  sound : NoStreamFault log

-- Where a stream was reset for a fault, that was reported.
pub no_fault : (log new : Log) (decoded : Option Decoded) (item : Item) (verdict : Verdict)
    (events : List Event) → new.reported ≡ events_of (log_view log) decoded verdict item ++ events
    → NoStreamFault new → (code : Code) → verdict ≢ StreamFault code
unfolding events_of
no_fault log new decoded item verdict events reported sound code is =
    sound (stream_of_item item) (code_number code)
    (subst (λ (line : List Event). Contains line (ResetEvent (stream_of_item item)
    (code_number code) true)) (sym (reported ∙ ap (λ (v : Verdict).
    events_of (log_view log) decoded v item ++ events) is)) (0, omega arith, refl))

-- A frame.
frame_drives : (log : Log) (octets : List ℕ) (decoded : Option Decoded) (frame : Frame)
    → IsWell (with_frame (used log octets []) decoded frame)
    → Takes log (with_frame (used log octets []) decoded frame)
unfolding with_frame used
frame_drives log octets decoded frame =
    let start = record (used log octets []) { frames = log.frames ++ frame ∷ [] } in
    kept_by_step (λ new. IsWell new → Takes log new) start decoded
    (frame_step (log_view (used log octets [])) frame) (record {
      failed = λ begun code last by well.
          absurd (fails_down code last (record start { begun = begun }) well.up);
      begun = λ begun is well. takes_none log (record start { begun = Some begun }) refl refl refl
          refl;
      read = λ item verdict more completes is up well.
          let open_log = record start { begun = None } in
          let new = with_item open_log decoded item verdict more in
          let has = has_item open_log decoded item verdict more in
          let sent = with_sent (read open_log decoded item) (replies_to verdict item) in
          let added = credit_added more sent in
          replied log new item verdict added.credit
          (events_of (log_view open_log) decoded verdict item) added.is_credit well.some
          (no_fault open_log new decoded item verdict log.reported has.reported well.sound)
          (ap (λ (v : History). v.sent) (reports_view (with_unreturned more sent) _)
          ∙ added.sent ∙ ap (λ (items : List Item). added.credit ++ items)
          (ap (λ (v : History). v.sent) (wrote_view (read open_log decoded item)
          (replies_to verdict item))))
          has.received has.reported
          (ap (λ (v : History). widened v.calls) (reports_view (with_unreturned more sent) _)
          ∙ ap widened (holds_unreturned SameCalls calls_written.writes more sent
          ∙ sent_calls (read open_log decoded item) (replies_to verdict item)));
    })

-- A stream that is reported as unprocessed.
none_drives : (log : Log) → IsWell (took_none log) → Takes log (took_none log)
unfolding total with_reported
none_drives log well =
    let added = credit_added _ log in
    let back = credit_work added.credit added.is_credit (first_all added.credit log.sent
    (subst (λ (items : List Item). AllByRecursion IsSomeUpdate items) added.sent well.some)) in
    record {
      drives = record {
        written = added.credit;
        read = [];
        events = UnprocessedEvent (next_unprocessed log) ∷ [];
        sent = added.sent;
        received = added.received;
        reported = ap (λ (events : List Event). UnprocessedEvent (next_unprocessed log) ∷ events)
            added.reported;
        as_wide = ap widened (holds_none SameCalls calls_read log);
        margin = total (increment_on 0) added.credit;
        cheap = omega (arith, back);
      };
      returns = refl;
      answers = credit_answers added.credit added.is_credit;
    }

-- So is each step that is no call.
pub takes_drive : (log : Log) (step : MachineStep) → IsNoCall step
    → (log_after log step).failed ≡ None → AllByRecursion IsSomeUpdate (log_after log step).sent
    → NoStreamFault (log_after log step) → Takes log (log_after log step)
unfolding log_after used
takes_drive log (uses_part octets unparsed) none up some sound =
    takes_none log (used log octets unparsed) refl refl refl refl
takes_drive log (ends_frame octets frame decoded) none up some sound =
    frame_drives log octets decoded frame (record { up = up; some = some; sound = sound })
takes_drive log (meets_fault octets fault) none up some sound =
    absurd (fails_down (wire_fault_code fault) (last_processed log) (used log octets []) up)
takes_drive log (runs_out_of_memory octets) none up some sound =
    absurd (fails_down InternalError (last_processed log) (used log octets []) up)
takes_drive log reports_unprocessed none up some sound =
    none_drives log (record { up = up; some = some; sound = sound })
takes_drive log (is_called act answer) none up some sound = absurd (none act answer refl)
