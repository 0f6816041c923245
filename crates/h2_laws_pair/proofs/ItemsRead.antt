-- What an end that is up has read of the octets of another are the first of the items that this
-- one has sent.
use Rattle.h2_laws_end.proofs.OutputPrefixes.{output_begins}
use Rattle.h2_laws_pair.proofs.Names
use Names.{◌≡◌, ◌⊎◌, inl, inr, ℕ, not, Bool, List, [], ◌∷◌, ◌++◌, Option, None, refl, sym, ◌∙◌}
use Names.{arith, append_assoc, append-nil, InternalError, wire_fault_code, Frames, one_reading_lem}
use Names.{Item, Groups, one_grouping_lem, Role, Values, is_server, Log, oldest_first, log_view}
use Names.{used, with_step, with_frame, Decoded, FrameStep, frame_step, IsLog, items_grouped}
use Names.{groups_now, reads_fails, reads_unprocessed, MachineStep, uses_part, ends_frame}
use Names.{meets_fault, runs_out_of_memory, reports_unprocessed, is_called, log_after, Half}
use Names.{AreUnderWay}
use Rattle.h2_laws_pair.proofs.BothWays.{AreEnds}
use Rattle.h2_laws_pair.proofs.StepsOfLogs.{IsNoCall}
use Rattle.h2_laws_pair.proofs.FrameSteps.{has_item, kept_by_step}
use Rattle.h2_laws_pair.proofs.WiderLimits.{wider_limits, read_widely}

-- Items with others, the oldest first.
oldest_append : (newer older : List Item)
    → oldest_first (newer ++ older) ≡ oldest_first older ++ oldest_first newer
oldest_append [] older = sym (append-nil (oldest_first older))
oldest_append (item ∷ newer) older = rw (oldest_append newer older, append_assoc) refl

-- Twice, the newest stand first again.
oldest_twice : (items : List Item) → oldest_first (oldest_first items) ≡ items
oldest_twice [] = refl
oldest_twice (item ∷ items) =
    rw (oldest_append (oldest_first items) (item ∷ []), oldest_twice items) refl

-- Where those that were received are the oldest of those that were sent, the others stand before.
pub newest_before : (sent received later : List Item)
    → oldest_first sent ≡ oldest_first received ++ later → sent ≡ oldest_first later ++ received
newest_before sent received later is =
    sym (oldest_twice sent)
    ∙ rw (is, oldest_append (oldest_first received) later, oldest_twice received) refl

-- The frames of an end that is up, with limits with which the output of its peer is read too.
pub frames_received : (role : Role) (values : Values) (log : Log) (expects : Bool)
    → is_server role ≡ expects → IsLog role values log → log.failed ≡ None
    → Frames expects (wider_limits log) log.input log.frames log.unparsed
frames_received role values log expects same is up = rw same at (read_widely role values log is up)

-- What an end that is up has received, where its input begins the output of the other.
pub received_first : (writer reader : Half) (rest : List ℕ) → AreEnds writer reader
    → writer.log.written ≡ reader.log.input ++ rest → reader.log.failed ≡ None
    → (way : List Item) × AreUnderWay writer.log reader.log way
received_first writer reader rest ends joined up =
    let expects = not (is_server ends.writer_role) in
    let limits = wider_limits reader.log in
    let prefix = output_begins _ _ writer.log limits reader.log.input rest ends.writer_log joined
    (λ place. omega arith) in
    let framed = frames_received _ _ reader.log expects ends.opposite ends.reader_log up in
    let grouped = groups_now reader.log (items_grouped _ _ reader.log ends.reader_log) up in
    let one = one_reading_lem expects limits reader.log.input prefix.frames reader.log.frames
    prefix.unparsed reader.log.unparsed prefix.read framed in
    let groups : Groups reader.log.frames prefix.items prefix.begun = rw one.0 at prefix.groups in
    let same = one_grouping_lem reader.log.frames prefix.items
    (oldest_first reader.log.received) prefix.begun reader.log.begun groups grouped in (
      oldest_first prefix.later,
      newest_before writer.log.sent reader.log.received prefix.later
          (rw (prefix.first, same.0) refl),
    )

-- An end has received the same as in a first log, or is up.
abbrev SameOrUp : Log → Log → Type 0
SameOrUp old new = (new.received ≡ old.received) ⊎ (new.failed ≡ None)

-- After what a frame makes of the block that has begun.
frame_step_same_or_up : (log : Log) (decoded : Option Decoded) (step : FrameStep)
    → log.failed ≡ None → SameOrUp log (with_step log decoded step)
frame_step_same_or_up log decoded step up =
    kept_by_step (SameOrUp log) log decoded step (record {
      failed = λ begun code last fails.
          inl (reads_fails code last (record log { begun = begun })).received;
      begun = λ begun same. inl refl;
      read = λ item verdict more completed same none.
          inr ((has_item (record log { begun = None }) decoded item verdict more).failed ∙ up);
    })

-- After a step that is no call.
pub step_same_or_up : (log : Log) (step : MachineStep) → IsNoCall step → log.failed ≡ None
    → SameOrUp log (log_after log step)
unfolding log_after used with_frame
step_same_or_up log (uses_part octets unparsed) none up = inl refl
step_same_or_up log (ends_frame octets frame decoded) none up =
    frame_step_same_or_up (record (used log octets []) { frames = log.frames ++ frame ∷ [] })
    decoded (frame_step (log_view (used log octets [])) frame) up
step_same_or_up log (meets_fault octets fault) none up =
    inl (reads_fails (wire_fault_code fault) _ (used log octets [])).received
step_same_or_up log (runs_out_of_memory octets) none up =
    inl (reads_fails InternalError _ (used log octets [])).received
step_same_or_up log reports_unprocessed none up = inl (reads_unprocessed log).received
step_same_or_up log (is_called act answer) none up = absurd (none act answer refl)
