-- Frames for which no memory is refused.
use Rattle.h2_laws_end.proofs.Names
use Names.{◌≡◌, WindowUpdate, Continuation, meets_fault, ProtocolError, grouping_step, may_be_first}
use Names.{◌≢◌, List, ◌++◌, Option, Frame, alone, Begun, Failed, MayTake, grouped, to_keep, to_take}
use Names.{◌∙◌, ℕ, Some, None, refl, sym, ap, Data, Ping, Log, View, not, ◌&&◌}
use Names.{true, BlockFault, next_fault, TakeAnswer, has_failed, ends_frame, fails_with, frame_step}
use Names.{false, Headers, none_some, log_view, NoEvent, Reported, cond_both, verdict_of, to_report}
use Names.{InternalError, reports_unprocessed, ends_no_frame, runs_out_of_memory, verdict_by_rules}
use Rattle.h2_frame.specs.Frames.{Priority, Unknown}
use Rattle.h2_spec_log.specs.Histories.{LacksMemory}
use Rattle.h2_spec_log.specs.Memory.{frame_needs_memory, needs_memory, step_needs_memory}
use Rattle.h2_laws_end.specs.Promises.{NeedsNoMemory, IsFree}
use Rattle.h2_laws_end.proofs.NotInternal.{frame_up}
use Rattle.h2_laws_end.proofs.OneTake.{frame_fault, same_ends}
use Rattle.h2_laws_end.proofs.ReadVerdicts.{by_limits}

-- Such a piece lacks no memory.
lacks_none : (log : Log) (piece octets unused : List ℕ) → piece ≡ octets ++ unused
    → NeedsNoMemory log piece → LacksMemory log.role log octets unused → ⊥
lacks_none log piece octets unused joined promised (to_report none some due) =
    some promised.takes.all_reported
lacks_none log piece octets unused joined promised (to_keep none takes keeps) =
    let all : piece ≡ unused = joined ∙ ap (λ (o : List ℕ). o ++ unused) none in
    keeps.cut_in_two (rw all at promised.begins)
lacks_none log piece octets unused joined promised (to_take takes frame ends needs) =
    let same = (same_ends log piece promised.octets promised.unused octets unused promised.frame
    frame promised.joined joined promised.ends ends).1 in
    let wrong : true ≡ false =
    sym needs ∙ ap (frame_needs_memory log) (sym same) ∙ promised.needs_none in
    cc

-- Such a piece isn't answered with INTERNAL_ERROR.
pub never_out_of_memory : (log after : Log) (piece : List ℕ) (answer : TakeAnswer)
    → MayTake log piece answer after → NeedsNoMemory log piece → answer ≢ Failed InternalError
never_out_of_memory log after piece answer (has_failed code down says same) promised = λ is.
    none_some code (sym promised.takes.up ∙ down)
never_out_of_memory log after piece answer (reports_unprocessed up some says same) promised = λ is.
    some promised.takes.all_reported
never_out_of_memory log after piece answer (ends_no_frame takes unparsed part says same) promised =
    λ is. cc
never_out_of_memory log after piece answer
    (ends_frame takes octets unused joined frame decoded ends sees same answers) promised = λ is.
    frame_up log octets decoded frame takes.up
    (ap (λ (l : Log). l.failed) (sym same) ∙ rw is at answers)
never_out_of_memory log after piece answer
    (meets_fault takes octets unused joined fault at says same) promised = λ is.
    frame_fault log piece promised.octets promised.unused octets unused promised.frame fault
    promised.ends at promised.joined joined
never_out_of_memory log after piece answer
    (runs_out_of_memory up octets unused joined may says same) promised = λ is.
    lacks_none log piece octets unused joined promised may

-- Frames of these kinds take none.
limited_free : (view : View) (frame : Frame)
    → needs_memory view (verdict_by_rules view None (alone frame)) (alone frame) ≡ false
    → needs_memory view (verdict_of view None (alone frame)) (alone frame) ≡ false
limited_free view frame free =
    by_limits (λ verdict. needs_memory view verdict (alone frame) ≡ false) _ None _ refl free

item_free : (view : View) (frame : Frame) → IsFree view frame
    → needs_memory view (verdict_of view None (alone frame)) (alone frame) ≡ false
unfolding verdict_of verdict_by_rules
item_free view (Priority stream octets) free = limited_free view (Priority stream octets) refl
item_free view (Unknown kind flags stream payload) free =
    limited_free view (Unknown kind flags stream payload) refl
item_free view (Ping true octets) free =
    limited_free view (Ping true octets) (cond_both _ Reported NoEvent
    (λ verdict. needs_memory view verdict (alone (Ping true octets)) ≡ false) (λ awaited. refl)
    (λ other. refl))
item_free view (WindowUpdate stream increment) free = rw free refl
item_free view (Data stream false octets pad) free = rw free refl
item_free view other free = absurd free

grouped_free : (view : View) (begun : Option Begun) (frame : Frame) → IsFree view frame
    → step_needs_memory view (grouped begun frame) ≡ false
unfolding grouped
grouped_free view begun (Headers stream end whole fragment pad priority) free = absurd free
grouped_free view begun (Continuation stream whole fragment) free = absurd free
grouped_free view None frame free = item_free view frame free
grouped_free view (Some begun) frame free = item_free view frame free

grouping_free : (view : View) (begun : Option Begun) (frame : Frame) (fault : Option BlockFault)
    → IsFree view frame → step_needs_memory view (grouping_step begun frame fault) ≡ false
unfolding grouping_step
grouping_free view begun frame (Some fault) free = refl
grouping_free view begun frame None free = grouped_free view begun frame free

pub free_frame : (log : Log) (frame : Frame)
    → IsFree (log_view (record log { begun = None })) frame → frame_needs_memory log frame ≡ false
unfolding frame_step
free_frame log frame free =
    cond_both (not (log_view log).started && not (may_be_first frame)) (fails_with ProtocolError) _
    (λ step. step_needs_memory (log_view (record log { begun = None })) step ≡ false)
    (λ stray. refl) (λ comes. grouping_free (log_view (record log { begun = None })) log.begun frame
    (next_fault log.begun frame) free)
