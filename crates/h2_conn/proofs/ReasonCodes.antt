-- The rule that fails a connection has the code with which it fails.
use Rattle.h2_conn.proofs.Names.{◌≡◌, ◌∙◌, ℕ, Bool, true, false, not, if◌then◌else◌, ◌||◌, nat_lt}
use Rattle.h2_conn.proofs.Names.{nat_le, List, [], ◌∷◌, ◌++◌, Option, Some, None, refl, sym, ap}
use Rattle.h2_conn.proofs.Names.{subst, Code, InternalError, Frame, Item, alone, block, Verdict}
use Rattle.h2_conn.proofs.Names.{ConnectionFault, Decoded, FrameStep, fails_with, begins_block}
use Rattle.h2_conn.proofs.Names.{completes, View, verdict_of, Role, Why}
use Rattle.h2_spec_log.specs.ItemRules.{frame_step}
use Rattle.h2_conn.proofs.Names.{none_some, Values, Log, log_view, used, with_sent, with_call}
use Rattle.h2_conn.proofs.Names.{Act, Answer}
use Rattle.h2_conn.proofs.Names.{Refuse, Refused, wire_fault_code, WireFault}
use Rattle.h2_conn.proofs.Names.{option_map, took_frame, ◌+◌}
use Rattle.h2_wire.proofs.ReadingLemmas.{one_some}
use Rattle.std.proofs.Common.{◌==◌, ◌&&◌}
use Rattle.std.proofs.lemmas.Bool.{cond_both}
use Rattle.h2_frame.specs.declared.code.Code.TheVariants.{ProtocolError, FlowControlError}
use Rattle.h2_frame.specs.declared.code.Code.TheVariants.{StreamClosed, CompressionError}
use Rattle.h2_frame.specs.declared.code.Code.TheVariants.{EnhanceYourCalm}
use Rattle.h2_frame.specs.Codes.{code_number}
use Rattle.h2_frame.specs.Frames.{Data, Headers, Settings, Ping, WindowUpdate}
use Rattle.h2_frame.specs.Frames.{Continuation, payload_fault, pads_too_much}
use Rattle.h2_frame.specs.Heads.{head_of, head_fault_code}
use Rattle.h2_frame.specs.declared.head_faults.HeadFault.{HeadFault}
use Rattle.h2_frame.specs.declared.head_faults.HeadFault.TheVariants as heads
use Rattle.h2_frame.specs.declared.heads.Head.{Head}
use Rattle.h2_wire.specs.Streams.{EndsWithFault, Limits}
use Rattle.h2_wire.specs.declared.fault.WireFault.TheVariants as wire
use Rattle.h2_block.specs.declared.fault.BlockFault.{BlockFault}
use Rattle.h2_block.specs.declared.fault.BlockFault.TheVariants as faults
use Rattle.h2_block.specs.Grouping.{Begun, next_fault}
use Rattle.h2_spec_log.specs.Acts.{OutOfMemory, Fail}
use Rattle.h2_spec_log.specs.CallRules.{refuse_fault, has_all_resets, reset_size}
use Rattle.h2_spec_log.specs.Limits.{max_output}
use Rattle.h2_spec_log.specs.LogSteps.{with_step, with_frame, with_verdict}
use Rattle.h2_spec_log.specs.LogCalls.{refused_with}
use Rattle.h2_spec_log.specs.LogView.{overflows}
use Rattle.h2_spec_log.specs.Verdicts.{StreamFault, NoEvent, Reported}
use Rattle.h2_spec_log.specs.ItemRules.{may_be_first}
use Rattle.h2_spec_log.specs.ItemRules.{grouped, grouping_step, exceeds, is_idle}
use Rattle.h2_frame.specs.Encoding.{payload_of}
use Rattle.std.proofs.Common.{length, drop}
use Rattle.h2_laws_machine.proofs.RecvFrames.{completes_frame}
use Rattle.h2_laws_end.proofs.Failures.{items_failed, replied_failed}
use Rattle.h2_conn.specs.Why.{code_of_why, rule_of_calm}
use Rattle.h2_conn.specs.Why.{rule_of_windows}
use Rattle.h2_conn.specs.Why.{rule_of_streams, rule_by_code, rule_of_place, rule_of_frame}
use Rattle.h2_conn.specs.Why.{rule_of_head, rule_of_octets, rule_of_call, rule_of_refusal}
use Rattle.h2_conn.specs.Why.{FailedFor, IsWhy}
use Rattle.h2_conn.specs.Why.{for_octets, for_memory, for_a_frame, for_a_call, still}
use Rattle.h2_conn.specs.declared.why.Why.TheVariants as whys
use Rattle.h2_conn.proofs.WhyCalls.{call_failed}
use Rattle.h2_conn.proofs.ReasonVerdicts.{Codes, coded_if, CodeSays, VerdictSays, ItemSays}
use Rattle.h2_conn.proofs.ReasonVerdicts.{verdict_says, item_same}

-- Frames.

calm_codes : (resets : ℕ) (frame : Frame) → Codes (rule_of_calm resets frame) EnhanceYourCalm
calm_codes resets (Settings ack pairs) = refl
calm_codes resets (Ping ack octets) = refl
calm_codes resets frame =
    coded_if (nat_le 1000 resets) whys.TooManyResets whys.TooMuchOutput EnhanceYourCalm refl refl

-- What is said of a frame where its fault has this code.
abbrev FrameSays : View → Frame → Code → Type 0
FrameSays view frame = ItemSays view (alone frame)

windows_codes : (view : View) (frame : Frame) → FrameSays view frame FlowControlError
    → Codes (rule_of_windows view frame) FlowControlError
windows_codes view (Data stream end octets pad) says =
    coded_if (exceeds (length (payload_of (Data stream end octets pad))) view.recv_window)
    whys.DataAboveConnectionWindow whys.DataAboveStreamWindow FlowControlError refl refl
windows_codes view (Settings ack pairs) says = says
windows_codes view frame says = refl

streams_codes : (view : View) (frame : Frame) → FrameSays view frame ProtocolError
    → Codes (rule_of_streams view frame) ProtocolError
streams_codes view (Headers stream end whole fragment pad priority) says =
    coded_if (is_idle (view.state stream)) whys.BlockOnIdleNumber whys.BlockOnClosedStream
    ProtocolError refl refl
streams_codes view (Continuation stream whole fragment) says =
    coded_if (is_idle (view.state stream)) whys.BlockOnIdleNumber whys.BlockOnClosedStream
    ProtocolError refl refl
streams_codes view (Settings ack pairs) says = says
streams_codes view (WindowUpdate stream increment) says =
    coded_if (stream == 0) whys.ZeroConnectionIncrement whys.FrameOnIdleStream ProtocolError refl refl
streams_codes view frame says = refl

by_code : (view : View) (frame : Frame) (code : Code) → CodeSays (FrameSays view frame) code
    → Codes (rule_by_code view frame code) code
by_code view frame CompressionError says = refl
by_code view frame StreamClosed says = refl
by_code view frame EnhanceYourCalm says = calm_codes view.resets frame
by_code view frame FlowControlError says = windows_codes view frame says
by_code view frame ProtocolError says = streams_codes view frame says
by_code view frame code says = absurd says

-- A frame that is out of its place fails with the code of its fault.
abbrev one_step : FrameStep → Code → Code
one_step (fails_with code) other = code
one_step _ other = other

grouped_goes : (begun : Option Begun) (frame : Frame) (code : Code)
    → grouped begun frame ≡ fails_with code → ⊥
unfolding grouped
grouped_goes None (Headers stream end true fragment pad priority) code is = cc
grouped_goes None (Headers stream end false fragment pad priority) code is = cc
grouped_goes (Some begun) (Continuation stream true fragment) code is = cc
grouped_goes (Some begun) (Continuation stream false fragment) code is = cc
grouped_goes begun frame code is = cc

place_codes : (fault : Option BlockFault) (view : View) (frame : Frame) (code : Code)
    → grouping_step view.begun frame fault ≡ fails_with code
    → Codes (rule_of_place fault view frame code) code
unfolding grouping_step
place_codes (Some faults.Interrupted) view frame code is =
    ap (λ (s : FrameStep). one_step s code) is
place_codes (Some faults.Stray) view frame code is = ap (λ (s : FrameStep). one_step s code) is
place_codes (Some faults.TooLong) view frame code is = ap (λ (s : FrameStep). one_step s code) is
place_codes (Some faults.Memory) view frame code is = ap (λ (s : FrameStep). one_step s code) is
place_codes None view frame code is = absurd (grouped_goes view.begun frame code is)

first_codes : (test : Bool) (step : FrameStep) (rule : Why) (code : Code)
    → (if test then fails_with ProtocolError else step) ≡ fails_with code
    → (step ≡ fails_with code → Codes rule code)
    → Codes (if test then whys.FirstFrameNotSettings else rule) code
first_codes true step rule code is other = ap (λ (s : FrameStep). one_step s code) is
first_codes false step rule code is other = other is

fault_codes : (view : View) (frame : Frame) (code : Code)
    → frame_step view frame ≡ fails_with code → Codes (rule_of_frame view frame code) code
unfolding frame_step rule_of_frame
fault_codes view frame code is =
    first_codes (not view.started && not (may_be_first frame)) _ _ code is
    (place_codes (next_fault view.begun frame) view frame code)

-- A frame that completes an item is in its place.
placed_codes : (fault : Option BlockFault) (view : View) (frame : Frame) (item : Item)
    (code : Code) → grouping_step view.begun frame fault ≡ completes item
    → CodeSays (FrameSays view frame) code
    → Codes (rule_of_place fault view frame code) code
unfolding grouping_step
placed_codes (Some fault) view frame item code is says = cc
placed_codes None view frame item code is says = by_code view frame code says

comes_codes : (test : Bool) (step : FrameStep) (rule : Why) (item : Item) (code : Code)
    → (if test then fails_with ProtocolError else step) ≡ completes item
    → (step ≡ completes item → Codes rule code)
    → Codes (if test then whys.FirstFrameNotSettings else rule) code
comes_codes true step rule item code is other = cc
comes_codes false step rule item code is other = other is

in_place : (view : View) (frame : Frame) (item : Item) (code : Code)
    → frame_step view frame ≡ completes item → CodeSays (FrameSays view frame) code
    → Codes (rule_of_frame view frame code) code
unfolding frame_step rule_of_frame
in_place view frame item code is says =
    comes_codes (not view.started && not (may_be_first frame)) _ _ item code is
    (λ comes. placed_codes (next_fault view.begun frame) view frame item code comes says)

-- What is said of a code, of a verdict, by what is said elsewhere.
code_as : (P Q : Code → Type 0) (code : Code) → ((of : Code) → P of → Q of) → CodeSays P code
    → CodeSays Q code
code_as P Q ProtocolError turn says = turn ProtocolError says
code_as P Q FlowControlError turn says = turn FlowControlError says
code_as P Q StreamClosed turn says = tt
code_as P Q CompressionError turn says = tt
code_as P Q EnhanceYourCalm turn says = tt
code_as P Q code turn says = absurd says

verdict_as : (P Q : Code → Type 0) (verdict : Verdict) → ((of : Code) → P of → Q of)
    → VerdictSays P verdict → VerdictSays Q verdict
verdict_as P Q (ConnectionFault code) turn says = code_as P Q code turn says
verdict_as P Q (StreamFault code) turn says = tt
verdict_as P Q NoEvent turn says = tt
verdict_as P Q Reported turn says = tt

-- SETTINGS complete no field block.
no_block : (test : Bool) (begun : Option Begun) (fault : Option BlockFault) (ack : Bool)
    (pairs : List (ℕ × ℕ)) (stream : ℕ) (end : Bool) (octets : List ℕ)
    → (if test then fails_with ProtocolError else grouping_step begun (Settings ack pairs) fault)
    ≡ completes (block stream end octets) → ⊥
unfolding grouping_step grouped
no_block true begun fault ack pairs stream end octets is = cc
no_block false begun (Some fault) ack pairs stream end octets is = cc
no_block false None None ack pairs stream end octets is = cc
no_block false (Some begun) None ack pairs stream end octets is = cc

block_frame : (view : View) (frame : Frame) (stream : ℕ) (end : Bool) (octets : List ℕ)
    (code : Code) → frame_step view frame ≡ completes (block stream end octets)
    → FrameSays view frame code
unfolding frame_step
block_frame view (Settings ack pairs) stream end octets code is =
    absurd (no_block (not view.started && not (may_be_first (Settings ack pairs))) view.begun
    (next_fault view.begun (Settings ack pairs)) ack pairs stream end octets is)
block_frame view frame stream end octets code is = tt

-- What is said of an item is said of the frame that completes it.
item_says : (view : View) (frame : Frame) (item : Item) (code : Code)
    → frame_step view frame ≡ completes item → ItemSays view item code
    → FrameSays view frame code
item_says view frame (alone lone) code is says =
    subst (λ (f : Frame). ItemSays view (alone f) code)
    (sym (completes_frame view frame lone is)) says
item_says view frame (block stream end octets) code is says =
    block_frame view frame stream end octets code is

-- A frame fails a log with the code of the rule that it breaks.
verdict_codes : (log before : Log) (decoded : Option Decoded) (frame : Frame) (item : Item)
    (verdict : Verdict) (code : Code) → before.failed ≡ None
    → frame_step (log_view log) frame ≡ completes item
    → VerdictSays (ItemSays (log_view log) item) verdict
    → (with_verdict before decoded item verdict).failed ≡ Some code
    → Codes (rule_of_frame (log_view log) frame code) code
unfolding with_verdict
verdict_codes log before decoded frame item (ConnectionFault fault) code up is says fails =
    let same : fault ≡ code = one_some fault code fails in
    in_place (log_view log) frame item code is
    (code_as (ItemSays (log_view log) item) (FrameSays (log_view log) frame) code
    (λ of. item_says (log_view log) frame item of is)
    (subst (λ (c : Code). CodeSays (ItemSays (log_view log) item) c) same says))
verdict_codes log before decoded frame item (StreamFault fault) code up is says fails =
    none_some code (sym (replied_failed before _ _ _ _ refl ∙ up) ∙ fails)
verdict_codes log before decoded frame item NoEvent code up is says fails =
    none_some code (sym (replied_failed before _ _ _ _ refl ∙ up) ∙ fails)
verdict_codes log before decoded frame item Reported code up is says fails =
    none_some code (sym (replied_failed before _ _ _ _ refl ∙ up) ∙ fails)

step_codes : (log before : Log) (decoded : Option Decoded) (frame : Frame) (step : FrameStep)
    (code : Code) → before.failed ≡ None → before.role ≡ log.role
    → ((initial : ℕ) → overflows before initial ≡ overflows log initial)
    → frame_step (log_view log) frame ≡ step
    → (with_step before decoded step).failed ≡ Some code
    → Codes (rule_of_frame (log_view log) frame code) code
unfolding with_step overflows
step_codes log before decoded frame (fails_with fault) code up role above is fails =
    let same : fault ≡ code = one_some fault code fails in
    fault_codes (log_view log) frame code
    (is ∙ ap (λ (c : Code). fails_with c) same)
step_codes log before decoded frame (begins_block begun) code up role above is fails =
    none_some code (sym up ∙ fails)
step_codes log before decoded frame (completes item) code up role above is fails =
    let outside : Log = record before { begun = None } in
    let verdict = verdict_of (log_view outside) decoded item in
    verdict_codes log outside decoded frame item verdict code up is
    (verdict_as (ItemSays (log_view outside) item) (ItemSays (log_view log) item) verdict
    (λ of. item_same (log_view outside) (log_view log) item of role above)
    (verdict_says (log_view outside) decoded item)) fails

-- What a frame makes of the block is the same once its octets were used.
step_used : (log : Log) (octets : List ℕ) (frame : Frame)
    → frame_step (log_view log) frame ≡ frame_step (log_view (used log octets [])) frame
unfolding frame_step used
step_used log octets frame = refl

frame_codes : (log : Log) (octets : List ℕ) (decoded : Option Decoded) (frame : Frame)
    (code : Code) → log.failed ≡ None
    → (took_frame log octets decoded frame).failed ≡ Some code
    → Codes (rule_of_frame (log_view log) frame code) code
unfolding with_frame used overflows
frame_codes log octets decoded frame code up fails =
    step_codes log (record (used log octets []) { frames = log.frames ++ frame ∷ [] }) decoded
    frame (frame_step (log_view (used log octets [])) frame) code up refl (λ initial. refl)
    (step_used log octets frame) fails

-- Octets. The one code of a fault of a payload is PROTOCOL_ERROR.
head_codes : (fault : HeadFault) → Codes (rule_of_head fault) (head_fault_code fault)
head_codes heads.TooLong = refl
head_codes heads.IsPushPromise = refl
head_codes heads.WrongStream = refl
head_codes heads.WrongLength = refl

padding_code : (test : Bool) (code : Code)
    → (if test then Some ProtocolError else None) ≡ Some code → ProtocolError ≡ code
padding_code true code is = one_some ProtocolError code is
padding_code false code is = cc

payload_code : (head : Head) (payload : List ℕ) (code : Code)
    → payload_fault head payload ≡ Some code → Codes whys.PaddingTooLong code
unfolding payload_fault
payload_code head payload code is =
    padding_code (pads_too_much head.kind head.flags payload) code is

octets_codes : (expects : Bool) (limits : Limits) (frames : List Frame) (octets : List ℕ)
    (fault : WireFault) → EndsWithFault expects limits frames octets fault
    → Codes (rule_of_octets fault) (wire_fault_code fault)
octets_codes expects limits frames octets wire.BadPreface made = refl
octets_codes expects limits frames octets (wire.HeadFault fault) made = head_codes fault
octets_codes expects limits frames octets (wire.PayloadFault code) made =
    payload_code (head_of made.last) (drop 9 made.last) code made.faulty
octets_codes expects limits frames octets wire.Memory made = absurd made

-- Calls: the codes with which refusing a stream fails the connection.
abbrev IsOfRefusals : Option Code → Type 0
IsOfRefusals None = Unit {0}
IsOfRefusals (Some InternalError) = Unit {0}
IsOfRefusals (Some EnhanceYourCalm) = Unit {0}
IsOfRefusals (Some _) = ⊥

refusals : (view : View) (code : ℕ) → IsOfRefusals (refuse_fault view code)
unfolding refuse_fault
refusals view code =
    cond_both (code == code_number InternalError) (Some InternalError) _ IsOfRefusals
    (λ asked. tt)
    (λ other. cond_both (has_all_resets view || nat_lt max_output (view.waiting + reset_size))
    (Some EnhanceYourCalm) None IsOfRefusals (λ over. tt) (λ within. tt))

refusal_codes : (resets : ℕ) (code : Code) → IsOfRefusals (Some code)
    → Codes (rule_of_refusal resets code) code
refusal_codes resets InternalError one = refl
refusal_codes resets EnhanceYourCalm one =
    coded_if (nat_le 1000 resets) whys.TooManyResets whys.TooMuchOutput EnhanceYourCalm refl refl
refusal_codes resets code one = absurd one

refused_codes : (log : Log) (id asked : ℕ) (answer : Answer) (fault : Option Code) (code : Code)
    (resets : ℕ) → log.failed ≡ None → IsOfRefusals fault
    → (refused_with log (Refuse id asked) answer fault).failed ≡ Some code
    → Codes (rule_of_refusal resets code) code
unfolding refused_with
refused_codes log id asked answer None code resets up one fails =
    none_some code (sym (items_failed log (Refuse id asked) answer ∙ up) ∙ fails)
refused_codes log id asked answer (Some fault) code resets up one fails =
    let same : fault ≡ code = one_some fault code fails in
    subst (λ (c : Code). Codes (rule_of_refusal resets c) c) same (refusal_codes resets fault one)

-- Memory was refused.
memory_codes : (resets : ℕ) (code : Code) → InternalError ≡ code
    → Codes (rule_of_refusal resets code) code
memory_codes resets code same =
    subst (λ (c : Code). Codes (rule_of_refusal resets c) c) same
    (refusal_codes resets InternalError tt)

call_codes : (log : Log) (act : Act) (answer : Answer) (code : Code) → log.failed ≡ None
    → (with_call log act answer).failed ≡ Some code
    → Codes (rule_of_call (log_view log) act code) code
unfolding with_call
call_codes log act (Refused refusal) code up fails = none_some code (sym up ∙ fails)
call_codes log (Fail asked) answer code up fails = refl
call_codes log act OutOfMemory code up fails =
    memory_codes (log_view log).resets code (one_some InternalError code fails)
call_codes log (Refuse id asked) answer code up fails =
    refused_codes log id asked answer (refuse_fault (log_view log) asked) code
    (log_view log).resets up (refusals (log_view log) asked) fails
call_codes log act answer code up fails =
    none_some code (sym (call_failed log act answer refl ∙ up) ∙ fails)

module _ (values : Values) where
  -- The code of what a connection failed for is that of its failure.
  failed_code : (role : Role) (log : Log) (why : Why) → FailedFor role values log why
      → log.failed ≡ Some (code_of_why why)
  unfolding used with_sent
  failed_code role _ _ (for_octets came takes octets fault met) =
      ap (λ (c : Code). Some c) (sym (octets_codes _ _ _ _ fault met.made))
  failed_code role _ _ (for_memory came up octets may) = refl
  failed_code role _ _ (for_a_frame {log} came takes octets frame decoded code read sees fails) =
      fails ∙ ap (λ (c : Code). Some c)
      (sym (frame_codes log octets decoded frame code takes.up fails))
  failed_code role _ _ (for_a_call {log} came up act answer code typed may fails) =
      fails ∙ ap (λ (c : Code). Some c) (sym (call_codes log act answer code up fails))
  failed_code role _ why (still {log} before act answer typed may same) =
      same ∙ failed_code role log why before

  pub why_code : (log : Log) (why : Option Why) → IsWhy values log why
      → option_map code_of_why why ≡ log.failed
  why_code log None is = sym is
  why_code log (Some why) is = sym (failed_code log.role log why is)
