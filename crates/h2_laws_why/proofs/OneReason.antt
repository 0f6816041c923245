-- A log has one reason of its failure: its last step but for calls that changed nothing of it is
-- the one that failed the connection, and what matters of that step and of the log before it is
-- said by the turns and the calls.
use Rattle.h2_laws_why.proofs.Names
use Names.{◌≡◌, ◌∙◌, ℕ, Bool, true, false, List, [], ◌∷◌, ◌++◌, Option, Some, None, refl, sym, ap}
use Names.{none_some, Code, InternalError, Frame, WireFault, wire_fault_code, Role, Values, Turn}
use Names.{In, Answered, Called, shown, Act, Answer, Log, View, log_view, IsLog, begins, took_some}
use Names.{took_one, met_fault, ran_out_of_memory, reported_one, called_one, TakesFault}
use Names.{last_processed, Keeps-call, took_frame, took_fault, call_calls, AreSameButTurns}
use Names.{holds_frame, SameCalls, calls_read, Decoded, Out, with_failure, ap₂, opened, used}
use Names.{with_sent, with_reported, with_call}
use Rattle.std.proofs.Common.{length, subst}
use Rattle.h2_wire.proofs.ReadingLemmas.{one_some}
use Rattle.h2_wire.specs.Streams.{WireFaultAt}
use Rattle.h2_spec_log.proofs.StreamLemmas.{Keeps-frame}
use Rattle.h2_spec_log.specs.LogSteps.{limits_from, took_out_of_memory}
use Rattle.h2_spec_log.specs.Settings.{is_server}
use Rattle.h2_laws_end.proofs.BareLogs.{bare, view_same}
use Rattle.h2_laws_end.proofs.NotInternal.{frame_up}
use Rattle.h2_laws_end.proofs.Runs.{no_longer, one_fault, one_last}
use Rattle.h2_conn.proofs.Reasons.{has_failed}
use Rattle.h2_conn.specs.Why.{FailedFor, for_a_call, for_a_frame, for_memory, for_octets, IsWhy}
use Rattle.h2_conn.specs.Why.{rule_of_call, rule_of_frame, rule_of_octets, still}
use Rattle.h2_conn.specs.declared.why.Why.{Why}
use Rattle.h2_laws_why.proofs.SaidLogs.{call_said, fault_not_internal, fault_said, frame_said}
use Rattle.h2_laws_why.proofs.SaidLogs.{said_failed, up_said, up_same}
use Rattle.h2_laws_why.proofs.TurnMarks.{call_top, failure_top, frame_top, under}

-- The logs have the same turns, calls and frames.
record AreAlike (log other : Log) : Type 0 where
  turns : log.turns ≡ other.turns
  calls : log.calls ≡ other.calls
  frames : log.frames ≡ other.frames

-- Then the second and the first have.
turned : (log other : Log) → AreAlike log other → AreAlike other log
turned log other alike =
    record { turns = sym alike.turns; calls = sym alike.calls; frames = sym alike.frames }

-- Whatever stands under output and events of one of two such logs does of the other.
same_tops : (log other : Log) (one two : List Turn) → AreAlike log other → under log.turns ≡ one
    → under other.turns ≡ two → one ≡ two
same_tops log other one two alike top down = sym top ∙ ap under alike.turns ∙ down

-- Logs that are the same but for their turns have one view.
one_view : (log other : Log) → AreSameButTurns log other → log_view log ≡ log_view other
one_view log other same = view_same log other (ap bare same)

-- The frames after a frame.
frames_on : (log : Log) (octets : List ℕ) (decoded : Option Decoded) (frame : Frame)
    → (took_frame log octets decoded frame).frames ≡ log.frames ++ frame ∷ []
unfolding used
frames_on log octets decoded frame = (Keeps-frame (used log octets []) decoded frame).frames

-- Two calls after which the logs are alike: they are one, and the logs before them are alike.
record CallsAlike (log other : Log) (act made : Act) : Type 0 where
  one_act : act ≡ made
  before : AreAlike log other

-- This is so whatever they answered.
calls_alike : (log other : Log) (act made : Act) (answer another : Answer)
    → AreAlike (with_call log act answer) (with_call other made another)
    → CallsAlike log other act made
calls_alike log other act made answer another alike =
    let tops : (Answered (shown answer) ∷ Called act ∷ log.turns)
    ≡ (Answered (shown another) ∷ Called made ∷ other.turns) =
    same_tops _ _ _ _ alike (call_top log act answer) (call_top other made another) in
    let calls : ((act, answer) ∷ log.calls) ≡ ((made, another) ∷ other.calls) =
    sym (call_calls log act answer) ∙ alike.calls ∙ call_calls other made another in
    let frames : log.frames ≡ other.frames =
    sym (Keeps-call log act answer).frames ∙ alike.frames
    ∙ (Keeps-call other made another).frames in
    record { one_act = cc; before = record { turns = cc; calls = cc; frames = frames } }

-- The first log, by these octets, has become the second, with what they made of it on top.
record IsAfterOctets (log : Log) (octets : List ℕ) (after : Log) : Type 0 where
  top : under after.turns ≡ In octets ∷ log.turns
  calls : after.calls ≡ log.calls

-- It has where they failed the connection,
after_failure : (log : Log) (octets : List ℕ) (code : Code) (last : ℕ)
    → IsAfterOctets log octets (with_failure code last (used log octets []))
unfolding used with_sent
after_failure log octets code last =
    record { top = failure_top log octets code last; calls = refl }

-- and where a frame ended with them.
after_frame : (log : Log) (octets : List ℕ) (decoded : Option Decoded) (frame : Frame)
    → IsAfterOctets log octets (took_frame log octets decoded frame)
unfolding used
after_frame log octets decoded frame = record {
  top = frame_top log octets decoded frame;
  calls = holds_frame SameCalls calls_read (used log octets []) decoded frame;
}

-- Octets after which the logs are alike are the same.
one_octets : (log other after next : Log) (octets others : List ℕ) → IsAfterOctets log octets after
    → IsAfterOctets other others next → AreAlike after next → octets ≡ others
one_octets log other after next octets others here there alike =
    let tops = same_tops after next _ _ alike here.top there.top in cc

-- Whether the last step was a call, or used octets.
abbrev is_by_call : List Turn → Bool
is_by_call (Answered answer ∷ turns) = true
is_by_call turns = false

abbrev is_by_octets : List Turn → Bool
is_by_octets (In octets ∷ turns) = true
is_by_octets turns = false

-- Whether output is on top.
abbrev is_output_first : List Turn → Bool
is_output_first (Out octets ∷ turns) = true
is_output_first turns = false

-- Logs with different last steps aren't alike.
differ : (p : List Turn → Bool) (log other : Log) → AreAlike log other
    → p (under log.turns) ≡ true → p (under other.turns) ≡ false → ⊥
differ p log other alike here there =
    let same = ap (λ (turns : List Turn). p (under turns)) alike.turns in
    let wrong : true ≡ false = sym here ∙ same ∙ there in cc

module _ (role : Role) (values : Values) where
  -- Before octets after which the logs are alike they were the same but for their turns.
  same_before : (log other after next : Log) (octets others : List ℕ) → IsLog role values log
      → IsLog role values other → log.failed ≡ None → other.failed ≡ None
      → IsAfterOctets log octets after → IsAfterOctets other others next → AreAlike after next
      → AreSameButTurns log other
  same_before log other after next octets others is also up going here there alike =
      let tops = same_tops after next _ _ alike here.top there.top in
      up_same role values log other is also up going (cc)
      (sym here.calls ∙ alike.calls ∙ there.calls)

  -- Where a frame ended with the octets of the second log alone, the logs aren't alike.
  no_more_frames : (log other after : Log) (octets others : List ℕ) (decoded : Option Decoded)
      (frame : Frame) → IsLog role values log → IsLog role values other → log.failed ≡ None
      → other.failed ≡ None → IsAfterOctets log octets after → after.frames ≡ log.frames
      → AreAlike after (took_frame other others decoded frame) → ⊥
  no_more_frames log other after octets others decoded frame is also up going here frames alike =
      let same = same_before log other after (took_frame other others decoded frame) octets others
      is also up going here (after_frame other others decoded frame) alike in
      no_longer other.frames frame (sym (ap (λ (one : Log). one.frames) same) ∙ sym frames
      ∙ alike.frames ∙ frames_on other others decoded frame)

  -- Where memory was refused, the log isn't alike to one of a connection that goes on.
  not_memory : (log other : Log) (octets : List ℕ) → IsLog role values log → log.failed ≡ None
      → IsLog role values other → other.failed ≡ None
      → AreAlike (took_out_of_memory log octets) other → ⊥
  unfolding used with_sent with_reported opened
  not_memory log _ octets is up (begins in_range) going alike =
      differ is_by_octets _ _ alike refl refl
  not_memory log _ octets is up (took_some also takes others unparsed part) going alike =
      let wrong : true ≡ false = ap is_output_first alike.turns in cc
  not_memory log _ octets is up (took_one {log = other} also takes others frame decoded ends sees)
      going alike =
      no_more_frames log other (took_out_of_memory log octets) octets others decoded frame is also
      up takes.up (after_failure log octets InternalError (last_processed log)) refl alike
  not_memory log _ octets is up (met_fault also takes others fault at) going alike =
      none_some (wire_fault_code fault) (sym going)
  not_memory log _ octets is up (ran_out_of_memory also was others may) going alike =
      none_some InternalError (sym going)
  not_memory log _ octets is up (reported_one also was some) going alike =
      differ is_by_octets _ _ alike refl refl
  not_memory log _ octets is up (called_one {log = other} also act answer typed may) going alike =
      differ is_by_octets _ _ alike refl (ap is_by_octets (call_top other act answer))

  -- Nor is the log of any connection that has failed.
  not_both : (log other : Log) (why : Why) → FailedFor role values log why
      → IsLog role values other → other.failed ≡ None → AreAlike log other → ⊥
  unfolding used with_sent with_reported opened
  not_both _ other _ (for_octets {log} is takes octets fault at) also going alike =
      said_failed role values (took_fault log octets fault) other (wire_fault_code fault)
      (fault_said role values log (up_said role values log is takes.up) takes octets fault at) also
      refl going alike.turns alike.calls
  not_both _ other _ (for_memory {log} is up octets may) also going alike =
      not_memory log other octets is up also going alike
  not_both _ other _ (for_a_frame {log} is takes octets frame decoded code ends sees fails) also
      going alike =
      said_failed role values (took_frame log octets decoded frame) other code
      (frame_said role values log (up_said role values log is takes.up) takes octets frame decoded
      ends sees) also fails going alike.turns alike.calls
  not_both _ other _ (for_a_call {log} is up act answer code typed may fails) also going alike =
      said_failed role values (with_call log act answer) other code
      (call_said role values log (up_said role values log is up) act answer typed may) also fails
      going alike.turns alike.calls
  not_both _ _ why (still {log} before act answer fits can same) (begins in_range) going alike =
      differ is_by_call _ _ alike (ap is_by_call (call_top log act answer)) refl
  not_both _ _ why (still {log} before act answer fits can same)
      (took_some also takes others unparsed part) going alike =
      differ is_by_call _ _ alike (ap is_by_call (call_top log act answer)) refl
  not_both _ _ why (still {log} before act answer fits can same)
      (took_one {log = other} also takes others frame decoded ends sees) going alike =
      differ is_by_call _ _ alike (ap is_by_call (call_top log act answer))
      (ap is_by_call (frame_top other others decoded frame))
  not_both _ _ why (still {log} before act answer fits can same)
      (met_fault also takes others fault at) going alike =
      none_some (wire_fault_code fault) (sym going)
  not_both _ _ why (still {log} before act answer fits can same)
      (ran_out_of_memory also was others may) going alike = none_some InternalError (sym going)
  not_both _ _ why (still {log} before act answer fits can same) (reported_one also was some)
      going alike =
      differ is_by_call _ _ alike (ap is_by_call (call_top log act answer)) refl
  not_both _ _ why (still {log} before act answer fits can same)
      (called_one {log = other} also made another typed may) going alike =
      not_both log other why before also ((Keeps-call other made another).up going)
      (calls_alike log other act made answer another alike).before

  -- A fault of octets after one of two such logs is one after the other.
  fault_moved : (log other : Log) (octets others : List ℕ) (fault : WireFault)
      → AreSameButTurns log other → octets ≡ others → TakesFault role other others fault
      → TakesFault role log octets fault
  fault_moved log other octets others fault same is at =
      subst (λ (one : Log). WireFaultAt (is_server role) one.limits (one.input ++ octets)
      one.frames (length (one.input ++ octets)) fault) (sym same)
      (subst (λ (line : List ℕ). TakesFault role other line fault) (sym is) at)

  -- The two reasons of faults of octets.
  one_of_octets : (log other : Log) (octets others : List ℕ) (fault another : WireFault)
      → IsLog role values log → IsLog role values other → log.failed ≡ None → other.failed ≡ None
      → TakesFault role log octets fault → TakesFault role other others another
      → AreAlike (took_fault log octets fault) (took_fault other others another)
      → rule_of_octets fault ≡ rule_of_octets another
  one_of_octets log other octets others fault another is also up going at again alike =
      let here = after_failure log octets (wire_fault_code fault) (last_processed log) in
      let there = after_failure other others (wire_fault_code another) (last_processed other) in
      let same = same_before log other _ _ octets others is also up going here there alike in
      ap rule_of_octets (one_fault role (limits_from log) (log.input ++ octets) log.frames fault
      another at (fault_moved log other octets others another same
      (one_octets log other _ _ octets others here there alike) again))

  -- The two reasons of frames.
  one_of_frames : (log other : Log) (octets others : List ℕ) (seen saw : Option Decoded)
      (frame another : Frame) (code next : Code) → IsLog role values log → IsLog role values other
      → log.failed ≡ None → other.failed ≡ None
      → AreAlike (took_frame log octets seen frame) (took_frame other others saw another)
      → code ≡ next
      → rule_of_frame (log_view log) frame code ≡ rule_of_frame (log_view other) another next
  one_of_frames log other octets others seen saw frame another code next is also up going
      alike codes =
      let same = same_before log other _ _ octets others is also up going
      (after_frame log octets seen frame) (after_frame other others saw another) alike in
      let frames : log.frames ++ frame ∷ [] ≡ log.frames ++ another ∷ [] =
      sym (frames_on log octets seen frame) ∙ alike.frames ∙ frames_on other others saw another
      ∙ ap (λ (line : List Frame). line ++ another ∷ [])
      (sym (ap (λ (one : Log). one.frames) same)) in
      ap (λ (view : View). rule_of_frame view frame code) (one_view log other same)
      ∙ ap₂ (λ (it : Frame) (c : Code). rule_of_frame (log_view other) it c)
      (one_last log.frames frame another frames) codes

  -- The two reasons of calls.
  one_of_calls : (log other : Log) (act made : Act) (answer another : Answer) (code next : Code)
      → IsLog role values log → IsLog role values other → log.failed ≡ None → other.failed ≡ None
      → AreAlike (with_call log act answer) (with_call other made another) → code ≡ next
      → rule_of_call (log_view log) act code ≡ rule_of_call (log_view other) made next
  one_of_calls log other act made answer another code next is also up going alike codes =
      let calls = calls_alike log other act made answer another alike in
      let same = up_same role values log other is also up going calls.before.turns
      calls.before.calls in
      ap (λ (view : View). rule_of_call view act code) (one_view log other same)
      ∙ ap₂ (λ (it : Act) (c : Code). rule_of_call (log_view other) it c) calls.one_act codes

  -- Whether a call came last.
  abbrev by_call : {log : Log} → {why : Why} → FailedFor role values log why → Bool
  by_call (for_octets is takes octets fault at) = false
  by_call (for_memory is up octets may) = false
  by_call (for_a_frame is takes octets frame decoded code ends sees fails) = false
  by_call (for_a_call is up act answer code typed may fails) = true
  by_call (still before act answer fits can same) = true

  -- The turns say it.
  by_call_is : (log : Log) (why : Why) (reason : FailedFor role values log why)
      → is_by_call (under log.turns) ≡ by_call reason
  by_call_is _ _ (for_octets {log} is takes octets fault at) =
      ap is_by_call (failure_top log octets (wire_fault_code fault) (last_processed log))
  by_call_is _ _ (for_memory {log} is up octets may) =
      ap is_by_call (failure_top log octets InternalError (last_processed log))
  by_call_is _ _ (for_a_frame {log} is takes octets frame decoded code ends sees fails) =
      ap is_by_call (frame_top log octets decoded frame)
  by_call_is _ _ (for_a_call {log} is up act answer code typed may fails) =
      ap is_by_call (call_top log act answer)
  by_call_is _ why (still {log} before act answer fits can same) =
      ap is_by_call (call_top log act answer)

  -- The codes of two logs that have failed with one.
  one_code_of : (failed failing : Option Code) (code next : Code) → failed ≡ failing
      → failed ≡ Some code → failing ≡ Some next → code ≡ next
  one_code_of failed failing code next same fails falls =
      one_some code next (sym fails ∙ same ∙ falls)

  -- Two alike logs with one failure have one reason.
  one_why_by : (log other : Log) (one another : Why) → FailedFor role values log one
      → FailedFor role values other another → AreAlike log other → log.failed ≡ other.failed
      → one ≡ another
  unfolding used with_sent
  one_why_by _ _ _ _ (for_octets {log} is takes octets fault at)
      (for_octets {log = other} also took others another again) alike failed =
      one_of_octets log other octets others fault another is also takes.up took.up at again alike
  one_why_by _ _ _ _ (for_octets {log} is takes octets fault at)
      (for_memory {log = other} also up others may) alike failed =
      absurd (fault_not_internal _ _ _ _ fault at.made
      (one_some (wire_fault_code fault) InternalError failed))
  one_why_by _ _ _ _ (for_octets {log} is takes octets fault at)
      (for_a_frame {log = other} also took others frame decoded code ends sees fails) alike
      failed =
      absurd (no_more_frames log other (took_fault log octets fault) octets others decoded frame is
      also takes.up took.up (after_failure log octets (wire_fault_code fault) (last_processed log))
      refl alike)
  one_why_by _ _ _ _ (for_memory {log} is up octets may)
      (for_octets {log = other} also took others fault at) alike failed =
      absurd (fault_not_internal _ _ _ _ fault at.made
      (one_some (wire_fault_code fault) InternalError (sym failed)))
  one_why_by _ _ _ _ (for_memory {log} is up octets may)
      (for_memory {log = other} also was others again) alike failed = refl
  one_why_by _ _ _ _ (for_memory {log} is up octets may)
      (for_a_frame {log = other} also took others frame decoded code ends sees fails) alike
      failed =
      absurd (frame_up other others decoded frame took.up (sym failed))
  one_why_by _ _ _ _ (for_a_frame {log} is takes octets frame decoded code ends sees fails)
      (for_octets {log = other} also took others fault at) alike failed =
      absurd (no_more_frames other log (took_fault other others fault) others octets decoded frame
      also is took.up takes.up
      (after_failure other others (wire_fault_code fault) (last_processed other)) refl
      (turned _ _ alike))
  one_why_by _ _ _ _ (for_a_frame {log} is takes octets frame decoded code ends sees fails)
      (for_memory {log = other} also was others may) alike failed =
      absurd (frame_up log octets decoded frame takes.up failed)
  one_why_by _ _ _ _ (for_a_frame {log} is takes octets frame seen code ends sees fails)
      (for_a_frame {log = other} also took others another saw next end see falls) alike failed =
      one_of_frames log other octets others seen saw frame another code next is also takes.up
      took.up alike (one_code_of _ _ code next failed fails falls)
  one_why_by _ _ _ _ (for_a_call {log} is up act answer code typed may fails)
      (for_a_call {log = other} also going made another next type might falls) alike failed =
      one_of_calls log other act made answer another code next is also up going alike
      (one_code_of _ _ code next failed fails falls)
  one_why_by _ _ _ why (for_a_call {log} is up act answer code typed may fails)
      (still {log = other} before made another fits can same) alike failed =
      absurd (not_both other log why before is up
      (calls_alike other log made act another answer (turned _ _ alike)).before)
  one_why_by _ _ why _ (still {log} before act answer fits can same)
      (for_a_call {log = other} also going made another code typed may fails) alike failed =
      absurd (not_both log other why before also going
      (calls_alike log other act made answer another alike).before)
  one_why_by _ _ why reason (still {log} before act answer fits can same)
      (still {log = other} earlier made another suits might again) alike failed =
      one_why_by log other why reason before earlier
      (calls_alike log other act made answer another alike).before (sym same ∙ failed ∙ again)
  one_why_by log other one another reason reasons alike failed =
      let wrong : by_call reason ≡ by_call reasons =
      sym (by_call_is log one reason)
      ∙ ap (λ (turns : List Turn). is_by_call (under turns)) alike.turns
      ∙ by_call_is other another reasons in cc

-- A log has one reason of its failure.
pub one_why : (role : Role) (values : Values) (log : Log) (one other : Why)
    → FailedFor role values log one → FailedFor role values log other → one ≡ other
one_why role values log one other reason reasons =
    one_why_by role values log log one other reason reasons
    (record { turns = refl; calls = refl; frames = refl }) refl

-- A log says one thing of why its connection has failed.
pub one_said : (values : Values) (log : Log) (one other : Option Why) → IsWhy values log one
    → IsWhy values log other → one ≡ other
one_said values log None None up going = refl
one_said values log None (Some why) up reason =
    absurd (has_failed values log.role log why reason up)
one_said values log (Some why) None reason up =
    absurd (has_failed values log.role log why reason up)
one_said values log (Some one) (Some other) reason reasons =
    ap (λ (why : Why). Some why) (one_why log.role values log one other reason reasons)
