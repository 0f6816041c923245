-- Logs that are the same but for their turns: what they read and are asked makes of them logs that
-- are the same but for these.
use Rattle.h2_laws_end.proofs.Names
use Names.{◌≡◌, ℕ, ◌≤◌, Bool, true, false, if◌then◌else◌, List, [], ◌++◌, length, Option, refl, sym}
use Names.{ap, ap₂, ◌∙◌, arith, append-nil, append_assoc, length-append, nat_tests, Code, Frame}
use Names.{Limits, Frames, Act, Answer, Log, acked, Decoded, limits_from, with_failure, took_none}
use Names.{with_call, without_turns, AreSameButTurns, nat_le, used, with_sent, with_frame}
use Names.{Keeps-frame, Keeps-call, Keeps-none}
use Rattle.std.proofs.lemmas.Bool.{le-leb}
use Rattle.std.proofs.Math.Path.{fun_ext}
use Rattle.h2_wire.proofs.LimitLemmas.{read_wider}
use Rattle.h2_spec_log.specs.Settings.{payload_limit}
use Rattle.h2_laws_end.proofs.BareLogs.{bare, AreSameBare, failure_same, frame_same, call_same}
use Rattle.h2_laws_end.proofs.BareLogs.{none_same}

-- To extend limits twice by the one that is in force now is to extend them once.
extended_twice : (within more : Bool) (before now : ℕ) → (within ≡ true → more ≡ true)
    → (if more then (if within then before else now) else now)
    ≡ (if within then before else now)
extended_twice true true before now reach = refl
extended_twice true false before now reach = let wrong = reach refl in cc
extended_twice false true before now reach = refl
extended_twice false false before now reach = refl

-- A log without its turns has the same limits.
pub limits_without : (log : Log) → limits_from (without_turns log) ≡ limits_from log
limits_without log =
    fun_ext (λ place. extended_twice (nat_le place (length log.input))
    (nat_le place (length log.input)) (log.limits place) (payload_limit (acked log) log.sent)
    (λ within. within))

-- A place among octets is one among these and more.
among_more : (place : ℕ) (input octets : List ℕ) → nat_le place (length input) ≡ true
    → nat_le place (length (input ++ octets)) ≡ true
among_more place input octets within = grind (arith, nat_tests, length-append input octets, within)

-- Octets that are used change no limits.
pub limits_used : (log : Log) (octets unparsed : List ℕ)
    → limits_from (used log octets unparsed) ≡ limits_from log
unfolding used
limits_used log octets unparsed =
    fun_ext (λ place. extended_twice (nat_le place (length log.input))
    (nat_le place (length (log.input ++ octets))) (log.limits place)
    (payload_limit (acked log) log.sent) (among_more place log.input octets))

-- Logs that are the same without limits and turns, and have the same limits, are the same but for
-- their turns.
alike_of : (log other : Log) → AreSameBare log other → limits_from log ≡ limits_from other
    → AreSameButTurns log other
alike_of log other same limits =
    ap₂ (λ (one : Log) (line : Limits). record one { limits = line }) same limits

-- A limit is the same where it was the same, and where the one that is in force now is.
either_limit : (b : Bool) (one other was before now next : ℕ)
    → (if b then one else was) ≡ (if b then other else before) → now ≡ next
    → (if b then one else now) ≡ (if b then other else next)
either_limit true one other was before now next same is = same
either_limit false one other was before now next same is = is

-- The second log has the octets of the first, and their limits.
record HasLimits (log next : Log) : Type 0 where
  limits : next.limits ≡ log.limits
  input : next.input ≡ log.input

-- At each place the limits after steps that change none are the same.
limit_after : (log other next after : Log) (place : ℕ) → AreSameButTurns log other
    → HasLimits log next → HasLimits other after → AreSameBare next after
    → limits_from next place ≡ limits_from after place
limit_after log other next after place same one two steps =
    let input : other.input ≡ log.input = ap (λ (it : Log). it.input) (sym same) in
    let before : limits_from log place ≡ limits_from other place = ap
    (λ (it : Log). it.limits place) same in
    let now : payload_limit (acked next) next.sent ≡ payload_limit (acked after) after.sent = ap
    (λ (it : Log). payload_limit (acked it) it.sent) steps in
    rw (one.limits, one.input, two.limits, two.input, input)
    (either_limit _ _ (other.limits place) _ _ _ _ (rw input at before) now)

-- Steps that change no limits keep logs the same but for their turns.
step_alike : (log other next after : Log) → AreSameButTurns log other → HasLimits log next
    → HasLimits other after → AreSameBare next after → AreSameButTurns next after
step_alike log other next after same one two steps =
    alike_of next after steps
    (fun_ext (λ place. limit_after log other next after place same one two steps))

-- Logs that are the same but for their turns are the same without limits and turns.
bare_of : (log other : Log) → AreSameButTurns log other → AreSameBare log other
bare_of log other same = ap (λ (one : Log). bare one) same

-- A log and the log without its turns are the same but for these.
pub alike_without : (log : Log) → AreSameButTurns log (without_turns log)
alike_without log = alike_of log (without_turns log) refl (sym (limits_without log))

-- The limits up to the last octet are those of a log.
limit_here : (log : Log) (place : ℕ) → place ≤ length log.input
    → log.limits place ≤ limits_from log place
limit_here log place within = rw (le-leb place (length log.input) within) (omega arith)

-- What a log has read is read with the limits from the next octet on as well.
pub read_here : (expects : Bool) (log : Log)
    → Frames expects log.limits log.input log.frames log.unparsed
    → Frames expects (limits_from log) log.input log.frames log.unparsed
read_here expects log read =
    read_wider _ _ _ _ _ log.unparsed (λ place within. limit_here log place within) read

-- A frame changes no limits.
frame_keeps : (log : Log) (decoded : Option Decoded) (frame : Frame)
    → HasLimits log (with_frame log decoded frame)
frame_keeps log decoded frame =
    let keeps = Keeps-frame log decoded frame in
    record { limits = keeps.limits; input = keeps.input }

-- Logs stay the same but for their turns after a frame.
pub frame_alike : (log other : Log) (decoded : Option Decoded) (frame : Frame)
    → AreSameButTurns log other
    → AreSameButTurns (with_frame log decoded frame) (with_frame other decoded frame)
frame_alike log other decoded frame same =
    step_alike log other _ _ same (frame_keeps log decoded frame) (frame_keeps other decoded frame)
    (frame_same log other decoded frame (bare_of log other same))

-- A failure changes none.
failure_keeps : (log : Log) (code : Code) (last : ℕ) → HasLimits log (with_failure code last log)
unfolding with_sent
failure_keeps log code last = record { limits = refl; input = refl }

-- So they do after a failure.
pub failure_alike : (log other : Log) (code : Code) (last final : ℕ) → last ≡ final
    → AreSameButTurns log other
    → AreSameButTurns (with_failure code last log) (with_failure code final other)
failure_alike log other code last final equal same =
    step_alike log other _ _ same (failure_keeps log code last) (failure_keeps other code final)
    (failure_same log other code last final equal (bare_of log other same))

-- A call changes none.
call_keeps : (log : Log) (act : Act) (answer : Answer) → HasLimits log (with_call log act answer)
call_keeps log act answer =
    let keeps = Keeps-call log act answer in
    record { limits = keeps.limits; input = keeps.input }

-- So they do after a call with its answer.
pub call_alike : (log other : Log) (act : Act) (answer : Answer) → AreSameButTurns log other
    → AreSameButTurns (with_call log act answer) (with_call other act answer)
call_alike log other act answer same =
    step_alike log other _ _ same (call_keeps log act answer) (call_keeps other act answer)
    (call_same log other act answer (bare_of log other same))

-- A stream that is reported as unprocessed changes none.
none_keeps : (log : Log) → HasLimits log (took_none log)
none_keeps log =
    let keeps = Keeps-none log in record { limits = keeps.limits; input = keeps.input }

-- So they do after a stream that was reported as unprocessed.
pub none_alike : (log other : Log) → AreSameButTurns log other
    → AreSameButTurns (took_none log) (took_none other)
none_alike log other same =
    step_alike log other _ _ same (none_keeps log) (none_keeps other)
    (none_same log other (bare_of log other same))

-- No octets change nothing but the turns.
pub used_none : (log : Log) (unparsed : List ℕ) → log.unparsed ≡ unparsed
    → AreSameButTurns log (used log [] unparsed)
unfolding used
used_none log unparsed same =
    alike_of log (used log [] unparsed)
    (ap₂ (λ (input line : List ℕ). bare (record log { input = input; unparsed = line }))
    (sym (append-nil log.input)) same) (sym (limits_used log [] unparsed))

-- To use octets and then others is to use both at once, but for the turns.
pub used_twice : (log : Log) (octets others unparsed left : List ℕ)
    → AreSameButTurns (used (used log octets unparsed) others left)
    (used log (octets ++ others) left)
unfolding used
used_twice log octets others unparsed left =
    alike_of (used (used log octets unparsed) others left) (used log (octets ++ others) left)
    (ap (λ (input : List ℕ). bare (record log { input = input; unparsed = left }))
    (append_assoc log.input octets others))
    (limits_used (used log octets unparsed) others left ∙ limits_used log octets unparsed
    ∙ sym (limits_used log (octets ++ others) left))

-- To use octets after a log without its turns is to use them after the log, but for the turns.
pub used_without : (log : Log) (octets unparsed : List ℕ)
    → AreSameButTurns (used (without_turns log) octets unparsed) (used log octets unparsed)
unfolding used
used_without log octets unparsed =
    alike_of (used (without_turns log) octets unparsed) (used log octets unparsed) refl
    (limits_used (without_turns log) octets unparsed ∙ limits_without log
    ∙ sym (limits_used log octets unparsed))
